use Rattle.std.proofs.Common.{◌≡◌, ◌+◌, ◌++◌, ◌∷◌, ◌≤◌, [], ℕ, List, Some, take, ap, ◌∙◌, sym, subst, arith}
use Rattle.std.specs.Prelude.{option_map, slice_get}
use Rattle.std.proofs.lemmas.List.{take_more, take_all}
use Rattle.std.proofs.lemmas.List.Elements.{All-push}
use Rattle.std.specs.List.{All}
use Rattle.oth_pieces.specs.declared.reply.Reply.{Reply}
use Rattle.oth_pieces.specs.Frontier.{board_of}
use Rattle.oth_pieces.specs.Dealing.{times}
use Rattle.oth_pool.specs.Working.{IsReplyOf, numbers_of}
use Rattle.oth_pool.proofs.Workings.{either_way, numbers_append}
use Rattle.oth_pool.proofs.work.told_by_all.Goals as goal

pub loop-reply-preserved : goal.loop-reply-preserved
loop-reply-preserved g c =
    let replies : List Reply = c.args.replies.now in
    let i : ℕ = c.loop-reply.reply-index in
    let r : Reply = c.reply-item.result in
    let n : Reply = c.told_of.result in
    let old : List Reply = c.loop-reply.told.items in
    let longer : take (i + 1) replies ≡ take i replies ++ r ∷ [] = take_more replies i r c.loop-reply-test.true ∙ ap (λ q. take i replies ++ q ∷ []) (sym c.reply-item.is) in (
      (λ items scoring each.
          let P : Reply → Type 0 = IsReplyOf items scoring in
          let right : P r = subst P (sym c.reply-item.is) (each i r c.loop-reply-test.true) in
          let also : P n = record {
            board = ap (λ k. option_map board_of (slice_get items k)) c.told_of.ensures.number ∙ (right.board ∙ ap Some (sym c.told_of.ensures.board));
            by = c.told_of.ensures.scoring ∙ right.by;
          } in
          let was = c.loop-reply.invariant.0 items scoring each in
          either_way (All P) _ _ old (n ∷ []) c.push.ensures.items was (All-push P old n was also)),
      (λ x.
          let b = c.loop-reply.invariant.1 x in
          let e = ap (λ l. times x (numbers_of l)) longer ∙ numbers_append x (take i replies) (r ∷ []) in
          let a = numbers_append x old (n ∷ []) in
          let s : times x (numbers_of (n ∷ [])) ≡ times x (numbers_of (r ∷ [])) = ap (λ k. times x (k ∷ [])) c.told_of.ensures.number in
          let most : ℕ = times x (numbers_of (take (i + 1) replies)) in
          either_way (λ l. times x (numbers_of l) ≤ most) _ _ old (n ∷ []) c.push.ensures.items (omega arith) (omega arith)),
    )

pub returns-clause-once : goal.returns-clause-once
returns-clause-once g c = λ x.
    let b = c.loop-reply.invariant.1 x in
    let whole = ap (λ l. times x (numbers_of l)) (take_all c.loop-reply.reply-index c.args.replies.now c.loop-reply-test.false) in
    omega arith
