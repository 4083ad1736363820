use Rattle.std.proofs.Common.{◌≡◌, ◌+◌, ◌++◌, ◌∷◌, ◌≤◌, [], ℕ, List, map, take, ap, ◌∙◌, sym, subst, arith}
use Rattle.std.proofs.lemmas.List.{take_more, take_all}
use Rattle.std.proofs.lemmas.List.Elements.{All-append}
use Rattle.std.specs.List.{All}
use Rattle.oth_pieces.specs.declared.reply.Reply.{Reply}
use Rattle.oth_pool.specs.declared.work.Duty.{Duty}
use Rattle.oth_pieces.specs.Dealing.{times}
use Rattle.oth_pool.specs.Working.{IsReplyOf, Holds, numbers_of, times_by}
use Rattle.oth_pool.proofs.Workings.{either_way, numbers_append, times_more}
use Rattle.oth_pool.proofs.work.collect_replies.Goals as goal

pub loop-duty-preserved : goal.loop-duty-preserved
loop-duty-preserved g c = λ items scoring each.
    let duties : List (Duty g.row.C.Denot g.row.G.Denot) = c.args.duties.now in
    let i : ℕ = c.loop-duty.duty-index in
    let j : Duty g.row.C.Denot g.row.G.Denot = c.duty-item.result in
    let H : Duty g.row.C.Denot g.row.G.Denot → Type 0 = λ k. Holds items scoring k.work in
    let holds : H j = subst H (sym c.duty-item.is) (each i j c.loop-duty-test.true) in
    let was = c.loop-duty.invariant items scoring each in
    let old : List Reply = c.loop-duty.replies.items in
    let more : List Reply = c.as_slice.result.now in
    let A : List Reply → Type 0 = All (IsReplyOf items scoring) in
    let their : A more = subst A (sym c.as_slice.ensures.value) holds.replies in
    let longer : take (i + 1) duties ≡ take i duties ++ j ∷ [] = take_more duties i j c.loop-duty-test.true ∙ ap (λ q. take i duties ++ q ∷ []) (sym c.duty-item.is) in (
      either_way A _ _ old more c.extend_from_slice.ensures.items was.0 (All-append (IsReplyOf items scoring) old more was.0 their),
      λ x.
          let o = holds.once x in
          let v = ap (λ l. times x (numbers_of l)) c.as_slice.ensures.value in
          let b = was.1 x in
          let e = ap (λ (l : List (Duty g.row.C.Denot g.row.G.Denot)). times_by x (map (λ (k : Duty g.row.C.Denot g.row.G.Denot). k.work) l)) longer ∙ times_more x (take i duties) j in
          let a = numbers_append x old more in
          let most : ℕ = times_by x (map (λ (k : Duty g.row.C.Denot g.row.G.Denot). k.work) (take (i + 1) duties)) in
          either_way (λ l. times x (numbers_of l) ≤ most) _ _ old more c.extend_from_slice.ensures.items (omega arith) (omega arith),
    )

pub returns-clause-replies : goal.returns-clause-replies
returns-clause-replies g c = λ items scoring each. (c.loop-duty.invariant items scoring each).0

pub returns-clause-once : goal.returns-clause-once
returns-clause-once g c = λ items scoring each x.
    let b = (c.loop-duty.invariant items scoring each).1 x in
    let J : Type 0 = Duty g.row.C.Denot g.row.G.Denot in
    let whole = ap (λ (l : List J). times_by x (map (λ (k : J). k.work) l)) (take_all c.loop-duty.duty-index c.args.duties.now c.loop-duty-test.false) in
    omega arith
