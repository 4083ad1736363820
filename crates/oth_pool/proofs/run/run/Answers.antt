use Rattle.std.proofs.Common.{◌≡◌, ◌≤◌, ◌∙◌, ℕ, List, Option, map, ap, subst, sym, arith}
use Rattle.std.specs.List.{All}
use Rattle.oth_rules.specs.declared.scoring.Scoring.{Scoring}
use Rattle.oth_search.specs.declared.local.table.WithLocal.{WithLocal}
use Rattle.oth_table.specs.Parts.{Use}
use Rattle.oth_pool.specs.declared.work.Duty.{Duty}
use Rattle.oth_pool.specs.declared.run.Gathered.{Gathered}
use Rattle.oth_pieces.specs.declared.frontier.item.Item.{Item}
use Rattle.oth_pieces.specs.declared.reply.Reply.{Reply}
use Rattle.oth_pieces.specs.Hands.{count_of}
use Rattle.oth_pieces.specs.Dealing.{times}
use Rattle.oth_pool.specs.Working.{Holds, IsReplyOf, numbers_of, times_by}
use Rattle.oth_pool.proofs.Workings.{gathered, twice}
use Rattle.oth_pool.proofs.run.run.Goals as goal

pub returns-clause-gathered : goal.returns-clause-gathered
returns-clause-gathered g c =
    let J : Type 0 = Duty (WithLocal (Option Use)) g.row.G.Denot in
    let items : List Item = c.args.search.now.frontier.now in
    let scoring : Scoring = c.args.search.now.scoring in
    let duties : List J = c.run_duties-duties.result.items in
    let all : Gathered = record { drawn = c.close-drawn-2.result; replies = c.told_by_all-replies.result } in
    let H : List J → Type 0 = All (λ (j : J). Holds items scoring j.work) in
    let each : H c.as_slice-2.result.now = subst H (sym c.as_slice-2.ensures.value) c.run_duties-duties.ensures.each in
    let P : List J → Type 0 = λ js. (x : ℕ) → times x (numbers_of c.collect_replies-replies.result.items) ≤ times_by x (map (λ (j : J). j.work) js) in
    let once = subst P c.as_slice-2.ensures.value (c.collect_replies-replies.ensures.once items scoring each) in
    let A : List Reply → Type 0 = All (IsReplyOf items scoring) in
    let right : A c.as_slice-4.result.now = subst A (sym c.as_slice-4.ensures.value) (c.collect_replies-replies.ensures.replies items scoring each) in
    gathered items scoring (count_of c.in-Ok.tasks) (map (λ (j : J). j.work) duties) c.hands_in-hands.result.items all
    c.in-Ok.ensures.count c.close-drawn-2.ensures.once c.close-drawn-2.ensures.lists (c.hands_in-hands.ensures ∙ twice duties)
    (c.told_by_all-replies.ensures.replies items scoring right)
    (λ x.
    let a = once x in
    let b = c.told_by_all-replies.ensures.once x in
    let e = ap (λ l. times x (numbers_of l)) c.as_slice-4.ensures.value in
    omega arith)
