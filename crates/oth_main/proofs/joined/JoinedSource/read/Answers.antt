use Rattle.std.proofs.Common.{◌≡◌, ◌∙◌, arith, refl, sym}
use Rattle.oth_main.proofs.JoinedLemmas.{ends, ends_line, fails, gives, goes_on, stops}
use Rattle.oth_main.proofs.joined.JoinedSource.read.Goals.{else-loop-test, then-loop-test+in_default}
use Rattle.oth_main.proofs.joined.JoinedSource.read.Goals as goal

pub returns-then-count-gt0-clause-bytes : goal.returns-then-count-gt0-clause-bytes
returns-then-count-gt0-clause-bytes g c = (
  gives g.R.Source.remaining _ _ _ _ _ _ _ c.loop.invariant.given c.in-Ok.ensures.bytes.0 c.if-count-gt0.true c.in-Ok.ensures.bound.0,
  λ none. absurd (let some = c.if-count-gt0.true in omega arith),
)

pub returns-then-not-go_on-clause-bytes : goal.returns-then-not-go_on-clause-bytes
returns-then-not-go_on-clause-bytes g c =
    let none : c.in-Ok.count ≡ 0 = omega (arith, c.if-count-gt0.false) in
    let last = c.if-not-go_on.ensures.last refl in
    let end = c.in-Ok.ensures.bytes.1 none (omega (arith, c.read.auto.buffer, c.loop.invariant.room)) in
    let done = ends g.R.Source.remaining _ _ _ _ _ _ _ _ _ _ last.0 last.1 c.loop.invariant.given c.in-Ok.ensures.bytes.0 none end last.2 in
    (done.0, λ _ _. done.1)

pub returns-then-self-clause-bytes : goal.returns-then-self-clause-bytes
returns-then-self-clause-bytes g c =
    let none : c.in-Ok.count ≡ 0 = omega (arith, c.if-count-gt0.false) in
    let end = c.in-Ok.ensures.bytes.1 none (omega (arith, c.read.auto.buffer, c.loop.invariant.room)) in (
      ends_line g.R.Source.remaining _ _ _ _ _ _ _ _ _ (c.if-not-go_on.ensures.next refl) c.loop.invariant.given c.in-Ok.ensures.bytes.0 none end (sym c.go_on.ensures.begun ∙ c.if-self.true)
          (omega (arith, c.read.auto.buffer, c.loop.invariant.room)),
      λ (one : 1 ≡ 0). absurd (omega arith),
    )

pub loop-preserved : goal.loop-preserved
loop-preserved g c =
    let none : c.in-Ok.count ≡ 0 = omega (arith, c.if-count-gt0.false) in
    let end = c.in-Ok.ensures.bytes.1 none (omega (arith, c.read.auto.buffer, c.loop.invariant.room)) in
    record {
      given = goes_on g.R.Source.remaining _ _ _ _ _ _ _ _ _ _ (c.if-not-go_on.ensures.next refl) c.loop.invariant.given c.in-Ok.ensures.bytes.0 none end c.go_on.ensures.begun c.if-self.false;
      works = c.go_on.ensures.works ∙ c.loop.invariant.works;
      room = omega (arith, c.read.auto.buffer, c.loop.invariant.room);
    }

pub returns-clause-bytes : goal.returns-clause-bytes
returns-clause-bytes g c = elim c.loop-test.branch [
  | else-loop-test w ↦ rw w.self-is (stops g.R.Source.remaining _ _ c.loop.invariant.given)
  | then-loop-test+in_default w ↦ rw w.self-is (fails g.R.Source.remaining _ _ _ _ _ c.loop.invariant.given w.in_default.ensures.bytes)
]
