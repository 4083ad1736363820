use Rattle.std.proofs.Common.{refl, arith, ◌∙◌}
use Rattle.std.specs.Prelude.{neg_ℤ}
use Rattle.std.proofs.lemmas.Int.{ints}
use Rattle.oth_search.specs.Ordering.Children.{IsChild}
use Rattle.oth_search.proofs.OrderingLemmas.KeyLemmas.{All-refill}
use Rattle.oth_search.proofs.BoundsLemmas.SquareSets.{Takes-same}
use Rattle.oth_search.proofs.BoundsLemmas.Replies.{legal-moves}
use Rattle.oth_search.proofs.BoundsLemmas.Enclosing.{IsScore-over}
use Rattle.oth_search.proofs.RootLemmas.RootSearch.{IsScore-negated, IsScore-one}
use Rattle.oth_search.proofs.root.guess.glance.+glance.Goals as goal

pub returns-then-passed-eq0-clause-score : goal.returns-then-passed-eq0-clause-score
returns-then-passed-eq0-clause-score g t c = IsScore-over c.args.scoring c.args.node.board _ (omega (arith, ints, c.final_score.ensures))

pub glance-score-requires : goal.glance-score-requires
glance-score-requires g t c = λ κs within. (
  omega (arith, c.decreases, c.below.ensures),
  (within, record { low = omega (arith, ints, c.requires.high); high = omega (arith, ints, c.requires.low) }),
)

pub loop-init : goal.loop-init
loop-init g t c = record {
  score = record { low = omega (arith, ints); high = omega (arith, ints) };
  fixed = refl;
  legal = legal-moves c.args.node.board c.args.node.moves c.args.node.legal;
  each = c.ranked_for_guess-ranked.ensures;
}

pub loop-preserved : goal.loop-preserved
loop-preserved g t c = record {
  score = IsScore-one _ (neg_ℤ c.glance-score.result) _ _ c.greater-best.result _ c.loop.invariant.score
      (IsScore-negated _ _ (omega (arith, ints)) c.glance-score.ensures.score)
      (omega (arith, ints)) (omega (arith, ints)) (omega (arith, ints)) c.greater-best.ensures.one;
  fixed = c.glance-score.ensures.fixed ∙ c.loop.invariant.fixed;
  legal = λ s h. c.loop.invariant.legal s ((Takes-same _ _ _ _ c.square.ensures c.next_child-child.ensures.member c.without-left.ensures.rest).kept s h);
  each = All-refill (IsChild c.args.node.board) _ _ _ c.loop.invariant.each c.next_child-child.ensures.children;
}
