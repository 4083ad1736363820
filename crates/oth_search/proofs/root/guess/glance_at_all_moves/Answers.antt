use Rattle.std.proofs.Common.{refl, sym, arith, subst, ◌∙◌}
use Rattle.std.specs.Prelude.{neg_ℤ}
use Rattle.std.proofs.lemmas.Int.{ints}
use Rattle.std.specs.List.{All}
use Rattle.oth_search.specs.Bounds.Squares.{Without}
use Rattle.oth_search.specs.Ordering.Children.{IsChild}
use Rattle.oth_search.proofs.OrderingLemmas.KeyLemmas.{All-refill}
use Rattle.oth_search.proofs.BoundsLemmas.SquareSets.{Takes-same, still-among}
use Rattle.oth_search.proofs.BoundsLemmas.Replies.{legal-moves}
use Rattle.oth_search.proofs.RootLemmas.RootSearch.{IsScore-negated, IsScore-one}
use Rattle.oth_search.proofs.root.guess.glance_at_all_moves.Goals as goal

pub loop-turn-init : goal.loop-turn-init
loop-turn-init g c = record {
  score = record { low = omega (arith, ints); high = omega (arith, ints) };
  fixed = refl;
  legal = legal-moves c.args.node.board c.args.node.moves c.args.node.legal;
  each = c.ranked_for_guess-ranked.ensures;
}

pub loop-rest-init : goal.loop-rest-init
loop-rest-init g c =
    let P = IsChild c.args.node.board in
    let before = c.loop-turn.invariant in
    record {
      score = before.score;
      fixed = before.fixed;
      legal = before.legal;
      each = All-refill P _ _ _ before.each (c.try_again.ensures c.args.node.board (subst (All P) (sym c.as_mut_slice.ensures.value) before.each));
      among = λ s h. h;
    }

pub loop-rest-preserved-then-is_deferred : goal.loop-rest-preserved-then-is_deferred
loop-rest-preserved-then-is_deferred g c =
    let before = c.loop-rest.invariant in
    record {
      score = before.score;
      fixed = before.fixed;
      legal = before.legal;
      each = All-refill (IsChild c.args.node.board) _ _ _ before.each c.next_child-child.ensures.children;
      among = λ s h. before.among s ((Takes-same _ _ _ _ c.square.ensures c.next_child-child.ensures.member c.without-rest.ensures.rest).kept s h);
    }

pub loop-rest-preserved : goal.loop-rest-preserved
loop-rest-preserved g c =
    let before = c.loop-rest.invariant in
    let member = c.next_child-child.ensures.member in
    record {
      score = IsScore-one _ (neg_ℤ c.glance_after_reply-reply.result) _ _ c.greater-best.result _ before.score
          (IsScore-negated _ _ (omega (arith, ints)) c.glance_after_reply-reply.ensures.score)
          (omega (arith, ints)) (omega (arith, ints)) (omega (arith, ints)) c.greater-best.ensures.one;
      fixed = c.glance_after_reply-reply.ensures.fixed ∙ before.fixed;
      legal = λ s h. before.legal s ((Takes-same _ _ _ _ c.square-in-loop-rest.ensures (before.among _ member) c.without-left.ensures.rest).kept s h);
      each = All-refill (IsChild c.args.node.board) _ _ _ before.each c.next_child-child.ensures.children;
      among = still-among _ _ _ _ _ before.among member (subst (λ s. Without c.loop-rest.left s c.without-left.result) c.square-in-loop-rest.ensures c.without-left.ensures.rest)
          (subst (λ s. Without c.loop-rest.rest s c.without-rest.result) c.square.ensures c.without-rest.ensures.rest);
    }
