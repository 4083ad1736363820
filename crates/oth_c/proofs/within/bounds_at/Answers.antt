use Rattle.std.proofs.Common.{◌≡◌, ◌≢◌, ◌∙◌, All, inl, inr, refl, sym, subst, take_all, rules}
use Rattle.std.proofs.lemmas.List.Elements.{All-more}
use Rattle.oth_search.specs.declared.root.moves.RootMove.{RootMove}
use Rattle.oth_c.proofs.within.bounds_at.Goals as goal

pub returns-then-from-number : goal.returns-then-from-number
returns-then-from-number c =
    let m = c.root_move-item.result in
    let square : m.square ≡ c.args.number = search rules in
    record {
      told = inl (record {
        move = m;
        listed = (c.loop-root_move.root_move-index, c.loop-root_move-test.true, sym c.root_move-item.is);
        square = square;
        least = c.of.ensures.lower ∙ c.turned.ensures.lower;
        most = c.of.ensures.upper ∙ c.turned.ensures.upper;
      });
    }

pub loop-root_move-preserved : goal.loop-root_move-preserved
loop-root_move-preserved c =
    let m = c.root_move-item.result in
    let other : m.square ≢ c.args.number = search rules in
    All-more (λ x. x.square ≢ c.args.number) c.args.moves.now c.loop-root_move.root_move-index m c.loop-root_move-test.true c.loop-root_move.invariant
    (subst (λ (x : RootMove). x.square ≢ c.args.number) c.root_move-item.is other)

pub returns : goal.returns
returns c = record {
  told = inr (record {
    others = subst (All (λ m. m.square ≢ c.args.number)) (take_all c.loop-root_move.root_move-index c.args.moves.now c.loop-root_move-test.false) c.loop-root_move.invariant;
    least = refl;
    most = refl;
  });
}
