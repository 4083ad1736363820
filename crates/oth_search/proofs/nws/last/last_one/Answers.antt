use Rattle.std.proofs.Common.{◌≡◌, ◌+◌, ◌/◌, ◌%◌, ◌≤◌, ◌∙◌, ap, refl, [], ◌∷◌, inl, inr, arith}
use Rattle.std.specs.Prelude.{count_ones, pos, neg_ℤ, ◌+ℤ◌, ◌≤ℤ◌}
use Rattle.std.proofs.lemmas.Bool.{cases_eq}
use Rattle.std.proofs.lemmas.Int.{ints}
use Rattle.oth_rules.specs.Position.{pass, mine_count}
use Rattle.oth_rules.proofs.Scores.{own_count}
use Rattle.oth_search.proofs.NwsLemmas.Lasts as l
use Rattle.oth_search.proofs.NwsLemmas.LastBounds.{discs_fit, other_fits, mover_score, other_score, legal_where, illegal_where}
use Rattle.oth_search.proofs.nws.last.last_one.Goals as goal
use Rattle.oth_search.proofs.nws.last.last_one.Goals.{After-last_gain}

pub returns-then-flips-eq0 : goal.returns-then-flips-eq0
returns-then-flips-eq0 c =
    let p = c.args.board in
    let v = l.IsScore-score c.args.scoring p in let e = c.final_score.ensures in
    l.value-one_over c.args.scoring p (pass p) c.args.a _ c.requires
    (illegal_where p c.args.a (c.last_flips-flips.ensures.none.0 (omega (arith, c.if-flips-eq0.true)))) refl
    (illegal_where (pass p) c.args.a (c.last_flips-flips.ensures.none_of_other.0 (omega (arith, c.if-flips-eq0.true)))) (omega (arith, ints, e, v.low, v.high))

discs : (c : After-last_gain) → count_ones c.own.result ≡ mine_count c.args.board
discs c = ap count_ones c.own.ensures.value ∙ own_count c.args.board c.own.ensures.board

mover_fits : (c : After-last_gain) → mine_count c.args.board + c.last_flips-flips.result % 256 ≤ 63
mover_fits c = discs_fit c.args.board c.args.a (c.last_flips-flips.result % 256) c.requires c.last_flips-flips.ensures.mover

passed_fits : (c : After-last_gain) → c.last_flips-flips.result / 256 ≤ mine_count c.args.board
passed_fits c = other_fits c.args.board c.args.a (c.last_flips-flips.result / 256) c.requires c.last_flips-flips.ensures.other

half : (c : After-last_gain) → ((pos (count_ones c.own.result) +ℤ c.last_gain.result) ≤ℤ pos 32) × ((neg_ℤ (pos 32)) ≤ℤ (pos (count_ones c.own.result) +ℤ c.last_gain.result))
half c = elim (cases_eq (c.last_flips-flips.result % 256) 0) [
  | inl none ↦ let e = c.last_gain.ensures.other none in
      (omega (arith, ints, e, discs c, mover_fits c, passed_fits c), omega (arith, ints, e, discs c, mover_fits c, passed_fits c))
  | inr some ↦ let e = c.last_gain.ensures.mover some in
      (omega (arith, ints, e, discs c, mover_fits c), omega (arith, ints, e, discs c, mover_fits c))
]

pub overflow_cast-result : goal.overflow_cast-result
overflow_cast-result c = let h = half c in omega (arith, ints, discs c, mover_fits c, h.0, h.1)

pub returns : goal.returns
returns c =
    let p = c.args.board in
    let flips = c.last_flips-flips in
    let h = half c in
    elim (cases_eq (flips.result % 256) 0) [
      | inl none ↦ let e = c.last_gain.ensures.other none in
          other_score c.args.scoring p c.args.a (flips.result / 256) _ c.requires flips.ensures.other (illegal_where p c.args.a (flips.ensures.none.0 none))
          (legal_where (pass p) c.args.a (flips.result / 256) (l.Leaves-pass p (pass p) (c.args.a ∷ []) c.requires refl) flips.ensures.none_of_other.1
          (λ z. c.if-flips-eq0.false (omega (arith, z, none))))
          (omega (arith, ints, e, discs c, mover_fits c, h.0, h.1))
      | inr some ↦ let e = c.last_gain.ensures.mover some in
          mover_score c.args.scoring p c.args.a (flips.result % 256) _ c.requires flips.ensures.mover
          (legal_where p c.args.a (flips.result % 256) c.requires flips.ensures.none.1 some)
          (omega (arith, ints, e, discs c, mover_fits c, h.0, h.1))
    ]
