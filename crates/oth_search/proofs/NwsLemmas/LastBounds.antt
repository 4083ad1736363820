-- One empty square: what a move to it comes to.
use Rattle.std.proofs.Common.{◌≡◌, ℕ, ◌+◌, ◌≤◌, false, refl, sym, ◌∙◌, arith, [], ◌∷◌, inl, inr, ⊎_elim}
use Rattle.std.specs.Prelude.{ℤ, pos, neg_ℤ, ◌+ℤ◌, ◌-ℤ◌, count_by}
use Rattle.std.proofs.lemmas.Int.{ints}
use Rattle.std.proofs.lemmas.Bool.{cases_Bool, cases_order, false≢true}
use Rattle.oth_rules.specs.declared.scoring.Scoring.{Scoring}
use Rattle.oth_rules.specs.declared.scoring.Scoring.TheVariants.{Winner, Discs}
use Rattle.oth_rules.specs.Position.{Position, mine_count, theirs_count, empty_count, pass}
use Rattle.oth_rules.specs.Move.{after, is_flipped, is_legal}
use Rattle.oth_rules.specs.Laws.{IsLegal}
use Rattle.oth_rules.specs.LastMove.{IsLast}
use Rattle.oth_rules.specs.Value.{value}
use Rattle.oth_rules.specs.Score.{disc_difference, winner_score, score_of}
use Rattle.oth_rules.specs.Square.{squares}
use Rattle.oth_rules.proofs.Counts.{counts}
use Rattle.oth_rules.proofs.LastMoves.{discs_after, last_discs}
use Rattle.oth_rules.proofs.Scores.{won, lost, drawn}
use Rattle.oth_search.specs.Nws.Lasts.{Leaves}
use Rattle.oth_search.proofs.NwsLemmas.Lasts.{no_empties, Leaves-after, Leaves-pass, value-one, value-one_passed}

-- the score of a full board

full_winner : (p : Position) → mine_count p + theirs_count p ≡ 64 → winner_score p ≡ (pos (mine_count p) -ℤ pos (theirs_count p))
full_winner p full =
    let m = mine_count p in
    let t = theirs_count p in
    elim (cases_order m t) [
      | inl same ↦ let s = drawn p m t refl refl same in omega (arith, ints, full, same, s)
      | inr o ↦ elim o [
        | inl less ↦ let s = lost p m t refl refl less in omega (arith, ints, full, s)
        | inr more ↦ let s = won p m t refl refl more in omega (arith, ints, full, s)
      ]
    ]

difference : (p : Position) → disc_difference p ≡ pos (mine_count p) -ℤ pos (theirs_count p)
unfolding disc_difference
difference p = refl

-- ---- what a move to the only empty square comes to

pub discs_fit : (p : Position) (a n : ℕ) → Leaves p (a ∷ []) → n ≡ count_by (is_flipped p a) squares → mine_count p + n ≤ 63
discs_fit p a n l e = omega (arith, e, discs_after p a l.each.0 l.each.1, counts (after p a))

full_score : (g : Scoring) (p : Position) → mine_count p + theirs_count p ≡ 64 → score_of g p ≡ (pos (mine_count p) -ℤ pos (theirs_count p))
unfolding score_of
full_score Winner p full = full_winner p full
full_score Discs p full = difference p

pub score_after : (g : Scoring) (p : Position) (a n : ℕ) (r : ℤ) → Leaves p (a ∷ []) → n ≡ count_by (is_flipped p a) squares
    → r ≡ (pos (mine_count p) +ℤ pos n -ℤ pos 31) +ℤ (pos (mine_count p) +ℤ pos n -ℤ pos 31) → r ≡ neg_ℤ (score_of g (after p a))
score_after g p a n r l e h =
    let z : Position = after p a in
    let empty_z : empty_count z ≡ 0 = no_empties z (Leaves-after p z a [] l refl) in
    let full : mine_count z + theirs_count z ≡ 64 = omega (arith, counts z, empty_z) in
    omega (arith, ints, e, h, full, discs_after p a l.each.0 l.each.1, full_score g z full)

-- ---- the last move of either side

pub is_last : (p : Position) (a : ℕ) → Leaves p (a ∷ []) → IsLast p a
is_last p a l = record { on_board = l.each.0; empty = l.each.1; only = λ t k e. ⊎_elim (λ h. h) (λ h. absurd h) (l.only t k e) }

-- whoever moves has fewer than 64 discs then
pub other_fits : (p : Position) (a n : ℕ) → Leaves p (a ∷ []) → n ≡ count_by (is_flipped (pass p) a) squares → n ≤ mine_count p
other_fits p a n l e = omega (arith, last_discs p a (is_last p a l), discs_fit (pass p) a n (Leaves-pass p (pass p) (a ∷ []) l refl) e)

pub mover_score : (g : Scoring) (p : Position) (a n : ℕ) (r : ℤ) → Leaves p (a ∷ []) → n ≡ count_by (is_flipped p a) squares → IsLegal p a
    → r ≡ (pos (mine_count p) +ℤ (pos n -ℤ pos 31)) +ℤ (pos (mine_count p) +ℤ (pos n -ℤ pos 31)) → r ≡ value (score_of g) p
mover_score g p a n r l e legal h =
    value-one g p (after p a) a r (neg_ℤ r) l legal refl
    (let s = score_after g p a n r l e (omega (arith, ints, h)) in omega (arith, ints, s)) (omega (arith, ints))

pub other_score : (g : Scoring) (p : Position) (a n : ℕ) (r : ℤ) → Leaves p (a ∷ []) → n ≡ count_by (is_flipped (pass p) a) squares
    → (IsLegal p a → ⊥) → IsLegal (pass p) a
    → r ≡ (pos (mine_count p) +ℤ (neg_ℤ (pos n) -ℤ pos 32)) +ℤ (pos (mine_count p) +ℤ (neg_ℤ (pos n) -ℤ pos 32)) → r ≡ value (score_of g) p
other_score g p a n r l e none legal h =
    let discs = last_discs p a (is_last p a l) in
    let s = score_after g (pass p) a n (neg_ℤ r) (Leaves-pass p (pass p) (a ∷ []) l refl) e (omega (arith, ints, h, discs)) in
    value-one_passed g p (pass p) (after (pass p) a) a r l none refl legal refl (omega (arith, ints, s))

pub legal_where : (p : Position) (a n : ℕ) → Leaves p (a ∷ []) → (is_legal p a ≡ false → n ≡ 0) → (n ≡ 0 → ⊥) → IsLegal p a
legal_where p a n l none some = elim (cases_Bool (is_legal p a)) [
  | inl legal ↦ record { on_board = l.each.0; legal = legal }
  | inr illegal ↦ absurd (some (none illegal))
]

pub illegal_where : (p : Position) (a : ℕ) → is_legal p a ≡ false → IsLegal p a → ⊥
illegal_where p a none legal = false≢true (sym none ∙ legal.legal)
