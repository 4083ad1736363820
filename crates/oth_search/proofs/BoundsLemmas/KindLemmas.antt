-- What the mover of a board does, from the words of its moves, and what that says of both sides.
use Rattle.std.proofs.Common.{◌≡◌, ◌&&◌, ℕ, Bool, not, true, false, if◌then◌else◌, refl, sym, ap, ◌∙◌, true≢false}
use Rattle.oth_rules.specs.Square.{word_of}
use Rattle.oth_rules.specs.Position.{Position, pass}
use Rattle.oth_rules.specs.Move.{can_move, is_legal, is_over}
use Rattle.oth_rules.proofs.Scores.{cannot_move, does_move}
use Rattle.oth_search.specs.Bounds.Answer.{kind_of}
use Rattle.oth_search.specs.declared.bounds.kind.Kind.{Kind}
use Rattle.oth_search.specs.declared.bounds.kind.Kind.TheVariants.{Move, Pass, End}

pub kind-move : (b : Position) (w : ℕ) → w ≡ word_of (is_legal b) → (w ≡ 0 → ⊥) → Move ≡ kind_of b
unfolding kind_of
kind-move b w is some = rw (does_move b w is some) refl

pub kind-pass : (b p : Position) (w v : ℕ) → w ≡ word_of (is_legal b) → w ≡ 0 → p ≡ pass b → v ≡ word_of (is_legal p) → (v ≡ 0 → ⊥) → Pass ≡ kind_of b
unfolding kind_of
kind-pass b p w v is none passed is_other some =
    let other : can_move (pass b) ≡ true = ap can_move (sym passed) ∙ does_move p v is_other some in
    rw (cannot_move b w is none, other) refl

pub kind-end : (b p : Position) (w v : ℕ) → w ≡ word_of (is_legal b) → w ≡ 0 → p ≡ pass b → v ≡ word_of (is_legal p) → v ≡ 0 → End ≡ kind_of b
unfolding kind_of
kind-end b p w v is none passed is_other no_other =
    let other : can_move (pass b) ≡ false = ap can_move (sym passed) ∙ cannot_move p v is_other no_other in
    rw (cannot_move b w is none, other) refl

abbrev is_move : Kind → Bool
is_move Move = true
is_move Pass = false
is_move End = false

abbrev is_end : Kind → Bool
is_end Move = false
is_end Pass = false
is_end End = true

abbrev kind_if : Bool → Bool → Kind
kind_if moves other_moves = if moves then Move else if other_moves then Pass else End

-- what a board's kind says of both sides

move-if : (b c : Bool) → Move ≡ kind_if b c → b ≡ true
move-if true c e = refl
move-if false true e = absurd (true≢false (ap is_move e))
move-if false false e = absurd (true≢false (ap is_move e))

pass-if : (b c : Bool) → Pass ≡ kind_if b c → (b ≡ false) × (c ≡ true)
pass-if true c e = absurd (true≢false (sym (ap is_move e)))
pass-if false true e = (refl, refl)
pass-if false false e = absurd (true≢false (sym (ap is_end e)))

end-if : (b c : Bool) → End ≡ kind_if b c → not b && not c ≡ true
end-if true c e = absurd (true≢false (ap is_end e))
end-if false true e = absurd (true≢false (ap is_end e))
end-if false false e = refl

pub move-can : (b : Position) → Move ≡ kind_of b → can_move b ≡ true
unfolding kind_of
move-can b e = move-if (can_move b) (can_move (pass b)) e

pub pass-must : (b : Position) → Pass ≡ kind_of b → (can_move b ≡ false) × (can_move (pass b) ≡ true)
unfolding kind_of
pass-must b e = pass-if (can_move b) (can_move (pass b)) e

pub end-over : (b : Position) → End ≡ kind_of b → is_over b ≡ true
unfolding kind_of is_over
end-over b e = end-if (can_move b) (can_move (pass b)) e
