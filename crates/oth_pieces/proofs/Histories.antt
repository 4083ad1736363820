-- Lemmas on histories of a floor.
use Rattle.std.proofs.Common.{◌≡◌, ℤ, ◌≤ℤ◌, Bool, true, false, ◌⊎◌, List, [], ◌∷◌, length, nat_le, cond, sym, refl, ◌∙◌, subst, ⊎_elim, inl, inr, arith}
use Rattle.std.specs.Int.{int_max}
use Rattle.std.proofs.lemmas.Int.{ints, clamps}
use Rattle.std.proofs.lemmas.Bool.Decides.{nat_tests}
use Rattle.oth_history.specs.History.{Begins}
use Rattle.oth_history.proofs.Histories.{begins_itself, begins_shorter, begins_each_other}
use Rattle.oth_rules.proofs.Scores.{value_bounds}
use Rattle.oth_pieces.specs.declared.floor.root.Root.{Root}
use Rattle.oth_pieces.specs.declared.floor.event.Event.{Event}
use Rattle.oth_pieces.specs.declared.floor.event.Event.TheVariants.{Raise, Made}
use Rattle.oth_pieces.specs.History.{floor_after, root_value, IsLegal}
use Rattle.oth_pieces.specs.Floor.{longer}

-- of two beginnings of one history the longer begins with both
longer_by : (one other log : List Event) (b : Bool) → nat_le (length one) (length other) ≡ b → Begins one log → Begins other log
    → Begins one (cond b other one) × Begins other (cond b other one) × Begins (cond b other one) log
longer_by one other log true test p q = (begins_shorter one other log p q (grind (arith, nat_tests)), begins_itself other, q)
longer_by one other log false test p q = (begins_itself one, begins_shorter other one log q p (grind (arith, nat_tests)), p)

pub longer_begins : (one other log : List Event) → Begins one log → Begins other log → Begins one (longer one other) × Begins other (longer one other) × Begins (longer one other) log
longer_begins one other log p q = longer_by one other log (nat_le (length one) (length other)) refl p q

of_longer : (a b c : List Event) (t : Bool) → c ≡ cond t b a → (c ≡ a) ⊎ (c ≡ b)
of_longer a b c true e = inr e
of_longer a b c false e = inl e

begins_as : (a c d : List Event) → c ≡ a → Begins c d → Begins a d
begins_as a c d e p = let P : List Event → Type 0 = λ l. Begins l d in subst P e p

both_begin : (x y c d : List Event) → c ≡ x → d ≡ y → Begins x d → Begins y c → c ≡ d
both_begin x y c d cs ds p q = begins_each_other c d (begins_as c x d (sym cs) p) (begins_as d y c (sym ds) q)

pub longer_both : (a b c d : List Event) → c ≡ longer a b → d ≡ longer b a → Begins a c → Begins b c → Begins a d → Begins b d → c ≡ d
longer_both a b c d cs ds ac bc ad bd =
    ⊎_elim (λ (x : c ≡ a). ⊎_elim (λ (y : d ≡ b). both_begin a b c d x y ad bc) (λ (y : d ≡ a). x ∙ sym y) (of_longer b a d (nat_le (length b) (length a)) ds))
    (λ (x : c ≡ b). ⊎_elim (λ (y : d ≡ b). x ∙ sym y) (λ (y : d ≡ a). both_begin b a c d x y bd ac) (of_longer b a d (nat_le (length b) (length a)) ds))
    (of_longer a b c (nat_le (length a) (length b)) cs)

lower_both : (x y v : ℤ) → x ≤ℤ v → y ≤ℤ v → int_max x y ≤ℤ v
lower_both x y v a b = omega (arith, ints, clamps)

-- the floor never exceeds the root's value
pub floor_after-true : (p : Root) (h : List Event) → IsLegal p h → floor_after h ≤ℤ root_value p
floor_after-true p [] legal = (value_bounds p.scoring p.board).low
floor_after-true p (Raise by y ∷ h) legal = lower_both y (floor_after h) (root_value p) legal.1 (floor_after-true p h legal.2)
floor_after-true p (Made by n ∷ h) legal = floor_after-true p h legal.2
