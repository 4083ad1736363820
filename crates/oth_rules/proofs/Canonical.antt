-- Images by words, their order, and the least of them.
use Rattle.std.proofs.Common.{◌≡◌, ℕ, zero, suc, ◌+◌, ◌<◌, ◌≤◌, true, false, ◌&&◌, ◌||◌, refl, sym, ap, ◌∙◌, subst, inl, inr, arith, add-one}
use Rattle.std.specs.Prelude.{◌≢◌, ◌⊎◌, nat_lt, ◌==◌, if◌then◌else◌}
use Rattle.std.proofs.lemmas.Bool.{cases_Bool, cases_eq, lt-ltb, le-ltb, eq-eqb, ne_eqb}
use Rattle.std.proofs.lemmas.Bool.Decides.{nat_tests}
use Rattle.oth_rules.specs.Square.{has, word_of}
use Rattle.oth_rules.specs.Position.{Position, IsBoard, cell, is_mine, is_theirs}
use Rattle.oth_rules.specs.Symmetry.{map_word, unmap_square, image, is_below, lesser, least_image, canonical, IsLeastImage}
use Rattle.oth_rules.specs.declared.scoring.Scoring.{Scoring}
use Rattle.oth_rules.specs.Score.{score_of}
use Rattle.oth_rules.specs.Value.{value}
use Rattle.oth_rules.proofs.Symmetries.{composed, composed-within, composed-first, image-image, value-image}
use Rattle.oth_rules.proofs.Bits.{has-word_of, word_of-lt}
use Rattle.oth_rules.proofs.Positions.{is_position, is_mine-has, is_theirs-has, position_of-IsBoard}

pub image-words : (p : Position) (s : ℕ) → IsBoard p → ◌≡◌ {A = Position} (record { own = map_word s p.own; opp = map_word s p.opp }) (image s p)
unfolding map_word image is_mine is_theirs
image-words p s b =
    is_position (word_of (λ q. has p.own (unmap_square s q))) (word_of (λ q. has p.opp (unmap_square s q))) (λ q. cell p (unmap_square s q))
    (word_of-lt (λ q. has p.own (unmap_square s q))) (word_of-lt (λ q. has p.opp (unmap_square s q)))
    (λ q l. has-word_of (λ q. has p.own (unmap_square s q)) q l ∙ sym (is_mine-has p (unmap_square s q)))
    (λ q l. has-word_of (λ q. has p.opp (unmap_square s q)) q l ∙ sym (is_theirs-has p b (unmap_square s q)))

pub IsBoard-image : (p : Position) (s : ℕ) → IsBoard (image s p)
unfolding image
IsBoard-image p s = position_of-IsBoard (λ q. cell p (unmap_square s q))

-- the image of the position that the words are, by the words that were carried
pub image_of : (own opp own' opp' s : ℕ) (p : Position) → ◌≡◌ {A = Position} (record { own = own; opp = opp }) p → IsBoard (record { own = own; opp = opp }) → own' ≡ map_word s own
    → opp' ≡ map_word s opp →
    ◌≡◌ {A = Position} (record { own = own'; opp = opp' }) (image s p)
image_of own opp own' opp' s p e b f g =
    ap (λ x. let r : Position = record { own = x; opp = opp' } in r) f
    ∙ ap (λ y. let r : Position = record { own = map_word s own; opp = y } in r) g
    ∙ image-words (record { own = own; opp = opp }) s b
    ∙ ap (image s) e

-- ---- the order of images

pub below_own : (p q : Position) → p.own < q.own → true ≡ is_below p q
unfolding is_below
below_own p q l = sym (ap (λ b. b || (p.own == q.own && nat_lt p.opp q.opp)) (lt-ltb p.own q.own l))

pub below_opp : (p q : Position) → p.own ≡ q.own → nat_lt p.opp q.opp ≡ is_below p q
unfolding is_below
below_opp p q e =
    sym (ap (λ b. b || (p.own == q.own && nat_lt p.opp q.opp)) (le-ltb p.own q.own (omega arith)) ∙ ap (λ b. b && nat_lt p.opp q.opp) (eq-eqb p.own q.own e))

pub below_no : (p q : Position) → q.own ≤ p.own → p.own ≢ q.own → false ≡ is_below p q
unfolding is_below
below_no p q l n =
    sym (ap (λ b. b || (p.own == q.own && nat_lt p.opp q.opp)) (le-ltb p.own q.own l) ∙ ap (λ b. b && nat_lt p.opp q.opp) (ne_eqb p.own q.own n))

below_tests : (a b c d e f : ℕ) → (nat_lt a c || (a == c && nat_lt b d)) ≡ true → (nat_lt e c || (e == c && nat_lt f d)) ≡ false → (nat_lt a e || (a == e && nat_lt b f)) ≡ true
below_tests a b c d e f h k = grind (arith, nat_tests)

-- what is below a least one is below all that aren't
below_through : (p q r : Position) → is_below p q ≡ true → is_below r q ≡ false → is_below p r ≡ true
unfolding is_below
below_through p q r h k = below_tests p.own p.opp q.own q.opp r.own r.opp h k

turned_tests : (a b c d : ℕ) → (nat_lt a c || (a == c && nat_lt b d)) ≡ true → (nat_lt c a || (c == a && nat_lt d b)) ≡ false
turned_tests a b c d h = grind (arith, nat_tests)

below_turned : (p q : Position) → is_below p q ≡ true → is_below q p ≡ false
unfolding is_below
below_turned p q h = turned_tests p.own p.opp q.own q.opp h

same_tests : (a b : ℕ) → (nat_lt a a || (a == a && nat_lt b b)) ≡ false
same_tests a b = grind (arith, nat_tests)

below_itself : (p : Position) → is_below p p ≡ false
unfolding is_below
below_itself p = same_tests p.own p.opp

-- c is the least of the first n images, and s gives it first
pub record IsLeast (p c : Position) (s n : ℕ) : Type 0 where
  pub valid : s < n
  pub image_by : c ≡ image s p
  pub least : (t : ℕ) → t < n → is_below (image t p) c ≡ false
  pub first : (t : ℕ) → t < s → is_below c (image t p) ≡ true

pub least_one : (p c : Position) (s : ℕ) → s ≡ 0 → c ≡ image s p → IsLeast p c s 1
least_one p c s e h = record {
  valid = omega arith;
  image_by = h;
  least = λ t l. let f : t ≡ s = omega arith in ap (λ x. is_below (image x p) c) f ∙ ap (λ x. is_below x c) (sym h) ∙ below_itself c;
  first = λ t l. absurd (nothing t s e l);
}
  where
    nothing : (x y : ℕ) → y ≡ 0 → x < y → ⊥
    nothing x y e l = omega arith

pub least_yes : (p c d : Position) (s n m : ℕ) → IsLeast p c s n → m ≡ n → d ≡ image m p → is_below d c ≡ true → IsLeast p d m (n + 1)
least_yes p c d s n m h e f b = record {
  valid = omega arith;
  image_by = f;
  least = λ t l. elim (cases_eq t m) [
    | inl here ↦ ap (λ x. is_below (image x p) d) here ∙ ap (λ x. is_below x d) (sym f) ∙ below_itself d
    | inr there ↦ below_turned d (image t p) (below_through d c (image t p) b (h.least t (omega (arith, there))))
  ];
  first = λ t l. below_through d c (image t p) b (h.least t (omega arith));
}

pub least_no : (p c d : Position) (s n m : ℕ) → IsLeast p c s n → m ≡ n → d ≡ image m p → is_below d c ≡ false → IsLeast p c s (n + 1)
least_no p c d s n m h e f b = record {
  valid = let v = h.valid in omega arith;
  image_by = h.image_by;
  least = λ t l. elim (cases_eq t m) [
    | inl here ↦ ap (λ x. is_below (image x p) c) here ∙ ap (λ x. is_below x c) (sym f) ∙ b
    | inr there ↦ h.least t (omega (arith, there))
  ];
  first = h.first;
}

pub least_all : (p c : Position) (s n : ℕ) → IsLeast p c s n → n ≡ 8 → IsLeastImage p c s
least_all p c s n h e = record {
  valid = let v = h.valid in omega arith;
  image_by = h.image_by;
  least = λ t l. h.least t (omega arith);
  first = h.first;
}

-- ---- the least image

lesser_yes : (p q : Position) → is_below p q ≡ true → lesser p q ≡ p
unfolding lesser
lesser_yes p q h = ap (λ b. if b then p else q) h

lesser_no : (p q : Position) → is_below p q ≡ false → lesser p q ≡ q
unfolding lesser
lesser_no p q h = ap (λ b. if b then p else q) h

least_image-zero : (p : Position) → least_image 0 p ≡ image 0 p
unfolding least_image
least_image-zero p = refl

least_image-suc : (n : ℕ) (p : Position) → least_image (suc n) p ≡ lesser (image (suc n) p) (least_image n p)
unfolding least_image
least_image-suc n p = refl

least_image-IsLeast : (n : ℕ) (p : Position) → (s : ℕ) × IsLeast p (least_image n p) s (suc n)
least_image-IsLeast zero p = (0, least_one p (least_image 0 p) 0 refl (least_image-zero p))
least_image-IsLeast (suc n) p = step (least_image-IsLeast n p) (cases_Bool (is_below (image (suc n) p) (least_image n p)))
  where
    more : (c : Position) (s : ℕ) → IsLeast p c s (suc n + 1) → IsLeast p c s (suc (suc n))
    more c s h = rw add-one at h

    step : (s : ℕ) × IsLeast p (least_image n p) s (suc n) → (is_below (image (suc n) p) (least_image n p) ≡ true) ⊎ (is_below (image (suc n) p) (least_image n p) ≡ false)
        → (s : ℕ) × IsLeast p (least_image (suc n) p) s (suc (suc n))
    step h (inl e) = (
      suc n,
      rw (least_image-suc n p, lesser_yes (image (suc n) p) (least_image n p) e)
          (more (image (suc n) p) (suc n) (least_yes p (least_image n p) (image (suc n) p) h.0 (suc n) (suc n) h.1 refl refl e)),
    )
    step h (inr e) = (
      h.0,
      rw (least_image-suc n p, lesser_no (image (suc n) p) (least_image n p) e)
          (more (least_image n p) h.0 (least_no p (least_image n p) (image (suc n) p) h.0 (suc n) (suc n) h.1 refl refl e)),
    )

pub canonical-least : (p : Position) → (s : ℕ) × IsLeastImage p (canonical p) s
unfolding canonical
canonical-least p = let h = least_image-IsLeast 7 p in (h.0, least_all p (least_image 7 p) h.0 8 h.1 refl)

same_own : (a b c d : ℕ) → (nat_lt a c || (a == c && nat_lt b d)) ≡ false → (nat_lt c a || (c == a && nat_lt d b)) ≡ false → a ≡ c
same_own a b c d h k = grind (arith, nat_tests)

same_opp : (a b c d : ℕ) → (nat_lt a c || (a == c && nat_lt b d)) ≡ false → (nat_lt c a || (c == a && nat_lt d b)) ≡ false → b ≡ d
same_opp a b c d h k = grind (arith, nat_tests)

-- of two positions, of which none is below the other
same_position : (p q : Position) → is_below p q ≡ false → is_below q p ≡ false → p ≡ q
unfolding is_below
same_position p q h k =
    ap (λ x. let r : Position = record { own = x; opp = p.opp } in r) (same_own p.own p.opp q.own q.opp h k)
    ∙ ap (λ y. let r : Position = record { own = q.own; opp = y } in r) (same_opp p.own p.opp q.own q.opp h k)

-- what is an image and has none below it is the canonical one
pub is_canonical : (p c : Position) (s : ℕ) → s < 8 → c ≡ image s p → ((t : ℕ) → t < 8 → is_below (image t p) c ≡ false) → c ≡ canonical p
is_canonical p c s l e least =
    let h = canonical-least p in
    same_position c (canonical p)
    (ap (λ x. is_below x (canonical p)) e ∙ h.1.least s l)
    (ap (λ x. is_below x c) h.1.image_by ∙ least h.0 h.1.valid)

pub least_is_canonical : (p c : Position) (s : ℕ) → IsLeastImage p c s → c ≡ canonical p
least_is_canonical p c s h = is_canonical p c s h.valid h.image_by h.least

pub value-canonical : (g : Scoring) (p : Position) → value (score_of g) (canonical p) ≡ value (score_of g) p
value-canonical g p = let h = canonical-least p in ap (value (score_of g)) h.1.image_by ∙ value-image g h.0 h.1.valid p

pub IsBoard-canonical : (p : Position) → IsBoard (canonical p)
IsBoard-canonical p = let h = canonical-least p in subst IsBoard (sym h.1.image_by) (IsBoard-image p h.0)

pub canonical-canonical : (p : Position) → canonical (canonical p) ≡ canonical p
canonical-canonical p =
    let h = canonical-least p in
    let s = h.0 in
    let images = λ (t : ℕ) (l : t < 8). ap (image t) h.1.image_by ∙ image-image t s p l h.1.valid in
    sym (is_canonical (canonical p) (canonical p) 0 (omega arith)
    (sym (images 0 (omega arith) ∙ ap (λ t. image t p) (composed-first s h.1.valid) ∙ sym h.1.image_by))
    (λ t l. ap (λ x. is_below x (canonical p)) (images t l) ∙ h.1.least (composed t s) (composed-within t s l h.1.valid)))
