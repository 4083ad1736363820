-- Lines by plain shifts of whole words: a line of n + 2 squares is a line of two, or a pair past a line of n.
use Rattle.std.proofs.Common.{◌≡◌, ℕ, suc, ◌+◌, ◌-◌, ◌*◌, ◌/◌, ◌%◌, ◌^◌, ◌<◌, ◌≤◌, Bool, true, false, not, ◌&&◌, ◌||◌, Option, Some, None, refl, sym, ap, ◌∙◌, inl, inr, arith}
use Rattle.std.specs.Prelude.{bit_and, bit_or, nat_lt}
use Rattle.std.proofs.lemmas.Bool.{eqb-true, and_parts, or_cases, ltb-true, false≢true, cases_lt}
use Rattle.std.proofs.lemmas.Nat.{and_le_l, or_lt, shr_le, shr-shr}
use Rattle.oth_rules.specs.Square.{has, word_of, Direction, next}
use Rattle.oth_rules.specs.Line.{reversed, some_in, is_next, is_on_line, rises_onto, falls_onto, Rises, Falls}
use Rattle.oth_rules.proofs.Bits.{has-and, has-or, has-shl_high, has-shl_low, has-shr, has-above, is_word_of, same_word}
use Rattle.oth_rules.proofs.Lines.{is_next-same}
use Rattle.oth_rules.proofs.Rays.{some_in-or, some_in_every}

-- ---- steps of sets

and_when : (a b c : Bool) → (a ≡ true → b ≡ c) → (a && b) ≡ (a && c)
and_when true b c h = h refl
and_when false b c h = refl

next-or : (d : Direction) (f g : ℕ → Bool) (t : ℕ) → is_next d (λ s. f s || g s) t ≡ (is_next d f t || is_next d g t)
unfolding is_next
next-or d f g t = some_in-or f g (next (reversed d) t)

in-and : (f g : ℕ → Bool) (o : Option ℕ) → some_in (λ s. f s && g s) o ≡ (some_in f o && some_in g o)
unfolding some_in
in-and f g None = refl
in-and f g (Some s) = refl

next-and : (d : Direction) (f g : ℕ → Bool) (t : ℕ) → is_next d (λ s. f s && g s) t ≡ (is_next d f t && is_next d g t)
unfolding is_next
next-and d f g t = in-and f g (next (reversed d) t)

next-every : (d : Direction) (f g : ℕ → Bool) (t : ℕ) → ((s : ℕ) → f s ≡ g s) → is_next d f t ≡ is_next d g t
unfolding is_next
next-every d f g t h = some_in_every f g (next (reversed d) t) h

in-none : (o : Option ℕ) → some_in (λ _. false) o ≡ false
unfolding some_in
in-none None = refl
in-none (Some s) = refl

next-none : (d : Direction) (t : ℕ) → is_next d (λ _. false) t ≡ false
unfolding is_next
next-none d t = in-none (next (reversed d) t)

-- ---- a line of two squares more

line-two_more : (n : ℕ) (d : Direction) (f g : ℕ → Bool) (t : ℕ) →
    is_on_line (suc (suc n)) d f g t ≡ (g t && (is_next d f t || (is_next d g t && (is_next d (is_next d f) t || is_next d (is_next d (is_on_line n d f g)) t))))
unfolding is_on_line
line-two_more n d f g t =
    ap (λ b. g t && b)
    (next-or d f (is_on_line (suc n) d f g) t
    ∙ ap (λ b. is_next d f t || b)
    (next-and d g (is_next d (λ s. f s || is_on_line n d f g s)) t
    ∙ ap (λ b. is_next d g t && b)
    (next-every d (is_next d (λ s. f s || is_on_line n d f g s)) (λ s. is_next d f s || is_next d (is_on_line n d f g) s) t (next-or d f (is_on_line n d f g))
    ∙ next-or d (is_next d f) (is_next d (is_on_line n d f g)) t)))

nothing_on_line : (d : Direction) (f g : ℕ → Bool) (t : ℕ) → is_next d (is_next d (is_on_line 0 d f g)) t ≡ false
unfolding is_on_line
nothing_on_line d f g t = next-every d (is_next d (λ _. false)) (λ _. false) t (next-none d) ∙ next-none d t

two_parts : (a b c e : Bool) → ((c && a) || (c && (e && b))) ≡ (c && (a || (e && (b || false))))
two_parts a b false e = refl
two_parts true b true e = refl
two_parts false b true false = refl
two_parts false true true true = refl
two_parts false false true true = refl

more_parts : (a b c e g : Bool) → (((c && a) || (c && (e && b))) || ((c && e) && g)) ≡ (c && (a || (e && (b || g))))
more_parts a b false e g = refl
more_parts true b true e g = refl
more_parts false b true false g = refl
more_parts false b true true g = refl

-- what is needed of a shift of whole words by one step, and of one by two steps, along squares of `through`
record Slides (d : Direction) (through : ℕ) (slide slide2 : ℕ → ℕ) : Type 0 where
  onto : (w t : ℕ) → w < 2 ^ 64 → t < 64 → has through t ≡ true → has (slide w) t ≡ is_next d (has w) t
  off : (w t : ℕ) → w < 2 ^ 64 → ((s : ℕ) → s < 64 → has w s ≡ true → has through s ≡ true) → t < 64 → has (slide w) t ≡ is_next d (has w) t
  fits : (w : ℕ) → w < 2 ^ 64 → slide w < 2 ^ 64
  twice : (w : ℕ) → slide2 w ≡ slide (slide w)

-- the lines of at most two squares, those of two more than `line` has, and the squares past the lines of six
abbrev two_line_word : (ℕ → ℕ) → ℕ → ℕ → ℕ
two_line_word slide source through = bit_or (bit_and through (slide source)) (bit_and through (slide (bit_and through (slide source))))

abbrev longer_word : (ℕ → ℕ) → (ℕ → ℕ) → ℕ → ℕ → ℕ → ℕ
longer_word slide slide2 source through line =
    bit_or (two_line_word slide source through) (bit_and (bit_and through (slide through)) (slide2 line))

abbrev pub past_word : (ℕ → ℕ) → (ℕ → ℕ) → ℕ → ℕ → ℕ
past_word slide slide2 source through =
    slide (longer_word slide slide2 source through (longer_word slide slide2 source through (two_line_word slide source through)))

and_fits : (a b : ℕ) → a < 2 ^ 64 → bit_and a b < 2 ^ 64
and_fits a b l = omega (arith, and_le_l a b)

module _ (d : Direction) (source through : ℕ) (slide slide2 : ℕ → ℕ) (k : Slides d through slide slide2) (fs : source < 2 ^ 64) (ft : through < 2 ^ 64) where
  masked : (w t : ℕ) → w < 2 ^ 64 → t < 64 → has (bit_and through (slide w)) t ≡ (has through t && is_next d (has w) t)
  masked w t f l =
      has-and through (slide w) t
      ∙ and_when (has through t) (has (slide w) t) (is_next d (has w) t) (k.onto w t f l)

  one_next : (t : ℕ) → t < 64 → is_next d (has (bit_and through (slide source))) t ≡ (is_next d (has through) t && is_next d (is_next d (has source)) t)
  one_next t l =
      is_next-same d (has (bit_and through (slide source))) (λ s. has through s && is_next d (has source) s) t l (λ s m. masked source s fs m)
      ∙ next-and d (has through) (is_next d (has source)) t

  two_is : (t : ℕ) → t < 64 → has (bit_or (bit_and through (slide source)) (bit_and through (slide (bit_and through (slide source))))) t
      ≡ ((has through t && is_next d (has source) t) || (has through t && (is_next d (has through) t && is_next d (is_next d (has source)) t)))
  two_is t l =
      has-or (bit_and through (slide source)) (bit_and through (slide (bit_and through (slide source)))) t
      ∙ ap (λ b. b || has (bit_and through (slide (bit_and through (slide source)))) t) (masked source t fs l)
      ∙ ap (λ b. (has through t && is_next d (has source) t) || b)
      (masked (bit_and through (slide source)) t (and_fits through (slide source) ft) l ∙ ap (λ b. has through t && b) (one_next t l))

  -- from a line of n squares, past a pair
  pair_past : (line : ℕ) (f : ℕ → Bool) (t : ℕ) → line < 2 ^ 64 → ((s : ℕ) → s < 64 → has line s ≡ f s) → t < 64 →
      has (bit_and (bit_and through (slide through)) (slide2 line)) t ≡ ((has through t && is_next d (has through) t) && is_next d (is_next d f) t)
  pair_past line f t fl h l =
      has-and (bit_and through (slide through)) (slide2 line) t
      ∙ ap (λ b. b && has (slide2 line) t) (masked through t ft l)
      ∙ ap (λ w. (has through t && is_next d (has through) t) && has w t) (k.twice line)
      ∙ regroup (has through t) (is_next d (has through) t) (has (slide (slide line)) t)
      ∙ and_when (has through t) (is_next d (has through) t && has (slide (slide line)) t) (is_next d (has through) t && is_next d (is_next d f) t)
      (λ e. ap (λ b. is_next d (has through) t && b) (k.onto (slide line) t (k.fits line fl) l e) ∙ past)
      ∙ sym (regroup (has through t) (is_next d (has through) t) (is_next d (is_next d f) t))
    where
      regroup : (a b c : Bool) → ((a && b) && c) ≡ (a && (b && c))
      regroup true b c = refl
      regroup false b c = refl

      each : (s : ℕ) → s < 64 → (has through s && has (slide line) s) ≡ (has through s && is_next d f s)
      each s m = and_when (has through s) (has (slide line) s) (is_next d f s) (λ e. k.onto line s fl m e ∙ is_next-same d (has line) f s m h)

      past : (is_next d (has through) t && is_next d (has (slide line)) t) ≡ (is_next d (has through) t && is_next d (is_next d f) t)
      past =
          sym (next-and d (has through) (has (slide line)) t)
          ∙ is_next-same d (λ s. has through s && has (slide line) s) (λ s. has through s && is_next d f s) t l each
          ∙ next-and d (has through) (is_next d f) t

  abbrev two : ℕ
  two = two_line_word slide source through

  abbrev longer : ℕ → ℕ
  longer line = longer_word slide slide2 source through line

  two_fits : two < 2 ^ 64
  two_fits =
      or_lt 64 (bit_and through (slide source)) (bit_and through (slide (bit_and through (slide source))))
      (and_fits through (slide source) ft) (and_fits through (slide (bit_and through (slide source))) ft)

  longer_fits : (line : ℕ) → longer line < 2 ^ 64
  longer_fits line =
      or_lt 64 two (bit_and (bit_and through (slide through)) (slide2 line)) two_fits
      (and_fits (bit_and through (slide through)) (slide2 line) (and_fits through (slide through) ft))

  two_line : (t : ℕ) → t < 64 → has two t ≡ is_on_line 2 d (has source) (has through) t
  two_line t l =
      two_is t l
      ∙ two_parts (is_next d (has source) t) (is_next d (is_next d (has source)) t) (has through t) (is_next d (has through) t)
      ∙ ap (λ b. has through t && (is_next d (has source) t || (is_next d (has through) t && (is_next d (is_next d (has source)) t || b)))) (sym (nothing_on_line d (has source) (has through) t))
      ∙ sym (line-two_more 0 d (has source) (has through) t)

  longer_line : (n line : ℕ) → line < 2 ^ 64 → ((s : ℕ) → s < 64 → has line s ≡ is_on_line n d (has source) (has through) s) →
      (t : ℕ) → t < 64 → has (longer line) t ≡ is_on_line (suc (suc n)) d (has source) (has through) t
  longer_line n line fl h t l =
      has-or two (bit_and (bit_and through (slide through)) (slide2 line)) t
      ∙ ap (λ b. b || has (bit_and (bit_and through (slide through)) (slide2 line)) t) (two_is t l)
      ∙ ap (λ b. ((has through t && is_next d (has source) t) || (has through t && (is_next d (has through) t && is_next d (is_next d (has source)) t))) || b)
      (pair_past line (is_on_line n d (has source) (has through)) t fl h l)
      ∙ more_parts (is_next d (has source) t) (is_next d (is_next d (has source)) t) (has through t) (is_next d (has through) t)
      (is_next d (is_next d (is_on_line n d (has source) (has through))) t)
      ∙ sym (line-two_more n d (has source) (has through) t)

  line_within : (n t : ℕ) → is_on_line (suc n) d (has source) (has through) t ≡ true → has through t ≡ true
  unfolding is_on_line
  line_within n t e = (and_parts (has through t) (is_next d (λ s. has source s || is_on_line n d (has source) (has through) s) t) e).0

  past_lines : past_word slide slide2 source through ≡ word_of (is_next d (is_on_line 6 d (has source) (has through)))
  past_lines =
      is_word_of (slide (longer (longer two))) (is_next d (is_on_line 6 d (has source) (has through))) (k.fits (longer (longer two)) (longer_fits (longer two)))
      (λ t l. k.off (longer (longer two)) t (longer_fits (longer two)) (λ s m e. line_within 5 s (sym (six s m) ∙ e)) l
      ∙ is_next-same d (has (longer (longer two))) (is_on_line 6 d (has source) (has through)) t l six)
    where
      six : (s : ℕ) → s < 64 → has (longer (longer two)) s ≡ is_on_line 6 d (has source) (has through) s
      six = longer_line 4 (longer two) (longer_fits two) (longer_line 2 two two_fits two_line)

-- ---- plain shifts

neither : (a b : Bool) → not (a || b) ≡ true → (a ≡ false) × (b ≡ false)
neither true b e = absurd (false≢true e)
neither false true e = absurd (false≢true e)
neither false false e = (refl, refl)

not_both : (a : Bool) → a ≡ true → a ≡ false → ⊥
not_both a t f = false≢true (sym f ∙ t)

left_out : (a b : Bool) → (b ≡ true → a ≡ true) → a ≡ false → b ≡ false
left_out a true h e = absurd (not_both a (h refl) e)
left_out a false h e = refl

rising_onto : (by through w t : ℕ) (from : Option ℕ) → t < 64 → rises_onto by (has through) t from ≡ true → has through t ≡ true → has (w * 2 ^ by % 2 ^ 64) t ≡ some_in (has w) from
unfolding rises_onto some_in
rising_onto by through w t None l h m =
    elim (or_cases (nat_lt t by) (not (has through t || has through (t - by))) h) [
      | inl low ↦ has-shl_low w by t l (ltb-true t by low)
      | inr none ↦ absurd (not_both (has through t) m (neither (has through t) (has through (t - by)) none).0)
    ]
rising_onto by through w t (Some s) l h m =
    let e : s + by ≡ t = eqb-true (s + by) t h in
    let le : by ≤ t = omega arith in
    let back : t - by ≡ s = omega arith in
    has-shl_high w by t l le ∙ ap (has w) back

rising_off : (by through w t : ℕ) (from : Option ℕ) → t < 64 → rises_onto by (has through) t from ≡ true → ((s : ℕ) → s < 64 → has w s ≡ true → has through s ≡ true)
    → has (w * 2 ^ by % 2 ^ 64) t ≡ some_in (has w) from
unfolding rises_onto some_in
rising_off by through w t None l h m =
    elim (or_cases (nat_lt t by) (not (has through t || has through (t - by))) h) [
      | inl low ↦ has-shl_low w by t l (ltb-true t by low)
      | inr none ↦ elim (cases_lt t by) [
        | inl low ↦ has-shl_low w by t l low
        | inr high ↦ has-shl_high w by t l high
            ∙ left_out (has through (t - by)) (has w (t - by)) (m (t - by) (omega arith)) (neither (has through t) (has through (t - by)) none).1
      ]
    ]
rising_off by through w t (Some s) l h m =
    let e : s + by ≡ t = eqb-true (s + by) t h in
    let le : by ≤ t = omega arith in
    let back : t - by ≡ s = omega arith in
    has-shl_high w by t l le ∙ ap (has w) back

falling_onto : (by through w t : ℕ) (from : Option ℕ) → w < 2 ^ 64 → falls_onto by (has through) t from ≡ true → has through t ≡ true → has (w / 2 ^ by) t ≡ some_in (has w) from
unfolding falls_onto some_in
falling_onto by through w t None f h m =
    elim (or_cases (nat_lt 63 (t + by)) (not (has through t || has through (t + by))) h) [
      | inl high ↦ has-shr w by t ∙ has-above w (by + t) f (omega (arith, ltb-true 63 (t + by) high))
      | inr none ↦ absurd (not_both (has through t) m (neither (has through t) (has through (t + by)) none).0)
    ]
falling_onto by through w t (Some s) f h m =
    let e : t + by ≡ s = eqb-true (t + by) s h in
    let there : by + t ≡ s = omega arith in
    has-shr w by t ∙ ap (has w) there

falling_off : (by through w t : ℕ) (from : Option ℕ) → w < 2 ^ 64 → falls_onto by (has through) t from ≡ true → ((s : ℕ) → s < 64 → has w s ≡ true → has through s ≡ true)
    → has (w / 2 ^ by) t ≡ some_in (has w) from
unfolding falls_onto some_in
falling_off by through w t None f h m =
    elim (or_cases (nat_lt 63 (t + by)) (not (has through t || has through (t + by))) h) [
      | inl high ↦ has-shr w by t ∙ has-above w (by + t) f (omega (arith, ltb-true 63 (t + by) high))
      | inr none ↦ elim (cases_lt (t + by) 64) [
        | inl low ↦ has-shr w by t ∙ ap (has w) (turned by t)
            ∙ left_out (has through (t + by)) (has w (t + by)) (m (t + by) low) (neither (has through t) (has through (t + by)) none).1
        | inr high ↦ has-shr w by t ∙ has-above w (by + t) f (omega arith)
      ]
    ]
  where
    turned : (x y : ℕ) → x + y ≡ y + x
    turned x y = omega arith
falling_off by through w t (Some s) f h m =
    let e : t + by ≡ s = eqb-true (t + by) s h in
    let there : by + t ≡ s = omega arith in
    has-shr w by t ∙ ap (has w) there

raised : ℕ → ℕ → ℕ
raised by w = w * 2 ^ by % 2 ^ 64

lowered : ℕ → ℕ → ℕ
lowered by w = w / 2 ^ by

has-raised_high : (by w t : ℕ) → t < 64 → by ≤ t → has (raised by w) t ≡ has w (t - by)
unfolding raised
has-raised_high by w t l h = has-shl_high w by t l h

has-raised_low : (by w t : ℕ) → t < 64 → t < by → has (raised by w) t ≡ false
unfolding raised
has-raised_low by w t l h = has-shl_low w by t l h

raised-fits : (by w : ℕ) → raised by w < 2 ^ 64
unfolding raised
raised-fits by w = omega arith

raised-twice : (by w : ℕ) → raised (2 * by) w ≡ raised by (raised by w)
raised-twice by w =
    same_word (raised (2 * by) w) (raised by (raised by w)) (raised-fits (2 * by) w) (raised-fits by (raised by w)) each
  where
    each : (t : ℕ) → t < 64 → has (raised (2 * by) w) t ≡ has (raised by (raised by w)) t
    each t l =
        elim (cases_lt t by) [
          | inl low ↦ has-raised_low (2 * by) w t l (omega arith) ∙ sym (has-raised_low by (raised by w) t l low)
          | inr one ↦ elim (cases_lt t (2 * by)) [
            | inl low ↦ has-raised_low (2 * by) w t l low
                ∙ sym (has-raised_high by (raised by w) t l one ∙ has-raised_low by w (t - by) (omega arith) (omega arith))
            | inr both ↦ let e : t - 2 * by ≡ t - by - by = omega arith in
                has-raised_high (2 * by) w t l both ∙ ap (has w) e
                ∙ sym (has-raised_high by (raised by w) t l one ∙ has-raised_high by w (t - by) (omega arith) (omega arith))
          ]
        ]

lowered-twice : (by w : ℕ) → lowered (2 * by) w ≡ lowered by (lowered by w)
unfolding lowered
lowered-twice by w =
    let e : 2 * by ≡ by + by = omega arith in
    ap (λ k. w / 2 ^ k) e ∙ sym (shr-shr w by by)

rising_slides : (d : Direction) (by through : ℕ) → Rises d by (has through) → Slides d through (raised by) (raised (2 * by))
unfolding is_next raised
rising_slides d by through r = record {
  onto = λ w t f l m. rising_onto by through w t (next (reversed d) t) l (r t l) m;
  off = λ w t f h l. rising_off by through w t (next (reversed d) t) l (r t l) h;
  fits = λ w f. raised-fits by w;
  twice = raised-twice by;
}

falling_slides : (d : Direction) (by through : ℕ) → Falls d by (has through) → Slides d through (lowered by) (lowered (2 * by))
unfolding is_next lowered
falling_slides d by through r = record {
  onto = λ w t f l m. falling_onto by through w t (next (reversed d) t) f (r t l) m;
  off = λ w t f h l. falling_off by through w t (next (reversed d) t) f (r t l) h;
  fits = λ w f. omega (arith, shr_le w by);
  twice = lowered-twice by;
}

pub past_rising : (d : Direction) (by source through : ℕ) → source < 2 ^ 64 → through < 2 ^ 64 → Rises d by (has through) →
    past_word (λ w. w * 2 ^ by % 2 ^ 64) (λ w. w * 2 ^ (2 * by) % 2 ^ 64) source through ≡ word_of (is_next d (is_on_line 6 d (has source) (has through)))
unfolding raised
past_rising d by source through fs ft r = past_lines d source through (raised by) (raised (2 * by)) (rising_slides d by through r) fs ft

pub past_falling : (d : Direction) (by source through : ℕ) → source < 2 ^ 64 → through < 2 ^ 64 → Falls d by (has through) →
    past_word (λ w. w / 2 ^ by) (λ w. w / 2 ^ (2 * by)) source through ≡ word_of (is_next d (is_on_line 6 d (has source) (has through)))
unfolding lowered
past_falling d by source through fs ft r = past_lines d source through (lowered by) (lowered (2 * by)) (falling_slides d by through r) fs ft
