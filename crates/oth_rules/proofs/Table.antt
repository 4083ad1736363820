-- The tables of rays: the squares of each mask, in the ray's order, are the ray. The tables are computed.
use Rattle.std.proofs.Common.{◌≡◌, ℕ, ◌<◌, ◌^◌, Bool, true, false, ◌&&◌, ◌||◌, List, [], ◌∷◌, refl, ap, ◌∙◌}
use Rattle.std.specs.Prelude.{bit_or, ◌==◌, nat_lt, slice_index_or}
use Rattle.std.specs.List.{list_any}
use Rattle.std.proofs.lemmas.Bool.{eqb-true, ltb-true, and_parts, agree_below, agree_below_at, false≢true}
use Rattle.oth_rules.specs.Square.{Direction, Back, Stay, Forth, has, word_of, next, stepped, square_at, squares, directions, ray_from, ray, is_in}
use Rattle.oth_rules.specs.Position.{Position}
use Rattle.oth_rules.specs.Move.{outflanked, flipped_along}
use Rattle.oth_rules.specs.Line.{rising, falling_below, falling, rising_directions, falling_directions}
use Rattle.oth_rules.specs.declared.masks.TheConstants.{RISING, FALLING}
use Rattle.oth_rules.proofs.Bits.{word_of-same}
use Rattle.oth_rules.proofs.Words.{or_word}

-- ---- the rays

unfoldable pub same_line : List ℕ → List ℕ → Bool
same_line [] [] = true
same_line [] (y ∷ ys) = false
same_line (x ∷ xs) [] = false
same_line (x ∷ xs) (y ∷ ys) = (x == y) && same_line xs ys

pub same_line-is : (xs ys : List ℕ) → same_line xs ys ≡ true → xs ≡ ys
unfolding same_line
same_line-is [] [] e = refl
same_line-is [] (y ∷ ys) e = absurd (false≢true e)
same_line-is (x ∷ xs) [] e = absurd (false≢true e)
same_line-is (x ∷ xs) (y ∷ ys) e =
    let both = and_parts (x == y) (same_line xs ys) e in
    ap (λ z. z ∷ xs) (eqb-true x y both.0) ∙ ap (λ zs. y ∷ zs) (same_line-is xs ys both.1)

-- at each square, the mask of this index in a table is the ray in this direction
is_ray : (ℕ → List ℕ) → List (List ℕ) → ℕ → Direction → ℕ → Bool
is_ray in_order table i d s = same_line (in_order (slice_index_or (slice_index_or table s []) i 0)) (ray d s)

outflanked_by : (in_order : ℕ → List ℕ) (table : List (List ℕ)) (i : ℕ) (d : Direction) (p : Position) (s : ℕ) (rays : List ℕ) (w : ℕ)
    → agree_below (is_ray in_order table i d) (λ _. true) 64 ≡ true → s < 64 →
    rays ≡ slice_index_or table s [] → w ≡ word_of (is_in (outflanked p (in_order (slice_index_or rays i 0)))) → w ≡ word_of (is_in (flipped_along p s d))
unfolding is_ray flipped_along
outflanked_by in_order table i d p s rays w computed l r e =
    e ∙ ap (λ xs. word_of (is_in (outflanked p (in_order (slice_index_or xs i 0))))) r
    ∙ ap (λ xs. word_of (is_in (outflanked p xs)))
    (same_line-is (in_order (slice_index_or (slice_index_or table s []) i 0)) (ray d s) (agree_below_at (is_ray in_order table i d) (λ _. true) 64 s computed l))

north : agree_below (is_ray falling FALLING 0 (record { columns = Stay; rows = Back })) (λ _. true) 64 ≡ true
unfolding is_ray same_line rising falling falling_below has squares ray ray_from next stepped square_at
north = refl

north_east : agree_below (is_ray falling FALLING 1 (record { columns = Forth; rows = Back })) (λ _. true) 64 ≡ true
unfolding is_ray same_line rising falling falling_below has squares ray ray_from next stepped square_at
north_east = refl

east : agree_below (is_ray rising RISING 0 (record { columns = Forth; rows = Stay })) (λ _. true) 64 ≡ true
unfolding is_ray same_line rising falling falling_below has squares ray ray_from next stepped square_at
east = refl

south_east : agree_below (is_ray rising RISING 1 (record { columns = Forth; rows = Forth })) (λ _. true) 64 ≡ true
unfolding is_ray same_line rising falling falling_below has squares ray ray_from next stepped square_at
south_east = refl

south : agree_below (is_ray rising RISING 2 (record { columns = Stay; rows = Forth })) (λ _. true) 64 ≡ true
unfolding is_ray same_line rising falling falling_below has squares ray ray_from next stepped square_at
south = refl

south_west : agree_below (is_ray rising RISING 3 (record { columns = Back; rows = Forth })) (λ _. true) 64 ≡ true
unfolding is_ray same_line rising falling falling_below has squares ray ray_from next stepped square_at
south_west = refl

west : agree_below (is_ray falling FALLING 2 (record { columns = Back; rows = Stay })) (λ _. true) 64 ≡ true
unfolding is_ray same_line rising falling falling_below has squares ray ray_from next stepped square_at
west = refl

north_west : agree_below (is_ray falling FALLING 3 (record { columns = Back; rows = Back })) (λ _. true) 64 ≡ true
unfolding is_ray same_line rising falling falling_below has squares ray ray_from next stepped square_at
north_west = refl

-- ---- four directions of one sense

-- what holds in some direction holds in one where numbers rise, or in one where they fall
both_senses : (n ne e se s sw w nw : Bool) → ((e || (se || (s || (sw || false)))) || (n || (ne || (w || (nw || false))))) ≡ (n || (ne || (e || (se || (s || (sw || (w || (nw || false))))))))
both_senses true ne true se s sw w nw = refl
both_senses false true true se s sw w nw = refl
both_senses false false true se s sw w nw = refl
both_senses true ne false true s sw w nw = refl
both_senses false true false true s sw w nw = refl
both_senses false false false true s sw w nw = refl
both_senses true ne false false true sw w nw = refl
both_senses false true false false true sw w nw = refl
both_senses false false false false true sw w nw = refl
both_senses true ne false false false true w nw = refl
both_senses false true false false false true w nw = refl
both_senses false false false false false true w nw = refl
both_senses true ne false false false false w nw = refl
both_senses false true false false false false w nw = refl
both_senses false false false false false false true nw = refl
both_senses false false false false false false false true = refl
both_senses false false false false false false false false = refl

pub senses : (f : Direction → Bool) → (list_any f rising_directions || list_any f falling_directions) ≡ list_any f directions
unfolding directions rising_directions falling_directions
senses f =
    both_senses (f (record { columns = Stay; rows = Back })) (f (record { columns = Forth; rows = Back })) (f (record { columns = Forth; rows = Stay })) (f (record { columns = Forth; rows = Forth }))
    (f (record { columns = Stay; rows = Forth })) (f (record { columns = Back; rows = Forth })) (f (record { columns = Back; rows = Stay })) (f (record { columns = Back; rows = Back }))

pub senses_word : (f : Direction → ℕ → Bool) (w v : ℕ) → w ≡ word_of (λ q. list_any (λ d. f d q) rising_directions) → v ≡ word_of (λ q. list_any (λ d. f d q) falling_directions) →
    bit_or w v ≡ word_of (λ q. list_any (λ d. f d q) directions)
senses_word f w v e h =
    or_word w v (λ q. list_any (λ d. f d q) rising_directions) (λ q. list_any (λ d. f d q) falling_directions) e h
    ∙ word_of-same (λ q. list_any (λ d. f d q) rising_directions || list_any (λ d. f d q) falling_directions) (λ q. list_any (λ d. f d q) directions) (λ q _. senses (λ d. f d q))

or_four : (a b c d : Bool) → (((a || b) || c) || d) ≡ (a || (b || (c || (d || false))))
or_four true b c d = refl
or_four false true c d = refl
or_four false false true d = refl
or_four false false false true = refl
or_four false false false false = refl

pub or_words4 : (a b c d : ℕ) (A B C D : ℕ → Bool) → a ≡ word_of A → b ≡ word_of B → c ≡ word_of C → d ≡ word_of D →
    bit_or (bit_or (bit_or a b) c) d ≡ word_of (λ q. A q || (B q || (C q || (D q || false))))
or_words4 a b c d A B C D ea eb ec ed =
    or_word (bit_or (bit_or a b) c) d (λ q. (A q || B q) || C q) D
    (or_word (bit_or a b) c (λ q. A q || B q) C (or_word a b A B ea eb) ec) ed
    ∙ word_of-same (λ q. ((A q || B q) || C q) || D q) (λ q. A q || (B q || (C q || (D q || false)))) (λ q _. or_four (A q) (B q) (C q) (D q))

pub rising_four : (p : Position) (s : ℕ) (rays : List ℕ) (a b c d : ℕ) → s < 64 → rays ≡ slice_index_or RISING s [] →
    a ≡ word_of (is_in (outflanked p (rising (slice_index_or rays 0 0)))) →
    b ≡ word_of (is_in (outflanked p (rising (slice_index_or rays 1 0)))) →
    c ≡ word_of (is_in (outflanked p (rising (slice_index_or rays 2 0)))) →
    d ≡ word_of (is_in (outflanked p (rising (slice_index_or rays 3 0)))) →
    bit_or (bit_or (bit_or a b) c) d ≡ word_of (λ q. list_any (λ d. is_in (flipped_along p s d) q) rising_directions)
unfolding rising_directions
rising_four p s rays a b c d l r ea eb ec ed =
    or_words4 a b c d
    (is_in (flipped_along p s (record { columns = Forth; rows = Stay })))
    (is_in (flipped_along p s (record { columns = Forth; rows = Forth })))
    (is_in (flipped_along p s (record { columns = Stay; rows = Forth })))
    (is_in (flipped_along p s (record { columns = Back; rows = Forth })))
    (outflanked_by rising RISING 0 (record { columns = Forth; rows = Stay }) p s rays a east l r ea)
    (outflanked_by rising RISING 1 (record { columns = Forth; rows = Forth }) p s rays b south_east l r eb)
    (outflanked_by rising RISING 2 (record { columns = Stay; rows = Forth }) p s rays c south l r ec)
    (outflanked_by rising RISING 3 (record { columns = Back; rows = Forth }) p s rays d south_west l r ed)

pub falling_four : (p : Position) (s : ℕ) (rays : List ℕ) (a b c d : ℕ) → s < 64 → rays ≡ slice_index_or FALLING s [] →
    a ≡ word_of (is_in (outflanked p (falling (slice_index_or rays 0 0)))) →
    b ≡ word_of (is_in (outflanked p (falling (slice_index_or rays 1 0)))) →
    c ≡ word_of (is_in (outflanked p (falling (slice_index_or rays 2 0)))) →
    d ≡ word_of (is_in (outflanked p (falling (slice_index_or rays 3 0)))) →
    bit_or (bit_or (bit_or a b) c) d ≡ word_of (λ q. list_any (λ d. is_in (flipped_along p s d) q) falling_directions)
unfolding falling_directions
falling_four p s rays a b c d l r ea eb ec ed =
    or_words4 a b c d
    (is_in (flipped_along p s (record { columns = Stay; rows = Back })))
    (is_in (flipped_along p s (record { columns = Forth; rows = Back })))
    (is_in (flipped_along p s (record { columns = Back; rows = Stay })))
    (is_in (flipped_along p s (record { columns = Back; rows = Back })))
    (outflanked_by falling FALLING 0 (record { columns = Stay; rows = Back }) p s rays a north l r ea)
    (outflanked_by falling FALLING 1 (record { columns = Forth; rows = Back }) p s rays b north_east l r eb)
    (outflanked_by falling FALLING 2 (record { columns = Back; rows = Stay }) p s rays c west l r ec)
    (outflanked_by falling FALLING 3 (record { columns = Back; rows = Back }) p s rays d north_west l r ed)

-- each ray is a word
is_word : List (List ℕ) → ℕ → ℕ → Bool
is_word table i s = nat_lt (slice_index_or (slice_index_or table s []) i 0) (2 ^ 64)

are_words : List (List ℕ) → ℕ → Bool
are_words table i = agree_below (is_word table i) (λ _. true) 64

ray_fits : (table : List (List ℕ)) (i s : ℕ) (rays : List ℕ) → agree_below (are_words table) (λ _. true) 4 ≡ true → i < 4 → s < 64 → rays ≡ slice_index_or table s [] → slice_index_or rays i 0 < 2 ^ 64
unfolding is_word are_words
ray_fits table i s rays computed li ls r =
    rw r (ltb-true (slice_index_or (slice_index_or table s []) i 0) (2 ^ 64)
    (agree_below_at (is_word table i) (λ _. true) 64 s (agree_below_at (are_words table) (λ _. true) 4 i computed li) ls))

pub rising_fits : (i s : ℕ) (rays : List ℕ) → i < 4 → s < 64 → rays ≡ slice_index_or RISING s [] → slice_index_or rays i 0 < 2 ^ 64
unfolding is_word are_words
rising_fits i s rays li ls r = ray_fits RISING i s rays refl li ls r

pub falling_fits : (i s : ℕ) (rays : List ℕ) → i < 4 → s < 64 → rays ≡ slice_index_or FALLING s [] → slice_index_or rays i 0 < 2 ^ 64
unfolding is_word are_words
falling_fits i s rays li ls r = ray_fits FALLING i s rays refl li ls r
