-- Squares of a word that are exchanged with others, and words carried along a symmetry by such exchanges.
use Rattle.std.proofs.Common.{◌≡◌, ℕ, ◌+◌, ◌-◌, ◌*◌, ◌/◌, ◌%◌, ◌^◌, ◌<◌, Bool, true, false, not, ◌&&◌, ◌||◌, refl, sym, ap, ◌∙◌, inl, inr, arith}
use Rattle.std.specs.Prelude.{if◌then◌else◌, ◌==◌, nat_lt, nat_le, bit_and, bit_or}
use Rattle.std.proofs.lemmas.Bool.{cases_lt, false≢true, eqb-true, ltb-true, le-leb, lt-leb, and_parts, agree_below, agree_below_at}
use Rattle.std.proofs.lemmas.Nat.{and_le_l, and_le_r, or_lt}
use Rattle.oth_rules.specs.Square.{has, word_of}
use Rattle.oth_rules.specs.Symmetry.{turned_if, map_square, unmap_square, map_word, unmap_word}
use Rattle.oth_rules.specs.Exchange.{exchanged_square, mirrored_square, flipped_square, transposed_square}
use Rattle.oth_rules.proofs.Bits.{has-and, has-or, has-not, has-zero, has-shr, has-shl_high, has-shl_low, has-word_of, is_word_of, word_of-same}
use Rattle.oth_rules.proofs.Symmetries.{everywhere, everywhere-at, carries}

-- bit q of a word shifted up
shl_is : (w k q : ℕ) → q < 64 → has (w * 2 ^ k % 2 ^ 64) q ≡ (nat_le k q && has w (q - k))
shl_is w k q l =
    elim (cases_lt q k) [
      | inl below ↦ has-shl_low w k q l below ∙ sym (ap (λ b. b && has w (q - k)) (lt-leb k q below))
      | inr from ↦ has-shl_high w k q l from ∙ sym (ap (λ b. b && has w (q - k)) (le-leb k q from))
    ]

choice : (a b w x y : Bool) → (a && b) ≡ false → (((w && not (a || b)) || (x && a)) || (y && b)) ≡ (if a then x else if b then y else w)
choice true true w x y e = absurd (false≢true (sym e))
choice true false true true true e = refl
choice true false true true false e = refl
choice true false true false true e = refl
choice true false true false false e = refl
choice true false false true true e = refl
choice true false false true false e = refl
choice true false false false true e = refl
choice true false false false false e = refl
choice false true true true true e = refl
choice false true true true false e = refl
choice false true true false true e = refl
choice false true true false false e = refl
choice false true false true true e = refl
choice false true false true false e = refl
choice false true false false true e = refl
choice false true false false false e = refl
choice false false true true true e = refl
choice false false true true false e = refl
choice false false true false true e = refl
choice false false true false false e = refl
choice false false false true true e = refl
choice false false false true false e = refl
choice false false false false true e = refl
choice false false false false false e = refl

has-choice : (w : ℕ) (a b : Bool) (x y z : ℕ) → (if a then has w x else if b then has w y else has w z) ≡ has w (if a then x else if b then y else z)
has-choice w true b x y z = refl
has-choice w false true x y z = refl
has-choice w false false x y z = refl

shifted_part : (w m k q : ℕ) → (nat_le k q && has (bit_and w m) (q - k)) ≡ (has w (q - k) && (nat_le k q && has m (q - k)))
shifted_part w m k q = ap (λ b. nat_le k q && b) (has-and w m (q - k)) ∙ turn (nat_le k q) (has w (q - k)) (has m (q - k))
  where
    turn : (x y z : Bool) → (x && (y && z)) ≡ (y && (x && z))
    turn true true z = refl
    turn true false z = refl
    turn false true z = refl
    turn false false z = refl

pub exchanged_word : (w m k : ℕ) → w < 2 ^ 64 → m < 2 ^ 64 → bit_and m (m * 2 ^ k % 2 ^ 64) ≡ 0 →
    bit_or (bit_or (bit_and w (2 ^ 64 - 1 - bit_or m (m * 2 ^ k % 2 ^ 64))) (bit_and (w / 2 ^ k) m)) (bit_and w m * 2 ^ k % 2 ^ 64)
    ≡ word_of (λ q. has w (exchanged_square m k q))
unfolding exchanged_square
exchanged_word w m k lw lm apart =
    is_word_of
    (bit_or (bit_or (bit_and w (2 ^ 64 - 1 - bit_or m (m * 2 ^ k % 2 ^ 64))) (bit_and (w / 2 ^ k) m)) (bit_and w m * 2 ^ k % 2 ^ 64))
    (λ q. has w (exchanged_square m k q))
    (or_lt 64 (bit_or (bit_and w (2 ^ 64 - 1 - bit_or m (m * 2 ^ k % 2 ^ 64))) (bit_and (w / 2 ^ k) m)) (bit_and w m * 2 ^ k % 2 ^ 64)
    (or_lt 64 (bit_and w (2 ^ 64 - 1 - bit_or m (m * 2 ^ k % 2 ^ 64))) (bit_and (w / 2 ^ k) m)
    (omega (arith, and_le_l w (2 ^ 64 - 1 - bit_or m (m * 2 ^ k % 2 ^ 64)))) (omega (arith, and_le_r (w / 2 ^ k) m)))
    (omega arith))
    (λ q l.
    has-or (bit_or (bit_and w (2 ^ 64 - 1 - bit_or m (m * 2 ^ k % 2 ^ 64))) (bit_and (w / 2 ^ k) m)) (bit_and w m * 2 ^ k % 2 ^ 64) q
    ∙ ap (λ b. b || has (bit_and w m * 2 ^ k % 2 ^ 64) q)
    (has-or (bit_and w (2 ^ 64 - 1 - bit_or m (m * 2 ^ k % 2 ^ 64))) (bit_and (w / 2 ^ k) m) q
    ∙ ap (λ b. b || has (bit_and (w / 2 ^ k) m) q)
    (has-and w (2 ^ 64 - 1 - bit_or m (m * 2 ^ k % 2 ^ 64)) q
    ∙ ap (λ b. has w q && b) (has-not (bit_or m (m * 2 ^ k % 2 ^ 64)) q (or_lt 64 m (m * 2 ^ k % 2 ^ 64) lm (omega arith)) l
    ∙ ap not (has-or m (m * 2 ^ k % 2 ^ 64) q ∙ ap (λ b. has m q || b) (shl_is m k q l))))
    ∙ ap (λ b. (has w q && not (has m q || (nat_le k q && has m (q - k)))) || b) (has-and (w / 2 ^ k) m q ∙ ap (λ b. b && has m q) (has-shr w k q)))
    ∙ ap (λ b. ((has w q && not (has m q || (nat_le k q && has m (q - k)))) || (has w (k + q) && has m q)) || b) (shl_is (bit_and w m) k q l ∙ shifted_part w m k q)
    ∙ choice (has m q) (nat_le k q && has m (q - k)) (has w q) (has w (k + q)) (has w (q - k))
    (ap (λ b. has m q && b) (sym (shl_is m k q l)) ∙ sym (has-and m (m * 2 ^ k % 2 ^ 64) q) ∙ ap (λ v. has v q) apart ∙ has-zero q)
    ∙ ap (λ x. if has m q then has w x else if nat_le k q && has m (q - k) then has w (q - k) else has w q) (add_turn k q)
    ∙ has-choice w (has m q) (nat_le k q && has m (q - k)) (q + k) (q - k) q)
  where
    add_turn : (x y : ℕ) → x + y ≡ y + x
    add_turn x y = omega arith

-- ---- three exchanges in a row

three_table : (ℕ → ℕ) → (ℕ → ℕ) → (ℕ → ℕ) → (ℕ → ℕ) → ℕ → Bool
three_table f g h σ q = nat_lt (h q) 64 && (nat_lt (g (h q)) 64 && (f (g (h q)) == σ q))

three : (w a b r : ℕ) (f g h σ : ℕ → ℕ) → a ≡ word_of (λ q. has w (f q)) → b ≡ word_of (λ q. has a (g q)) → r ≡ word_of (λ q. has b (h q)) →
    ((q : ℕ) → q < 64 → three_table f g h σ q ≡ true) → r ≡ word_of (λ q. has w (σ q))
unfolding three_table
three w a b r f g h σ ea eb er t =
    er ∙ word_of-same (λ q. has b (h q)) (λ q. has w (σ q))
    (λ q l.
    let first = and_parts (nat_lt (h q) 64) (nat_lt (g (h q)) 64 && (f (g (h q)) == σ q)) (t q l) in
    let second = and_parts (nat_lt (g (h q)) 64) (f (g (h q)) == σ q) first.1 in
    ap (λ v. has v (h q)) eb ∙ has-word_of (λ q. has a (g q)) (h q) (ltb-true (h q) 64 first.0)
    ∙ ap (λ v. has v (g (h q))) ea ∙ has-word_of (λ q. has w (f q)) (g (h q)) (ltb-true (g (h q)) 64 second.0)
    ∙ ap (has w) (eqb-true (f (g (h q))) (σ q) second.1))

mirrored_table : agree_below
    (three_table (exchanged_square 0x5555_5555_5555_5555 1) (exchanged_square 0x3333_3333_3333_3333 2) (exchanged_square 0x0f0f_0f0f_0f0f_0f0f 4) mirrored_square)
    (λ _. true) 64
    ≡ true
unfolding three_table exchanged_square mirrored_square has
mirrored_table = refl

flipped_table : agree_below
    (three_table (exchanged_square 0x00ff_00ff_00ff_00ff 8) (exchanged_square 0x0000_ffff_0000_ffff 16) (exchanged_square 0x0000_0000_ffff_ffff 32) flipped_square)
    (λ _. true) 64
    ≡ true
unfolding three_table exchanged_square flipped_square has
flipped_table = refl

transposed_table : agree_below
    (three_table (exchanged_square 0x00aa_00aa_00aa_00aa 7) (exchanged_square 0x0000_cccc_0000_cccc 14) (exchanged_square 0x0000_0000_f0f0_f0f0 28) transposed_square)
    (λ _. true) 64
    ≡ true
unfolding three_table exchanged_square transposed_square has
transposed_table = refl

pub mirrored_word : (w a b r : ℕ) → a ≡ word_of (λ q. has w (exchanged_square 0x5555_5555_5555_5555 1 q)) → b ≡ word_of (λ q. has a (exchanged_square 0x3333_3333_3333_3333 2 q))
    → r ≡ word_of (λ q. has b (exchanged_square 0x0f0f_0f0f_0f0f_0f0f 4 q)) → r ≡ word_of (λ q. has w (mirrored_square q))
mirrored_word w a b r ea eb er =
    three w a b r (exchanged_square 0x5555_5555_5555_5555 1) (exchanged_square 0x3333_3333_3333_3333 2) (exchanged_square 0x0f0f_0f0f_0f0f_0f0f 4) mirrored_square ea eb er
    (λ q l.
    agree_below_at (three_table (exchanged_square 0x5555_5555_5555_5555 1) (exchanged_square 0x3333_3333_3333_3333 2) (exchanged_square 0x0f0f_0f0f_0f0f_0f0f 4) mirrored_square)
    (λ _. true) 64 q mirrored_table l)

pub flipped_word : (w a b r : ℕ) → a ≡ word_of (λ q. has w (exchanged_square 0x00ff_00ff_00ff_00ff 8 q)) → b ≡ word_of (λ q. has a (exchanged_square 0x0000_ffff_0000_ffff 16 q))
    → r ≡ word_of (λ q. has b (exchanged_square 0x0000_0000_ffff_ffff 32 q)) → r ≡ word_of (λ q. has w (flipped_square q))
flipped_word w a b r ea eb er =
    three w a b r (exchanged_square 0x00ff_00ff_00ff_00ff 8) (exchanged_square 0x0000_ffff_0000_ffff 16) (exchanged_square 0x0000_0000_ffff_ffff 32) flipped_square ea eb er
    (λ q l.
    agree_below_at (three_table (exchanged_square 0x00ff_00ff_00ff_00ff 8) (exchanged_square 0x0000_ffff_0000_ffff 16) (exchanged_square 0x0000_0000_ffff_ffff 32) flipped_square)
    (λ _. true) 64 q flipped_table l)

pub transposed_word : (w a b r : ℕ) → a ≡ word_of (λ q. has w (exchanged_square 0x00aa_00aa_00aa_00aa 7 q)) → b ≡ word_of (λ q. has a (exchanged_square 0x0000_cccc_0000_cccc 14 q))
    → r ≡ word_of (λ q. has b (exchanged_square 0x0000_0000_f0f0_f0f0 28 q)) → r ≡ word_of (λ q. has w (transposed_square q))
transposed_word w a b r ea eb er =
    three w a b r (exchanged_square 0x00aa_00aa_00aa_00aa 7) (exchanged_square 0x0000_cccc_0000_cccc 14) (exchanged_square 0x0000_0000_f0f0_f0f0 28) transposed_square ea eb er
    (λ q l.
    agree_below_at (three_table (exchanged_square 0x00aa_00aa_00aa_00aa 7) (exchanged_square 0x0000_cccc_0000_cccc 14) (exchanged_square 0x0000_0000_f0f0_f0f0 28) transposed_square)
    (λ _. true) 64 q transposed_table l)

-- ---- along a symmetry

turn : ℕ → ℕ → (ℕ → ℕ) → ℕ → ℕ
turn s bit f q = if has s bit then f q else q

map_table : everywhere (λ s. three_table (turn s 2 transposed_square) (turn s 0 mirrored_square) (turn s 1 flipped_square) (unmap_square s)) ≡ true
unfolding everywhere three_table turn unmap_square turned_if mirrored_square flipped_square transposed_square has
map_table = refl

unmap_table : everywhere (λ s. three_table (turn s 1 flipped_square) (turn s 0 mirrored_square) (turn s 2 transposed_square) (map_square s)) ≡ true
unfolding everywhere three_table turn map_square turned_if mirrored_square flipped_square transposed_square has
unmap_table = refl

pub map_is : (s w a b r : ℕ) (t m f : Bool) → s < 8 → t ≡ has s 2 → m ≡ has s 0 → f ≡ has s 1 →
    a ≡ word_of (λ q. has w (if t then transposed_square q else q)) → b ≡ word_of (λ q. has a (if m then mirrored_square q else q))
    → r ≡ word_of (λ q. has b (if f then flipped_square q else q)) → r ≡ map_word s w
unfolding map_word turn
map_is s w a b r t m f l et em ef ea eb er =
    three w a b r (turn s 2 transposed_square) (turn s 0 mirrored_square) (turn s 1 flipped_square) (unmap_square s)
    (ea ∙ ap (λ x. word_of (λ q. has w (if x then transposed_square q else q))) et)
    (eb ∙ ap (λ x. word_of (λ q. has a (if x then mirrored_square q else q))) em)
    (er ∙ ap (λ x. word_of (λ q. has b (if x then flipped_square q else q))) ef)
    (λ q k. everywhere-at (λ s. three_table (turn s 2 transposed_square) (turn s 0 mirrored_square) (turn s 1 flipped_square) (unmap_square s)) s q map_table l k)

pub unmap_is : (s w a b r : ℕ) (t m f : Bool) → s < 8 → t ≡ has s 2 → m ≡ has s 0 → f ≡ has s 1 →
    a ≡ word_of (λ q. has w (if f then flipped_square q else q)) → b ≡ word_of (λ q. has a (if m then mirrored_square q else q))
    → r ≡ word_of (λ q. has b (if t then transposed_square q else q)) → r ≡ unmap_word s w
unfolding unmap_word turn
unmap_is s w a b r t m f l et em ef ea eb er =
    three w a b r (turn s 1 flipped_square) (turn s 0 mirrored_square) (turn s 2 transposed_square) (map_square s)
    (ea ∙ ap (λ x. word_of (λ q. has w (if x then flipped_square q else q))) ef)
    (eb ∙ ap (λ x. word_of (λ q. has a (if x then mirrored_square q else q))) em)
    (er ∙ ap (λ x. word_of (λ q. has b (if x then transposed_square q else q))) et)
    (λ q k. everywhere-at (λ s. three_table (turn s 1 flipped_square) (turn s 0 mirrored_square) (turn s 2 transposed_square) (map_square s)) s q unmap_table l k)

-- to carry back undoes to carry
pub unmap_map : (s w : ℕ) → s < 8 → w < 2 ^ 64 → unmap_word s (map_word s w) ≡ w
unfolding unmap_word map_word
unmap_map s w l h =
    let k = carries s l in
    sym (is_word_of w (λ q. has (word_of (λ q. has w (unmap_square s q))) (map_square s q)) h
    (λ q lq. sym (has-word_of (λ q. has w (unmap_square s q)) (map_square s q) (k.back_within q lq) ∙ ap (has w) (k.there q lq))))

pub kept_if : (w : ℕ) (asked : Bool) (f : ℕ → ℕ) → asked ≡ false → w < 2 ^ 64 → w ≡ word_of (λ q. has w (if asked then f q else q))
kept_if w asked f e l = is_word_of w (λ q. has w (if asked then f q else q)) l (λ q _. ap (has w) (sym (ap (λ b. if b then f q else q) e)))
