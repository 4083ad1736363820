-- The words of the search for stable discs: which squares are backed, and which are in line with an empty one.
use Rattle.std.proofs.Common.{◌≡◌, ◌≢◌, ℕ, ◌-◌, ◌^◌, ◌<◌, Bool, true, false, not, eqb, ◌&&◌, ◌||◌, List, [], refl, sym, ap, ◌∙◌, inl, inr, arith}
use Rattle.std.specs.Prelude.{bit_and, bit_or, slice_index_or}
use Rattle.std.proofs.lemmas.Bool.{cases_Bool, eqb-true, eq-eqb, or_cases, and_parts, agree_below, agree_below_at, false≢true}
use Rattle.std.proofs.lemmas.Nat.{and_le_l, pow_below}
use Rattle.oth_rules.specs.Square.{Direction, Back, Stay, Forth, has, word_of, next, stepped, square_at, ray_from, ray, is_in}
use Rattle.oth_rules.specs.Position.{Position, IsBoard, is_theirs, is_empty}
use Rattle.oth_rules.specs.Line.{reversed, is_next}
use Rattle.oth_rules.specs.Stable.{AreStable, Adds, Reaches, IsReach, is_backed}
use Rattle.oth_rules.specs.declared.tables.line_masks.TheConstants.{LINE_MASKS}
use Rattle.oth_rules.proofs.Bits.{has-and, has-or, has-not, has-pow, has-zero, has-word_of, is_word_of}
use Rattle.oth_rules.proofs.Lines.{is_next-same}
use Rattle.oth_rules.proofs.Positions.{is_theirs-has}
use Rattle.oth_rules.proofs.Rays.{and_false}
use Rattle.oth_rules.proofs.Shelters.{backed-stable}
use Rattle.oth_rules.proofs.Words.{or_word}

-- ---- backed squares

everywhere : (s : ℕ) → s < 64 → has (2 ^ 64 - 1 - 0) s ≡ true
everywhere s l = has-not 0 s (omega arith) l ∙ ap not (has-zero s)

not_word : (w : ℕ) (f : ℕ → Bool) → w < 2 ^ 64 → ((s : ℕ) → s < 64 → has w s ≡ f s) → 2 ^ 64 - 1 - w ≡ word_of (λ s. not (f s))
not_word w f l h =
    is_word_of (2 ^ 64 - 1 - w) (λ s. not (f s)) (omega arith) (λ s k. has-not w s l k ∙ ap not (h s k))

and_below : (a b : ℕ) → a < 2 ^ 64 → bit_and a b < 2 ^ 64
and_below a b l = omega (arith, and_le_l a b, l)

beside : (d : Direction) (w : ℕ) → w ≡ word_of (is_next d (has (2 ^ 64 - 1 - 0))) → (s : ℕ) → s < 64 → has w s ≡ is_next d (λ t. true) s
beside d w e s l =
    ap (λ x. has x s) e ∙ has-word_of (is_next d (has (2 ^ 64 - 1 - 0))) s l
    ∙ is_next-same d (has (2 ^ 64 - 1 - 0)) (λ t. true) s l everywhere

pub backed_word : (d back : Direction) (reached held a b c e : ℕ) → reached < 2 ^ 64 → back ≡ reversed d →
    a ≡ word_of (is_next d (has (2 ^ 64 - 1 - 0))) → b ≡ word_of (is_next back (has (2 ^ 64 - 1 - 0))) →
    c ≡ word_of (is_next d (has held)) → e ≡ word_of (is_next back (has held)) →
    bit_or (2 ^ 64 - 1 - bit_and reached (bit_and a b)) (bit_or c e) ≡ word_of (is_backed d (has reached) (has held))
unfolding is_backed
backed_word d back reached held a b c e l turned ea eb ec ee =
    or_word (2 ^ 64 - 1 - bit_and reached (bit_and a b)) (bit_or c e) (λ s. not (exposed s)) (λ s. is_next d (has held) s || is_next (reversed d) (has held) s)
    (not_word (bit_and reached (bit_and a b)) exposed (and_below reached (bit_and a b) l) each)
    (or_word c e (is_next d (has held)) (is_next (reversed d) (has held)) ec (ee ∙ ap (λ f. word_of (is_next f (has held))) turned))
  where
    exposed : ℕ → Bool
    exposed s = has reached s && (is_next d (λ t. true) s && is_next (reversed d) (λ t. true) s)

    each : (s : ℕ) → s < 64 → has (bit_and reached (bit_and a b)) s ≡ exposed s
    each s k =
        has-and reached (bit_and a b) s
        ∙ ap (λ x. has reached s && x)
        (has-and a b s ∙ ap (λ x. x && has b s) (beside d a ea s k)
        ∙ ap (λ x. is_next d (λ t. true) s && x) (beside back b eb s k ∙ ap (λ f. is_next f (λ t. true) s) turned))

-- ---- squares in line

abbrev in_line : Direction → ℕ → ℕ → Bool
in_line d e s = is_in (ray d e) s || is_in (ray (reversed d) e) s

covers : ℕ → Direction → ℕ → Bool
covers i d e =
    agree_below (λ s. not (in_line d e s) || has (slice_index_or (slice_index_or LINE_MASKS e []) i 0) s) (λ _. true) 64

row_covers : agree_below (covers 0 (record { columns = Forth; rows = Stay })) (λ _. true) 64 ≡ true
unfolding covers has is_in ray ray_from next stepped square_at
row_covers = refl

falling_covers : agree_below (covers 1 (record { columns = Forth; rows = Forth })) (λ _. true) 64 ≡ true
unfolding covers has is_in ray ray_from next stepped square_at
falling_covers = refl

column_covers : agree_below (covers 2 (record { columns = Stay; rows = Forth })) (λ _. true) 64 ≡ true
unfolding covers has is_in ray ray_from next stepped square_at
column_covers = refl

rising_covers : agree_below (covers 3 (record { columns = Back; rows = Forth })) (λ _. true) 64 ≡ true
unfolding covers has is_in ray ray_from next stepped square_at
rising_covers = refl

or_right : (a b : Bool) → b ≡ true → (a || b) ≡ true
or_right true b e = refl
or_right false b e = e

mask_adds : (i : ℕ) (d : Direction) (e old : ℕ) (masks : List ℕ) → agree_below (covers i d) (λ _. true) 64 ≡ true → e < 64 →
    masks ≡ slice_index_or LINE_MASKS e [] → Adds d e old (bit_or old (slice_index_or masks i 0))
unfolding covers
mask_adds i d e old masks computed l is s k h =
    let table = slice_index_or (slice_index_or LINE_MASKS e []) i 0 in
    ap (λ m. has (bit_or old (slice_index_or m i 0)) s) is ∙ has-or old table s
    ∙ elim (or_cases (has old s) (in_line d e s) h) [
      | inl kept ↦ ap (λ b. b || has table s) kept
      | inr added ↦ or_right (has old s) (has table s)
          (sym (ap (λ b. not b || has table s) added)
          ∙ agree_below_at (λ t. not (in_line d e t) || has table t) (λ _. true) 64 s (agree_below_at (covers i d) (λ _. true) 64 e computed l) k)
    ]

pub row_adds : (e old : ℕ) (masks : List ℕ) → e < 64 → masks ≡ slice_index_or LINE_MASKS e [] → Adds (record { columns = Forth; rows = Stay }) e old (bit_or old (slice_index_or masks 0 0))
row_adds e old masks l is = mask_adds 0 (record { columns = Forth; rows = Stay }) e old masks row_covers l is

pub falling_adds : (e old : ℕ) (masks : List ℕ) → e < 64 → masks ≡ slice_index_or LINE_MASKS e [] → Adds (record { columns = Forth; rows = Forth }) e old (bit_or old (slice_index_or masks 1 0))
falling_adds e old masks l is = mask_adds 1 (record { columns = Forth; rows = Forth }) e old masks falling_covers l is

pub column_adds : (e old : ℕ) (masks : List ℕ) → e < 64 → masks ≡ slice_index_or LINE_MASKS e [] → Adds (record { columns = Stay; rows = Forth }) e old (bit_or old (slice_index_or masks 2 0))
column_adds e old masks l is = mask_adds 2 (record { columns = Stay; rows = Forth }) e old masks column_covers l is

pub rising_adds : (e old : ℕ) (masks : List ℕ) → e < 64 → masks ≡ slice_index_or LINE_MASKS e [] → Adds (record { columns = Back; rows = Forth }) e old (bit_or old (slice_index_or masks 3 0))
rising_adds e old masks l is = mask_adds 3 (record { columns = Back; rows = Forth }) e old masks rising_covers l is

-- ---- the empty squares one after another

-- the word has what is in line with an empty square that is not left
abbrev pub Covered : Position → ℕ → Direction → ℕ → Type 0
Covered p left d word =
    (e s : ℕ) → e < 64 → s < 64 → is_empty p e ≡ true → has left e ≡ false → (is_in (ray d e) s || is_in (ray (reversed d) e) s) ≡ true → has word s ≡ true

pub Covered-all : (p : Position) (left word : ℕ) (d : Direction) → left ≡ word_of (is_empty p) → Covered p left d word
Covered-all p left word d is e s le ls empty gone line =
    absurd (false≢true (sym gone ∙ ap (λ w. has w e) is ∙ has-word_of (is_empty p) e le ∙ empty))

pub Covered-none : (p : Position) (left word : ℕ) (d : Direction) → left ≡ 0 → Covered p left d word → Reaches p d (has word)
Covered-none p left word d none covered e s le ls empty line = covered e s le ls empty (ap (λ w. has w e) none ∙ has-zero e) line

-- what is left without one square
has-without : (left k bit s : ℕ) → k < 64 → s < 64 → bit ≡ 2 ^ k → has (bit_and left (2 ^ 64 - 1 - bit)) s ≡ (has left s && not (eqb k s))
has-without left k bit s lk ls is =
    has-and left (2 ^ 64 - 1 - bit) s
    ∙ ap (λ b. has left s && b) (has-not bit s (rw is (pow_below k 64 lk)) ls ∙ ap not (ap (λ w. has w s) is ∙ has-pow k s))

pub Covered-more : (p : Position) (left k bit old new : ℕ) (d : Direction) → k < 64 → bit ≡ 2 ^ k → Adds d k old new →
    Covered p left d old → Covered p (bit_and left (2 ^ 64 - 1 - bit)) d new
Covered-more p left k bit old new d lk is adds covered e s le ls empty gone line =
    elim (cases_Bool (has left e)) [
      | inr taken ↦ adds s ls (ap (λ b. b || in_line d k s) (covered e s le ls empty taken line))
      | inl waits ↦ elim (cases_Bool (eqb k e)) [
        | inl same ↦ adds s ls (or_right (has old s) (in_line d k s) (ap (λ x. in_line d x s) (eqb-true k e same) ∙ line))
        | inr other ↦ absurd (false≢true (sym gone ∙ has-without left k bit e lk le is ∙ ap (λ b. b && not (eqb k e)) waits ∙ ap not other))
      ]
    ]

pub less-without : (left k bit : ℕ) → k < 64 → bit ≡ 2 ^ k → has left k ≡ true → bit_and left (2 ^ 64 - 1 - bit) < left
less-without left k bit lk is there =
    let rest : ℕ = bit_and left (2 ^ 64 - 1 - bit) in
    let differs : rest ≢ left = λ e. absurd (false≢true
    (sym (has-without left k bit k lk lk is ∙ ap (λ b. has left k && not b) (eq-eqb k k refl) ∙ and_false (has left k)) ∙ ap (λ w. has w k) e ∙ there)) in
    omega (arith, and_le_l left (2 ^ 64 - 1 - bit))

-- ---- one round

pub more_stable : (p : Position) (held row falling column rising opp a b c e : ℕ) → IsBoard p → opp ≡ p.opp → AreStable p held → IsReach p row falling column rising →
    a ≡ word_of (is_backed (record { columns = Forth; rows = Stay }) (has row) (has held)) →
    b ≡ word_of (is_backed (record { columns = Forth; rows = Forth }) (has falling) (has held)) →
    c ≡ word_of (is_backed (record { columns = Stay; rows = Forth }) (has column) (has held)) →
    e ≡ word_of (is_backed (record { columns = Back; rows = Forth }) (has rising) (has held)) →
    AreStable p (bit_and (bit_and (bit_and (bit_and opp a) b) c) e)
more_stable p held row falling column rising opp a b c e board is held_stable reach ea eb ec ee s l h =
    let first = both (bit_and (bit_and (bit_and opp a) b) c) e h in
    let second = both (bit_and (bit_and opp a) b) c first.0 in
    let third = both (bit_and opp a) b second.0 in
    let fourth = both opp a third.0 in
    let theirs : is_theirs p s ≡ true = is_theirs-has p board s ∙ ap (λ w. has w s) (sym is) ∙ fourth.0 in (
      theirs,
      backed-stable p held (has row) (has falling) (has column) (has rising) held_stable
          reach.along_row reach.along_falling reach.along_column reach.along_rising s l theirs
          (found a (is_backed (record { columns = Forth; rows = Stay }) (has row) (has held)) ea fourth.1)
          (found b (is_backed (record { columns = Forth; rows = Forth }) (has falling) (has held)) eb third.1)
          (found c (is_backed (record { columns = Stay; rows = Forth }) (has column) (has held)) ec second.1)
          (found e (is_backed (record { columns = Back; rows = Forth }) (has rising) (has held)) ee first.1),
    )
  where
    both : (x y : ℕ) → has (bit_and x y) s ≡ true → (has x s ≡ true) × (has y s ≡ true)
    both x y t = and_parts (has x s) (has y s) (sym (has-and x y s) ∙ t)

    found : (w : ℕ) (f : ℕ → Bool) → w ≡ word_of f → has w s ≡ true → f s ≡ true
    found w f same t = sym (ap (λ x. has x s) same ∙ has-word_of f s l) ∙ t

-- no disc is found yet
pub none_stable : (p : Position) → AreStable p 0
none_stable p s l h = absurd (false≢true (sym (has-zero s) ∙ h))
