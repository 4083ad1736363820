-- A line is the line of one entry at most.
use Rattle.std.proofs.Common.{◌≡◌, ◌≢◌, ℕ, zero, suc, ◌+◌, ◌*◌, ◌/◌, ◌%◌, ◌^◌, ◌<◌, ◌≤◌, ◌==◌, ℤ, pos, negsuc, neg_ℤ, unsigned_abs, Bool, true, false, cond, List, [], ◌∷◌}
use Rattle.std.proofs.Common.{◌++◌, length, arith, sym, ap, ◌∙◌, refl, append_assoc, length-append, lit<, lit≤, ◌≤ℤ◌, ◌<ℤ◌, get_or, append-nil, ◌||◌, drop}
use Rattle.std.proofs.Math.Nat.{pow-suc, pow-zero, div-lt_iff_lt-mul, mod-lt}
use Rattle.std.proofs.lemmas.Nat.{div-add-mod'}
use Rattle.std.proofs.lemmas.Bool.Decides.{nat_tests}
use Rattle.oth_rules.specs.Position.{IsBoard, Position}
use Rattle.std.proofs.lemmas.Int.{ints}
use Rattle.oth_rules.specs.Symmetry.{canonical}
use Rattle.oth_search.specs.Bounds.Interval.{IsInterval}
use Rattle.oth_book.specs.declared.claim.Claim.{Claim}
use Rattle.oth_book.specs.declared.version.Version.{Version}
use Rattle.oth_book.specs.declared.version.Version.TheVariants.{One, Two}
use Rattle.oth_book.specs.Order.{cells}
use Rattle.oth_book.specs.Numeral.{numeral, digit_byte}
use Rattle.oth_book.specs.declared.text.shape.Shape.TheVariants.{Entry}
use Rattle.oth_book.specs.Shape.{bounds_len, IsBoundBytes, IsWhole}
use Rattle.oth_book.specs.Text.{entry_line, sign_byte, signed, bounds_text, IsClaim, AreBounds, Says}
use Rattle.oth_book.specs.Fault.{IsEntryAt}
use Rattle.oth_book.proofs.CellLemmas.{length-cells, cells-injective}
use Rattle.oth_book.proofs.NumeralLemmas.{length-numeral}
use Rattle.std.proofs.lemmas.List.{drop_all}
use Rattle.oth_book.proofs.LineLemmas.{joined, joined_same, part, length-part, drop-byte, drop-part, IsEntryBytes, entry_bytes, entry_parts}

-- fronts of one length are the same, and so are the rests
pub append_same : (a b x y : List ℕ) → length a ≡ length b → a ++ x ≡ b ++ y → (a ≡ b) × (x ≡ y)
append_same [] [] x y l e = (refl, e)
append_same [] (d ∷ b) x y l e = absurd (omega arith)
append_same (c ∷ a) [] x y l e = absurd (omega arith)
append_same (c ∷ a) (d ∷ b) x y l e =
    let heads : c ≡ d = cc in
    let tails : a ++ x ≡ b ++ y = cc in
    let rest = append_same a b x y (omega arith) tails in
    (cons_same heads rest.0, rest.1)
  where
    cons_same : {c d : ℕ} {a b : List ℕ} → c ≡ d → a ≡ b → c ∷ a ≡ d ∷ b
    cons_same h t = cc

digit_byte-injective : (a b : ℕ) → a < 16 → b < 16 → digit_byte a ≡ digit_byte b → a ≡ b
digit_byte-injective a b h k e = grind (arith, nat_tests)

pub numeral-injective : (base len a b : ℕ) → 0 < base → base ≤ 16 → a < base ^ len → b < base ^ len → numeral base len a ≡ numeral base len b → a ≡ b
unfolding numeral
numeral-injective base zero a b p q h k e = let one = pow-zero base in omega (arith, one)
numeral-injective base (suc len) a b p q h k e =
    let parts = append_same (numeral base len (a / base)) (numeral base len (b / base)) _ _ (length-numeral base len (a / base) ∙ sym (length-numeral base len (b / base))) e in
    let power = pow-suc base len in
    let high = numeral-injective base len (a / base) (b / base) p q ((div-lt_iff_lt-mul p).1 (omega (arith, power))) ((div-lt_iff_lt-mul p).1 (omega (arith, power))) parts.0 in
    let byte : digit_byte (a % base) ≡ digit_byte (b % base) = cc (parts.1) in
    let ra = mod-lt a p in
    let rb = mod-lt b p in
    let low = digit_byte-injective (a % base) (b % base) (omega arith) (omega arith) byte in
    sym (div-add-mod' a base) ∙ ap (λ x. x * base + a % base) high ∙ ap (λ x. b / base * base + x) low ∙ div-add-mod' b base

pub joined-injective : (a b m n w v x y : List ℕ) → length a ≡ length b → length m ≡ length n → length w ≡ length v
    → joined a m w x ≡ joined b n v y → (a ≡ b) × (m ≡ n) × (w ≡ v) × (x ≡ y)
joined-injective a b m n w v x y la lm lw e =
    let first = append_same a b _ _ la e in
    let second : m ++ (32 ∷ (w ++ (10 ∷ x))) ≡ n ++ (32 ∷ (v ++ (10 ∷ y))) = cc (first.1) in
    let third = append_same m n _ _ lm second in
    let fourth : w ++ (10 ∷ x) ≡ v ++ (10 ∷ y) = cc (third.1) in
    let fifth = append_same w v _ _ lw fourth in
    let rest : x ≡ y = cc (fifth.1) in
    (first.0, third.0, fifth.0, rest)

-- ---- bounds

pub length-signed : (z : ℤ) → length (signed z) ≡ 3
unfolding signed
length-signed z = let e = length-numeral 10 2 (unsigned_abs z) in omega (arith, e)

pub length-bounds_text : (v : Version) (lower upper : ℤ) → length (bounds_text v lower upper) ≡ bounds_len v
unfolding bounds_text
length-bounds_text One lower upper = length-signed lower
length-bounds_text (Two g) lower upper =
    let e = length-append (signed lower) (32 ∷ signed upper) in
    let a = length-signed lower in
    let b = length-signed upper in
    omega (arith, e, a, b)

abs_small : (z : ℤ) → negsuc 63 ≤ℤ z → z ≤ℤ pos 64 → unsigned_abs z < 100
abs_small (pos n) low high = omega (arith, ints, high)
abs_small (negsuc n) low high = omega (arith, ints, low)

pub bounds_small : {lower upper : ℤ} → IsInterval lower upper → (unsigned_abs lower < 100) × (unsigned_abs upper < 100)
bounds_small {lower} {upper} h =
    let low = h.low in
    let ordered = h.ordered in
    let high = h.high in
    (abs_small lower low (omega (arith, ints)), abs_small upper (omega (arith, ints)) high)

score_same : (a b : ℤ) → sign_byte a ≡ sign_byte b → unsigned_abs a ≡ unsigned_abs b → a ≡ b
score_same (pos a) (pos b) s e = ap pos e
score_same (pos a) (negsuc b) s e = absurd (omega (arith, s))
score_same (negsuc a) (pos b) s e = absurd (omega (arith, s))
score_same (negsuc a) (negsuc b) s e = ap negsuc (omega arith)

pub signed-injective : (a b : ℤ) → unsigned_abs a < 100 → unsigned_abs b < 100 → signed a ≡ signed b → a ≡ b
unfolding signed
signed-injective a b ha hb e =
    let sign : sign_byte a ≡ sign_byte b = cc in
    let digits : numeral 10 2 (unsigned_abs a) ≡ numeral 10 2 (unsigned_abs b) = cc in
    score_same a b sign (numeral-injective 10 2 _ _ (lit< tt) (lit≤ tt) ha hb digits)

-- numbers that fit two digits, as the version says them
pub record IsSmall (v : Version) (lower upper : ℤ) : Type 0 where
  pub lower_fits : unsigned_abs lower < 100
  pub upper_fits : unsigned_abs upper < 100
  pub said : Says v lower upper

pub are_small : {v : Version} {a b : ℤ} → AreBounds v a b → IsSmall v a b
are_small h = record { lower_fits = (bounds_small h.interval).0; upper_fits = (bounds_small h.interval).1; said = h.said }

pub bounds_text-injective : (v : Version) (a b c d : ℤ) → IsSmall v a b → IsSmall v c d → bounds_text v a b ≡ bounds_text v c d → (a ≡ c) × (b ≡ d)
unfolding bounds_text
bounds_text-injective One a b c d h k e =
    let low = signed-injective a c h.lower_fits k.lower_fits e in
    (low, sym h.said ∙ low ∙ k.said)
bounds_text-injective (Two g) a b c d h k e =
    let parts = append_same (signed a) (signed c) _ _ (length-signed a ∙ sym (length-signed c)) e in
    let second : signed b ≡ signed d = cc (parts.1) in
    (signed-injective a c h.lower_fits k.lower_fits parts.0, signed-injective b d h.upper_fits k.upper_fits second)

-- ---- reading a bound

bound_parts : (text : List ℕ) → IsBoundBytes text → text ≡ get_or text 0 0 ∷ part 1 2 text
bound_parts text h =
    let len = h.len in
    drop-byte 0 1 _ text (omega arith) refl refl
    ∙ ap (λ xs. get_or text 0 0 ∷ xs) (drop-part 1 2 3 text refl ∙ ap (λ xs. part 1 2 text ++ xs) (drop_all 3 text (omega arith)) ∙ append-nil (part 1 2 text))

sign_cases : (b : ℕ) → (b == 43 || b == 45) ≡ true → b ≡ cond (b == 45) 45 43
sign_cases b h = grind (arith, nat_tests)

-- the number with this sign
abbrev pub bound_of : Bool → ℕ → ℤ
bound_of is_negative n = cond is_negative (neg_ℤ (pos n)) (pos n)

signed_of : (b : Bool) (n : ℕ) → (b ≡ true → 0 < n) → signed (bound_of b n) ≡ cond b 45 43 ∷ numeral 10 2 n
unfolding signed
signed_of false n h = refl
signed_of true zero h = absurd (omega (arith, h refl))
signed_of true (suc n) h = refl

pub bound_read : (text : List ℕ) (b : Bool) (n : ℕ) → IsBoundBytes text → b ≡ (get_or text 0 0 == 45) → part 1 2 text ≡ numeral 10 2 n → (b ≡ true → 0 < n) → text ≡ signed (bound_of b n)
bound_read text b n h is digits some =
    bound_parts text h ∙ ap (λ xs. get_or text 0 0 ∷ xs) digits
    ∙ ap (λ x. x ∷ numeral 10 2 n) (sign_cases (get_or text 0 0) (h.places 0 (lit< tt)) ∙ ap (λ x. cond x 45 43) (sym is)) ∙ sym (signed_of b n some)

-- `-00` is no bound
pub bound_none : (text : List ℕ) → IsBoundBytes text → get_or text 0 0 ≡ 45 → part 1 2 text ≡ numeral 10 2 0 → (z : ℤ) → unsigned_abs z < 100 → text ≡ signed z → ⊥
unfolding signed
bound_none text h is digits (pos n) small e = let heads : get_or text 0 0 ≡ 43 = ap (λ xs. get_or xs 0 0) e in omega (arith, is, heads)
bound_none text h is digits (negsuc n) small e =
    let whole : get_or text 0 0 ∷ part 1 2 text ≡ 45 ∷ numeral 10 2 (suc n) = sym (bound_parts text h) ∙ e in
    let tails : part 1 2 text ≡ numeral 10 2 (suc n) = cc (whole) in
    let same = numeral-injective 10 2 (suc n) 0 (lit< tt) (lit≤ tt) small (lit< tt) (sym tails ∙ digits) in
    omega (arith, same)

-- ---- entries

pub entry_line-append : (v : Version) (c : Claim) (after : List ℕ) → entry_line v c ++ after ≡ joined (cells c.board) (bounds_text v c.lower c.upper) (numeral 16 16 c.best) after
unfolding entry_line
entry_line-append v c after = simp append_assoc

claim_same : (c d : Claim) → c.board ≡ d.board → c.lower ≡ d.lower → c.upper ≡ d.upper → c.best ≡ d.best → c ≡ d
claim_same c d e f h g =
    let mk : Position → ℤ → ℤ → ℕ → Claim = λ b l u w. record { board = b; lower = l; upper = u; best = w } in
    ap (λ b. mk b c.lower c.upper c.best) e ∙ ap (λ l. mk d.board l c.upper c.best) f ∙ ap (λ u. mk d.board d.lower u c.best) h ∙ ap (λ w. mk d.board d.lower d.upper w) g

-- the parts of the line of an entry
pub entry_line-parts : (v : Version) (c : Claim) (p bounds best x y : List ℕ) → length p ≡ 64 → length bounds ≡ bounds_len v → length best ≡ 16
    → entry_line v c ++ x ≡ joined p bounds best y → (cells c.board ≡ p) × (bounds_text v c.lower c.upper ≡ bounds) × (numeral 16 16 c.best ≡ best) × (x ≡ y)
entry_line-parts v c p bounds best x y lp lb lw e =
    joined-injective (cells c.board) p (bounds_text v c.lower c.upper) bounds (numeral 16 16 c.best) best x y
    (length-cells c.board ∙ sym lp) (length-bounds_text v c.lower c.upper ∙ sym lb) (length-numeral 16 16 c.best ∙ sym lw) (sym (entry_line-append v c x) ∙ e)

-- a text begins with the line of one entry at most
pub entry_line-injective : (v : Version) (c d : Claim) (x y : List ℕ) → IsClaim v c → IsClaim v d → entry_line v c ++ x ≡ entry_line v d ++ y → (c ≡ d) × (x ≡ y)
entry_line-injective v c d x y hc hd e =
    let same = entry_line-parts v c (cells d.board) (bounds_text v d.lower d.upper) (numeral 16 16 d.best) x y
    (length-cells d.board) (length-bounds_text v d.lower d.upper) (length-numeral 16 16 d.best) (e ∙ entry_line-append v d y) in
    let bounds = bounds_text-injective v c.lower c.upper d.lower d.upper (are_small hc.bounds) (are_small hd.bounds) same.1 in
    let best = numeral-injective 16 16 c.best d.best (lit< tt) (lit≤ tt) (omega (arith, hc.best)) (omega (arith, hd.best)) same.2 in
    (claim_same c d (cells-injective c.board d.board hc.board hd.board same.0) bounds.0 bounds.1 best, same.3)

-- ---- reading an entry

-- the parts of a line by place are those of each entry that it begins with
at_parts : (v : Version) (line : List ℕ) (c : Claim) → IsEntryBytes (bounds_len v) line → IsEntryAt v line c
    → (cells c.board ≡ part 0 64 line) × (bounds_text v c.lower c.upper ≡ part 65 (bounds_len v) line) × (numeral 16 16 c.best ≡ part (66 + bounds_len v) 16 line)
at_parts v line c whole at =
    let len = whole.len in
    let parts = entry_line-parts v c (part 0 64 line) (part 65 (bounds_len v) line) (part (66 + bounds_len v) 16 line) at.line.0 (drop (83 + bounds_len v) line)
    (length-part 0 64 line (enough0 (bounds_len v) _ len)) (length-part 65 (bounds_len v) line (enough1 (bounds_len v) _ len)) (length-part (66 + bounds_len v) 16 line (enough2 (bounds_len v) _ len))
    (sym at.line.1 ∙ entry_parts (bounds_len v) line whole) in
    (parts.0, parts.1, parts.2)
  where
    enough0 : (n len : ℕ) → 83 + n ≤ len → 0 + 64 ≤ len
    enough0 n len h = omega arith

    enough1 : (n len : ℕ) → 83 + n ≤ len → 65 + n ≤ len
    enough1 n len h = omega arith

    enough2 : (n len : ℕ) → 83 + n ≤ len → 66 + n + 16 ≤ len
    enough2 n len h = omega arith

pub no_bounds_at : (v : Version) (line text : List ℕ) → IsWhole (Entry v) line → text ≡ part 65 (bounds_len v) line
    → ((lower upper : ℤ) → AreBounds v lower upper → text ≢ bounds_text v lower upper) → (c : Claim) → IsEntryAt v line c → ⊥
no_bounds_at v line text whole is none c at = none c.lower c.upper at.claim.bounds (is ∙ sym (at_parts v line c (entry_bytes v line whole) at).1)

pub is_entry_at : (v : Version) (line : List ℕ) (p : Position) (l u : ℤ) (w : ℕ) → IsWhole (Entry v) line → cells p ≡ part 0 64 line → IsBoard p → AreBounds v l u
    → part 65 (bounds_len v) line ≡ bounds_text v l u → part (66 + bounds_len v) 16 line ≡ numeral 16 16 w → w < 2 ^ 64 → canonical p ≡ p → (l <ℤ u → w ≡ 0)
    → IsEntryAt v line (record { board = p; lower = l; upper = u; best = w })
is_entry_at v line p l u w whole cells_are board bounds bounds_are best_are best canonical_is undecided =
    let c : Claim = record { board = p; lower = l; upper = u; best = w } in
    record {
      claim = record { board = board; canonical = canonical_is; bounds = bounds; best = best; undecided = undecided };
      line = (
        drop (83 + bounds_len v) line,
        entry_parts (bounds_len v) line (entry_bytes v line whole) ∙ joined_same (drop (83 + bounds_len v) line) (sym cells_are) bounds_are best_are
            ∙ sym (entry_line-append v c (drop (83 + bounds_len v) line)),
      );
    }

pub no_entry_at : (v : Version) (line : List ℕ) (p : Position) (l u : ℤ) (w : ℕ) → IsWhole (Entry v) line → cells p ≡ part 0 64 line → IsBoard p → AreBounds v l u
    → part 65 (bounds_len v) line ≡ bounds_text v l u → part (66 + bounds_len v) 16 line ≡ numeral 16 16 w → w < 2 ^ 64 → ((canonical p ≡ p) × (l <ℤ u → w ≡ 0) → ⊥)
    → (c : Claim) → IsEntryAt v line c → ⊥
no_entry_at v line p l u w whole cells_are board bounds bounds_are best_are best none c at =
    let parts = at_parts v line c (entry_bytes v line whole) at in
    let same_board : c.board ≡ p = cells-injective c.board p at.claim.board board (parts.0 ∙ sym cells_are) in
    let same_bounds = bounds_text-injective v c.lower c.upper l u (are_small at.claim.bounds) (are_small bounds) (parts.1 ∙ bounds_are) in
    let same_best : c.best ≡ w = numeral-injective 16 16 c.best w (lit< tt) (lit≤ tt) (let b = at.claim.best in omega arith) (omega arith) (parts.2 ∙ best_are) in
    none (rw (← same_board) at.claim.canonical, rw (← same_bounds.0, ← same_bounds.1, ← same_best) at.claim.undecided)

pub length-best : (v : Version) (line : List ℕ) → IsWhole (Entry v) line → length (part (66 + bounds_len v) 16 line) ≡ 16
length-best v line whole = length-part (66 + bounds_len v) 16 line (enough (bounds_len v) (length line) whole.len)
  where
    enough : (n len : ℕ) → 83 + n ≤ len → 66 + n + 16 ≤ len
    enough n len h = omega arith
