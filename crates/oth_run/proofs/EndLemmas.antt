-- Where the first line ends, as a search for its last byte tells.
use Rattle.std.proofs.Common.{◌≡◌, ◌≢◌, ◌<◌, ◌≤◌, ℕ, List, length, take, slice_index, Option, None, Some, All, IfSome, IfNone, sym, ◌∙◌, arith}
use Rattle.std.proofs.lemmas.Bool.{eqb-true, eq-eqb}
use Rattle.std.proofs.lemmas.List.{get_or-take, length-take}
use Rattle.std.proofs.lemmas.List.Elements.{All-from_get_or}
use Rattle.memchr.specs.Find.{IsFirstByte, Nowhere, Passes, is_byte}

none_before : (bytes : List ℕ) (n : ℕ) → n ≤ length bytes → Nowhere (Passes (is_byte 10) bytes) 0 n → All (λ b. b ≢ 10) (take n bytes)
none_before bytes n within none =
    All-from_get_or (λ b. b ≢ 10) (take n bytes) 0 (λ i h. let before : i < n = omega (arith, length-take n bytes, h) in
    λ e. none i (omega arith) before (eq-eqb (slice_index bytes i) 10 (sym (get_or-take n bytes i 0 before) ∙ e)))

pub ends : (bytes : List ℕ) (end : Option ℕ) → IsFirstByte (is_byte 10) bytes end
    → IfSome end (λ n. n < length bytes) × IfSome end (λ n. slice_index bytes n ≡ 10) × IfSome end (λ n. All (λ b. b ≢ 10) (take n bytes)) × IfNone end (All (λ b. b ≢ 10) bytes)
ends bytes None none = (tt, tt, tt, All-from_get_or (λ b. b ≢ 10) bytes 0 (λ i h e. none i (omega arith) h (eq-eqb (slice_index bytes i) 10 e)))
ends bytes (Some n) first = (first.0.high, eqb-true (slice_index bytes n) 10 first.1, none_before bytes n (omega (arith, first.0.high)) first.0.before, tt)
