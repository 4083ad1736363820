-- One text for each list of entries, and no book's text begins another's.
use Rattle.std.proofs.Common.{◌≡◌, ℕ, suc, ◌<◌, ◌^◌, List, [], ◌∷◌, ◌++◌, true, false, length, All, get_or, arith, sym, ap, ◌∙◌, refl, append_assoc, append-nil}
use Rattle.std.proofs.lemmas.List.{append_cancel_left}
use Rattle.oth_rules.specs.declared.scoring.Scoring.TheVariants.{Winner, Discs}
use Rattle.oth_book.specs.declared.version.Version.{Version}
use Rattle.oth_book.specs.declared.version.Version.TheVariants.{One, Two}
use Rattle.oth_book.specs.declared.claim.Claim.{Claim}
use Rattle.oth_book.specs.Shape.{header, is_cell}
use Rattle.oth_book.specs.Text.{book_text, entry_line, end_line, lines, IsClaim, AreClaims, IsBookText}
use Rattle.oth_book.specs.Fault.{begins}
use Rattle.oth_book.proofs.LineLemmas.{end_line-append}
use Rattle.oth_book.proofs.EntryLemmas.{entry_line-injective}
use Rattle.oth_book.proofs.ReadLemmas.{entry_begins, end_line-injective}

-- an end line is no entry's line
pub end_is_no_entry : (v : Version) (n : ℕ) (c : Claim) (x y : List ℕ) → IsClaim v c → end_line n ++ x ≡ entry_line v c ++ y → ⊥
end_is_no_entry v n c x y claim e =
    let entry : begins is_cell (end_line n ++ x) ≡ true = entry_begins v (end_line n ++ x) c (record { claim = claim; line = (y, e) }) in
    let start : begins is_cell (end_line n ++ x) ≡ false = ap (begins is_cell) (end_line-append n x) in
    let no : false ≡ true = sym start ∙ entry in
    absurd (let clash : false ≡ true = no in cc)

pub lines_cons : (v : Version) (c : Claim) (claims : List Claim) (x : List ℕ) → lines v (c ∷ claims) ++ x ≡ entry_line v c ++ (lines v claims ++ x)
lines_cons v c claims x = append_assoc (entry_line v c) (lines v claims) x

pub lines_once : (v : Version) (a b : List Claim) (n m : ℕ) (x y : List ℕ) → All (IsClaim v) a → All (IsClaim v) b → n < 10 ^ 6 → m < 10 ^ 6
    → lines v a ++ (end_line n ++ x) ≡ lines v b ++ (end_line m ++ y) → (a ≡ b) × (x ≡ y)
lines_once v [] [] n m x y ha hb hn hm e = (refl, (end_line-injective n m x y hn hm e).1)
lines_once v [] (d ∷ b) n m x y ha hb hn hm e = absurd (end_is_no_entry v n d x _ (hb 0 d (omega arith)) (e ∙ lines_cons v d b _))
lines_once v (c ∷ a) [] n m x y ha hb hn hm e = absurd (end_is_no_entry v m c y _ (ha 0 c (omega arith)) (sym e ∙ lines_cons v c a _))
lines_once v (c ∷ a) (d ∷ b) n m x y ha hb hn hm e =
    let same = entry_line-injective v c d _ _ (ha 0 c (omega arith)) (hb 0 d (omega arith)) (sym (lines_cons v c a _) ∙ e ∙ lines_cons v d b _) in
    let rest = lines_once v a b n m x y (λ k z h. ha (suc k) z (omega arith)) (λ k z h. hb (suc k) z (omega arith)) hn hm same.1 in
    (ap (λ z. z ∷ a) same.0 ∙ ap (λ zs. d ∷ zs) rest.0, rest.1)

-- the header tells the version
pub header_apart : (v w : Version) (x y : List ℕ) → header v ++ x ≡ header w ++ y → v ≡ w
unfolding header
header_apart One One x y e = refl
header_apart One (Two Winner) x y e = let h : 49 ≡ 50 = ap (λ xs. get_or xs 5 0) e in absurd (omega (arith, h))
header_apart One (Two Discs) x y e = let h : 49 ≡ 50 = ap (λ xs. get_or xs 5 0) e in absurd (omega (arith, h))
header_apart (Two Winner) One x y e = let h : 50 ≡ 49 = ap (λ xs. get_or xs 5 0) e in absurd (omega (arith, h))
header_apart (Two Discs) One x y e = let h : 50 ≡ 49 = ap (λ xs. get_or xs 5 0) e in absurd (omega (arith, h))
header_apart (Two Winner) (Two Winner) x y e = refl
header_apart (Two Winner) (Two Discs) x y e = let h : 87 ≡ 68 = ap (λ xs. get_or xs 7 0) e in absurd (omega (arith, h))
header_apart (Two Discs) (Two Winner) x y e = let h : 68 ≡ 87 = ap (λ xs. get_or xs 7 0) e in absurd (omega (arith, h))
header_apart (Two Discs) (Two Discs) x y e = refl

same_version : (v : Version) (a b : List Claim) (more : List ℕ) → AreClaims v a → AreClaims v b → book_text v a ++ more ≡ book_text v b → (a ≡ b) × (more ≡ [])
same_version v a b more ha hb e =
    let body : lines v a ++ (end_line (length a) ++ more) ≡ lines v b ++ (end_line (length b) ++ []) =
    sym (append_assoc (lines v a) (end_line (length a)) more)
    ∙ append_cancel_left (header v) _ _ (sym (append_assoc (header v) (lines v a ++ end_line (length a)) more) ∙ e)
    ∙ ap (λ xs. lines v b ++ xs) (sym (append-nil (end_line (length b)))) in
    lines_once v a b (length a) (length b) more [] ha.each hb.each (let h = ha.count in omega (arith, h)) (let h = hb.count in omega (arith, h)) body

-- over both versions
pub no_beginning : (v w : Version) (a b : List Claim) (more : List ℕ) → AreClaims v a → AreClaims w b → book_text v a ++ more ≡ book_text w b → (v ≡ w) × (a ≡ b) × (more ≡ [])
no_beginning v w a b more ha hb e =
    let version : v ≡ w = header_apart v w _ _ (sym (append_assoc (header v) (lines v a ++ end_line (length a)) more) ∙ e) in
    let same = same_version w a b more (rw version at ha) hb (rw version at e) in
    (version, same.0, same.1)

pub one_list : (v w : Version) (a b : List Claim) (bytes : List ℕ) → IsBookText v a bytes → IsBookText w b bytes → (v ≡ w) × (a ≡ b)
one_list v w a b bytes ha hb =
    let same = no_beginning v w a b [] ha.entries hb.entries (append-nil (book_text v a) ∙ sym ha.text ∙ hb.text) in
    (same.0, same.1)
