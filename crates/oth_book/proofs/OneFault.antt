-- A book's text has no fault.
use Rattle.std.proofs.Common.{◌≡◌, ◌≢◌, ℕ, suc, ◌-◌, ◌⊎◌, inl, inr, List, [], ◌∷◌, ◌++◌, length, All, get_or, arith, sym, ap, ◌∙◌, refl, append-nil, length-append}
use Rattle.std.proofs.Math.Seq.{get_or-append_seam}
use Rattle.std.proofs.Math.ListN.{get_or-append}
use Rattle.std.proofs.lemmas.List.{append_cancel_left}
use Rattle.std.proofs.lemmas.Option.{slice_get_within, get_or_from_slice_get}
use Rattle.oth_book.specs.declared.version.Version.{Version}
use Rattle.oth_book.specs.declared.claim.Claim.{Claim}
use Rattle.oth_book.specs.declared.fault.BookFault.{BookFault}
use Rattle.oth_book.specs.declared.fault.BookFault.TheVariants.{Header, Line, Order, Count, CutShort, Trailing, Memory}
use Rattle.oth_book.specs.declared.text.shape.Shape.TheVariants as shapes
use Rattle.oth_book.specs.declared.text.shape.Fit.TheVariants.{Whole, Cut, Misplaced}
use Rattle.oth_book.specs.Shape.{header, fit_of}
use Rattle.oth_book.specs.Text.{entry_line, end_line, lines, IsClaim, AreClaims, IsBookText}
use Rattle.oth_book.specs.Fault.{last_of, IsNext, IsLineFault, IsHeaderFault, IsBookFault, Begins}
use Rattle.oth_book.proofs.EntryLemmas.{entry_line-injective}
use Rattle.oth_book.proofs.LawLemmas.{end_is_no_entry, lines_cons, header_apart}
use Rattle.oth_book.proofs.FaultLemmas.{next_no_fault, end_no_fault, line_once}
use Rattle.oth_book.proofs.FitLemmas.{header_fits, header_not_cut}

-- of two readings of one text, one goes on where the other stops
abbrev Split : Version → List Claim → List Claim → List ℕ → List ℕ → Type 0
Split v a b x y =
    ((mid : List Claim) × (b ≡ a ++ mid) × (x ≡ lines v mid ++ y))
    ⊎ ((c : Claim) × (mid : List Claim) × (a ≡ b ++ c ∷ mid) × (y ≡ entry_line v c ++ (lines v mid ++ x)))

split : (v : Version) (a b : List Claim) (x y : List ℕ) → All (IsClaim v) a → All (IsClaim v) b → lines v a ++ x ≡ lines v b ++ y → Split v a b x y
split v [] b x y ha hb e = inl (b, refl, e)
split v (c ∷ a) [] x y ha hb e = inr (c, a, refl, sym e ∙ lines_cons v c a x)
split v (c ∷ a) (d ∷ b) x y ha hb e =
    let same = entry_line-injective v c d _ _ (ha 0 c (omega arith)) (hb 0 d (omega arith)) (sym (lines_cons v c a x) ∙ e ∙ lines_cons v d b y) in
    elim (split v a b x y (λ k z h. ha (suc k) z (omega arith)) (λ k z h. hb (suc k) z (omega arith)) same.1) [
      | inl s ↦ inl (s.0, ap (λ zs. d ∷ zs) s.1 ∙ ap (λ z. z ∷ (a ++ s.0)) (sym same.0), s.2)
      | inr s ↦ inr (s.0, s.1, ap (λ zs. c ∷ zs) s.2 ∙ ap (λ z. z ∷ (b ++ s.0 ∷ s.1)) same.0, s.3)
    ]

next_from : (v : Version) (a : List Claim) (c : Claim) (mid : List Claim) (x y : List ℕ) → AreClaims v (a ++ c ∷ mid) → x ≡ entry_line v c ++ y → IsNext v (length a) (last_of a) x c
next_from v a c mid x y claims e =
    let len = length-append a (c ∷ mid) in
    let count = claims.count in
    let at = get_or-append_seam a c mid in
    let each = claims.each (length a) c (omega (arith, len)) in
    record {
      room = omega (arith, len, count);
      entry = record { claim = rw (at c) at each; line = (y, e) };
      above = λ d is.
          let within = slice_get_within a (length a - 1) d is in
          let below = claims.rising (length a - 1) (length a) d (omega (arith, within)) (omega (arith, len)) in
          let first : get_or (a ++ c ∷ mid) (length a - 1) d ≡ d = get_or-append a (c ∷ mid) d (length a - 1) within ∙ get_or_from_slice_get a (length a - 1) d d is in
          rw (first, at d) at below;
    }

header_no_fault : (v : Version) (rest bytes : List ℕ) (f : BookFault) → bytes ≡ header v ++ rest → IsHeaderFault bytes f → ⊥
header_no_fault v rest bytes Header e h = let clash : Misplaced ≡ Whole = sym (h v) ∙ ap (fit_of (shapes.Header v)) e ∙ header_fits v rest in absurd (let no : ⊥ = cc in no)
header_no_fault v rest bytes (Line k) e h = h
header_no_fault v rest bytes (Order k) e h = h
header_no_fault v rest bytes Count e h = h
header_no_fault v rest bytes CutShort e h = header_not_cut v h.0 rest (ap (fit_of (shapes.Header h.0)) (sym e) ∙ h.1)
header_no_fault v rest bytes Trailing e h = h
header_no_fault v rest bytes Memory e h = h

header_once : (bytes : List ℕ) (f g : BookFault) → IsHeaderFault bytes f → IsHeaderFault bytes g → f ≡ g
header_once bytes Header Header a b = refl
header_once bytes Header CutShort a b = let clash : Misplaced ≡ Cut = sym (a b.0) ∙ b.1 in absurd (let no : ⊥ = cc in no)
header_once bytes CutShort Header a b = let clash : Misplaced ≡ Cut = sym (b a.0) ∙ a.1 in absurd (let no : ⊥ = cc in no)
header_once bytes CutShort CutShort a b = refl
header_once bytes Header (Line k) a b = absurd b
header_once bytes Header (Order k) a b = absurd b
header_once bytes Header Count a b = absurd b
header_once bytes Header Trailing a b = absurd b
header_once bytes Header Memory a b = absurd b
header_once bytes CutShort (Line k) a b = absurd b
header_once bytes CutShort (Order k) a b = absurd b
header_once bytes CutShort Count a b = absurd b
header_once bytes CutShort Trailing a b = absurd b
header_once bytes CutShort Memory a b = absurd b
header_once bytes (Line k) g a b = absurd a
header_once bytes (Order k) g a b = absurd a
header_once bytes Count g a b = absurd a
header_once bytes Trailing g a b = absurd a
header_once bytes Memory g a b = absurd a

goes_on : (v : Version) (claims before mid : List Claim) (rest : List ℕ) (f : BookFault) → AreClaims v claims → claims ≡ before ++ mid → rest ≡ lines v mid ++ end_line (length claims)
    → IsLineFault v (length before) (last_of before) rest f → f ≢ Memory → ⊥
goes_on v claims before [] rest f are e x h other = end_no_fault v before rest f (x ∙ ap end_line (ap length (e ∙ append-nil before))) h other
goes_on v claims before (c ∷ mid) rest f are e x h other =
    next_no_fault v before rest c f (next_from v before c mid rest (lines v mid ++ end_line (length claims)) (rw e at are) (x ∙ lines_cons v c mid (end_line (length claims)))) h other

no_line_fault : (v : Version) (claims before : List Claim) (rest bytes : List ℕ) (f : BookFault) → IsBookText v claims bytes → Begins v before rest bytes
    → IsLineFault v (length before) (last_of before) rest f → f ≢ Memory → ⊥
no_line_fault v claims before rest bytes f text begin fault other =
    let body : lines v before ++ rest ≡ lines v claims ++ end_line (length claims) = append_cancel_left (header v) _ _ (sym begin.front ∙ text.text) in
    elim (split v before claims rest (end_line (length claims)) begin.entries.each text.entries.each body) [
      | inl s ↦ goes_on v claims before s.0 rest f text.entries s.1 s.2 fault other
      | inr s ↦ end_is_no_entry v (length claims) s.0 [] _ (get_claim before claims s.0 s.1 (rw s.2 at (begin.entries))) (append-nil (end_line (length claims)) ∙ s.3)
    ]
  where
    get_claim : (before b : List Claim) (c : Claim) (mid : List Claim) → AreClaims v (b ++ c ∷ mid) → IsClaim v c
    get_claim before b c mid h = (next_from v b c mid (entry_line v c ++ []) [] h refl).entry.claim

pub no_fault : (v : Version) (claims : List Claim) (bytes : List ℕ) (f : BookFault) → IsBookText v claims bytes → IsBookFault bytes f → f ≢ Memory → ⊥
no_fault v claims bytes f text fault other =
    elim fault [
      | inl h ↦ header_no_fault v (lines v claims ++ end_line (length claims)) bytes f text.text h
      | inr h ↦
          let version : h.0 ≡ v = header_apart h.0 v _ _ (sym h.3.front ∙ text.text) in
          no_line_fault v claims h.1 h.2 bytes f text (rw version at (h.3)) (rw version at (h.4)) other
    ]

-- of two faulty readings neither goes on where the other stops
stops : (v : Version) (a b mid : List Claim) (c : Claim) (x y : List ℕ) (f : BookFault) → AreClaims v b → b ≡ a ++ c ∷ mid → x ≡ lines v (c ∷ mid) ++ y
    → IsLineFault v (length a) (last_of a) x f → f ≢ Memory → ⊥
stops v a b mid c x y f are e front fault other = next_no_fault v a x c f (next_from v a c mid x (lines v mid ++ y) (rw e at are) (front ∙ lines_cons v c mid y)) fault other

line_faults : (v : Version) (a b : List Claim) (x y bytes : List ℕ) (f g : BookFault) → Begins v a x bytes → Begins v b y bytes → IsLineFault v (length a) (last_of a) x f
    → IsLineFault v (length b) (last_of b) y g → f ≢ Memory → g ≢ Memory → f ≡ g
line_faults v a b x y bytes f g ha hb fa fb p q =
    let body : lines v a ++ x ≡ lines v b ++ y = append_cancel_left (header v) _ _ (sym ha.front ∙ hb.front) in
    elim (split v a b x y ha.entries.each hb.entries.each body) [
      | inl s ↦ same_or_further s.0 s.1 s.2
      | inr s ↦ absurd (stops v b a s.1 s.0 y x g ha.entries s.2 (s.3 ∙ sym (lines_cons v s.0 s.1 x)) fb q)
    ]
  where
    same_or_further : (mid : List Claim) → b ≡ a ++ mid → x ≡ lines v mid ++ y → f ≡ g
    same_or_further [] e front =
        let same : b ≡ a = e ∙ append-nil a in
        let fault : IsLineFault v (length a) (last_of a) x g = rw (← same, front) fb in
        line_once v a x f g fa fault p q
    same_or_further (c ∷ mid) e front = absurd (stops v a b mid c x y f hb.entries e front fa p)

pub one_fault : (bytes : List ℕ) (f g : BookFault) → IsBookFault bytes f → IsBookFault bytes g → f ≢ Memory → g ≢ Memory → f ≡ g
one_fault bytes f g hf hg p q =
    elim hf [
      | inl a ↦ elim hg [
        | inl b ↦ header_once bytes f g a b
        | inr b ↦ absurd (header_no_fault b.0 (lines b.0 b.1 ++ b.2) bytes f b.3.front a)
      ]
      | inr a ↦ elim hg [
        | inl b ↦ absurd (header_no_fault a.0 (lines a.0 a.1 ++ a.2) bytes g a.3.front b)
        | inr b ↦
            let version : b.0 ≡ a.0 = header_apart b.0 a.0 _ _ (sym b.3.front ∙ a.3.front) in
            line_faults a.0 a.1 b.1 a.2 b.2 bytes f g a.3 (rw version at (b.3)) a.4 (rw version at (b.4)) p q
      ]
    ]
