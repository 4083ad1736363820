-- Facts about histories of any events.
use Rattle.std.proofs.Common.{◌≡◌, ◌≢◌, ℕ, suc, ◌+◌, ◌<◌, ◌≤◌, true, false, ◌==◌, List, [], ◌∷◌, ◌++◌, length, sym, refl, ap}
use Rattle.std.proofs.Common.{◌∙◌, subst, inl, inr, ⊎_elim, arith, append_assoc, append-nil, length-append}
use Rattle.std.specs.Prelude.{Option, Some, None}
use Rattle.std.proofs.lemmas.List.{append_cancel_right}
use Rattle.std.proofs.lemmas.List.Elements.{filter-append}
use Rattle.std.proofs.lemmas.Bool.Decides.{nat_tests}
use Rattle.oth_history.specs.History.{Name, Begins, HasNone, Since, events_of, IsSeat, IsUnmade, WasMadeBy, IsLegalBy, EndsBy}

-- histories that begin others
pub begins_itself : {E : Type 0} (h : List E) → Begins h h
begins_itself h = ([], refl)

pub begins_more : {E : Type 0} (earlier later es : List E) → Begins earlier later → Begins earlier (es ++ later)
begins_more earlier later es b = (es ++ b.0, ap (λ h. es ++ h) b.1 ∙ sym (append_assoc es b.0 earlier))

-- the empty history begins each
pub begins_empty : {E : Type 0} (h : List E) → Begins [] h
begins_empty h = (h, sym (append-nil h))

pub begins_then : {E : Type 0} (a b c : List E) → Begins a b → Begins b c → Begins a c
begins_then a b c p q = (q.0 ++ p.0, q.1 ∙ (ap (λ h. q.0 ++ h) p.1 ∙ sym (append_assoc q.0 p.0 a)))

none_more : {E : Type 0} (a b between : List E) → b ≡ between ++ a → length b ≤ length a → a ≡ b
none_more a b [] e short = sym e
none_more a b (x ∷ xs) e short = absurd (omega (arith, ap length e, length-append (x ∷ xs) a))

pub begins_each_other : {E : Type 0} (a b : List E) → Begins a b → Begins b a → a ≡ b
begins_each_other a b p q = let short : length b ≤ length a = omega (arith, ap length q.1, length-append q.0 b) in none_more a b p.0 p.1 short

shorter_of : {E : Type 0} (p q a b : List E) → p ++ a ≡ q ++ b → length a ≤ length b → Begins a b
shorter_of p [] a b e short = (p, sym e)
shorter_of [] (y ∷ ys) a b e short = absurd (omega (arith, ap length e, length-append (y ∷ ys) b))
shorter_of (x ∷ xs) (y ∷ ys) a b e short = let tail : xs ++ a ≡ ys ++ b = cc in shorter_of xs ys a b tail short

-- of two that begin one history the shorter begins the longer
pub begins_shorter : {E : Type 0} (a b h : List E) → Begins a h → Begins b h → length a ≤ length b → Begins a b
begins_shorter a b h p q short = shorter_of p.0 q.0 a b (sym p.1 ∙ q.1) short

module _ {E : Type 0} (author : E → Name) where
  -- histories without an event of a seat
  pub none_append : (s : Name) (xs ys : List E) → HasNone author s xs → HasNone author s ys → HasNone author s (xs ++ ys)
  none_append s [] ys a b = b
  none_append s (x ∷ xs) ys a b = (a.0, none_append s xs ys a.1 b)

  pub none_left : (s : Name) (xs ys : List E) → HasNone author s (xs ++ ys) → HasNone author s xs
  none_left s [] ys a = tt
  none_left s (x ∷ xs) ys a = (a.0, none_left s xs ys a.1)

  pub none_right : (s : Name) (xs ys : List E) → HasNone author s (xs ++ ys) → HasNone author s ys
  none_right s [] ys a = a
  none_right s (x ∷ xs) ys a = none_right s xs ys a.1

  pub since_itself : (s : Name) (h : List E) → Since author s h h
  since_itself s h = ([], refl, tt)

  pub since_more : (s : Name) (earlier later es : List E) → HasNone author s es → Since author s earlier later → Since author s earlier (es ++ later)
  since_more s earlier later es none b = (es ++ b.0, ap (λ h. es ++ h) b.1 ∙ sym (append_assoc es b.0 earlier), none_append s es b.0 none b.2)

  pub since_begins : (s : Name) (earlier later : List E) → Since author s earlier later → Begins earlier later
  since_begins s earlier later b = (b.0, b.1)

  -- a history between two with the same events of a seat has them too
  pub since_between : (s : Name) (earlier between later : List E) → Since author s earlier later → Begins earlier between → Begins between later
      → Since author s earlier between × Since author s between later
  since_between s earlier between later a m b =
      let same : a.0 ≡ b.0 ++ m.0 = append_cancel_right a.0 (b.0 ++ m.0) earlier (sym a.1 ∙ (b.1 ∙ (ap (λ h. b.0 ++ h) m.1 ∙ sym (append_assoc b.0 m.0 earlier)))) in
      let none = subst (HasNone author s) same a.2 in
      ((m.0, m.1, none_right s b.0 m.0 none), (b.0, b.1, none_left s b.0 m.0 none))

  -- the events of a seat
  pub events_of-own : (s : Name) (e : E) (h : List E) → author e ≡ s → events_of author s (e ∷ h) ≡ e ∷ events_of author s h
  events_of-own s e h is = let here : (author e == s) ≡ true = grind (arith, nat_tests) in rw here

  pub events_of-other : (s : Name) (e : E) (h : List E) → author e ≢ s → events_of author s (e ∷ h) ≡ events_of author s h
  events_of-other s e h other = let here : (author e == s) ≡ false = grind (arith, nat_tests) in rw here

  events_of-none : (s : Name) (es h : List E) → HasNone author s es → events_of author s (es ++ h) ≡ events_of author s h
  events_of-none s [] h none = refl
  events_of-none s (e ∷ es) h none = events_of-other s e (es ++ h) none.0 ∙ events_of-none s es h none.1

  pub events_of-since : (s : Name) (earlier later : List E) → Since author s earlier later → events_of author s later ≡ events_of author s earlier
  events_of-since s earlier later b = ap (events_of author s) b.1 ∙ events_of-none s b.0 earlier b.2

  none_from : (s : Name) (es : List E) → events_of author s es ≡ [] → HasNone author s es
  none_from s [] e = tt
  none_from s (x ∷ es) e = let other : author x ≢ s = λ is. let all = events_of-own s x es is in absurd (cc) in
      (other, none_from s es (sym (events_of-other s x es other) ∙ e))

  only_end : (xs ys : List E) → xs ++ ys ≡ ys → xs ≡ []
  only_end [] ys e = refl
  only_end (x ∷ xs) ys e = absurd (omega (arith, ap length e, length-append (x ∷ xs) ys))

  pub since_same_events : (s : Name) (earlier later : List E) → Begins earlier later → events_of author s later ≡ events_of author s earlier → Since author s earlier later
  since_same_events s earlier later b same =
      let apart : events_of author s later ≡ events_of author s b.0 ++ events_of author s earlier = ap (events_of author s) b.1 ∙ filter-append (λ e. author e == s) b.0 earlier in
      (b.0, b.1, none_from s b.0 (only_end (events_of author s b.0) (events_of author s earlier) (sym apart ∙ same)))

module _ {E : Type 0} (makes : E → Option Name) where
  -- a seat that there is stays
  pub seat_past : (es h : List E) (s : Name) → IsSeat makes h s → IsSeat makes (es ++ h) s
  seat_past [] h s k = k
  seat_past (e ∷ es) h s k = inr (seat_past es h s k)

  -- a number that is no seat's
  abbrev pub above : Option Name → ℕ → ℕ
  above None n = n
  above (Some s) n = suc (s + n)

  abbrev pub fresh : List E → Name
  fresh [] = 1
  fresh (e ∷ h) = above (makes e) (fresh h)

  above_made : (o : Option Name) (s n m : ℕ) → o ≡ Some s → above o n ≤ m → s < m
  above_made None s n m e k = absurd (cc)
  above_made (Some t) s n m e k = let same : t ≡ s = cc in let low : suc (t + n) ≤ m = k in omega arith

  above_rest : (o : Option Name) (n m : ℕ) → above o n ≤ m → n ≤ m
  above_rest None n m k = k
  above_rest (Some t) n m k = let low : suc (t + n) ≤ m = k in omega arith

  above_all : (h : List E) (s : Name) → fresh h ≤ s → ¬ IsSeat makes h s
  above_all [] s k seat = omega arith
  above_all (e ∷ h) s k seat = ⊎_elim (λ (is : makes e ≡ Some s). let low = above_made (makes e) s (fresh h) s is k in omega arith)
      (λ (there : IsSeat makes h s). above_all h s (above_rest (makes e) (fresh h) s k) there) seat

  pub is_fresh : (h : List E) → ¬ IsSeat makes h (fresh h)
  is_fresh h = above_all h (fresh h) (omega arith)

module _ {E : Type 0} (author : E → Name) (makes : E → Option Name) where
  pub made_is_seat : (h : List E) (s t : Name) → WasMadeBy author makes h s t → IsSeat makes h t
  made_is_seat [] s t k = absurd k
  made_is_seat (e ∷ h) s t k = ⊎_elim (λ (x : (author e ≡ s) × (makes e ≡ Some t)). inl x.1) (λ (y : WasMadeBy author makes h s t). inr (made_is_seat h s t y)) k

  pub made_past : (es h : List E) (s t : Name) → WasMadeBy author makes h s t → WasMadeBy author makes (es ++ h) s t
  made_past [] h s t k = k
  made_past (e ∷ es) h s t k = inr (made_past es h s t k)

module _ {E : Type 0} (author : E → Name) (makes : E → Option Name) (Fits : List E → E → Type 0) where
  -- no two seats made the same
  pub one_maker : (h : List E) (a b t : Name) → IsLegalBy author makes Fits h → WasMadeBy author makes h a t → WasMadeBy author makes h b t → a ≡ b
  one_maker [] a b t l p q = absurd p
  one_maker (e ∷ h) a b t l p q =
      let new : makes e ≡ Some t → ¬ IsSeat makes h t = λ is. subst (IsUnmade makes h) is l.0.1 in
      ⊎_elim
      (λ (x : (author e ≡ a) × (makes e ≡ Some t)). ⊎_elim (λ (y : (author e ≡ b) × (makes e ≡ Some t)). sym x.0 ∙ y.0)
      (λ (y : WasMadeBy author makes h b t). absurd (new x.1 (made_is_seat author makes h b t y))) q)
      (λ (x : WasMadeBy author makes h a t). ⊎_elim (λ (y : (author e ≡ b) × (makes e ≡ Some t)). absurd (new y.1 (made_is_seat author makes h a t x)))
      (λ (y : WasMadeBy author makes h b t). one_maker h a b t l.2 x y) q)
      p

  pub legal_past : (es h : List E) → IsLegalBy author makes Fits (es ++ h) → IsLegalBy author makes Fits h
  legal_past [] h l = l
  legal_past (e ∷ es) h l = legal_past es h l.2

  pub legal_begin : (earlier later : List E) → Begins earlier later → IsLegalBy author makes Fits later → IsLegalBy author makes Fits earlier
  legal_begin earlier later b l = legal_past b.0 earlier (subst (IsLegalBy author makes Fits) b.1 l)

  -- whoever is no seat has done nothing
  pub none_of : (h : List E) (s : Name) → IsLegalBy author makes Fits h → ¬ IsSeat makes h s → HasNone author s h
  none_of [] s l not_seat = tt
  none_of (e ∷ h) s l not_seat = (
    (λ same. not_seat (inr (subst (IsSeat makes h) same l.0.0))),
    none_of h s l.2 (λ k. not_seat (inr k)),
  )

  -- a seat that is made has done nothing yet
  pub new_idle : (e : E) (h : List E) (s : Name) → makes e ≡ Some s → IsLegalBy author makes Fits (e ∷ h) → HasNone author s (e ∷ h)
  new_idle e h s is l = let new : ¬ IsSeat makes h s = subst (IsUnmade makes h) is l.0.1 in
      ((λ same. new (subst (IsSeat makes h) same l.0.0)), none_of h s l.2 new)

  -- an ending history begins with the earlier one
  pub ends_begins : (s : Name) (earlier later : List E) (e : E) → EndsBy author makes Fits s earlier later e → Begins earlier later
  ends_begins s earlier later e x = (e ∷ x.since.0, x.last ∙ ap (λ h. e ∷ h) x.since.1)
