-- How the hands are made.
use Rattle.std.proofs.Common.{◌≡◌, ◌⊎◌, ⊎_elim, inr, ℕ, zero, suc, ◌+◌, ◌<◌, ◌≤◌, List, [], ◌∷◌, ◌++◌, length, get_or, set, take, sym, refl, ap, ◌∙◌, subst, arith}
use Rattle.std.proofs.Common.{slice_index_or, vec_len, Vec, false, Result, Ok, Err, IfOk, length-append, length-set, get_or-set_same, get_or-set_other}
use Rattle.std.specs.Prelude.{vec_capacity}
use mathlib.Core.Logic.{dite}
use native.Mathlib.Decide.{ℕ_discrete}
use Rattle.std.specs.declared.alloc.Global.{Global}
use Rattle.std.specs.declared.alloc.AllocError.{AllocError}
use Rattle.oth_pieces.specs.declared.frontier.TheConstants.{MOST_ITEMS}
use Rattle.oth_pieces.specs.Hands.{Owner, StaysOwner, StayOwners, IsTokenOf, AreTokensOf, HasOnly, OwnerFits, OwnersFit, PileFits, HasRoom}
use Rattle.oth_pieces.specs.Hands.{IsHandOf, IsNewHand, AreHandsOf, AreAllHands, AreFresh, HaveRoom, number_of, taken_with}
use Rattle.std.specs.List.{sum_by, All}
use Rattle.oth_pieces.specs.declared.tasks.state.Hand.{Hand}
use Rattle.oth_pieces.specs.declared.tasks.state.Parts.{Parts}
use Rattle.std.proofs.lemmas.List.Sums.{sum_by-cons}
use Rattle.crossbeam_deque.specs.Handles.{worker_view}
use Rattle.oth_pieces.specs.Dealing.{times}
use Rattle.oth_pieces.specs.declared.tasks.state.Tasks.{Tasks}
use Rattle.oth_pieces.specs.declared.tasks.share.Share.{Share}
use Rattle.oth_pieces.specs.Settling.{Token, Pile}
use Rattle.oth_pieces.proofs.Handings.{any_default}
use Rattle.oth_pieces.proofs.Settlings.{get_or_front, get_or_last}

-- the elements of ys so far go with those of xs at their places
pub record Zipped {A B : Type 0} (R : A → B → Type 0) (xs : List A) (ys : List B) : Type 0 where
  pub each : (d : ℕ) (x : A) (y : B) → d < length ys → R (slice_index_or xs d x) (slice_index_or ys d y)

pub zipped_more : {A B : Type 0} (R : A → B → Type 0) (xs : List A) (ys : List B) (x : A) (y : B) (i : ℕ) → Zipped R xs ys → length ys ≡ i → i < length xs → x ≡ slice_index_or xs i x
    → R x y → Zipped R xs (ys ++ y ∷ [])
zipped_more {A} {B} R xs ys x y i z long below is right = record {
  each = λ d e f under. dite (ℕ_discrete d i)
      (λ at.
      let first : slice_index_or xs d e ≡ x = ap (λ k. get_or xs k e) at ∙ (any_default xs i e x below ∙ sym is) in
      let second : slice_index_or (ys ++ y ∷ []) d f ≡ y = get_or_last ys y d f (omega arith) in
      let P : A × B → Type 0 = λ q. R q.0 q.1 in subst P (λ j. (sym first j, sym second j)) right)
      (λ other.
      let short : d < length ys = omega (arith, length-append ys (y ∷ [])) in
      let P : B → Type 0 = λ q. R (slice_index_or xs d e) q in subst P (sym (get_or_front ys y d f short)) (z.each d e f short));
}

-- the first i owners gave a pass
pub record Handing (owners owners' : List Owner) (passes : List Token) (i : ℕ) : Type 0 where
  pub long : length owners' ≡ length owners
  pub many : length passes ≡ i
  pub stay : StayOwners owners owners'
  pub rest : (j : ℕ) (w u : Owner) → i ≤ j → j < length owners → slice_index_or owners' j u ≡ slice_index_or owners j w
  pub tokens : Zipped IsTokenOf owners passes

pub handing_steps : (owners owners' : List Owner) (passes passes' : List Token) (i : ℕ) (w w' : Owner) (p : Token) → Handing owners owners' passes i → i < length owners
    → w ≡ slice_index_or owners' i w
    → StaysOwner w w' → IsTokenOf w p → passes' ≡ passes ++ p ∷ [] → Handing owners (set owners' i w') passes' (i + 1)
handing_steps owners owners' passes passes' i w w' p h below is stays token more =
    let inside : i < length owners' = let l = h.long in omega arith in
    let old : w ≡ slice_index_or owners i w = is ∙ h.rest i w w (omega arith) below in record {
      long = length-set owners' i w' ∙ h.long;
      many = let m = h.many in omega (arith, ap length more, length-append passes (p ∷ []));
      stay = (
        length-set owners' i w' ∙ h.long,
        λ d a b under. dite (ℕ_discrete d i)
            (λ at. inr (
            let now : slice_index_or (set owners' i w') d b ≡ w' = ap (λ k. get_or (set owners' i w') k b) at ∙ get_or-set_same owners' i w' b inside in
            let was : slice_index_or owners d a ≡ w = ap (λ k. get_or owners k a) at ∙ (any_default owners i a w below ∙ sym old) in
            let P : Owner × Owner → Type 0 = λ q. StaysOwner q.0 q.1 in subst P (λ j. (sym was j, sym now j)) stays))
            (λ other.
            let same = get_or-set_other owners' i d w' b other in
            let P : Owner → Type 0 = λ q. (q ≡ slice_index_or owners d a) ⊎ StaysOwner (slice_index_or owners d a) q in subst P (sym same) (h.stay.1 d a b under)),
      );
      rest = λ j a b from under. get_or-set_other owners' i j w' b (λ at. omega arith) ∙ h.rest j a b (omega arith) under;
      tokens = let P : List Token → Type 0 = Zipped IsTokenOf owners in subst P (sym more) (zipped_more IsTokenOf owners passes w p i h.tokens h.many below old token);
    }

stays_fit : (tasks : Tasks) (d : ℕ) (old new : Owner) → OwnerFits tasks d old → StaysOwner old new → OwnerFits tasks d new
stays_fit tasks d old new fits stays = ((λ t. stays.0 ∙ fits.0 t), let P : Share → Type 0 = HasOnly (vec_len tasks.thieves) tasks.count d in subst P (sym stays.1) fits.1)

pub stay_fit : (tasks : Tasks) (old new : List Owner) → OwnersFit tasks old → StayOwners old new → OwnersFit tasks new
stay_fit tasks old new fits stay = (
  stay.0 ∙ fits.0,
  λ d w below.
      let under : d < length old = let l = stay.0 in omega arith in
      let was : OwnerFits tasks d (slice_index_or old d w) = fits.1 d w under in
      ⊎_elim (λ (same : slice_index_or new d w ≡ slice_index_or old d w). let P : Owner → Type 0 = OwnerFits tasks d in subst P (sym same) was)
      (λ (stays : StaysOwner (slice_index_or old d w) (slice_index_or new d w)). stays_fit tasks d (slice_index_or old d w) (slice_index_or new d w) was stays)
      (stay.1 d w w under),
)

pub tokens_fit : (tasks : Tasks) (owners : List Owner) (w : Owner) (pile : Vec Token Global) → OwnersFit tasks owners → AreTokensOf owners pile → PileFits tasks pile
tokens_fit tasks owners w pile fits tokens =
    let right : (d : ℕ) (p : Token) → d < vec_len tasks.thieves → OwnerFits tasks d (slice_index_or owners d w) × IsTokenOf (slice_index_or owners d w) (slice_index_or pile.items d p) = λ d p below.
    let l = fits.0 in (fits.1 d w (omega arith), tokens.1 d w p (omega arith)) in record {
      long = tokens.0 ∙ fits.0;
      each = λ d t p below. let r = right d p below in let e = r.0.0 t in let k = r.1.0 in (k.0 ∙ ap (λ q. q.0) e, k.1 ∙ ap (λ q. q.1) e, k.2, k.3);
      knows = λ d p below. let r = right d p below in
          let P : Share → Type 0 = HasOnly (vec_len tasks.thieves) tasks.count d in subst P (sym r.1.1) (r.0.1.0, refl, r.0.1.2);
    }

tokens_all : (tasks : Tasks) (owners : List Owner) (pile : Vec Token Global) → OwnersFit tasks owners → AreTokensOf owners pile → PileFits tasks pile
tokens_all tasks [] pile fits tokens = record {
  long = tokens.0 ∙ fits.0;
  each = λ d t p below. let l : 0 ≡ vec_len tasks.thieves = fits.0 in absurd (omega arith);
  knows = λ d p below. let l : 0 ≡ vec_len tasks.thieves = fits.0 in absurd (omega arith);
}
tokens_all tasks (o ∷ os) pile fits tokens = tokens_fit tasks (o ∷ os) o pile fits tokens

pub if_tokens : (tasks : Tasks) (owners : List Owner) (r : Result (Vec Token Global) AllocError) → OwnersFit tasks owners → IfOk r (AreTokensOf owners) → IfOk r (PileFits tasks)
if_tokens tasks owners (Ok pile) fits tokens = tokens_all tasks owners pile fits tokens
if_tokens tasks owners (Err e) fits tokens = tt

none_taken : (x : ℕ) (xs : List Token) → ((d : ℕ) (p : Token) → d < length xs → taken_with x (slice_index_or xs d p) ≡ 0) → sum_by (taken_with x) xs ≡ 0
none_taken x [] none = refl
none_taken x (t ∷ ts) none =
    let first = none 0 t (omega arith) in
    let rest = none_taken x ts (λ d p below. none (suc d) p (omega arith)) in omega (arith, sum_by-cons (taken_with x) t ts)

pub new_hand : (tasks : Tasks) (number : ℕ) (owner : Owner) (pile : Vec Token Global) (list : Vec ℕ Global) (room : Parts) → number < vec_len tasks.thieves
    → OwnerFits tasks number owner → PileFits tasks pile → list.items ≡ [] → MOST_ITEMS ≤ vec_capacity list → HasRoom (vec_len tasks.thieves) room
    → IsNewHand tasks number (record { number = number; owner = owner; passes = pile; list = list; ended = false; room = room })
new_hand tasks number owner pile list room below fits passes empty long has_room = (
  record {
    fits = record {
      number = below;
      passes = passes.long;
      owner = fits.0;
      owner_knows = (fits.1.0, fits.1.2);
      each = passes.each;
      each_knows = λ d p under. let k = passes.knows d p under in (k.0, k.2);
      room = has_room;
    };
    taken = λ x.
        let own : times x (worker_view owner).taken ≡ 0 = ap (times x) fits.1.1 in
        let m = pile.ok.0 in
        let l = passes.long in
        let others : sum_by (taken_with x) pile.items ≡ 0 = none_taken x pile.items (λ d p under. ap (times x) (passes.knows d p (omega arith)).1) in
        let none : times x list.items ≡ 0 = ap (times x) empty in omega arith;
    within = λ x above. ap (times x) empty;
  },
  refl,
  empty,
  refl,
  long,
)

-- the owners and piles that are left, and the hands made, the last first
pub record Making (tasks : Tasks) (owners : List Owner) (piles : List Pile) (hands : List Hand) : Type 0 where
  pub count : length owners + length hands ≡ vec_len tasks.thieves
  pub owners_fit : (d : ℕ) (w : Owner) → d < length owners → OwnerFits tasks d (slice_index_or owners d w)
  pub piles_long : length piles ≡ length owners
  pub piles_fit : All (PileFits tasks) piles
  pub made : (i : ℕ) (h : Hand) → i < length hands → IsNewHand tasks (length owners + i) (slice_index_or hands i h)

all_front : (tasks : Tasks) (piles : List Pile) (pile : Pile) → All (PileFits tasks) (piles ++ pile ∷ []) → All (PileFits tasks) piles × PileFits tasks pile
all_front tasks piles pile all = (
  (λ d p below. let P : Pile → Type 0 = PileFits tasks in subst P (get_or_front piles pile d p below) (all d p (omega (arith, length-append piles (pile ∷ []))))),
  (let P : Pile → Type 0 = PileFits tasks in subst P (get_or_last piles pile (length piles) pile refl) (all (length piles) pile (omega (arith, length-append piles (pile ∷ []))))),
)

made_next : (tasks : Tasks) (owners : List Owner) (owner : Owner) (hands : List Hand) (hand : Hand)
    → ((i : ℕ) (h : Hand) → i < length hands → IsNewHand tasks (length (owners ++ owner ∷ []) + i) (slice_index_or hands i h)) → IsNewHand tasks (length owners) hand
    → (i : ℕ) (h : Hand) → i < length (hand ∷ hands) → IsNewHand tasks (length owners + i) (slice_index_or (hand ∷ hands) i h)
made_next tasks owners owner hands hand made new zero h below = let e : length owners ≡ length owners + 0 = omega arith in let P : ℕ → Type 0 = λ k. IsNewHand tasks k hand in subst P e new
made_next tasks owners owner hands hand made new (suc i) h below =
    let e : length (owners ++ owner ∷ []) + i ≡ length owners + suc i = omega (arith, length-append owners (owner ∷ [])) in
    let P : ℕ → Type 0 = λ k. IsNewHand tasks k (slice_index_or hands i h) in subst P e (made i h (omega arith))

pub making_steps : (tasks : Tasks) (owners owners' : List Owner) (piles piles' : List Pile) (hands : List Hand) (owner : Owner) (pile : Pile) (hand : Hand)
    → Making tasks owners piles hands → owners ≡ owners' ++ owner ∷ []
    → piles ≡ piles' ++ pile ∷ [] → IsNewHand tasks (length owners') hand → Making tasks owners' piles' (hand ∷ hands)
making_steps tasks owners owners' piles piles' hands owner pile hand m is are new =
    let M : List Owner × List Pile → Type 0 = λ q. Making tasks q.0 q.1 hands in
    let n : Making tasks (owners' ++ owner ∷ []) (piles' ++ pile ∷ []) hands = subst M (λ j. (is j, are j)) m in
    let long = length-append owners' (owner ∷ []) in
    let many = length-append piles' (pile ∷ []) in record {
      count = let c = n.count in omega arith;
      owners_fit = λ d w below. let P : Owner → Type 0 = OwnerFits tasks d in subst P (get_or_front owners' owner d w below) (n.owners_fit d w (omega arith));
      piles_long = let c = n.piles_long in omega arith;
      piles_fit = (all_front tasks piles' pile n.piles_fit).0;
      made = made_next tasks owners' owner hands hand n.made new;
    }

pub all_hands : (tasks : Tasks) (n : ℕ) (hands : List Hand) → 1 ≤ n → AreHandsOf tasks n hands → AreAllHands tasks hands
all_hands tasks n hands some new = record {
  some = let l = new.0 in omega arith;
  many = new.0 ∙ sym new.1;
  each = λ i h below. let one = new.2 i h (let l = new.0 in omega arith) in (one.0, one.1);
}

pub all_fresh : (tasks : Tasks) (n : ℕ) (hands : List Hand) → AreHandsOf tasks n hands → AreFresh hands
all_fresh tasks n hands new i h below = let one = new.2 i h (let l = new.0 in omega arith) in (one.2, one.3)

pub all_have_room : (tasks : Tasks) (n : ℕ) (hands : List Hand) → AreHandsOf tasks n hands → HaveRoom hands
all_have_room tasks n hands new i h below = (new.2 i h (let l = new.0 in omega arith)).4

-- after one hand has drawn
pub one_drew : (tasks : Tasks) (hands : List Hand) (at : ℕ) (old new : Hand) → AreAllHands tasks hands → at < length hands → old ≡ slice_index_or hands at old → IsHandOf tasks new
    → number_of new ≡ number_of old
    → AreAllHands tasks (set hands at new)
one_drew tasks hands at old new all below is right same = record {
  some = let l = length-set hands at new in let z = all.some in omega arith;
  many = length-set hands at new ∙ all.many;
  each = λ i h under. dite (ℕ_discrete i at)
      (λ here.
      let now : slice_index_or (set hands at new) i h ≡ new = ap (λ k. get_or (set hands at new) k h) here ∙ get_or-set_same hands at new h below in
      let number : number_of old ≡ at = ap number_of is ∙ (all.each at old below).1 in
      let P : Hand → Type 0 = λ k. IsHandOf tasks k × (number_of k ≡ i) in subst P (sym now) (right, same ∙ (number ∙ sym here)))
      (λ other.
      let was = get_or-set_other hands at i new h other in
      let P : Hand → Type 0 = λ k. IsHandOf tasks k × (number_of k ≡ i) in
      subst P (sym was) (all.each i h (let l = length-set hands at new in omega arith)));
}

-- after each hand has drawn by itself
pub each_drew : (tasks : Tasks) (old new : List Hand) → AreAllHands tasks old → length new ≡ length old → ((i : ℕ) (h : Hand) → i < length old → IsHandOf tasks (slice_index_or new i h))
    → ((i : ℕ) (h : Hand) → i < length old → number_of (slice_index_or new i h) ≡ number_of (slice_index_or old i h)) → AreAllHands tasks new
each_drew tasks old new all long right same = record {
  some = let z = all.some in omega arith;
  many = long ∙ all.many;
  each = λ i h below. let under : i < length old = omega arith in (right i h under, same i h under ∙ (all.each i h under).1);
}

take_own : {X : Type 0} (xs zs : List X) → take (length xs) (xs ++ zs) ≡ xs
take_own [] zs = refl
take_own (x ∷ xs) zs = ap (λ l. x ∷ l) (take_own xs zs)

-- what a slice of all elements of a vector leaves in it
pub written_back : {X : Type 0} (n : ℕ) (xs zs : List X) → n ≡ length xs → take n (xs ++ zs) ≡ xs
written_back n xs zs is = ap (λ k. take k (xs ++ zs)) is ∙ take_own xs zs
