-- What a hand keeps when it takes a number.
use Rattle.std.proofs.Common.{◌≡◌, ℕ, zero, suc, ◌+◌, ◌<◌, ◌≤◌, Bool, List, [], ◌∷◌, ◌++◌, length, get_or, set, sym, refl, ap, ◌∙◌, subst, arith}
use Rattle.std.proofs.Common.{slice_index_or, vec_len, Vec, Option, Some, None, get_or-set_same, get_or-set_other, append-nil}
use mathlib.Core.Logic.{dite}
use native.Mathlib.Decide.{ℕ_discrete}
use Rattle.std.specs.List.{sum_by}
use Rattle.std.specs.Option.{option_to_list, MatchOption}
use Rattle.std.specs.Vec.{with_item}
use Rattle.std.specs.declared.alloc.Global.{Global}
use Rattle.std.proofs.lemmas.List.Sums.{sum_by-cons}
use Rattle.std.proofs.lemmas.Bool.Decides.{nat_tests}
use Rattle.crossbeam_deque.specs.Handles.{Pass, view, IsPassOf, worker_deque, stealer_deque, worker_view}
use Rattle.crossbeam_deque.specs.declared.handles.Worker.{Worker}
use Rattle.oth_pieces.specs.declared.tasks.state.Tasks.{Tasks}
use Rattle.oth_pieces.specs.declared.tasks.state.Hand.{Hand}
use Rattle.oth_pieces.specs.declared.tasks.rule.Deal.{Deal}
use Rattle.oth_pieces.specs.declared.tasks.share.Share.{Share}
use Rattle.oth_pieces.specs.Dealing.{times, takes, Took}
use Rattle.oth_pieces.specs.Hands.{dealt_of, taken_with, Knows, Thief, Fits, IsHandOf, Draws}
use Rattle.oth_pieces.proofs.Dealings.{times-append}

abbrev Token : Type 0
Token = Pass ℕ Share Global

abbrev Owner : Type 0
Owner = Worker ℕ Global Share Deal

-- a sum after one element was changed
pub sum_set_or : {X : Type 0} (f : X → ℕ) (xs : List X) (k : ℕ) (x y : X) → k < length xs → x ≡ get_or xs k x → sum_by f (set xs k y) + f x ≡ sum_by f xs + f y
sum_set_or f [] k x y below is = absurd (omega arith)
sum_set_or f (z ∷ zs) zero x y below is = let same : f x ≡ f z = ap f is in omega (arith, sum_by-cons f z zs, sum_by-cons f y zs)
sum_set_or f (z ∷ zs) (suc k) x y below is = let rest = sum_set_or f zs k x y (omega arith) is in omega (arith, sum_by-cons f z zs, sum_by-cons f z (set zs k y))

-- within a list the default doesn't matter
pub any_default : {X : Type 0} (xs : List X) (k : ℕ) (d e : X) → k < length xs → get_or xs k d ≡ get_or xs k e
any_default [] k d e below = absurd (omega arith)
any_default (x ∷ xs) zero d e below = refl
any_default (x ∷ xs) (suc k) d e below = any_default xs k d e (omega arith)

-- a pass of the deque that stands at k
pub pass_at : (tasks : Tasks) (k : ℕ) (t : Thief) (p : Token) → k < vec_len tasks.thieves → t ≡ slice_index_or tasks.thieves.items k t → IsPassOf (stealer_deque t) p
    → (s : Thief) → IsPassOf (stealer_deque (slice_index_or tasks.thieves.items k s)) p
pass_at tasks k t p below is pass s = let m = tasks.thieves.ok.0 in let P : Thief → Type 0 = λ u. IsPassOf (stealer_deque u) p in
    subst P (is ∙ any_default tasks.thieves.items k t s (omega arith)) pass

took_knows : (tasks : Tasks) (deque : ℕ) (v w : Share) (found : Option ℕ) → Took v w found → Knows tasks deque v → Knows tasks deque w
took_knows tasks deque v w found took knows = let P : Share → Type 0 = Knows tasks deque in subst P (sym took.0) knows

took_times : (x : ℕ) (v w : Share) (found : Option ℕ) → Took v w found → times x w.taken ≡ times x v.taken + times x (option_to_list found)
took_times x v w found took = ap (λ (u : Share). times x u.taken) took.0 ∙ times-append x v.taken (option_to_list found)

times_one : (x : ℕ) → times x (x ∷ []) ≡ 1
times_one x = grind (arith, nat_tests)

backed : (n count d x : ℕ) → 0 < dealt_of n count d x → x < count
backed n count d x h = grind (arith, nat_tests)

-- a number that was taken is one of those that were dealt
took_below : (tasks : Tasks) (deque : ℕ) (v w : Share) (x : ℕ) → Took v w (Some x) → Knows tasks deque v → x < tasks.count
took_below tasks deque v w x took knows =
    let t : times x w.taken ≡ times x v.taken + times x (x ∷ []) = took_times x v w (Some x) took in
    let fair : times x w.taken ≤ times x w.put = took.1 x in
    let same : times x w.put ≡ times x v.put = ap (λ (u : Share). times x u.put) took.0 in
    let put : times x v.put ≡ dealt_of (vec_len tasks.thieves) tasks.count deque x = knows.1 x in
    let one = times_one x in
    backed (vec_len tasks.thieves) tasks.count deque x (omega arith)

found_below : (tasks : Tasks) (deque : ℕ) (v w : Share) (found : Option ℕ) → Took v w found → Knows tasks deque v → (x : ℕ) → found ≡ Some x → x < tasks.count
found_below tasks deque v w found took knows x is = let P : Option ℕ → Type 0 = Took v w in took_below tasks deque v w x (subst P is took) knows

pub steals : (tasks : Tasks) (h : Hand) (k : ℕ) (p p' : Token) (found : Option ℕ) → Fits tasks h → k < vec_len tasks.thieves → p ≡ slice_index_or h.passes.items k p
    → ((s : Thief) → IsPassOf (stealer_deque (slice_index_or tasks.thieves.items k s)) p') → Took (view p) (view p') found → Draws tasks h (record h { passes = with_item h.passes k p' }) found
steals tasks h k p p' found fits below is pass took =
    let inside : k < length h.passes.items = let n = fits.passes in let m = h.passes.ok.0 in omega arith in
    let Right : ℕ → Token → Type 0 = λ j q. ((s : Thief) → IsPassOf (stealer_deque (slice_index_or tasks.thieves.items j s)) q) × Knows tasks j (view q) in
    let old_knows : Knows tasks k (view p) = let P : Token → Type 0 = λ q. Knows tasks k (view q) in subst P (sym is) (fits.each_knows k p below) in
    let each : (j : ℕ) (q : Token) → j < vec_len tasks.thieves → Right j (slice_index_or (set h.passes.items k p') j q) = λ j q under. dite (ℕ_discrete j k)
    (λ same. let here : slice_index_or (set h.passes.items k p') j q ≡ p' = ap (λ i. get_or (set h.passes.items k p') i q) same ∙ get_or-set_same h.passes.items k p' q inside in
    subst (λ (y : ℕ × Token). Right y.0 y.1) (λ i. (sym same i, sym here i)) (pass, took_knows tasks k (view p) (view p') found took old_knows))
    (λ other. let P : Token → Type 0 = Right j in subst P (sym (get_or-set_other h.passes.items k j p' q other)) ((λ s. fits.each j s q under), fits.each_knows j q under)) in
    record {
      fits = record {
        number = fits.number;
        passes = fits.passes;
        owner = fits.owner;
        owner_knows = fits.owner_knows;
        each = λ j s q under. (each j q under).0 s;
        each_knows = λ j q under. (each j q under).1;
        room = fits.room;
      };
      same = (refl, refl, refl);
      taken = λ x. let s = sum_set_or (taken_with x) h.passes.items k p p' inside is in let t = took_times x (view p) (view p') found took in omega arith;
      below = found_below tasks k (view p) (view p') found took old_knows;
    }

pub pops : (tasks : Tasks) (h : Hand) (owner : Owner) (found : Option ℕ) → Fits tasks h → worker_deque owner ≡ worker_deque h.owner → Took (worker_view h.owner) (worker_view owner) found
    → Draws tasks h (record h { owner = owner }) found
pops tasks h owner found fits same took = record {
  fits = record {
    number = fits.number;
    passes = fits.passes;
    owner = λ s. same ∙ fits.owner s;
    owner_knows = took_knows tasks h.number (worker_view h.owner) (worker_view owner) found took fits.owner_knows;
    each = fits.each;
    each_knows = fits.each_knows;
    room = fits.room;
  };
  same = (refl, refl, refl);
  taken = λ x. let t = took_times x (worker_view h.owner) (worker_view owner) found took in omega arith;
  below = found_below tasks h.number (worker_view h.owner) (worker_view owner) found took fits.owner_knows;
}

-- what a pop tells is what the hand took
pub popped : (E : Type 0) (tasks : Tasks) (h : Hand) (owner : Owner) (found : Option ℕ) → Fits tasks h → worker_deque owner ≡ worker_deque h.owner
    → MatchOption found ((worker_view owner ≡ worker_view h.owner) × E) (λ x. takes (worker_view h.owner) (x ∷ []) (worker_view owner)) → Draws tasks h (record h { owner = owner }) found
popped E tasks h owner None fits same rule =
    pops tasks h owner None fits same (rule.0 ∙ ap (λ (l : List ℕ). record (worker_view h.owner) { taken = l }) (sym (append-nil (worker_view h.owner).taken)), tt)
popped E tasks h owner (Some x) fits same rule = pops tasks h owner (Some x) fits same (rule.0, rule.1)

apart_times : (number x : ℕ) → number < x → times x (number ∷ []) ≡ 0
apart_times number x less = grind (arith, nat_tests)

module _ (tasks : Tasks) (old new : Hand) (is : IsHandOf tasks old) where
  -- the number drawn goes into the list
  pub draws_into : (found : Option ℕ) (number : ℕ) (list : Vec ℕ Global) (ended : Bool) → Draws tasks old new found → found ≡ Some number → list.items ≡ new.list.items ++ number ∷ []
      → IsHandOf tasks (record { number = new.number; owner = new.owner; passes = new.passes; list = list; ended = ended; room = new.room })
  draws_into found number list ended drew some longer =
      let P : Option ℕ → Type 0 = Draws tasks old new in
      let draws : Draws tasks old new (Some number) = subst P some drew in
      let kept : new.list ≡ old.list = draws.same.1 in
      let whole : list.items ≡ old.list.items ++ number ∷ [] = longer ∙ ap (λ (l : Vec ℕ Global). l.items ++ number ∷ []) kept in record {
        fits = record {
          number = draws.fits.number;
          passes = draws.fits.passes;
          owner = draws.fits.owner;
          owner_knows = draws.fits.owner_knows;
          each = draws.fits.each;
          each_knows = draws.fits.each_knows;
          room = draws.fits.room;
        };
        taken = λ x.
            let t = draws.taken x in
            let o = is.taken x in
            omega (arith, ap (times x) whole, times-append x old.list.items (number ∷ []));
        within = λ x above.
            let none = is.within x above in
            let less : number < tasks.count = draws.below number refl in
            omega (arith, ap (times x) whole, times-append x old.list.items (number ∷ []), apart_times number x (omega arith));
      }

  pub draws_nothing : (found : Option ℕ) (ended : Bool) → Draws tasks old new found → found ≡ None
      → IsHandOf tasks (record { number = new.number; owner = new.owner; passes = new.passes; list = new.list; ended = ended; room = new.room })
  draws_nothing found ended drew none =
      let P : Option ℕ → Type 0 = Draws tasks old new in
      let draws : Draws tasks old new None = subst P none drew in
      let kept : new.list ≡ old.list = draws.same.1 in record {
        fits = record {
          number = draws.fits.number;
          passes = draws.fits.passes;
          owner = draws.fits.owner;
          owner_knows = draws.fits.owner_knows;
          each = draws.fits.each;
          each_knows = draws.fits.each_knows;
          room = draws.fits.room;
        };
        taken = λ x.
            let t = draws.taken x in
            let o = is.taken x in
            omega (arith, ap (λ (l : Vec ℕ Global). times x l.items) kept);
        within = λ x above. let no = is.within x above in ap (λ (l : Vec ℕ Global). times x l.items) kept ∙ no;
      }
