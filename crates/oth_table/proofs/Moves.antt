-- What each kind of step adds to the history and changes in the words.
use Rattle.std.proofs.Common.{◌≡◌, ◌≢◌, ℕ, ◌+◌, ◌*◌, ◌<◌, ◌≤◌, List, [], ◌∷◌, length, set, sym, refl, ap, ◌∙◌, subst, arith, le_refl, length-set, get_or-set_other, get_or-set_same}
use Rattle.std.specs.Prelude.{Option, Some, None, slice_index, if◌then◌else◌}
use mathlib.Core.Logic.{dite}
use native.Mathlib.Decide.{ℕ_discrete}
use Rattle.oth_search.specs.Bounds.Entry.{Bounded, words_of, joined}
use Rattle.oth_history.specs.History.{Name, MayCome, IsSeat}
use Rattle.oth_table.specs.History.{IsTrueBy, author, makes, content, owner, publishes, Fits}
use Rattle.oth_table.specs.Cells.{first_word, version, word, held, HasWords, IsKept}
use Rattle.oth_table.specs.declared.history.Event.{Event}
use Rattle.oth_table.specs.declared.history.Event.TheVariants.{Claim, Publish}
use Rattle.oth_table.specs.declared.history.Limits.{Limits}
use Rattle.oth_table.proofs.Histories.{tested}
use Rattle.oth_table.proofs.Keeps.{St, Goes}

pub held_low : (o : Option Name) → held o ≤ 1
held_low None = omega arith
held_low (Some s) = omega arith

pub held_none : (o : Option Name) → held o ≡ 0 → o ≡ None
held_none None e = refl
held_none (Some s) e = absurd (omega arith)

-- neither a claim nor a publish
pub record IsQuiet (e : Event) (h : List Event) : Type 0 where
  pub same_owner : (c : ℕ) → owner c (e ∷ h) ≡ owner c h
  pub same_content : (c : ℕ) → content c (e ∷ h) ≡ content c h
  pub same_count : (c : ℕ) → publishes c (e ∷ h) ≡ publishes c h

module _ (about : Limits) (s : St) (r : IsKept about s) where
  pub rests : (n : Name) → Goes about r.log s.words n [] s.words
  rests n = record {
    legal = r.legal;
    wide = refl;
    alone = λ m _. tt;
    counted = r.counted;
    stored = r.stored;
    grows = λ c. le_refl (version s.words c);
    same = λ c _. refl;
    theirs = λ c m _ o. (refl, o, λ j _. refl);
  }

  pub tells : (e : Event) → IsQuiet e r.log → MayCome author makes r.log e → Fits about.terms r.log e → Goes about r.log s.words (author e) (e ∷ []) s.words
  tells e q may fits = record {
    legal = (may, fits, r.legal);
    wide = refl;
    alone = λ m other. ((λ is. other (sym is)), tt);
    counted = λ c. r.counted c ∙ sym (λ i. 2 * q.same_count c i + held (q.same_owner c i));
    stored = λ c x o k. r.stored c x (sym (q.same_owner c) ∙ o) (sym (q.same_content c) ∙ k);
    grows = λ c. le_refl (version s.words c);
    same = λ c _. q.same_content c;
    theirs = λ c m _ o. (refl, q.same_owner c ∙ o, λ j _. refl);
  }

  module _ (c : ℕ) (inside : first_word c < length s.words) (x : ℕ) where
    set_version : version (set s.words (first_word c) x) c ≡ x
    set_version = get_or-set_same s.words (first_word c) x 0 inside

    other_version : (d : ℕ) → c ≢ d → version (set s.words (first_word c) x) d ≡ version s.words d
    other_version d other = get_or-set_other s.words (first_word c) (first_word d) x 0 (λ e. other (omega arith))

    same_word : (d j : ℕ) → j < 3 → word (set s.words (first_word c) x) d j ≡ word s.words d j
    same_word d j l = get_or-set_other s.words (first_word c) (first_word d + (1 + j)) x 0 (λ e. absurd (omega arith))

  module _ (n : Name) (c : ℕ) (inside : first_word c < length s.words) where
    pub claims_it : owner c r.log ≡ None → publishes c r.log < about.terms.wear → IsSeat makes r.log n
        → Goes about r.log s.words n (Claim n c ∷ []) (set s.words (first_word c) (version s.words c + 1))
    claims_it free fresh seat = let v : ℕ = version s.words c + 1 in record {
      legal = ((seat, tt), (free, fresh), r.legal);
      wide = length-set s.words (first_word c) v;
      alone = λ m other. ((λ is. other (sym is)), tt);
      counted = λ d. tested c d (λ b. version (set s.words (first_word c) v) d ≡ 2 * publishes d r.log + held (if b then Some n else owner d r.log))
          (λ e. subst (λ k. version (set s.words (first_word c) v) k ≡ 2 * publishes k r.log + 1) e
          (let z : held (owner c r.log) ≡ 0 = ap held free in let k = r.counted c in let now = set_version c inside v in omega arith))
          (λ other. other_version c inside v d other ∙ r.counted d);
      stored = λ d y. tested c d (λ b. (if b then Some n else owner d r.log) ≡ None → content d r.log ≡ Some y → HasWords (set s.words (first_word c) v) d 0 3 y)
          (λ _ o. absurd (cc)) (λ _ o k j lo hi. same_word c inside v d j hi ∙ r.stored d y o k j lo hi);
      grows = λ d. dite (ℕ_discrete c d)
          (λ e. subst (λ k. version s.words k ≤ version (set s.words (first_word c) v) k) e (let now = set_version c inside v in omega arith))
          (λ other. let same = other_version c inside v d other in omega arith);
      same = λ d _. refl;
      theirs = λ d m _ o. dite (ℕ_discrete c d)
          (λ e. let no_one : owner d r.log ≡ None = subst (λ k. owner k r.log ≡ None) e free in absurd (cc))
          (λ other. (
            other_version c inside v d other,
            tested c d (λ b. (if b then Some n else owner d r.log) ≡ Some m) (λ e. absurd (other e)) (λ _. o),
            λ j l. same_word c inside v d j l,
          ));
    }

    pub publishes_it : (given : Bounded) (kept : Bounded) → owner c r.log ≡ Some n → kept ≡ joined (content c r.log) given → IsTrueBy about.terms.scoring given
        → IsTrueBy about.terms.scoring kept → IsSeat makes r.log n
        → HasWords s.words c 0 3 kept → Goes about r.log s.words n (Publish n c given kept ∷ []) (set s.words (first_word c) (version s.words c + 1))
    publishes_it given kept mine joins true_given true_kept seat words = let v : ℕ = version s.words c + 1 in record {
      legal = ((seat, tt), (mine, joins, true_given, true_kept), r.legal);
      wide = length-set s.words (first_word c) v;
      alone = λ m other. ((λ is. other (sym is)), tt);
      counted = λ d. tested c d
          (λ b. version (set s.words (first_word c) v) d ≡ 2 * (if b then publishes d r.log + 1 else publishes d r.log) + held (if b then None else owner d r.log))
          (λ e. subst (λ k. version (set s.words (first_word c) v) k ≡ 2 * (publishes k r.log + 1) + 0) e
          (let z : held (owner c r.log) ≡ 1 = ap held mine in let k = r.counted c in let now = set_version c inside v in omega arith))
          (λ other. other_version c inside v d other ∙ r.counted d);
      stored = λ d y. tested c d
          (λ b. (if b then None else owner d r.log) ≡ None → (if b then Some kept else content d r.log) ≡ Some y → HasWords (set s.words (first_word c) v) d 0 3 y)
          (λ e _ k j lo hi. let same : kept ≡ y = cc in
          subst (λ z. word (set s.words (first_word c) v) z j ≡ slice_index (words_of y) j) e (subst (λ z. word (set s.words (first_word c) v) c j ≡ slice_index (words_of z) j) same
          (same_word c inside v c j hi ∙ words j lo hi)))
          (λ _ o k j lo hi. same_word c inside v d j hi ∙ r.stored d y o k j lo hi);
      grows = λ d. dite (ℕ_discrete c d)
          (λ e. subst (λ k. version s.words k ≤ version (set s.words (first_word c) v) k) e (let now = set_version c inside v in omega arith))
          (λ other. let same = other_version c inside v d other in omega arith);
      same = λ d still. tested c d (λ b. (if b then Some kept else content d r.log) ≡ content d r.log)
          (λ e. absurd (subst (λ k. version s.words k ≡ version (set s.words (first_word c) v) k → ⊥) e (λ f. let now = set_version c inside v in omega arith) still)) (λ _. refl);
      theirs = λ d m apart o. dite (ℕ_discrete c d)
          (λ e. let as_well : owner d r.log ≡ Some n = subst (λ k. owner k r.log ≡ Some n) e mine in let same : m ≡ n = cc in absurd (apart same))
          (λ other. (
            other_version c inside v d other,
            tested c d (λ b. (if b then None else owner d r.log) ≡ Some m) (λ e. absurd (other e)) (λ _. o),
            λ j l. same_word c inside v d j l,
          ));
    }

    pub still_version : (k b d : ℕ) → k < 3 → version (set s.words (first_word c + (1 + k)) b) d ≡ version s.words d
    still_version k b d low = get_or-set_other s.words (first_word c + (1 + k)) (first_word d) b 0 (λ e. absurd (omega arith))

    other_word : (k b d j : ℕ) → k < 3 → c ≢ d → j < 3 → word (set s.words (first_word c + (1 + k)) b) d j ≡ word s.words d j
    other_word k b d j low other l = get_or-set_other s.words (first_word c + (1 + k)) (first_word d + (1 + j)) b 0 (λ e. other (omega arith))

    pub stores_it : (k b : ℕ) → k < 3 → owner c r.log ≡ Some n → Goes about r.log s.words n [] (set s.words (first_word c + (1 + k)) b)
    stores_it k b low mine = record {
      legal = r.legal;
      wide = length-set s.words (first_word c + (1 + k)) b;
      alone = λ m _. tt;
      counted = λ d. still_version k b d low ∙ r.counted d;
      stored = λ d y o is j lo hi. dite (ℕ_discrete c d)
          (λ e. let as_well : owner d r.log ≡ Some n = subst (λ z. owner z r.log ≡ Some n) e mine in absurd (cc))
          (λ other. other_word k b d j low other hi ∙ r.stored d y o is j lo hi);
      grows = λ d. let same = still_version k b d low in omega arith;
      same = λ d _. refl;
      theirs = λ d m apart o. dite (ℕ_discrete c d)
          (λ e. let as_well : owner d r.log ≡ Some n = subst (λ z. owner z r.log ≡ Some n) e mine in let same : m ≡ n = cc in absurd (apart same))
          (λ other. (still_version k b d low, o, λ j l. other_word k b d j low other l));
    }
