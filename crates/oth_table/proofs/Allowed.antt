-- Each step that the table makes keeps the rule, and tells what it should.
use Rattle.std.proofs.Common.{◌≡◌, ℕ, zero, suc, ◌+◌, ◌-◌, ◌*◌, ◌/◌, ◌%◌, ◌<◌, ◌≤◌, eqb, List, [], ◌∷◌, get_or, set, sym, refl, ap, ◌∙◌, subst, arith, le_refl, get_or-set_other, get_or-set_same}
use Rattle.std.specs.Prelude.{Option, Some, None, slice_index, if◌then◌else◌}
use mathlib.Core.Option.{some, none, some-injective}
use mathlib.Core.Logic.{dite}
use native.Mathlib.Decide.{ℕ_discrete, dec_le}
use prog.Atomic.{either}
use lib.ListN.{get_elem?}
use lib.Seq.{set-get_or}
use Rattle.atomic_table.specs.Table.{Act, Valid, carried_after, step, keeps, stepped, Allows}
use Rattle.atomic_table.proofs.Lists.{exchanged}
use Rattle.oth_rules.specs.declared.scoring.Scoring.{Scoring}
use Rattle.oth_search.specs.Bounds.Entry.{Bounded, words_of, joined}
use Rattle.oth_history.specs.History.{IsUnmade, IsSeat}
use Rattle.oth_history.proofs.Histories.{seat_past, begins_more}
use Rattle.oth_table.specs.History.{IsTrueBy, author, makes, content, owner, publishes, Fits, IsLegal, Ends}
use Rattle.oth_table.specs.Cells.{first_word, version, word, held, HasWords, IsSeated, Knows, IsFit, IsKept}
use Rattle.oth_table.specs.Steps.{Sat, Did, WentAway, IsReading, IsOld, Claims, MayReadClaimed, MayStore, MayPublish, glanced, read, checked, aimed}
use Rattle.oth_table.specs.Steps.{found_under, stored, published, glance, read_word, check, aim, claim, read_under, store_word, publish}
use Rattle.oth_table.specs.declared.history.Why.{Why}
use Rattle.oth_table.specs.declared.history.Why.TheVariants.{Busy, Skipped, Worn}
use Rattle.oth_table.specs.declared.history.Event.{Event}
use Rattle.oth_table.specs.declared.history.Event.TheVariants.{Claim, Publish, Look, Away}
use Rattle.oth_table.specs.declared.history.Limits.{Limits}
use Rattle.oth_table.specs.declared.history.Stage.{Stage}
use Rattle.oth_table.specs.declared.history.Stage.TheVariants.{Idle, Reading, Writing, Making, Note}
use Rattle.oth_table.specs.declared.history.View.{View}
use Rattle.oth_table.proofs.Histories.{tested, claims_are, within_wear, content_true, content_there, content_none, publishes_grow, joined_true}
use Rattle.oth_table.proofs.Keeps.{St, turned, went, Goes, kept}
use Rattle.oth_table.proofs.Moves.{held_low, held_none, IsQuiet, rests, tells, claims_it, publishes_it, stores_it}

pub seated_idle : (st : Stage) → st ≡ Idle → IsSeated st
seated_idle st e = subst IsSeated (sym e) tt

module _ (about : Limits) (s : St) (r : IsKept about s) (id : ℕ) (v : View) (at : get_elem? s.views id ≡ some v) (seated : IsSeated v.stage) where
  pub fit : IsFit r.log s.words s.views about.terms v
  fit = r.each id v at

  pub still_fits : (ws : List ℕ) (vs : List View) (st : Stage) → Knows r.log ws vs (went v v.seen st) st → IsFit r.log ws vs about.terms (went v v.seen st)
  still_fits ws vs st k = record { worn = λ _. fit.worn seated; told = fit.told; seat = λ _. fit.seat seated; seen = λ _. fit.seen seated; knows = k }

  pub ended_fits : (e : Event) (ws : List ℕ) (vs : List View) (st : Stage) → Knows (e ∷ r.log) ws vs (went v (e ∷ r.log) st) st → IsFit (e ∷ r.log) ws vs about.terms (went v (e ∷ r.log) st)
  ended_fits e ws vs st k = record {
    worn = λ _. fit.worn seated;
    told = begins_more v.told r.log (e ∷ []) fit.told;
    seat = λ _. seat_past makes (e ∷ []) r.log v.name (fit.seat seated);
    seen = λ _. ([], refl, tt);
    knows = k;
  }

  pub unmoved : (i : ℕ) (cs : List (ℕ × Bounded)) (w : View) → IsKept about (turned s s.words id w) → IsKept about (stepped s i (get_or s.words i 0) id cs w keeps)
  unmoved i cs w k = subst (λ (ws : List ℕ). IsKept about (turned s ws id w)) (sym (set-get_or s.words i 0)) k

  -- a load that adds no event
  sits_on : (i : ℕ) (cs : List (ℕ × Bounded)) (st : Stage) → IsSeated st → ((vs : List View) → Knows r.log s.words vs (went v v.seen st) st)
      → IsKept about (stepped s i (get_or s.words i 0) id cs (went v v.seen st) keeps)
  sits_on i cs st sits k = let w = went v v.seen st in
      unmoved i cs w (kept about s r id v w at seated sits refl [] s.words (rests about s r v.name) (still_fits s.words (set s.views id w) st (k (set s.views id w))))

  -- a load that adds an event other than a claim and a publish
  pub adds : (i : ℕ) (cs : List (ℕ × Bounded)) (e : Event) (st : Stage) → author e ≡ v.name → IsUnmade makes r.log (makes e) → IsQuiet e r.log → Fits about.terms r.log e → IsSeated st
      → Knows (e ∷ r.log) s.words (set s.views id (went v (e ∷ r.log) st)) (went v (e ∷ r.log) st) st → IsKept about (stepped s i (get_or s.words i 0) id cs (went v (e ∷ r.log) st) keeps)
  adds i cs e st mine new q fits sits k = let w = went v (e ∷ r.log) st in let seat = subst (IsSeat makes r.log) (sym mine) (fit.seat seated) in
      let g = subst (λ n. Goes about r.log s.words n (e ∷ []) s.words) mine (tells about s r e q (seat, new) fits) in
      unmoved i cs w (kept about s r id v w at seated sits refl (e ∷ []) s.words g (ended_fits e s.words (set s.views id w) st k))

  pub ends : (e : Event) → author e ≡ v.name → IsUnmade makes r.log (makes e) → Fits about.terms r.log e → Ends v.terms v.name v.seen (e ∷ r.log) e
  ends e mine new fits = let seat = subst (IsSeat makes r.log) (sym mine) (fit.seat seated) in
      record { before = r.log; since = fit.seen seated; last = refl; legal = subst (λ k. IsLegal k (e ∷ r.log)) (sym (fit.worn seated)) ((seat, new), fits, r.legal) }

  -- the seat's scoring is the table's
  pub my_truth : (x : Bounded) → IsTrueBy about.terms.scoring x → IsTrueBy v.terms.scoring x
  my_truth x t = subst (λ z. IsTrueBy z.scoring x) (sym (fit.worn seated)) t

  pub its_truth : (x : Bounded) → IsTrueBy v.terms.scoring x → IsTrueBy about.terms.scoring x
  its_truth x t = subst (λ z. IsTrueBy z.scoring x) (fit.worn seated) t

  did : (e : Event) → author e ≡ v.name → IsUnmade makes r.log (makes e) → Fits about.terms r.log e → Did v (went v (e ∷ r.log) Idle) e
  did e mine new fits = ((refl, refl), refl, ends e mine new fits)

  seen_count : (c : ℕ) → publishes c v.seen ≤ publishes c r.log
  seen_count c = let b = fit.seen seated in publishes_grow c v.seen r.log (b.0, b.1)

  look_quiet : (c : ℕ) (x : Option Bounded) → IsQuiet (Look v.name c x) r.log
  look_quiet c x = record { same_owner = λ _. refl; same_content = λ _. refl; same_count = λ _. refl }

  away_quiet : (c : ℕ) (why : Why) → IsQuiet (Away v.name c why) r.log
  away_quiet c why = record { same_owner = λ _. refl; same_content = λ _. refl; same_count = λ _. refl }

  looks : (i : ℕ) (cs : List (ℕ × Bounded)) (c : ℕ) (x : Option Bounded) → x ≡ content c r.log → IsKept about (stepped s i (get_or s.words i 0) id cs (went v (Look v.name c x ∷ r.log) Idle) keeps)
  looks i cs c x e = adds i cs (Look v.name c x) Idle refl tt (look_quiet c x) e tt tt

  goes_away : (i : ℕ) (cs : List (ℕ × Bounded)) (c : ℕ) (why : Why) → (why ≡ Worn → publishes c r.log ≡ about.terms.wear)
      → IsKept about (stepped s i (get_or s.words i 0) id cs (went v (Away v.name c why ∷ r.log) Idle) keeps)
  goes_away i cs c why e = adds i cs (Away v.name c why) Idle refl tt (away_quiet c why) e tt tt

  went_away : (c : ℕ) (why : Why) → (why ≡ Worn → publishes c r.log ≡ about.terms.wear) → publishes c v.seen < publishes c r.log + held (owner c r.log)
      → WentAway c why v (went v (Away v.name c why ∷ r.log) Idle)
  went_away c why fits more = let all = claims_are about.terms c r.log r.legal in ((refl, refl), refl, (ends (Away v.name c why) refl tt fits, omega arith))

  -- a load of the version, by what it finds
  glance_at : (i : ℕ) (cs : List (ℕ × Bounded)) (c : ℕ) → (w : View) × IsKept about (stepped s i (get_or s.words i 0) id cs w keeps) × glanced c v (version s.words c) w
  glance_at i cs c = let count = r.counted c in let n : ℕ = version s.words c in let p : ℕ = publishes c r.log in let low = held_low (owner c r.log) in let past = seen_count c in
      dite (ℕ_discrete n 0)
      (λ none_yet. let e : None ≡ content c r.log = sym (content_none c r.log (omega arith)) in
      (went v (Look v.name c None ∷ r.log) Idle, looks i cs c None e, ((λ _. did (Look v.name c None) refl tt e), (λ odd. absurd (omega arith)), (λ pos. absurd (omega arith)))))
      (λ some_yet. dite (ℕ_discrete (n % 2) 1)
      (λ odd. let other : Busy ≡ Worn → p ≡ about.terms.wear = λ e. absurd (cc) in
      (went v (Away v.name c Busy ∷ r.log) Idle, goes_away i cs c Busy other, ((λ z. absurd (some_yet z)), (λ _. went_away c Busy other (omega arith)), (λ _ even. absurd (omega arith)))))
      (λ even. let there = content_there c r.log (omega arith) in let b = fit.seen seated in let st : Stage = Reading c n n (Some there.0) in (
        went v v.seen st,
        sits_on i cs st tt (λ _. (omega arith, le_refl n, le_refl n, omega arith, λ _. there.1)),
        ((λ z. absurd (some_yet z)), (λ odd. absurd (even odd)), (λ _ _. (((refl, refl), refl), (there.0, refl)))),
      )))

  aim_at : (i : ℕ) (cs : List (ℕ × Bounded)) (c : ℕ) → (w : View) × IsKept about (stepped s i (get_or s.words i 0) id cs w keeps) × aimed c v (version s.words c) w
  aim_at i cs c = let count = r.counted c in let n : ℕ = version s.words c in let p : ℕ = publishes c r.log in let low = held_low (owner c r.log) in let past = seen_count c in
      let most = within_wear about.terms c r.log r.legal in let worn = ap (λ z. z.wear) (fit.worn seated) in
      dite (ℕ_discrete (n % 2) 1)
      (λ odd. let other : Skipped ≡ Worn → p ≡ about.terms.wear = λ e. absurd (cc) in (
        went v (Away v.name c Skipped ∷ r.log) Idle,
        goes_away i cs c Skipped other,
        ((λ _. went_away c Skipped other (omega arith)), (λ even _. absurd (omega arith)), (λ even _. absurd (omega arith))),
      ))
      (λ even. dite (dec_le v.terms.wear (n / 2))
      (λ full. let is : Worn ≡ Worn → p ≡ about.terms.wear = λ _. omega arith in
      (went v (Away v.name c Worn ∷ r.log) Idle, goes_away i cs c Worn is, ((λ odd. absurd (even odd)), (λ _ _. did (Away v.name c Worn) refl tt is), (λ _ l. absurd (omega arith)))))
      (λ room. let st : Stage = Reading c n n (content c r.log) in (
        went v v.seen st,
        sits_on i cs st tt (λ _. (omega arith, le_refl n, le_refl n, omega arith, λ _. refl)),
        ((λ odd. absurd (even odd)), (λ _ l. absurd (room l)), (λ _ _. (((refl, refl), refl), (content c r.log, refl)))),
      )))

  read_at : (i : ℕ) (cs : List (ℕ × Bounded)) (c k : ℕ) → k < 3 → (st : Stage) → IsReading c st → Knows r.log s.words s.views v st
      → (w : View) × IsKept about (stepped s i (get_or s.words i 0) id cs w keeps) × read k v st (word s.words c k) w
  read_at i cs c k low (Reading d a last (Some x)) is known = let n : ℕ = version s.words d in let st : Stage = Reading d n n (Some x) in let up = known.1 in let more = known.2 in (
    went v v.seen (Reading d a n (Some x)),
    sits_on i cs (Reading d a n (Some x)) tt (λ _. (known.0, omega arith, le_refl n, known.3, known.4)),
    (
      ((refl, refl), refl),
      (
        n,
        refl,
        λ l. let even = known.0 in let here : a ≡ n = omega arith in let count = r.counted d in let small = held_low (owner d r.log) in
            (omega arith, subst (λ z. word s.words z k ≡ slice_index (words_of x) k) is (r.stored d x (held_none (owner d r.log) (omega arith)) (known.4 here) k (omega arith) low)),
      ),
    ),
  )
  read_at i cs c k low (Reading d a last None) is known = absurd is
  read_at i cs c k low Idle is known = absurd is
  read_at i cs c k low (Writing d a old given j) is known = absurd is
  read_at i cs c k low (Making t) is known = absurd is
  read_at i cs c k low Note is known = absurd is

  check_at : (i : ℕ) (cs : List (ℕ × Bounded)) (c : ℕ) (st : Stage) → IsReading c st → Knows r.log s.words s.views v st
      → (w : View) × IsKept about (stepped s i (get_or s.words i 0) id cs w keeps) × checked v st (version s.words c) w
  check_at i cs c (Reading d a last (Some x)) is known =
      subst (λ z. (w : View) × IsKept about (stepped s i (get_or s.words i 0) id cs w keeps) × checked v (Reading d a last (Some x)) (version s.words z) w) is
      (let n : ℕ = version s.words d in let more = known.2 in let first = known.1 in let past = known.3 in let count = r.counted d in let low = held_low (owner d r.log) in
      dite (ℕ_discrete n a)
      (λ same. let here = known.4 (sym same) in (
        went v (Look v.name d (Some x) ∷ r.log) Idle,
        looks i cs d (Some x) (sym here),
        ((λ _. (omega arith, my_truth x (content_true about.terms d r.log x r.legal here), did (Look v.name d (Some x)) refl tt (sym here))), (λ not. absurd (not same))),
      ))
      (λ not. let other : Busy ≡ Worn → publishes d r.log ≡ about.terms.wear = λ e. absurd (cc) in
      (went v (Away v.name d Busy ∷ r.log) Idle, goes_away i cs d Busy other, ((λ same. absurd (not same)), (λ _. went_away d Busy other (omega arith))))))
  check_at i cs c (Reading d a last None) is known = absurd is
  check_at i cs c Idle is known = absurd is
  check_at i cs c (Writing d a old given j) is known = absurd is
  check_at i cs c (Making t) is known = absurd is
  check_at i cs c Note is known = absurd is

  found_at : (i : ℕ) (cs : List (ℕ × Bounded)) (c k : ℕ) → k < 3 → (st : Stage) → MayReadClaimed c st → Knows r.log s.words s.views v st → v.stage ≡ st
      → (w : View) × IsKept about (stepped s i (get_or s.words i 0) id cs w keeps) × found_under k v st (word s.words c k) w
  found_at i cs c k low (Writing d a (Some x) given zero) is known same = let st : Stage = Writing d a (Some x) given 0 in
      (went v v.seen st, sits_on i cs st tt (λ _. known), (((refl, refl), refl), sym same, subst (λ z. word s.words z k ≡ slice_index (words_of x) k) is (known.6 x refl k (omega arith) low)))
  found_at i cs c k low (Writing d a (Some x) given (suc j)) is known same = absurd is
  found_at i cs c k low (Writing d a None given j) is known same = absurd is
  found_at i cs c k low (Reading d a last x) is known same = absurd is
  found_at i cs c k low Idle is known same = absurd is
  found_at i cs c k low (Making t) is known same = absurd is
  found_at i cs c k low Note is known same = absurd is

  -- the next word is stored, which is the k-th
  store_at : (cs : List (ℕ × Bounded)) (c k bits : ℕ) → k < 3 → c < about.cells → (st : Stage) → MayStore c k bits st → Knows r.log s.words s.views v st
      → (w : View) × IsKept about (stepped s (first_word c + (1 + k)) bits id cs w keeps) × stored v st w
  store_at cs c k bits low inside (Writing d a old given j) is known =
      let st : Stage = Writing d a old given (j + 1) in let w = went v v.seen st in let wide = r.wide in let cell = is.0 in let here = is.1 in
      let ws : List ℕ = set s.words (first_word d + (1 + j)) bits in
      let next : IsKept about (turned s ws id w) = kept about s r id v w at seated tt refl [] ws (stores_it about s r v.name d (omega arith) j bits (omega arith) known.1)
      (still_fits ws (set s.views id w) st (
        get_or-set_other s.words (first_word d + (1 + j)) (first_word d) bits 0 (λ e. absurd (omega arith)) ∙ known.0,
        known.1,
        known.2,
        known.3,
        omega arith,
        (λ m lo hi. dite (ℕ_discrete m j)
            (λ e.
            ap (λ z. get_or ws (first_word d + (1 + z)) 0) e
            ∙ (get_or-set_same s.words (first_word d + (1 + j)) bits 0 (omega arith) ∙ (is.2 ∙ ap (λ z. slice_index (words_of (joined old given)) z) (sym (e ∙ here)))))
            (λ other. get_or-set_other s.words (first_word d + (1 + j)) (first_word d + (1 + m)) bits 0 (λ e. other (omega arith)) ∙ known.5 m lo (omega arith))),
        (λ x e m lo hi. get_or-set_other s.words (first_word d + (1 + j)) (first_word d + (1 + m)) bits 0 (λ f. absurd (omega arith)) ∙ known.6 x e m (omega arith) hi),
      )) in
      (w, subst (λ (z : ℕ × ℕ). IsKept about (turned s (set s.words (first_word z.0 + (1 + z.1)) bits) id w)) (λ i. (cell i, here i)) next, (((refl, refl), refl), refl))
  store_at cs c k bits low inside (Reading d a last x) is known = absurd is
  store_at cs c k bits low inside Idle is known = absurd is
  store_at cs c k bits low inside (Making t) is known = absurd is
  store_at cs c k bits low inside Note is known = absurd is

  publish_at : (cs : List (ℕ × Bounded)) (c next : ℕ) → c < about.cells → (st : Stage) → MayPublish v.terms.scoring c next st → Knows r.log s.words s.views v st
      → (w : View) × IsKept about (stepped s (first_word c) next id cs w keeps) × published v st w
  publish_at cs c next inside (Writing d a old given j) is known =
      let x : Bounded = joined old given in
      let e : Event = Publish v.name d given x in
      let w = went v (e ∷ r.log) Idle in
      let wide = r.wide in
      let cell = is.0 in
      let all = is.1 in
      let up = is.2 in
      let now = known.0 in
      let joins : x ≡ joined (content d r.log) given = ap (λ o. joined o given) (sym known.2) in
      let words : HasWords s.words d 0 3 x = subst (λ z. HasWords s.words d 0 z x) all known.5 in
      let after : IsKept about (turned s (set s.words (first_word d) (version s.words d + 1)) id w) = kept about s r id v w at seated tt refl (e ∷ [])
      (set s.words (first_word d) (version s.words d + 1))
      (publishes_it about s r v.name d (omega arith) given x known.1 joins (its_truth given known.3) (its_truth x is.3) (fit.seat seated) words)
      (ended_fits e (set s.words (first_word d) (version s.words d + 1)) (set s.views id w) Idle tt) in
      let value : version s.words d + 1 ≡ next = omega arith in (
        w,
        subst (λ (z : ℕ × ℕ). IsKept about (turned s (set s.words (first_word z.0) z.1) id w)) (λ i. (cell i, value i)) after,
        did e refl tt (known.1, joins, its_truth given known.3, its_truth x is.3),
      )
  publish_at cs c next inside (Reading d a last x) is known = absurd is
  publish_at cs c next inside Idle is known = absurd is
  publish_at cs c next inside (Making t) is known = absurd is
  publish_at cs c next inside Note is known = absurd is

  is_old : (c : ℕ) (o : Option Bounded) → content c r.log ≡ o → IsOld v.terms.scoring (2 * publishes c r.log) o
  is_old c None e = dite (ℕ_discrete (publishes c r.log) 0) (λ z. omega arith) (λ some_yet. let there = content_there c r.log (omega arith) in let a = there.1 in absurd (cc))
  is_old c (Some x) e = (
    dite (ℕ_discrete (publishes c r.log) 0) (λ z. let a = content_none c r.log z in absurd (cc)) (λ some_yet. omega arith),
    my_truth x (content_true about.terms c r.log x r.legal e),
  )

  -- the version is the one expected, and the cell is claimed
  claim_at : (cs : List (ℕ × Bounded)) (c : ℕ) (given : Bounded) → c < about.cells → version s.words c % 2 ≡ 0 → version s.words c / 2 < about.terms.wear → IsTrueBy v.terms.scoring given
      → (w : View) × IsKept about (stepped s (first_word c) (version s.words c + 1) id cs w keeps) × Claims c (version s.words c) given v w
  claim_at cs c given inside even room right =
      let n : ℕ = version s.words c in let count = r.counted c in let low = held_low (owner c r.log) in let wide = r.wide in let free = held_none (owner c r.log) (omega arith) in
      let old : Option Bounded = content c r.log in let e : Event = Claim v.name c in let st : Stage = Writing c (n + 1) old given 0 in let w = went v (e ∷ r.log) st in
      let ws : List ℕ = set s.words (first_word c) (n + 1) in let fits : Fits about.terms r.log e = (free, omega arith) in
      let twice : 2 * publishes c r.log ≡ n = omega arith in (
        w,
        kept about s r id v w at seated tt refl (e ∷ []) ws (claims_it about s r v.name c (omega arith) free fits.1 (fit.seat seated))
            (ended_fits e ws (set s.views id w) st (
              get_or-set_same s.words (first_word c) (n + 1) 0 (omega arith),
              tested c c (λ b. (if b then Some v.name else owner c r.log) ≡ Some v.name) (λ _. refl) (λ no_way. absurd (no_way refl)),
              refl,
              right,
              omega arith,
              (λ m lo hi. absurd (omega arith)),
              (λ x is m lo hi. get_or-set_other s.words (first_word c) (first_word c + (1 + m)) (n + 1) 0 (λ f. absurd (omega arith)) ∙ r.stored c x free is m lo hi),
            )),
        (
          (refl, refl),
          (
            old,
            subst (λ z. IsOld v.terms.scoring z old) twice (is_old c old refl),
            refl,
            joined_true v.terms.scoring old given (λ x is. my_truth x (content_true about.terms c r.log x r.legal is)) right,
            right,
          ),
          ends e refl tt fits,
        ),
      )

reading_seated : (c : ℕ) (st : Stage) → IsReading c st → IsSeated st
reading_seated c (Reading d a last x) is = tt
reading_seated c Idle is = tt
reading_seated c (Writing d a old given j) is = tt
reading_seated c (Making t) is = tt
reading_seated c Note is = is

-- the steps of a look
pub glances : (about : Limits) (slots id : ℕ) (me : Sat) (c i : ℕ) → i ≡ first_word c + 0 → me.0.stage ≡ Idle → Allows (IsKept about) slots id me i (λ n. n) (glance (step slots i 0 0 none) me)
glances about slots id me c i is idle s r _ at _ = let g = glance_at about s r id me.0 at (seated_idle me.0.stage idle) i me.1 c in
    let cell : c ≡ (i - first_word 0) / 4 = omega arith in let here : version s.words c ≡ get_or s.words i 0 = ap (λ z. get_or s.words z 0) (omega arith) in
    (g.0, keeps, tt, g.1, subst (λ (z : ℕ × ℕ). glanced z.0 me.0 z.1 g.0) (λ j. (cell j, here j)) g.2)

pub aims : (about : Limits) (slots id : ℕ) (me : Sat) (c i : ℕ) → i ≡ first_word c + 0 → me.0.stage ≡ Idle → Allows (IsKept about) slots id me i (λ n. n) (aim (step slots i 0 0 none) me)
aims about slots id me c i is idle s r _ at _ = let g = aim_at about s r id me.0 at (seated_idle me.0.stage idle) i me.1 c in
    let cell : c ≡ (i - first_word 0) / 4 = omega arith in let here : version s.words c ≡ get_or s.words i 0 = ap (λ z. get_or s.words z 0) (omega arith) in
    (g.0, keeps, tt, g.1, subst (λ (z : ℕ × ℕ). aimed z.0 me.0 z.1 g.0) (λ j. (cell j, here j)) g.2)

pub reads : (about : Limits) (slots id : ℕ) (me : Sat) (c k i : ℕ) → i ≡ first_word c + (1 + k) → k < 3 → IsReading c me.0.stage
    → Allows (IsKept about) slots id me i (λ n. n) (read_word (step slots i 0 0 none) me)
reads about slots id me c k i is low reading s r _ at _ =
    let g = read_at about s r id me.0 at (reading_seated c me.0.stage reading) i me.1 c k low me.0.stage reading (r.each id me.0 at).knows in
    let place : k ≡ (i - first_word 0) % 4 - 1 = omega arith in let here : word s.words c k ≡ get_or s.words i 0 = ap (λ z. get_or s.words z 0) (omega arith) in
    (g.0, keeps, tt, g.1, subst (λ (z : ℕ × ℕ). read z.0 me.0 me.0.stage z.1 g.0) (λ j. (place j, here j)) g.2)

pub checks : (about : Limits) (slots id : ℕ) (me : Sat) (c i : ℕ) → i ≡ first_word c + 0 → IsReading c me.0.stage → Allows (IsKept about) slots id me i (λ n. n) (check (step slots i 0 0 none) me)
checks about slots id me c i is reading s r _ at _ =
    let g = check_at about s r id me.0 at (reading_seated c me.0.stage reading) i me.1 c me.0.stage reading (r.each id me.0 at).knows in
    let here : version s.words c ≡ get_or s.words i 0 = ap (λ z. get_or s.words z 0) (omega arith) in
    (g.0, keeps, tt, g.1, subst (λ z. checked me.0 me.0.stage z g.0) here g.2)

-- the steps of a put
writing_seated : (c k bits : ℕ) (st : Stage) → MayStore c k bits st → IsSeated st
writing_seated c k bits (Writing d a old given j) is = tt
writing_seated c k bits (Reading d a last x) is = tt
writing_seated c k bits Idle is = tt
writing_seated c k bits (Making t) is = tt
writing_seated c k bits Note is = is

publishing_seated : (g : Scoring) (c next : ℕ) (st : Stage) → MayPublish g c next st → IsSeated st
publishing_seated g c next (Writing d a old given j) is = tt
publishing_seated g c next (Reading d a last x) is = tt
publishing_seated g c next Idle is = tt
publishing_seated g c next (Making t) is = tt
publishing_seated g c next Note is = is

found_seated : (c : ℕ) (st : Stage) → MayReadClaimed c st → IsSeated st
found_seated c (Writing d a old given j) is = tt
found_seated c (Reading d a last x) is = tt
found_seated c Idle is = tt
found_seated c (Making t) is = tt
found_seated c Note is = is

pub reads_claimed : (about : Limits) (slots id : ℕ) (me : Sat) (c k i : ℕ) → i ≡ first_word c + (1 + k) → k < 3 → MayReadClaimed c me.0.stage
    → Allows (IsKept about) slots id me i (λ n. n) (read_under (step slots i 0 0 none) me)
reads_claimed about slots id me c k i is low mine s r _ at _ =
    let g = found_at about s r id me.0 at (found_seated c me.0.stage mine) i me.1 c k low me.0.stage mine (r.each id me.0 at).knows refl in
    let place : k ≡ (i - first_word 0) % 4 - 1 = omega arith in let here : word s.words c k ≡ get_or s.words i 0 = ap (λ z. get_or s.words z 0) (omega arith) in
    (g.0, keeps, tt, g.1, subst (λ (z : ℕ × ℕ). found_under z.0 me.0 me.0.stage z.1 g.0) (λ j. (place j, here j)) g.2)

pub stores : (about : Limits) (slots id : ℕ) (me : Sat) (c k bits i : ℕ) → i ≡ first_word c + (1 + k) → k < 3 → c < about.cells → MayStore c k bits me.0.stage
    → Allows (IsKept about) slots id me i (λ _. bits) (λ _. store_word (step slots i bits 0 none) me bits)
stores about slots id me c k bits i is low inside mine s r _ at _ =
    let g = store_at about s r id me.0 at (writing_seated c k bits me.0.stage mine) me.1 c k bits low inside me.0.stage mine (r.each id me.0 at).knows in
    (g.0, keeps, tt, subst (λ z. IsKept about (stepped s z bits id me.1 g.0 keeps)) (sym is) g.1, g.2)

pub publishes_next : (about : Limits) (slots id : ℕ) (me : Sat) (c next i : ℕ) → i ≡ first_word c + 0 → c < about.cells → MayPublish me.0.terms.scoring c next me.0.stage
    → Allows (IsKept about) slots id me i (λ _. next) (λ _. publish (step slots i next 0 none) me next)
publishes_next about slots id me c next i is inside mine s r _ at _ =
    let g = publish_at about s r id me.0 at (publishing_seated me.0.terms.scoring c next me.0.stage mine) me.1 c next inside me.0.stage mine (r.each id me.0 at).knows in
    let here : first_word c ≡ i = omega arith in
    (g.0, keeps, tt, subst (λ z. IsKept about (stepped s z next id me.1 g.0 keeps)) here g.1, g.2)

pub claims_cell : (about : Limits) (slots id : ℕ) (me : Sat) (c old new : ℕ) (given : Bounded) (i : ℕ) → i ≡ first_word c + 0 → c < about.cells → new ≡ old + 1 → old % 2 ≡ 0
    → old / 2 < about.terms.wear
    → (last : ℕ) (x : Option Bounded) → me.0.stage ≡ Reading c old last x → IsTrueBy me.0.terms.scoring given
    → Allows (IsKept about) slots id me i (λ n. either (eqb n old) new n) (claim (step slots i old new (some given)) me)
claims_cell about slots id me c old new given i is inside up even room last x reading right s r _ at _ =
    let v : View = me.0 in let seated : IsSeated v.stage = subst IsSeated (sym reading) tt in let here : i ≡ first_word c = omega arith in let n : ℕ = get_or s.words i 0 in
    let now : version s.words c ≡ n = ap (λ z. get_or s.words z 0) (sym here) in let cell : c ≡ (i - first_word 0) / 4 = omega arith in
    let known = subst (Knows r.log s.words s.views v) reading (r.each id v at).knows in
    let F : ℕ → Type 0 = λ m.
    (w : View) × (a : Act Bounded) × Valid s.homes me.1 a × IsKept about (stepped s i m id me.1 w a) × claim (step slots i old new (some given)) me n (w, carried_after me.1 a) in
    exchanged n old new F
    (λ hit. let same : version s.words c ≡ old = now ∙ hit in
    let g = claim_at about s r id v at seated me.1 c given inside (ap (λ z. z % 2) same ∙ even) (subst (λ z. z / 2 < about.terms.wear) (sym same) room) right in (
      g.0,
      keeps,
      tt,
      subst (λ (z : ℕ × ℕ). IsKept about (stepped s z.0 z.1 id me.1 g.0 keeps)) (λ j. (sym here j, (ap (λ z. z + 1) same ∙ sym up) j)) g.1,
      λ given' e. ((λ _. subst (λ (z : ℕ × ℕ × Bounded). Claims z.0 z.1 z.2 v g.0) (λ j. (cell j, same j, some-injective given given' e j)) g.2), (λ miss. absurd (miss hit))),
    ))
    (λ miss. let count = r.counted c in let low = held_low (owner c r.log) in let more = known.2 in let first = known.1 in let past = known.3 in
    let other : Skipped ≡ Worn → publishes c r.log ≡ about.terms.wear = λ e. absurd (cc) in (
      went v (Away v.name c Skipped ∷ r.log) Idle,
      keeps,
      tt,
      goes_away about s r id v at seated i me.1 c Skipped other,
      λ given' e. (
        (λ hit. absurd (miss hit)),
        (λ _. subst (λ z. WentAway z Skipped v (went v (Away v.name c Skipped ∷ r.log) Idle)) cell
            (went_away about s r id v at seated c Skipped other (omega arith))),
      ),
    ))
