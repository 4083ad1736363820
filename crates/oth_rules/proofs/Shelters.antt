-- Discs that are backed along each of the four lines are stable.
use Rattle.std.proofs.Common.{◌≡◌, ℕ, zero, suc, ◌<◌, Bool, true, false, not, ◌&&◌, ◌||◌, Option, Some, None, List, [], ◌∷◌, get_or, refl, sym, ap, ◌∙◌, inl, inr, arith}
use Rattle.std.specs.Prelude.{◌==◌, IfSome, if◌then◌else◌}
use Rattle.std.proofs.lemmas.List.Folds.{list_any_at}
use Rattle.std.specs.List.{list_any}
use Rattle.std.proofs.lemmas.Bool.{cases_Bool, eqb-true, eq-eqb, ne_eqb, and_parts, and_from, and_left, and_cases, or_cases, or_left, or_right, or_from, not-true, false_from_ne_true, false≢true}
use Rattle.oth_rules.specs.declared.direction.Compass.{Compass}
use Rattle.oth_rules.specs.declared.direction.Compass.TheVariants.{North, NorthEast, East, SouthEast, South, SouthWest, West, NorthWest}
use Rattle.oth_rules.specs.Square.{Direction, Stay, Forth, Back, has, next, ray, ray_from, is_in, directions}
use Rattle.oth_rules.specs.Position.{Position, Cell, Mine, Theirs, Empty, cell, is_mine, is_theirs, is_empty, is_theirs_cell, is_empty_cell, opposite_cell, pass}
use Rattle.oth_rules.specs.Move.{outflanked, flipped_along, is_flipped, after}
use Rattle.oth_rules.specs.Line.{direction_of, reversed, some_in, is_next}
use Rattle.oth_rules.specs.Laws.{IsLegal}
use Rattle.oth_rules.specs.Stable.{StaysFor, IsStable, AreStable, Reaches, is_backed}
use Rattle.oth_rules.proofs.Lines.{next_lt, and_turn}
use Rattle.oth_rules.proofs.Rays.{front, is_closed, outflanked-is, in_front, closed-yes, closed-no, mine_not_theirs, reversed-twice, adjacent}
use Rattle.oth_rules.proofs.Positions.{cell-position_of, after-is}
use Rattle.oth_rules.proofs.Words.{legal_empty, compasses, any_compass}
use Rattle.oth_rules.proofs.Counts.{flipped_theirs, theirs_not_empty, empty_after, empty-pass}

-- ---- a square that may be there, and sets

some_more : (f g : ℕ → Bool) (o : Option ℕ) → ((t : ℕ) → f t ≡ true → g t ≡ true) → some_in f o ≡ true →
    some_in g o ≡ true
unfolding some_in
some_more f g None h e = e
some_more f g (Some t) h e = h t e

some_at : (f : ℕ → Bool) (t : ℕ) (o : Option ℕ) → some_in (λ v. v == t) o ≡ true → some_in f o ≡ true → f t ≡ true
unfolding some_in
some_at f t None h e = absurd (false≢true e)
some_at f t (Some v) h e = ap f (sym (eqb-true v t h)) ∙ e

-- the square of a set that a step leads to
the_one : (f : ℕ → Bool) (o : Option ℕ) → IfSome o (λ v. v < 64) → some_in f o ≡ true →
    (t : ℕ) × (t < 64) × (some_in (λ v. v == t) o ≡ true) × (f t ≡ true)
unfolding some_in
the_one f None l e = absurd (false≢true e)
the_one f (Some v) l e = (v, l, eq-eqb v v refl, e)

-- ---- what a closed ray flips, and the squares beside it

nothing_in : (q : ℕ) → is_in [] q ≡ true → ⊥
unfolding is_in
nothing_in q e = false≢true e

nothing_ahead : (p : Position) (q : ℕ) → is_in (front p []) q ≡ true → ⊥
unfolding front
nothing_ahead p q e = nothing_in q e

front_parts : (p : Position) (r : ℕ) (rest : List ℕ) (q : ℕ) → is_in (front p (r ∷ rest)) q ≡ true →
    (is_theirs p r ≡ true) × (((r == q) || is_in (front p rest) q) ≡ true)
front_parts p r rest q e = and_parts (is_theirs p r) ((r == q) || is_in (front p rest) q) (sym (in_front p r rest q) ∙ e)

-- what a front has are squares of its line
front_in : (p : Position) (line : List ℕ) (q : ℕ) → is_in (front p line) q ≡ true → is_in line q ≡ true
unfolding is_in
front_in p [] q e = absurd (nothing_ahead p q e)
front_in p (r ∷ rest) q e =
    elim (or_cases (r == q) (is_in (front p rest) q) (front_parts p r rest q e).1) [
      | inl here ↦ in_line (or_left (r == q) (is_in rest q) here)
      | inr later ↦ in_line (or_right (r == q) (is_in rest q) (front_in p rest q later))
    ]
  where
    in_line : ((r == q) || is_in rest q) ≡ true → is_in (r ∷ rest) q ≡ true
    in_line h = h

into_front : (p : Position) (r : ℕ) (rest : List ℕ) (t : ℕ) → is_theirs p r ≡ true →
    ((r == t) || is_in (front p rest) t) ≡ true → is_in (front p (r ∷ rest)) t ≡ true
into_front p r rest t th e = in_front p r rest t ∙ and_from (is_theirs p r) ((r == t) || is_in (front p rest) t) th e

-- squares of mine and of the front
mine_or_front : Position → List ℕ → ℕ → Bool
mine_or_front p line t = is_mine p t || is_in (front p line) t

ahead_more : (p : Position) (r : ℕ) (rest : List ℕ) (t : ℕ) → is_theirs p r ≡ true → mine_or_front p rest t ≡ true →
    mine_or_front p (r ∷ rest) t ≡ true
unfolding mine_or_front
ahead_more p r rest t th e =
    elim (or_cases (is_mine p t) (is_in (front p rest) t) e) [
      | inl m ↦ or_left (is_mine p t) (is_in (front p (r ∷ rest)) t) m
      | inr f ↦ or_right (is_mine p t) (is_in (front p (r ∷ rest)) t)
          (into_front p r rest t th (or_right (r == t) (is_in (front p rest) t) f))
    ]

closed_nothing : (p : Position) → is_closed p [] ≡ true → ⊥
unfolding is_closed
closed_nothing p e = false≢true e

-- the first square of a closed ray
closed_first : (n : ℕ) (d : Direction) (p : Position) (o : Option ℕ) → is_closed p (ray_from n d o) ≡ true →
    some_in (mine_or_front p (ray_from n d o)) o ≡ true
unfolding ray_from some_in mine_or_front
closed_first zero d p o c = absurd (closed_nothing p c)
closed_first (suc n) d p None c = absurd (closed_nothing p c)
closed_first (suc n) d p (Some v) c =
    elim (cases_Bool (is_theirs p v)) [
      | inl th ↦ or_right (is_mine p v) (is_in (front p (v ∷ ray_from n d (next d v))) v)
          (into_front p v (ray_from n d (next d v)) v th
          (or_left (v == v) (is_in (front p (ray_from n d (next d v))) v) (eq-eqb v v refl)))
      | inr other ↦ or_left (is_mine p v) (is_in (front p (v ∷ ray_from n d (next d v))) v)
          (sym (closed-no p v (ray_from n d (next d v)) other) ∙ c)
    ]

-- the square after one of the front of a closed ray is mine or in the front
front_ahead : (n : ℕ) (d : Direction) (p : Position) (o : Option ℕ) (s : ℕ) → is_closed p (ray_from n d o) ≡ true →
    is_in (front p (ray_from n d o)) s ≡ true →
    some_in (mine_or_front p (ray_from n d o)) (next d s) ≡ true
unfolding ray_from
front_ahead zero d p o s c e = absurd (nothing_ahead p s e)
front_ahead (suc n) d p None s c e = absurd (nothing_ahead p s e)
front_ahead (suc n) d p (Some v) s c e =
    some_more (mine_or_front p rest) (mine_or_front p (v ∷ rest)) (next d s) (λ t. ahead_more p v rest t both.0)
    (elim (or_cases (v == s) (is_in (front p rest) s) both.1) [
      | inl here ↦ ap (λ u. some_in (mine_or_front p rest) (next d u)) (sym (eqb-true v s here))
          ∙ closed_first n d p (next d v) closed
      | inr later ↦ front_ahead n d p (next d v) s closed later
    ])
  where
    rest : List ℕ
    rest = ray_from n d (next d v)

    both : (is_theirs p v ≡ true) × (((v == s) || is_in (front p rest) s) ≡ true)
    both = front_parts p v rest s e

    closed : is_closed p rest ≡ true
    closed = sym (closed-yes p v rest both.0) ∙ c

-- b and the squares of the front
this_or_front : Position → ℕ → List ℕ → ℕ → Bool
this_or_front p b line t = (b == t) || is_in (front p line) t

-- the square before one of the front of a ray from b is b or in the front
front_behind : (n : ℕ) (d : Direction) (p : Position) (b : ℕ) (o : Option ℕ) (s : ℕ) → next d b ≡ o →
    IfSome o (λ v. v < 64) → b < 64 → s < 64 →
    is_in (front p (ray_from n d o)) s ≡ true →
    some_in (this_or_front p b (ray_from n d o)) (next (reversed d) s) ≡ true
unfolding ray_from some_in this_or_front
front_behind zero d p b o s k lo lb ls e = absurd (nothing_ahead p s e)
front_behind (suc n) d p b None s k lo lb ls e = absurd (nothing_ahead p s e)
front_behind (suc n) d p b (Some v) s k lo lb ls e =
    elim (or_cases (v == s) (is_in (front p rest) s) both.1) [
      | inl here ↦ some_more (λ u. b == u) (this_or_front p b (v ∷ rest)) (next (reversed d) s) first
          (adjacent d b s lb ls ∙ step here)
      | inr later ↦ some_more (this_or_front p v rest) (this_or_front p b (v ∷ rest)) (next (reversed d) s) more
          (front_behind n d p v (next d v) s refl (next_lt d v lo) lo ls later)
    ]
  where
    rest : List ℕ
    rest = ray_from n d (next d v)

    both : (is_theirs p v ≡ true) × (((v == s) || is_in (front p rest) s) ≡ true)
    both = front_parts p v rest s e

    step : (v == s) ≡ true → some_in (λ u. u == s) (next d b) ≡ true
    step here = ap (some_in (λ u. u == s)) k ∙ here

    first : (t : ℕ) → (b == t) ≡ true → this_or_front p b (v ∷ rest) t ≡ true
    first t h = or_left (b == t) (is_in (front p (v ∷ rest)) t) h

    more : (t : ℕ) → this_or_front p v rest t ≡ true → this_or_front p b (v ∷ rest) t ≡ true
    more t h = or_right (b == t) (is_in (front p (v ∷ rest)) t) (into_front p v rest t both.0 h)

-- ---- what a move flips along a direction

-- the ray is closed, and what is flipped is its front
along_is : (p : Position) (m : ℕ) (d : Direction) (s : ℕ) → is_in (flipped_along p m d) s ≡ true →
    (is_closed p (ray d m) ≡ true) × (flipped_along p m d ≡ front p (ray d m))
unfolding flipped_along
along_is p m d s e =
    elim (cases_Bool (is_closed p (ray d m))) [
      | inl c ↦ (c, flips true c)
      | inr o ↦ absurd (nothing_in s (sym (ap (λ xs. is_in xs s) (flips false o)) ∙ e))
    ]
  where
    flips : (b : Bool) → is_closed p (ray d m) ≡ b → outflanked p (ray d m) ≡ (if b then front p (ray d m) else [])
    flips b h = outflanked-is p (ray d m) ∙ ap (λ b. if b then front p (ray d m) else []) h

in_front_of_ray : (p : Position) (m : ℕ) (d : Direction) (s : ℕ) → is_in (flipped_along p m d) s ≡ true →
    is_in (front p (ray d m)) s ≡ true
in_front_of_ray p m d s e = sym (ap (λ xs. is_in xs s) (along_is p m d s e).1) ∙ e

flipped_in_ray : (p : Position) (m : ℕ) (d : Direction) (s : ℕ) → is_in (flipped_along p m d) s ≡ true →
    is_in (ray d m) s ≡ true
flipped_in_ray p m d s e = front_in p (ray d m) s (in_front_of_ray p m d s e)

-- t is empty, or mine, or flipped along the direction
gives_way : Position → ℕ → Direction → ℕ → Bool
gives_way p m d t = (is_empty p t || is_mine p t) || is_in (flipped_along p m d) t

gives_disc : (p : Position) (m : ℕ) (d : Direction) (t : ℕ) → (is_empty p t || is_mine p t) ≡ true →
    gives_way p m d t ≡ true
unfolding gives_way
gives_disc p m d t e = or_left (is_empty p t || is_mine p t) (is_in (flipped_along p m d) t) e

gives_flipped : (p : Position) (m : ℕ) (d : Direction) (t : ℕ) → is_in (flipped_along p m d) t ≡ true →
    gives_way p m d t ≡ true
unfolding gives_way
gives_flipped p m d t e = or_right (is_empty p t || is_mine p t) (is_in (flipped_along p m d) t) e

-- the squares on both sides of a flipped one
flipped_ahead : (p : Position) (m : ℕ) (d : Direction) (s : ℕ) → is_in (flipped_along p m d) s ≡ true →
    some_in (gives_way p m d) (next d s) ≡ true
unfolding ray mine_or_front
flipped_ahead p m d s e =
    some_more (mine_or_front p (ray d m)) (gives_way p m d) (next d s) each
    (on_ray (along_is p m d s e).0 (in_front_of_ray p m d s e))
  where
    on_ray : is_closed p (ray d m) ≡ true → is_in (front p (ray d m)) s ≡ true →
        some_in (mine_or_front p (ray d m)) (next d s) ≡ true
    on_ray c f = front_ahead 7 d p (next d m) s c f

    each : (t : ℕ) → mine_or_front p (ray d m) t ≡ true → gives_way p m d t ≡ true
    each t h =
        elim (or_cases (is_mine p t) (is_in (front p (ray d m)) t) h) [
          | inl a ↦ gives_disc p m d t (or_right (is_empty p t) (is_mine p t) a)
          | inr f ↦ gives_flipped p m d t (ap (λ xs. is_in xs t) (along_is p m d s e).1 ∙ f)
        ]

flipped_behind : (p : Position) (m : ℕ) (d : Direction) (s : ℕ) → m < 64 → s < 64 → is_empty p m ≡ true →
    is_in (flipped_along p m d) s ≡ true →
    some_in (gives_way p m d) (next (reversed d) s) ≡ true
unfolding ray this_or_front
flipped_behind p m d s lm ls o e =
    some_more (this_or_front p m (ray d m)) (gives_way p m d) (next (reversed d) s) each
    (on_ray (in_front_of_ray p m d s e))
  where
    on_ray : is_in (front p (ray d m)) s ≡ true → some_in (this_or_front p m (ray d m)) (next (reversed d) s) ≡ true
    on_ray f = front_behind 7 d p m (next d m) s refl (next_lt d m lm) lm ls f

    each : (t : ℕ) → this_or_front p m (ray d m) t ≡ true → gives_way p m d t ≡ true
    each t h =
        elim (or_cases (m == t) (is_in (front p (ray d m)) t) h) [
          | inl a ↦ gives_disc p m d t (or_left (is_empty p t) (is_mine p t) (ap (is_empty p) (sym (eqb-true m t a)) ∙ o))
          | inr f ↦ gives_flipped p m d t (ap (λ xs. is_in xs t) (along_is p m d s e).1 ∙ f)
        ]

-- ---- the eight directions

any_of : {X : Type 0} (f : X → Bool) (xs : List X) → list_any f xs ≡ true → (x : X) × (f x ≡ true)
any_of f [] e = absurd (false≢true e)
any_of f (x ∷ xs) e = elim (or_cases (f x) (list_any f xs) e) [ inl a ↦ (x, a) | inr b ↦ any_of f xs b ]

-- what is flipped is flipped along one of them
flipped_by : (p : Position) (m q : ℕ) → is_flipped p m q ≡ true →
    (c : Compass) × (is_in (flipped_along p m (direction_of c)) q ≡ true)
unfolding is_flipped
flipped_by p m q e =
    any_of (λ c. is_in (flipped_along p m (direction_of c)) q) compasses
    (any_compass (λ d. is_in (flipped_along p m d) q)
    ∙ (and_parts (is_empty p m) (list_any (λ d. is_in (flipped_along p m d) q) directions) e).1)

in_compasses : (f : Compass → Bool) (c : Compass) → f c ≡ true → list_any f compasses ≡ true
in_compasses f c e = list_any_at f compasses (index c) North (within c) (is c ∙ e)
  where
    index : Compass → ℕ
    index North = 0
    index NorthEast = 1
    index East = 2
    index SouthEast = 3
    index South = 4
    index SouthWest = 5
    index West = 6
    index NorthWest = 7

    within : (c : Compass) → index c < 8
    within North = omega arith
    within NorthEast = omega arith
    within East = omega arith
    within SouthEast = omega arith
    within South = omega arith
    within SouthWest = omega arith
    within West = omega arith
    within NorthWest = omega arith

    is : (c : Compass) → f (get_or compasses (index c) North) ≡ f c
    is North = refl
    is NorthEast = refl
    is East = refl
    is SouthEast = refl
    is South = refl
    is SouthWest = refl
    is West = refl
    is NorthWest = refl

flips_along : (p : Position) (m q : ℕ) (c : Compass) → is_empty p m ≡ true →
    is_in (flipped_along p m (direction_of c)) q ≡ true → is_flipped p m q ≡ true
unfolding is_flipped
flips_along p m q c o e =
    and_from (is_empty p m) (list_any (λ d. is_in (flipped_along p m d) q) directions) o
    (sym (any_compass (λ d. is_in (flipped_along p m d) q))
    ∙ in_compasses (λ c. is_in (flipped_along p m (direction_of c)) q) c e)

-- ---- cells

theirs_by : (p : Position) (s t : ℕ) → cell p t ≡ cell p s → is_theirs p s ≡ true → is_theirs p t ≡ true
unfolding is_theirs
theirs_by p s t same e = ap is_theirs_cell same ∙ e

empty_by : (p : Position) (s t : ℕ) → cell p t ≡ cell p s → is_empty p s ≡ false → is_empty p t ≡ false
unfolding is_empty
empty_by p s t same e = ap is_empty_cell same ∙ e

theirs_is : (c : Cell) → is_theirs_cell c ≡ true → c ≡ Theirs
unfolding is_theirs_cell
theirs_is Mine e = absurd (false≢true e)
theirs_is Theirs e = refl
theirs_is Empty e = absurd (false≢true e)

both_theirs : (p : Position) (s t : ℕ) → is_theirs p s ≡ true → is_theirs p t ≡ true → cell p t ≡ cell p s
unfolding is_theirs
both_theirs p s t a b = theirs_is (cell p t) b ∙ sym (theirs_is (cell p s) a)

theirs_not_mine : (p : Position) (q : ℕ) → is_theirs p q ≡ true → is_mine p q ≡ false
theirs_not_mine p q e = false_from_ne_true (is_mine p q) (λ m. false≢true (sym (mine_not_theirs p q m) ∙ e))

cell-pass : (p : Position) (q : ℕ) → q < 64 → cell (pass p) q ≡ opposite_cell (cell p q)
unfolding pass
cell-pass p q l = cell-position_of (λ s. opposite_cell (cell p s)) q l

-- a disc that isn't flipped only changes its role
cell-after : (p : Position) (m q : ℕ) → q < 64 → IsLegal p m → is_empty p q ≡ false → is_flipped p m q ≡ false →
    cell (after p m) q ≡ opposite_cell (cell p q)
cell-after p m q l k o f =
    ap (λ r. cell r q) (after-is p m)
    ∙ cell-position_of (λ q. opposite_cell (if q == m || is_flipped p m q then Mine else cell p q)) q l
    ∙ ap (λ b. opposite_cell (if b then Mine else cell p q)) (or_from (q == m) (is_flipped p m q) (ne_eqb q m other) f)
  where
    other : q ≡ m → ⊥
    other e = false≢true (sym o ∙ ap (is_empty p) e ∙ legal_empty p m k.legal)

-- ---- both sides of a square, along a line

-- there is a square on each side of s
is_between : Direction → ℕ → Bool
is_between d s = some_in (λ t. true) (next d s) && some_in (λ t. true) (next (reversed d) s)

-- t is one of the two
is_beside : Direction → ℕ → ℕ → Bool
is_beside d s t = some_in (λ v. v == t) (next d s) || some_in (λ v. v == t) (next (reversed d) s)

-- a set that has a square on each side
between_from : (d : Direction) (s : ℕ) (f : ℕ → Bool) →
    some_in f (next d s) ≡ true → some_in f (next (reversed d) s) ≡ true → is_between d s ≡ true
unfolding is_between
between_from d s f a b =
    and_from (some_in (λ t. true) (next d s)) (some_in (λ t. true) (next (reversed d) s))
    (there (next d s) a) (there (next (reversed d) s) b)
  where
    there : (o : Option ℕ) → some_in f o ≡ true → some_in (λ t. true) o ≡ true
    there o h = some_more f (λ t. true) o (λ t _. refl) h

beside_in : (d : Direction) (s t : ℕ) (f : ℕ → Bool) → is_beside d s t ≡ true →
    some_in f (next d s) ≡ true → some_in f (next (reversed d) s) ≡ true → f t ≡ true
unfolding is_beside
beside_in d s t f h a b =
    elim (or_cases (some_in (λ v. v == t) (next d s)) (some_in (λ v. v == t) (next (reversed d) s)) h) [
      | inl x ↦ some_at f t (next d s) x a
      | inr y ↦ some_at f t (next (reversed d) s) y b
    ]

beside_ahead : (d : Direction) (s t : ℕ) → some_in (λ v. v == t) (next d s) ≡ true → is_beside d s t ≡ true
unfolding is_beside
beside_ahead d s t e = or_left (some_in (λ v. v == t) (next d s)) (some_in (λ v. v == t) (next (reversed d) s)) e

beside_behind : (d : Direction) (s t : ℕ) → some_in (λ v. v == t) (next (reversed d) s) ≡ true → is_beside d s t ≡ true
unfolding is_beside
beside_behind d s t e = or_right (some_in (λ v. v == t) (next d s)) (some_in (λ v. v == t) (next (reversed d) s)) e

-- ---- shelter along a line

-- no empty square has s in its ray along d; or s is at the edge; or a square beside it has the same disc, which stays
data Sheltered (n : ℕ) (p : Position) (d : Direction) (s : ℕ) : Type 0 where
  unreached : ((m : ℕ) → m < 64 → is_empty p m ≡ true → is_in (ray d m) s ≡ false) → Sheltered n p d s
  at_edge : is_between d s ≡ false → Sheltered n p d s
  beside : (t : ℕ) → t < 64 → is_beside d s t ≡ true → cell p t ≡ cell p s → StaysFor n p t → Sheltered n p d s

-- a disc of theirs that gives way is flipped
theirs_flips : (p : Position) (m t : ℕ) (c : Compass) → is_empty p m ≡ true → is_theirs p t ≡ true →
    gives_way p m (direction_of c) t ≡ true → is_flipped p m t ≡ true
unfolding gives_way
theirs_flips p m t c o th h =
    elim (or_cases (is_empty p t || is_mine p t) (is_in (flipped_along p m (direction_of c)) t) h) [
      | inl a ↦ absurd (false≢true
          (sym (or_from (is_empty p t) (is_mine p t) (theirs_not_empty p t th) (theirs_not_mine p t th)) ∙ a))
      | inr b ↦ flips_along p m t c o b
    ]

-- a sheltered square isn't flipped along the direction
not_along : (n : ℕ) (p : Position) (c : Compass) (s m : ℕ) → s < 64 → IsLegal p m →
    Sheltered (suc n) p (direction_of c) s → is_in (flipped_along p m (direction_of c)) s ≡ true → ⊥
not_along n p c s m ls k h e = at h
  where
    d : Direction
    d = direction_of c

    hollow : is_empty p m ≡ true
    hollow = legal_empty p m k.legal

    theirs : is_theirs p s ≡ true
    theirs = flipped_theirs p m s (flips_along p m s c hollow e)

    ahead : some_in (gives_way p m d) (next d s) ≡ true
    ahead = flipped_ahead p m d s e

    behind : some_in (gives_way p m d) (next (reversed d) s) ≡ true
    behind = flipped_behind p m d s k.on_board ls hollow e

    at : Sheltered (suc n) p d s → ⊥
    at (unreached far) = false≢true (sym (far m k.on_board hollow) ∙ flipped_in_ray p m d s e)
    at (at_edge edge) = false≢true (sym edge ∙ between_from d s (gives_way p m d) ahead behind)
    at (beside t lt b same stays) =
        false≢true (sym (stays.0 m k).0
        ∙ theirs_flips p m t c hollow (theirs_by p s t same theirs) (beside_in d s t (gives_way p m d) b ahead behind))

not_flipped : (n : ℕ) (p : Position) (s m : ℕ) → s < 64 → IsLegal p m →
    ((c : Compass) → Sheltered (suc n) p (direction_of c) s) → is_flipped p m s ≡ false
not_flipped n p s m ls k h =
    false_from_ne_true (is_flipped p m s) (λ e. let f = flipped_by p m s e in not_along n p f.0 s m ls k (h f.0) f.1)

-- ---- shelter is kept

-- in a position r that follows p, squares that stay have the opposite cell
kept : (n : ℕ) (p r : Position) (d : Direction) (s : ℕ) →
    ((q : ℕ) → q < 64 → is_empty r q ≡ true → is_empty p q ≡ true) →
    cell r s ≡ opposite_cell (cell p s) →
    ((t : ℕ) → t < 64 → cell p t ≡ cell p s → StaysFor (suc n) p t →
    (cell r t ≡ opposite_cell (cell p t)) × StaysFor n r t) →
    Sheltered (suc n) p d s → Sheltered n r d s
kept n p r d s empties turned others (unreached far) = unreached (λ m l o. far m l (empties m l o))
kept n p r d s empties turned others (at_edge edge) = at_edge edge
kept n p r d s empties turned others (beside t lt b same stays) =
    let k = others t lt same stays in
    beside t lt b (k.0 ∙ ap opposite_cell same ∙ sym turned) k.1

kept_after : (n : ℕ) (p : Position) (d : Direction) (s m : ℕ) → s < 64 → IsLegal p m → is_empty p s ≡ false →
    is_flipped p m s ≡ false →
    Sheltered (suc n) p d s → Sheltered n (after p m) d s
kept_after n p d s m ls k o f h =
    kept n p (after p m) d s
    (λ q l e. (and_parts (is_empty p q) (not (q == m)) (sym (empty_after p m q l) ∙ e)).0)
    (cell-after p m s ls k o f)
    (λ t lt same stays. (cell-after p m t lt k (empty_by p s t same o) (stays.0 m k).0, (stays.0 m k).1))
    h

kept_pass : (n : ℕ) (p : Position) (d : Direction) (s : ℕ) → s < 64 → Sheltered (suc n) p d s →
    Sheltered n (pass p) d s
kept_pass n p d s ls h =
    kept n p (pass p) d s
    (λ q l e. sym (empty-pass p q l) ∙ e)
    (cell-pass p s ls)
    (λ t lt same stays. (cell-pass p t lt, stays.1))
    h

-- a disc that is sheltered along each direction stays
sheltered_stays : (n : ℕ) (p : Position) (s : ℕ) → s < 64 → is_empty p s ≡ false →
    ((c : Compass) → Sheltered n p (direction_of c) s) → StaysFor n p s
sheltered_stays zero p s ls o h = tt
sheltered_stays (suc n) p s ls o h = (
  (λ m k. let f = not_flipped n p s m ls k h in (
    f,
    sheltered_stays n (after p m) s ls (empty_after p m s ls ∙ and_left (is_empty p s) (not (s == m)) o)
        (λ c. kept_after n p (direction_of c) s m ls k o f (h c)),
  )),
  sheltered_stays n (pass p) s ls (empty-pass p s ls ∙ o) (λ c. kept_pass n p (direction_of c) s ls (h c)),
)

-- ---- a backed disc is sheltered

or_turn : (a b : Bool) → (a || b) ≡ (b || a)
or_turn true true = refl
or_turn true false = refl
or_turn false true = refl
or_turn false false = refl

-- what is along d is along the reversed direction
reaches_turned : (p : Position) (d : Direction) (set : ℕ → Bool) → Reaches p d set → Reaches p (reversed d) set
reaches_turned p d set r e s le ls o h =
    r e s le ls o
    (or_turn (is_in (ray d e) s) (is_in (ray (reversed d) e) s)
    ∙ ap (λ f. is_in (ray (reversed d) e) s || is_in (ray f e) s) (sym (reversed-twice d)) ∙ h)

backed_turned : (d : Direction) (reached held : ℕ → Bool) (s : ℕ) →
    is_backed (reversed d) reached held s ≡ is_backed d reached held s
unfolding is_backed
backed_turned d reached held s =
    ap (λ f. backed (is_next (reversed d) (λ t. true) s && is_next f (λ t. true) s)
    (is_next (reversed d) held s || is_next f held s)) (reversed-twice d)
    ∙ ap (λ b. backed b (is_next (reversed d) held s || is_next d held s))
    (and_turn (is_next (reversed d) (λ t. true) s) (is_next d (λ t. true) s))
    ∙ ap (backed (is_next d (λ t. true) s && is_next (reversed d) (λ t. true) s))
    (or_turn (is_next (reversed d) held s) (is_next d held s))
  where
    backed : Bool → Bool → Bool
    backed between near = not (reached s && between) || near

-- a step along a direction, from either side
before_is : (d : Direction) (f : ℕ → Bool) (s : ℕ) → is_next d f s ≡ some_in f (next (reversed d) s)
unfolding is_next
before_is d f s = refl

after_it : (d : Direction) (f : ℕ → Bool) (s : ℕ) → is_next (reversed d) f s ≡ some_in f (next d s)
unfolding is_next
after_it d f s = ap (λ e. some_in f (next e s)) (reversed-twice d)

between_is : (d : Direction) (s : ℕ) → is_between d s ≡ (is_next d (λ t. true) s && is_next (reversed d) (λ t. true) s)
unfolding is_between
between_is d s =
    and_turn (some_in (λ t. true) (next d s)) (some_in (λ t. true) (next (reversed d) s))
    ∙ ap (λ b. some_in (λ t. true) (next (reversed d) s) && b) (sym (after_it d (λ t. true) s))
    ∙ ap (λ b. b && is_next (reversed d) (λ t. true) s) (sym (before_is d (λ t. true) s))

-- a square of a word of stable discs, beside s
held_beside : (n : ℕ) (p : Position) (d : Direction) (held s : ℕ) → AreStable p held → s < 64 → is_theirs p s ≡ true →
    (is_next d (has held) s || is_next (reversed d) (has held) s) ≡ true → Sheltered n p d s
held_beside n p d held s stable ls th e =
    elim (or_cases (is_next d (has held) s) (is_next (reversed d) (has held) s) e) [
      | inl a ↦
          let e = sym (before_is d (has held) s) ∙ a in
          let t = the_one (has held) (next (reversed d) s) (next_lt (reversed d) s ls) e in
          by t.0 t.1 t.3 (beside_behind d s t.0 t.2)
      | inr b ↦
          let e = sym (after_it d (has held) s) ∙ b in
          let t = the_one (has held) (next d s) (next_lt d s ls) e in
          by t.0 t.1 t.3 (beside_ahead d s t.0 t.2)
    ]
  where
    by : (t : ℕ) → t < 64 → has held t ≡ true → is_beside d s t ≡ true → Sheltered n p d s
    by t lt h b = let k = stable t lt h in beside t lt b (both_theirs p s t th k.0) (k.1 n)

backed_sheltered : (n : ℕ) (p : Position) (d : Direction) (reached : ℕ → Bool) (held s : ℕ) →
    AreStable p held → Reaches p d reached → s < 64 → is_theirs p s ≡ true →
    is_backed d reached (has held) s ≡ true → Sheltered n p d s
unfolding is_backed
backed_sheltered n p d reached held s stable reaches ls th e =
    elim (or_cases (not (reached s && both_there)) (is_next d (has held) s || is_next (reversed d) (has held) s) e) [
      | inl loose ↦ elim (and_cases (reached s) both_there (not-true (reached s && both_there) loose)) [
        | inl far ↦ unreached (λ m l o. false_from_ne_true (is_in (ray d m) s)
            (λ i. let in_line = or_left (is_in (ray d m) s) (is_in (ray (reversed d) m) s) i in
            false≢true (sym far ∙ reaches m s l ls o in_line)))
        | inr edge ↦ at_edge (between_is d s ∙ edge)
      ]
      | inr held_there ↦ held_beside n p d held s stable ls th held_there
    ]
  where
    both_there : Bool
    both_there = is_next d (λ t. true) s && is_next (reversed d) (λ t. true) s

backed_against : (n : ℕ) (p : Position) (d : Direction) (reached : ℕ → Bool) (held s : ℕ) → AreStable p held →
    Reaches p d reached → s < 64 → is_theirs p s ≡ true →
    is_backed d reached (has held) s ≡ true → Sheltered n p (reversed d) s
backed_against n p d reached held s stable reaches ls th e =
    backed_sheltered n p (reversed d) reached held s stable (reaches_turned p d reached reaches) ls th
    (backed_turned d reached (has held) s ∙ e)

pub backed-stable : (p : Position) (held : ℕ) (row falling column rising : ℕ → Bool) → AreStable p held →
    Reaches p (record { columns = Forth; rows = Stay }) row →
    Reaches p (record { columns = Forth; rows = Forth }) falling →
    Reaches p (record { columns = Stay; rows = Forth }) column →
    Reaches p (record { columns = Back; rows = Forth }) rising →
    (s : ℕ) → s < 64 → is_theirs p s ≡ true →
    is_backed (record { columns = Forth; rows = Stay }) row (has held) s ≡ true →
    is_backed (record { columns = Forth; rows = Forth }) falling (has held) s ≡ true →
    is_backed (record { columns = Stay; rows = Forth }) column (has held) s ≡ true →
    is_backed (record { columns = Back; rows = Forth }) rising (has held) s ≡ true →
    IsStable p s
backed-stable p held row falling column rising stable rr rf rc ru s ls th br bf bc bu n =
    sheltered_stays n p s ls (theirs_not_empty p s th) along
  where
    along : (c : Compass) → Sheltered n p (direction_of c) s
    along East = backed_sheltered n p (direction_of East) row held s stable rr ls th br
    along SouthEast = backed_sheltered n p (direction_of SouthEast) falling held s stable rf ls th bf
    along South = backed_sheltered n p (direction_of South) column held s stable rc ls th bc
    along SouthWest = backed_sheltered n p (direction_of SouthWest) rising held s stable ru ls th bu
    along West = backed_against n p (direction_of East) row held s stable rr ls th br
    along NorthWest = backed_against n p (direction_of SouthEast) falling held s stable rf ls th bf
    along North = backed_against n p (direction_of South) column held s stable rc ls th bc
    along NorthEast = backed_against n p (direction_of SouthWest) rising held s stable ru ls th bu
