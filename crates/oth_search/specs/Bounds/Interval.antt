-- What a search tells of a value.
--     BoundsAt v alpha r      r is a bound of v on its side of alpha: an upper bound at most alpha, or a lower bound above it
--     IsInterval lower upper      the bounds are scores in order
--     WithinAt v alpha beta r      r is v if v lies inside the window, else a bound of v on its side of the window
--     Encloses lower upper v      v lies within the bounds
--     Decides lower upper alpha beta      the bounds are one number, or both on one side of the window
use Rattle.std.specs.Prelude.{◌≡◌, ◌⊎◌, ℤ, pos, negsuc, ◌≤ℤ◌, ◌<ℤ◌}
use Rattle.oth_rules.specs.Laws.{IsScore}

pub record BoundsAt (v alpha r : ℤ) : Type 0 where
  pub score : IsScore r
  pub fails_low : r ≤ℤ alpha → v ≤ℤ r
  pub fails_high : alpha <ℤ r → r ≤ℤ v

-- a threshold: some score lies above it
pub record IsThreshold (alpha : ℤ) : Type 0 where
  pub low : negsuc 63 ≤ℤ alpha
  pub high : alpha <ℤ pos 64

pub record IsInterval (lower upper : ℤ) : Type 0 where
  pub low : negsuc 63 ≤ℤ lower
  pub ordered : lower ≤ℤ upper
  pub high : upper ≤ℤ pos 64

pub record Encloses (lower upper v : ℤ) : Type 0 where
  pub below : lower ≤ℤ v
  pub above : v ≤ℤ upper

-- a window of a search: it may reach one beyond the scores
pub record IsWindow (alpha beta : ℤ) : Type 0 where
  pub low : negsuc 64 ≤ℤ alpha
  pub ordered : alpha <ℤ beta
  pub high : beta ≤ℤ pos 65

abbrev pub Decides : ℤ → ℤ → ℤ → ℤ → Type 0
Decides lower upper alpha beta = (lower ≡ upper) ⊎ ((beta ≤ℤ lower) ⊎ (upper ≤ℤ alpha))

-- the bounds do not decide the window
pub record IsOpen (lower upper alpha beta : ℤ) : Type 0 where
  pub wide : lower <ℤ upper
  pub below : lower <ℤ beta
  pub above : alpha <ℤ upper

-- bounds of scores that contain other bounds
pub record IsWider (lower upper wide_lower wide_upper : ℤ) : Type 0 where
  pub low : negsuc 63 ≤ℤ wide_lower
  pub below : wide_lower ≤ℤ lower
  pub above : upper ≤ℤ wide_upper
  pub high : wide_upper ≤ℤ pos 64

-- r is the value if it lies inside the window, else a bound of it on its side of the window
pub record WithinAt (v alpha beta r : ℤ) : Type 0 where
  pub score : IsScore r
  pub above : r <ℤ beta → v ≤ℤ r
  pub below : alpha <ℤ r → r ≤ℤ v

-- a window that some score lies inside or beside, within the scores
pub record IsInner (alpha beta : ℤ) : Type 0 where
  pub low : negsuc 63 ≤ℤ alpha
  pub ordered : alpha <ℤ beta
  pub high : beta ≤ℤ pos 64
