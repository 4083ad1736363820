use Rattle.std.proofs.Common.{refl}
use Rattle.oth_search.proofs.BoundsLemmas.Enclosing.{value-known}
use Rattle.oth_search.proofs.PvsLemmas.Withins.{cut, BoundsAt-low, BoundsAt-high, Decides-narrowed}
use Rattle.oth_search.proofs.pvs.narrow.Goals as goal

pub search_window-found-requires : goal.search_window-found-requires
search_window-found-requires g c =
    (cut _ _ _ _ _ _ c.requires.window c.args.known.interval.is_interval c.requires.open c.greater-low.ensures.right c.greater-low.ensures.one c.lesser-high.ensures.right
    c.lesser-high.ensures.one).inner

pub narrowed-requires : goal.narrowed-requires
narrowed-requires g c =
    let k = c.args.known in
    let window = cut _ _ _ _ _ _ c.requires.window k.interval.is_interval c.requires.open c.greater-low.ensures.right c.greater-low.ensures.one c.lesser-high.ensures.right c.lesser-high.ensures.one in
    BoundsAt-low _ _ _ _ _ (value-known k.scoring k.scoring c.args.board k.board k.board c.requires.image refl refl) window.inner c.search_window-found.ensures.value

pub narrowed-requires-2 : goal.narrowed-requires-2
narrowed-requires-2 g c =
    let k = c.args.known in
    let n = c.narrowed.result in
    let window = cut _ _ _ _ _ _ c.requires.window k.interval.is_interval c.requires.open c.greater-low.ensures.right c.greater-low.ensures.one c.lesser-high.ensures.right c.lesser-high.ensures.one in
    BoundsAt-high _ _ _ _ _ (value-known k.scoring n.scoring c.args.board k.board n.board c.requires.image c.narrowed.ensures.board c.narrowed.ensures.scoring) window.inner
    c.search_window-found.ensures.value

pub returns-clause-decides : goal.returns-clause-decides
returns-clause-decides g c =
    let window =
    cut _ _ _ _ _ _ c.requires.window c.args.known.interval.is_interval c.requires.open c.greater-low.ensures.right c.greater-low.ensures.one c.lesser-high.ensures.right
    c.lesser-high.ensures.one in
    Decides-narrowed _ _ _ _ _ _ _ _ _ _ _ window
    (record { above = c.narrowed.ensures.above; below = c.narrowed.ensures.below })
    (record { above = c.narrowed-2.ensures.above; below = c.narrowed-2.ensures.below })
    c.narrowed-2.result.interval.is_interval.ordered
