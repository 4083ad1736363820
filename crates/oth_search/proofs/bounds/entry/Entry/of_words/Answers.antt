use Rattle.std.proofs.Common.{sym, subst, refl}
use Rattle.oth_search.specs.Bounds.Entry.{IsTrueEntry}
use Rattle.oth_search.proofs.BoundsLemmas.Entries.{word_own, word_opp, word_bounds, apart_words, raised_low, raised_high, of_words_is}
use Rattle.oth_search.proofs.bounds.entry.Entry.of_words.Goals as goal

pub lowered-requires : goal.lowered-requires
lowered-requires c = let x = c.requires.0 in raised_low x.lower x.upper _ c.requires.1.bounds (word_bounds x c.args.words c.requires.3)

pub lowered-requires-2 : goal.lowered-requires-2
lowered-requires-2 c = let x = c.requires.0 in raised_high x.lower x.upper _ c.requires.1.bounds (word_bounds x c.args.words c.requires.3)

pub unreachable-requires : goal.unreachable-requires
unreachable-requires c =
    let x = c.requires.0 in
    apart_words x _ _ c.requires.1 (word_own x c.args.words c.requires.3) (word_opp x c.args.words c.requires.3) (c.in_default.ensures.refused.0 refl)

pub invariant_of-result : goal.invariant_of-result
invariant_of-result c =
    let x = c.requires.0 in
    subst IsTrueEntry
    (sym (of_words_is x c.args.words c.in-Ok.board c.args.scoring _ _ c.requires.1 c.requires.2 c.requires.3 c.in-Ok.ensures.value c.lowered.ensures c.lowered-2.ensures))
    c.requires.1

pub returns : goal.returns
returns c = λ x t s e. of_words_is x c.args.words c.in-Ok.board c.args.scoring _ _ t s e c.in-Ok.ensures.value c.lowered.ensures c.lowered-2.ensures
