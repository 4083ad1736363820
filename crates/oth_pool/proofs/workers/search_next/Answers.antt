use Rattle.std.proofs.Common.{ap, sym, ◌∙◌, refl, Some}
use Rattle.std.specs.Prelude.{option_map}
use Rattle.oth_pieces.specs.Frontier.{board_of}
use Rattle.oth_pool.proofs.Workings.{ended, drew, replied}
use Rattle.oth_pool.proofs.workers.search_next.Goals as goal

pub returns-in_default-clause-works : goal.returns-in_default-clause-works
returns-in_default-clause-works g c = ended _ _ _ c.args.work.now c.requires _ c.draw.ensures.hand c.in_default.ensures.drawn

pub returns-in_default-entry-clause-works : goal.returns-in_default-entry-clause-works
returns-in_default-entry-clause-works g c = drew _ _ _ c.args.work.now c.requires _ c.draw.ensures.hand c.in-Some.number c.in-Some.ensures.drawn

pub returns-clause-works : goal.returns-clause-works
returns-clause-works g c =
    replied _ _ _ c.args.work.now c.requires _ c.draw.ensures.hand c.in-Some.number _ _ c.in-Some.ensures.drawn c.push_reserved.ensures.items refl
    (record {
      board = ap (option_map board_of) (sym c.entry.ensures ∙ c.in-Some-entry.is) ∙ ap Some (sym c.search_item-solved.ensures.board);
      by = c.search_item-solved.ensures.scoring;
    })
