use Rattle.std.proofs.Common.{◌∷◌, [], refl, ◌∙◌, arith}
use Rattle.std.proofs.lemmas.Bool.{false≢true}
use Rattle.std.proofs.lemmas.Int.{ints}
use Rattle.oth_rules.proofs.SearchLaws.{IsScore-value}
use Rattle.oth_search.proofs.NwsLemmas.Lasts as l
use Rattle.oth_search.proofs.nws.last.reply_one.Goals as goal

pub legal_flips-requires : goal.legal_flips-requires
legal_flips-requires c = c.requires.last.each.1

pub last_one-requires : goal.last_one-requires
last_one-requires c = l.Leaves-after c.args.board c.board.result c.args.square (c.args.a ∷ []) c.requires.last (c.board.ensures ∙ c.play_flipped.ensures)

pub returns-in_default : goal.returns-in_default
returns-in_default c = l.GivesAt-none c.args.scoring c.args.board c.args.square c.args.alpha _ refl (λ h. false≢true (c.in_default.ensures.legal.1 h))

pub overflow_sub-result : goal.overflow_sub-result
overflow_sub-result c =
    let v = IsScore-value c.args.scoring c.board.result in omega (arith, ints, c.last_one.ensures, v.low, v.high)

pub returns : goal.returns
returns c =
    let v = IsScore-value c.args.scoring c.board.result in
    l.GivesAt-reply c.args.scoring c.args.board c.board.result c.args.square c.args.alpha _ _ c.last_one.result (c.board.ensures ∙ c.play_flipped.ensures)
    (c.in-Some.ensures.legal.0 refl)
    refl (omega (arith, ints, c.last_one.ensures, v.low, v.high)) (l.BoundsAt-value c.args.scoring c.board.result _ c.last_one.result c.last_one.result refl c.last_one.ensures)
