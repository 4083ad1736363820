use Rattle.std.proofs.Common.{◌∷◌, [], refl, arith}
use Rattle.std.proofs.lemmas.Bool.{false≢true}
use Rattle.std.proofs.lemmas.Int.{ints}
use Rattle.oth_search.proofs.NwsLemmas.Lasts as l
use Rattle.oth_search.proofs.nws.last.reply_three.Goals as goal

pub legal_flips-requires : goal.legal_flips-requires
legal_flips-requires c = c.requires.last.each.1

pub last_three_by_quadrants-requires-clause-last : goal.last_three_by_quadrants-requires-clause-last
last_three_by_quadrants-requires-clause-last c =
    l.Leaves-after c.args.board c.play_flipped.result c.args.square (c.args.rest.a ∷ c.args.rest.b ∷ c.args.rest.c ∷ []) c.requires.last c.play_flipped.ensures

pub returns-in_default : goal.returns-in_default
returns-in_default c = l.GivesAt-none c.args.scoring c.args.board c.args.square c.args.alpha _ refl (λ h. false≢true (c.in_default.ensures.legal.1 h))

pub returns : goal.returns
returns c =
    l.GivesAt-reply c.args.scoring c.args.board c.play_flipped.result c.args.square c.args.alpha _ _ c.last_three_by_quadrants.result c.play_flipped.ensures
    (c.in-Some.ensures.legal.0 refl)
    (omega (arith, ints)) (omega (arith, ints)) c.last_three_by_quadrants.ensures
