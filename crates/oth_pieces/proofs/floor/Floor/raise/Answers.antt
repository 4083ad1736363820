use Rattle.std.proofs.Common.{◌≡◌, rules, arith}
use Rattle.std.proofs.lemmas.Int.{ints}
use Rattle.oth_pieces.specs.declared.floor.root.Root.{Root}
use Rattle.oth_pieces.proofs.Floors.{below_root}
use Rattle.oth_pieces.proofs.floor.Floor.raise.Goals as goal

pub raise_to-requires-clause-true_bound : goal.raise_to-requires-clause-true_bound
raise_to-requires-clause-true_bound c =
    let s = c.args.solved.now in
    let root : Root = c.args.self.now.root in
    let same : s.board ≡ root.board = search rules in
    let by : s.scoring ≡ root.scoring = search rules in
    below_root s.scoring s.board root s.interval.lower s.interval.upper _ same by (omega (arith, ints)) s.encloses

pub returns-clause-ok : goal.returns-clause-ok
returns-clause-ok c = search rules
