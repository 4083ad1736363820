use Rattle.std.proofs.Common.{arith}
use Rattle.oth_table.proofs.Histories.{within_wear}
use Rattle.oth_table.proofs.laws.published_within_the_wear.Goals as goal

pub returns : goal.returns
returns c = λ terms cell h legal. let most = within_wear terms cell h legal in omega (arith, most)
