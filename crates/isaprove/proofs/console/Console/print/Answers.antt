use Rattle.std.proofs.Common.{rules}
use Rattle.isaprove.proofs.Writing.{shows_all, shows_cut}
use Rattle.isaprove.proofs.console.Console.print.Goals as goal

pub returns-in_err-write_all-clause-shows : goal.returns-in_err-write_all-clause-shows
returns-in_err-write_all-clause-shows g c = shows_cut _ _ _ _ _ (search rules) c.from_residual.ensures.1

pub returns-clause-shows : goal.returns-clause-shows
returns-clause-shows g c = shows_all {T = Unit {0}} _ _ _ _ tt (search rules)
