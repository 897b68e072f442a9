use Rattle.std.proofs.Common.{rules}
use Rattle.isaprove.proofs.Writing.{all_err, tells_cut}
use Rattle.isaprove.proofs.console.Console.tell.Goals as goal

pub returns-in_err-write_all-clause-tells : goal.returns-in_err-write_all-clause-tells
returns-in_err-write_all-clause-tells g c = tells_cut _ _ _ _ _ (search rules) c.from_residual.ensures.1

pub returns-clause-tells : goal.returns-clause-tells
returns-clause-tells g c = all_err _ _ _ _ (search rules)
