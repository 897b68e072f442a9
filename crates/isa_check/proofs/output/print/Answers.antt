use Rattle.std.proofs.Common.{rules, refl}
use Rattle.isa_check.proofs.Printing.{all_out, cut_out, returns_stop}
use Rattle.isa_check.proofs.output.print.Goals as goal

pub returns-in_err-write_all : goal.returns-in_err-write_all
returns-in_err-write_all g c = returns_stop _ _ _ _ _ c.from_residual.ensures.1 (cut_out _ _ _ _ (search rules))

pub returns : goal.returns
returns g c = (refl, all_out _ _ _ _ (search rules))
