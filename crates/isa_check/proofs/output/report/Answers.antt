use Rattle.std.proofs.Common.{rules, refl}
use Rattle.isa_check.proofs.Printing.{cut_err, returns_stop}
use Rattle.isa_check.proofs.output.report.Goals as goal

pub returns-in_err-write_all : goal.returns-in_err-write_all
returns-in_err-write_all g c = returns_stop _ _ _ _ _ c.from_residual-in_err-write_all.ensures.1 (cut_err _ _ _ _ (search rules))
