use Rattle.std.proofs.Common.{arith, []}
use Rattle.isaprove.proofs.Turning.{whole_stopped, whole_closed}
use Rattle.isaprove.proofs.progress.run_whole.Goals as goal

pub close_text-requires : goal.close_text-requires
close_text-requires g c = omega (arith, (c.in_ok-run_commands.ensures.does []).all.no_fault.err)

pub returns-in_err-run_commands-clause-does : goal.returns-in_err-run_commands-clause-does
returns-in_err-run_commands-clause-does g c = whole_stopped _ _ _ _ _ _ _ _ c.in_err-run_commands.ensures.does c.from_residual.ensures.1

pub returns-clause-does : goal.returns-clause-does
returns-clause-does g c = whole_closed _ _ _ _ _ _ _ _ c.in_ok-run_commands.ensures.does c.close_text.ensures.does
