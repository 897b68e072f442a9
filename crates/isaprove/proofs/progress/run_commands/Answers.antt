use Rattle.std.proofs.Common.{arith, ◌<◌, ◌≤◌, length, refl}
use Rattle.std.proofs.Math.ListN.{drop_of_length-le}
use Rattle.isaprove.proofs.Writing.{same_trans}
use Rattle.isaprove.proofs.Turning.{commands_begin, commands_passed, commands_stopped, commands_end}
use Rattle.isaprove.proofs.progress.run_commands.Goals as goal

pub loop-command-init : goal.loop-command-init
loop-command-init g c = (record { out = refl; err = refl }, commands_begin _ _ _ _)

pub run_command-requires-clause-out : goal.run_command-requires-clause-out
run_command-requires-clause-out g c = omega (arith, c.loop-command.invariant.1.calm.out)

pub run_command-requires-clause-err : goal.run_command-requires-clause-err
run_command-requires-clause-err g c = omega (arith, c.loop-command.invariant.1.calm.err)

pub returns-in_err-run_command-clause-does : goal.returns-in_err-run_command-clause-does
returns-in_err-run_command-clause-does g c =
    let inside : c.loop-command.command-index < length c.args.commands.now = omega arith in
    commands_stopped _ _ _ _ _ _ c.command-item.result _ _ _ _ _ inside c.command-item.is c.loop-command.invariant.1 c.in_err-run_command.ensures.does c.from_residual.ensures.1

pub loop-command-preserved : goal.loop-command-preserved
loop-command-preserved g c =
    let inside : c.loop-command.command-index < length c.args.commands.now = omega arith in (
      same_trans _ _ _ c.loop-command.invariant.0 c.in_ok-run_command.ensures.same,
      commands_passed _ _ _ _ _ _ c.command-item.result _ _ _ inside c.command-item.is c.loop-command.invariant.1 c.in_ok-run_command.ensures.does,
    )

pub returns-clause-does : goal.returns-clause-does
returns-clause-does g c =
    let all : length c.args.commands.now ≤ c.loop-command.command-index = omega arith in
    commands_end _ _ _ _ _ _ _ (drop_of_length-le c.args.commands.now all) c.loop-command.invariant.1
