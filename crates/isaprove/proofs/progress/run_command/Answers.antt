use Rattle.std.proofs.Common.{rules, ◌≡◌, ◌&&◌, true}
use Rattle.isaprove.specs.Run.{is_proof_command}
use Rattle.isaprove.proofs.Turning.{command_skipped}
use Rattle.isaprove.proofs.progress.run_command.Goals as goal

pub returns-then-is_proof_command-clause-does : goal.returns-then-is_proof_command-clause-does
returns-then-is_proof_command-clause-does g c =
    let skipped : (c.args.progress.now.skips && is_proof_command c.args.command.now) ≡ true = search rules in
    command_skipped _ _ _ _ skipped
