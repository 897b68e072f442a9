use Rattle.std.proofs.Common.{rules, ◌≡◌, false, refl}
use Rattle.isaprove.specs.Taken.{is_memory}
use Rattle.isaprove.proofs.Writing.{All-nothing}
use Rattle.isaprove.proofs.Passing.{leaves_quiet}
use Rattle.isaprove.proofs.Turning.{command_shown, command_fails, command_refuses}
use Rattle.isaprove.proofs.progress.take_command.Goals as goal

pub returns-then-is_memory-clause-does : goal.returns-then-is_memory-clause-does
returns-then-is_memory-clause-does g c = λ ks more. leaves_quiet _ _ _ (All-nothing _)

pub returns-in-Ok-clause-does : goal.returns-in-Ok-clause-does
returns-in-Ok-clause-does g c =
    command_shown _ c.args.progress.now _ c.args.command.now c.take.new.self c.in-Ok.text _ _ _ c.requires.taken c.in-Ok.ensures refl c.show.ensures.shows

pub returns-in-Err-Failed-clause-does : goal.returns-in-Err-Failed-clause-does
returns-in-Err-Failed-clause-does g c =
    command_fails _ c.args.progress.now _ _ c.args.command.now c.take.new.self c.in-Err-Failed.field-0 c.in-Err-Failed.failure _ _ _ _ c.requires.taken c.in-Err-Failed.ensures c.in-Err-Failed.field-0-is refl c.line_of.ensures c.fail.ensures.fails

pub returns-else-is_memory-clause-does : goal.returns-else-is_memory-clause-does
returns-else-is_memory-clause-does g c =
    let cause : is_memory c.in-Err-Refused.refused.kind ≡ false = search rules in
    command_refuses _ c.args.progress.now _ c.args.command.now c.take.new.self c.in-Err-Refused.field-0 c.in-Err-Refused.refused _ _ _ c.requires.taken c.in-Err-Refused.ensures c.in-Err-Refused.field-0-is cause c.refuse.ensures.stops
