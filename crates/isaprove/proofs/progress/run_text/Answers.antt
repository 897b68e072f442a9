use Rattle.std.proofs.Common.{rules, ◌≡◌, false}
use Rattle.isaprove.specs.Taken.{is_memory}
use Rattle.isaprove.proofs.Writing.{All-nothing}
use Rattle.isaprove.proofs.Passing.{leaves_quiet}
use Rattle.isaprove.proofs.Turning.{not_memory, text_read, text_refused}
use Rattle.isaprove.proofs.progress.run_text.Goals as goal

pub returns-then-is_memory-clause-does : goal.returns-then-is_memory-clause-does
returns-then-is_memory-clause-does g c = λ more. leaves_quiet _ _ _ (All-nothing _)

pub returns-in-Ok-clause-does : goal.returns-in-Ok-clause-does
returns-in-Ok-clause-does g c = text_read _ _ _ _ _ _ _ _ _ c.in-Ok.ensures.is c.as_slice.ensures c.run_whole.ensures.does

pub returns-else-is_memory-clause-does : goal.returns-else-is_memory-clause-does
returns-else-is_memory-clause-does g c =
    let cause : is_memory c.in-Err.refused.kind ≡ false = search rules in
    text_refused _ _ _ _ c.in-Err.refused _ _ _ (c.in-Err.ensures.is (not_memory _ cause)) c.refuse.ensures.stops
