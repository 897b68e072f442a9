use Rattle.std.proofs.Common.{arith}
use Rattle.std.proofs.lemmas.Grind.{common_steps}
use Rattle.isa_cert.proofs.CertLines.{line_taken, line_refused}
use Rattle.isa_cert.proofs.checking.check_lines.Goals as goal

pub returns-in-Err : goal.returns-in-Err
returns-in-Err c = line_refused _ _ _ _ c.loop-line.table _ c.loop-line.ended c.loop-line.rest.now _ c.in-Some.behind.now c.loop-line.invariant c.in-Some.ensures.first c.in-Err.ensures c.refusal.ensures

pub loop-line-preserved : goal.loop-line-preserved
loop-line-preserved c = line_taken _ c.loop-line.number c.in_ok-later.later c.loop-line.table _ c.loop-line.ended _ c.loop-line.rest.now c.in-Some.line.now c.in-Some.behind.now c.loop-line.invariant c.in-Some.ensures.first c.in-Ok.ensures (grind (arith, common_steps))
