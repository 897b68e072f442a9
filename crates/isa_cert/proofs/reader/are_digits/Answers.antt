use Rattle.std.proofs.Common.{rules, arith, ◌∙◌}
use Rattle.isa_cert.proofs.Reading.{digits_step}
use Rattle.isa_cert.proofs.reader.are_digits.Goals as goal

pub loop-byte-preserved : goal.loop-byte-preserved
loop-byte-preserved c = λ n. c.loop-byte.invariant n ∙ digits_step c.args.digits.now c.loop-byte.byte-index (omega arith) (search rules)
