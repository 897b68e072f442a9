use Rattle.std.specs.Prelude.{None}
use Rattle.isa_outer.proofs.OneReading.{one_reading}
use Rattle.isa_outer.proofs.one_reading.Goals as goal

pub returns : goal.returns
returns c = λ tokens commands others refusal other r s. one_reading None tokens commands refusal r others other s
