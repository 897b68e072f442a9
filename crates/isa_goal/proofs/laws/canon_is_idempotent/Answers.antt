use Rattle.std.proofs.Common.{refl}
use Rattle.isa_goal.specs.Names.{canon, normalised, reshaped}
use Rattle.isa_goal.proofs.Canon.{canon_again}
use Rattle.isa_goal.proofs.Fitting.{few_fit, numbers_least, type_numbers_least}
use Rattle.isa_goal.proofs.laws.canon_is_idempotent.Goals as goal

pub returns : goal.returns
returns c = record { again = λ s d f. canon_again s (canon s) d (few_fit (reshaped (normalised s)) f) refl; least = λ names n h. (numbers_least names n h, type_numbers_least names n h) }
