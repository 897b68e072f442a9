use Rattle.std.proofs.Common.{◌≡◌, ◌<◌, ◌^◌, drop}
use Rattle.isa_outer.specs.Forms.{number_from}
use Rattle.isa_outer.proofs.words.number_of.Given as goal

abbrev pub invariant-loop-digit : goal.invariant-loop-digit
invariant-loop-digit l = (number_from 0 l.digits ≡ number_from l.number (drop l.digit-index l.digits)) × (l.number < 2 ^ 32)
