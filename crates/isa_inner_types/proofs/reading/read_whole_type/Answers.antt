use Rattle.std.proofs.Common.{refl}
use Rattle.isa_inner_types.specs.TypeReading.{at_end}
use Rattle.isa_inner_types.proofs.TypeSteps.{exit, fails_inside, text_read, text_refused, nil_of}
use Rattle.isa_inner_types.proofs.reading.read_whole_type.Goals as goal

pub returns-in_err-typ : goal.returns-in_err-typ
returns-in_err-typ c = exit _ _ _ _ c.from_residual.ensures.1 (fails_inside _ _ _ _ at_end refl c.in_err-typ.ensures.read)

pub returns-in-None : goal.returns-in-None
returns-in-None c = text_read _ _ _ _ (nil_of _ c.in-None.ensures.cases) c.in_ok-typ.ensures.read

pub returns-in-Some : goal.returns-in-Some
returns-in-Some c = text_refused _ _ _ _ _ _ _ c.in-Some.ensures.cases.0 c.refused.ensures c.in_ok-typ.ensures.read
