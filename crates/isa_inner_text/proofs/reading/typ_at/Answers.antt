use Rattle.isa_inner_text.proofs.Steps.{type_reads, type_fails}
use Rattle.isa_inner_text.proofs.reading.typ_at.Goals as goal

pub returns-in-Ok-clause-read : goal.returns-in-Ok-clause-read
returns-in-Ok-clause-read c sig go = type_reads sig _ _ go _ _ _ c.in-Ok.ensures.read

pub returns-in-Err-clause-read : goal.returns-in-Err-clause-read
returns-in-Err-clause-read c sig go = type_fails sig _ _ _ go _ c.in-Err.ensures.read c.type_cause.ensures
