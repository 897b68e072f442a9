use Rattle.isa_inner_text.proofs.OneOutcome.{one_outcome, one_reading}
use Rattle.isa_inner_text.proofs.laws.one_reading.Goals as goal

pub returns-clause-tokens : goal.returns-clause-tokens
returns-clause-tokens c = one_outcome

pub returns-clause-text : goal.returns-clause-text
returns-clause-text c = one_reading
