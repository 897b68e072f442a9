use Rattle.isa_theory.proofs.OneAnswer.{one_next_context}
use Rattle.isa_theory.proofs.laws.commands_have_one_answer.Goals as goal

pub returns : goal.returns
returns c = one_next_context
