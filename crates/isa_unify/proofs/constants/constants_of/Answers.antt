use Rattle.isa_unify.proofs.ConstantLaws.{settled_answer, fixed_answer}
use Rattle.isa_unify.proofs.constants.constants_of.Goals as goal

pub returns-clause-settled : goal.returns-clause-settled
returns-clause-settled c = settled_answer c.args.terms.now c.themselves.result c.themselves.ensures

pub returns-clause-fixed : goal.returns-clause-fixed
returns-clause-fixed c = fixed_answer c.args.terms.now c.themselves.result c.themselves.ensures
