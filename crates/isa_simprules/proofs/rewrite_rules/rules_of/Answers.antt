use Rattle.isa_simprules.proofs.Equations.{all_equations}
use Rattle.isa_simprules.proofs.rewrite_rules.rules_of.Goals as goal

pub returns-clause-equations : goal.returns-clause-equations
returns-clause-equations c = all_equations c.args.logic.now c.args.fact.now c.prepared.result c.prepared.ensures
