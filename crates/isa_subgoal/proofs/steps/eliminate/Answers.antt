use Rattle.isa_subgoal.proofs.AtOnce.{eliminates}
use Rattle.isa_subgoal.proofs.steps.eliminate.Goals as goal

pub returns : goal.returns
returns c = eliminates c.args.premises.now c.args.th c.undischarge.result c.is_derived.ensures c.undischarge.ensures
