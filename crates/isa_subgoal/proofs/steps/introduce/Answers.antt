use Rattle.isa_subgoal.proofs.AtOnce.{introduces}
use Rattle.isa_subgoal.proofs.steps.introduce.Goals as goal

pub returns : goal.returns
returns c = introduces c.args.premises.now c.args.th c.discharge.result c.discharge.ensures
