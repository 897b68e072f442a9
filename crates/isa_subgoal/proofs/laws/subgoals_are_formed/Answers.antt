use Rattle.std.proofs.Common.{Bool, cond, ap}
use Rattle.isa_subgoal.specs.Shape.{moved}
use Rattle.isa_terms.specs.Norm.{norm}
use Rattle.isa_subgoal.proofs.InForm.{shaped_in_form}
use Rattle.isa_subgoal.proofs.laws.subgoals_are_formed.Goals as goal

pub returns : goal.returns
returns c = record { formed = shaped_in_form; stays = λ t e. ap (λ (b : Bool). cond b t (norm (moved t))) e }
