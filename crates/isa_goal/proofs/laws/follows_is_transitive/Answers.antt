use Rattle.isa_goal.proofs.Refining.{standing_propositions}
use Rattle.isa_subgoal.proofs.Deriving.{derived_propositions}
use Rattle.isa_goal.proofs.Searching.{follows_more}
use Rattle.isa_goal.proofs.Chaining.{follows_chain}
use Rattle.isa_goal.proofs.laws.follows_is_transitive.Goals as goal

pub returns : goal.returns
returns c = record { in_turn = λ ax s t u d e f g h. follows_chain ax s t u (standing_propositions s d) (derived_propositions s.subgoals s.goal d.derivation).1 (standing_propositions u f) g h; by_more = follows_more }
