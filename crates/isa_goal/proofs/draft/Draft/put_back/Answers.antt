use Rattle.std.proofs.Common.{rules, List, subst}
use Rattle.isa_terms.specs.Terms.{Tm}
use Rattle.isa_subgoal.specs.Rules.{Rotates}
use Rattle.isa_goal.specs.Goals.{Goals, Proves}
use Rattle.isa_goal.proofs.Focusing.{put_back_proves, put_back_state}
use Rattle.isa_goal.proofs.Granting.{back_granted}
use Rattle.isa_goal.proofs.draft.Draft.put_back.Goals as goal

pub granted-requires : goal.granted-requires
granted-requires c = back_granted c.args.others c.args.front c.args.self.now c.self.inside.thm c.in_ok-taken.taken.premises c.split_at_most.result.0.now c.split_at_most.result.1.now c.rotate.result (subst (λ (x : Goals). Proves c.self.inside.thm x) (search rules) c.self.invariant) (search rules) (search rules) (search rules) (subst (λ (ts : List Tm). Rotates ts c.split_at_most.result.0.now c.self.inside.thm c.rotate.result) (search rules) c.rotate.ensures.theorem)

pub invariant_of-result : goal.invariant_of-result
invariant_of-result c =
    put_back_proves c.args.others c.args.front c.args.self.now c.self.inside.thm c.in_ok-thm.thm c.in_ok-taken.taken.premises c.split_at_most.result.0.now c.split_at_most.result.1.now _ c.in_ok-taken.taken.conclusion _ c.rotate.result (subst (λ (x : Goals). Proves c.self.inside.thm x) (search rules) c.self.invariant) (search rules) (search rules) (search rules) (search rules) (search rules) (search rules) (subst (λ (ts : List Tm). Rotates ts c.split_at_most.result.0.now c.self.inside.thm c.rotate.result) (search rules) c.rotate.ensures.theorem) (search rules)

pub returns : goal.returns
returns c =
    put_back_state c.args.others c.args.front c.args.self.now c.self.inside.thm c.in_ok-thm.thm c.in_ok-taken.taken.premises c.split_at_most.result.0.now c.split_at_most.result.1.now _ c.in_ok-taken.taken.conclusion _ c.rotate.result (subst (λ (x : Goals). Proves c.self.inside.thm x) (search rules) c.self.invariant) (search rules) (search rules) (search rules) (search rules) (search rules) (search rules) (subst (λ (ts : List Tm). Rotates ts c.split_at_most.result.0.now c.self.inside.thm c.rotate.result) (search rules) c.rotate.ensures.theorem) (search rules)
