use Rattle.std.proofs.Common.{rules, List, subst}
use Rattle.isa_terms.specs.Terms.{Tm}
use Rattle.isa_subgoal.specs.Rules.{Rotates}
use Rattle.isa_goal.specs.Goals.{Goals, Proves}
use Rattle.isa_goal.proofs.Focusing.{alone_proves, alone_focused}
use Rattle.isa_goal.proofs.Granting.{never_around, alone_granted}
use Rattle.isa_goal.proofs.draft.Draft.alone_at.Goals as goal

pub unreachable-requires : goal.unreachable-requires
unreachable-requires c = never_around c.args.i c.args.self.now.subgoals (search rules) c.requires.first c.requires.last

pub granted-requires : goal.granted-requires
granted-requires c = alone_granted c.args.i c.args.self.now c.self.inside.thm c.in-Some.before.now c.in-Some.behind.now c.as_slice-2.result.now c.in-Some.subgoal.now c.rotate.result (subst (λ (x : Goals). Proves c.self.inside.thm x) (search rules) c.self.invariant) (search rules) (search rules) c.rotate.ensures.theorem

pub invariant_of-result : goal.invariant_of-result
invariant_of-result c = alone_proves c.args.i c.args.self.now c.self.inside.thm c.in_ok-thm.thm c.in-Some.before.now c.in-Some.behind.now _ c.in-Some.subgoal.now _ c.in_ok-others.others c.rotate.result (subst (λ (x : Goals). Proves c.self.inside.thm x) (search rules) c.self.invariant) (search rules) (search rules) (search rules) (search rules) (subst (λ (ts : List Tm). Rotates c.in-Some.before.now ts c.self.inside.thm c.rotate.result) (search rules) c.rotate.ensures.theorem) (search rules)

pub returns : goal.returns
returns c = alone_focused c.args.i c.args.self.now c.self.inside.thm c.in_ok-thm.thm c.in-Some.before.now c.in-Some.behind.now _ c.in-Some.subgoal.now _ c.in_ok-others.others c.rotate.result (subst (λ (x : Goals). Proves c.self.inside.thm x) (search rules) c.self.invariant) (search rules) (search rules) (search rules) (search rules) (subst (λ (ts : List Tm). Rotates c.in-Some.before.now ts c.self.inside.thm c.rotate.result) (search rules) c.rotate.ensures.theorem) (search rules)
