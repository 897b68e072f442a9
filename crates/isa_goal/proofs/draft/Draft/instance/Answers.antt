use Rattle.std.proofs.Common.{rules, length, sym, subst}
use Rattle.isa_terms.specs.Instance.{instance_of}
use Rattle.isa_subgoal.proofs.Splitting.{same_length}
use Rattle.isa_goal.specs.Goals.{Goals, Proves}
use Rattle.isa_goal.specs.Follows.{instanced}
use Rattle.isa_goal.proofs.Granting.{never_unread}
use Rattle.isa_goal.proofs.Numbers.{read_proves, read_gives, instanced_is}
use Rattle.isa_goal.proofs.draft.Draft.instance.Goals as goal

pub unreachable-requires : goal.unreachable-requires
unreachable-requires c =
    never_unread (length c.args.self.now.subgoals) (instanced c.args.inst.now c.args.self.now) c.in_ok-thm.thm (sym (same_length (instance_of c.args.inst.now) c.args.self.now.subgoals))
    (instanced_is c.args.inst.now c.args.self.now c.self.inside.thm c.in_ok-thm.thm c.requires (subst (λ (x : Goals). Proves c.self.inside.thm x) (search rules) c.self.invariant) (search rules)) (search rules)

pub invariant_of-result : goal.invariant_of-result
invariant_of-result c =
    read_proves (length c.args.self.now.subgoals) (instanced c.args.inst.now c.args.self.now) c.in_ok-thm.thm c.in-Some.parts.premises c.in-Some.parts.conclusion (sym (same_length (instance_of c.args.inst.now) c.args.self.now.subgoals))
    (instanced_is c.args.inst.now c.args.self.now c.self.inside.thm c.in_ok-thm.thm c.requires (subst (λ (x : Goals). Proves c.self.inside.thm x) (search rules) c.self.invariant) (search rules)) (search rules)

pub returns : goal.returns
returns c =
    read_gives (length c.args.self.now.subgoals) (instanced c.args.inst.now c.args.self.now) c.in_ok-thm.thm c.in-Some.parts.premises c.in-Some.parts.conclusion (sym (same_length (instance_of c.args.inst.now) c.args.self.now.subgoals))
    (instanced_is c.args.inst.now c.args.self.now c.self.inside.thm c.in_ok-thm.thm c.requires (subst (λ (x : Goals). Proves c.self.inside.thm x) (search rules) c.self.invariant) (search rules)) (search rules)
