use Rattle.std.proofs.Common.{rules, List, length, sym, subst}
use Rattle.isa_terms.specs.Terms.{Tm}
use Rattle.isa_subgoal.specs.Rules.{Reshapes}
use Rattle.isa_subgoal.specs.Shape.{shaped}
use Rattle.isa_subgoal.proofs.Splitting.{same_length}
use Rattle.isa_goal.specs.Goals.{Goals, Proves}
use Rattle.isa_goal.specs.Names.{reshaped}
use Rattle.isa_goal.proofs.Granting.{reshaped_granted, never_unread}
use Rattle.isa_goal.proofs.Numbers.{read_proves, read_gives, reshaped_is}
use Rattle.isa_goal.proofs.draft.Draft.reshaped.Goals as goal

pub granted-requires : goal.granted-requires
granted-requires c = reshaped_granted c.args.self.now c.self.inside.thm c.reshape.result c.requires (subst (λ (x : Goals). Proves c.self.inside.thm x) (search rules) c.self.invariant) (subst (λ (ts : List Tm). Reshapes ts c.self.inside.thm c.reshape.result) (search rules) c.reshape.ensures.theorem)

pub unreachable-requires : goal.unreachable-requires
unreachable-requires c =
    never_unread (length c.args.self.now.subgoals) (reshaped c.args.self.now) c.in_ok-thm.thm (sym (same_length shaped c.args.self.now.subgoals))
    (reshaped_is c.args.self.now c.self.inside.thm c.in_ok-thm.thm c.reshape.result c.requires (subst (λ (x : Goals). Proves c.self.inside.thm x) (search rules) c.self.invariant) (subst (λ (ts : List Tm). Reshapes ts c.self.inside.thm c.reshape.result) (search rules) c.reshape.ensures.theorem) (search rules)) (search rules)

pub invariant_of-result : goal.invariant_of-result
invariant_of-result c =
    read_proves (length c.args.self.now.subgoals) (reshaped c.args.self.now) c.in_ok-thm.thm c.in-Some.parts.premises c.in-Some.parts.conclusion (sym (same_length shaped c.args.self.now.subgoals))
    (reshaped_is c.args.self.now c.self.inside.thm c.in_ok-thm.thm c.reshape.result c.requires (subst (λ (x : Goals). Proves c.self.inside.thm x) (search rules) c.self.invariant) (subst (λ (ts : List Tm). Reshapes ts c.self.inside.thm c.reshape.result) (search rules) c.reshape.ensures.theorem) (search rules)) (search rules)

pub returns : goal.returns
returns c =
    read_gives (length c.args.self.now.subgoals) (reshaped c.args.self.now) c.in_ok-thm.thm c.in-Some.parts.premises c.in-Some.parts.conclusion (sym (same_length shaped c.args.self.now.subgoals))
    (reshaped_is c.args.self.now c.self.inside.thm c.in_ok-thm.thm c.reshape.result c.requires (subst (λ (x : Goals). Proves c.self.inside.thm x) (search rules) c.self.invariant) (subst (λ (ts : List Tm). Reshapes ts c.self.inside.thm c.reshape.result) (search rules) c.reshape.ensures.theorem) (search rules)) (search rules)
