-- How a state follows from another.
-- Source: what tactics keep: the new goal state is derived from the old one, under an instance (Paulson, "The foundation of a generic theorem prover", 1989); stated as an implication between subgoals by this project.
use Rattle.std.specs.Prelude.{◌≡◌, ℕ, List, [], ◌++◌, map, true, Some, Result, Ok, Err}
use Rattle.isa_terms.specs.Terms.{Tm, bare}
use Rattle.isa_terms.specs.Instance.{Instance, instance_of}
use Rattle.isa_terms.specs.Normal.{IsNormal}
use Rattle.isa_kernel.specs.Axioms.{propositions}
use Rattle.isa_kernel.specs.Derivation.{Within, Derives}
use Rattle.isa_kernel.specs.Theorem.{Theorem, IsDerived}
use Rattle.isa_kernel.specs.Inferences.{keeps}
use Rattle.isa_kernel.specs.declared.inference.InferenceError.{InferenceError}
use Rattle.isa_goal.specs.Goals.{Goals, IsStanding, refined}
use Rattle.isa_terms.specs.Instances.{Each}
use Rattle.isa_subgoal.specs.Premises.{implies}

-- by the axioms `ax`: the goal of t is an instance of that of s, and each subgoal of s, so instantiated, follows from those of t
pub record Follows (ax : List Tm) (s t : Goals) : Type 0 where
  pub inst : Instance
  pub kept : keeps inst.types inst.terms ≡ true
  pub goal : bare t.goal ≡ bare (instance_of inst s.goal)
  pub subgoals : Each (λ a. Derives ax [] (bare (implies t.subgoals (instance_of inst a)))) s.subgoals

-- t follows from s by the axioms, and rests on these and on those of s
pub record Advances (ax : List Tm) (s t : Goals) : Type 0 where
  pub follows : Follows ax s t
  pub rests : Within (propositions t.base) (propositions s.base ++ ax)

-- where there is an answer, it follows
abbrev pub Leads : List Tm → Goals → Result Goals InferenceError → Type 0
Leads ax s (Ok t) = Advances ax s t
Leads ax s (Err e) = Unit {0}

-- the goal is the same, and each subgoal of s follows from those of t
pub record Reduces (ax : List Tm) (s t : Goals) : Type 0 where
  pub goal : t.goal ≡ s.goal
  pub subgoals : Each (λ a. Derives ax [] (bare (implies t.subgoals a))) s.subgoals

-- the state under the instance
abbrev pub instanced : Instance → Goals → Goals
instanced inst s = record { subgoals = map (instance_of inst) s.subgoals; goal = instance_of inst s.goal; base = s.base }

-- a state whose terms are normal
pub record IsNormalState (s : Goals) : Type 0 where
  pub subgoals : Each IsNormal s.subgoals
  pub goal : IsNormal s.goal

-- a normal state follows from itself, from no axiom
abbrev pub FollowsItself : Type 0
FollowsItself = (s : Goals) → IsStanding s → IsNormalState s → Follows [] s s

-- the refined state has the old goal, and the old subgoals follow from its own by the theorem's axioms
abbrev pub RefinedReduces : Type 0
RefinedReduces = (i n : ℕ) (th : Theorem) (s t : Goals) → refined i th n s ≡ Some t → IsStanding s → IsDerived th → Reduces (propositions th.base) s t

-- what is reduced and then instantiated follows
abbrev pub InstancedFollows : Type 0
InstancedFollows = (ax : List Tm) (inst : Instance) (s t : Goals) → keeps inst.types inst.terms ≡ true → Reduces ax s t → Follows ax s (instanced inst t)

-- what a normal state reduces to follows from it
abbrev pub ReducedFollows : Type 0
ReducedFollows = (ax : List Tm) (s t : Goals) → IsNormalState s → Reduces ax s t → Follows ax s t

-- what follows from a state that another reduces to follows from that one
abbrev pub ReducesFollows : Type 0
ReducesFollows = (ax : List Tm) (s t u : Goals) → IsStanding u → Reduces ax s t → Follows ax t u → Follows ax s u

-- what follows from a state that follows from another follows from that one
abbrev pub FollowsInTurn : Type 0
FollowsInTurn = (ax : List Tm) (s t u : Goals) → IsStanding s → IsStanding t → IsStanding u → Follows ax s t → Follows ax t u → Follows ax s u

-- what follows by some axioms follows by more
abbrev pub FollowsByMore : Type 0
FollowsByMore = (ax bx : List Tm) (s t : Goals) → Within ax bx → Follows ax s t → Follows bx s t
