-- A state under an instance, and then refined.
use Rattle.std.proofs.Common.{◌≡◌, ℕ, List, true, Some, refl, sym, subst}
use Rattle.std.specs.Prelude.{Result, Ok}
use Rattle.isa_terms.specs.Terms.{Tm}
use Rattle.isa_terms.specs.Instance.{Instance}
use Rattle.isa_kernel.specs.Axioms.{propositions}
use Rattle.isa_kernel.specs.Theorem.{Theorem, IsDerived}
use Rattle.isa_kernel.specs.Inferences.{keeps}
use Rattle.isa_goal.specs.Goals.{Goals, IsStanding, refined}
use Rattle.isa_goal.specs.Names.{canon}
use Rattle.isa_goal.specs.Follows.{Follows, Reduces, Advances, Leads, instanced}
use Rattle.isa_subgoal.proofs.Deriving.{derived_propositions}
use Rattle.isa_subgoal.proofs.Consequences.{itself, each_of}
use Rattle.isa_subgoal.proofs.Instancing.{from_instance}
use Rattle.isa_goal.proofs.Refining.{standing_propositions}
use Rattle.isa_goal.proofs.Following.{instanced_follows, refined_propositions}
use Rattle.isa_goal.proofs.Numbers.{refined_advances}
use Rattle.isa_goal.proofs.Chaining.{follows_chain, canon_propositions}

-- the instance of a state stands
pub instanced_standing : (n : Instance) (s : Goals) → keeps n.types n.terms ≡ true → IsStanding s → IsStanding (instanced n s)
instanced_standing n s k d = record { derivation = from_instance (propositions s.base) n s.subgoals s.goal k d.derivation }

-- and follows from the state
pub follows_instanced : (ax : List Tm) (n : Instance) (s : Goals) → keeps n.types n.terms ≡ true → IsStanding s → Follows ax s (instanced n s)
follows_instanced ax n s k d = instanced_follows ax n s s k (record { goal = refl; subgoals = each_of s.subgoals (λ a m. itself ax s.subgoals a (standing_propositions s d) m) })

pub instance_advances : (n : Instance) (i k : ℕ) (th : Theorem) (s p : Goals) → keeps n.types n.terms ≡ true → refined i th k (instanced n s) ≡ Some p → IsStanding s → IsDerived th → Advances (propositions th.base) s (canon p)
instance_advances n i k th s p h e d f =
    let si : IsStanding (instanced n s) = instanced_standing n s h d in
    let a : Advances (propositions th.base) (instanced n s) (canon p) = refined_advances i k th (instanced n s) p e si f in
    record {
      follows = follows_chain (propositions th.base) s (instanced n s) (canon p) (standing_propositions s d) (derived_propositions s.subgoals s.goal d.derivation).1 (canon_propositions p (refined_propositions i k th (instanced n s) p e si f)) (follows_instanced (propositions th.base) n s h d) a.follows;
      rests = a.rests;
    }

-- a call that instantiates, refines and then answers the canonical form
pub instance_leads : (n : Instance) (i k : ℕ) (th : Theorem) (s u p t : Goals) → keeps n.types n.terms ≡ true → u ≡ instanced n s → refined i th k u ≡ Some p → IsStanding s → IsDerived th → t ≡ canon p → Leads (propositions th.base) s (Ok t)
instance_leads n i k th s u p t h g e d f q =
    subst (λ x. Advances (propositions th.base) s x) (sym q) (instance_advances n i k th s p h (subst (λ x. refined i th k x ≡ Some p) g e) d f)
