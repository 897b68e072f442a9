-- What follows from what follows.
use Rattle.std.proofs.Common.{◌≡◌, inl, inr, List, [], ◌∷◌, map, true, ◌&&◌, refl, sym, ap, ◌∙◌, subst}
use Rattle.isa_terms.specs.Types.{Ty}
use Rattle.isa_terms.specs.Terms.{Tm, bare}
use Rattle.isa_terms.specs.Typing.{HasType, type_at}
use Rattle.isa_terms.specs.Instance.{Instance, instance_of, inst_ty}
use Rattle.isa_terms.specs.declared.inst.TypeEntry.{TypeEntry}
use Rattle.isa_terms.specs.declared.inst.TermEntry.{TermEntry}
use Rattle.isa_terms.proofs.Bare.{type_at_bare}
use Rattle.isa_terms.proofs.Equal.{ty_decides}
use Rattle.isa_terms.specs.Instances.{IsKept, followed_by, Each}
use Rattle.isa_terms.proofs.Typed.{type_of_typed, typed_of_type}
use Rattle.isa_terms.proofs.Instances.{inst_typed, inst_bare_same, inst_norm_typed}
use Rattle.isa_terms.proofs.NormalForms.{norm_normal}
use Rattle.isa_terms.specs.Normal.{IsNormal}
use Rattle.isa_terms.proofs.ConversionLaws.{instances_compose_law}
use Rattle.isa_kernel.specs.Logic.{prop, IsProposition}
use Rattle.isa_kernel.specs.Derivation.{Member, Derives}
use Rattle.isa_kernel.specs.Inferences.{keeps, typed_as}
use Rattle.isa_kernel.proofs.Members.{bares}
use Rattle.isa_goal.specs.Goals.{Goals, IsStanding}
use Rattle.isa_subgoal.specs.Premises.{implies}
use Rattle.isa_goal.specs.Names.{reshaped, naming, normalised, canon}
use Rattle.isa_goal.specs.Follows.{Follows, IsNormalState, instanced}
use Rattle.isa_subgoal.proofs.Deriving.{ArePropositions, implies_bare, derived_propositions, propositions_member}
use Rattle.isa_subgoal.proofs.Consequences.{From, each_of, of_each, chain, map_member}
use Rattle.isa_subgoal.proofs.Instancing.{from_instance}
use Rattle.isa_goal.proofs.Numbers.{naming_keeps, is_kept, form_propositions}

pub kept_keeps : (es : List TypeEntry) (fs : List TermEntry) → IsKept es fs → keeps es fs ≡ true
kept_keeps es [] k = refl
kept_keeps es (f ∷ fs) k = λ i. (ap (λ r. typed_as r (inst_ty es f.typ)) k.0 ∙ (ty_decides (inst_ty es f.typ) (inst_ty es f.typ)).1 refl) i && kept_keeps es fs k.1 i

-- an instance and then another, on the terms
module _ (n m : Instance) (ts : List Tm) (k : keeps n.types n.terms ≡ true) (l : keeps m.types m.terms ≡ true) where
  pub both_keep : keeps (followed_by n m ts).types (followed_by n m ts).terms ≡ true
  both_keep = kept_keeps (followed_by n m ts).types (followed_by n m ts).terms (instances_compose_law n m ts (is_kept n.types n.terms k) (is_kept m.types m.terms l)).0

  pub both_are : (t : Tm) → Member t ts → IsProposition t → bare (instance_of (followed_by n m ts) t) ≡ bare (instance_of m (instance_of n t))
  both_are t i h = of_each (λ u. (T : Ty) → HasType u T → bare (instance_of (followed_by n m ts) u) ≡ bare (instance_of m (instance_of n u))) ts (instances_compose_law n m ts (is_kept n.types n.terms k) (is_kept m.types m.terms l)).1 t i prop h

pub instance_proposition : (n : Instance) (t : Tm) → keeps n.types n.terms ≡ true → IsProposition t → IsProposition (instance_of n t)
instance_proposition n t k h = type_of_typed (inst_norm_typed n.types n.terms (is_kept n.types n.terms k) (typed_of_type [] t prop h))

-- the names of binders do not matter
pub same_instance : (n : Instance) (t u : Tm) → keeps n.types n.terms ≡ true → IsProposition u → bare t ≡ bare u → bare (instance_of n t) ≡ bare (instance_of n u)
same_instance n t u k h e =
    let g : IsProposition t = sym (type_at_bare [] t) ∙ ap (λ x. type_at [] x) e ∙ type_at_bare [] u ∙ h in
    inst_bare_same n.types n.terms (is_kept n.types n.terms k) (typed_of_type [] t prop g) (typed_of_type [] u prop h) e

pub from_same : (ax ps : List Tm) (q r : Tm) → bare q ≡ bare r → From ax ps q → From ax ps r
from_same ax ps q r e d = subst (λ p. Derives ax [] p) (implies_bare ps q ∙ ap (implies (bares ps)) e ∙ sym (implies_bare ps r)) d

-- what follows from a state that follows from another follows from that one
pub follows_chain : (ax : List Tm) (s t u : Goals) → ArePropositions s.subgoals → IsProposition s.goal → ArePropositions u.subgoals → Follows ax s t → Follows ax t u → Follows ax s u
follows_chain ax s t u ws hs wu f g =
    let ts : List Tm = s.goal ∷ s.subgoals in
    let r : Instance = followed_by f.inst g.inst ts in
    let kr : keeps r.types r.terms ≡ true = both_keep f.inst g.inst ts f.kept g.kept in
    record {
      inst = r;
      kept = kr;
      goal = g.goal
          ∙ same_instance g.inst t.goal (instance_of f.inst s.goal) g.kept (instance_proposition f.inst s.goal f.kept hs) f.goal
          ∙ sym (both_are f.inst g.inst ts f.kept g.kept s.goal (inl refl) hs);
      subgoals = each_of s.subgoals (λ a m.
          from_same ax u.subgoals (instance_of g.inst (instance_of f.inst a)) (instance_of r a)
          (sym (both_are f.inst g.inst ts f.kept g.kept a (inr m) (propositions_member s.subgoals a ws m)))
          (chain ax (map (instance_of g.inst) t.subgoals) u.subgoals (instance_of g.inst (instance_of f.inst a)) wu
          (from_instance ax g.inst t.subgoals (instance_of f.inst a) g.kept (of_each _ s.subgoals f.subgoals a m))
          (map_member (instance_of g.inst) (λ p. From ax u.subgoals p) t.subgoals (of_each _ t.subgoals g.subgoals))));
    }

-- ---- canonical forms
map_propositions : (n : Instance) (ts : List Tm) → keeps n.types n.terms ≡ true → ArePropositions ts → ArePropositions (map (instance_of n) ts)
map_propositions n [] k w = tt
map_propositions n (t ∷ ts) k w = (instance_proposition n t k w.0, map_propositions n ts k w.1)

pub canon_propositions : (s : Goals) → ArePropositions s.subgoals → ArePropositions (canon s).subgoals
canon_propositions s w = map_propositions (naming (reshaped (normalised s))) (reshaped (normalised s)).subgoals (naming_keeps (reshaped (normalised s))) (form_propositions s w)

instance_normal : (n : Instance) (t : Tm) → keeps n.types n.terms ≡ true → IsProposition t → IsNormal (instance_of n t)
instance_normal n t k h = norm_normal (inst_typed n.types n.terms (is_kept n.types n.terms k) (typed_of_type [] t prop h))

map_normal : (n : Instance) (ts : List Tm) → keeps n.types n.terms ≡ true → ArePropositions ts → Each IsNormal (map (instance_of n) ts)
map_normal n [] k w = tt
map_normal n (t ∷ ts) k w = (instance_normal n t k w.0, map_normal n ts k w.1)

-- a state under an instance is normal
instanced_normal : (n : Instance) (s : Goals) → keeps n.types n.terms ≡ true → ArePropositions s.subgoals → IsProposition s.goal → IsNormalState (instanced n s)
instanced_normal n s k w h = record { subgoals = map_normal n s.subgoals k w; goal = instance_normal n s.goal k h }

pub normalised_normal : (s t : Goals) → IsStanding s → t ≡ normalised s → IsNormalState t
normalised_normal s t d e =
    let p = derived_propositions s.subgoals s.goal d.derivation in
    subst (λ x. IsNormalState x) (sym e) (instanced_normal (record { types = []; terms = [] }) s refl p.0 p.1)

pub canon_normal : (s t : Goals) → IsStanding s → t ≡ canon s → IsNormalState t
canon_normal s t d e =
    let p = derived_propositions s.subgoals s.goal d.derivation in
    let u : Goals = reshaped (normalised s) in
    subst (λ x. IsNormalState x) (sym e) (instanced_normal (naming u) u (naming_keeps u) (form_propositions s p.0) (instance_proposition (record { types = []; terms = [] }) s.goal refl p.1))
