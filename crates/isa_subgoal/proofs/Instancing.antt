-- Instances of propositions with premises, and the empty instance.
use Rattle.std.proofs.Common.{◌≡◌, List, [], ◌∷◌, map, true, false, cond, ◌&&◌, Some, None, refl, sym, ap, ◌∙◌, subst}
use Rattle.isa_terms.specs.Types.{Ty, Tys, TyCon, TyFixed, TyUnknown, NoTys, MoreTys}
use Rattle.isa_terms.specs.Terms.{Tm, Const, Free, Unknown, Bound, Abs, App, bare}
use Rattle.isa_terms.specs.Instance.{Instance, instance_of, inst_ty, inst_tys, inst_tm, in_tms}
use Rattle.isa_terms.proofs.Bare.{type_at_bare}
use Rattle.isa_terms.specs.Norm.{norm}
use Rattle.isa_terms.specs.Normal.{IsNormal}
use Rattle.isa_kernel.specs.Logic.{prop, imp, eq}
use Rattle.isa_kernel.specs.declared.base.BaseEntry.{BaseEntry}
use Rattle.isa_kernel.specs.Derivation.{Member, Within, Tree, EqualElim, Derives}
use Rattle.isa_kernel.specs.Derivation as derivation
use Rattle.isa_kernel.specs.Inferences.{keeps, instantiated}
use Rattle.isa_kernel.proofs.Instances.{bare_entries, inst_bare, kept, in_tms_false}
use Rattle.isa_kernel.proofs.Closed.{norm_tree}
use Rattle.isa_kernel.proofs.Rules.{tree_more}
use Rattle.isa_kernel.proofs.Preserved.{derived_typed}
use Rattle.isa_terms.proofs.Typed.{type_of_typed}
use Rattle.isa_terms.specs.Typing.{HasType}
use Rattle.isa_terms.proofs.NormalForms.{norm_same}
use Rattle.isa_subgoal.specs.Premises.{implies}
use Rattle.isa_subgoal.proofs.Consequences.{From}

-- ---- instances
pub instance_implies : (n : Instance) (ps : List Tm) (c : Tm) → instance_of n (implies ps c) ≡ implies (map (instance_of n) ps) (instance_of n c)
instance_implies n [] c = refl
instance_implies n (p ∷ ps) c = ap (imp (instance_of n p)) (instance_implies n ps c)

pub instantiated_is : (n : Instance) (p : Tm) (B : List BaseEntry) → keeps n.types n.terms ≡ true → instantiated n (record { hyps = []; prop = p; base = B }) ≡ Some (record { hyps = []; prop = instance_of n p; base = B })
instantiated_is n p B k = ap (λ b. cond (b && true) (Some (record { hyps = []; prop = instance_of n p; base = B })) None) k

-- an instance of what is derived from no hypothesis
pub instance_derives : {ax : List Tm} (n : Instance) (p : Tm) → keeps n.types n.terms ≡ true → Derives ax [] (bare p) → Derives ax [] (bare (instance_of n p))
instance_derives {ax} n p k d =
    let q : Tm = inst_tm n.types n.terms p in
    let free : in_tms n.types (bare_entries n.terms) d.used ≡ false = in_tms_false n.types (bare_entries n.terms) d.used (λ t m. absurd (d.within t m)) in
    let tree : Tree ax d.used (bare q) = subst (λ r. Tree ax d.used r) (inst_bare n.types n.terms p) (derivation.Instance n.types (bare_entries n.terms) (kept n.types n.terms k) free d.tree) in
    let typed : HasType q prop = sym (type_at_bare [] q) ∙ type_of_typed (derived_typed tree) in
    let same : Tree ax [] (eq prop (bare q) (bare (norm q))) = tree_more (λ r m. absurd m) (norm_tree q prop typed) in
    record { used = d.used; tree = EqualElim same tree; within = d.within }

pub from_instance : (ax : List Tm) (n : Instance) (ps : List Tm) (q : Tm) → keeps n.types n.terms ≡ true → From ax ps q → From ax (map (instance_of n) ps) (instance_of n q)
from_instance ax n ps q k d = subst (λ p. Derives ax [] (bare p)) (instance_implies n ps q) (instance_derives n (implies ps q) k d)

-- ---- the empty instance
mutual
  pub empty_ty : (T : Ty) → inst_ty [] T ≡ T
  empty_ty (TyCon x Ts) = ap (TyCon x) (empty_tys Ts)
  empty_ty (TyFixed x) = refl
  empty_ty (TyUnknown x i) = refl

  empty_tys : (Ts : Tys) → inst_tys [] Ts ≡ Ts
  empty_tys NoTys = refl
  empty_tys (MoreTys T Ts) = λ i. MoreTys (empty_ty T i) (empty_tys Ts i)

pub empty_tm : (t : Tm) → inst_tm [] [] t ≡ t
empty_tm (Const x T) = ap (Const x) (empty_ty T)
empty_tm (Free x T) = ap (Free x) (empty_ty T)
empty_tm (Unknown x n T) = ap (Unknown x n) (empty_ty T)
empty_tm (Bound n) = refl
empty_tm (Abs x T b) = λ i. Abs x (empty_ty T i) (empty_tm b i)
empty_tm (App f a) = λ i. App (empty_tm f i) (empty_tm a i)

pub empty_instance : (t : Tm) → IsNormal t → instance_of (record { types = []; terms = [] }) t ≡ t
empty_instance t h = ap norm (empty_tm t) ∙ norm_same t h
