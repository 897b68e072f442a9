-- A term fits a theory exactly where no name in it is unknown or a misfit.
use Rattle.std.proofs.Common.{◌≡◌, ℕ, nat_eq, List, [], length, Option, Some, None, Ok, Err, Result, Bool, true, false, cond, refl, ap, ◌∙◌}
use Rattle.std.specs.Prelude.{is_some, option_map}
use Rattle.std.specs.Option.{option_or}
use Rattle.std.proofs.lemmas.Bool.Decides.{Decides-eqb}
use Rattle.isa_terms.specs.Types.{Ty, Tys, TyCon, TyFixed, TyUnknown, NoTys, MoreTys, list_of}
use Rattle.isa_terms.specs.Terms.{Tm, Const, Free, Unknown, Bound, Abs, App}
use Rattle.isa_terms.specs.Equal.{ty_eq}
use Rattle.isa_terms.specs.Typing.{TypeFault, type_at}
use Rattle.isa_terms.proofs.Equal.{ty_decides}
use Rattle.isa_kernel.specs.Logic.{prop}
use Rattle.isa_kernel.specs.TypeInstances.{is_instance}
use Rattle.isa_kernel.specs.Theories.{arity_of, constant_type, axiom_prop, takes, stands_at, unknown_in_ty, unknown_in_tys, unknown_in, misfit_in_ty, misfit_in_tys, misfit_in, duplicate, no_prop}
use Rattle.isa_kernel.specs.Well.{IsInstanceOf, WellTy, WellTys, Well, IsRefusedFor}
use Rattle.isa_kernel.specs.declared.declarations.Declaration.{Declaration}
use Rattle.isa_kernel.specs.declared.declarations.TheoryFail.TheVariants as fail
use Rattle.isa_kernel.proofs.TypeInstances.{instance_found, found_instance}

or_none : {A : Type 0} (a b : Option A) → option_or a b ≡ None → (a ≡ None) × (b ≡ None)
or_none None b e = (refl, e)
or_none (Some x) b e = cc

both_none : {A : Type 0} (a b : Option A) → a ≡ None → b ≡ None → option_or a b ≡ None
both_none a b e f = ap (λ o. option_or o b) e ∙ f

con_well : (o : Option ℕ) (n : ℕ) (x : List ℕ) (u m : Option (List ℕ)) → cond (is_some o) u (Some x) ≡ None → cond (takes o n) m (Some x) ≡ None → (o ≡ Some n) × (u ≡ None) × (m ≡ None)
con_well None n x u m e f = cc
con_well (Some k) n x u m e f = go (nat_eq k n) refl f
  where
    go : (b : Bool) → nat_eq k n ≡ b → cond b m (Some x) ≡ None → (Some k ≡ Some n) × (u ≡ None) × (m ≡ None)
    go true h f = (ap Some ((Decides-eqb k n).0 h), e, f)
    go false h f = cc

well_con : (o : Option ℕ) (n : ℕ) (x : List ℕ) (u m : Option (List ℕ)) → o ≡ Some n → u ≡ None → m ≡ None → (cond (is_some o) u (Some x) ≡ None) × (cond (takes o n) m (Some x) ≡ None)
well_con o n x u m e f g = (ap (λ p. cond (is_some p) u (Some x)) e ∙ f, ap (λ p. cond (takes p n) m (Some x)) e ∙ ap (λ b. cond b m (Some x)) ((Decides-eqb n n).1 refl) ∙ g)

const_well : (o : Option Ty) (T : Ty) (x : List ℕ) (u m : Option (List ℕ)) → cond (is_some o) u (Some x) ≡ None → cond (stands_at o T) m (Some x) ≡ None → ((S : Ty) × (o ≡ Some S) × IsInstanceOf S T) × (u ≡ None) × (m ≡ None)
const_well None T x u m e f = cc
const_well (Some S) T x u m e f = go (is_instance S T) refl f
  where
    go : (b : Bool) → is_instance S T ≡ b → cond b m (Some x) ≡ None → ((R : Ty) × (Some S ≡ Some R) × IsInstanceOf R T) × (u ≡ None) × (m ≡ None)
    go true h f = ((S, refl, instance_found S T h), e, f)
    go false h f = cc

well_const : (o : Option Ty) (S T : Ty) (x : List ℕ) (u m : Option (List ℕ)) → o ≡ Some S → IsInstanceOf S T → u ≡ None → m ≡ None → (cond (is_some o) u (Some x) ≡ None) × (cond (stands_at o T) m (Some x) ≡ None)
well_const o S T x u m e i f g = (ap (λ p. cond (is_some p) u (Some x)) e ∙ f, ap (λ p. cond (stands_at p T) m (Some x)) e ∙ ap (λ b. cond b m (Some x)) (found_instance S T i.0 i.1) ∙ g)

module _ (ds : List Declaration) where
  mutual
    known_ty : (T : Ty) → unknown_in_ty ds T ≡ None → misfit_in_ty ds T ≡ None → WellTy ds T
    known_ty (TyCon x Ts) e f = let p = con_well (arity_of ds x) (length (list_of Ts)) x (unknown_in_tys ds Ts) (misfit_in_tys ds Ts) e f in (p.0, known_tys Ts p.1 p.2)
    known_ty (TyFixed x) e f = tt
    known_ty (TyUnknown x i) e f = tt

    known_tys : (Ts : Tys) → unknown_in_tys ds Ts ≡ None → misfit_in_tys ds Ts ≡ None → WellTys ds Ts
    known_tys NoTys e f = tt
    known_tys (MoreTys T Ts) e f = let p = or_none (unknown_in_ty ds T) (unknown_in_tys ds Ts) e in let q = or_none (misfit_in_ty ds T) (misfit_in_tys ds Ts) f in (known_ty T p.0 q.0, known_tys Ts p.1 q.1)

  mutual
    well_ty : (T : Ty) → WellTy ds T → (unknown_in_ty ds T ≡ None) × (misfit_in_ty ds T ≡ None)
    well_ty (TyCon x Ts) w = let p = well_tys Ts w.1 in well_con (arity_of ds x) (length (list_of Ts)) x (unknown_in_tys ds Ts) (misfit_in_tys ds Ts) w.0 p.0 p.1
    well_ty (TyFixed x) w = (refl, refl)
    well_ty (TyUnknown x i) w = (refl, refl)

    well_tys : (Ts : Tys) → WellTys ds Ts → (unknown_in_tys ds Ts ≡ None) × (misfit_in_tys ds Ts ≡ None)
    well_tys NoTys w = (refl, refl)
    well_tys (MoreTys T Ts) w =
        let p = well_ty T w.0 in let q = well_tys Ts w.1 in (both_none (unknown_in_ty ds T) (unknown_in_tys ds Ts) p.0 q.0, both_none (misfit_in_ty ds T) (misfit_in_tys ds Ts) p.1 q.1)

  known : (t : Tm) → unknown_in ds t ≡ None → misfit_in ds t ≡ None → Well ds t
  known (Const x T) e f = let p = const_well (constant_type ds x) T x (unknown_in_ty ds T) (misfit_in_ty ds T) e f in (p.0, known_ty T p.1 p.2)
  known (Free x T) e f = known_ty T e f
  known (Unknown x i T) e f = known_ty T e f
  known (Bound i) e f = tt
  known (Abs x T b) e f = let p = or_none (unknown_in_ty ds T) (unknown_in ds b) e in let q = or_none (misfit_in_ty ds T) (misfit_in ds b) f in (known_ty T p.0 q.0, known b p.1 q.1)
  known (App g a) e f = let p = or_none (unknown_in ds g) (unknown_in ds a) e in let q = or_none (misfit_in ds g) (misfit_in ds a) f in (known g p.0 q.0, known a p.1 q.1)

  well : (t : Tm) → Well ds t → (unknown_in ds t ≡ None) × (misfit_in ds t ≡ None)
  well (Const x T) w = let p = well_ty T w.1 in well_const (constant_type ds x) w.0.0 T x (unknown_in_ty ds T) (misfit_in_ty ds T) w.0.1 w.0.2 p.0 p.1
  well (Free x T) w = well_ty T w
  well (Unknown x i T) w = well_ty T w
  well (Bound i) w = (refl, refl)
  well (Abs x T b) w = let p = well_ty T w.0 in let q = well b w.1 in (both_none (unknown_in_ty ds T) (unknown_in ds b) p.0 q.0, both_none (misfit_in_ty ds T) (misfit_in ds b) p.1 q.1)
  well (App g a) w = let p = well g w.0 in let q = well a w.1 in (both_none (unknown_in ds g) (unknown_in ds a) p.0 q.0, both_none (misfit_in ds g) (misfit_in ds a) p.1 q.1)

  module _ (x : List ℕ) (p : Tm) where
    typed : (T : Ty) (b : Bool) → axiom_prop ds x ≡ None → Well ds p → type_at [] p ≡ Ok T → ty_eq T prop ≡ b → IsRefusedFor ds x p (cond b None (Some (fail.NotProp T)))
    typed T true n w e h = (n, w, e ∙ ap Ok ((ty_decides T prop).0 h))
    typed T false n w e h = (n, w, e, λ s. let t = (ty_decides T prop).1 s in cc (t, h))

    refused : (d : Option Tm) (u m : Option (List ℕ)) (r : Result Ty TypeFault) → axiom_prop ds x ≡ d → unknown_in ds p ≡ u → misfit_in ds p ≡ m → type_at [] p ≡ r
        → IsRefusedFor ds x p (option_or (duplicate x (is_some d)) (option_or (option_map fail.Unknown u) (option_or (option_map fail.Misfit m) (no_prop r))))
    refused (Some q) u m r d e f g = ((q, d), refl)
    refused None (Some y) m r d e f g = (d, λ w. let k = (well p w).0 in cc (k, e))
    refused None None (Some y) r d e f g = (d, λ w. let k = (well p w).1 in cc (k, f))
    refused None None None (Err fault) d e f g = (d, known p e f, (fault, g, refl))
    refused None None None (Ok T) d e f g = typed T (ty_eq T prop) d (known p e f) g refl

    pub refused_for : IsRefusedFor ds x p (option_or (duplicate x (is_some (axiom_prop ds x))) (option_or (option_map fail.Unknown (unknown_in ds p)) (option_or (option_map fail.Misfit (misfit_in ds p)) (no_prop (type_at [] p)))))
    refused_for = refused (axiom_prop ds x) (unknown_in ds p) (misfit_in ds p) (type_at [] p) refl refl refl refl
