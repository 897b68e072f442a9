-- What the unification of types answers, as an instance.
use Rattle.std.proofs.Common.{◌≡◌, ℕ, List, [], ◌∷◌, ◌++◌, length, arith, ◌&&◌, nat_eq, cond, Some, None, unwrap_or, refl, sym, ap, ◌∙◌}
use Rattle.isa_terms.specs.Types.{Ty, Tys, TyCon, TyFixed, TyUnknown, NoTys, MoreTys}
use Rattle.isa_terms.specs.Equal.{name_eq}
use Rattle.isa_terms.specs.Instance.{Instance, find_type, inst_ty, inst_tys, set_type}
use Rattle.isa_terms.specs.declared.inst.TypeEntry.{TypeEntry}
use Rattle.isa_unify.specs.TypeUnification.{IsTypeUnifier, IsMostGeneral, Unifies, unify_typs}
use Rattle.isa_unify.specs.TypeStacks.{set_all}
use Rattle.isa_unify.proofs.TypeMatches.{find_set}
use Rattle.isa_unify.proofs.TypesUnify.{types_most_general, types_no_unifier}

pub set_all_last : (s es : List TypeEntry) (e : TypeEntry) → set_all s (es ++ e ∷ []) ≡ set_all (set_type e s) es
set_all_last s [] e = refl
set_all_last s (d ∷ es) e = ap (set_type d) (set_all_last s es e)

found_all : (es : List TypeEntry) (x : List ℕ) (i : ℕ) → find_type x i (set_all [] es) ≡ find_type x i es
found_all [] x i = refl
found_all (e ∷ es) x i = find_set e (set_all [] es) x i ∙ ap (λ o. cond (name_eq x e.name && nat_eq i e.number) (Some e.typ) o) (found_all es x i)

mutual
  inst_all : (es : List TypeEntry) (T : Ty) → inst_ty (set_all [] es) T ≡ inst_ty es T
  inst_all es (TyCon c Ts) = ap (TyCon c) (insts_all es Ts)
  inst_all es (TyFixed a) = refl
  inst_all es (TyUnknown x i) = ap (λ o. unwrap_or o (TyUnknown x i)) (found_all es x i)

  insts_all : (es : List TypeEntry) (Ts : Tys) → inst_tys (set_all [] es) Ts ≡ inst_tys es Ts
  insts_all es NoTys = refl
  insts_all es (MoreTys T Ts) = λ i. MoreTys (inst_all es T i) (insts_all es Ts i)

-- one equation on a stack
pub type_unifier : (S T : Ty) (es : List TypeEntry) → unify_typs ((S, T) ∷ []) ≡ Some es → IsTypeUnifier S T (record { types = set_all [] es; terms = [] })
type_unifier S T es e =
    let m = types_most_general ((S, T) ∷ []) es e in
    record {
      types = record {
        unifies = (inst_all es S ∙ m.unifies.0 ∙ sym (inst_all es T), tt);
        general = λ r k U. ap (inst_ty r) (inst_all es U) ∙ m.general r k U;
      };
      terms = refl;
    }

pub no_type_unifier : (S T : Ty) → unify_typs ((S, T) ∷ []) ≡ None → (r : List TypeEntry) → inst_ty r S ≡ inst_ty r T → ⊥
no_type_unifier S T e r k = types_no_unifier ((S, T) ∷ []) e r (k, tt)

-- what the loop has set when no entry is left
pub instance_made : (s : Instance) (es fs : List TypeEntry) → length es ≡ 0 → s.terms ≡ [] → set_all s.types es ≡ set_all [] fs → s ≡ record { types = set_all [] fs; terms = [] }
instance_made s [] fs l t e = λ i. record { types = e i; terms = t i }
instance_made s (x ∷ es) fs l t e = absurd (omega arith)

-- lists of equations
pub pairs_unifier : (es : List (Ty × Ty)) (q : List TypeEntry) → unify_typs es ≡ Some q → IsMostGeneral es q
pairs_unifier es q e = types_most_general es q e

pub no_pairs_unifier : (es : List (Ty × Ty)) → unify_typs es ≡ None → (r : List TypeEntry) → Unifies r es → ⊥
no_pairs_unifier es e r k = types_no_unifier es e r k
