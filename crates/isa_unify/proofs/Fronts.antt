-- The step of unification at an equation, and what it says of the instances that solve the state.
use Rattle.std.proofs.Common.{◌≡◌, ◌⊎◌, inl, inr, ℕ, List, [], ◌∷◌, ◌++◌, map, Bool, true, false, cond, ◌&&◌, ◌||◌, nat_eq, Option, Some, None, refl, sym, ap, ◌∙◌, subst, arith}
use Rattle.std.specs.Prelude.{option_map}
use Rattle.std.specs.Cmp.Lexicographic.{bytes_decides}
use Rattle.std.proofs.lemmas.Bool.Decides.{nat_tests}
use Rattle.isa_terms.specs.Types.{Ty}
use Rattle.isa_terms.specs.Terms.{Tm, Const, Free, Unknown, Bound, Abs, App}
use Rattle.isa_terms.specs.Equal.{name_eq}
use Rattle.isa_terms.specs.Normal.{IsNormal}
use Rattle.isa_terms.specs.Instance.{inst_ty}
use Rattle.isa_terms.specs.declared.inst.TypeEntry.{TypeEntry}
use Rattle.isa_terms.specs.declared.inst.TermEntry.{TermEntry}
use Rattle.isa_terms.specs.Typed.{Typed}
use Rattle.isa_terms.proofs.Unique.{app_typed}
use Rattle.isa_terms.proofs.Heads.{IsSpine, IsRigid, normal_spine}
use Rattle.isa_terms.proofs.Abstracting as abstracting
use Rattle.isa_terms.proofs.Abstracting.{AreDistinct, Among, AreKnown, arrow, inst_typs, inst_arrow, on_bounds_typed}
use Rattle.isa_terms.proofs.Valuations.{Values, AreFit}
use Rattle.isa_unify.specs.declared.equation.Variable.{Variable}
use Rattle.isa_unify.specs.declared.equation.Equation.{Equation}
use Rattle.isa_unify.specs.declared.progress.Parts.{Parts}
use Rattle.isa_unify.specs.declared.progress.Parts.TheVariants.{Flexible, Clash, Into, Heads}
use Rattle.isa_unify.specs.declared.progress.State.{State}
use Rattle.isa_unify.specs.TypeUnification.{IsMostGeneral, unify_typs}
use Rattle.isa_unify.specs.Spines.{head_of, args_of, distinct_bounds}
use Rattle.isa_unify.specs.Unification.{types_in, paired, inner_parts, typed_parts, meet, opened, parts_at, with_first, solve, solve_same, solve_two, solve_unknowns, on_pattern, flexible_step, after_types, front_step, unify_step, retyped_equation, retyped_state}
use Rattle.isa_unify.proofs.TypesUnify.{types_most_general, types_no_unifier}
use Rattle.isa_unify.proofs.Unknowns.{Key, key, key_eq, key_eq-true, key_eq_self, stands, either_true, both_true, and_true, or_left, or_right}
use Rattle.isa_unify.proofs.Measure.{occurs, AreParts, meet_paired, parts_fall}
use Rattle.isa_unify.proofs.Meaning.{IsAtom, head_atom, head_rigid, EachHolds, PartsHold, parts_hold}
use Rattle.isa_unify.proofs.Backward.{SameType, IsDecided, parts_back}
use Rattle.isa_unify.proofs.Ready.{AllTyped, all_normal_append, all_typed_append, PartsTyped, parts_typed, parts_normal, abs_parts_typed, open_typed, swapped}
use Rattle.isa_unify.proofs.Changing.{Sig, KnownKey, Ready, AllSided, typed_sided}
use Rattle.isa_unify.proofs.Outcomes.{Outcome, finished, retyped_outcome, retyped_holds, retyped_fit, retyped_values, retyped_sig, entries_nothing}
use Rattle.isa_unify.proofs.TypeInstances.{inst_nothing}
use Rattle.isa_unify.proofs.Deciding.{unknown, applied_is, AreBounds, distinct_bounds_are}
use Rattle.isa_unify.proofs.Solving.{front_left, front_right, stands_on_bounds}
use Rattle.isa_unify.proofs.Leading.{Leads, retyped_ready, retyped_all_typed}
use Rattle.isa_unify.proofs.Stepping.{StepView, rest_known, solve_view, same_view, two_view}

-- a term that is well typed
pub record IsTypedIn (G : List Ty) (t : Tm) : Type 0 where
  pub typ : Ty
  pub typed : Typed G t typ

-- ---- flexible equations
abbrev pub IsUnknown : Tm → Type 0
IsUnknown (Unknown x i T) = Unit {0}
IsUnknown t = ⊥

not_named : (S T : Ty) (b : Bool) (o : Option (List Equation)) → cond b (typed_parts S T o) Clash ≡ Flexible → ⊥
not_named S T true None e = cc
not_named S T true (Some es) e = cc
not_named S T false o e = cc

not_numbered : (b : Bool) (o : Option (List Equation)) → cond b (inner_parts o) Clash ≡ Flexible → ⊥
not_numbered true None e = cc
not_numbered true (Some es) e = cc
not_numbered false o e = cc

meet_flexible : (bs : List Variable) (g : Tm) (ts : List Tm) (h : Tm) (us : List Tm) → IsAtom g → IsAtom h → meet bs g ts h us ≡ Flexible → IsUnknown g ⊎ IsUnknown h
meet_flexible bs (Const x S) ts (Const y T) us i j e = absurd (not_named S T (name_eq x y) (paired bs ts us) e)
meet_flexible bs (Free x S) ts (Free y T) us i j e = absurd (not_named S T (name_eq x y) (paired bs ts us) e)
meet_flexible bs (Bound m) ts (Bound n) us i j e = absurd (not_numbered (nat_eq m n) (paired bs ts us) e)
meet_flexible bs (Const x S) ts (Free y T) us i j e = absurd (cc)
meet_flexible bs (Const x S) ts (Bound n) us i j e = absurd (cc)
meet_flexible bs (Free x S) ts (Const y T) us i j e = absurd (cc)
meet_flexible bs (Free x S) ts (Bound n) us i j e = absurd (cc)
meet_flexible bs (Bound m) ts (Const y T) us i j e = absurd (cc)
meet_flexible bs (Bound m) ts (Free y T) us i j e = absurd (cc)
meet_flexible bs (Unknown x n S) ts h us i j e = inl tt
meet_flexible bs (Const x S) ts (Unknown y m T) us i j e = inr tt
meet_flexible bs (Free x S) ts (Unknown y m T) us i j e = inr tt
meet_flexible bs (Bound n) ts (Unknown y m T) us i j e = inr tt
meet_flexible bs (Const x S) ts (Abs y T b) us i j e = absurd j
meet_flexible bs (Const x S) ts (App f a) us i j e = absurd j
meet_flexible bs (Free x S) ts (Abs y T b) us i j e = absurd j
meet_flexible bs (Free x S) ts (App f a) us i j e = absurd j
meet_flexible bs (Bound n) ts (Abs y T b) us i j e = absurd j
meet_flexible bs (Bound n) ts (App f a) us i j e = absurd j
meet_flexible bs (Abs x S b) ts h us i j e = absurd i
meet_flexible bs (App f a) ts h us i j e = absurd i

pub record FlexCase (t u : Tm) : Type 0 where
  pub left : IsSpine t
  pub right : IsSpine u
  pub heads : IsUnknown (head_of t) ⊎ IsUnknown (head_of u)

spines_flexible : (bs : List Variable) (t u : Tm) → IsSpine t → IsSpine u → meet bs (head_of t) (args_of t) (head_of u) (args_of u) ≡ Flexible → FlexCase t u
spines_flexible bs t u h k e = record { left = h; right = k; heads = meet_flexible bs (head_of t) (args_of t) (head_of u) (args_of u) (head_atom t h) (head_atom u k) e }

-- ---- the sides of parts are well typed
abbrev pub AreTyped : List Ty → List Tm → Type 0
AreTyped G [] = Unit {0}
AreTyped G (t ∷ ts) = IsTypedIn G t × AreTyped G ts

typed_append : (G : List Ty) (ts us : List Tm) → AreTyped G ts → AreTyped G us → AreTyped G (ts ++ us)
typed_append G [] us h k = k
typed_append G (t ∷ ts) us h k = (h.0, typed_append G ts us h.1 k)

args_typed : (G : List Ty) (t : Tm) (U : Ty) → Typed G t U → AreTyped G (args_of t)
args_typed G (App f a) U d = let p = app_typed d in typed_append G (args_of f) (a ∷ []) (args_typed G f _ p.1) (record { typ = p.0; typed = p.2 }, tt)
args_typed G (Const x T) U d = tt
args_typed G (Free x T) U d = tt
args_typed G (Unknown x i T) U d = tt
args_typed G (Bound n) U d = tt
args_typed G (Abs x T b) U d = tt

paired_sided : (bs : List Variable) (ts us : List Tm) (es : List Equation) → AreTyped (types_in bs) ts → AreTyped (types_in bs) us → paired bs ts us ≡ Some es → AllSided es
paired_sided bs [] [] es h k e = let q : [] ≡ es = cc in subst AllSided q tt
paired_sided bs (t ∷ ts) (u ∷ us) es h k e = go (paired bs ts us) refl e (λ fs p. paired_sided bs ts us fs h.1 k.1 p)
  where
    go : (o : Option (List Equation)) → paired bs ts us ≡ o → option_map (λ fs. record { binders = bs; left = t; right = u } ∷ fs) o ≡ Some es → ((fs : List Equation) → paired bs ts us ≡ Some fs → AllSided fs) → AllSided es
    go None p l ih = absurd (cc)
    go (Some fs) p l ih =
        let q : record { binders = bs; left = t; right = u } ∷ fs ≡ es = cc in
        subst AllSided q (record { left_type = h.0.typ; right_type = k.0.typ; left = h.0.typed; right = k.0.typed }, ih fs p)
paired_sided bs [] (u ∷ us) es h k e = absurd (cc)
paired_sided bs (t ∷ ts) [] es h k e = absurd (cc)

meet_sided : (bs : List Variable) (t u : Tm) (es : List Equation) → SameType bs t u → AreParts (meet bs (head_of t) (args_of t) (head_of u) (args_of u)) es → AllSided es
meet_sided bs t u es s p = paired_sided bs (args_of t) (args_of u) es (args_typed (types_in bs) t s.typ s.left) (args_typed (types_in bs) u s.typ s.right) (meet_paired bs (head_of t) (args_of t) (head_of u) (args_of u) es p)

one_sided : (es fs : List Equation) → AllTyped fs → fs ≡ es → AllSided es
one_sided es fs h e = subst AllSided e (typed_sided fs h)

pub parts_sided : (bs : List Variable) (t u : Tm) (es : List Equation) → SameType bs t u → AreParts (parts_at bs t u) es → AllSided es
unfolding parts_at
parts_sided bs (Abs x1 T1 b1) (Abs x2 T2 b2) es s p = one_sided es (record { binders = record { name = x1; typ = T1 } ∷ bs; left = b1; right = b2 } ∷ []) (abs_parts_typed bs x1 x2 T1 T2 b1 b2 s) p
parts_sided bs (Abs x1 T1 b1) (Const x2 T2) es s p = one_sided es (record { binders = record { name = x1; typ = T1 } ∷ bs; left = b1; right = opened (Const x2 T2) } ∷ []) (open_typed bs x1 T1 b1 (Const x2 T2) s, tt) p
parts_sided bs (Abs x1 T1 b1) (Free x2 T2) es s p = one_sided es (record { binders = record { name = x1; typ = T1 } ∷ bs; left = b1; right = opened (Free x2 T2) } ∷ []) (open_typed bs x1 T1 b1 (Free x2 T2) s, tt) p
parts_sided bs (Abs x1 T1 b1) (Unknown x2 n2 T2) es s p = one_sided es (record { binders = record { name = x1; typ = T1 } ∷ bs; left = b1; right = opened (Unknown x2 n2 T2) } ∷ []) (open_typed bs x1 T1 b1 (Unknown x2 n2 T2) s, tt) p
parts_sided bs (Abs x1 T1 b1) (Bound n2) es s p = one_sided es (record { binders = record { name = x1; typ = T1 } ∷ bs; left = b1; right = opened (Bound n2) } ∷ []) (open_typed bs x1 T1 b1 (Bound n2) s, tt) p
parts_sided bs (Abs x1 T1 b1) (App f2 a2) es s p = one_sided es (record { binders = record { name = x1; typ = T1 } ∷ bs; left = b1; right = opened (App f2 a2) } ∷ []) (open_typed bs x1 T1 b1 (App f2 a2) s, tt) p
parts_sided bs (Const x1 T1) (Abs x2 T2 b2) es s p = one_sided es (record { binders = record { name = x2; typ = T2 } ∷ bs; left = opened (Const x1 T1); right = b2 } ∷ []) (swapped (record { name = x2; typ = T2 } ∷ bs) b2 (opened (Const x1 T1)) (open_typed bs x2 T2 b2 (Const x1 T1) (swapped bs (Const x1 T1) (Abs x2 T2 b2) s)), tt) p
parts_sided bs (Const x1 T1) (Const x2 T2) es s p = meet_sided bs (Const x1 T1) (Const x2 T2) es s p
parts_sided bs (Const x1 T1) (Free x2 T2) es s p = meet_sided bs (Const x1 T1) (Free x2 T2) es s p
parts_sided bs (Const x1 T1) (Unknown x2 n2 T2) es s p = meet_sided bs (Const x1 T1) (Unknown x2 n2 T2) es s p
parts_sided bs (Const x1 T1) (Bound n2) es s p = meet_sided bs (Const x1 T1) (Bound n2) es s p
parts_sided bs (Const x1 T1) (App f2 a2) es s p = meet_sided bs (Const x1 T1) (App f2 a2) es s p
parts_sided bs (Free x1 T1) (Abs x2 T2 b2) es s p = one_sided es (record { binders = record { name = x2; typ = T2 } ∷ bs; left = opened (Free x1 T1); right = b2 } ∷ []) (swapped (record { name = x2; typ = T2 } ∷ bs) b2 (opened (Free x1 T1)) (open_typed bs x2 T2 b2 (Free x1 T1) (swapped bs (Free x1 T1) (Abs x2 T2 b2) s)), tt) p
parts_sided bs (Free x1 T1) (Const x2 T2) es s p = meet_sided bs (Free x1 T1) (Const x2 T2) es s p
parts_sided bs (Free x1 T1) (Free x2 T2) es s p = meet_sided bs (Free x1 T1) (Free x2 T2) es s p
parts_sided bs (Free x1 T1) (Unknown x2 n2 T2) es s p = meet_sided bs (Free x1 T1) (Unknown x2 n2 T2) es s p
parts_sided bs (Free x1 T1) (Bound n2) es s p = meet_sided bs (Free x1 T1) (Bound n2) es s p
parts_sided bs (Free x1 T1) (App f2 a2) es s p = meet_sided bs (Free x1 T1) (App f2 a2) es s p
parts_sided bs (Unknown x1 n1 T1) (Abs x2 T2 b2) es s p = one_sided es (record { binders = record { name = x2; typ = T2 } ∷ bs; left = opened (Unknown x1 n1 T1); right = b2 } ∷ []) (swapped (record { name = x2; typ = T2 } ∷ bs) b2 (opened (Unknown x1 n1 T1)) (open_typed bs x2 T2 b2 (Unknown x1 n1 T1) (swapped bs (Unknown x1 n1 T1) (Abs x2 T2 b2) s)), tt) p
parts_sided bs (Unknown x1 n1 T1) (Const x2 T2) es s p = meet_sided bs (Unknown x1 n1 T1) (Const x2 T2) es s p
parts_sided bs (Unknown x1 n1 T1) (Free x2 T2) es s p = meet_sided bs (Unknown x1 n1 T1) (Free x2 T2) es s p
parts_sided bs (Unknown x1 n1 T1) (Unknown x2 n2 T2) es s p = meet_sided bs (Unknown x1 n1 T1) (Unknown x2 n2 T2) es s p
parts_sided bs (Unknown x1 n1 T1) (Bound n2) es s p = meet_sided bs (Unknown x1 n1 T1) (Bound n2) es s p
parts_sided bs (Unknown x1 n1 T1) (App f2 a2) es s p = meet_sided bs (Unknown x1 n1 T1) (App f2 a2) es s p
parts_sided bs (Bound n1) (Abs x2 T2 b2) es s p = one_sided es (record { binders = record { name = x2; typ = T2 } ∷ bs; left = opened (Bound n1); right = b2 } ∷ []) (swapped (record { name = x2; typ = T2 } ∷ bs) b2 (opened (Bound n1)) (open_typed bs x2 T2 b2 (Bound n1) (swapped bs (Bound n1) (Abs x2 T2 b2) s)), tt) p
parts_sided bs (Bound n1) (Const x2 T2) es s p = meet_sided bs (Bound n1) (Const x2 T2) es s p
parts_sided bs (Bound n1) (Free x2 T2) es s p = meet_sided bs (Bound n1) (Free x2 T2) es s p
parts_sided bs (Bound n1) (Unknown x2 n2 T2) es s p = meet_sided bs (Bound n1) (Unknown x2 n2 T2) es s p
parts_sided bs (Bound n1) (Bound n2) es s p = meet_sided bs (Bound n1) (Bound n2) es s p
parts_sided bs (Bound n1) (App f2 a2) es s p = meet_sided bs (Bound n1) (App f2 a2) es s p
parts_sided bs (App f1 a1) (Abs x2 T2 b2) es s p = one_sided es (record { binders = record { name = x2; typ = T2 } ∷ bs; left = opened (App f1 a1); right = b2 } ∷ []) (swapped (record { name = x2; typ = T2 } ∷ bs) b2 (opened (App f1 a1)) (open_typed bs x2 T2 b2 (App f1 a1) (swapped bs (App f1 a1) (Abs x2 T2 b2) s)), tt) p
parts_sided bs (App f1 a1) (Const x2 T2) es s p = meet_sided bs (App f1 a1) (Const x2 T2) es s p
parts_sided bs (App f1 a1) (Free x2 T2) es s p = meet_sided bs (App f1 a1) (Free x2 T2) es s p
parts_sided bs (App f1 a1) (Unknown x2 n2 T2) es s p = meet_sided bs (App f1 a1) (Unknown x2 n2 T2) es s p
parts_sided bs (App f1 a1) (Bound n2) es s p = meet_sided bs (App f1 a1) (Bound n2) es s p
parts_sided bs (App f1 a1) (App f2 a2) es s p = meet_sided bs (App f1 a1) (App f2 a2) es s p

pub flexible_parts : (bs : List Variable) (t u : Tm) → IsNormal t → IsNormal u → parts_at bs t u ≡ Flexible → FlexCase t u
unfolding parts_at
flexible_parts bs (Abs x1 T1 b1) (Abs x2 T2 b2) n m e = absurd (cc)
flexible_parts bs (Abs x1 T1 b1) (Const x2 T2) n m e = absurd (cc)
flexible_parts bs (Abs x1 T1 b1) (Free x2 T2) n m e = absurd (cc)
flexible_parts bs (Abs x1 T1 b1) (Unknown x2 n2 T2) n m e = absurd (cc)
flexible_parts bs (Abs x1 T1 b1) (Bound n2) n m e = absurd (cc)
flexible_parts bs (Abs x1 T1 b1) (App f2 a2) n m e = absurd (cc)
flexible_parts bs (Const x1 T1) (Abs x2 T2 b2) n m e = absurd (cc)
flexible_parts bs (Const x1 T1) (Const x2 T2) n m e = spines_flexible bs (Const x1 T1) (Const x2 T2) (normal_spine (Const x1 T1) tt n) (normal_spine (Const x2 T2) tt m) e
flexible_parts bs (Const x1 T1) (Free x2 T2) n m e = spines_flexible bs (Const x1 T1) (Free x2 T2) (normal_spine (Const x1 T1) tt n) (normal_spine (Free x2 T2) tt m) e
flexible_parts bs (Const x1 T1) (Unknown x2 n2 T2) n m e = spines_flexible bs (Const x1 T1) (Unknown x2 n2 T2) (normal_spine (Const x1 T1) tt n) (normal_spine (Unknown x2 n2 T2) tt m) e
flexible_parts bs (Const x1 T1) (Bound n2) n m e = spines_flexible bs (Const x1 T1) (Bound n2) (normal_spine (Const x1 T1) tt n) (normal_spine (Bound n2) tt m) e
flexible_parts bs (Const x1 T1) (App f2 a2) n m e = spines_flexible bs (Const x1 T1) (App f2 a2) (normal_spine (Const x1 T1) tt n) (normal_spine (App f2 a2) tt m) e
flexible_parts bs (Free x1 T1) (Abs x2 T2 b2) n m e = absurd (cc)
flexible_parts bs (Free x1 T1) (Const x2 T2) n m e = spines_flexible bs (Free x1 T1) (Const x2 T2) (normal_spine (Free x1 T1) tt n) (normal_spine (Const x2 T2) tt m) e
flexible_parts bs (Free x1 T1) (Free x2 T2) n m e = spines_flexible bs (Free x1 T1) (Free x2 T2) (normal_spine (Free x1 T1) tt n) (normal_spine (Free x2 T2) tt m) e
flexible_parts bs (Free x1 T1) (Unknown x2 n2 T2) n m e = spines_flexible bs (Free x1 T1) (Unknown x2 n2 T2) (normal_spine (Free x1 T1) tt n) (normal_spine (Unknown x2 n2 T2) tt m) e
flexible_parts bs (Free x1 T1) (Bound n2) n m e = spines_flexible bs (Free x1 T1) (Bound n2) (normal_spine (Free x1 T1) tt n) (normal_spine (Bound n2) tt m) e
flexible_parts bs (Free x1 T1) (App f2 a2) n m e = spines_flexible bs (Free x1 T1) (App f2 a2) (normal_spine (Free x1 T1) tt n) (normal_spine (App f2 a2) tt m) e
flexible_parts bs (Unknown x1 n1 T1) (Abs x2 T2 b2) n m e = absurd (cc)
flexible_parts bs (Unknown x1 n1 T1) (Const x2 T2) n m e = spines_flexible bs (Unknown x1 n1 T1) (Const x2 T2) (normal_spine (Unknown x1 n1 T1) tt n) (normal_spine (Const x2 T2) tt m) e
flexible_parts bs (Unknown x1 n1 T1) (Free x2 T2) n m e = spines_flexible bs (Unknown x1 n1 T1) (Free x2 T2) (normal_spine (Unknown x1 n1 T1) tt n) (normal_spine (Free x2 T2) tt m) e
flexible_parts bs (Unknown x1 n1 T1) (Unknown x2 n2 T2) n m e = spines_flexible bs (Unknown x1 n1 T1) (Unknown x2 n2 T2) (normal_spine (Unknown x1 n1 T1) tt n) (normal_spine (Unknown x2 n2 T2) tt m) e
flexible_parts bs (Unknown x1 n1 T1) (Bound n2) n m e = spines_flexible bs (Unknown x1 n1 T1) (Bound n2) (normal_spine (Unknown x1 n1 T1) tt n) (normal_spine (Bound n2) tt m) e
flexible_parts bs (Unknown x1 n1 T1) (App f2 a2) n m e = spines_flexible bs (Unknown x1 n1 T1) (App f2 a2) (normal_spine (Unknown x1 n1 T1) tt n) (normal_spine (App f2 a2) tt m) e
flexible_parts bs (Bound n1) (Abs x2 T2 b2) n m e = absurd (cc)
flexible_parts bs (Bound n1) (Const x2 T2) n m e = spines_flexible bs (Bound n1) (Const x2 T2) (normal_spine (Bound n1) tt n) (normal_spine (Const x2 T2) tt m) e
flexible_parts bs (Bound n1) (Free x2 T2) n m e = spines_flexible bs (Bound n1) (Free x2 T2) (normal_spine (Bound n1) tt n) (normal_spine (Free x2 T2) tt m) e
flexible_parts bs (Bound n1) (Unknown x2 n2 T2) n m e = spines_flexible bs (Bound n1) (Unknown x2 n2 T2) (normal_spine (Bound n1) tt n) (normal_spine (Unknown x2 n2 T2) tt m) e
flexible_parts bs (Bound n1) (Bound n2) n m e = spines_flexible bs (Bound n1) (Bound n2) (normal_spine (Bound n1) tt n) (normal_spine (Bound n2) tt m) e
flexible_parts bs (Bound n1) (App f2 a2) n m e = spines_flexible bs (Bound n1) (App f2 a2) (normal_spine (Bound n1) tt n) (normal_spine (App f2 a2) tt m) e
flexible_parts bs (App f1 a1) (Abs x2 T2 b2) n m e = absurd (cc)
flexible_parts bs (App f1 a1) (Const x2 T2) n m e = spines_flexible bs (App f1 a1) (Const x2 T2) (normal_spine (App f1 a1) tt n) (normal_spine (Const x2 T2) tt m) e
flexible_parts bs (App f1 a1) (Free x2 T2) n m e = spines_flexible bs (App f1 a1) (Free x2 T2) (normal_spine (App f1 a1) tt n) (normal_spine (Free x2 T2) tt m) e
flexible_parts bs (App f1 a1) (Unknown x2 n2 T2) n m e = spines_flexible bs (App f1 a1) (Unknown x2 n2 T2) (normal_spine (App f1 a1) tt n) (normal_spine (Unknown x2 n2 T2) tt m) e
flexible_parts bs (App f1 a1) (Bound n2) n m e = spines_flexible bs (App f1 a1) (Bound n2) (normal_spine (App f1 a1) tt n) (normal_spine (Bound n2) tt m) e
flexible_parts bs (App f1 a1) (App f2 a2) n m e = spines_flexible bs (App f1 a1) (App f2 a2) (normal_spine (App f1 a1) tt n) (normal_spine (App f2 a2) tt m) e

-- ---- the step at a flexible equation
module _ (sig : Sig) (st : State) (e : Equation) (ready : Ready sig (with_first e st)) where
  abbrev Whole : State
  Whole = with_first e st

  left_known : (u : Key) (xs : List ℕ) → e.left ≡ abstracting.on_bounds (unknown u) xs → KnownKey sig st.next u
  left_known u xs is = ready.known u (or_left (stands u e.left) (stands u e.right || occurs u st.equations) (ap (stands u) is ∙ stands_on_bounds u (unknown u) xs (key_eq_self u)))

  right_known : (u : Key) (xs : List ℕ) → e.right ≡ abstracting.on_bounds (unknown u) xs → KnownKey sig st.next u
  right_known u xs is = ready.known u (or_right (stands u e.left) (stands u e.right || occurs u st.equations) (or_left (stands u e.right) (occurs u st.equations) (ap (stands u) is ∙ stands_on_bounds u (unknown u) xs (key_eq_self u))))

  is_applied : (t : Tm) (u : Key) (xs : List ℕ) → head_of t ≡ unknown u → args_of t ≡ map Bound xs → t ≡ abstracting.on_bounds (unknown u) xs
  is_applied t u xs h a = applied_is t xs a ∙ ap (λ g. abstracting.on_bounds g xs) h

  left_view : (u : Key) → head_of e.left ≡ unknown u → IsRigid e.right → StepView sig Whole (on_pattern (distinct_bounds (args_of e.left)) (λ xs. solve st e u.name u.number u.typ xs e.right))
  left_view u h rigid = go (distinct_bounds (args_of e.left)) refl
    where
      go : (o : Option (List ℕ)) → distinct_bounds (args_of e.left) ≡ o → StepView sig (with_first e st) (on_pattern o (λ xs. solve st e u.name u.number u.typ xs e.right))
      go None p = tt
      go (Some xs) p =
          let b = distinct_bounds_are (args_of e.left) xs p in
          solve_view sig st e ready u xs e.right (front_left sig st e ready u xs (is_applied e.left u xs h b.are) b.distinct) rigid

  right_view : (u : Key) → head_of e.right ≡ unknown u → IsRigid e.left → StepView sig Whole (on_pattern (distinct_bounds (args_of e.right)) (λ ys. solve st e u.name u.number u.typ ys e.left))
  right_view u h rigid = go (distinct_bounds (args_of e.right)) refl
    where
      go : (o : Option (List ℕ)) → distinct_bounds (args_of e.right) ≡ o → StepView sig (with_first e st) (on_pattern o (λ ys. solve st e u.name u.number u.typ ys e.left))
      go None p = tt
      go (Some ys) p =
          let b = distinct_bounds_are (args_of e.right) ys p in
          solve_view sig st e ready u ys e.left (front_right sig st e ready u ys (is_applied e.right u ys h b.are) b.distinct) rigid

  pair_view : (u : Key) (xs : List ℕ) (w : Key) (ys : List ℕ) → e.left ≡ abstracting.on_bounds (unknown u) xs → AreDistinct xs → e.right ≡ abstracting.on_bounds (unknown w) ys → AreDistinct ys → StepView sig Whole (solve_unknowns st e u.name u.number u.typ xs w.name w.number w.typ ys)
  pair_view u xs w ys l dx r dy = go (name_eq u.name w.name && nat_eq u.number w.number) refl
    where
      s : SameType e.binders e.left e.right
      s = ready.typed.0

      left : Typed (types_in e.binders) (abstracting.on_bounds (unknown u) xs) s.typ
      left = subst (λ t. Typed (types_in e.binders) t s.typ) l s.left

      right : Typed (types_in e.binders) (abstracting.on_bounds (unknown w) ys) s.typ
      right = subst (λ t. Typed (types_in e.binders) t s.typ) r s.right

      go : (b : Bool) → (name_eq u.name w.name && nat_eq u.number w.number) ≡ b → StepView sig (with_first e st) (cond b (solve_same st e u.name u.number u.typ xs ys) (solve_two st e u.name u.number u.typ xs w.name w.number w.typ ys))
      go true p =
          let c = both_true (name_eq u.name w.name) (nat_eq u.number w.number) p in
          let n : u.name ≡ w.name = (bytes_decides u.name w.name).0 c.0 in
          let m : u.number ≡ w.number = grind (arith, nat_tests, c.1) in
          let t : u.typ ≡ w.typ = (left_known u xs l).0 ∙ (λ i. sig (n i) (m i)) ∙ sym (right_known w ys r).0 in
          let k : w ≡ u = λ i. record { name = sym n i; number = sym m i; typ = sym t i } in
          same_view sig st e ready u xs ys (record {
            typ = s.typ;
            left_is = l;
            right_is = subst (λ x. e.right ≡ abstracting.on_bounds (unknown x) ys) k r;
            left = left;
            right = subst (λ x. Typed (types_in e.binders) (abstracting.on_bounds (unknown x) ys) s.typ) k right;
            left_distinct = dx;
            right_distinct = dy;
          })
      go false p = two_view sig st e ready u xs w ys (record {
        typ = s.typ;
        left_is = l;
        right_is = r;
        left = left;
        right = right;
        left_distinct = dx;
        right_distinct = dy;
        other = apart (key_eq w u) refl;
      })
        where
          apart : (b : Bool) → key_eq w u ≡ b → key_eq w u ≡ false
          apart false q = q
          apart true q =
              let k = key_eq-true w u q in
              let n : name_eq u.name w.name ≡ true = (bytes_decides u.name w.name).1 (λ i. (sym k i).name) in
              let z : u.number ≡ w.number = λ i. (sym k i).number in
              let m : nat_eq u.number w.number ≡ true = grind (arith, nat_tests) in
              let b = and_true (name_eq u.name w.name) (nat_eq u.number w.number) n m in
              absurd (cc)

  unknowns_view : (u w : Key) → head_of e.left ≡ unknown u → head_of e.right ≡ unknown w → StepView sig Whole (on_pattern (distinct_bounds (args_of e.left)) (λ xs. on_pattern (distinct_bounds (args_of e.right)) (λ ys. solve_unknowns st e u.name u.number u.typ xs w.name w.number w.typ ys)))
  unknowns_view u w h k = go (distinct_bounds (args_of e.left)) refl
    where
      inner : (xs : List ℕ) → AreBounds (args_of e.left) xs → (o : Option (List ℕ)) → distinct_bounds (args_of e.right) ≡ o → StepView sig (with_first e st) (on_pattern o (λ ys. solve_unknowns st e u.name u.number u.typ xs w.name w.number w.typ ys))
      inner xs b None p = tt
      inner xs b (Some ys) p =
          let c = distinct_bounds_are (args_of e.right) ys p in
          pair_view u xs w ys (is_applied e.left u xs h b.are) b.distinct (is_applied e.right w ys k c.are) c.distinct

      go : (o : Option (List ℕ)) → distinct_bounds (args_of e.left) ≡ o → StepView sig (with_first e st) (on_pattern o (λ xs. on_pattern (distinct_bounds (args_of e.right)) (λ ys. solve_unknowns st e u.name u.number u.typ xs w.name w.number w.typ ys)))
      go None p = tt
      go (Some xs) p = inner xs (distinct_bounds_are (args_of e.left) xs p) (distinct_bounds (args_of e.right)) refl

  flexible_view : FlexCase e.left e.right → StepView sig Whole (flexible_step st e (head_of e.left) (head_of e.right))
  flexible_view c = go (head_of e.left) (head_of e.right) refl refl (head_atom e.left c.left) (head_atom e.right c.right) c.heads
    where
      right_rigid : (h : Tm) → head_of e.right ≡ h → IsRigid h → IsRigid e.right
      right_rigid h p k = head_rigid e.right c.right (subst IsRigid (sym p) k)

      left_rigid : (h : Tm) → head_of e.left ≡ h → IsRigid h → IsRigid e.left
      left_rigid h p k = head_rigid e.left c.left (subst IsRigid (sym p) k)

      go : (g h : Tm) → head_of e.left ≡ g → head_of e.right ≡ h → IsAtom g → IsAtom h → IsUnknown g ⊎ IsUnknown h → StepView sig (with_first e st) (flexible_step st e g h)
      go (Unknown f k S) (Unknown g i T) p q a b o = unknowns_view (key f k S) (key g i T) p q
      go (Unknown f k S) (Const y T) p q a b o = left_view (key f k S) p (right_rigid (Const y T) q tt)
      go (Unknown f k S) (Free y T) p q a b o = left_view (key f k S) p (right_rigid (Free y T) q tt)
      go (Unknown f k S) (Bound n) p q a b o = left_view (key f k S) p (right_rigid (Bound n) q tt)
      go (Unknown f k S) (Abs y T c) p q a b o = absurd b
      go (Unknown f k S) (App y c) p q a b o = absurd b
      go (Const y T) (Unknown g i U) p q a b o = right_view (key g i U) q (left_rigid (Const y T) p tt)
      go (Free y T) (Unknown g i U) p q a b o = right_view (key g i U) q (left_rigid (Free y T) p tt)
      go (Bound n) (Unknown g i U) p q a b o = right_view (key g i U) q (left_rigid (Bound n) p tt)
      go (Abs y T c) h p q a b o = absurd a
      go (App y c) h p q a b o = absurd a
      go (Const x S) (Const y T) p q a b (inl o) = absurd o
      go (Const x S) (Const y T) p q a b (inr o) = absurd o
      go (Const x S) (Free y T) p q a b (inl o) = absurd o
      go (Const x S) (Free y T) p q a b (inr o) = absurd o
      go (Const x S) (Bound n) p q a b (inl o) = absurd o
      go (Const x S) (Bound n) p q a b (inr o) = absurd o
      go (Const x S) (Abs y T c) p q a b o = absurd b
      go (Const x S) (App y c) p q a b o = absurd b
      go (Free x S) (Const y T) p q a b (inl o) = absurd o
      go (Free x S) (Const y T) p q a b (inr o) = absurd o
      go (Free x S) (Free y T) p q a b (inl o) = absurd o
      go (Free x S) (Free y T) p q a b (inr o) = absurd o
      go (Free x S) (Bound n) p q a b (inl o) = absurd o
      go (Free x S) (Bound n) p q a b (inr o) = absurd o
      go (Free x S) (Abs y T c) p q a b o = absurd b
      go (Free x S) (App y c) p q a b o = absurd b
      go (Bound m) (Const y T) p q a b (inl o) = absurd o
      go (Bound m) (Const y T) p q a b (inr o) = absurd o
      go (Bound m) (Free y T) p q a b (inl o) = absurd o
      go (Bound m) (Free y T) p q a b (inr o) = absurd o
      go (Bound m) (Bound n) p q a b (inl o) = absurd o
      go (Bound m) (Bound n) p q a b (inr o) = absurd o
      go (Bound m) (Abs y T c) p q a b o = absurd b
      go (Bound m) (App y c) p q a b o = absurd b

  -- ---- an equation that falls into parts
  hold_there : (r : List TypeEntry) (v : Values) → AreFit r v → EachHolds r v (e ∷ st.equations) → (p : Parts) → parts_at e.binders e.left e.right ≡ p → PartsHold r v p
  hold_there r v f h p q = subst (PartsHold r v) q (parts_hold r v f e.binders e.left e.right ready.normal.0.0 ready.normal.0.1 h.0)

  hold_append : (r : List TypeEntry) (v : Values) (es fs : List Equation) → EachHolds r v es → EachHolds r v fs → EachHolds r v (es ++ fs)
  hold_append r v [] fs h k = k
  hold_append r v (x ∷ es) fs h k = (h.0, hold_append r v es fs h.1 k)

  hold_split : (r : List TypeEntry) (v : Values) (es fs : List Equation) → EachHolds r v (es ++ fs) → EachHolds r v es × EachHolds r v fs
  hold_split r v [] fs h = (tt, h)
  hold_split r v (x ∷ es) fs h = let p = hold_split r v es fs h.1 in ((h.0, p.0), p.1)

  sided_append : (es fs : List Equation) → AllSided es → AllSided fs → AllSided (es ++ fs)
  sided_append [] fs h k = k
  sided_append (x ∷ es) fs h k = (h.0, sided_append es fs h.1 k)

  occurs_append : (k : Key) (es fs : List Equation) → occurs k (es ++ fs) ≡ true → (occurs k es ≡ true) ⊎ (occurs k fs ≡ true)
  occurs_append k [] fs h = inr h
  occurs_append k (x ∷ es) fs h = go (either_true (stands k x.left) (stands k x.right || occurs k (es ++ fs)) h) (λ g. occurs_append k es fs g)
    where
      second : (stands k x.right ≡ true) ⊎ (occurs k (es ++ fs) ≡ true) → (occurs k (es ++ fs) ≡ true → (occurs k es ≡ true) ⊎ (occurs k fs ≡ true)) → (occurs k (x ∷ es) ≡ true) ⊎ (occurs k fs ≡ true)
      second (inl d) ih = inl (or_right (stands k x.left) (stands k x.right || occurs k es) (or_left (stands k x.right) (occurs k es) d))
      second (inr d) ih = third (ih d)
        where
          third : (occurs k es ≡ true) ⊎ (occurs k fs ≡ true) → (occurs k (x ∷ es) ≡ true) ⊎ (occurs k fs ≡ true)
          third (inl c) = inl (or_right (stands k x.left) (stands k x.right || occurs k es) (or_right (stands k x.right) (occurs k es) c))
          third (inr c) = inr c

      go : (stands k x.left ≡ true) ⊎ ((stands k x.right || occurs k (es ++ fs)) ≡ true) → (occurs k (es ++ fs) ≡ true → (occurs k es ≡ true) ⊎ (occurs k fs ≡ true)) → (occurs k (x ∷ es) ≡ true) ⊎ (occurs k fs ≡ true)
      go (inl d) ih = inl (or_left (stands k x.left) (stands k x.right || occurs k es) d)
      go (inr d) ih = second (either_true (stands k x.right) (occurs k (es ++ fs)) d) ih

  parts_known : (p : Parts) (es : List Equation) → parts_at e.binders e.left e.right ≡ p → AreParts p es → (k : Key) → occurs k (es ++ st.equations) ≡ true → KnownKey sig st.next k
  parts_known p es q a k h = go (occurs_append k es st.equations h)
    where
      first : (stands k e.left ≡ true) ⊎ (stands k e.right ≡ true) → KnownKey sig st.next k
      first (inl d) = ready.known k (or_left (stands k e.left) (stands k e.right || occurs k st.equations) d)
      first (inr d) = ready.known k (or_right (stands k e.left) (stands k e.right || occurs k st.equations) (or_left (stands k e.right) (occurs k st.equations) d))

      go : (occurs k es ≡ true) ⊎ (occurs k st.equations ≡ true) → KnownKey sig st.next k
      go (inl d) = first ((parts_fall e.binders e.left e.right es (subst (λ x. AreParts x es) (sym q) a)).within k d)
      go (inr d) = rest_known sig st e ready k d

  abbrev pub with_parts : List Equation → State
  with_parts es = record st { equations = es ++ st.equations }

  -- the outcome of the parts is that of the equation
  parts_outcome : (p : Parts) (es : List Equation) → parts_at e.binders e.left e.right ≡ p → IsDecided p → (ts : List TypeEntry) (fs : List TermEntry) (o : Outcome sig (with_parts es) ts fs)
      → (EachHolds o.by_types o.by es → PartsHold o.by_types o.by p)
      → ((r : List TypeEntry) (v : Values) → PartsHold r v p → EachHolds r v es)
      → Outcome sig Whole ts fs
  parts_outcome p es q d ts fs o back there =
      let s = hold_split o.by_types o.by es st.equations o.solves in
      record {
        by_types = o.by_types;
        by = o.by;
        fit = o.fit;
        solves = (parts_back o.by_types o.by o.fit e.binders e.left e.right ready.normal.0.0 ready.normal.0.1 ready.typed.0 (subst IsDecided (sym q) d) (subst (PartsHold o.by_types o.by) (sym q) (back s.0)), s.1);
        types = o.types;
        terms = o.terms;
        terms_typed = o.terms_typed;
        general = λ r v f h. o.general r v f (hold_append r v es st.equations (there r v (hold_there r v f h p q)) h.1);
      }

  into_view : (es : List Equation) → parts_at e.binders e.left e.right ≡ Into es → Leads sig Whole (with_parts es)
  into_view es q = record {
    new_sig = sig;
    by = [];
    by_sig = λ x i h. sym (inst_nothing (sig x i));
    by_types = entries_nothing st.types;
    ready = record {
      typed = all_typed_append es st.equations (subst PartsTyped q (parts_typed e.binders e.left e.right ready.normal.0.0 ready.normal.0.1 ready.typed.0)) ready.typed.1;
      normal = all_normal_append es st.equations (parts_normal e.binders e.left e.right es ready.normal.0.0 ready.normal.0.1 (subst (λ x. AreParts x es) (sym q) refl)) ready.normal.1;
      known = parts_known (Into es) es q refl;
      terms_typed = ready.terms_typed;
      terms_known = ready.terms_known;
    };
    outcome = λ ts fs o. parts_outcome (Into es) es q tt ts fs o (λ h. h) (λ r v h. h);
    refuted = λ no r v f h. no r v f (hold_append r v es st.equations (hold_there r v f h (Into es) q) h.1);
  }

  heads_view : (S T : Ty) (es : List Equation) → parts_at e.binders e.left e.right ≡ Heads S T es → StepView sig Whole (after_types (with_parts es) (unify_typs ((S, T) ∷ [])))
  heads_view S T es q = go (unify_typs ((S, T) ∷ [])) refl
    where
      go : (o : Option (List TypeEntry)) → unify_typs ((S, T) ∷ []) ≡ o → StepView sig (with_first e st) (after_types (with_parts es) o)
      go None p = λ r v f h. types_no_unifier ((S, T) ∷ []) p r ((hold_there r v f h (Heads S T es) q).0, tt)
      go (Some s) p =
          let g = types_most_general ((S, T) ∷ []) s p in
          let known = parts_known (Heads S T es) es q refl in
          let a : AreParts (parts_at e.binders e.left e.right) es = subst (λ x. AreParts x es) (sym q) refl in
          let sided = sided_append es st.equations (parts_sided e.binders e.left e.right es ready.typed.0 a) (typed_sided st.equations ready.typed.1) in
          let same : (r : List TypeEntry) (v : Values) → AreFit r v → inst_ty r S ≡ inst_ty r T → (U : Ty) → inst_ty r (inst_ty s U) ≡ inst_ty r U = λ r v f h U. g.general r (h, tt) U in
          let typed : AllTyped (map (retyped_equation s) (es ++ st.equations)) = split es (subst PartsTyped q (parts_typed e.binders e.left e.right ready.normal.0.0 ready.normal.0.1 ready.typed.0) s g.unifies.0) (retyped_all_typed s st.equations ready.typed.1) in
          record {
            new_sig = retyped_sig s sig;
            by = s;
            by_sig = λ x i h. refl;
            by_types = refl;
            ready = retyped_ready sig (with_parts es) s typed (all_normal_append es st.equations (parts_normal e.binders e.left e.right es ready.normal.0.0 ready.normal.0.1 a) ready.normal.1) known ready.terms_typed ready.terms_known;
            outcome = λ ts fs o. outcome s g known sided ts fs o;
            refuted = λ no r v f h.
                let c = hold_there r v f h (Heads S T es) q in
                let m = same r v f c.0 in
                no r (retyped_values sig s v) (retyped_fit sig s r v f m) (retyped_holds sig (with_parts es) sided known s r v f m (hold_append r v es st.equations c.1 h.1));
          }
        where
          split : (fs : List Equation) → AllTyped (map (retyped_equation s) fs) → AllTyped (map (retyped_equation s) st.equations) → AllTyped (map (retyped_equation s) (fs ++ st.equations))
          split [] h k = k
          split (x ∷ fs) h k = (h.0, split fs h.1 k)

          outcome : (s : List TypeEntry) → IsMostGeneral ((S, T) ∷ []) s → ((k : Key) → occurs k (es ++ st.equations) ≡ true → KnownKey sig st.next k) → AllSided (es ++ st.equations) → (ts : List TypeEntry) (fs : List TermEntry) → Outcome (retyped_sig s sig) (retyped_state s (with_parts es)) ts fs → Outcome sig (with_first e st) ts fs
          outcome s g known sided ts fs o =
              let p = retyped_outcome sig (with_parts es) sided known s ts fs o in
              let c = hold_split p.by_types p.by es st.equations p.solves in
              record {
                by_types = p.by_types;
                by = p.by;
                fit = p.fit;
                solves = (parts_back p.by_types p.by p.fit e.binders e.left e.right ready.normal.0.0 ready.normal.0.1 ready.typed.0 (subst IsDecided (sym q) tt) (subst (PartsHold p.by_types p.by) (sym q) (p.unifies S T g.unifies.0, c.0)), c.1);
                types = p.types;
                terms = p.terms;
                terms_typed = p.terms_typed;
                general = λ r v f h.
                    let k = hold_there r v f h (Heads S T es) q in
                    p.factor r v f (λ U. g.general r (k.0, tt) U) (hold_append r v es st.equations k.1 h.1);
              }

  pub front_view : (p : Parts) → parts_at e.binders e.left e.right ≡ p → StepView sig Whole (front_step st e p)
  front_view Flexible q = flexible_view (flexible_parts e.binders e.left e.right ready.normal.0.0 ready.normal.0.1 q)
  front_view Clash q = λ r v f h. hold_there r v f h Clash q
  front_view (Into es) q = into_view es q
  front_view (Heads S T es) q = heads_view S T es q

pub step_view : (sig : Sig) (st : State) → Ready sig st → StepView sig st (unify_step st)
unfolding unify_step
step_view sig st ready = go st.equations ready
  where
    go : (es : List Equation) → Ready sig (record st { equations = es }) → StepView sig (record st { equations = es }) (unify_step (record st { equations = es }))
    go [] r = finished sig (record st { equations = [] }) r refl
    go (e ∷ es) r = front_view sig (record st { equations = es }) e r (parts_at e.binders e.left e.right) refl
