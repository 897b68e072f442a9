-- The unification of types ends with a most general unifier, and where it finds none there is none.
use Rattle.std.proofs.Common.{◌≡◌, ℕ, suc, ◌+◌, ◌<◌, ◌≤◌, List, [], ◌∷◌, ◌++◌, length, Bool, true, false, ◌&&◌, ◌||◌, nat_eq, refl, sym, ap, subst, ◌∙◌, cond, ◌⊎◌, inl, inr, arith, Option, Some, None}
use Rattle.std.specs.Cmp.Lexicographic.{bytes_decides}
use Rattle.isa_terms.specs.Types.{Ty, Tys, TyCon, TyFixed, TyUnknown, NoTys, MoreTys, ty_depth, tys_depth}
use Rattle.isa_terms.specs.Equal.{name_eq, ty_eq}
use Rattle.isa_terms.specs.Instance.{inst_ty, inst_tys}
use Rattle.isa_terms.specs.declared.inst.TypeEntry.{TypeEntry}
use Rattle.isa_terms.proofs.Equal.{ty_decides}
use Rattle.isa_unify.specs.Descent.{Step, Done, Lighter, Solved, Ends, now, lighter, solved, Falls, Keeps}
use Rattle.isa_unify.specs.TypeUnification.{Unifies, IsMostGeneral, ty_has, tys_have, one, followed_by, equations_under, TypeState, type_state, TypeStep, solved_by, solve, paired, split, type_step_at, type_step, types_weight, ty_keys, tys_keys, all_ty_keys, types_unified, unify_typs}
use Rattle.isa_unify.proofs.Descent.{Reaches, reaches, ends_once}
use Rattle.isa_unify.proofs.Tests.{or_left, or_right, either_true, neither, or_mono, key_true, key_turned}
use Rattle.isa_unify.proofs.TypeInstances.{inst_followed, inst_nothing, has_self, inst_one, one_without, inst_inst_one, no_cycle, has_under_one, has_replaced}

-- whether a type unknown stands in an equation
abbrev pub occurs : List ℕ → ℕ → List (Ty × Ty) → Bool
occurs x i [] = false
occurs x i (e ∷ es) = ty_has x i e.0 || (ty_has x i e.1 || occurs x i es)

-- What a step does. First what it leads to that is lighter, then what it solves.
pub record IsLighter (s : TypeState) (es : List (Ty × Ty)) : Type 0 where
  pub falls : types_weight es < types_weight s.equations
  pub there : (r : List TypeEntry) → Unifies r s.equations → Unifies r es
  pub back : (r : List TypeEntry) → Unifies r es → Unifies r s.equations
  pub within : (y : List ℕ) (j : ℕ) → occurs y j es ≡ true → occurs y j s.equations ≡ true

pub record IsSolving (s : TypeState) (x : List ℕ) (i : ℕ) (T : Ty) (es : List (Ty × Ty)) : Type 0 where
  pub without : ty_has x i T ≡ false
  pub there : (r : List TypeEntry) → Unifies r s.equations → (inst_ty r (TyUnknown x i) ≡ inst_ty r T) × Unifies r es
  pub back : (r : List TypeEntry) → inst_ty r (TyUnknown x i) ≡ inst_ty r T → Unifies r es → Unifies r s.equations
  pub here : occurs x i s.equations ≡ true
  pub within : (y : List ℕ) (j : ℕ) → (ty_has y j T ≡ true) ⊎ (occurs y j es ≡ true) → occurs y j s.equations ≡ true

pub data StepCase (s : TypeState) : TypeStep → Type 0 where
  finished : s.equations ≡ [] → StepCase s (Done (Some s.solution))
  refused : ((r : List TypeEntry) → Unifies r s.equations → ⊥) → StepCase s (Done None)
  lightened : (es : List (Ty × Ty)) → IsLighter s es → StepCase s (Lighter (type_state es s.solution))
  solving : (x : List ℕ) (i : ℕ) (T : Ty) (es : List (Ty × Ty)) → IsSolving s x i T es → StepCase s (Solved (solved_by x i T es s.solution))

abbrev before : Ty → Ty → List (Ty × Ty) → List TypeEntry → TypeState
before S T es s = type_state ((S, T) ∷ es) s

-- the front equation says nothing
positive : (T : Ty) → 0 < ty_depth T
positive (TyCon c Ts) = omega arith
positive (TyFixed a) = omega arith
positive (TyUnknown x i) = omega arith

dropped : (S : Ty) (es : List (Ty × Ty)) (s : List TypeEntry) (T : Ty) → S ≡ T → IsLighter (before S T es s) es
dropped S es s T e = record {
  falls = omega arith;
  there = λ r h. h.1;
  back = λ r h. (ap (inst_ty r) e, h);
  within = λ y j h. or_right (ty_has y j S) (ty_has y j T || occurs y j es) (or_right (ty_has y j T) (occurs y j es) h);
}

solving_left : (x : List ℕ) (i : ℕ) (T : Ty) (es : List (Ty × Ty)) (s : List TypeEntry) → ty_has x i T ≡ false → IsSolving (before (TyUnknown x i) T es s) x i T es
solving_left x i T es s h = record {
  without = h;
  there = λ r k. (k.0, k.1);
  back = λ r e k. (e, k);
  here = or_left (ty_has x i (TyUnknown x i)) (ty_has x i T || occurs x i es) (has_self x i);
  within = λ y j k. or_right (ty_has y j (TyUnknown x i)) (ty_has y j T || occurs y j es) (go y j k);
}
  where
    go : (y : List ℕ) (j : ℕ) → (ty_has y j T ≡ true) ⊎ (occurs y j es ≡ true) → (ty_has y j T || occurs y j es) ≡ true
    go y j (inl k) = or_left (ty_has y j T) (occurs y j es) k
    go y j (inr k) = or_right (ty_has y j T) (occurs y j es) k

solving_right : (x : List ℕ) (i : ℕ) (T : Ty) (es : List (Ty × Ty)) (s : List TypeEntry) → ty_has x i T ≡ false → IsSolving (before T (TyUnknown x i) es s) x i T es
solving_right x i T es s h = record {
  without = h;
  there = λ r k. (sym k.0, k.1);
  back = λ r e k. (sym e, k);
  here = or_right (ty_has x i T) (ty_has x i (TyUnknown x i) || occurs x i es) (or_left (ty_has x i (TyUnknown x i)) (occurs x i es) (has_self x i));
  within = go;
}
  where
    go : (y : List ℕ) (j : ℕ) → (ty_has y j T ≡ true) ⊎ (occurs y j es ≡ true) → (ty_has y j T || (ty_has y j (TyUnknown x i) || occurs y j es)) ≡ true
    go y j (inl k) = or_left (ty_has y j T) (ty_has y j (TyUnknown x i) || occurs y j es) k
    go y j (inr k) = or_right (ty_has y j T) (ty_has y j (TyUnknown x i) || occurs y j es) (or_right (ty_has y j (TyUnknown x i)) (occurs y j es) k)

-- an unknown on the left that isn't the right side
left_case : (x : List ℕ) (i : ℕ) (T : Ty) (es : List (Ty × Ty)) (s : List TypeEntry) → ty_eq (TyUnknown x i) T ≡ false → (c : Bool) → ty_has x i T ≡ c → StepCase (before (TyUnknown x i) T es s) (cond c (Done None) (Solved (solved_by x i T es s)))
left_case x i T es s d true h = refused (λ r k. no_cycle r x i T d h k.0)
left_case x i T es s d false h = solving x i T es (solving_left x i T es s h)

unknown_case : (x : List ℕ) (i : ℕ) (T : Ty) (es : List (Ty × Ty)) (s : List TypeEntry) (c : Bool) → ty_eq (TyUnknown x i) T ≡ c → StepCase (before (TyUnknown x i) T es s) (cond c (Lighter (type_state es s)) (solve x i T es s))
unknown_case x i T es s true h = lightened es (dropped (TyUnknown x i) es s T ((ty_decides (TyUnknown x i) T).0 h))
unknown_case x i T es s false h = left_case x i T es s h (ty_has x i T) refl

right_case : (x : List ℕ) (i : ℕ) (T : Ty) (es : List (Ty × Ty)) (s : List TypeEntry) → ty_eq (TyUnknown x i) T ≡ false → (c : Bool) → ty_has x i T ≡ c → StepCase (before T (TyUnknown x i) es s) (cond c (Done None) (Solved (solved_by x i T es s)))
right_case x i T es s d true h = refused (λ r k. no_cycle r x i T d h (sym k.0))
right_case x i T es s d false h = solving x i T es (solving_right x i T es s h)

fixed_same : (a b : List ℕ) → TyFixed a ≡ TyFixed b → a ≡ b
fixed_same a b k = cc

fixed_case : (a b : List ℕ) (es : List (Ty × Ty)) (s : List TypeEntry) (c : Bool) → name_eq a b ≡ c → StepCase (before (TyFixed a) (TyFixed b) es s) (cond c (Lighter (type_state es s)) (Done None))
fixed_case a b es s true h = lightened es (dropped (TyFixed a) es s (TyFixed b) (ap TyFixed ((bytes_decides a b).0 h)))
fixed_case a b es s false h = refused (λ r k.
    let e : name_eq a b ≡ true = (bytes_decides a b).1 (fixed_same a b k.0) in
    cc)

-- two constructors of as many arguments
con_name : {c d : List ℕ} {Ss Ts : Tys} → TyCon c Ss ≡ TyCon d Ts → c ≡ d
con_name k = cc

con_args : {c d : List ℕ} {Ss Ts : Tys} → TyCon c Ss ≡ TyCon d Ts → Ss ≡ Ts
con_args k = cc

more_first : {S T : Ty} {Ss Ts : Tys} → MoreTys S Ss ≡ MoreTys T Ts → S ≡ T
more_first k = cc

more_rest : {S T : Ty} {Ss Ts : Tys} → MoreTys S Ss ≡ MoreTys T Ts → Ss ≡ Ts
more_rest k = cc

-- what the pairs of arguments say
pub record IsPaired (Ss Ts : Tys) (ps : List (Ty × Ty)) : Type 0 where
  pub weight : types_weight ps + 2 ≤ tys_depth Ss + tys_depth Ts
  pub there : (r : List TypeEntry) → inst_tys r Ss ≡ inst_tys r Ts → Unifies r ps
  pub back : (r : List TypeEntry) → Unifies r ps → inst_tys r Ss ≡ inst_tys r Ts
  pub within : (y : List ℕ) (j : ℕ) → occurs y j ps ≡ true → (tys_have y j Ss || tys_have y j Ts) ≡ true

abbrev pub PairedCase : Tys → Tys → Option (List (Ty × Ty)) → Type 0
PairedCase Ss Ts None = (r : List TypeEntry) → inst_tys r Ss ≡ inst_tys r Ts → ⊥
PairedCase Ss Ts (Some ps) = IsPaired Ss Ts ps

regrouped : (p q u v w : Bool) → (w ≡ true → (q || v) ≡ true) → (p || (u || w)) ≡ true → ((p || q) || (u || v)) ≡ true
regrouped true q u v w f k = refl
regrouped false true u v w f k = refl
regrouped false false true v w f k = refl
regrouped false false false v w f k = f k

more_paired : (S T : Ty) (Ss Ts : Tys) (o : Option (List (Ty × Ty))) → PairedCase Ss Ts o → PairedCase (MoreTys S Ss) (MoreTys T Ts) (elim o [ None ↦ None | Some es ↦ Some ((S, T) ∷ es) ])
more_paired S T Ss Ts None h = λ r e. h r (more_rest e)
more_paired S T Ss Ts (Some ps) h = record {
  weight = let w = h.weight in omega (arith, w);
  there = λ r e. (more_first e, h.there r (more_rest e));
  back = λ r k. λ i. MoreTys (k.0 i) (h.back r k.1 i);
  within = λ y j k. regrouped (ty_has y j S) (tys_have y j Ss) (ty_has y j T) (tys_have y j Ts) (occurs y j ps) (h.within y j) k;
}

pub paired_case : (Ss Ts : Tys) → PairedCase Ss Ts (paired Ss Ts)
paired_case NoTys NoTys = record { weight = omega arith; there = λ r e. tt; back = λ r k. refl; within = λ y j k. absurd (cc) }
paired_case (MoreTys S Ss) (MoreTys T Ts) = more_paired S T Ss Ts (paired Ss Ts) (paired_case Ss Ts)
paired_case NoTys (MoreTys T Ts) = λ r e. cc
paired_case (MoreTys S Ss) NoTys = λ r e. cc

unifies_append : (r : List TypeEntry) (ps es : List (Ty × Ty)) → Unifies r ps → Unifies r es → Unifies r (ps ++ es)
unifies_append r [] es h k = k
unifies_append r (p ∷ ps) es h k = (h.0, unifies_append r ps es h.1 k)

unifies_front : (r : List TypeEntry) (ps es : List (Ty × Ty)) → Unifies r (ps ++ es) → Unifies r ps × Unifies r es
unifies_front r [] es h = (tt, h)
unifies_front r (p ∷ ps) es h = let k = unifies_front r ps es h.1 in ((h.0, k.0), k.1)

weight_append : (ps es : List (Ty × Ty)) → types_weight (ps ++ es) ≡ types_weight ps + types_weight es
weight_append [] es = omega arith
weight_append (p ∷ ps) es = let e = weight_append ps es in omega (arith, e)

occurs_append : (y : List ℕ) (j : ℕ) (ps es : List (Ty × Ty)) → occurs y j (ps ++ es) ≡ true → (occurs y j ps ≡ true) ⊎ (occurs y j es ≡ true)
occurs_append y j [] es h = inr h
occurs_append y j (p ∷ ps) es h = go (ty_has y j p.0) (ty_has y j p.1) h (λ k. occurs_append y j ps es k)
  where
    go : (a b : Bool) → (a || (b || occurs y j (ps ++ es))) ≡ true → (occurs y j (ps ++ es) ≡ true → (occurs y j ps ≡ true) ⊎ (occurs y j es ≡ true)) → ((a || (b || occurs y j ps)) ≡ true) ⊎ (occurs y j es ≡ true)
    go true b k ih = inl refl
    go false true k ih = inl refl
    go false false k ih = ih k

parts_within : (a b c : Bool) {d : Bool} → (d ≡ true → (a || b) ≡ true) → (d ≡ true) ⊎ (c ≡ true) → (a || (b || c)) ≡ true
parts_within true b c f h = refl
parts_within false true c f h = refl
parts_within false false c f (inl h) = absurd (let e = f h in cc)
parts_within false false c f (inr h) = h

parts_case : (c d : List ℕ) (Ss Ts : Tys) (es : List (Ty × Ty)) (s : List TypeEntry) → c ≡ d → (o : Option (List (Ty × Ty))) → PairedCase Ss Ts o → StepCase (before (TyCon c Ss) (TyCon d Ts) es s) (elim o [ None ↦ Done None | Some ps ↦ Lighter (type_state (ps ++ es) s) ])
parts_case c d Ss Ts es s e None h = refused (λ r k. h r (con_args k.0))
parts_case c d Ss Ts es s e (Some ps) h = lightened (ps ++ es) (record {
  falls = let w = h.weight in let a = weight_append ps es in omega (arith, w, a);
  there = λ r k. unifies_append r ps es (h.there r (con_args k.0)) k.1;
  back = λ r k. let f = unifies_front r ps es k in ((λ i. TyCon (e i) (h.back r f.0 i)), f.1);
  within = λ y j k. parts_within (tys_have y j Ss) (tys_have y j Ts) (occurs y j es) {d = occurs y j ps} (h.within y j) (occurs_append y j ps es k);
})

con_case : (c d : List ℕ) (Ss Ts : Tys) (es : List (Ty × Ty)) (s : List TypeEntry) (b : Bool) → name_eq c d ≡ b → StepCase (before (TyCon c Ss) (TyCon d Ts) es s) (split b (paired Ss Ts) es s)
con_case c d Ss Ts es s true h = parts_case c d Ss Ts es s ((bytes_decides c d).0 h) (paired Ss Ts) (paired_case Ss Ts)
con_case c d Ss Ts es s false h = refused (λ r k.
    let e : name_eq c d ≡ true = (bytes_decides c d).1 (con_name k.0) in
    cc)

at_case : (S T : Ty) (es : List (Ty × Ty)) (s : List TypeEntry) → StepCase (before S T es s) (type_step_at S T es s)
at_case (TyUnknown x i) (TyCon c Ts) es s = unknown_case x i (TyCon c Ts) es s (ty_eq (TyUnknown x i) (TyCon c Ts)) refl
at_case (TyUnknown x i) (TyFixed a) es s = unknown_case x i (TyFixed a) es s (ty_eq (TyUnknown x i) (TyFixed a)) refl
at_case (TyUnknown x i) (TyUnknown y j) es s = unknown_case x i (TyUnknown y j) es s (ty_eq (TyUnknown x i) (TyUnknown y j)) refl
at_case (TyCon c Ss) (TyUnknown y j) es s = right_case y j (TyCon c Ss) es s refl (ty_has y j (TyCon c Ss)) refl
at_case (TyFixed a) (TyUnknown y j) es s = right_case y j (TyFixed a) es s refl (ty_has y j (TyFixed a)) refl
at_case (TyFixed a) (TyFixed b) es s = fixed_case a b es s (name_eq a b) refl
at_case (TyCon c Ss) (TyCon d Ts) es s = con_case c d Ss Ts es s (name_eq c d) refl
at_case (TyCon c Ss) (TyFixed b) es s = refused (λ r k. let e = k.0 in cc)
at_case (TyFixed a) (TyCon d Ts) es s = refused (λ r k. let e = k.0 in cc)

equations_case : (es : List (Ty × Ty)) (s : List TypeEntry) → StepCase (type_state es s) (type_step (type_state es s))
equations_case [] s = finished refl
equations_case (e ∷ es) s = at_case e.0 e.1 es s

pub step_case : (s : TypeState) → StepCase s (type_step s)
step_case s = equations_case s.equations s.solution

-- 1. The steps end.

abbrev pub key_in : List ℕ → ℕ → List (List ℕ × ℕ) → Bool
key_in x i [] = false
key_in x i (k ∷ ks) = (name_eq x k.0 && nat_eq i k.1) || key_in x i ks

abbrev pub one_if : Bool → ℕ
one_if true = 1
one_if false = 0

-- how many of the unknowns stand in equations
abbrev pub unsolved_of : List (List ℕ × ℕ) → List (Ty × Ty) → ℕ
unsolved_of [] es = 0
unsolved_of (k ∷ ks) es = one_if (occurs k.0 k.1 es) + unsolved_of ks es

one_at_most : (b c : Bool) → (b ≡ true → c ≡ true) → one_if b ≤ one_if c
one_at_most true true h = omega arith
one_at_most true false h = let e = h refl in absurd (cc)
one_at_most false true h = omega arith
one_at_most false false h = omega arith

unsolved_le : (ks : List (List ℕ × ℕ)) (fs es : List (Ty × Ty)) → ((y : List ℕ) (j : ℕ) → occurs y j fs ≡ true → occurs y j es ≡ true) → unsolved_of ks fs ≤ unsolved_of ks es
unsolved_le [] fs es h = omega arith
unsolved_le (k ∷ ks) fs es h =
    let a = one_at_most (occurs k.0 k.1 fs) (occurs k.0 k.1 es) (h k.0 k.1) in
    let b = unsolved_le ks fs es h in
    omega (arith, a, b)

at_key : (x : List ℕ) (i : ℕ) (k : List ℕ × ℕ) (es : List (Ty × Ty)) (b : Bool) → (name_eq x k.0 && nat_eq i k.1) ≡ true → occurs x i es ≡ b → occurs k.0 k.1 es ≡ b
at_key x i k es b h e = let both = key_true x i k.0 k.1 h in sym (λ l. occurs (both.0 l) (both.1 l) es) ∙ e

unsolved_lt : (ks : List (List ℕ × ℕ)) (fs es : List (Ty × Ty)) (x : List ℕ) (i : ℕ) → ((y : List ℕ) (j : ℕ) → occurs y j fs ≡ true → occurs y j es ≡ true) → key_in x i ks ≡ true → occurs x i es ≡ true → occurs x i fs ≡ false → unsolved_of ks fs < unsolved_of ks es
unsolved_lt [] fs es x i h a e f = absurd (cc)
unsolved_lt (k ∷ ks) fs es x i h a e f = go (either_true (name_eq x k.0 && nat_eq i k.1) (key_in x i ks) a) (unsolved_le ks fs es h) (λ j. unsolved_lt ks fs es x i h j e f)
  where
    go : ((name_eq x k.0 && nat_eq i k.1) ≡ true) ⊎ (key_in x i ks ≡ true) → unsolved_of ks fs ≤ unsolved_of ks es → (key_in x i ks ≡ true → unsolved_of ks fs < unsolved_of ks es) → unsolved_of (k ∷ ks) fs < unsolved_of (k ∷ ks) es
    go (inl j) le lt =
        let p : one_if (occurs k.0 k.1 es) ≡ 1 = ap one_if (at_key x i k es true j e) in
        let q : one_if (occurs k.0 k.1 fs) ≡ 0 = ap one_if (at_key x i k fs false j f) in
        omega (arith, p, q)
    go (inr j) le lt =
        let a = one_at_most (occurs k.0 k.1 fs) (occurs k.0 k.1 es) (h k.0 k.1) in
        let b = lt j in
        omega (arith, a, b)

unsolved_length : (ks : List (List ℕ × ℕ)) (es : List (Ty × Ty)) → unsolved_of ks es ≤ length ks
unsolved_length [] es = omega arith
unsolved_length (k ∷ ks) es =
    let a = one_at_most (occurs k.0 k.1 es) true (λ h. refl) in
    let b = unsolved_length ks es in
    omega (arith, a, b)

-- all unknowns that stand in the equations are among these
pub record AreAmong (ks : List (List ℕ × ℕ)) (s : TypeState) : Type 0 where
  pub all : (y : List ℕ) (j : ℕ) → occurs y j s.equations ≡ true → key_in y j ks ≡ true

occurs_under_one : (x : List ℕ) (i : ℕ) (T : Ty) (y : List ℕ) (j : ℕ) (es : List (Ty × Ty)) → occurs y j (equations_under (one x i T) es) ≡ true → (ty_has y j T ≡ true) ⊎ (occurs y j es ≡ true)
occurs_under_one x i T y j [] h = inr h
occurs_under_one x i T y j (e ∷ es) h = go (either_true (ty_has y j (inst_ty (one x i T) e.0)) (ty_has y j (inst_ty (one x i T) e.1) || occurs y j (equations_under (one x i T) es)) h) (λ d. occurs_under_one x i T y j es d)
  where
    at_left : (ty_has y j e.0 ≡ true) ⊎ (ty_has y j T ≡ true) → (ty_has y j T ≡ true) ⊎ (occurs y j (e ∷ es) ≡ true)
    at_left (inl d) = inr (or_left (ty_has y j e.0) (ty_has y j e.1 || occurs y j es) d)
    at_left (inr d) = inl d

    at_right : (ty_has y j e.1 ≡ true) ⊎ (ty_has y j T ≡ true) → (ty_has y j T ≡ true) ⊎ (occurs y j (e ∷ es) ≡ true)
    at_right (inl d) = inr (or_right (ty_has y j e.0) (ty_has y j e.1 || occurs y j es) (or_left (ty_has y j e.1) (occurs y j es) d))
    at_right (inr d) = inl d

    later : (ty_has y j T ≡ true) ⊎ (occurs y j es ≡ true) → (ty_has y j T ≡ true) ⊎ (occurs y j (e ∷ es) ≡ true)
    later (inl d) = inl d
    later (inr d) = inr (or_right (ty_has y j e.0) (ty_has y j e.1 || occurs y j es) (or_right (ty_has y j e.1) (occurs y j es) d))

    second : (ty_has y j (inst_ty (one x i T) e.1) ≡ true) ⊎ (occurs y j (equations_under (one x i T) es) ≡ true) → (occurs y j (equations_under (one x i T) es) ≡ true → (ty_has y j T ≡ true) ⊎ (occurs y j es ≡ true)) → (ty_has y j T ≡ true) ⊎ (occurs y j (e ∷ es) ≡ true)
    second (inl d) ih = at_right (has_under_one x i T y j e.1 d)
    second (inr d) ih = later (ih d)

    go : (ty_has y j (inst_ty (one x i T) e.0) ≡ true) ⊎ ((ty_has y j (inst_ty (one x i T) e.1) || occurs y j (equations_under (one x i T) es)) ≡ true) → (occurs y j (equations_under (one x i T) es) ≡ true → (ty_has y j T ≡ true) ⊎ (occurs y j es ≡ true)) → (ty_has y j T ≡ true) ⊎ (occurs y j (e ∷ es) ≡ true)
    go (inl d) ih = at_left (has_under_one x i T y j e.0 d)
    go (inr d) ih = second (either_true (ty_has y j (inst_ty (one x i T) e.1)) (occurs y j (equations_under (one x i T) es)) d) ih

occurs_replaced : (x : List ℕ) (i : ℕ) (T : Ty) (es : List (Ty × Ty)) → ty_has x i T ≡ false → occurs x i (equations_under (one x i T) es) ≡ false
occurs_replaced x i T [] h = refl
occurs_replaced x i T (e ∷ es) h =
    neither (ty_has x i (inst_ty (one x i T) e.0)) (ty_has x i (inst_ty (one x i T) e.1) || occurs x i (equations_under (one x i T) es)) (has_replaced x i T h e.0)
    (neither (ty_has x i (inst_ty (one x i T) e.1)) (occurs x i (equations_under (one x i T) es)) (has_replaced x i T h e.1) (occurs_replaced x i T es h))

-- an unknown of the equations after a step that solves
solving_within : (s : TypeState) (x : List ℕ) (i : ℕ) (T : Ty) (es : List (Ty × Ty)) → IsSolving s x i T es → (y : List ℕ) (j : ℕ) → occurs y j (equations_under (one x i T) es) ≡ true → occurs y j s.equations ≡ true
solving_within s x i T es c y j h = c.within y j (occurs_under_one x i T y j es h)

case_keeps : (ks : List (List ℕ × ℕ)) (s : TypeState) (r : TypeStep) → AreAmong ks s → StepCase s r → Keeps (AreAmong ks) r
case_keeps ks s r p (finished h) = tt
case_keeps ks s r p (refused h) = tt
case_keeps ks s r p (lightened es c) = record { all = λ y j h. p.all y j (c.within y j h) }
case_keeps ks s r p (solving x i T es c) = record { all = λ y j h. p.all y j (solving_within s x i T es c y j h) }

case_falls : (ks : List (List ℕ × ℕ)) (s : TypeState) (r : TypeStep) → AreAmong ks s → StepCase s r → Falls (λ (u : TypeState). types_weight u.equations) (λ (u : TypeState). unsolved_of ks u.equations) s r
case_falls ks s r p (finished h) = tt
case_falls ks s r p (refused h) = tt
case_falls ks s r p (lightened es c) = (c.falls, unsolved_le ks es s.equations c.within)
case_falls ks s r p (solving x i T es c) = unsolved_lt ks (equations_under (one x i T) es) s.equations x i (solving_within s x i T es c) (p.all x i c.here) c.here (occurs_replaced x i T es c.without)

-- the unknowns that stand in equations are among their keys

key_in_append : (x : List ℕ) (i : ℕ) (ks ls : List (List ℕ × ℕ)) → key_in x i (ks ++ ls) ≡ (key_in x i ks || key_in x i ls)
key_in_append x i [] ls = refl
key_in_append x i (k ∷ ks) ls = elim (name_eq x k.0 && nat_eq i k.1) as (λ b. (b || key_in x i (ks ++ ls)) ≡ ((b || key_in x i ks) || key_in x i ls)) [ true ↦ refl | false ↦ key_in_append x i ks ls ]

mutual
  key_in_keys : (x : List ℕ) (i : ℕ) (T : Ty) → ty_has x i T ≡ true → key_in x i (ty_keys T) ≡ true
  key_in_keys x i (TyCon c Ts) h = keys_in_keys x i Ts h
  key_in_keys x i (TyFixed a) h = h
  key_in_keys x i (TyUnknown y j) h = or_left (name_eq x y && nat_eq i j) false (key_turned y j x i h)

  keys_in_keys : (x : List ℕ) (i : ℕ) (Ts : Tys) → tys_have x i Ts ≡ true → key_in x i (tys_keys Ts) ≡ true
  keys_in_keys x i NoTys h = h
  keys_in_keys x i (MoreTys T Ts) h = key_in_append x i (ty_keys T) (tys_keys Ts) ∙ or_mono (ty_has x i T) (tys_have x i Ts) (key_in x i (ty_keys T)) (key_in x i (tys_keys Ts)) (key_in_keys x i T) (keys_in_keys x i Ts) h

key_in_all_keys : (x : List ℕ) (i : ℕ) (es : List (Ty × Ty)) → occurs x i es ≡ true → key_in x i (all_ty_keys es) ≡ true
key_in_all_keys x i [] h = h
key_in_all_keys x i (e ∷ es) h =
    key_in_append x i (ty_keys e.0) (ty_keys e.1 ++ all_ty_keys es) ∙
    or_mono (ty_has x i e.0) (ty_has x i e.1 || occurs x i es) (key_in x i (ty_keys e.0)) (key_in x i (ty_keys e.1 ++ all_ty_keys es)) (key_in_keys x i e.0)
    (λ k. key_in_append x i (ty_keys e.1) (all_ty_keys es) ∙ or_mono (ty_has x i e.1) (occurs x i es) (key_in x i (ty_keys e.1)) (key_in x i (all_ty_keys es)) (key_in_keys x i e.1) (key_in_all_keys x i es) k) h

-- The unification ends, and `types_unified` says with what.
pub types_reached : (s : TypeState) → Reaches type_step (types_unified s) s
unfolding types_unified
types_reached s =
    let ks = all_ty_keys s.equations in
    reaches type_step (λ t. types_weight t.equations) (λ t. unsolved_of ks t.equations) None (AreAmong ks)
    (λ t p. case_keeps ks t (type_step t) p (step_case t)) (λ t p. case_falls ks t (type_step t) p (step_case t))
    (suc (length ks)) s (record { all = λ y j h. key_in_all_keys y j s.equations h }) (let h = unsolved_length ks s.equations in omega (arith, h))

-- how many steps are left
pub steps_left : TypeState → ℕ
steps_left s = (types_reached s).0

-- 2. What the end says.

pub record IsAnswer (s : TypeState) (q : List TypeEntry) : Type 0 where
  pub by : List TypeEntry
  pub solves : Unifies by s.equations
  pub general : (r : List TypeEntry) → Unifies r s.equations → (T : Ty) → inst_ty r (inst_ty by T) ≡ inst_ty r T
  pub is : (T : Ty) → inst_ty q T ≡ inst_ty by (inst_ty s.solution T)

abbrev pub Outcome : TypeState → Option (List TypeEntry) → Type 0
Outcome s None = (r : List TypeEntry) → Unifies r s.equations → ⊥
Outcome s (Some q) = IsAnswer s q

unifies_under : (r s : List TypeEntry) (es : List (Ty × Ty)) → ((T : Ty) → inst_ty r (inst_ty s T) ≡ inst_ty r T) → Unifies r es → Unifies r (equations_under s es)
unifies_under r s [] h k = tt
unifies_under r s (e ∷ es) h k = (h e.0 ∙ k.0 ∙ sym (h e.1), unifies_under r s es h k.1)

unifies_followed : (c s : List TypeEntry) (es : List (Ty × Ty)) → Unifies c (equations_under s es) → Unifies (followed_by s c) es
unifies_followed c s [] k = tt
unifies_followed c s (e ∷ es) k = (inst_followed s c e.0 ∙ k.0 ∙ sym (inst_followed s c e.1), unifies_followed c s es k.1)

lighter_outcome : (s : TypeState) (es : List (Ty × Ty)) (o : Option (List TypeEntry)) → IsLighter s es → Outcome (type_state es s.solution) o → Outcome s o
lighter_outcome s es None c h = λ r k. h r (c.there r k)
lighter_outcome s es (Some q) c h = record {
  by = h.by;
  solves = c.back h.by h.solves;
  general = λ r k T. h.general r (c.there r k) T;
  is = h.is;
}

solving_outcome : (s : TypeState) (x : List ℕ) (i : ℕ) (T : Ty) (es : List (Ty × Ty)) (o : Option (List TypeEntry)) → IsSolving s x i T es → Outcome (solved_by x i T es s.solution) o → Outcome s o
solving_outcome s x i T es None c h = λ r k.
    let d = c.there r k in
    h r (unifies_under r (one x i T) es (inst_inst_one r x i T d.0) d.1)
solving_outcome s x i T es (Some q) c h =
    let all = followed_by (one x i T) h.by in
    record {
      by = all;
      solves = c.back all
          (inst_followed (one x i T) h.by (TyUnknown x i) ∙ ap (inst_ty h.by) (inst_one x i T ∙ sym (one_without x i T T c.without)) ∙ sym (inst_followed (one x i T) h.by T))
          (unifies_followed h.by (one x i T) es h.solves);
      general = λ r k U.
          let d = c.there r k in
          let free = inst_inst_one r x i T d.0 in
          ap (inst_ty r) (inst_followed (one x i T) h.by U) ∙ h.general r (unifies_under r (one x i T) es free d.1) (inst_ty (one x i T) U) ∙ free U;
      is = λ U. h.is U ∙ ap (inst_ty h.by) (inst_followed s.solution (one x i T) U) ∙ sym (inst_followed (one x i T) h.by (inst_ty s.solution U));
    }

finished_outcome : (s : TypeState) → s.equations ≡ [] → Outcome s (Some s.solution)
finished_outcome s e = record {
  by = [];
  solves = subst (Unifies []) (sym e) tt;
  general = λ r k T. ap (inst_ty r) (inst_nothing T);
  is = λ T. sym (inst_nothing (inst_ty s.solution T));
}

done_is : {A : Type 0} {p q : A} → ◌≡◌ {A = Step TypeState A} (Done p) (Done q) → p ≡ q
done_is k = cc

done_outcome : (s : TypeState) (r : TypeStep) (o : Option (List TypeEntry)) → StepCase s r → r ≡ Done o → Outcome s o
done_outcome s r o (finished h) e = subst (Outcome s) (done_is e) (finished_outcome s h)
done_outcome s r o (refused h) e = subst (Outcome s) (done_is e) h
done_outcome s r o (lightened es c) e = absurd (cc)
done_outcome s r o (solving x i T es c) e = absurd (cc)

lighter_is : {A : Type 0} {p q : TypeState} → ◌≡◌ {A = Step TypeState A} (Lighter p) (Lighter q) → p ≡ q
lighter_is k = cc

solved_is : {A : Type 0} {p q : TypeState} → ◌≡◌ {A = Step TypeState A} (Solved p) (Solved q) → p ≡ q
solved_is k = cc

lighter_step : (s t : TypeState) (r : TypeStep) (o : Option (List TypeEntry)) → StepCase s r → r ≡ Lighter t → Outcome t o → Outcome s o
lighter_step s t r o (lightened es c) e h = lighter_outcome s es o c (subst (λ u. Outcome u o) (sym (lighter_is e)) h)
lighter_step s t r o (finished k) e h = absurd (cc)
lighter_step s t r o (refused k) e h = absurd (cc)
lighter_step s t r o (solving x i U es c) e h = absurd (cc)

solved_step : (s t : TypeState) (r : TypeStep) (o : Option (List TypeEntry)) → StepCase s r → r ≡ Solved t → Outcome t o → Outcome s o
solved_step s t r o (solving x i U es c) e h = solving_outcome s x i U es o c (subst (λ v. Outcome v o) (sym (solved_is e)) h)
solved_step s t r o (finished k) e h = absurd (cc)
solved_step s t r o (refused k) e h = absurd (cc)
solved_step s t r o (lightened es c) e h = absurd (cc)

pub outcome : {o : Option (List TypeEntry)} {s : TypeState} {k : ℕ} → Ends type_step o s k → Outcome s o
outcome {o} {s} (now e) = done_outcome s (type_step s) o (step_case s) e
outcome {o} {s} (lighter t e h) = lighter_step s t (type_step s) o (step_case s) e (outcome h)
outcome {o} {s} (solved t e h) = solved_step s t (type_step s) o (step_case s) e (outcome h)

-- 3. What callers need.

-- what the unification of equations finds is a most general unifier
pub types_most_general : (es : List (Ty × Ty)) (q : List TypeEntry) → unify_typs es ≡ Some q → IsMostGeneral es q
unfolding unify_typs
types_most_general es q e =
    let s = type_state es [] in
    let h : IsAnswer s q = subst (Outcome s) e (outcome (types_reached s).1) in
    let is : (T : Ty) → inst_ty q T ≡ inst_ty h.by T = λ T. h.is T ∙ ap (inst_ty h.by) (inst_nothing T) in
    record {
      unifies = as_unified h.by q es (λ T. sym (is T)) h.solves;
      general = λ r k T. ap (inst_ty r) (is T) ∙ h.general r k T;
    }
  where
    as_unified : (r s : List TypeEntry) (fs : List (Ty × Ty)) → ((T : Ty) → inst_ty r T ≡ inst_ty s T) → Unifies r fs → Unifies s fs
    as_unified r s [] h k = tt
    as_unified r s (f ∷ fs) h k = (sym (h f.0) ∙ k.0 ∙ h f.1, as_unified r s fs h k.1)

-- and where it finds none there is none
pub types_no_unifier : (es : List (Ty × Ty)) → unify_typs es ≡ None → (r : List TypeEntry) → Unifies r es → ⊥
unfolding unify_typs
types_no_unifier es e r k =
    let s = type_state es [] in
    let h : Outcome s None = subst (Outcome s) e (outcome (types_reached s).1) in
    h r k

-- one step of the machine
pub unified_lighter : (s t : TypeState) → type_step s ≡ Lighter t → types_unified s ≡ types_unified t
unified_lighter s t e = (ends_once (types_reached s).1 (lighter t e (types_reached t).1)).0

pub unified_solved : (s t : TypeState) → type_step s ≡ Solved t → types_unified s ≡ types_unified t
unified_solved s t e = (ends_once (types_reached s).1 (solved t e (types_reached t).1)).0

pub unified_done : (s : TypeState) (o : Option (List TypeEntry)) → type_step s ≡ Done o → types_unified s ≡ o
unified_done s o e = (ends_once (types_reached s).1 (now e)).0

pub steps_left_lighter : (s t : TypeState) → type_step s ≡ Lighter t → steps_left s ≡ suc (steps_left t)
unfolding steps_left
steps_left_lighter s t e = (ends_once (types_reached s).1 (lighter t e (types_reached t).1)).1

pub steps_left_solved : (s t : TypeState) → type_step s ≡ Solved t → steps_left s ≡ suc (steps_left t)
unfolding steps_left
steps_left_solved s t e = (ends_once (types_reached s).1 (solved t e (types_reached t).1)).1
