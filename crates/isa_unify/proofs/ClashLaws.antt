-- The walk that looks for clashes finds them, and nothing else.
use Rattle.std.proofs.Common.{◌≡◌, ◌≢◌, ◌↔◌, ◌⊎◌, inl, inr, ℕ, zero, suc, List, [], ◌∷◌, ◌++◌, length, Bool, true, false, cond, nat_eq, Option, Some, None, is_some, refl, sym, ap, ◌∙◌, subst, arith}
use Rattle.std.specs.Prelude.{option_map}
use Rattle.std.specs.List.{slice_get}
use Rattle.isa_terms.specs.Types.{Ty}
use Rattle.isa_terms.specs.Terms.{Tm, Const, Free, Unknown, Bound, Abs, App}
use Rattle.isa_terms.specs.Equal.{name_eq}
use Rattle.isa_terms.specs.Normal.{IsHead}
use Rattle.isa_terms.specs.Instance.{inst_ty}
use Rattle.isa_terms.specs.declared.inst.TypeEntry.{TypeEntry}
use Rattle.isa_unify.specs.declared.equation.Variable.{Variable}
use Rattle.isa_unify.specs.declared.equation.Equation.{Equation}
use Rattle.isa_unify.specs.declared.progress.Parts.{Parts}
use Rattle.isa_unify.specs.declared.progress.Parts.TheVariants as parts
use Rattle.isa_unify.specs.Descent as Ending
use Rattle.isa_unify.specs.Descent.{Step, Done, Lighter, Solved, Ends}
use Rattle.isa_unify.specs.TypeUnification.{unify_typs}
use Rattle.isa_unify.specs.Spines.{head_of, args_of, is_flexible}
use Rattle.isa_unify.specs.Unification.{paired, inner_parts, typed_parts, meet, opened, parts_at, clash_step_at, clash_step, clashes}
use Rattle.isa_unify.specs.Clashes.{TypesAgree, HeadsAgree, AreRigid, Clash, heads, numbers, argument, bodies, left, right, HaveClash, ClashesAreFound}
use Rattle.isa_unify.proofs.Tests.{some_same, name_true, name_self, number_true, number_self}
use Rattle.isa_unify.proofs.TypesUnify.{types_most_general, types_no_unifier}
use Rattle.isa_unify.proofs.Adequacy.{clashes_reached}

-- ---- lists of equations
have_front : (ps es : List Equation) → HaveClash ps → HaveClash (ps ++ es)
have_front [] es h = absurd h
have_front (p ∷ ps) es (inl h) = inl h
have_front (p ∷ ps) es (inr h) = inr (have_front ps es h)

have_back : (ps es : List Equation) → HaveClash es → HaveClash (ps ++ es)
have_back [] es h = h
have_back (p ∷ ps) es h = inr (have_back ps es h)

have_either : (ps es : List Equation) → HaveClash (ps ++ es) → HaveClash ps ⊎ HaveClash es
have_either [] es h = inr h
have_either (p ∷ ps) es (inl h) = inl (inl h)
have_either (p ∷ ps) es (inr h) = go (have_either ps es h)
  where
    go : HaveClash ps ⊎ HaveClash es → HaveClash (p ∷ ps) ⊎ HaveClash es
    go (inl k) = inl (inr k)
    go (inr k) = inr k

-- ---- the pairs of arguments
-- two arguments at one place clash
record ArgumentsClash (ts us : List Tm) : Type 0 where
  place : ℕ
  first : Tm
  second : Tm
  there : slice_get ts place ≡ Some first
  here : slice_get us place ≡ Some second
  clash : Clash false first second

later : {t u : Tm} {ts us : List Tm} → ArgumentsClash ts us → ArgumentsClash (t ∷ ts) (u ∷ us)
later c = record { place = suc c.place; first = c.first; second = c.second; there = c.there; here = c.here; clash = c.clash }

paired_case : (bs : List Variable) (t u : Tm) (o : Option (List Equation)) (ps : List Equation) → option_map (λ es. record { binders = bs; left = t; right = u } ∷ es) o ≡ Some ps → (es : List Equation) × (o ≡ Some es) × (record { binders = bs; left = t; right = u } ∷ es ≡ ps)
paired_case bs t u None ps e = absurd (cc)
paired_case bs t u (Some es) ps e = (es, refl, some_same e)

paired_to : (bs : List Variable) (ts us : List Tm) (ps : List Equation) → paired bs ts us ≡ Some ps → HaveClash ps → ArgumentsClash ts us
paired_to bs [] [] ps e h = absurd (subst HaveClash (sym (some_same e)) h)
paired_to bs (t ∷ ts) (u ∷ us) ps e h =
    let c = paired_case bs t u (paired bs ts us) ps e in
    go c.0 (subst HaveClash (sym c.2) h) (λ k. paired_to bs ts us c.0 c.1 k)
  where
    go : (es : List Equation) → Clash false t u ⊎ HaveClash es → (HaveClash es → ArgumentsClash ts us) → ArgumentsClash (t ∷ ts) (u ∷ us)
    go es (inl c) ih = record { place = 0; first = t; second = u; there = refl; here = refl; clash = c }
    go es (inr c) ih = later (ih c)
paired_to bs [] (u ∷ us) ps e h = absurd (cc)
paired_to bs (t ∷ ts) [] ps e h = absurd (cc)

paired_from : (bs : List Variable) (ts us : List Tm) (ps : List Equation) → paired bs ts us ≡ Some ps → (i : ℕ) (a b : Tm) → slice_get ts i ≡ Some a → slice_get us i ≡ Some b → Clash false a b → HaveClash ps
paired_from bs [] us ps e i a b p q c = absurd (cc)
paired_from bs (t ∷ ts) [] ps e i a b p q c = absurd (cc)
paired_from bs (t ∷ ts) (u ∷ us) ps e i a b p q c =
    let f = paired_case bs t u (paired bs ts us) ps e in
    subst HaveClash f.2 (go i p q f.0 (λ j k l. paired_from bs ts us f.0 f.1 j a b k l c))
  where
    go : (j : ℕ) → slice_get (t ∷ ts) j ≡ Some a → slice_get (u ∷ us) j ≡ Some b → (es : List Equation) → ((j : ℕ) → slice_get ts j ≡ Some a → slice_get us j ≡ Some b → HaveClash es) → Clash false t u ⊎ HaveClash es
    go zero k l es g = inl (subst (λ x. Clash false t x) (sym (some_same l)) (subst (λ x. Clash false x b) (sym (some_same k)) c))
    go (suc j) k l es g = inr (g j k l)

paired_lengths : (bs : List Variable) (ts us : List Tm) (ps : List Equation) → paired bs ts us ≡ Some ps → length ts ≡ length us
paired_lengths bs [] [] ps e = refl
paired_lengths bs (t ∷ ts) (u ∷ us) ps e =
    let c = paired_case bs t u (paired bs ts us) ps e in
    ap (λ n. suc n) (paired_lengths bs ts us c.0 c.1)
paired_lengths bs [] (u ∷ us) ps e = absurd (cc)
paired_lengths bs (t ∷ ts) [] ps e = absurd (cc)

paired_not : (bs : List Variable) (ts us : List Tm) → paired bs ts us ≡ None → length ts ≡ length us → ⊥
paired_not bs [] [] e l = absurd (cc)
paired_not bs [] (u ∷ us) e l = absurd (omega arith)
paired_not bs (t ∷ ts) [] e l = absurd (omega arith)
paired_not bs (t ∷ ts) (u ∷ us) e l = go (paired bs ts us) refl e (λ k. paired_not bs ts us k (omega arith))
  where
    go : (o : Option (List Equation)) → paired bs ts us ≡ o → option_map (λ es. record { binders = bs; left = t; right = u } ∷ es) o ≡ None → (paired bs ts us ≡ None → ⊥) → ⊥
    go None k m ih = ih k
    go (Some es) k m ih = absurd (cc)

-- ---- heads
-- the heads, of which none is an unknown, don't agree, or the arguments clash
record Disagree (g : Tm) (ts : List Tm) (h : Tm) (us : List Tm) : Type 0 where
  left_rigid : is_flexible g ≡ false
  right_rigid : is_flexible h ≡ false
  why : (HeadsAgree false g h → ⊥) ⊎ ((length ts ≡ length us → ⊥) ⊎ (HeadsAgree false g h × ArgumentsClash ts us))

abbrev PartsClash : Parts → Type 0
PartsClash parts.Flexible = ⊥
PartsClash parts.Clash = Unit {0}
PartsClash (parts.Into es) = HaveClash es
PartsClash (parts.Heads S T es) = (is_some (unify_typs ((S, T) ∷ [])) ≡ false) ⊎ HaveClash es

types_agree : (S T : Ty) (o : Option (List TypeEntry)) → unify_typs ((S, T) ∷ []) ≡ o → (TypesAgree false S T × (is_some o ≡ true)) ⊎ ((TypesAgree false S T → ⊥) × (is_some o ≡ false))
types_agree S T (Some s) e = inl ((s, (types_most_general ((S, T) ∷ []) s e).unifies.0), refl)
types_agree S T None e = inr (λ a. types_no_unifier ((S, T) ∷ []) e a.0 (a.1, tt), refl)

-- of heads with types, when their names are the same
abbrev Why : (Type 0) → List Tm → List Tm → Type 0
Why A ts us = (A → ⊥) ⊎ ((length ts ≡ length us → ⊥) ⊎ (A × ArgumentsClash ts us))

typed_to : (bs : List Variable) (x y : List ℕ) (S T : Ty) (ts us : List Tm) (c : Bool) → name_eq x y ≡ c → (o : Option (List Equation)) → paired bs ts us ≡ o → PartsClash (cond c (typed_parts S T o) parts.Clash) → Why ((x ≡ y) × TypesAgree false S T) ts us
typed_to bs x y S T ts us false n o e h = inl (λ a. let k : false ≡ true = sym n ∙ (subst (λ z. name_eq x z ≡ true) a.0 (name_self x)) in absurd (cc))
typed_to bs x y S T ts us true n None e h = inr (inl (λ l. paired_not bs ts us e l))
typed_to bs x y S T ts us true n (Some ps) e h = go (types_agree S T (unify_typs ((S, T) ∷ [])) refl) h
  where
    go : (TypesAgree false S T × (is_some (unify_typs ((S, T) ∷ [])) ≡ true)) ⊎ ((TypesAgree false S T → ⊥) × (is_some (unify_typs ((S, T) ∷ [])) ≡ false)) → (is_some (unify_typs ((S, T) ∷ [])) ≡ false) ⊎ HaveClash ps → Why ((x ≡ y) × TypesAgree false S T) ts us
    go (inr a) k = inl (λ p. a.0 p.1)
    go (inl a) (inl k) = let f : false ≡ true = sym k ∙ a.1 in absurd (cc)
    go (inl a) (inr k) = inr (inr ((name_true x y n, a.0), paired_to bs ts us ps e k))

typed_from : (bs : List Variable) (x y : List ℕ) (S T : Ty) (ts us : List Tm) (c : Bool) → name_eq x y ≡ c → (o : Option (List Equation)) → paired bs ts us ≡ o → Why ((x ≡ y) × TypesAgree false S T) ts us → PartsClash (cond c (typed_parts S T o) parts.Clash)
typed_from bs x y S T ts us false n o e h = tt
typed_from bs x y S T ts us true n None e h = tt
typed_from bs x y S T ts us true n (Some ps) e h = go (types_agree S T (unify_typs ((S, T) ∷ [])) refl) h
  where
    go : (TypesAgree false S T × (is_some (unify_typs ((S, T) ∷ [])) ≡ true)) ⊎ ((TypesAgree false S T → ⊥) × (is_some (unify_typs ((S, T) ∷ [])) ≡ false)) → Why ((x ≡ y) × TypesAgree false S T) ts us → (is_some (unify_typs ((S, T) ∷ [])) ≡ false) ⊎ HaveClash ps
    go (inr a) k = inl a.1
    go (inl a) (inl k) = absurd (k (name_true x y n, a.0))
    go (inl a) (inr (inl k)) = absurd (k (paired_lengths bs ts us ps e))
    go (inl a) (inr (inr k)) = inr (paired_from bs ts us ps e k.1.place k.1.first k.1.second k.1.there k.1.here k.1.clash)

numbered_to : (bs : List Variable) (m n : ℕ) (ts us : List Tm) (c : Bool) → nat_eq m n ≡ c → (o : Option (List Equation)) → paired bs ts us ≡ o → PartsClash (cond c (inner_parts o) parts.Clash) → Why (m ≡ n) ts us
numbered_to bs m n ts us false k o e h = inl (λ a. let f : false ≡ true = sym k ∙ (subst (λ z. nat_eq m z ≡ true) a (number_self m)) in absurd (cc))
numbered_to bs m n ts us true k None e h = inr (inl (λ l. paired_not bs ts us e l))
numbered_to bs m n ts us true k (Some ps) e h = inr (inr (number_true m n k, paired_to bs ts us ps e h))

numbered_from : (bs : List Variable) (m n : ℕ) (ts us : List Tm) (c : Bool) → nat_eq m n ≡ c → (o : Option (List Equation)) → paired bs ts us ≡ o → Why (m ≡ n) ts us → PartsClash (cond c (inner_parts o) parts.Clash)
numbered_from bs m n ts us false k o e h = tt
numbered_from bs m n ts us true k None e h = tt
numbered_from bs m n ts us true k (Some ps) e (inl h) = absurd (h (number_true m n k))
numbered_from bs m n ts us true k (Some ps) e (inr (inl h)) = absurd (h (paired_lengths bs ts us ps e))
numbered_from bs m n ts us true k (Some ps) e (inr (inr h)) = paired_from bs ts us ps e h.1.place h.1.first h.1.second h.1.there h.1.here h.1.clash

-- what may stand at a head
abbrev IsAtom : Tm → Type 0
IsAtom (App f a) = ⊥
IsAtom _ = Unit {0}

head_atom : (t : Tm) → IsAtom (head_of t)
head_atom (Const x T) = tt
head_atom (Free x T) = tt
head_atom (Unknown x i T) = tt
head_atom (Bound n) = tt
head_atom (Abs x T b) = tt
head_atom (App f a) = head_atom f

head_flexible : (t : Tm) → is_flexible (head_of t) ≡ is_flexible t
head_flexible (Const x T) = refl
head_flexible (Free x T) = refl
head_flexible (Unknown x i T) = refl
head_flexible (Bound n) = refl
head_flexible (Abs x T b) = refl
head_flexible (App f a) = head_flexible f

meet_to : (bs : List Variable) (g : Tm) (ts : List Tm) (h : Tm) (us : List Tm) → IsAtom g → IsAtom h → PartsClash (meet bs g ts h us) → Disagree g ts h us
meet_to bs (Const x1 T1) ts (Const x2 T2) us i j p = record { left_rigid = refl; right_rigid = refl; why = typed_to bs x1 x2 T1 T2 ts us (name_eq x1 x2) refl (paired bs ts us) refl p }
meet_to bs (Const x1 T1) ts (Free x2 T2) us i j p = record { left_rigid = refl; right_rigid = refl; why = inl (λ a. a) }
meet_to bs (Const x1 T1) ts (Unknown x2 n2 T2) us i j p = absurd p
meet_to bs (Const x1 T1) ts (Bound n2) us i j p = record { left_rigid = refl; right_rigid = refl; why = inl (λ a. a) }
meet_to bs (Const x1 T1) ts (Abs x2 T2 b2) us i j p = record { left_rigid = refl; right_rigid = refl; why = inl (λ a. a) }
meet_to bs (Const x1 T1) ts (App f2 a2) us i j p = absurd j
meet_to bs (Free x1 T1) ts (Const x2 T2) us i j p = record { left_rigid = refl; right_rigid = refl; why = inl (λ a. a) }
meet_to bs (Free x1 T1) ts (Free x2 T2) us i j p = record { left_rigid = refl; right_rigid = refl; why = typed_to bs x1 x2 T1 T2 ts us (name_eq x1 x2) refl (paired bs ts us) refl p }
meet_to bs (Free x1 T1) ts (Unknown x2 n2 T2) us i j p = absurd p
meet_to bs (Free x1 T1) ts (Bound n2) us i j p = record { left_rigid = refl; right_rigid = refl; why = inl (λ a. a) }
meet_to bs (Free x1 T1) ts (Abs x2 T2 b2) us i j p = record { left_rigid = refl; right_rigid = refl; why = inl (λ a. a) }
meet_to bs (Free x1 T1) ts (App f2 a2) us i j p = absurd j
meet_to bs (Unknown x1 n1 T1) ts (Const x2 T2) us i j p = absurd p
meet_to bs (Unknown x1 n1 T1) ts (Free x2 T2) us i j p = absurd p
meet_to bs (Unknown x1 n1 T1) ts (Unknown x2 n2 T2) us i j p = absurd p
meet_to bs (Unknown x1 n1 T1) ts (Bound n2) us i j p = absurd p
meet_to bs (Unknown x1 n1 T1) ts (Abs x2 T2 b2) us i j p = absurd p
meet_to bs (Unknown x1 n1 T1) ts (App f2 a2) us i j p = absurd j
meet_to bs (Bound n1) ts (Const x2 T2) us i j p = record { left_rigid = refl; right_rigid = refl; why = inl (λ a. a) }
meet_to bs (Bound n1) ts (Free x2 T2) us i j p = record { left_rigid = refl; right_rigid = refl; why = inl (λ a. a) }
meet_to bs (Bound n1) ts (Unknown x2 n2 T2) us i j p = absurd p
meet_to bs (Bound n1) ts (Bound n2) us i j p = record { left_rigid = refl; right_rigid = refl; why = numbered_to bs n1 n2 ts us (nat_eq n1 n2) refl (paired bs ts us) refl p }
meet_to bs (Bound n1) ts (Abs x2 T2 b2) us i j p = record { left_rigid = refl; right_rigid = refl; why = inl (λ a. a) }
meet_to bs (Bound n1) ts (App f2 a2) us i j p = absurd j
meet_to bs (Abs x1 T1 b1) ts (Const x2 T2) us i j p = record { left_rigid = refl; right_rigid = refl; why = inl (λ a. a) }
meet_to bs (Abs x1 T1 b1) ts (Free x2 T2) us i j p = record { left_rigid = refl; right_rigid = refl; why = inl (λ a. a) }
meet_to bs (Abs x1 T1 b1) ts (Unknown x2 n2 T2) us i j p = absurd p
meet_to bs (Abs x1 T1 b1) ts (Bound n2) us i j p = record { left_rigid = refl; right_rigid = refl; why = inl (λ a. a) }
meet_to bs (Abs x1 T1 b1) ts (Abs x2 T2 b2) us i j p = record { left_rigid = refl; right_rigid = refl; why = inl (λ a. a) }
meet_to bs (Abs x1 T1 b1) ts (App f2 a2) us i j p = absurd j
meet_to bs (App f1 a1) ts (Const x2 T2) us i j p = absurd i
meet_to bs (App f1 a1) ts (Free x2 T2) us i j p = absurd i
meet_to bs (App f1 a1) ts (Unknown x2 n2 T2) us i j p = absurd i
meet_to bs (App f1 a1) ts (Bound n2) us i j p = absurd i
meet_to bs (App f1 a1) ts (Abs x2 T2 b2) us i j p = absurd i
meet_to bs (App f1 a1) ts (App f2 a2) us i j p = absurd i

meet_from : (bs : List Variable) (g : Tm) (ts : List Tm) (h : Tm) (us : List Tm) → IsAtom g → IsAtom h → Disagree g ts h us → PartsClash (meet bs g ts h us)
meet_from bs (Const x1 T1) ts (Const x2 T2) us i j p = typed_from bs x1 x2 T1 T2 ts us (name_eq x1 x2) refl (paired bs ts us) refl p.why
meet_from bs (Const x1 T1) ts (Free x2 T2) us i j p = tt
meet_from bs (Const x1 T1) ts (Unknown x2 n2 T2) us i j p = let f = p.right_rigid in absurd (cc)
meet_from bs (Const x1 T1) ts (Bound n2) us i j p = tt
meet_from bs (Const x1 T1) ts (Abs x2 T2 b2) us i j p = tt
meet_from bs (Const x1 T1) ts (App f2 a2) us i j p = absurd j
meet_from bs (Free x1 T1) ts (Const x2 T2) us i j p = tt
meet_from bs (Free x1 T1) ts (Free x2 T2) us i j p = typed_from bs x1 x2 T1 T2 ts us (name_eq x1 x2) refl (paired bs ts us) refl p.why
meet_from bs (Free x1 T1) ts (Unknown x2 n2 T2) us i j p = let f = p.right_rigid in absurd (cc)
meet_from bs (Free x1 T1) ts (Bound n2) us i j p = tt
meet_from bs (Free x1 T1) ts (Abs x2 T2 b2) us i j p = tt
meet_from bs (Free x1 T1) ts (App f2 a2) us i j p = absurd j
meet_from bs (Unknown x1 n1 T1) ts (Const x2 T2) us i j p = let f = p.left_rigid in absurd (cc)
meet_from bs (Unknown x1 n1 T1) ts (Free x2 T2) us i j p = let f = p.left_rigid in absurd (cc)
meet_from bs (Unknown x1 n1 T1) ts (Unknown x2 n2 T2) us i j p = let f = p.left_rigid in absurd (cc)
meet_from bs (Unknown x1 n1 T1) ts (Bound n2) us i j p = let f = p.left_rigid in absurd (cc)
meet_from bs (Unknown x1 n1 T1) ts (Abs x2 T2 b2) us i j p = let f = p.left_rigid in absurd (cc)
meet_from bs (Unknown x1 n1 T1) ts (App f2 a2) us i j p = absurd j
meet_from bs (Bound n1) ts (Const x2 T2) us i j p = tt
meet_from bs (Bound n1) ts (Free x2 T2) us i j p = tt
meet_from bs (Bound n1) ts (Unknown x2 n2 T2) us i j p = let f = p.right_rigid in absurd (cc)
meet_from bs (Bound n1) ts (Bound n2) us i j p = numbered_from bs n1 n2 ts us (nat_eq n1 n2) refl (paired bs ts us) refl p.why
meet_from bs (Bound n1) ts (Abs x2 T2 b2) us i j p = tt
meet_from bs (Bound n1) ts (App f2 a2) us i j p = absurd j
meet_from bs (Abs x1 T1 b1) ts (Const x2 T2) us i j p = tt
meet_from bs (Abs x1 T1 b1) ts (Free x2 T2) us i j p = tt
meet_from bs (Abs x1 T1 b1) ts (Unknown x2 n2 T2) us i j p = let f = p.right_rigid in absurd (cc)
meet_from bs (Abs x1 T1 b1) ts (Bound n2) us i j p = tt
meet_from bs (Abs x1 T1 b1) ts (Abs x2 T2 b2) us i j p = tt
meet_from bs (Abs x1 T1 b1) ts (App f2 a2) us i j p = absurd j
meet_from bs (App f1 a1) ts (Const x2 T2) us i j p = absurd i
meet_from bs (App f1 a1) ts (Free x2 T2) us i j p = absurd i
meet_from bs (App f1 a1) ts (Unknown x2 n2 T2) us i j p = absurd i
meet_from bs (App f1 a1) ts (Bound n2) us i j p = absurd i
meet_from bs (App f1 a1) ts (Abs x2 T2 b2) us i j p = absurd i
meet_from bs (App f1 a1) ts (App f2 a2) us i j p = absurd i

-- ---- the parts of an equation
spines_to : (bs : List Variable) (t u : Tm) → IsHead t → IsHead u → PartsClash (meet bs (head_of t) (args_of t) (head_of u) (args_of u)) → Clash false t u
spines_to bs t u h k p =
    let d = meet_to bs (head_of t) (args_of t) (head_of u) (args_of u) (head_atom t) (head_atom u) p in
    go (record { left_head = h; right_head = k; left = sym (head_flexible t) ∙ d.left_rigid; right = λ e. sym (head_flexible u) ∙ d.right_rigid }) d.why
  where
    go : AreRigid false t u → Why (HeadsAgree false (head_of t) (head_of u)) (args_of t) (args_of u) → Clash false t u
    go r (inl n) = heads r n
    go r (inr (inl n)) = numbers r n
    go r (inr (inr c)) = argument r c.0 c.1.place c.1.first c.1.second c.1.there c.1.here c.1.clash

spines_why : (t u : Tm) → IsHead t → IsHead u → Clash false t u → AreRigid false t u × Why (HeadsAgree false (head_of t) (head_of u)) (args_of t) (args_of u)
spines_why t u h k (heads r n) = (r, inl n)
spines_why t u h k (numbers r n) = (r, inr (inl n))
spines_why t u h k (argument r a i b c p q d) = (r, inr (inr (a, record { place = i; first = b; second = c; there = p; here = q; clash = d })))
spines_why t u h k (bodies c) = absurd h
spines_why t u h k (left i c) = absurd h
spines_why t u h k (right i c) = absurd k

spines_from : (bs : List Variable) (t u : Tm) → IsHead t → IsHead u → Clash false t u → PartsClash (meet bs (head_of t) (args_of t) (head_of u) (args_of u))
spines_from bs t u h k c =
    let w = spines_why t u h k c in
    meet_from bs (head_of t) (args_of t) (head_of u) (args_of u) (head_atom t) (head_atom u) (record { left_rigid = head_flexible t ∙ w.0.left; right_rigid = head_flexible u ∙ w.0.right refl; why = w.1 })

left_body : {x : List ℕ} {S : Ty} {b u : Tm} → IsHead u → Clash false (Abs x S b) u → Clash false b (opened u)
left_body h (heads r n) = absurd r.left_head
left_body h (numbers r n) = absurd r.left_head
left_body h (argument r a i b c p q d) = absurd r.left_head
left_body h (bodies c) = absurd h
left_body h (left i c) = c
left_body h (right i c) = absurd i

right_body : {y : List ℕ} {T : Ty} {t c : Tm} → IsHead t → Clash false t (Abs y T c) → Clash false (opened t) c
right_body h (heads r n) = absurd r.right_head
right_body h (numbers r n) = absurd r.right_head
right_body h (argument r a i b c p q d) = absurd r.right_head
right_body h (bodies c) = absurd h
right_body h (left i c) = absurd i
right_body h (right i c) = c

both_bodies : {x y : List ℕ} {S T : Ty} {b c : Tm} → Clash false (Abs x S b) (Abs y T c) → Clash false b c
both_bodies (heads r n) = absurd r.left_head
both_bodies (numbers r n) = absurd r.left_head
both_bodies (argument r a i b c p q d) = absurd r.left_head
both_bodies (bodies c) = c
both_bodies (left i c) = absurd i
both_bodies (right i c) = absurd i

one : {P : Type 0} → P ⊎ ⊥ → P
one (inl p) = p
one (inr n) = absurd n

parts_to : (bs : List Variable) (t u : Tm) → PartsClash (parts_at bs t u) → Clash false t u
unfolding parts_at
parts_to bs (Const x1 T1) (Const x2 T2) p = spines_to bs (Const x1 T1) (Const x2 T2) tt tt p
parts_to bs (Const x1 T1) (Free x2 T2) p = spines_to bs (Const x1 T1) (Free x2 T2) tt tt p
parts_to bs (Const x1 T1) (Unknown x2 n2 T2) p = spines_to bs (Const x1 T1) (Unknown x2 n2 T2) tt tt p
parts_to bs (Const x1 T1) (Bound n2) p = spines_to bs (Const x1 T1) (Bound n2) tt tt p
parts_to bs (Const x1 T1) (Abs x2 T2 b2) p = right tt (one p)
parts_to bs (Const x1 T1) (App f2 a2) p = spines_to bs (Const x1 T1) (App f2 a2) tt tt p
parts_to bs (Free x1 T1) (Const x2 T2) p = spines_to bs (Free x1 T1) (Const x2 T2) tt tt p
parts_to bs (Free x1 T1) (Free x2 T2) p = spines_to bs (Free x1 T1) (Free x2 T2) tt tt p
parts_to bs (Free x1 T1) (Unknown x2 n2 T2) p = spines_to bs (Free x1 T1) (Unknown x2 n2 T2) tt tt p
parts_to bs (Free x1 T1) (Bound n2) p = spines_to bs (Free x1 T1) (Bound n2) tt tt p
parts_to bs (Free x1 T1) (Abs x2 T2 b2) p = right tt (one p)
parts_to bs (Free x1 T1) (App f2 a2) p = spines_to bs (Free x1 T1) (App f2 a2) tt tt p
parts_to bs (Unknown x1 n1 T1) (Const x2 T2) p = spines_to bs (Unknown x1 n1 T1) (Const x2 T2) tt tt p
parts_to bs (Unknown x1 n1 T1) (Free x2 T2) p = spines_to bs (Unknown x1 n1 T1) (Free x2 T2) tt tt p
parts_to bs (Unknown x1 n1 T1) (Unknown x2 n2 T2) p = spines_to bs (Unknown x1 n1 T1) (Unknown x2 n2 T2) tt tt p
parts_to bs (Unknown x1 n1 T1) (Bound n2) p = spines_to bs (Unknown x1 n1 T1) (Bound n2) tt tt p
parts_to bs (Unknown x1 n1 T1) (Abs x2 T2 b2) p = right tt (one p)
parts_to bs (Unknown x1 n1 T1) (App f2 a2) p = spines_to bs (Unknown x1 n1 T1) (App f2 a2) tt tt p
parts_to bs (Bound n1) (Const x2 T2) p = spines_to bs (Bound n1) (Const x2 T2) tt tt p
parts_to bs (Bound n1) (Free x2 T2) p = spines_to bs (Bound n1) (Free x2 T2) tt tt p
parts_to bs (Bound n1) (Unknown x2 n2 T2) p = spines_to bs (Bound n1) (Unknown x2 n2 T2) tt tt p
parts_to bs (Bound n1) (Bound n2) p = spines_to bs (Bound n1) (Bound n2) tt tt p
parts_to bs (Bound n1) (Abs x2 T2 b2) p = right tt (one p)
parts_to bs (Bound n1) (App f2 a2) p = spines_to bs (Bound n1) (App f2 a2) tt tt p
parts_to bs (Abs x1 T1 b1) (Const x2 T2) p = left tt (one p)
parts_to bs (Abs x1 T1 b1) (Free x2 T2) p = left tt (one p)
parts_to bs (Abs x1 T1 b1) (Unknown x2 n2 T2) p = left tt (one p)
parts_to bs (Abs x1 T1 b1) (Bound n2) p = left tt (one p)
parts_to bs (Abs x1 T1 b1) (Abs x2 T2 b2) p = bodies (one p)
parts_to bs (Abs x1 T1 b1) (App f2 a2) p = left tt (one p)
parts_to bs (App f1 a1) (Const x2 T2) p = spines_to bs (App f1 a1) (Const x2 T2) tt tt p
parts_to bs (App f1 a1) (Free x2 T2) p = spines_to bs (App f1 a1) (Free x2 T2) tt tt p
parts_to bs (App f1 a1) (Unknown x2 n2 T2) p = spines_to bs (App f1 a1) (Unknown x2 n2 T2) tt tt p
parts_to bs (App f1 a1) (Bound n2) p = spines_to bs (App f1 a1) (Bound n2) tt tt p
parts_to bs (App f1 a1) (Abs x2 T2 b2) p = right tt (one p)
parts_to bs (App f1 a1) (App f2 a2) p = spines_to bs (App f1 a1) (App f2 a2) tt tt p

parts_from : (bs : List Variable) (t u : Tm) → Clash false t u → PartsClash (parts_at bs t u)
unfolding parts_at
parts_from bs (Const x1 T1) (Const x2 T2) p = spines_from bs (Const x1 T1) (Const x2 T2) tt tt p
parts_from bs (Const x1 T1) (Free x2 T2) p = spines_from bs (Const x1 T1) (Free x2 T2) tt tt p
parts_from bs (Const x1 T1) (Unknown x2 n2 T2) p = spines_from bs (Const x1 T1) (Unknown x2 n2 T2) tt tt p
parts_from bs (Const x1 T1) (Bound n2) p = spines_from bs (Const x1 T1) (Bound n2) tt tt p
parts_from bs (Const x1 T1) (Abs x2 T2 b2) p = inl (right_body tt p)
parts_from bs (Const x1 T1) (App f2 a2) p = spines_from bs (Const x1 T1) (App f2 a2) tt tt p
parts_from bs (Free x1 T1) (Const x2 T2) p = spines_from bs (Free x1 T1) (Const x2 T2) tt tt p
parts_from bs (Free x1 T1) (Free x2 T2) p = spines_from bs (Free x1 T1) (Free x2 T2) tt tt p
parts_from bs (Free x1 T1) (Unknown x2 n2 T2) p = spines_from bs (Free x1 T1) (Unknown x2 n2 T2) tt tt p
parts_from bs (Free x1 T1) (Bound n2) p = spines_from bs (Free x1 T1) (Bound n2) tt tt p
parts_from bs (Free x1 T1) (Abs x2 T2 b2) p = inl (right_body tt p)
parts_from bs (Free x1 T1) (App f2 a2) p = spines_from bs (Free x1 T1) (App f2 a2) tt tt p
parts_from bs (Unknown x1 n1 T1) (Const x2 T2) p = spines_from bs (Unknown x1 n1 T1) (Const x2 T2) tt tt p
parts_from bs (Unknown x1 n1 T1) (Free x2 T2) p = spines_from bs (Unknown x1 n1 T1) (Free x2 T2) tt tt p
parts_from bs (Unknown x1 n1 T1) (Unknown x2 n2 T2) p = spines_from bs (Unknown x1 n1 T1) (Unknown x2 n2 T2) tt tt p
parts_from bs (Unknown x1 n1 T1) (Bound n2) p = spines_from bs (Unknown x1 n1 T1) (Bound n2) tt tt p
parts_from bs (Unknown x1 n1 T1) (Abs x2 T2 b2) p = inl (right_body tt p)
parts_from bs (Unknown x1 n1 T1) (App f2 a2) p = spines_from bs (Unknown x1 n1 T1) (App f2 a2) tt tt p
parts_from bs (Bound n1) (Const x2 T2) p = spines_from bs (Bound n1) (Const x2 T2) tt tt p
parts_from bs (Bound n1) (Free x2 T2) p = spines_from bs (Bound n1) (Free x2 T2) tt tt p
parts_from bs (Bound n1) (Unknown x2 n2 T2) p = spines_from bs (Bound n1) (Unknown x2 n2 T2) tt tt p
parts_from bs (Bound n1) (Bound n2) p = spines_from bs (Bound n1) (Bound n2) tt tt p
parts_from bs (Bound n1) (Abs x2 T2 b2) p = inl (right_body tt p)
parts_from bs (Bound n1) (App f2 a2) p = spines_from bs (Bound n1) (App f2 a2) tt tt p
parts_from bs (Abs x1 T1 b1) (Const x2 T2) p = inl (left_body tt p)
parts_from bs (Abs x1 T1 b1) (Free x2 T2) p = inl (left_body tt p)
parts_from bs (Abs x1 T1 b1) (Unknown x2 n2 T2) p = inl (left_body tt p)
parts_from bs (Abs x1 T1 b1) (Bound n2) p = inl (left_body tt p)
parts_from bs (Abs x1 T1 b1) (Abs x2 T2 b2) p = inl (both_bodies p)
parts_from bs (Abs x1 T1 b1) (App f2 a2) p = inl (left_body tt p)
parts_from bs (App f1 a1) (Const x2 T2) p = spines_from bs (App f1 a1) (Const x2 T2) tt tt p
parts_from bs (App f1 a1) (Free x2 T2) p = spines_from bs (App f1 a1) (Free x2 T2) tt tt p
parts_from bs (App f1 a1) (Unknown x2 n2 T2) p = spines_from bs (App f1 a1) (Unknown x2 n2 T2) tt tt p
parts_from bs (App f1 a1) (Bound n2) p = spines_from bs (App f1 a1) (Bound n2) tt tt p
parts_from bs (App f1 a1) (Abs x2 T2 b2) p = inl (right_body tt p)
parts_from bs (App f1 a1) (App f2 a2) p = spines_from bs (App f1 a1) (App f2 a2) tt tt p

-- ---- the walk
abbrev StepClash : Step (List Equation) Bool → Type 0
StepClash (Done b) = b ≡ true
StepClash (Lighter es) = HaveClash es
StepClash (Solved es) = HaveClash es

front_to : (p : Parts) (es : List Equation) → StepClash (clash_step_at p es) → PartsClash p ⊎ HaveClash es
front_to parts.Flexible es h = inr h
front_to parts.Clash es h = inl tt
front_to (parts.Into ps) es h = have_either ps es h
front_to (parts.Heads S T ps) es h = go (is_some (unify_typs ((S, T) ∷ []))) refl h
  where
    go : (c : Bool) → is_some (unify_typs ((S, T) ∷ [])) ≡ c → StepClash (cond c (Lighter (ps ++ es)) (Done true)) → ((is_some (unify_typs ((S, T) ∷ [])) ≡ false) ⊎ HaveClash ps) ⊎ HaveClash es
    go true e k = elim (have_either ps es k) [ inl c ↦ inl (inr c) | inr c ↦ inr c ]
    go false e k = inl (inl e)

front_from : (p : Parts) (es : List Equation) → PartsClash p ⊎ HaveClash es → StepClash (clash_step_at p es)
front_from parts.Flexible es (inl h) = absurd h
front_from parts.Flexible es (inr h) = h
front_from parts.Clash es h = refl
front_from (parts.Into ps) es (inl h) = have_front ps es h
front_from (parts.Into ps) es (inr h) = have_back ps es h
front_from (parts.Heads S T ps) es h = go (is_some (unify_typs ((S, T) ∷ []))) refl h
  where
    go : (c : Bool) → is_some (unify_typs ((S, T) ∷ [])) ≡ c → ((is_some (unify_typs ((S, T) ∷ [])) ≡ false) ⊎ HaveClash ps) ⊎ HaveClash es → StepClash (cond c (Lighter (ps ++ es)) (Done true))
    go true e (inl (inl k)) = let f : true ≡ false = sym e ∙ k in absurd (cc)
    go true e (inl (inr k)) = have_front ps es k
    go true e (inr k) = have_back ps es k
    go false e k = refl

step_to : (es : List Equation) → StepClash (clash_step es) → HaveClash es
unfolding clash_step
step_to [] h = absurd (cc)
step_to (e ∷ es) h = elim (front_to (parts_at e.binders e.left e.right) es h) [ inl c ↦ inl (parts_to e.binders e.left e.right c) | inr c ↦ inr c ]

step_from : (es : List Equation) → HaveClash es → StepClash (clash_step es)
unfolding clash_step
step_from [] h = absurd h
step_from (e ∷ es) (inl h) = front_from (parts_at e.binders e.left e.right) es (inl (parts_from e.binders e.left e.right h))
step_from (e ∷ es) (inr h) = front_from (parts_at e.binders e.left e.right) es (inr h)

found : {b : Bool} {es : List Equation} {k : ℕ} → Ends clash_step b es k → b ≡ true → HaveClash es
found {b} {es} (Ending.now e) h = step_to es (subst StepClash (sym e) h)
found {b} {es} (Ending.lighter t e g) h = step_to es (subst StepClash (sym e) (found g h))
found {b} {es} (Ending.solved t e g) h = step_to es (subst StepClash (sym e) (found g h))

missed : {b : Bool} {es : List Equation} {k : ℕ} → Ends clash_step b es k → HaveClash es → b ≡ true
missed {b} {es} (Ending.now e) h = subst StepClash e (step_from es h)
missed {b} {es} (Ending.lighter t e g) h = missed g (subst StepClash e (step_from es h))
missed {b} {es} (Ending.solved t e g) h = missed g (subst StepClash e (step_from es h))

pub clashes_are_found : ClashesAreFound
clashes_are_found es = (λ h. found (clashes_reached es).1 h, λ h. missed (clashes_reached es).1 h)
