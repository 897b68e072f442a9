-- The parts of an equation weigh less than it, and have no other unknowns.
use Rattle.std.proofs.Common.{◌≡◌, ℕ, suc, ◌+◌, ◌<◌, ◌≤◌, List, [], ◌∷◌, ◌++◌, map, Bool, true, false, cond, ◌||◌, nat_eq, nat_lt, refl, sym, ap, subst, ◌∙◌, ◌⊎◌, inl, inr, arith, Option, Some, None}
use Rattle.std.specs.Prelude.{option_map}
use Rattle.isa_terms.specs.Types.{Ty}
use Rattle.isa_terms.specs.Terms.{Tm, Const, Free, Unknown, Bound, Abs, App}
use Rattle.isa_terms.specs.Equal.{name_eq}
use Rattle.isa_terms.specs.Replace.{raise}
use Rattle.isa_terms.specs.declared.inst.TypeEntry.{TypeEntry}
use Rattle.isa_unify.specs.declared.equation.Variable.{Variable}
use Rattle.isa_unify.specs.declared.equation.Equation.{Equation}
use Rattle.isa_unify.specs.declared.progress.Parts.{Parts}
use Rattle.isa_unify.specs.declared.progress.Parts.TheVariants.{Flexible, Clash, Into, Heads}
use Rattle.isa_unify.specs.Spines.{head_of, args_of}
use Rattle.isa_unify.specs.Unification.{paired, inner_parts, typed_parts, meet, opened, stripped, parts_at, tm_weight, weight, retyped, retyped_equation}
use Rattle.isa_unify.proofs.Unknowns.{Key, stands, stands-raise, either_true, or_left, or_right}

-- 1. Weights

pub weight-raise : (n k : ℕ) (t : Tm) → tm_weight (raise n k t) ≡ tm_weight t
weight-raise n k (Const x T) = refl
weight-raise n k (Free x T) = refl
weight-raise n k (Unknown x i T) = refl
weight-raise n k (Bound m) = elim (nat_lt m k) as (λ c. tm_weight (cond c (Bound m) (Bound (m + n))) ≡ 1) [ true ↦ refl | false ↦ refl ]
weight-raise n k (Abs x T b) = ap (λ w. 4 + w) (weight-raise n (k + 1) b)
weight-raise n k (App f a) = λ i. suc (weight-raise n k f i + weight-raise n k a i)

pub weight-retyped : (s : List TypeEntry) (t : Tm) → tm_weight (retyped s t) ≡ tm_weight t
weight-retyped s (Const x T) = refl
weight-retyped s (Free x T) = refl
weight-retyped s (Unknown x i T) = refl
weight-retyped s (Bound n) = refl
weight-retyped s (Abs x T b) = ap (λ w. 4 + w) (weight-retyped s b)
weight-retyped s (App f a) = λ i. suc (weight-retyped s f i + weight-retyped s a i)

pub weight-retyped_equations : (s : List TypeEntry) (es : List Equation) → weight (map (retyped_equation s) es) ≡ weight es
weight-retyped_equations s [] = refl
weight-retyped_equations s (e ∷ es) = λ i. suc (weight-retyped s e.left i + weight-retyped s e.right i + weight-retyped_equations s es i)

pub weight-append : (es fs : List Equation) → weight (es ++ fs) ≡ weight es + weight fs
weight-append [] fs = omega arith
weight-append (e ∷ es) fs = let h = weight-append es fs in omega (arith, h)

abbrev args_weight : List Tm → ℕ
args_weight [] = 0
args_weight (t ∷ ts) = suc (tm_weight t + args_weight ts)

args_weight-append : (ts us : List Tm) → args_weight (ts ++ us) ≡ args_weight ts + args_weight us
args_weight-append [] us = omega arith
args_weight-append (t ∷ ts) us = let h = args_weight-append ts us in omega (arith, h)

abbrev pub some_stands : Key → List Tm → Bool
some_stands k [] = false
some_stands k (t ∷ ts) = stands k t || some_stands k ts

abbrev pub occurs : Key → List Equation → Bool
occurs k [] = false
occurs k (e ∷ es) = stands k e.left || (stands k e.right || occurs k es)

args_weigh : (t : Tm) → args_weight (args_of t) < suc (tm_weight t)
args_weigh (Const x T) = omega arith
args_weigh (Free x T) = omega arith
args_weigh (Unknown x i T) = omega arith
args_weigh (Bound n) = omega arith
args_weigh (Abs x T b) = omega arith
args_weigh (App f a) = let h = args_weigh f in let e = args_weight-append (args_of f) (a ∷ []) in omega (arith, h, e)

pub head_stands : (k : Key) (t : Tm) → stands k (head_of t) ≡ true → stands k t ≡ true
head_stands k (Const x T) h = h
head_stands k (Free x T) h = h
head_stands k (Unknown x i T) h = h
head_stands k (Bound n) h = h
head_stands k (Abs x T b) h = h
head_stands k (App f a) h = or_left (stands k f) (stands k a) (head_stands k f h)

pub some_either : (k : Key) (ts us : List Tm) → some_stands k (ts ++ us) ≡ true → (some_stands k ts ≡ true) ⊎ (some_stands k us ≡ true)
some_either k [] us h = inr h
some_either k (t ∷ ts) us h = go (either_true (stands k t) (some_stands k (ts ++ us)) h) (some_either k ts us)
  where
    later : (some_stands k ts ≡ true) ⊎ (some_stands k us ≡ true) → (some_stands k (t ∷ ts) ≡ true) ⊎ (some_stands k us ≡ true)
    later (inl d) = inl (or_right (stands k t) (some_stands k ts) d)
    later (inr d) = inr d

    go : (stands k t ≡ true) ⊎ (some_stands k (ts ++ us) ≡ true) → (some_stands k (ts ++ us) ≡ true → (some_stands k ts ≡ true) ⊎ (some_stands k us ≡ true)) → (some_stands k (t ∷ ts) ≡ true) ⊎ (some_stands k us ≡ true)
    go (inl d) ih = inl (or_left (stands k t) (some_stands k ts) d)
    go (inr d) ih = later (ih d)

only_true : (a : Bool) → (a || false) ≡ true → a ≡ true
only_true true h = refl
only_true false h = absurd (cc)

pub args_stand : (k : Key) (t : Tm) → some_stands k (args_of t) ≡ true → stands k t ≡ true
args_stand k (Const x T) h = absurd (cc)
args_stand k (Free x T) h = absurd (cc)
args_stand k (Unknown x i T) h = absurd (cc)
args_stand k (Bound n) h = absurd (cc)
args_stand k (Abs x T b) h = absurd (cc)
args_stand k (App f a) h = go (some_either k (args_of f) (a ∷ []) h) (args_stand k f)
  where
    go : (some_stands k (args_of f) ≡ true) ⊎ (some_stands k (a ∷ []) ≡ true) → (some_stands k (args_of f) ≡ true → stands k f ≡ true) → stands k (App f a) ≡ true
    go (inl d) ih = or_left (stands k f) (stands k a) (ih d)
    go (inr d) ih = or_right (stands k f) (stands k a) (only_true (stands k a) d)

-- 2. The parts of an equation

-- the pairs of arguments weigh no more, and have no other unknowns
record PairsFall (ts us : List Tm) (es : List Equation) : Type 0 where
  falls : weight es ≤ args_weight ts + args_weight us
  within : (k : Key) → occurs k es ≡ true → (some_stands k ts ≡ true) ⊎ (some_stands k us ≡ true)

more_pairs : (bs : List Variable) (t u : Tm) (ts us : List Tm) (es : List Equation) → PairsFall ts us es → PairsFall (t ∷ ts) (u ∷ us) (record { binders = bs; left = t; right = u } ∷ es)
more_pairs bs t u ts us es p = record {
  falls = let h = p.falls in omega (arith, h);
  within = λ k h. go k (either_true (stands k t) (stands k u || occurs k es) h);
}
  where
    later : (k : Key) → (some_stands k ts ≡ true) ⊎ (some_stands k us ≡ true) → (some_stands k (t ∷ ts) ≡ true) ⊎ (some_stands k (u ∷ us) ≡ true)
    later k (inl d) = inl (or_right (stands k t) (some_stands k ts) d)
    later k (inr d) = inr (or_right (stands k u) (some_stands k us) d)

    right : (k : Key) → (stands k u ≡ true) ⊎ (occurs k es ≡ true) → (some_stands k (t ∷ ts) ≡ true) ⊎ (some_stands k (u ∷ us) ≡ true)
    right k (inl d) = inr (or_left (stands k u) (some_stands k us) d)
    right k (inr d) = later k (p.within k d)

    go : (k : Key) → (stands k t ≡ true) ⊎ ((stands k u || occurs k es) ≡ true) → (some_stands k (t ∷ ts) ≡ true) ⊎ (some_stands k (u ∷ us) ≡ true)
    go k (inl d) = inl (or_left (stands k t) (some_stands k ts) d)
    go k (inr d) = right k (either_true (stands k u) (occurs k es) d)

some_same : {A : Type 0} {x y : A} → Some x ≡ Some y → x ≡ y
some_same h = cc

pairs_fall : (bs : List Variable) (ts us : List Tm) (es : List Equation) → paired bs ts us ≡ Some es → PairsFall ts us es
pairs_fall bs [] [] es h = subst (PairsFall [] []) (some_same h) (record { falls = omega arith; within = λ k d. absurd (cc) })
pairs_fall bs (t ∷ ts) (u ∷ us) es h = go (paired bs ts us) (λ fs. pairs_fall bs ts us fs) h
  where
    go : (o : Option (List Equation)) → ((fs : List Equation) → o ≡ Some fs → PairsFall ts us fs) → option_map (λ fs. record { binders = bs; left = t; right = u } ∷ fs) o ≡ Some es → PairsFall (t ∷ ts) (u ∷ us) es
    go None p k = absurd (cc)
    go (Some fs) p k = subst (PairsFall (t ∷ ts) (u ∷ us)) (some_same k) (more_pairs bs t u ts us fs (p fs refl))
pairs_fall bs [] (u ∷ us) es h = absurd (cc)
pairs_fall bs (t ∷ ts) [] es h = absurd (cc)

-- es are the equations of the parts, if these are any
abbrev pub AreParts : Parts → List Equation → Type 0
AreParts Flexible es = ⊥
AreParts Clash es = ⊥
AreParts (Into fs) es = fs ≡ es
AreParts (Heads S T fs) es = fs ≡ es

inner_some : (o : Option (List Equation)) (es : List Equation) → AreParts (inner_parts o) es → o ≡ Some es
inner_some None es h = absurd h
inner_some (Some fs) es h = ap Some h

typed_some : (S T : Ty) (o : Option (List Equation)) (es : List Equation) → AreParts (typed_parts S T o) es → o ≡ Some es
typed_some S T None es h = absurd h
typed_some S T (Some fs) es h = ap Some h

chosen_inner : (c : Bool) (o : Option (List Equation)) (es : List Equation) → AreParts (cond c (inner_parts o) Clash) es → o ≡ Some es
chosen_inner true o es h = inner_some o es h
chosen_inner false o es h = absurd h

chosen_typed : (c : Bool) (S T : Ty) (o : Option (List Equation)) (es : List Equation) → AreParts (cond c (typed_parts S T o) Clash) es → o ≡ Some es
chosen_typed true S T o es h = typed_some S T o es h
chosen_typed false S T o es h = absurd h

pub meet_paired : (bs : List Variable) (g : Tm) (ts : List Tm) (h : Tm) (us : List Tm) (es : List Equation) → AreParts (meet bs g ts h us) es → paired bs ts us ≡ Some es
meet_paired bs (Const x1 T1) ts (Const x2 T2) us es p = chosen_typed (name_eq x1 x2) T1 T2 (paired bs ts us) es p
meet_paired bs (Const x1 T1) ts (Free x2 T2) us es p = absurd p
meet_paired bs (Const x1 T1) ts (Unknown x2 n2 T2) us es p = absurd p
meet_paired bs (Const x1 T1) ts (Bound n2) us es p = absurd p
meet_paired bs (Const x1 T1) ts (Abs x2 T2 t2) us es p = absurd p
meet_paired bs (Const x1 T1) ts (App f2 t2) us es p = absurd p
meet_paired bs (Free x1 T1) ts (Const x2 T2) us es p = absurd p
meet_paired bs (Free x1 T1) ts (Free x2 T2) us es p = chosen_typed (name_eq x1 x2) T1 T2 (paired bs ts us) es p
meet_paired bs (Free x1 T1) ts (Unknown x2 n2 T2) us es p = absurd p
meet_paired bs (Free x1 T1) ts (Bound n2) us es p = absurd p
meet_paired bs (Free x1 T1) ts (Abs x2 T2 t2) us es p = absurd p
meet_paired bs (Free x1 T1) ts (App f2 t2) us es p = absurd p
meet_paired bs (Unknown x1 n1 T1) ts (Const x2 T2) us es p = absurd p
meet_paired bs (Unknown x1 n1 T1) ts (Free x2 T2) us es p = absurd p
meet_paired bs (Unknown x1 n1 T1) ts (Unknown x2 n2 T2) us es p = absurd p
meet_paired bs (Unknown x1 n1 T1) ts (Bound n2) us es p = absurd p
meet_paired bs (Unknown x1 n1 T1) ts (Abs x2 T2 t2) us es p = absurd p
meet_paired bs (Unknown x1 n1 T1) ts (App f2 t2) us es p = absurd p
meet_paired bs (Bound n1) ts (Const x2 T2) us es p = absurd p
meet_paired bs (Bound n1) ts (Free x2 T2) us es p = absurd p
meet_paired bs (Bound n1) ts (Unknown x2 n2 T2) us es p = absurd p
meet_paired bs (Bound n1) ts (Bound n2) us es p = chosen_inner (nat_eq n1 n2) (paired bs ts us) es p
meet_paired bs (Bound n1) ts (Abs x2 T2 t2) us es p = absurd p
meet_paired bs (Bound n1) ts (App f2 t2) us es p = absurd p
meet_paired bs (Abs x1 T1 t1) ts (Const x2 T2) us es p = absurd p
meet_paired bs (Abs x1 T1 t1) ts (Free x2 T2) us es p = absurd p
meet_paired bs (Abs x1 T1 t1) ts (Unknown x2 n2 T2) us es p = absurd p
meet_paired bs (Abs x1 T1 t1) ts (Bound n2) us es p = absurd p
meet_paired bs (Abs x1 T1 t1) ts (Abs x2 T2 t2) us es p = absurd p
meet_paired bs (Abs x1 T1 t1) ts (App f2 t2) us es p = absurd p
meet_paired bs (App f1 t1) ts (Const x2 T2) us es p = absurd p
meet_paired bs (App f1 t1) ts (Free x2 T2) us es p = absurd p
meet_paired bs (App f1 t1) ts (Unknown x2 n2 T2) us es p = absurd p
meet_paired bs (App f1 t1) ts (Bound n2) us es p = absurd p
meet_paired bs (App f1 t1) ts (Abs x2 T2 t2) us es p = absurd p
meet_paired bs (App f1 t1) ts (App f2 t2) us es p = absurd p

-- the parts of an equation weigh less, and have no other unknowns
pub record PartsFall (t u : Tm) (es : List Equation) : Type 0 where
  pub falls : weight es < suc (tm_weight t + tm_weight u)
  pub within : (k : Key) → occurs k es ≡ true → (stands k t ≡ true) ⊎ (stands k u ≡ true)

meet_falls : (bs : List Variable) (t u : Tm) (es : List Equation) → AreParts (meet bs (head_of t) (args_of t) (head_of u) (args_of u)) es → PartsFall t u es
meet_falls bs t u es h =
    let p = pairs_fall bs (args_of t) (args_of u) es (meet_paired bs (head_of t) (args_of t) (head_of u) (args_of u) es h) in
    record {
      falls = let f = p.falls in let a = args_weigh t in let b = args_weigh u in omega (arith, f, a, b);
      within = λ k d. go k (p.within k d);
    }
  where
    go : (k : Key) → (some_stands k (args_of t) ≡ true) ⊎ (some_stands k (args_of u) ≡ true) → (stands k t ≡ true) ⊎ (stands k u ≡ true)
    go k (inl d) = inl (args_stand k t d)
    go k (inr d) = inr (args_stand k u d)

one_within : (a b : Bool) → (a || (b || false)) ≡ true → (a ≡ true) ⊎ (b ≡ true)
one_within true b h = inl refl
one_within false true h = inr refl
one_within false false h = absurd (cc)

opened_stands : (k : Key) (t : Tm) → stands k (opened t) ≡ true → stands k t ≡ true
opened_stands k t h = sym (stands-raise k 1 0 t) ∙ only_true (stands k (raise 1 0 t)) h

opened_weight : (t : Tm) → tm_weight (opened t) ≡ suc (suc (tm_weight t))
opened_weight t = let h = weight-raise 1 0 t in omega (arith, h)

both_stripped : (bs : List Variable) (x : List ℕ) (S : Ty) (t : Tm) (y : List ℕ) (T : Ty) (u : Tm) (es : List Equation) → AreParts (stripped x S bs t u) es → PartsFall (Abs x S t) (Abs y T u) es
both_stripped bs x S t y T u es h = subst (PartsFall (Abs x S t) (Abs y T u)) h (record {
  falls = omega arith;
  within = λ k d. one_within (stands k t) (stands k u) d;
})

left_stripped : (bs : List Variable) (x : List ℕ) (S : Ty) (t u : Tm) (es : List Equation) → AreParts (stripped x S bs t (opened u)) es → PartsFall (Abs x S t) u es
left_stripped bs x S t u es h = subst (PartsFall (Abs x S t) u) h (record {
  falls = let w = opened_weight u in omega (arith, w);
  within = λ k d. go k (one_within (stands k t) (stands k (opened u)) d);
})
  where
    go : (k : Key) → (stands k t ≡ true) ⊎ (stands k (opened u) ≡ true) → (stands k t ≡ true) ⊎ (stands k u ≡ true)
    go k (inl d) = inl d
    go k (inr d) = inr (opened_stands k u d)

right_stripped : (bs : List Variable) (t : Tm) (y : List ℕ) (T : Ty) (u : Tm) (es : List Equation) → AreParts (stripped y T bs (opened t) u) es → PartsFall t (Abs y T u) es
right_stripped bs t y T u es h = subst (PartsFall t (Abs y T u)) h (record {
  falls = let w = opened_weight t in omega (arith, w);
  within = λ k d. go k (one_within (stands k (opened t)) (stands k u) d);
})
  where
    go : (k : Key) → (stands k (opened t) ≡ true) ⊎ (stands k u ≡ true) → (stands k t ≡ true) ⊎ (stands k u ≡ true)
    go k (inl d) = inl (opened_stands k t d)
    go k (inr d) = inr d

pub parts_fall : (bs : List Variable) (t u : Tm) (es : List Equation) → AreParts (parts_at bs t u) es → PartsFall t u es
unfolding parts_at
parts_fall bs (Const x1 T1) (Const x2 T2) es h = meet_falls bs (Const x1 T1) (Const x2 T2) es h
parts_fall bs (Const x1 T1) (Free x2 T2) es h = meet_falls bs (Const x1 T1) (Free x2 T2) es h
parts_fall bs (Const x1 T1) (Unknown x2 n2 T2) es h = meet_falls bs (Const x1 T1) (Unknown x2 n2 T2) es h
parts_fall bs (Const x1 T1) (Bound n2) es h = meet_falls bs (Const x1 T1) (Bound n2) es h
parts_fall bs (Const x1 T1) (Abs x2 T2 t2) es h = right_stripped bs (Const x1 T1) x2 T2 t2 es h
parts_fall bs (Const x1 T1) (App f2 t2) es h = meet_falls bs (Const x1 T1) (App f2 t2) es h
parts_fall bs (Free x1 T1) (Const x2 T2) es h = meet_falls bs (Free x1 T1) (Const x2 T2) es h
parts_fall bs (Free x1 T1) (Free x2 T2) es h = meet_falls bs (Free x1 T1) (Free x2 T2) es h
parts_fall bs (Free x1 T1) (Unknown x2 n2 T2) es h = meet_falls bs (Free x1 T1) (Unknown x2 n2 T2) es h
parts_fall bs (Free x1 T1) (Bound n2) es h = meet_falls bs (Free x1 T1) (Bound n2) es h
parts_fall bs (Free x1 T1) (Abs x2 T2 t2) es h = right_stripped bs (Free x1 T1) x2 T2 t2 es h
parts_fall bs (Free x1 T1) (App f2 t2) es h = meet_falls bs (Free x1 T1) (App f2 t2) es h
parts_fall bs (Unknown x1 n1 T1) (Const x2 T2) es h = meet_falls bs (Unknown x1 n1 T1) (Const x2 T2) es h
parts_fall bs (Unknown x1 n1 T1) (Free x2 T2) es h = meet_falls bs (Unknown x1 n1 T1) (Free x2 T2) es h
parts_fall bs (Unknown x1 n1 T1) (Unknown x2 n2 T2) es h = meet_falls bs (Unknown x1 n1 T1) (Unknown x2 n2 T2) es h
parts_fall bs (Unknown x1 n1 T1) (Bound n2) es h = meet_falls bs (Unknown x1 n1 T1) (Bound n2) es h
parts_fall bs (Unknown x1 n1 T1) (Abs x2 T2 t2) es h = right_stripped bs (Unknown x1 n1 T1) x2 T2 t2 es h
parts_fall bs (Unknown x1 n1 T1) (App f2 t2) es h = meet_falls bs (Unknown x1 n1 T1) (App f2 t2) es h
parts_fall bs (Bound n1) (Const x2 T2) es h = meet_falls bs (Bound n1) (Const x2 T2) es h
parts_fall bs (Bound n1) (Free x2 T2) es h = meet_falls bs (Bound n1) (Free x2 T2) es h
parts_fall bs (Bound n1) (Unknown x2 n2 T2) es h = meet_falls bs (Bound n1) (Unknown x2 n2 T2) es h
parts_fall bs (Bound n1) (Bound n2) es h = meet_falls bs (Bound n1) (Bound n2) es h
parts_fall bs (Bound n1) (Abs x2 T2 t2) es h = right_stripped bs (Bound n1) x2 T2 t2 es h
parts_fall bs (Bound n1) (App f2 t2) es h = meet_falls bs (Bound n1) (App f2 t2) es h
parts_fall bs (Abs x1 T1 t1) (Const x2 T2) es h = left_stripped bs x1 T1 t1 (Const x2 T2) es h
parts_fall bs (Abs x1 T1 t1) (Free x2 T2) es h = left_stripped bs x1 T1 t1 (Free x2 T2) es h
parts_fall bs (Abs x1 T1 t1) (Unknown x2 n2 T2) es h = left_stripped bs x1 T1 t1 (Unknown x2 n2 T2) es h
parts_fall bs (Abs x1 T1 t1) (Bound n2) es h = left_stripped bs x1 T1 t1 (Bound n2) es h
parts_fall bs (Abs x1 T1 t1) (Abs x2 T2 t2) es h = both_stripped bs x1 T1 t1 x2 T2 t2 es h
parts_fall bs (Abs x1 T1 t1) (App f2 t2) es h = left_stripped bs x1 T1 t1 (App f2 t2) es h
parts_fall bs (App f1 t1) (Const x2 T2) es h = meet_falls bs (App f1 t1) (Const x2 T2) es h
parts_fall bs (App f1 t1) (Free x2 T2) es h = meet_falls bs (App f1 t1) (Free x2 T2) es h
parts_fall bs (App f1 t1) (Unknown x2 n2 T2) es h = meet_falls bs (App f1 t1) (Unknown x2 n2 T2) es h
parts_fall bs (App f1 t1) (Bound n2) es h = meet_falls bs (App f1 t1) (Bound n2) es h
parts_fall bs (App f1 t1) (Abs x2 T2 t2) es h = right_stripped bs (App f1 t1) x2 T2 t2 es h
parts_fall bs (App f1 t1) (App f2 t2) es h = meet_falls bs (App f1 t1) (App f2 t2) es h
