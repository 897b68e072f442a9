-- The steps of unification keep patterns, so that on patterns they end outside at the limit alone.
use Rattle.std.proofs.Common.{◌≡◌, ◌⊎◌, inl, inr, ℕ, zero, suc, ◌+◌, ◌-◌, ◌<◌, List, [], ◌∷◌, ◌++◌, map, filter, length, Bool, true, false, cond, not, ◌&&◌, ◌||◌, nat_eq, nat_lt, Option, Some, None, refl, sym, ap, ◌∙◌, subst, arith}
use Rattle.std.specs.Prelude.{option_map, option_and_then}
use Rattle.std.proofs.lemmas.Bool.Decides.{nat_tests}
use Rattle.isa_terms.specs.Types.{Ty}
use Rattle.isa_terms.specs.Terms.{Tm, Const, Free, Unknown, Bound, Abs, App}
use Rattle.isa_terms.specs.Equal.{name_eq}
use Rattle.isa_terms.specs.Replace.{raise}
use Rattle.isa_terms.specs.Norm.{loose}
use Rattle.isa_terms.specs.Normal.{IsHead, IsNormal}
use Rattle.isa_terms.specs.Order as order
use Rattle.isa_terms.specs.Pattern.{is_unknown, is_argument, is_new_bound, distinct_args, is_pattern}
use Rattle.isa_terms.specs.declared.inst.TypeEntry.{TypeEntry}
use Rattle.isa_terms.specs.declared.inst.TermEntry.{TermEntry}
use Rattle.isa_terms.proofs.Erased.{up}
use Rattle.isa_terms.proofs.Erasing.{raised}
use Rattle.isa_terms.proofs.Heads.{IsRigid}
use Rattle.isa_terms.proofs.Loose.{raised_misses}
use Rattle.isa_terms.proofs.NormalForms.{raise_head}
use Rattle.isa_terms.proofs.Renames.{rename, rename_same, raise_is}
use Rattle.isa_terms.proofs.Abstracting as abstracting
use Rattle.isa_terms.proofs.Abstracting.{Absent, AreDistinct, Among, place_less}
use Rattle.isa_terms.proofs.Pruning.{IsWithin}
use Rattle.isa_unify.specs.declared.equation.Variable.{Variable}
use Rattle.isa_unify.specs.declared.equation.Equation.{Equation}
use Rattle.isa_unify.specs.declared.progress.Parts.{Parts}
use Rattle.isa_unify.specs.declared.progress.Parts.TheVariants.{Flexible, Clash, Into, Heads}
use Rattle.isa_unify.specs.declared.progress.Verdict.{Verdict}
use Rattle.isa_unify.specs.declared.progress.Verdict.TheVariants.{Fine, Refused, Strays, Prunes}
use Rattle.isa_unify.specs.declared.progress.State.{State}
use Rattle.isa_unify.specs.declared.progress.Answer.{Answer}
use Rattle.isa_unify.specs.declared.progress.Answer.TheVariants.{Yes, No, Outside}
use Rattle.isa_unify.specs.Descent.{Done, Lighter, Solved, Ends, now, lighter, solved}
use Rattle.isa_unify.specs.TypeUnification.{unify_typs}
use Rattle.isa_unify.specs.Spines.{head_of, args_of, is_flexible, has_number, are_distinct, bounds_of, if_distinct, distinct_bounds}
use Rattle.isa_unify.specs.Unification.{paired, meet, opened, parts_at, clashes, abstracted, arrows, range_behind, on_bounds, over, allowed, at_pattern, at_unknown, first_verdict, first_place, filled_equation, filled_state, retyped, retyped_equation, retyped_state, UnifyStep, becomes, renewed, both_become, after_new, with_first, with_new, solve_at, solve, agreeing, solve_same, solve_two, on_pattern, flexible_step, after_types, front_step, unify_step, unified, all_types, new_unknowns, start, answer_at, unify}
use Rattle.isa_unify.specs.PatternLaw.{LeadsTo, arrived, by_lighter, by_solved, ArePatterns, NeedsMore, PatternsAreInside}
use Rattle.isa_unify.proofs.Tests.{both_true, and_true, either_true, neither, neither_true, number_self, number_true}
use Rattle.isa_unify.proofs.Unknowns.{Key, key}
use Rattle.isa_unify.proofs.Measure.{AreParts, meet_paired}
use Rattle.isa_unify.proofs.Adequacy.{unified_reached}
use Rattle.isa_unify.proofs.AbstractedTerms.{names, typs, abstracted_same}
use Rattle.isa_unify.proofs.Deciding.{distinct_bounds_are, filter_front, filter_distinct, among_has, loose_eta, flexible_head, flexible_is, unknown}
use Rattle.isa_unify.proofs.Renewing.{agreeing_same, agreeing_distinct}
use Rattle.isa_terms.proofs.Pruning.{agreeing_front}
use Rattle.isa_unify.proofs.Verdicts.{fine_within}
use Rattle.isa_unify.proofs.KeptPatterns.{IsNew, IsSpread, IsKept, spread_kept, parts_kept, ComesFrom, loose_from, Apart, kept_renamed, eta_kept, test_false, on_new, AreClosed, filled_kept}

-- ---- lists of patterns
abbrev pub AllKept : List Equation → Type 0
AllKept [] = Unit {0}
AllKept (e ∷ es) = (IsKept e.left × IsKept e.right) × AllKept es

abbrev AreKept : List Tm → Type 0
AreKept [] = Unit {0}
AreKept (t ∷ ts) = IsKept t × AreKept ts

kept_append : (ts us : List Tm) → AreKept ts → AreKept us → AreKept (ts ++ us)
kept_append [] us h k = k
kept_append (t ∷ ts) us h k = (h.0, kept_append ts us h.1 k)

all_kept_append : (es fs : List Equation) → AllKept es → AllKept fs → AllKept (es ++ fs)
all_kept_append [] fs h k = k
all_kept_append (e ∷ es) fs h k = (h.0, all_kept_append es fs h.1 k)

-- ---- the parts of an equation
args_kept : (t : Tm) → IsKept t → AreKept (args_of t)
args_kept (Const x T) k = tt
args_kept (Free x T) k = tt
args_kept (Unknown x i T) k = tt
args_kept (Bound n) k = tt
args_kept (Abs x T b) k = tt
args_kept (App f a) k = let p = parts_kept f a k in kept_append (args_of f) (a ∷ []) (args_kept f p.1.0) (p.1.1, tt)

paired_kept : (bs : List Variable) (ts us : List Tm) (es : List Equation) → AreKept ts → AreKept us → paired bs ts us ≡ Some es → AllKept es
paired_kept bs [] [] es h k e = let q : [] ≡ es = cc in subst AllKept q tt
paired_kept bs (t ∷ ts) (u ∷ us) es h k e = go (paired bs ts us) refl e (λ fs p. paired_kept bs ts us fs h.1 k.1 p)
  where
    go : (o : Option (List Equation)) → paired bs ts us ≡ o → option_map (λ fs. record { binders = bs; left = t; right = u } ∷ fs) o ≡ Some es → ((fs : List Equation) → paired bs ts us ≡ Some fs → AllKept fs) → AllKept es
    go None p l ih = absurd (cc)
    go (Some fs) p l ih =
        let q : record { binders = bs; left = t; right = u } ∷ fs ≡ es = cc in
        subst AllKept q ((h.0, k.0), ih fs p)
paired_kept bs [] (u ∷ us) es h k e = absurd (cc)
paired_kept bs (t ∷ ts) [] es h k e = absurd (cc)

raised_apart : (t : Tm) → Apart (raised 1 0) t
raised_apart t i j p q e = go (nat_lt i 0) (nat_lt j 0) refl refl e
  where
    go : (b c : Bool) → nat_lt i 0 ≡ b → nat_lt j 0 ≡ c → cond b i (i + 1) ≡ cond c j (j + 1) → i ≡ j
    go true c h l e = absurd (grind (arith, nat_tests))
    go false true h l e = absurd (grind (arith, nat_tests))
    go false false h l e = omega (arith, e)

opened_kept : (t : Tm) → IsHead t → IsKept t → IsKept (opened t)
opened_kept t h k = on_new (raise 1 0 t) 0 (raise_head 1 0 t h) (subst IsKept (sym (raise_is 1 0 t)) (kept_renamed (raised 1 0) t (raised_apart t) k)) (raised_misses 0 t)

meet_kept : (bs : List Variable) (t u : Tm) (es : List Equation) → IsKept t → IsKept u → AreParts (meet bs (head_of t) (args_of t) (head_of u) (args_of u)) es → AllKept es
meet_kept bs t u es k l p = paired_kept bs (args_of t) (args_of u) es (args_kept t k) (args_kept u l) (meet_paired bs (head_of t) (args_of t) (head_of u) (args_of u) es p)

one_kept : (bs : List Variable) (t u : Tm) (es : List Equation) → IsKept t → IsKept u → record { binders = bs; left = t; right = u } ∷ [] ≡ es → AllKept es
one_kept bs t u es k l p = subst AllKept p ((k, l), tt)

parts_are_kept : (bs : List Variable) (t u : Tm) (es : List Equation) → IsKept t → IsKept u → AreParts (parts_at bs t u) es → AllKept es
unfolding parts_at
parts_are_kept bs (Const x1 T1) (Const x2 T2) es k l p = meet_kept bs (Const x1 T1) (Const x2 T2) es k l p
parts_are_kept bs (Const x1 T1) (Free x2 T2) es k l p = meet_kept bs (Const x1 T1) (Free x2 T2) es k l p
parts_are_kept bs (Const x1 T1) (Unknown x2 n2 T2) es k l p = meet_kept bs (Const x1 T1) (Unknown x2 n2 T2) es k l p
parts_are_kept bs (Const x1 T1) (Bound n2) es k l p = meet_kept bs (Const x1 T1) (Bound n2) es k l p
parts_are_kept bs (Const x1 T1) (Abs x2 T2 b2) es k l p = one_kept (record { name = x2; typ = T2 } ∷ bs) (opened (Const x1 T1)) b2 es (opened_kept (Const x1 T1) tt k) l p
parts_are_kept bs (Const x1 T1) (App f2 a2) es k l p = meet_kept bs (Const x1 T1) (App f2 a2) es k l p
parts_are_kept bs (Free x1 T1) (Const x2 T2) es k l p = meet_kept bs (Free x1 T1) (Const x2 T2) es k l p
parts_are_kept bs (Free x1 T1) (Free x2 T2) es k l p = meet_kept bs (Free x1 T1) (Free x2 T2) es k l p
parts_are_kept bs (Free x1 T1) (Unknown x2 n2 T2) es k l p = meet_kept bs (Free x1 T1) (Unknown x2 n2 T2) es k l p
parts_are_kept bs (Free x1 T1) (Bound n2) es k l p = meet_kept bs (Free x1 T1) (Bound n2) es k l p
parts_are_kept bs (Free x1 T1) (Abs x2 T2 b2) es k l p = one_kept (record { name = x2; typ = T2 } ∷ bs) (opened (Free x1 T1)) b2 es (opened_kept (Free x1 T1) tt k) l p
parts_are_kept bs (Free x1 T1) (App f2 a2) es k l p = meet_kept bs (Free x1 T1) (App f2 a2) es k l p
parts_are_kept bs (Unknown x1 n1 T1) (Const x2 T2) es k l p = meet_kept bs (Unknown x1 n1 T1) (Const x2 T2) es k l p
parts_are_kept bs (Unknown x1 n1 T1) (Free x2 T2) es k l p = meet_kept bs (Unknown x1 n1 T1) (Free x2 T2) es k l p
parts_are_kept bs (Unknown x1 n1 T1) (Unknown x2 n2 T2) es k l p = meet_kept bs (Unknown x1 n1 T1) (Unknown x2 n2 T2) es k l p
parts_are_kept bs (Unknown x1 n1 T1) (Bound n2) es k l p = meet_kept bs (Unknown x1 n1 T1) (Bound n2) es k l p
parts_are_kept bs (Unknown x1 n1 T1) (Abs x2 T2 b2) es k l p = one_kept (record { name = x2; typ = T2 } ∷ bs) (opened (Unknown x1 n1 T1)) b2 es (opened_kept (Unknown x1 n1 T1) tt k) l p
parts_are_kept bs (Unknown x1 n1 T1) (App f2 a2) es k l p = meet_kept bs (Unknown x1 n1 T1) (App f2 a2) es k l p
parts_are_kept bs (Bound n1) (Const x2 T2) es k l p = meet_kept bs (Bound n1) (Const x2 T2) es k l p
parts_are_kept bs (Bound n1) (Free x2 T2) es k l p = meet_kept bs (Bound n1) (Free x2 T2) es k l p
parts_are_kept bs (Bound n1) (Unknown x2 n2 T2) es k l p = meet_kept bs (Bound n1) (Unknown x2 n2 T2) es k l p
parts_are_kept bs (Bound n1) (Bound n2) es k l p = meet_kept bs (Bound n1) (Bound n2) es k l p
parts_are_kept bs (Bound n1) (Abs x2 T2 b2) es k l p = one_kept (record { name = x2; typ = T2 } ∷ bs) (opened (Bound n1)) b2 es (opened_kept (Bound n1) tt k) l p
parts_are_kept bs (Bound n1) (App f2 a2) es k l p = meet_kept bs (Bound n1) (App f2 a2) es k l p
parts_are_kept bs (Abs x1 T1 b1) (Const x2 T2) es k l p = one_kept (record { name = x1; typ = T1 } ∷ bs) b1 (opened (Const x2 T2)) es k (opened_kept (Const x2 T2) tt l) p
parts_are_kept bs (Abs x1 T1 b1) (Free x2 T2) es k l p = one_kept (record { name = x1; typ = T1 } ∷ bs) b1 (opened (Free x2 T2)) es k (opened_kept (Free x2 T2) tt l) p
parts_are_kept bs (Abs x1 T1 b1) (Unknown x2 n2 T2) es k l p = one_kept (record { name = x1; typ = T1 } ∷ bs) b1 (opened (Unknown x2 n2 T2)) es k (opened_kept (Unknown x2 n2 T2) tt l) p
parts_are_kept bs (Abs x1 T1 b1) (Bound n2) es k l p = one_kept (record { name = x1; typ = T1 } ∷ bs) b1 (opened (Bound n2)) es k (opened_kept (Bound n2) tt l) p
parts_are_kept bs (Abs x1 T1 b1) (Abs x2 T2 b2) es k l p = one_kept (record { name = x1; typ = T1 } ∷ bs) b1 b2 es k l p
parts_are_kept bs (Abs x1 T1 b1) (App f2 a2) es k l p = one_kept (record { name = x1; typ = T1 } ∷ bs) b1 (opened (App f2 a2)) es k (opened_kept (App f2 a2) tt l) p
parts_are_kept bs (App f1 a1) (Const x2 T2) es k l p = meet_kept bs (App f1 a1) (Const x2 T2) es k l p
parts_are_kept bs (App f1 a1) (Free x2 T2) es k l p = meet_kept bs (App f1 a1) (Free x2 T2) es k l p
parts_are_kept bs (App f1 a1) (Unknown x2 n2 T2) es k l p = meet_kept bs (App f1 a1) (Unknown x2 n2 T2) es k l p
parts_are_kept bs (App f1 a1) (Bound n2) es k l p = meet_kept bs (App f1 a1) (Bound n2) es k l p
parts_are_kept bs (App f1 a1) (Abs x2 T2 b2) es k l p = one_kept (record { name = x2; typ = T2 } ∷ bs) (opened (App f1 a1)) b2 es (opened_kept (App f1 a1) tt k) l p
parts_are_kept bs (App f1 a1) (App f2 a2) es k l p = meet_kept bs (App f1 a1) (App f2 a2) es k l p

-- ---- types for type unknowns
retyped_loose : (s : List TypeEntry) (t : Tm) (j : ℕ) → loose j (retyped s t) ≡ loose j t
retyped_loose s (Const x T) j = refl
retyped_loose s (Free x T) j = refl
retyped_loose s (Unknown x i T) j = refl
retyped_loose s (Bound n) j = refl
retyped_loose s (Abs x T b) j = retyped_loose s b (j + 1)
retyped_loose s (App f a) j = λ i. retyped_loose s f j i || retyped_loose s a j i

retyped_new : (s : List TypeEntry) (f a : Tm) → IsNew f a → IsNew (retyped s f) (retyped s a)
retyped_new s f (Bound n) k = retyped_loose s f n ∙ k
retyped_new s f (Const x T) k = absurd k
retyped_new s f (Free x T) k = absurd k
retyped_new s f (Unknown x i T) k = absurd k
retyped_new s f (Abs x T b) k = absurd k
retyped_new s f (App g b) k = absurd k

retyped_spread : (s : List TypeEntry) (t : Tm) → IsSpread t → IsSpread (retyped s t)
retyped_spread s (Const x T) h = absurd h
retyped_spread s (Free x T) h = absurd h
retyped_spread s (Unknown x i T) h = tt
retyped_spread s (Bound n) h = absurd h
retyped_spread s (Abs x T b) h = absurd h
retyped_spread s (App f a) h = (retyped_spread s f h.0, retyped_new s f a h.1)

retyped_rigid : (s : List TypeEntry) (t : Tm) → IsRigid t → IsRigid (retyped s t)
retyped_rigid s (Const x T) h = tt
retyped_rigid s (Free x T) h = tt
retyped_rigid s (Unknown x i T) h = absurd h
retyped_rigid s (Bound n) h = tt
retyped_rigid s (Abs x T b) h = absurd h
retyped_rigid s (App f a) h = retyped_rigid s f h

retyped_kept : (s : List TypeEntry) (t : Tm) → IsKept t → IsKept (retyped s t)
retyped_kept s (Const x T) k = tt
retyped_kept s (Free x T) k = tt
retyped_kept s (Unknown x i T) k = tt
retyped_kept s (Bound n) k = tt
retyped_kept s (Abs x T b) k = retyped_kept s b k
retyped_kept s (App f a) (inl h) = inl (retyped_spread s (App f a) h)
retyped_kept s (App f a) (inr h) = inr (retyped_rigid s f h.0, (retyped_kept s f h.1.0, retyped_kept s a h.1.1))

all_retyped : (s : List TypeEntry) (es : List Equation) → AllKept es → AllKept (map (retyped_equation s) es)
all_retyped s [] k = tt
all_retyped s (e ∷ es) k = ((retyped_kept s e.left k.0.0, retyped_kept s e.right k.0.1), all_retyped s es k.1)

all_filled : (s : List TermEntry) → AreClosed s → (es : List Equation) → AllKept es → AllKept (map (filled_equation s) es)
all_filled s c [] k = tt
all_filled s c (e ∷ es) k = ((filled_kept s c e.left k.0.0, filled_kept s c e.right k.0.1), all_filled s c es k.1)

-- ---- terms abstracted over variables
-- the number of the variable n under binders over xs, below k more
abbrev placed : List ℕ → ℕ → ℕ → ℕ
placed xs k n = cond (nat_lt n k) n (k + abstracting.place_behind xs (n - k))

placed_up_by : (xs : List ℕ) (k n : ℕ) (b c : Bool) → nat_lt n k ≡ b → nat_lt (suc n) (k + 1) ≡ c → suc (cond b n (k + abstracting.place_behind xs (n - k))) ≡ cond c (suc n) (k + 1 + abstracting.place_behind xs (suc n - (k + 1)))
placed_up_by xs k n true true h l = refl
placed_up_by xs k n true false h l = absurd (grind (arith, nat_tests))
placed_up_by xs k n false true h l = absurd (grind (arith, nat_tests))
placed_up_by xs k n false false h l =
    let e : n - k ≡ suc n - (k + 1) = omega arith in
    let m : suc (k + abstracting.place_behind xs (n - k)) ≡ k + 1 + abstracting.place_behind xs (n - k) = omega arith in
    m ∙ ap (λ i. k + 1 + abstracting.place_behind xs i) e

placed_up : (xs : List ℕ) (k n : ℕ) → up (placed xs k) n ≡ placed xs (k + 1) n
placed_up xs k zero = let l : nat_lt 0 (k + 1) ≡ true = grind (arith, nat_tests) in sym (ap (λ b. cond b 0 (k + 1 + abstracting.place_behind xs (0 - (k + 1)))) l)
placed_up xs k (suc n) = placed_up_by xs k n (nat_lt n k) (nat_lt (suc n) (k + 1)) refl refl

moved_bound : (n m : ℕ) (b : Bool) → cond b (Bound n) (Bound m) ≡ Bound (cond b n m)
moved_bound n m true = refl
moved_bound n m false = refl

moved_is : (xs : List ℕ) (k : ℕ) (t : Tm) → abstracting.moved xs k t ≡ rename (placed xs k) t
moved_is xs k (Const x T) = refl
moved_is xs k (Free x T) = refl
moved_is xs k (Unknown x i T) = refl
moved_is xs k (Bound n) = moved_bound n (k + abstracting.place_behind xs (n - k)) (nat_lt n k)
moved_is xs k (Abs x T b) = ap (Abs x T) (moved_is xs (k + 1) b ∙ sym (rename_same (up (placed xs k)) (placed xs (k + 1)) (placed_up xs k) b))
moved_is xs k (App f a) = λ i. App (moved_is xs k f i) (moved_is xs k a i)

placed_first : (xs : List ℕ) (n : ℕ) → placed xs 0 n ≡ abstracting.place_behind xs n
placed_first xs n =
    let l : nat_lt n 0 ≡ false = grind (arith, nat_tests) in
    let e : n - 0 ≡ n = omega arith in
    let z : 0 + abstracting.place_behind xs (n - 0) ≡ abstracting.place_behind xs (n - 0) = omega arith in
    ap (λ b. cond b n (0 + abstracting.place_behind xs (n - 0))) l ∙ z ∙ ap (abstracting.place_behind xs) e

place_apart : (xs : List ℕ) (i j : ℕ) → Among i xs → Among j xs → abstracting.place_behind xs i ≡ abstracting.place_behind xs j → i ≡ j
place_apart [] i j p q e = absurd p
place_apart (x ∷ xs) i j p q e = go (nat_eq x i) (nat_eq x j) refl refl p q e (place_apart xs i j) (place_less xs i) (place_less xs j)
  where
    go : (b c : Bool) → nat_eq x i ≡ b → nat_eq x j ≡ c → Among i (x ∷ xs) → Among j (x ∷ xs) → cond b (length xs) (abstracting.place_behind xs i) ≡ cond c (length xs) (abstracting.place_behind xs j)
        → (Among i xs → Among j xs → abstracting.place_behind xs i ≡ abstracting.place_behind xs j → i ≡ j)
        → (Among i xs → abstracting.place_behind xs i < length xs) → (Among j xs → abstracting.place_behind xs j < length xs) → i ≡ j
    go true true h l p q e ih m n = let a : x ≡ i = number_true x i h in let b : x ≡ j = number_true x j l in sym a ∙ b
    go true false h l p (inl q) e ih m n = let t : nat_eq x j ≡ true = ap (λ y. nat_eq x y) q ∙ number_self x in absurd (cc)
    go true false h l p (inr q) e ih m n = let lt = n q in absurd (omega (arith, lt, e))
    go false true h l (inl p) q e ih m n = let t : nat_eq x i ≡ true = ap (λ y. nat_eq x y) p ∙ number_self x in absurd (cc)
    go false true h l (inr p) q e ih m n = let lt = m p in absurd (omega (arith, lt, e))
    go false false h l (inl p) q e ih m n = let t : nat_eq x i ≡ true = ap (λ y. nat_eq x y) p ∙ number_self x in absurd (cc)
    go false false h l (inr p) (inl q) e ih m n = let t : nat_eq x j ≡ true = ap (λ y. nat_eq x y) q ∙ number_self x in absurd (cc)
    go false false h l (inr p) (inr q) e ih m n = ih p q e

within_among : (xs : List ℕ) (t : Tm) → IsWithin xs t → (j : ℕ) → loose j t ≡ true → Among j xs
within_among xs t w j h = go (w j)
  where
    go : Among j xs ⊎ (loose j t ≡ false) → Among j xs
    go (inl p) = p
    go (inr p) = absurd (cc)

placed_apart : (xs : List ℕ) (t : Tm) → IsWithin xs t → Apart (placed xs 0) t
placed_apart xs t w i j p q e = place_apart xs i j (within_among xs t w i p) (within_among xs t w j q) (sym (placed_first xs i) ∙ e ∙ placed_first xs j)

abstracted_over : (N : ℕ → List ℕ) (Y : ℕ → Ty) (ns : List ℕ) (b : Tm) → IsKept b → IsKept (abstracting.eta_plain N Y ns b)
abstracted_over N Y [] b k = k
abstracted_over N Y (n ∷ ns) b k = eta_kept (N n) (Y n) (abstracting.eta_plain N Y ns b) (abstracted_over N Y ns b k)

abstracted_loose : (N : ℕ → List ℕ) (Y : ℕ → Ty) (ns : List ℕ) (b : Tm) (j : ℕ) → loose j (abstracting.eta_plain N Y ns b) ≡ loose (j + length ns) b
abstracted_loose N Y [] b j = let e : j ≡ j + 0 = omega arith in ap (λ i. loose i b) e
abstracted_loose N Y (n ∷ ns) b j =
    let e : j + 1 + length ns ≡ j + suc (length ns) = omega arith in
    loose_eta (N n) (Y n) (abstracting.eta_plain N Y ns b) j ∙ abstracted_loose N Y ns b (j + 1) ∙ ap (λ i. loose i b) e

-- a closed pattern
abbrev IsClosed : Tm → Type 0
IsClosed t = IsKept t × ((j : ℕ) → loose j t ≡ false)

abstracted_closed : (bs : List Variable) (xs : List ℕ) (t : Tm) → IsKept t → IsWithin xs t → IsClosed (abstracted bs xs t)
abstracted_closed bs xs t k w =
    let N = names bs in
    let Y = typs bs in
    let v = rename (placed xs 0) t in
    let e : abstracted bs xs t ≡ abstracting.eta_plain N Y xs v = abstracted_same bs xs t ∙ ap (abstracting.eta_plain N Y xs) (moved_is xs 0 t) in
    (subst IsKept (sym e) (abstracted_over N Y xs v (kept_renamed (placed xs 0) t (placed_apart xs t w) k)), λ j. ap (loose j) e ∙ abstracted_loose N Y xs v j ∙ test_false (loose (j + length xs) v) (λ h. beyond j (loose_from (placed xs 0) t (j + length xs) h)))
  where
    beyond : (j : ℕ) → ComesFrom (placed xs 0) (j + length xs) t → ⊥
    beyond j (i, p) =
        let lt = place_less xs i (within_among xs t w i p.0) in
        let e : abstracting.place_behind xs i ≡ j + length xs = sym (placed_first xs i) ∙ p.1 in
        absurd (omega (arith, lt, e))

-- ---- an unknown on distinct variables
absent_other : (n j : ℕ) (ns : List ℕ) → Absent n ns → Among j ns → nat_eq n j ≡ false
absent_other n j [] a h = absurd h
absent_other n j (m ∷ ms) a (inl e) = ap (nat_eq n) e ∙ a.0
absent_other n j (m ∷ ms) a (inr h) = absent_other n j ms a.1 h

spread_on : (h : Tm) (ns : List ℕ) → IsSpread h → ((j : ℕ) → Among j ns → loose j h ≡ false) → AreDistinct ns → IsSpread (on_bounds h ns)
spread_on h [] s l d = s
spread_on h (n ∷ ns) s l d = spread_on (App h (Bound n)) ns (s, l n (inl refl)) (λ j a. neither (loose j h) (nat_eq n j) (l j (inr a)) (absent_other n j ns d.0 a)) d.1

on_within : (h : Tm) (ns : List ℕ) (j : ℕ) → loose j (on_bounds h ns) ≡ true → (loose j h ≡ true) ⊎ Among j ns
on_within h [] j e = inl e
on_within h (n ∷ ns) j e = go (on_within (App h (Bound n)) ns j e)
  where
    first : (loose j h ≡ true) ⊎ (nat_eq n j ≡ true) → (loose j h ≡ true) ⊎ Among j (n ∷ ns)
    first (inl p) = inl p
    first (inr p) = let q : n ≡ j = number_true n j p in inr (inl (sym q))

    go : ((loose j h || nat_eq n j) ≡ true) ⊎ Among j ns → (loose j h ≡ true) ⊎ Among j (n ∷ ns)
    go (inl p) = first (either_true (loose j h) (nat_eq n j) p)
    go (inr p) = inr (inr p)

over_kept : (bs : List Variable) (x : List ℕ) (i : ℕ) (ns : List ℕ) (T : Ty) → AreDistinct ns → IsKept (over bs x i ns T)
over_kept bs x i ns T d = spread_kept (over bs x i ns T) (spread_on (Unknown x i (arrows bs ns T)) ns tt (λ j a. refl) d)

over_within : (bs : List Variable) (x : List ℕ) (i : ℕ) (ns : List ℕ) (T : Ty) (xs : List ℕ) → ((j : ℕ) → Among j ns → Among j xs) → IsWithin xs (over bs x i ns T)
over_within bs x i ns T xs h j = go (loose j (over bs x i ns T)) refl
  where
    among : (false ≡ true) ⊎ Among j ns → Among j xs
    among (inl p) = absurd (cc)
    among (inr p) = h j p

    go : (b : Bool) → loose j (over bs x i ns T) ≡ b → Among j xs ⊎ (b ≡ false)
    go true e = inl (among (on_within (Unknown x i (arrows bs ns T)) ns j e))
    go false e = inr refl

over_closed : (cs bs : List Variable) (x : List ℕ) (i : ℕ) (ns : List ℕ) (T : Ty) (xs : List ℕ) → AreDistinct ns → ((j : ℕ) → Among j ns → Among j xs) → IsClosed (abstracted cs xs (over bs x i ns T))
over_closed cs bs x i ns T xs d h = abstracted_closed cs xs (over bs x i ns T) (over_kept bs x i ns T d) (over_within bs x i ns T xs h)

-- ---- the arguments of an unknown
record AreNumbers (t : Tm) : Type 0 where
  numbers : List ℕ
  are : bounds_of (args_of t) ≡ Some numbers
  distinct : are_distinct numbers ≡ true
  only : (j : ℕ) → loose j t ≡ false → has_number numbers j ≡ false

bounds_last : (ts : List Tm) (ns : List ℕ) (n : ℕ) → bounds_of ts ≡ Some ns → bounds_of (ts ++ Bound n ∷ []) ≡ Some (ns ++ n ∷ [])
bounds_last [] ns n e = let q : [] ≡ ns = cc in ap (λ ms. Some (ms ++ n ∷ [])) q
bounds_last (Bound m ∷ ts) ns n e = go (bounds_of ts) refl e (bounds_last ts)
  where
    go : (o : Option (List ℕ)) → bounds_of ts ≡ o → option_map (λ ms. m ∷ ms) o ≡ Some ns → ((ms : List ℕ) (k : ℕ) → bounds_of ts ≡ Some ms → bounds_of (ts ++ Bound k ∷ []) ≡ Some (ms ++ k ∷ [])) → option_map (λ ms. m ∷ ms) (bounds_of (ts ++ Bound n ∷ [])) ≡ Some (ns ++ n ∷ [])
    go None p k ih = absurd (cc)
    go (Some ms) p k ih = let q : m ∷ ms ≡ ns = cc in ap (option_map (λ ks. m ∷ ks)) (ih ms n p) ∙ ap (λ ks. Some (ks ++ n ∷ [])) q
bounds_last (Const x T ∷ ts) ns n e = absurd (cc)
bounds_last (Free x T ∷ ts) ns n e = absurd (cc)
bounds_last (Unknown x i T ∷ ts) ns n e = absurd (cc)
bounds_last (Abs x T b ∷ ts) ns n e = absurd (cc)
bounds_last (App f a ∷ ts) ns n e = absurd (cc)

number_other : (m n : ℕ) → nat_eq m n ≡ false → nat_eq n m ≡ false
number_other m n h = grind (arith, nat_tests)

not_false : (b : Bool) → b ≡ false → not b ≡ true
not_false true h = absurd (cc)
not_false false h = refl

not_true : (b : Bool) → not b ≡ true → b ≡ false
not_true true h = absurd (cc)
not_true false h = refl

has_last : (ns : List ℕ) (n m : ℕ) → has_number ns m ≡ false → nat_eq n m ≡ false → has_number (ns ++ n ∷ []) m ≡ false
has_last [] n m h k = neither (nat_eq n m) false k refl
has_last (j ∷ ns) n m h k = let p = neither_true (nat_eq j m) (has_number ns m) h in neither (nat_eq j m) (has_number (ns ++ n ∷ []) m) p.0 (has_last ns n m p.1 k)

distinct_last : (ns : List ℕ) (n : ℕ) → are_distinct ns ≡ true → has_number ns n ≡ false → are_distinct (ns ++ n ∷ []) ≡ true
distinct_last [] n d h = refl
distinct_last (m ∷ ns) n d h =
    let p = both_true (not (has_number ns m)) (are_distinct ns) d in
    let q = neither_true (nat_eq m n) (has_number ns n) h in
    and_true (not (has_number (ns ++ n ∷ []) m)) (are_distinct (ns ++ n ∷ [])) (not_false (has_number (ns ++ n ∷ []) m) (has_last ns n m (not_true (has_number ns m) p.0) (number_other m n q.0))) (distinct_last ns n p.1 q.1)

spread_app : (f a : Tm) → IsNew f a → AreNumbers f → AreNumbers (App f a)
spread_app f (Bound n) l r = record {
  numbers = r.numbers ++ n ∷ [];
  are = bounds_last (args_of f) r.numbers n r.are;
  distinct = distinct_last r.numbers n r.distinct (r.only n l);
  only = λ j h. let p = neither_true (loose j f) (nat_eq n j) h in has_last r.numbers n j (r.only j p.0) p.1;
}
spread_app f (Const x T) l r = absurd l
spread_app f (Free x T) l r = absurd l
spread_app f (Unknown x i T) l r = absurd l
spread_app f (Abs x T b) l r = absurd l
spread_app f (App g b) l r = absurd l

spread_numbers : (t : Tm) → IsSpread t → AreNumbers t
spread_numbers (Const x T) s = absurd s
spread_numbers (Free x T) s = absurd s
spread_numbers (Unknown x i T) s = record { numbers = []; are = refl; distinct = refl; only = λ j h. refl }
spread_numbers (Bound n) s = absurd s
spread_numbers (Abs x T b) s = absurd s
spread_numbers (App f a) s = spread_app f a s.1 (spread_numbers f s.0)

spread_bounds : (t : Tm) → IsSpread t → distinct_bounds (args_of t) ≡ None → ⊥
spread_bounds t s e =
    let r = spread_numbers t s in
    let q : distinct_bounds (args_of t) ≡ Some r.numbers = ap (option_and_then if_distinct) r.are ∙ ap (λ b. cond b (Some r.numbers) None) r.distinct in
    cc

flexible_rigid : (t : Tm) → is_flexible t ≡ true → IsRigid t → ⊥
flexible_rigid (Const x T) e r = cc
flexible_rigid (Free x T) e r = cc
flexible_rigid (Unknown x i T) e r = r
flexible_rigid (Bound n) e r = cc
flexible_rigid (Abs x T b) e r = r
flexible_rigid (App f a) e r = flexible_rigid f e r

headed_rigid : (t : Tm) (u : Key) → head_of t ≡ unknown u → IsRigid t → ⊥
headed_rigid (Const x T) u e r = cc
headed_rigid (Free x T) u e r = cc
headed_rigid (Unknown x i T) u e r = r
headed_rigid (Bound n) u e r = cc
headed_rigid (Abs x T b) u e r = r
headed_rigid (App f a) u e r = headed_rigid f u e r

headed_spread : (t : Tm) (u : Key) → head_of t ≡ unknown u → IsKept t → IsSpread t
headed_spread (Const x T) u e k = absurd (cc)
headed_spread (Free x T) u e k = absurd (cc)
headed_spread (Unknown x i T) u e k = tt
headed_spread (Bound n) u e k = absurd (cc)
headed_spread (Abs x T b) u e k = absurd (cc)
headed_spread (App f a) u e (inl s) = s
headed_spread (App f a) u e (inr r) = absurd (headed_rigid f u e r.0)

-- ---- the first place that decides
abbrev VerdictKept : Verdict → Type 0
VerdictKept Fine = Unit {0}
VerdictKept Refused = Unit {0}
VerdictKept Strays = ⊥
VerdictKept (Prunes x i T bs ys kept) = AreDistinct kept × ((j : ℕ) → Among j kept → Among j ys)

first_kept : (v w : Verdict) → VerdictKept v → VerdictKept w → VerdictKept (first_verdict v w)
first_kept Fine w h k = k
first_kept Refused w h k = tt
first_kept Strays w h k = absurd h
first_kept (Prunes x i T bs ys zs) w h k = h

at_pattern_kept : (f : List ℕ) (k : ℕ) (xs : List ℕ) (depth : ℕ) (bs : List Variable) (x : List ℕ) (i : ℕ) (T : Ty) (ys : List ℕ) → AreDistinct ys → VerdictKept (at_pattern f k xs depth bs x i T ys)
at_pattern_kept f k xs depth bs x i T ys d = go (name_eq f x && nat_eq k i) (nat_eq (length (filter (allowed xs depth) ys)) (length ys))
  where
    go : (b c : Bool) → VerdictKept (cond b Refused (cond c Fine (Prunes x i T bs ys (filter (allowed xs depth) ys))))
    go true c = tt
    go false true = tt
    go false false = (filter_distinct (allowed xs depth) ys d, λ j h. (filter_front (allowed xs depth) ys j h).0)

place_kept : (f : List ℕ) (k : ℕ) (xs : List ℕ) (depth : ℕ) (bs : List Variable) (g a : Tm) → is_flexible g ≡ true → IsSpread (App g a) → VerdictKept (at_unknown f k xs depth bs (head_of g) (args_of g ++ a ∷ []))
place_kept f k xs depth bs g a e s = subst (λ t. VerdictKept (at_unknown f k xs depth bs t (args_of g ++ a ∷ []))) (sym (flexible_is g e)) (go (distinct_bounds (args_of g ++ a ∷ [])) refl)
  where
    u : Key
    u = flexible_head g

    go : (o : Option (List ℕ)) → distinct_bounds (args_of g ++ a ∷ []) ≡ o → VerdictKept (elim o [ None ↦ Strays | Some ys ↦ at_pattern f k xs depth bs u.name u.number u.typ ys ])
    go None p = spread_bounds (App g a) s p
    go (Some ys) p = at_pattern_kept f k xs depth bs u.name u.number u.typ ys (distinct_bounds_are (args_of g ++ a ∷ []) ys p).distinct

verdict_kept : (f : List ℕ) (k : ℕ) (xs : List ℕ) (t : Tm) (depth : ℕ) (bs : List Variable) → IsKept t → VerdictKept (first_place f k xs depth bs t)
verdict_kept f k xs (Const x T) depth bs h = tt
verdict_kept f k xs (Free x T) depth bs h = tt
verdict_kept f k xs (Unknown x i T) depth bs h = at_pattern_kept f k xs depth bs x i T [] tt
verdict_kept f k xs (Bound n) depth bs h = go (allowed xs depth n)
  where
    go : (b : Bool) → VerdictKept (cond b Fine Refused)
    go true = tt
    go false = tt
verdict_kept f k xs (Abs x T b) depth bs h = verdict_kept f k xs b (depth + 1) (record { name = x; typ = T } ∷ bs) h
verdict_kept f k xs (App g a) depth bs h =
    let p = parts_kept g a h in
    go (is_flexible g) refl (verdict_kept f k xs g depth bs p.1.0) (verdict_kept f k xs a depth bs p.1.1)
  where
    spread : is_flexible g ≡ true → IsKept (App g a) → IsSpread (App g a)
    spread e (inl s) = s
    spread e (inr r) = absurd (flexible_rigid g e r.0)

    go : (b : Bool) → is_flexible g ≡ b → VerdictKept (first_place f k xs depth bs g) → VerdictKept (first_place f k xs depth bs a)
        → VerdictKept (cond b (at_unknown f k xs depth bs (head_of g) (args_of g ++ a ∷ [])) (first_verdict (first_place f k xs depth bs g) (first_place f k xs depth bs a)))
    go true e m n = place_kept f k xs depth bs g a e (spread e h)
    go false e m n = first_kept (first_place f k xs depth bs g) (first_place f k xs depth bs a) m n

-- ---- the steps
-- patterns are left, and the numbers that were taken and those that are left are as many as before
record Kept (c : ℕ) (st : State) : Type 0 where
  kept : AllKept st.equations
  count : st.next + st.left ≡ c

-- what comes of a state with so many numbers left
abbrev Stays : ℕ → ℕ → UnifyStep → Type 0
Stays c l (Done (Yes ts fs n)) = Unit {0}
Stays c l (Done No) = Unit {0}
Stays c l (Done Outside) = l ≡ 0
Stays c l (Lighter st) = Kept c st
Stays c l (Solved st) = Kept c st

kept_filled : (c : ℕ) (s : List TermEntry) (st : State) → AreClosed s → Kept c st → Kept c (filled_state s st)
kept_filled c s st h k = record { kept = all_filled s h st.equations k.kept; count = k.count }

kept_after_new : (c : ℕ) (st : State) → nat_eq st.left 0 ≡ false → Kept c st → Kept c (after_new st)
kept_after_new c st e k = record { kept = k.kept; count = fits st.next st.left e k.count }
  where
    fits : (n l : ℕ) → nat_eq l 0 ≡ false → n + l ≡ c → n + 1 + (l - 1) ≡ c
    fits n zero e h = absurd (cc)
    fits n (suc l) e h = omega (arith, h)

with_new_stays : (c : ℕ) (st : State) → Kept c st → (f : ℕ → State → UnifyStep) → ((new : ℕ) → Kept c (after_new st) → Stays c st.left (f new (after_new st))) → Stays c st.left (with_new st f)
with_new_stays c st k f h = go (nat_eq st.left 0) refl
  where
    go : (b : Bool) → nat_eq st.left 0 ≡ b → Stays c st.left (cond b (Done Outside) (f st.next (after_new st)))
    go true e = number_true st.left 0 e
    go false e = h st.next (kept_after_new c st e k)

module _ (c : ℕ) (st : State) (k : Kept c st) (e : Equation) (left : IsKept e.left) (right : IsKept e.right) where
  pattern_stays : (ts : List Tm) → (distinct_bounds ts ≡ None → ⊥) → (f : List ℕ → UnifyStep) → ((xs : List ℕ) → AreDistinct xs → Stays c st.left (f xs)) → Stays c st.left (on_pattern (distinct_bounds ts) f)
  pattern_stays ts n f h = go (distinct_bounds ts) refl
    where
      go : (o : Option (List ℕ)) → distinct_bounds ts ≡ o → Stays c st.left (on_pattern o f)
      go None p = absurd (n p)
      go (Some xs) p = h xs (distinct_bounds_are ts xs p).distinct

  solved_stays : (f : List ℕ) (m : ℕ) (S : Ty) (xs : List ℕ) (t : Tm) → IsKept t → (v : Verdict) → first_place f m xs 0 e.binders t ≡ v → VerdictKept v → Stays c st.left (solve_at st e f m S xs t v)
  solved_stays f m S xs t h Fine q w = kept_filled c (becomes f m S (abstracted e.binders xs t) ∷ []) st (abstracted_closed e.binders xs t h (λ j. at j (fine_within f m xs t 0 e.binders q j)), tt) k
    where
      at : (j : ℕ) → Among j xs ⊎ (loose (j + 0) t ≡ false) → Among j xs ⊎ (loose j t ≡ false)
      at j (inl g) = inl g
      at j (inr g) = let z : j ≡ j + 0 = omega arith in inr (ap (λ i. loose i t) z ∙ g)
  solved_stays f m S xs t h Refused q w = tt
  solved_stays f m S xs t h Strays q w = absurd w
  solved_stays f m S xs t h (Prunes x i T bs ys zs) q w = with_new_stays c st k (λ new st'. Solved (renewed (with_first e st') bs x i T ys new zs))
      (λ new l. kept_filled c (becomes x i T (abstracted bs ys (over bs x new zs (range_behind ys T))) ∷ []) (with_first e (after_new st)) (over_closed bs bs x new zs (range_behind ys T) ys w.0 w.1, tt) (record { kept = ((left, right), l.kept); count = l.count }))

  solve_stays : (f : List ℕ) (m : ℕ) (S : Ty) (xs : List ℕ) → AreDistinct xs → (t : Tm) → IsKept t → Stays c st.left (solve st e f m S xs t)
  solve_stays f m S xs d t h = solved_stays f m S xs t h (first_place f m xs 0 e.binders t) refl (verdict_kept f m xs t 0 e.binders h)

  same_stays : (f : List ℕ) (m : ℕ) (S : Ty) (xs : List ℕ) → AreDistinct xs → (ys : List ℕ) (b : Bool) → Stays c st.left (cond b (Lighter st) (with_new st (λ new st'. Solved (renewed st' e.binders f m S xs new (agreeing xs ys)))))
  same_stays f m S xs d ys true = k
  same_stays f m S xs d ys false = with_new_stays c st k (λ new st'. Solved (renewed st' e.binders f m S xs new (agreeing xs ys)))
      (λ new l. kept_filled c (becomes f m S (abstracted e.binders xs (over e.binders f new (agreeing xs ys) (range_behind xs S))) ∷ []) (after_new st) (over_closed e.binders e.binders f new (agreeing xs ys) (range_behind xs S) xs (agreeing_distinct xs ys d) (λ j h. agreeing_front xs ys j (subst (Among j) (agreeing_same xs ys) h)), tt) l)

  two_stay : (f : List ℕ) (m : ℕ) (S : Ty) (xs : List ℕ) → AreDistinct xs → (g : List ℕ) (i : ℕ) (T : Ty) (ys : List ℕ) → Stays c st.left (solve_two st e f m S xs g i T ys)
  two_stay f m S xs d g i T ys = with_new_stays c st k (λ new st'. Solved (both_become st' e f m S xs g i T ys (over e.binders f new (filter (has_number ys) xs) (range_behind xs S))))
      (λ new l.
      let zs = filter (has_number ys) xs in
      let dz = filter_distinct (has_number ys) xs d in
      let R = range_behind xs S in
      kept_filled c (becomes f m S (abstracted e.binders xs (over e.binders f new zs R)) ∷ becomes g i T (abstracted e.binders ys (over e.binders f new zs R)) ∷ []) (after_new st)
      (over_closed e.binders e.binders f new zs R xs dz (λ j h. (filter_front (has_number ys) xs j h).0), (over_closed e.binders e.binders f new zs R ys dz (λ j h. among_has ys j (filter_front (has_number ys) xs j h).1), tt)) l)

  both_stay : (f : List ℕ) (m : ℕ) (S : Ty) (xs : List ℕ) → AreDistinct xs → (g : List ℕ) (i : ℕ) (T : Ty) (ys : List ℕ) → AreDistinct ys → (b : Bool) → Stays c st.left (cond b (solve_same st e f m S xs ys) (solve_two st e f m S xs g i T ys))
  both_stay f m S xs d g i T ys h true = same_stays f m S xs d ys (nat_eq (length (agreeing xs ys)) (length xs))
  both_stay f m S xs d g i T ys h false = two_stay f m S xs d g i T ys

  flexible_stays : (t u : Tm) → ((v : Key) → t ≡ unknown v → distinct_bounds (args_of e.left) ≡ None → ⊥) → ((v : Key) → u ≡ unknown v → distinct_bounds (args_of e.right) ≡ None → ⊥) → Stays c st.left (flexible_step st e t u)
  flexible_stays (Const x1 T1) (Const x2 T2) p q = tt
  flexible_stays (Const x1 T1) (Free x2 T2) p q = tt
  flexible_stays (Const x1 T1) (Unknown x2 n2 T2) p q = pattern_stays (args_of e.right) (q (key x2 n2 T2) refl) _ (λ ys dy. solve_stays x2 n2 T2 ys dy e.left left)
  flexible_stays (Const x1 T1) (Bound n2) p q = tt
  flexible_stays (Const x1 T1) (Abs x2 T2 b2) p q = tt
  flexible_stays (Const x1 T1) (App f2 a2) p q = tt
  flexible_stays (Free x1 T1) (Const x2 T2) p q = tt
  flexible_stays (Free x1 T1) (Free x2 T2) p q = tt
  flexible_stays (Free x1 T1) (Unknown x2 n2 T2) p q = pattern_stays (args_of e.right) (q (key x2 n2 T2) refl) _ (λ ys dy. solve_stays x2 n2 T2 ys dy e.left left)
  flexible_stays (Free x1 T1) (Bound n2) p q = tt
  flexible_stays (Free x1 T1) (Abs x2 T2 b2) p q = tt
  flexible_stays (Free x1 T1) (App f2 a2) p q = tt
  flexible_stays (Unknown x1 n1 T1) (Const x2 T2) p q = pattern_stays (args_of e.left) (p (key x1 n1 T1) refl) _ (λ xs dx. solve_stays x1 n1 T1 xs dx e.right right)
  flexible_stays (Unknown x1 n1 T1) (Free x2 T2) p q = pattern_stays (args_of e.left) (p (key x1 n1 T1) refl) _ (λ xs dx. solve_stays x1 n1 T1 xs dx e.right right)
  flexible_stays (Unknown x1 n1 T1) (Unknown x2 n2 T2) p q = pattern_stays (args_of e.left) (p (key x1 n1 T1) refl) _ (λ xs dx. pattern_stays (args_of e.right) (q (key x2 n2 T2) refl) _ (λ ys dy. both_stay x1 n1 T1 xs dx x2 n2 T2 ys dy (name_eq x1 x2 && nat_eq n1 n2)))
  flexible_stays (Unknown x1 n1 T1) (Bound n2) p q = pattern_stays (args_of e.left) (p (key x1 n1 T1) refl) _ (λ xs dx. solve_stays x1 n1 T1 xs dx e.right right)
  flexible_stays (Unknown x1 n1 T1) (Abs x2 T2 b2) p q = pattern_stays (args_of e.left) (p (key x1 n1 T1) refl) _ (λ xs dx. solve_stays x1 n1 T1 xs dx e.right right)
  flexible_stays (Unknown x1 n1 T1) (App f2 a2) p q = pattern_stays (args_of e.left) (p (key x1 n1 T1) refl) _ (λ xs dx. solve_stays x1 n1 T1 xs dx e.right right)
  flexible_stays (Bound n1) (Const x2 T2) p q = tt
  flexible_stays (Bound n1) (Free x2 T2) p q = tt
  flexible_stays (Bound n1) (Unknown x2 n2 T2) p q = pattern_stays (args_of e.right) (q (key x2 n2 T2) refl) _ (λ ys dy. solve_stays x2 n2 T2 ys dy e.left left)
  flexible_stays (Bound n1) (Bound n2) p q = tt
  flexible_stays (Bound n1) (Abs x2 T2 b2) p q = tt
  flexible_stays (Bound n1) (App f2 a2) p q = tt
  flexible_stays (Abs x1 T1 b1) (Const x2 T2) p q = tt
  flexible_stays (Abs x1 T1 b1) (Free x2 T2) p q = tt
  flexible_stays (Abs x1 T1 b1) (Unknown x2 n2 T2) p q = pattern_stays (args_of e.right) (q (key x2 n2 T2) refl) _ (λ ys dy. solve_stays x2 n2 T2 ys dy e.left left)
  flexible_stays (Abs x1 T1 b1) (Bound n2) p q = tt
  flexible_stays (Abs x1 T1 b1) (Abs x2 T2 b2) p q = tt
  flexible_stays (Abs x1 T1 b1) (App f2 a2) p q = tt
  flexible_stays (App f1 a1) (Const x2 T2) p q = tt
  flexible_stays (App f1 a1) (Free x2 T2) p q = tt
  flexible_stays (App f1 a1) (Unknown x2 n2 T2) p q = pattern_stays (args_of e.right) (q (key x2 n2 T2) refl) _ (λ ys dy. solve_stays x2 n2 T2 ys dy e.left left)
  flexible_stays (App f1 a1) (Bound n2) p q = tt
  flexible_stays (App f1 a1) (Abs x2 T2 b2) p q = tt
  flexible_stays (App f1 a1) (App f2 a2) p q = tt

  types_stay : (parts : List Equation) → AllKept parts → (q : Option (List TypeEntry)) → Stays c st.left (after_types (record st { equations = parts ++ st.equations }) q)
  types_stay parts p None = tt
  types_stay parts p (Some s) = record { kept = all_retyped s (parts ++ st.equations) (all_kept_append parts st.equations p k.kept); count = k.count }

  front_stays : (r : Parts) → parts_at e.binders e.left e.right ≡ r → Stays c st.left (front_step st e r)
  front_stays Clash q = tt
  front_stays (Into parts) q = record { kept = all_kept_append parts st.equations (parts_are_kept e.binders e.left e.right parts left right (subst (λ r. AreParts r parts) (sym q) refl)) k.kept; count = k.count }
  front_stays (Heads S T parts) q = types_stay parts (parts_are_kept e.binders e.left e.right parts left right (subst (λ r. AreParts r parts) (sym q) refl)) (unify_typs ((S, T) ∷ []))
  front_stays Flexible q = flexible_stays (head_of e.left) (head_of e.right) (λ v h. spread_bounds e.left (headed_spread e.left v h left)) (λ v h. spread_bounds e.right (headed_spread e.right v h right))

step_stays : (c : ℕ) (st : State) → Kept c st → Stays c st.left (unify_step st)
unfolding unify_step
step_stays c st k = go st.equations k.kept
  where
    go : (eqs : List Equation) → AllKept eqs → Stays c st.left (elim eqs [
      | [] ↦ Done (Yes st.types st.terms st.next)
      | e ∷ es ↦ front_step (record st { equations = es }) e (parts_at e.binders e.left e.right)
    ])
    go [] h = tt
    go (e ∷ es) h = front_stays c (record st { equations = es }) (record { kept = h.1; count = k.count }) e h.0.0 h.0.1 (parts_at e.binders e.left e.right) refl

-- ---- the end
-- the steps lead to a state where no number is left and one is needed
record Stuck (c : ℕ) (st : State) : Type 0 where
  last : State
  reached : LeadsTo unify_step last st
  taken : last.next ≡ c
  none_left : last.left ≡ 0
  ends : unify_step last ≡ Done Outside

stuck : {a : Answer} {st : State} {n : ℕ} → Ends unify_step a st n → a ≡ Outside → (c : ℕ) → Kept c st → Stuck c st
stuck {a} {st} (now e) h c k =
    let d : unify_step st ≡ Done Outside = e ∙ ap Done h in
    let z : st.left ≡ 0 = subst (Stays c st.left) d (step_stays c st k) in
    let w = k.count in
    record { last = st; reached = arrived; taken = omega (arith, w, z); none_left = z; ends = d }
stuck {a} {st} (lighter t e r) h c k =
    let s = stuck r h c (subst (Stays c st.left) e (step_stays c st k)) in
    record { last = s.last; reached = by_lighter t e s.reached; taken = s.taken; none_left = s.none_left; ends = s.ends }
stuck {a} {st} (solved t e r) h c k =
    let s = stuck r h c (subst (Stays c st.left) e (step_stays c st k)) in
    record { last = s.last; reached = by_solved t e s.reached; taken = s.taken; none_left = s.none_left; ends = s.ends }

-- ---- the start
argument_loose : (t : Tm) → IsSpread t → (i : ℕ) → is_argument i t ≡ false → loose i t ≡ false
argument_loose (Const x T) s i h = absurd s
argument_loose (Free x T) s i h = absurd s
argument_loose (Unknown x n T) s i h = refl
argument_loose (Bound n) s i h = absurd s
argument_loose (Abs x T b) s i h = absurd s
argument_loose (App f (Bound n)) s i h = let p = neither_true (nat_eq i n) (is_argument i f) h in neither (loose i f) (nat_eq n i) (argument_loose f s.0 i p.1) (number_other i n p.0)
argument_loose (App f (Const x T)) s i h = absurd s.1
argument_loose (App f (Free x T)) s i h = absurd s.1
argument_loose (App f (Unknown x n T)) s i h = absurd s.1
argument_loose (App f (Abs x T b)) s i h = absurd s.1
argument_loose (App f (App g a)) s i h = absurd s.1

new_bound : (f a : Tm) → IsSpread f → is_new_bound f a ≡ true → IsNew f a
new_bound f (Bound n) s h = argument_loose f s n (not_true (is_argument n f) h)
new_bound f (Const x T) s h = absurd (cc)
new_bound f (Free x T) s h = absurd (cc)
new_bound f (Unknown x i T) s h = absurd (cc)
new_bound f (Abs x T b) s h = absurd (cc)
new_bound f (App g b) s h = absurd (cc)

spread_of : (t : Tm) → is_unknown (order.head_of t) ≡ true → distinct_args t ≡ true → IsSpread t
spread_of (Const x T) u d = absurd (cc)
spread_of (Free x T) u d = absurd (cc)
spread_of (Unknown x i T) u d = tt
spread_of (Bound n) u d = absurd (cc)
spread_of (Abs x T b) u d = absurd (cc)
spread_of (App f a) u d =
    let p = both_true (is_new_bound f a) (distinct_args f) d in
    let s = spread_of f u p.1 in
    (s, new_bound f a s p.0)

rigid_of : (t : Tm) → IsHead t → IsNormal t → is_unknown (order.head_of t) ≡ false → IsRigid t
rigid_of (Const x T) h n u = tt
rigid_of (Free x T) h n u = tt
rigid_of (Unknown x i T) h n u = absurd (cc)
rigid_of (Bound k) h n u = tt
rigid_of (Abs x T b) h n u = absurd h
rigid_of (App f a) h n u = rigid_of f n.0 n.1.0 u

app_pattern : (f a : Tm) (c : Bool) → is_unknown (order.head_of f) ≡ c → cond c (distinct_args (App f a)) (is_pattern f && is_pattern a) ≡ true → IsNormal (App f a) → (is_pattern f ≡ true → IsKept f) → (is_pattern a ≡ true → IsKept a) → IsKept (App f a)
app_pattern f a true u h n pf pa = inl (spread_of (App f a) u h)
app_pattern f a false u h n pf pa = let p = both_true (is_pattern f) (is_pattern a) h in inr (rigid_of f n.0 n.1.0 u, (pf p.0, pa p.1))

pub pattern_kept : (t : Tm) → IsNormal t → is_pattern t ≡ true → IsKept t
pattern_kept (Const x T) n h = tt
pattern_kept (Free x T) n h = tt
pattern_kept (Unknown x i T) n h = tt
pattern_kept (Bound k) n h = tt
pattern_kept (Abs x T b) n h = pattern_kept b n.0 h
pattern_kept (App f a) n h = app_pattern f a (is_unknown (order.head_of f)) refl h n (pattern_kept f n.1.0) (pattern_kept a n.1.1)

patterns_kept : (es : List Equation) → ArePatterns es → AllKept es
patterns_kept [] h = tt
patterns_kept (e ∷ es) h = ((pattern_kept e.left h.0.0.0 h.0.0.1, pattern_kept e.right h.0.1.0 h.0.1.1), patterns_kept es h.1)

pub patterns_are_inside : PatternsAreInside
unfolding unify
patterns_are_inside es k h q = go (unify_typs (all_types es)) refl q
  where
    go : (o : Option (List TypeEntry)) → unify_typs (all_types es) ≡ o → answer_at es k o ≡ Outside → NeedsMore es k
    go None u e = absurd (cc)
    go (Some s) u e = at (clashes (retyped_state s (start es k)).equations) e
      where
        at : (b : Bool) → cond b No (unified (retyped_state s (start es k))) ≡ Outside → NeedsMore es k
        at true p = absurd (cc)
        at false p =
            let r = stuck (unified_reached (retyped_state s (start es k))).1 p (k + new_unknowns) (record { kept = all_retyped s es (patterns_kept es h); count = refl }) in
            record { types = s; unifier = u; state = r.last; reached = r.reached; taken = r.taken; none_left = r.none_left; ends = r.ends }
