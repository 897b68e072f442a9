-- Unification of terms that differ finds a clash.
use Rattle.std.proofs.Common.{◌≡◌, ◌⊎◌, inl, inr, ℕ, List, [], ◌∷◌, ◌++◌, map, Bool, true, false, cond, Option, Some, None, is_some, refl, sym, ap, ◌∙◌, subst}
use Rattle.std.specs.Prelude.{option_map}
use Rattle.isa_terms.specs.Types.{Ty}
use Rattle.isa_terms.specs.Terms.{Tm, Const, Free, Unknown, Bound, Abs, App}
use Rattle.isa_terms.specs.Equal.{name_eq}
use Rattle.isa_terms.specs.declared.inst.TypeEntry.{TypeEntry}
use Rattle.isa_unify.specs.declared.equation.Variable.{Variable}
use Rattle.isa_unify.specs.declared.equation.Equation.{Equation}
use Rattle.isa_unify.specs.declared.progress.Parts.{Parts}
use Rattle.isa_unify.specs.declared.progress.Parts.TheVariants as parts
use Rattle.isa_unify.specs.declared.progress.Answer.TheVariants.{No}
use Rattle.isa_unify.specs.Descent as Ending
use Rattle.isa_unify.specs.Descent.{Step, Done, Lighter, Solved, Ends}
use Rattle.isa_unify.specs.TypeUnification.{unify_typs}
use Rattle.isa_unify.specs.Spines.{head_of, args_of}
use Rattle.isa_unify.specs.Unification.{paired, typed_parts, meet, parts_at, clash_step_at, clash_step, clashes, retyped, retyped_equation, retyped_state, start, answer_at, all_types, unified, unify}
use Rattle.isa_unify.proofs.Tests.{either_true}
use Rattle.isa_unify.proofs.Adequacy.{clashes_reached}
use Rattle.isa_clash.specs.Differing.{is_named, is_firm, differ, differ_at}
use Rattle.isa_clash.specs.Laws.{Differ, here, under, argument, HaveDifferent}
use Rattle.isa_clash.proofs.Lifted.{split_test, retyped_differ}
use Rattle.isa_clash.proofs.Matching.{not_true}

-- ---- lists of equations
front : (ps es : List Equation) → HaveDifferent ps → HaveDifferent (ps ++ es)
front [] es h = absurd h
front (p ∷ ps) es (inl h) = inl h
front (p ∷ ps) es (inr h) = inr (front ps es h)

back : (ps es : List Equation) → HaveDifferent es → HaveDifferent (ps ++ es)
back [] es h = h
back (p ∷ ps) es h = inr (back ps es h)

-- ---- the pairs of arguments
abbrev PairsDiffer : Option (List Equation) → Type 0
PairsDiffer None = Unit {0}
PairsDiffer (Some es) = HaveDifferent es

abbrev eq_at : List Variable → Tm → Tm → Equation
eq_at bs a b = record { binders = bs; left = a; right = b }

abbrev put : Equation → Option (List Equation) → Option (List Equation)
put e o = option_map (λ es. e ∷ es) o

none_right : (bs : List Variable) (ts : List Tm) (a : Tm) → PairsDiffer (paired bs (ts ++ a ∷ []) [])
none_right bs [] a = tt
none_right bs (t ∷ ts) a = tt

none_left : (bs : List Variable) (us : List Tm) (b : Tm) → PairsDiffer (paired bs [] (us ++ b ∷ []))
none_left bs [] b = tt
none_left bs (u ∷ us) b = tt

put_differs : (e : Equation) (o : Option (List Equation)) → PairsDiffer o → PairsDiffer (put e o)
put_differs e None h = tt
put_differs e (Some es) h = inr h

put_first : (e : Equation) (o : Option (List Equation)) → Differ false e.left e.right → PairsDiffer (put e o)
put_first e None h = tt
put_first e (Some es) h = inl h

-- the arguments before the last differ
longer : (bs : List Variable) (ts us : List Tm) (a b : Tm) → PairsDiffer (paired bs ts us) → PairsDiffer (paired bs (ts ++ a ∷ []) (us ++ b ∷ []))
longer bs [] [] a b h = absurd h
longer bs [] (u ∷ us) a b h = put_differs (eq_at bs a u) (paired bs [] (us ++ b ∷ [])) (none_left bs us b)
longer bs (t ∷ ts) [] a b h = put_differs (eq_at bs t b) (paired bs (ts ++ a ∷ []) []) (none_right bs ts a)
longer bs (t ∷ ts) (u ∷ us) a b h = go (paired bs ts us) h (longer bs ts us a b)
  where
    go : (o : Option (List Equation)) → PairsDiffer (put (eq_at bs t u) o) → (PairsDiffer o → PairsDiffer (paired bs (ts ++ a ∷ []) (us ++ b ∷ []))) → PairsDiffer (put (eq_at bs t u) (paired bs (ts ++ a ∷ []) (us ++ b ∷ [])))
    go None k i = put_differs (eq_at bs t u) (paired bs (ts ++ a ∷ []) (us ++ b ∷ [])) (i tt)
    go (Some es) (inl k) i = put_first (eq_at bs t u) (paired bs (ts ++ a ∷ []) (us ++ b ∷ [])) k
    go (Some es) (inr k) i = put_differs (eq_at bs t u) (paired bs (ts ++ a ∷ []) (us ++ b ∷ [])) (i k)

-- the last ones do
last : (bs : List Variable) (ts us : List Tm) (a b : Tm) → Differ false a b → PairsDiffer (paired bs (ts ++ a ∷ []) (us ++ b ∷ []))
last bs [] [] a b d = inl d
last bs [] (u ∷ us) a b d = put_differs (eq_at bs a u) (paired bs [] (us ++ b ∷ [])) (none_left bs us b)
last bs (t ∷ ts) [] a b d = put_differs (eq_at bs t b) (paired bs (ts ++ a ∷ []) []) (none_right bs ts a)
last bs (t ∷ ts) (u ∷ us) a b d = put_differs (eq_at bs t u) (paired bs (ts ++ a ∷ []) (us ++ b ∷ [])) (last bs ts us a b d)

-- ---- heads
-- the heads have other names, or the arguments differ
abbrev HeadsDiffer : Tm → Tm → Type 0
HeadsDiffer (Const x S) (Const y T) = name_eq x y ≡ false
HeadsDiffer (Free x S) (Free y T) = name_eq x y ≡ false
HeadsDiffer (Const x S) (Free y T) = Unit {0}
HeadsDiffer (Free x S) (Const y T) = Unit {0}
HeadsDiffer (Const x S) (Bound n) = Unit {0}
HeadsDiffer (Free x S) (Bound n) = Unit {0}
HeadsDiffer g h = ⊥

abbrev Spread : List Variable → Tm → Tm → Type 0
Spread bs t u = HeadsDiffer (head_of t) (head_of u) ⊎ PairsDiffer (paired bs (args_of t) (args_of u))

-- the head of a term with a name
named_head : (t : Tm) → is_named t ≡ is_named (head_of t)
named_head (Const x T) = refl
named_head (Free x T) = refl
named_head (Unknown x i T) = refl
named_head (Bound n) = refl
named_head (Abs x T b) = refl
named_head (App f a) = named_head f

spread : (bs : List Variable) (t u : Tm) → is_named t ≡ true → is_firm false u ≡ true → differ_at false t u ≡ true → Spread bs t u
spread bs (Const x S) (Const y T) n f e = inl (not_true (name_eq x y) e)
spread bs (Const x S) (Free y T) n f e = inl tt
spread bs (Const x S) (Unknown y j T) n f e = absurd (cc)
spread bs (Const x S) (Bound m) n f e = inl tt
spread bs (Const x S) (Abs y T c) n f e = absurd (cc)
spread bs (Const x S) (App g b) n f e = inr (none_left bs (args_of g) b)
spread bs (Free x S) (Const y T) n f e = inl tt
spread bs (Free x S) (Free y T) n f e = inl (not_true (name_eq x y) e)
spread bs (Free x S) (Unknown y j T) n f e = absurd (cc)
spread bs (Free x S) (Bound m) n f e = inl tt
spread bs (Free x S) (Abs y T c) n f e = absurd (cc)
spread bs (Free x S) (App g b) n f e = inr (none_left bs (args_of g) b)
spread bs (Unknown x i T) u n f e = absurd (cc)
spread bs (Bound m) u n f e = absurd (cc)
spread bs (Abs x T b) u n f e = absurd (cc)
spread bs (App h a) (App g b) n f e = go (either_true (differ_at false h g) (differ false a b) e) (λ d. spread bs h g n f d)
  where
    more : Spread bs h g → Spread bs (App h a) (App g b)
    more (inl k) = inl k
    more (inr k) = inr (longer bs (args_of h) (args_of g) a b k)

    go : (differ_at false h g ≡ true) ⊎ (differ false a b ≡ true) → (differ_at false h g ≡ true → Spread bs h g) → Spread bs (App h a) (App g b)
    go (inl d) i = more (i d)
    go (inr d) i = inr (last bs (args_of h) (args_of g) a b (here d))
spread bs (App h a) (Const y T) n f e = inr (none_right bs (args_of h) a)
spread bs (App h a) (Free y T) n f e = inr (none_right bs (args_of h) a)
spread bs (App h a) (Unknown y j T) n f e = absurd (cc)
spread bs (App h a) (Bound m) n f e = inr (none_right bs (args_of h) a)
spread bs (App h a) (Abs y T c) n f e = absurd (cc)

-- ---- the parts of an equation whose sides differ
abbrev PartsDiffer : Parts → Type 0
PartsDiffer parts.Flexible = ⊥
PartsDiffer parts.Clash = Unit {0}
PartsDiffer (parts.Into es) = HaveDifferent es
PartsDiffer (parts.Heads S T es) = HaveDifferent es

typed_differ : (S T : Ty) (o : Option (List Equation)) → PairsDiffer o → PartsDiffer (typed_parts S T o)
typed_differ S T None h = tt
typed_differ S T (Some es) h = h

-- two heads, the one with a name and the other firm
met : (bs : List Variable) (g : Tm) (ts : List Tm) (h : Tm) (us : List Tm) → is_named g ≡ true → is_firm false h ≡ true → HeadsDiffer g h ⊎ PairsDiffer (paired bs ts us) → PartsDiffer (meet bs g ts h us)
met bs (Const x S) ts (Const y T) us n f k = go (name_eq x y) refl k
  where
    go : (b : Bool) → name_eq x y ≡ b → (name_eq x y ≡ false) ⊎ PairsDiffer (paired bs ts us) → PartsDiffer (cond b (typed_parts S T (paired bs ts us)) parts.Clash)
    go false e d = tt
    go true e (inl d) = absurd (cc)
    go true e (inr d) = typed_differ S T (paired bs ts us) d
met bs (Const x S) ts (Free y T) us n f k = tt
met bs (Const x S) ts (Unknown y j T) us n f k = absurd (cc)
met bs (Const x S) ts (Bound m) us n f k = tt
met bs (Const x S) ts (Abs y T c) us n f k = absurd (cc)
met bs (Const x S) ts (App p q) us n f k = tt
met bs (Free x S) ts (Const y T) us n f k = tt
met bs (Free x S) ts (Free y T) us n f k = go (name_eq x y) refl k
  where
    go : (b : Bool) → name_eq x y ≡ b → (name_eq x y ≡ false) ⊎ PairsDiffer (paired bs ts us) → PartsDiffer (cond b (typed_parts S T (paired bs ts us)) parts.Clash)
    go false e d = tt
    go true e (inl d) = absurd (cc)
    go true e (inr d) = typed_differ S T (paired bs ts us) d
met bs (Free x S) ts (Unknown y j T) us n f k = absurd (cc)
met bs (Free x S) ts (Bound m) us n f k = tt
met bs (Free x S) ts (Abs y T c) us n f k = absurd (cc)
met bs (Free x S) ts (App p q) us n f k = tt
met bs (Unknown x i T) ts h us n f k = absurd (cc)
met bs (Bound m) ts h us n f k = absurd (cc)
met bs (Abs x T b) ts h us n f k = absurd (cc)
met bs (App p q) ts (Const y T) us n f k = tt
met bs (App p q) ts (Free y T) us n f k = tt
met bs (App p q) ts (Unknown y j T) us n f k = absurd (cc)
met bs (App p q) ts (Bound m) us n f k = tt
met bs (App p q) ts (Abs y T c) us n f k = tt
met bs (App p q) ts (App v w) us n f k = tt

firm_head : (fixed : Bool) (t : Tm) → is_firm fixed t ≡ is_firm fixed (head_of t)
firm_head fixed (Const x T) = refl
firm_head fixed (Free x T) = refl
firm_head fixed (Unknown x i T) = refl
firm_head fixed (Bound n) = refl
firm_head fixed (Abs x T b) = refl
firm_head fixed (App f a) = firm_head fixed f

-- no abstraction has a name or a firm head
plain_parts : (bs : List Variable) (t u : Tm) → is_named t ≡ true → is_firm false u ≡ true → parts_at bs t u ≡ meet bs (head_of t) (args_of t) (head_of u) (args_of u)
unfolding parts_at
plain_parts bs (Abs x T b) u n f = absurd (cc)
plain_parts bs (Unknown x i T) u n f = absurd (cc)
plain_parts bs (Bound m) u n f = absurd (cc)
plain_parts bs (Const x T) (Const y U) n f = refl
plain_parts bs (Const x T) (Free y U) n f = refl
plain_parts bs (Const x T) (Unknown y j U) n f = absurd (cc)
plain_parts bs (Const x T) (Bound m) n f = refl
plain_parts bs (Const x T) (Abs y U c) n f = absurd (cc)
plain_parts bs (Const x T) (App g b) n f = refl
plain_parts bs (Free x T) (Const y U) n f = refl
plain_parts bs (Free x T) (Free y U) n f = refl
plain_parts bs (Free x T) (Unknown y j U) n f = absurd (cc)
plain_parts bs (Free x T) (Bound m) n f = refl
plain_parts bs (Free x T) (Abs y U c) n f = absurd (cc)
plain_parts bs (Free x T) (App g b) n f = refl
plain_parts bs (App h a) (Const y U) n f = refl
plain_parts bs (App h a) (Free y U) n f = refl
plain_parts bs (App h a) (Unknown y j U) n f = absurd (cc)
plain_parts bs (App h a) (Bound m) n f = refl
plain_parts bs (App h a) (Abs y U c) n f = absurd (cc)
plain_parts bs (App h a) (App g b) n f = refl

different_parts : (bs : List Variable) (t u : Tm) → Differ false t u → PartsDiffer (parts_at bs t u)
unfolding parts_at
different_parts bs t u (here e) =
    let a = split_test false t u e in
    subst PartsDiffer (sym (plain_parts bs t u a.0 a.1)) (met bs (head_of t) (args_of t) (head_of u) (args_of u) (sym (named_head t) ∙ a.0) (sym (firm_head false u) ∙ a.1) (spread bs t u a.0 a.1 a.2))
different_parts bs t u (under d) = inl d
different_parts bs t u (argument {c} {S} {T} {t = p} {u = q} d) = ap_name (name_eq c c) (inl d)
  where
    ap_name : (b : Bool) → HaveDifferent (eq_at bs p q ∷ []) → PartsDiffer (cond b (parts.Heads S T (eq_at bs p q ∷ [])) parts.Clash)
    ap_name true h = h
    ap_name false h = tt

-- ---- the walk that looks for clashes
abbrev Goes : Step (List Equation) Bool → Type 0
Goes (Done b) = b ≡ true
Goes (Lighter es) = HaveDifferent es
Goes (Solved es) = ⊥

goes_at : (p : Parts) (es : List Equation) → PartsDiffer p ⊎ HaveDifferent es → (p ≡ parts.Flexible → HaveDifferent es) → Goes (clash_step_at p es)
goes_at parts.Flexible es h k = k refl
goes_at parts.Clash es h k = refl
goes_at (parts.Into ps) es (inl h) k = front ps es h
goes_at (parts.Into ps) es (inr h) k = back ps es h
goes_at (parts.Heads S T ps) es h k = go (is_some (unify_typs ((S, T) ∷ []))) h
  where
    go : (b : Bool) → HaveDifferent ps ⊎ HaveDifferent es → Goes (cond b (Lighter (ps ++ es)) (Done true))
    go true (inl d) = front ps es d
    go true (inr d) = back ps es d
    go false d = refl

flexible_not : (p : Parts) → PartsDiffer p → p ≡ parts.Flexible → ⊥
flexible_not p h e = subst PartsDiffer e h

step_goes : (es : List Equation) → HaveDifferent es → Goes (clash_step es)
unfolding clash_step
step_goes [] h = absurd h
step_goes (e ∷ es) (inl d) = let p = different_parts e.binders e.left e.right d in goes_at (parts_at e.binders e.left e.right) es (inl p) (λ q. absurd (flexible_not (parts_at e.binders e.left e.right) p q))
step_goes (e ∷ es) (inr d) = goes_at (parts_at e.binders e.left e.right) es (inr d) (λ q. d)

ends_true : (b : Bool) (es : List Equation) (n : ℕ) → Ends clash_step b es n → HaveDifferent es → b ≡ true
ends_true b es n (Ending.now e) h = subst Goes e (step_goes es h)
ends_true b es n (Ending.lighter {k} t e r) h = ends_true b t k r (subst Goes e (step_goes es h))
ends_true b es n (Ending.solved t e r) h = absurd (subst Goes e (step_goes es h))

different_clash : (es : List Equation) → HaveDifferent es → clashes es ≡ true
different_clash es h = let r = clashes_reached es in ends_true (clashes es) es r.0 r.1 h

-- ---- after the types
retyped_different : (s : List TypeEntry) (t u : Tm) → Differ false t u → Differ false (retyped s t) (retyped s u)
retyped_different s t u (here e) = here (retyped_differ false s t u ∙ e)
retyped_different s t u (under {t = p} {u = q} d) = under (retyped_different s p q d)
retyped_different s t u (argument {t = p} {u = q} d) = argument (retyped_different s p q d)

retyped_have : (s : List TypeEntry) (es : List Equation) → HaveDifferent es → HaveDifferent (map (retyped_equation s) es)
retyped_have s [] h = absurd h
retyped_have s (e ∷ es) (inl d) = inl (retyped_different s e.left e.right d)
retyped_have s (e ∷ es) (inr h) = inr (retyped_have s es h)

pub differing_have_no_unifier : (es : List Equation) (k : ℕ) → HaveDifferent es → unify es k ≡ No
unfolding unify
differing_have_no_unifier es k h = go (unify_typs (all_types es))
  where
    go : (o : Option (List TypeEntry)) → answer_at es k o ≡ No
    go None = refl
    go (Some s) = ap (λ b. cond b No (unified (retyped_state s (start es k)))) (different_clash (map (retyped_equation s) es) (retyped_have s es h))
