-- Equations that are well typed and normal, and that their parts are so.
use Rattle.std.proofs.Common.{◌≡◌, ℕ, List, [], ◌∷◌, ◌++◌, map, Bool, true, false, cond, nat_eq, Option, Some, None, refl, sym, ap, ◌∙◌, subst, arith}
use Rattle.std.specs.Prelude.{option_map}
use Rattle.std.proofs.lemmas.Bool.Decides.{nat_tests}
use Rattle.isa_terms.specs.Types.{Ty}
use Rattle.isa_terms.specs.Terms.{Tm, Const, Free, Unknown, Bound, Abs, App}
use Rattle.isa_terms.specs.Equal.{name_eq}
use Rattle.isa_terms.specs.Typing.{function_of}
use Rattle.isa_terms.specs.Normal.{IsHead, IsNormal}
use Rattle.isa_terms.specs.Instance.{inst_ty}
use Rattle.isa_terms.specs.declared.inst.TypeEntry.{TypeEntry}
use Rattle.isa_terms.specs.Typed.{Typed, TConst, TFree, TBound, TApp}
use Rattle.isa_terms.proofs.Unique.{abs_typed, app_typed, domain_same, range_same}
use Rattle.isa_terms.proofs.Opening.{next_typed}
use Rattle.isa_terms.proofs.NormalForms.{raise_normal, raise_head}
use Rattle.isa_terms.proofs.Instances.{inst_typed}
use Rattle.isa_terms.proofs.Heads.{IsSpine, normal_spine, one_type}
use Rattle.isa_unify.specs.declared.equation.Variable.{Variable}
use Rattle.isa_unify.specs.declared.equation.Equation.{Equation}
use Rattle.isa_unify.specs.declared.progress.Parts.{Parts}
use Rattle.isa_unify.specs.declared.progress.Parts.TheVariants.{Flexible, Clash, Into, Heads}
use Rattle.isa_unify.specs.Spines.{head_of, args_of}
use Rattle.isa_unify.specs.Unification.{paired, inner_parts, typed_parts, meet, opened, parts_at, types_in, retyped, retyped_variable, retyped_equation}
use Rattle.isa_unify.proofs.TypeInstances.{inst_nothing}
use Rattle.isa_unify.proofs.Measure.{AreParts, meet_paired}
use Rattle.isa_unify.proofs.Meaning.{IsAtom, head_atom}
use Rattle.isa_unify.proofs.Backward.{SameType}

-- ---- normal forms
abbrev pub AllNormal : List Equation → Type 0
AllNormal [] = Unit {0}
AllNormal (e ∷ es) = (IsNormal e.left × IsNormal e.right) × AllNormal es

abbrev pub AreNormal : List Tm → Type 0
AreNormal [] = Unit {0}
AreNormal (t ∷ ts) = IsNormal t × AreNormal ts

normal_append : (ts us : List Tm) → AreNormal ts → AreNormal us → AreNormal (ts ++ us)
normal_append [] us h k = k
normal_append (t ∷ ts) us h k = (h.0, normal_append ts us h.1 k)

pub all_normal_append : (es fs : List Equation) → AllNormal es → AllNormal fs → AllNormal (es ++ fs)
all_normal_append [] fs h k = k
all_normal_append (e ∷ es) fs h k = (h.0, all_normal_append es fs h.1 k)

pub args_normal : (t : Tm) → IsNormal t → AreNormal (args_of t)
args_normal (App f a) n = normal_append (args_of f) (a ∷ []) (args_normal f n.1.0) (n.1.1, tt)
args_normal (Const x T) n = tt
args_normal (Free x T) n = tt
args_normal (Unknown x i T) n = tt
args_normal (Bound k) n = tt
args_normal (Abs x T b) n = tt

paired_normal : (bs : List Variable) (ts us : List Tm) (es : List Equation) → AreNormal ts → AreNormal us → paired bs ts us ≡ Some es → AllNormal es
paired_normal bs [] [] es h k e = let q : [] ≡ es = cc in subst AllNormal q tt
paired_normal bs (t ∷ ts) (u ∷ us) es h k e = go (paired bs ts us) refl e (λ fs p. paired_normal bs ts us fs h.1 k.1 p)
  where
    go : (o : Option (List Equation)) → paired bs ts us ≡ o → option_map (λ fs. record { binders = bs; left = t; right = u } ∷ fs) o ≡ Some es → ((fs : List Equation) → paired bs ts us ≡ Some fs → AllNormal fs) → AllNormal es
    go None p l ih = absurd (cc)
    go (Some fs) p l ih =
        let q : record { binders = bs; left = t; right = u } ∷ fs ≡ es = cc in
        subst AllNormal q ((h.0, k.0), ih fs p)
paired_normal bs [] (u ∷ us) es h k e = absurd (cc)
paired_normal bs (t ∷ ts) [] es h k e = absurd (cc)

opened_normal : (t : Tm) → IsHead t → IsNormal t → IsNormal (opened t)
opened_normal t h n = (raise_head 1 0 t h, (raise_normal 1 0 t n, tt))

meet_normal : (bs : List Variable) (t u : Tm) (es : List Equation) → IsNormal t → IsNormal u → AreParts (meet bs (head_of t) (args_of t) (head_of u) (args_of u)) es → AllNormal es
meet_normal bs t u es n m p = paired_normal bs (args_of t) (args_of u) es (args_normal t n) (args_normal u m) (meet_paired bs (head_of t) (args_of t) (head_of u) (args_of u) es p)

one_normal : (bs : List Variable) (t u : Tm) (es : List Equation) → IsNormal t → IsNormal u → record { binders = bs; left = t; right = u } ∷ [] ≡ es → AllNormal es
one_normal bs t u es n m p = subst AllNormal p ((n, m), tt)

-- ---- types
abbrev pub AllTyped : List Equation → Type 0
AllTyped [] = Unit {0}
AllTyped (e ∷ es) = SameType e.binders e.left e.right × AllTyped es

pub all_typed_append : (es fs : List Equation) → AllTyped es → AllTyped fs → AllTyped (es ++ fs)
all_typed_append [] fs h k = k
all_typed_append (e ∷ es) fs h k = (h.0, all_typed_append es fs h.1 k)

pub types_retyped : (q : List TypeEntry) (bs : List Variable) → types_in (map (retyped_variable q) bs) ≡ map (inst_ty q) (types_in bs)
types_retyped q [] = refl
types_retyped q (b ∷ bs) = ap (λ Ts. inst_ty q b.typ ∷ Ts) (types_retyped q bs)

pub retyped_typed : (q : List TypeEntry) (bs : List Variable) {t : Tm} {T : Ty} → Typed (types_in bs) t T → Typed (types_in (map (retyped_variable q) bs)) (retyped q t) (inst_ty q T)
retyped_typed q bs {t} {T} d = subst (λ G. Typed G (retyped q t) (inst_ty q T)) (sym (types_retyped q bs)) (inst_typed q [] tt d)

-- two terms whose types are the same under q
pub record SameUnder (q : List TypeEntry) (G : List Ty) (t u : Tm) : Type 0 where
  pub left_type : Ty
  pub right_type : Ty
  pub left : Typed G t left_type
  pub right : Typed G u right_type
  pub same : inst_ty q left_type ≡ inst_ty q right_type

abbrev pub PairsUnder : List TypeEntry → List Ty → List Tm → List Tm → Type 0
PairsUnder q G [] [] = Unit {0}
PairsUnder q G (t ∷ ts) (u ∷ us) = SameUnder q G t u × PairsUnder q G ts us
PairsUnder q G [] (u ∷ us) = ⊥
PairsUnder q G (t ∷ ts) [] = ⊥

abbrev pub AreAsMany : List Tm → List Tm → Type 0
AreAsMany [] [] = Unit {0}
AreAsMany (t ∷ ts) (u ∷ us) = AreAsMany ts us
AreAsMany [] (u ∷ us) = ⊥
AreAsMany (t ∷ ts) [] = ⊥

under_append : (q : List TypeEntry) (G : List Ty) (ts us : List Tm) (t u : Tm) → PairsUnder q G ts us → SameUnder q G t u → PairsUnder q G (ts ++ t ∷ []) (us ++ u ∷ [])
under_append q G [] [] t u h k = (k, tt)
under_append q G (x ∷ ts) (y ∷ us) t u h k = (h.0, under_append q G ts us t u h.1 k)
under_append q G [] (y ∷ us) t u h k = absurd h
under_append q G (x ∷ ts) [] t u h k = absurd h

many_none : (ts : List Tm) (t : Tm) → AreAsMany (ts ++ t ∷ []) [] → ⊥
many_none [] t h = h
many_none (x ∷ ts) t h = h

none_many : (us : List Tm) (u : Tm) → AreAsMany [] (us ++ u ∷ []) → ⊥
none_many [] u h = h
none_many (x ∷ us) u h = h

many_split : (ts us : List Tm) (t u : Tm) → AreAsMany (ts ++ t ∷ []) (us ++ u ∷ []) → AreAsMany ts us
many_split [] [] t u h = tt
many_split (x ∷ ts) (y ∷ us) t u h = many_split ts us t u h
many_split [] (y ∷ us) t u h = absurd (none_many us u h)
many_split (x ∷ ts) [] t u h = absurd (many_none ts t h)

pub paired_many : (bs : List Variable) (ts us : List Tm) (es : List Equation) → paired bs ts us ≡ Some es → AreAsMany ts us
paired_many bs [] [] es e = tt
paired_many bs (t ∷ ts) (u ∷ us) es e = go (paired bs ts us) refl e (λ fs p. paired_many bs ts us fs p)
  where
    go : (o : Option (List Equation)) → paired bs ts us ≡ o → option_map (λ fs. record { binders = bs; left = t; right = u } ∷ fs) o ≡ Some es → ((fs : List Equation) → paired bs ts us ≡ Some fs → AreAsMany ts us) → AreAsMany ts us
    go None p l ih = absurd (cc)
    go (Some fs) p l ih = ih fs p
paired_many bs [] (u ∷ us) es e = absurd (cc)
paired_many bs (t ∷ ts) [] es e = absurd (cc)

-- heads whose types are the same under q
abbrev pub HeadsUnder : List TypeEntry → List Ty → Tm → Tm → Type 0
HeadsUnder q G g h = (A B : Ty) → Typed G g A → Typed G h B → inst_ty q A ≡ inst_ty q B

pub spines_under : (q : List TypeEntry) (G : List Ty) (t u : Tm) (U V : Ty) → IsSpine t → IsSpine u → Typed G t U → Typed G u V → HeadsUnder q G (head_of t) (head_of u) → AreAsMany (args_of t) (args_of u) → PairsUnder q G (args_of t) (args_of u) × (inst_ty q U ≡ inst_ty q V)
spines_under q G (App f a) (App g b) U V h k d e hs m =
    let p = app_typed d in
    let s = app_typed e in
    let r = spines_under q G f g (function_of p.0 U) (function_of s.0 V) h k p.1 s.1 hs (many_split (args_of f) (args_of g) a b m) in
    (under_append q G (args_of f) (args_of g) a b r.0 (record { left_type = p.0; right_type = s.0; left = p.2; right = s.2; same = domain_same r.1 }), range_same r.1)
spines_under q G (App f a) (Const y W) U V h k d e hs m = absurd (many_none (args_of f) a m)
spines_under q G (App f a) (Free y W) U V h k d e hs m = absurd (many_none (args_of f) a m)
spines_under q G (App f a) (Unknown y j W) U V h k d e hs m = absurd (many_none (args_of f) a m)
spines_under q G (App f a) (Bound o) U V h k d e hs m = absurd (many_none (args_of f) a m)
spines_under q G (App f a) (Abs y W c) U V h k d e hs m = absurd k
spines_under q G (Abs x T b) u U V h k d e hs m = absurd h
spines_under q G (Const x T) (App g b) U V h k d e hs m = absurd (none_many (args_of g) b m)
spines_under q G (Const x T) (Abs y W c) U V h k d e hs m = absurd k
spines_under q G (Const x T) (Const y W) U V h k d e hs m = (tt, hs U V d e)
spines_under q G (Const x T) (Free y W) U V h k d e hs m = (tt, hs U V d e)
spines_under q G (Const x T) (Unknown y j W) U V h k d e hs m = (tt, hs U V d e)
spines_under q G (Const x T) (Bound o) U V h k d e hs m = (tt, hs U V d e)
spines_under q G (Free x T) (App g b) U V h k d e hs m = absurd (none_many (args_of g) b m)
spines_under q G (Free x T) (Abs y W c) U V h k d e hs m = absurd k
spines_under q G (Free x T) (Const y W) U V h k d e hs m = (tt, hs U V d e)
spines_under q G (Free x T) (Free y W) U V h k d e hs m = (tt, hs U V d e)
spines_under q G (Free x T) (Unknown y j W) U V h k d e hs m = (tt, hs U V d e)
spines_under q G (Free x T) (Bound o) U V h k d e hs m = (tt, hs U V d e)
spines_under q G (Unknown x i T) (App g b) U V h k d e hs m = absurd (none_many (args_of g) b m)
spines_under q G (Unknown x i T) (Abs y W c) U V h k d e hs m = absurd k
spines_under q G (Unknown x i T) (Const y W) U V h k d e hs m = (tt, hs U V d e)
spines_under q G (Unknown x i T) (Free y W) U V h k d e hs m = (tt, hs U V d e)
spines_under q G (Unknown x i T) (Unknown y j W) U V h k d e hs m = (tt, hs U V d e)
spines_under q G (Unknown x i T) (Bound o) U V h k d e hs m = (tt, hs U V d e)
spines_under q G (Bound n) (App g b) U V h k d e hs m = absurd (none_many (args_of g) b m)
spines_under q G (Bound n) (Abs y W c) U V h k d e hs m = absurd k
spines_under q G (Bound n) (Const y W) U V h k d e hs m = (tt, hs U V d e)
spines_under q G (Bound n) (Free y W) U V h k d e hs m = (tt, hs U V d e)
spines_under q G (Bound n) (Unknown y j W) U V h k d e hs m = (tt, hs U V d e)
spines_under q G (Bound n) (Bound o) U V h k d e hs m = (tt, hs U V d e)

under_paired : (q : List TypeEntry) (bs : List Variable) (ts us : List Tm) (es : List Equation) → PairsUnder q (types_in bs) ts us → paired bs ts us ≡ Some es → AllTyped (map (retyped_equation q) es)
under_paired q bs [] [] es h e = let p : [] ≡ es = cc in subst (λ fs. AllTyped (map (retyped_equation q) fs)) p tt
under_paired q bs (t ∷ ts) (u ∷ us) es h e = go (paired bs ts us) refl e (λ fs p. under_paired q bs ts us fs h.1 p)
  where
    first : SameType (map (retyped_variable q) bs) (retyped q t) (retyped q u)
    first = record { typ = inst_ty q h.0.left_type; left = retyped_typed q bs h.0.left; right = subst (λ U. Typed (types_in (map (retyped_variable q) bs)) (retyped q u) U) (sym h.0.same) (retyped_typed q bs h.0.right) }

    go : (o : Option (List Equation)) → paired bs ts us ≡ o → option_map (λ fs. record { binders = bs; left = t; right = u } ∷ fs) o ≡ Some es → ((fs : List Equation) → paired bs ts us ≡ Some fs → AllTyped (map (retyped_equation q) fs)) → AllTyped (map (retyped_equation q) es)
    go None p l ih = absurd (cc)
    go (Some fs) p l ih =
        let s : record { binders = bs; left = t; right = u } ∷ fs ≡ es = cc in
        subst (λ x. AllTyped (map (retyped_equation q) x)) s (first, ih fs p)
under_paired q bs [] (u ∷ us) es h e = absurd h
under_paired q bs (t ∷ ts) [] es h e = absurd h

same_paired : (bs : List Variable) (ts us : List Tm) (es : List Equation) → PairsUnder [] (types_in bs) ts us → paired bs ts us ≡ Some es → AllTyped es
same_paired bs [] [] es h e = let p : [] ≡ es = cc in subst AllTyped p tt
same_paired bs (t ∷ ts) (u ∷ us) es h e = go (paired bs ts us) refl e (λ fs p. same_paired bs ts us fs h.1 p)
  where
    first : SameType bs t u
    first = record { typ = h.0.left_type; left = h.0.left; right = subst (λ U. Typed (types_in bs) u U) (sym (inst_nothing h.0.right_type) ∙ sym h.0.same ∙ inst_nothing h.0.left_type) h.0.right }

    go : (o : Option (List Equation)) → paired bs ts us ≡ o → option_map (λ fs. record { binders = bs; left = t; right = u } ∷ fs) o ≡ Some es → ((fs : List Equation) → paired bs ts us ≡ Some fs → AllTyped fs) → AllTyped es
    go None p l ih = absurd (cc)
    go (Some fs) p l ih =
        let s : record { binders = bs; left = t; right = u } ∷ fs ≡ es = cc in
        subst AllTyped s (first, ih fs p)
same_paired bs [] (u ∷ us) es h e = absurd h
same_paired bs (t ∷ ts) [] es h e = absurd h

-- the parts are well typed, or are so once the heads' types are the same
abbrev pub PartsTyped : Parts → Type 0
PartsTyped Flexible = Unit {0}
PartsTyped Clash = Unit {0}
PartsTyped (Into es) = AllTyped es
PartsTyped (Heads S T es) = (q : List TypeEntry) → inst_ty q S ≡ inst_ty q T → AllTyped (map (retyped_equation q) es)

named_typed : (S T : Ty) (b : Bool) (o : Option (List Equation)) → ((q : List TypeEntry) (es : List Equation) → inst_ty q S ≡ inst_ty q T → o ≡ Some es → AllTyped (map (retyped_equation q) es)) → PartsTyped (cond b (typed_parts S T o) Clash)
named_typed S T true (Some es) h = λ q e. h q es e refl
named_typed S T true None h = tt
named_typed S T false o h = tt

numbered_typed : (m n : ℕ) (b : Bool) → nat_eq m n ≡ b → (o : Option (List Equation)) → ((es : List Equation) → m ≡ n → o ≡ Some es → AllTyped es) → PartsTyped (cond b (inner_parts o) Clash)
numbered_typed m n true e (Some es) h = let q : m ≡ n = grind (arith, nat_tests) in h es q refl
numbered_typed m n true e None h = tt
numbered_typed m n false e o h = tt

meet_typed : (bs : List Variable) (g : Tm) (ts : List Tm) (h : Tm) (us : List Tm) → IsAtom g → IsAtom h → ((q : List TypeEntry) (es : List Equation) → HeadsUnder q (types_in bs) g h → paired bs ts us ≡ Some es → PairsUnder q (types_in bs) ts us) → PartsTyped (meet bs g ts h us)
meet_typed bs (Const x S) ts (Const y T) us i j p = named_typed S T (name_eq x y) (paired bs ts us) (λ q es e k. under_paired q bs ts us es (p q es (λ A B d f. ap (inst_ty q) (sym (own d)) ∙ e ∙ ap (inst_ty q) (own f)) k) k)
  where
    own : {G : List Ty} {x : List ℕ} {S A : Ty} → Typed G (Const x S) A → S ≡ A
    own TConst = refl
meet_typed bs (Free x S) ts (Free y T) us i j p = named_typed S T (name_eq x y) (paired bs ts us) (λ q es e k. under_paired q bs ts us es (p q es (λ A B d f. ap (inst_ty q) (sym (own d)) ∙ e ∙ ap (inst_ty q) (own f)) k) k)
  where
    own : {G : List Ty} {x : List ℕ} {S A : Ty} → Typed G (Free x S) A → S ≡ A
    own TFree = refl
meet_typed bs (Bound m) ts (Bound n) us i j p = numbered_typed m n (nat_eq m n) refl (paired bs ts us) (λ es e k. same_paired bs ts us es (p [] es (λ A B d f. ap (inst_ty []) (one_type d f (ap Bound e))) k) k)
meet_typed bs (Const x S) ts (Free y T) us i j p = tt
meet_typed bs (Const x S) ts (Unknown y m T) us i j p = tt
meet_typed bs (Const x S) ts (Bound m) us i j p = tt
meet_typed bs (Const x S) ts (Abs y T b) us i j p = absurd j
meet_typed bs (Const x S) ts (App f a) us i j p = absurd j
meet_typed bs (Free x S) ts (Const y T) us i j p = tt
meet_typed bs (Free x S) ts (Unknown y m T) us i j p = tt
meet_typed bs (Free x S) ts (Bound m) us i j p = tt
meet_typed bs (Free x S) ts (Abs y T b) us i j p = absurd j
meet_typed bs (Free x S) ts (App f a) us i j p = absurd j
meet_typed bs (Unknown x n S) ts (Const y T) us i j p = tt
meet_typed bs (Unknown x n S) ts (Free y T) us i j p = tt
meet_typed bs (Unknown x n S) ts (Unknown y m T) us i j p = tt
meet_typed bs (Unknown x n S) ts (Bound m) us i j p = tt
meet_typed bs (Unknown x n S) ts (Abs y T b) us i j p = absurd j
meet_typed bs (Unknown x n S) ts (App f a) us i j p = absurd j
meet_typed bs (Bound n) ts (Const y T) us i j p = tt
meet_typed bs (Bound n) ts (Free y T) us i j p = tt
meet_typed bs (Bound n) ts (Unknown y m T) us i j p = tt
meet_typed bs (Bound n) ts (Abs y T b) us i j p = absurd j
meet_typed bs (Bound n) ts (App f a) us i j p = absurd j
meet_typed bs (Abs x S b) ts h us i j p = absurd i
meet_typed bs (App f a) ts h us i j p = absurd i

spines_typed : (bs : List Variable) (t u : Tm) → IsSpine t → IsSpine u → SameType bs t u → PartsTyped (meet bs (head_of t) (args_of t) (head_of u) (args_of u))
spines_typed bs t u h k s =
    meet_typed bs (head_of t) (args_of t) (head_of u) (args_of u) (head_atom t h) (head_atom u k) (λ q es hs e. (spines_under q (types_in bs) t u s.typ s.typ h k s.left s.right hs (paired_many bs (args_of t) (args_of u) es e)).0)

pub abs_parts_typed : (bs : List Variable) (x y : List ℕ) (S T : Ty) (t u : Tm) → SameType bs (Abs x S t) (Abs y T u) → AllTyped (record { binders = record { name = x; typ = S } ∷ bs; left = t; right = u } ∷ [])
abs_parts_typed bs x y S T t u s =
    let p = abs_typed s.left in
    let q = abs_typed s.right in
    let f = sym p.1 ∙ q.1 in
    (record { typ = p.0; left = p.2; right = subst (λ V. Typed (S ∷ types_in bs) u V) (sym (range_same f)) (subst (λ V. Typed (V ∷ types_in bs) u q.0) (sym (domain_same f)) q.2) }, tt)

pub open_typed : (bs : List Variable) (x : List ℕ) (S : Ty) (t u : Tm) → SameType bs (Abs x S t) u → SameType (record { name = x; typ = S } ∷ bs) t (opened u)
open_typed bs x S t u s =
    let p = abs_typed s.left in
    record { typ = p.0; left = p.2; right = TApp (next_typed S (subst (λ V. Typed (types_in bs) u V) p.1 s.right)) (TBound refl) }

pub swapped : (bs : List Variable) (t u : Tm) → SameType bs t u → SameType bs u t
swapped bs t u s = record { typ = s.typ; left = s.right; right = s.left }

pub parts_typed : (bs : List Variable) (t u : Tm) → IsNormal t → IsNormal u → SameType bs t u → PartsTyped (parts_at bs t u)
unfolding parts_at
parts_typed bs (Abs x1 T1 b1) (Abs x2 T2 b2) n m s = abs_parts_typed bs x1 x2 T1 T2 b1 b2 s
parts_typed bs (Abs x1 T1 b1) (Const x2 T2) n m s = (open_typed bs x1 T1 b1 (Const x2 T2) s, tt)
parts_typed bs (Abs x1 T1 b1) (Free x2 T2) n m s = (open_typed bs x1 T1 b1 (Free x2 T2) s, tt)
parts_typed bs (Abs x1 T1 b1) (Unknown x2 n2 T2) n m s = (open_typed bs x1 T1 b1 (Unknown x2 n2 T2) s, tt)
parts_typed bs (Abs x1 T1 b1) (Bound n2) n m s = (open_typed bs x1 T1 b1 (Bound n2) s, tt)
parts_typed bs (Abs x1 T1 b1) (App f2 a2) n m s = (open_typed bs x1 T1 b1 (App f2 a2) s, tt)
parts_typed bs (Const x1 T1) (Abs x2 T2 b2) n m s = (swapped (record { name = x2; typ = T2 } ∷ bs) b2 (opened (Const x1 T1)) (open_typed bs x2 T2 b2 (Const x1 T1) (swapped bs (Const x1 T1) (Abs x2 T2 b2) s)), tt)
parts_typed bs (Const x1 T1) (Const x2 T2) n m s = spines_typed bs (Const x1 T1) (Const x2 T2) (normal_spine (Const x1 T1) tt n) (normal_spine (Const x2 T2) tt m) s
parts_typed bs (Const x1 T1) (Free x2 T2) n m s = spines_typed bs (Const x1 T1) (Free x2 T2) (normal_spine (Const x1 T1) tt n) (normal_spine (Free x2 T2) tt m) s
parts_typed bs (Const x1 T1) (Unknown x2 n2 T2) n m s = spines_typed bs (Const x1 T1) (Unknown x2 n2 T2) (normal_spine (Const x1 T1) tt n) (normal_spine (Unknown x2 n2 T2) tt m) s
parts_typed bs (Const x1 T1) (Bound n2) n m s = spines_typed bs (Const x1 T1) (Bound n2) (normal_spine (Const x1 T1) tt n) (normal_spine (Bound n2) tt m) s
parts_typed bs (Const x1 T1) (App f2 a2) n m s = spines_typed bs (Const x1 T1) (App f2 a2) (normal_spine (Const x1 T1) tt n) (normal_spine (App f2 a2) tt m) s
parts_typed bs (Free x1 T1) (Abs x2 T2 b2) n m s = (swapped (record { name = x2; typ = T2 } ∷ bs) b2 (opened (Free x1 T1)) (open_typed bs x2 T2 b2 (Free x1 T1) (swapped bs (Free x1 T1) (Abs x2 T2 b2) s)), tt)
parts_typed bs (Free x1 T1) (Const x2 T2) n m s = spines_typed bs (Free x1 T1) (Const x2 T2) (normal_spine (Free x1 T1) tt n) (normal_spine (Const x2 T2) tt m) s
parts_typed bs (Free x1 T1) (Free x2 T2) n m s = spines_typed bs (Free x1 T1) (Free x2 T2) (normal_spine (Free x1 T1) tt n) (normal_spine (Free x2 T2) tt m) s
parts_typed bs (Free x1 T1) (Unknown x2 n2 T2) n m s = spines_typed bs (Free x1 T1) (Unknown x2 n2 T2) (normal_spine (Free x1 T1) tt n) (normal_spine (Unknown x2 n2 T2) tt m) s
parts_typed bs (Free x1 T1) (Bound n2) n m s = spines_typed bs (Free x1 T1) (Bound n2) (normal_spine (Free x1 T1) tt n) (normal_spine (Bound n2) tt m) s
parts_typed bs (Free x1 T1) (App f2 a2) n m s = spines_typed bs (Free x1 T1) (App f2 a2) (normal_spine (Free x1 T1) tt n) (normal_spine (App f2 a2) tt m) s
parts_typed bs (Unknown x1 n1 T1) (Abs x2 T2 b2) n m s = (swapped (record { name = x2; typ = T2 } ∷ bs) b2 (opened (Unknown x1 n1 T1)) (open_typed bs x2 T2 b2 (Unknown x1 n1 T1) (swapped bs (Unknown x1 n1 T1) (Abs x2 T2 b2) s)), tt)
parts_typed bs (Unknown x1 n1 T1) (Const x2 T2) n m s = spines_typed bs (Unknown x1 n1 T1) (Const x2 T2) (normal_spine (Unknown x1 n1 T1) tt n) (normal_spine (Const x2 T2) tt m) s
parts_typed bs (Unknown x1 n1 T1) (Free x2 T2) n m s = spines_typed bs (Unknown x1 n1 T1) (Free x2 T2) (normal_spine (Unknown x1 n1 T1) tt n) (normal_spine (Free x2 T2) tt m) s
parts_typed bs (Unknown x1 n1 T1) (Unknown x2 n2 T2) n m s = spines_typed bs (Unknown x1 n1 T1) (Unknown x2 n2 T2) (normal_spine (Unknown x1 n1 T1) tt n) (normal_spine (Unknown x2 n2 T2) tt m) s
parts_typed bs (Unknown x1 n1 T1) (Bound n2) n m s = spines_typed bs (Unknown x1 n1 T1) (Bound n2) (normal_spine (Unknown x1 n1 T1) tt n) (normal_spine (Bound n2) tt m) s
parts_typed bs (Unknown x1 n1 T1) (App f2 a2) n m s = spines_typed bs (Unknown x1 n1 T1) (App f2 a2) (normal_spine (Unknown x1 n1 T1) tt n) (normal_spine (App f2 a2) tt m) s
parts_typed bs (Bound n1) (Abs x2 T2 b2) n m s = (swapped (record { name = x2; typ = T2 } ∷ bs) b2 (opened (Bound n1)) (open_typed bs x2 T2 b2 (Bound n1) (swapped bs (Bound n1) (Abs x2 T2 b2) s)), tt)
parts_typed bs (Bound n1) (Const x2 T2) n m s = spines_typed bs (Bound n1) (Const x2 T2) (normal_spine (Bound n1) tt n) (normal_spine (Const x2 T2) tt m) s
parts_typed bs (Bound n1) (Free x2 T2) n m s = spines_typed bs (Bound n1) (Free x2 T2) (normal_spine (Bound n1) tt n) (normal_spine (Free x2 T2) tt m) s
parts_typed bs (Bound n1) (Unknown x2 n2 T2) n m s = spines_typed bs (Bound n1) (Unknown x2 n2 T2) (normal_spine (Bound n1) tt n) (normal_spine (Unknown x2 n2 T2) tt m) s
parts_typed bs (Bound n1) (Bound n2) n m s = spines_typed bs (Bound n1) (Bound n2) (normal_spine (Bound n1) tt n) (normal_spine (Bound n2) tt m) s
parts_typed bs (Bound n1) (App f2 a2) n m s = spines_typed bs (Bound n1) (App f2 a2) (normal_spine (Bound n1) tt n) (normal_spine (App f2 a2) tt m) s
parts_typed bs (App f1 a1) (Abs x2 T2 b2) n m s = (swapped (record { name = x2; typ = T2 } ∷ bs) b2 (opened (App f1 a1)) (open_typed bs x2 T2 b2 (App f1 a1) (swapped bs (App f1 a1) (Abs x2 T2 b2) s)), tt)
parts_typed bs (App f1 a1) (Const x2 T2) n m s = spines_typed bs (App f1 a1) (Const x2 T2) (normal_spine (App f1 a1) tt n) (normal_spine (Const x2 T2) tt m) s
parts_typed bs (App f1 a1) (Free x2 T2) n m s = spines_typed bs (App f1 a1) (Free x2 T2) (normal_spine (App f1 a1) tt n) (normal_spine (Free x2 T2) tt m) s
parts_typed bs (App f1 a1) (Unknown x2 n2 T2) n m s = spines_typed bs (App f1 a1) (Unknown x2 n2 T2) (normal_spine (App f1 a1) tt n) (normal_spine (Unknown x2 n2 T2) tt m) s
parts_typed bs (App f1 a1) (Bound n2) n m s = spines_typed bs (App f1 a1) (Bound n2) (normal_spine (App f1 a1) tt n) (normal_spine (Bound n2) tt m) s
parts_typed bs (App f1 a1) (App f2 a2) n m s = spines_typed bs (App f1 a1) (App f2 a2) (normal_spine (App f1 a1) tt n) (normal_spine (App f2 a2) tt m) s

pub parts_normal : (bs : List Variable) (t u : Tm) (es : List Equation) → IsNormal t → IsNormal u → AreParts (parts_at bs t u) es → AllNormal es
unfolding parts_at
parts_normal bs (Abs x1 T1 b1) (Abs x2 T2 b2) es n m p = one_normal (record { name = x1; typ = T1 } ∷ bs) b1 b2 es n.0 m.0 p
parts_normal bs (Abs x1 T1 b1) (Const x2 T2) es n m p = one_normal (record { name = x1; typ = T1 } ∷ bs) b1 (opened (Const x2 T2)) es n.0 (opened_normal (Const x2 T2) tt m) p
parts_normal bs (Abs x1 T1 b1) (Free x2 T2) es n m p = one_normal (record { name = x1; typ = T1 } ∷ bs) b1 (opened (Free x2 T2)) es n.0 (opened_normal (Free x2 T2) tt m) p
parts_normal bs (Abs x1 T1 b1) (Unknown x2 n2 T2) es n m p = one_normal (record { name = x1; typ = T1 } ∷ bs) b1 (opened (Unknown x2 n2 T2)) es n.0 (opened_normal (Unknown x2 n2 T2) tt m) p
parts_normal bs (Abs x1 T1 b1) (Bound n2) es n m p = one_normal (record { name = x1; typ = T1 } ∷ bs) b1 (opened (Bound n2)) es n.0 (opened_normal (Bound n2) tt m) p
parts_normal bs (Abs x1 T1 b1) (App f2 a2) es n m p = one_normal (record { name = x1; typ = T1 } ∷ bs) b1 (opened (App f2 a2)) es n.0 (opened_normal (App f2 a2) tt m) p
parts_normal bs (Const x1 T1) (Abs x2 T2 b2) es n m p = one_normal (record { name = x2; typ = T2 } ∷ bs) (opened (Const x1 T1)) b2 es (opened_normal (Const x1 T1) tt n) m.0 p
parts_normal bs (Const x1 T1) (Const x2 T2) es n m p = meet_normal bs (Const x1 T1) (Const x2 T2) es n m p
parts_normal bs (Const x1 T1) (Free x2 T2) es n m p = meet_normal bs (Const x1 T1) (Free x2 T2) es n m p
parts_normal bs (Const x1 T1) (Unknown x2 n2 T2) es n m p = meet_normal bs (Const x1 T1) (Unknown x2 n2 T2) es n m p
parts_normal bs (Const x1 T1) (Bound n2) es n m p = meet_normal bs (Const x1 T1) (Bound n2) es n m p
parts_normal bs (Const x1 T1) (App f2 a2) es n m p = meet_normal bs (Const x1 T1) (App f2 a2) es n m p
parts_normal bs (Free x1 T1) (Abs x2 T2 b2) es n m p = one_normal (record { name = x2; typ = T2 } ∷ bs) (opened (Free x1 T1)) b2 es (opened_normal (Free x1 T1) tt n) m.0 p
parts_normal bs (Free x1 T1) (Const x2 T2) es n m p = meet_normal bs (Free x1 T1) (Const x2 T2) es n m p
parts_normal bs (Free x1 T1) (Free x2 T2) es n m p = meet_normal bs (Free x1 T1) (Free x2 T2) es n m p
parts_normal bs (Free x1 T1) (Unknown x2 n2 T2) es n m p = meet_normal bs (Free x1 T1) (Unknown x2 n2 T2) es n m p
parts_normal bs (Free x1 T1) (Bound n2) es n m p = meet_normal bs (Free x1 T1) (Bound n2) es n m p
parts_normal bs (Free x1 T1) (App f2 a2) es n m p = meet_normal bs (Free x1 T1) (App f2 a2) es n m p
parts_normal bs (Unknown x1 n1 T1) (Abs x2 T2 b2) es n m p = one_normal (record { name = x2; typ = T2 } ∷ bs) (opened (Unknown x1 n1 T1)) b2 es (opened_normal (Unknown x1 n1 T1) tt n) m.0 p
parts_normal bs (Unknown x1 n1 T1) (Const x2 T2) es n m p = meet_normal bs (Unknown x1 n1 T1) (Const x2 T2) es n m p
parts_normal bs (Unknown x1 n1 T1) (Free x2 T2) es n m p = meet_normal bs (Unknown x1 n1 T1) (Free x2 T2) es n m p
parts_normal bs (Unknown x1 n1 T1) (Unknown x2 n2 T2) es n m p = meet_normal bs (Unknown x1 n1 T1) (Unknown x2 n2 T2) es n m p
parts_normal bs (Unknown x1 n1 T1) (Bound n2) es n m p = meet_normal bs (Unknown x1 n1 T1) (Bound n2) es n m p
parts_normal bs (Unknown x1 n1 T1) (App f2 a2) es n m p = meet_normal bs (Unknown x1 n1 T1) (App f2 a2) es n m p
parts_normal bs (Bound n1) (Abs x2 T2 b2) es n m p = one_normal (record { name = x2; typ = T2 } ∷ bs) (opened (Bound n1)) b2 es (opened_normal (Bound n1) tt n) m.0 p
parts_normal bs (Bound n1) (Const x2 T2) es n m p = meet_normal bs (Bound n1) (Const x2 T2) es n m p
parts_normal bs (Bound n1) (Free x2 T2) es n m p = meet_normal bs (Bound n1) (Free x2 T2) es n m p
parts_normal bs (Bound n1) (Unknown x2 n2 T2) es n m p = meet_normal bs (Bound n1) (Unknown x2 n2 T2) es n m p
parts_normal bs (Bound n1) (Bound n2) es n m p = meet_normal bs (Bound n1) (Bound n2) es n m p
parts_normal bs (Bound n1) (App f2 a2) es n m p = meet_normal bs (Bound n1) (App f2 a2) es n m p
parts_normal bs (App f1 a1) (Abs x2 T2 b2) es n m p = one_normal (record { name = x2; typ = T2 } ∷ bs) (opened (App f1 a1)) b2 es (opened_normal (App f1 a1) tt n) m.0 p
parts_normal bs (App f1 a1) (Const x2 T2) es n m p = meet_normal bs (App f1 a1) (Const x2 T2) es n m p
parts_normal bs (App f1 a1) (Free x2 T2) es n m p = meet_normal bs (App f1 a1) (Free x2 T2) es n m p
parts_normal bs (App f1 a1) (Unknown x2 n2 T2) es n m p = meet_normal bs (App f1 a1) (Unknown x2 n2 T2) es n m p
parts_normal bs (App f1 a1) (Bound n2) es n m p = meet_normal bs (App f1 a1) (Bound n2) es n m p
parts_normal bs (App f1 a1) (App f2 a2) es n m p = meet_normal bs (App f1 a1) (App f2 a2) es n m p
