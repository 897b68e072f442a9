-- What the parts of an equation say of the equation, and the types of the parts.
use Rattle.std.proofs.Common.{◌≡◌, ℕ, List, [], ◌∷◌, ◌++◌, Bool, true, false, cond, nat_eq, Option, Some, None, refl, sym, ap, ◌∙◌, subst, arith}
use Rattle.std.specs.Prelude.{option_map}
use Rattle.std.specs.Cmp.Lexicographic.{bytes_decides}
use Rattle.std.proofs.lemmas.Bool.Decides.{nat_tests}
use Rattle.isa_terms.specs.Types.{Ty}
use Rattle.isa_terms.specs.Terms.{Tm, Const, Free, Unknown, Bound, Abs, App, bare}
use Rattle.isa_terms.specs.Equal.{name_eq}
use Rattle.isa_terms.specs.Typing.{function_of}
use Rattle.isa_terms.specs.Replace.{raise}
use Rattle.isa_terms.specs.Norm.{norm}
use Rattle.isa_terms.specs.Normal.{IsNormal}
use Rattle.isa_terms.specs.Instance.{inst_ty}
use Rattle.isa_terms.specs.declared.inst.TypeEntry.{TypeEntry}
use Rattle.isa_terms.specs.Typed.{Typed}
use Rattle.isa_terms.specs.Conversion.{Conv, CSym, CTrans, CAbs}
use Rattle.isa_terms.proofs.Conv.{left_typed, right_typed}
use Rattle.isa_terms.proofs.FreeNames.{norm_same_conv, renamed_conv}
use Rattle.isa_terms.proofs.Unique.{conv_norm, abs_typed, domain_same}
use Rattle.isa_terms.proofs.Opening.{close_conv}
use Rattle.isa_terms.proofs.Heads.{IsSpine, IsRigid, rigid_spine, normal_spine, apps_again, one_type}
use Rattle.isa_terms.proofs.Valuations.{Values, val, AreFit, val_raise, val_rigid, val_typed}
use Rattle.isa_unify.specs.declared.equation.Variable.{Variable}
use Rattle.isa_unify.specs.declared.equation.Equation.{Equation}
use Rattle.isa_unify.specs.declared.progress.Parts.{Parts}
use Rattle.isa_unify.specs.declared.progress.Parts.TheVariants.{Flexible, Clash}
use Rattle.isa_unify.specs.Spines.{head_of, args_of}
use Rattle.isa_unify.specs.Unification.{paired, inner_parts, typed_parts, meet, opened, parts_at, types_in}
use Rattle.isa_unify.proofs.Meaning.{IsAtom, head_atom, head_rigid, Holds, EachHolds, PairsHold, PartsHold, types_under}

-- ---- lists that end with one more
-- the arguments of an application against none
pub snoc_none : (r : List TypeEntry) (v : Values) (bs : List Variable) (ts : List Tm) (t : Tm) → PairsHold r v bs (ts ++ t ∷ []) [] → ⊥
snoc_none r v bs [] t h = h
snoc_none r v bs (x ∷ ts) t h = h

none_snoc : (r : List TypeEntry) (v : Values) (bs : List Variable) (us : List Tm) (u : Tm) → PairsHold r v bs [] (us ++ u ∷ []) → ⊥
none_snoc r v bs [] u h = h
none_snoc r v bs (x ∷ us) u h = h

pairs_split : (r : List TypeEntry) (v : Values) (bs : List Variable) (ts us : List Tm) (t u : Tm) → PairsHold r v bs (ts ++ t ∷ []) (us ++ u ∷ []) → PairsHold r v bs ts us × Holds r v bs t u
pairs_split r v bs [] [] t u h = (tt, h.0)
pairs_split r v bs (x ∷ ts) (y ∷ us) t u h = let p = pairs_split r v bs ts us t u h.1 in ((h.0, p.0), p.1)
pairs_split r v bs [] (y ∷ us) t u h = absurd (none_snoc r v bs us u h.1)
pairs_split r v bs (x ∷ ts) [] t u h = absurd (snoc_none r v bs ts t h.1)

-- ---- rigid sides with one head and arguments that convert have one normal form
pub pairs_back : (r : List TypeEntry) (v : Values) (bs : List Variable) (t u : Tm) → IsRigid t → IsRigid u → bare (val r v (head_of t)) ≡ bare (val r v (head_of u)) → PairsHold r v bs (args_of t) (args_of u) → bare (norm (val r v t)) ≡ bare (norm (val r v u))
pairs_back r v bs (App f a) (App g b) h k e p =
    let q = pairs_split r v bs (args_of f) (args_of g) a b p in
    apps_again (val r v f) (val r v g) (val r v a) (val r v b) (rigid_spine (val r v f) (val_rigid r v f h)) (rigid_spine (val r v g) (val_rigid r v g k)) (pairs_back r v bs f g h k e q.0) (conv_norm q.1.equal)
pairs_back r v bs (App f a) (Const x T) h k e p = absurd (snoc_none r v bs (args_of f) a p)
pairs_back r v bs (App f a) (Free x T) h k e p = absurd (snoc_none r v bs (args_of f) a p)
pairs_back r v bs (App f a) (Bound n) h k e p = absurd (snoc_none r v bs (args_of f) a p)
pairs_back r v bs (App f a) (Unknown x i T) h k e p = absurd k
pairs_back r v bs (App f a) (Abs x T b) h k e p = absurd k
pairs_back r v bs (Const x T) (App g b) h k e p = absurd (none_snoc r v bs (args_of g) b p)
pairs_back r v bs (Free x T) (App g b) h k e p = absurd (none_snoc r v bs (args_of g) b p)
pairs_back r v bs (Bound n) (App g b) h k e p = absurd (none_snoc r v bs (args_of g) b p)
pairs_back r v bs (Unknown x i T) u h k e p = absurd h
pairs_back r v bs (Abs x T b) u h k e p = absurd h
pairs_back r v bs (Const x T) (Const y U) h k e p = e
pairs_back r v bs (Const x T) (Free y U) h k e p = e
pairs_back r v bs (Const x T) (Bound m) h k e p = e
pairs_back r v bs (Const x T) (Unknown y i U) h k e p = absurd k
pairs_back r v bs (Const x T) (Abs y U b) h k e p = absurd k
pairs_back r v bs (Free x T) (Const y U) h k e p = e
pairs_back r v bs (Free x T) (Free y U) h k e p = e
pairs_back r v bs (Free x T) (Bound m) h k e p = e
pairs_back r v bs (Free x T) (Unknown y i U) h k e p = absurd k
pairs_back r v bs (Free x T) (Abs y U b) h k e p = absurd k
pairs_back r v bs (Bound n) (Const y U) h k e p = e
pairs_back r v bs (Bound n) (Free y U) h k e p = e
pairs_back r v bs (Bound n) (Bound m) h k e p = e
pairs_back r v bs (Bound n) (Unknown y i U) h k e p = absurd k
pairs_back r v bs (Bound n) (Abs y U b) h k e p = absurd k

pairs_of : (r : List TypeEntry) (v : Values) (bs : List Variable) (ts us : List Tm) (es : List Equation) → paired bs ts us ≡ Some es → EachHolds r v es → PairsHold r v bs ts us
pairs_of r v bs [] [] es e h = tt
pairs_of r v bs (t ∷ ts) (u ∷ us) es e h = go (paired bs ts us) refl e (λ fs p k. pairs_of r v bs ts us fs p k)
  where
    go : (o : Option (List Equation)) → paired bs ts us ≡ o → option_map (λ fs. record { binders = bs; left = t; right = u } ∷ fs) o ≡ Some es → ((fs : List Equation) → paired bs ts us ≡ Some fs → EachHolds r v fs → PairsHold r v bs ts us) → PairsHold r v bs (t ∷ ts) (u ∷ us)
    go None p k ih = absurd (cc)
    go (Some fs) p k ih =
        let q : record { binders = bs; left = t; right = u } ∷ fs ≡ es = cc in
        let hs : EachHolds r v (record { binders = bs; left = t; right = u } ∷ fs) = subst (λ x. EachHolds r v x) (sym q) h in
        (hs.0, ih fs p hs.1)
pairs_of r v bs [] (u ∷ us) es e h = absurd (cc)
pairs_of r v bs (t ∷ ts) [] es e h = absurd (cc)

-- the heads that meet, and the pairs of arguments
pub record Meets (r : List TypeEntry) (v : Values) (bs : List Variable) (g : Tm) (ts : List Tm) (h : Tm) (us : List Tm) : Type 0 where
  pub left : IsRigid g
  pub right : IsRigid h
  pub heads : bare (val r v g) ≡ bare (val r v h)
  pub pairs : PairsHold r v bs ts us

-- no side is flexible
abbrev pub IsDecided : Parts → Type 0
IsDecided Flexible = ⊥
IsDecided p = Unit {0}

named_back : (r : List TypeEntry) (v : Values) (bs : List Variable) (x y : List ℕ) (S T : Ty) (ts us : List Tm) (b : Bool) → name_eq x y ≡ b → (o : Option (List Equation)) → paired bs ts us ≡ o → PartsHold r v (cond b (typed_parts S T o) Clash) → (x ≡ y) × (inst_ty r S ≡ inst_ty r T) × PairsHold r v bs ts us
named_back r v bs x y S T ts us false e o p h = absurd h
named_back r v bs x y S T ts us true e None p h = absurd h
named_back r v bs x y S T ts us true e (Some es) p h = ((bytes_decides x y).0 e, h.0, pairs_of r v bs ts us es p h.1)

numbered_back : (r : List TypeEntry) (v : Values) (bs : List Variable) (m n : ℕ) (ts us : List Tm) (b : Bool) → nat_eq m n ≡ b → (o : Option (List Equation)) → paired bs ts us ≡ o → PartsHold r v (cond b (inner_parts o) Clash) → (m ≡ n) × PairsHold r v bs ts us
numbered_back r v bs m n ts us false e o p h = absurd h
numbered_back r v bs m n ts us true e None p h = absurd h
numbered_back r v bs m n ts us true e (Some es) p h = let q : m ≡ n = grind (arith, nat_tests) in (q, pairs_of r v bs ts us es p h)

meet_back : (r : List TypeEntry) (v : Values) (bs : List Variable) (g : Tm) (ts : List Tm) (h : Tm) (us : List Tm) → IsAtom g → IsAtom h → IsDecided (meet bs g ts h us) → PartsHold r v (meet bs g ts h us) → Meets r v bs g ts h us
meet_back r v bs (Const x S) ts (Const y T) us i j d p = let q = named_back r v bs x y S T ts us (name_eq x y) refl (paired bs ts us) refl p in record { left = tt; right = tt; heads = λ k. Const (q.0 k) (q.1 k); pairs = q.2 }
meet_back r v bs (Free x S) ts (Free y T) us i j d p = let q = named_back r v bs x y S T ts us (name_eq x y) refl (paired bs ts us) refl p in record { left = tt; right = tt; heads = λ k. Free (q.0 k) (q.1 k); pairs = q.2 }
meet_back r v bs (Bound m) ts (Bound n) us i j d p = let q = numbered_back r v bs m n ts us (nat_eq m n) refl (paired bs ts us) refl p in record { left = tt; right = tt; heads = ap Bound q.0; pairs = q.1 }
meet_back r v bs (Const x S) ts (Free y T) us i j d p = absurd p
meet_back r v bs (Const x S) ts (Bound n) us i j d p = absurd p
meet_back r v bs (Free x S) ts (Const y T) us i j d p = absurd p
meet_back r v bs (Free x S) ts (Bound n) us i j d p = absurd p
meet_back r v bs (Bound m) ts (Const y T) us i j d p = absurd p
meet_back r v bs (Bound m) ts (Free y T) us i j d p = absurd p
meet_back r v bs (Unknown x n S) ts (Const y T) us i j d p = absurd d
meet_back r v bs (Unknown x n S) ts (Free y T) us i j d p = absurd d
meet_back r v bs (Unknown x n S) ts (Unknown y m T) us i j d p = absurd d
meet_back r v bs (Unknown x n S) ts (Bound m) us i j d p = absurd d
meet_back r v bs (Unknown x n S) ts (Abs y T b) us i j d p = absurd j
meet_back r v bs (Unknown x n S) ts (App f a) us i j d p = absurd j
meet_back r v bs (Const x S) ts (Unknown y m T) us i j d p = absurd d
meet_back r v bs (Const x S) ts (Abs y T b) us i j d p = absurd j
meet_back r v bs (Const x S) ts (App f a) us i j d p = absurd j
meet_back r v bs (Free x S) ts (Unknown y m T) us i j d p = absurd d
meet_back r v bs (Free x S) ts (Abs y T b) us i j d p = absurd j
meet_back r v bs (Free x S) ts (App f a) us i j d p = absurd j
meet_back r v bs (Bound n) ts (Unknown y m T) us i j d p = absurd d
meet_back r v bs (Bound n) ts (Abs y T b) us i j d p = absurd j
meet_back r v bs (Bound n) ts (App f a) us i j d p = absurd j
meet_back r v bs (Abs x S b) ts h us i j d p = absurd i
meet_back r v bs (App f a) ts h us i j d p = absurd i

-- the sides of an equation have one type under its binders
pub record SameType (bs : List Variable) (t u : Tm) : Type 0 where
  pub typ : Ty
  pub left : Typed (types_in bs) t typ
  pub right : Typed (types_in bs) u typ

module _ (r : List TypeEntry) (v : Values) (fit : AreFit r v) where
  -- sides with one normal form hold
  pub norm_holds : (bs : List Variable) (t u : Tm) → SameType bs t u → bare (norm (val r v t)) ≡ bare (norm (val r v u)) → Holds r v bs t u
  norm_holds bs t u s e = record { typ = inst_ty r s.typ; equal = norm_same_conv (val_typed r v fit s.left) (val_typed r v fit s.right) e }

  spines_back : (bs : List Variable) (t u : Tm) → IsSpine t → IsSpine u → SameType bs t u → IsDecided (meet bs (head_of t) (args_of t) (head_of u) (args_of u)) → PartsHold r v (meet bs (head_of t) (args_of t) (head_of u) (args_of u)) → Holds r v bs t u
  spines_back bs t u h k s d p =
      let m = meet_back r v bs (head_of t) (args_of t) (head_of u) (args_of u) (head_atom t h) (head_atom u k) d p in
      norm_holds bs t u s (pairs_back r v bs t u (head_rigid t h m.left) (head_rigid u k m.right) m.heads m.pairs)

  abs_back : (bs : List Variable) (x y : List ℕ) (S T : Ty) (t u : Tm) → SameType bs (Abs x S t) (Abs y T u) → Holds r v (record { name = x; typ = S } ∷ bs) t u → Holds r v bs (Abs x S t) (Abs y T u)
  abs_back bs x y S T t u s c =
      let G = types_under r v bs in
      let p = abs_typed s.left in
      let q = abs_typed s.right in
      let f : S ≡ T = domain_same (sym p.1 ∙ q.1) in
      let e : Conv G (function_of (inst_ty r S) c.typ) (Abs x (inst_ty r S) (val r v t)) (Abs y (inst_ty r S) (val r v u)) = CTrans (CAbs c.equal) (renamed_conv G x y (inst_ty r S) c.typ (val r v u) (right_typed c.equal)) in
      record { typ = function_of (inst_ty r S) c.typ; equal = subst (λ U. Conv G (function_of (inst_ty r S) c.typ) (Abs x (inst_ty r S) (val r v t)) (Abs y (inst_ty r U) (val r v u))) f e }

  open_back : (bs : List Variable) (x : List ℕ) (S : Ty) (t u : Tm) → SameType bs (Abs x S t) u → Holds r v (record { name = x; typ = S } ∷ bs) t (opened u) → Holds r v bs (Abs x S t) u
  open_back bs x S t u s c =
      let G = types_under r v bs in
      let p = abs_typed s.left in
      let U = inst_ty r p.0 in
      let d : Typed G (val r v u) (function_of (inst_ty r S) U) = subst (λ V. Typed G (val r v u) (inst_ty r V)) p.1 (val_typed r v fit s.right) in
      let b : Typed (inst_ty r S ∷ G) (val r v t) U = val_typed r v fit p.2 in
      let e : c.typ ≡ U = one_type (left_typed c.equal) b refl in
      let c' : Conv (inst_ty r S ∷ G) U (val r v t) (App (raise 1 0 (val r v u)) (Bound 0)) =
      subst (λ w. Conv (inst_ty r S ∷ G) U (val r v t) (App w (Bound 0))) (val_raise r v fit 1 0 u) (subst (λ V. Conv (inst_ty r S ∷ G) V (val r v t) (val r v (opened u))) e c.equal) in
      record { typ = function_of (inst_ty r S) U; equal = close_conv x d c' }

  back_turned : (bs : List Variable) (t u : Tm) → Holds r v bs t u → Holds r v bs u t
  back_turned bs t u c = record { typ = c.typ; equal = CSym c.equal }

  type_turned : (bs : List Variable) (t u : Tm) → SameType bs t u → SameType bs u t
  type_turned bs t u s = record { typ = s.typ; left = s.right; right = s.left }

  -- an equation with parts that hold holds
  pub parts_back : (bs : List Variable) (t u : Tm) → IsNormal t → IsNormal u → SameType bs t u → IsDecided (parts_at bs t u) → PartsHold r v (parts_at bs t u) → Holds r v bs t u
  unfolding parts_at
  parts_back bs (Abs x1 T1 b1) (Abs x2 T2 b2) n m s d p = abs_back bs x1 x2 T1 T2 b1 b2 s p.0
  parts_back bs (Abs x1 T1 b1) (Const x2 T2) n m s d p = open_back bs x1 T1 b1 (Const x2 T2) s p.0
  parts_back bs (Abs x1 T1 b1) (Free x2 T2) n m s d p = open_back bs x1 T1 b1 (Free x2 T2) s p.0
  parts_back bs (Abs x1 T1 b1) (Unknown x2 n2 T2) n m s d p = open_back bs x1 T1 b1 (Unknown x2 n2 T2) s p.0
  parts_back bs (Abs x1 T1 b1) (Bound n2) n m s d p = open_back bs x1 T1 b1 (Bound n2) s p.0
  parts_back bs (Abs x1 T1 b1) (App f2 a2) n m s d p = open_back bs x1 T1 b1 (App f2 a2) s p.0
  parts_back bs (Const x1 T1) (Abs x2 T2 b2) n m s d p = back_turned bs (Abs x2 T2 b2) (Const x1 T1) (open_back bs x2 T2 b2 (Const x1 T1) (type_turned bs (Const x1 T1) (Abs x2 T2 b2) s) (back_turned (record { name = x2; typ = T2 } ∷ bs) (opened (Const x1 T1)) b2 p.0))
  parts_back bs (Const x1 T1) (Const x2 T2) n m s d p = spines_back bs (Const x1 T1) (Const x2 T2) (normal_spine (Const x1 T1) tt n) (normal_spine (Const x2 T2) tt m) s d p
  parts_back bs (Const x1 T1) (Free x2 T2) n m s d p = spines_back bs (Const x1 T1) (Free x2 T2) (normal_spine (Const x1 T1) tt n) (normal_spine (Free x2 T2) tt m) s d p
  parts_back bs (Const x1 T1) (Unknown x2 n2 T2) n m s d p = spines_back bs (Const x1 T1) (Unknown x2 n2 T2) (normal_spine (Const x1 T1) tt n) (normal_spine (Unknown x2 n2 T2) tt m) s d p
  parts_back bs (Const x1 T1) (Bound n2) n m s d p = spines_back bs (Const x1 T1) (Bound n2) (normal_spine (Const x1 T1) tt n) (normal_spine (Bound n2) tt m) s d p
  parts_back bs (Const x1 T1) (App f2 a2) n m s d p = spines_back bs (Const x1 T1) (App f2 a2) (normal_spine (Const x1 T1) tt n) (normal_spine (App f2 a2) tt m) s d p
  parts_back bs (Free x1 T1) (Abs x2 T2 b2) n m s d p = back_turned bs (Abs x2 T2 b2) (Free x1 T1) (open_back bs x2 T2 b2 (Free x1 T1) (type_turned bs (Free x1 T1) (Abs x2 T2 b2) s) (back_turned (record { name = x2; typ = T2 } ∷ bs) (opened (Free x1 T1)) b2 p.0))
  parts_back bs (Free x1 T1) (Const x2 T2) n m s d p = spines_back bs (Free x1 T1) (Const x2 T2) (normal_spine (Free x1 T1) tt n) (normal_spine (Const x2 T2) tt m) s d p
  parts_back bs (Free x1 T1) (Free x2 T2) n m s d p = spines_back bs (Free x1 T1) (Free x2 T2) (normal_spine (Free x1 T1) tt n) (normal_spine (Free x2 T2) tt m) s d p
  parts_back bs (Free x1 T1) (Unknown x2 n2 T2) n m s d p = spines_back bs (Free x1 T1) (Unknown x2 n2 T2) (normal_spine (Free x1 T1) tt n) (normal_spine (Unknown x2 n2 T2) tt m) s d p
  parts_back bs (Free x1 T1) (Bound n2) n m s d p = spines_back bs (Free x1 T1) (Bound n2) (normal_spine (Free x1 T1) tt n) (normal_spine (Bound n2) tt m) s d p
  parts_back bs (Free x1 T1) (App f2 a2) n m s d p = spines_back bs (Free x1 T1) (App f2 a2) (normal_spine (Free x1 T1) tt n) (normal_spine (App f2 a2) tt m) s d p
  parts_back bs (Unknown x1 n1 T1) (Abs x2 T2 b2) n m s d p = back_turned bs (Abs x2 T2 b2) (Unknown x1 n1 T1) (open_back bs x2 T2 b2 (Unknown x1 n1 T1) (type_turned bs (Unknown x1 n1 T1) (Abs x2 T2 b2) s) (back_turned (record { name = x2; typ = T2 } ∷ bs) (opened (Unknown x1 n1 T1)) b2 p.0))
  parts_back bs (Unknown x1 n1 T1) (Const x2 T2) n m s d p = spines_back bs (Unknown x1 n1 T1) (Const x2 T2) (normal_spine (Unknown x1 n1 T1) tt n) (normal_spine (Const x2 T2) tt m) s d p
  parts_back bs (Unknown x1 n1 T1) (Free x2 T2) n m s d p = spines_back bs (Unknown x1 n1 T1) (Free x2 T2) (normal_spine (Unknown x1 n1 T1) tt n) (normal_spine (Free x2 T2) tt m) s d p
  parts_back bs (Unknown x1 n1 T1) (Unknown x2 n2 T2) n m s d p = spines_back bs (Unknown x1 n1 T1) (Unknown x2 n2 T2) (normal_spine (Unknown x1 n1 T1) tt n) (normal_spine (Unknown x2 n2 T2) tt m) s d p
  parts_back bs (Unknown x1 n1 T1) (Bound n2) n m s d p = spines_back bs (Unknown x1 n1 T1) (Bound n2) (normal_spine (Unknown x1 n1 T1) tt n) (normal_spine (Bound n2) tt m) s d p
  parts_back bs (Unknown x1 n1 T1) (App f2 a2) n m s d p = spines_back bs (Unknown x1 n1 T1) (App f2 a2) (normal_spine (Unknown x1 n1 T1) tt n) (normal_spine (App f2 a2) tt m) s d p
  parts_back bs (Bound n1) (Abs x2 T2 b2) n m s d p = back_turned bs (Abs x2 T2 b2) (Bound n1) (open_back bs x2 T2 b2 (Bound n1) (type_turned bs (Bound n1) (Abs x2 T2 b2) s) (back_turned (record { name = x2; typ = T2 } ∷ bs) (opened (Bound n1)) b2 p.0))
  parts_back bs (Bound n1) (Const x2 T2) n m s d p = spines_back bs (Bound n1) (Const x2 T2) (normal_spine (Bound n1) tt n) (normal_spine (Const x2 T2) tt m) s d p
  parts_back bs (Bound n1) (Free x2 T2) n m s d p = spines_back bs (Bound n1) (Free x2 T2) (normal_spine (Bound n1) tt n) (normal_spine (Free x2 T2) tt m) s d p
  parts_back bs (Bound n1) (Unknown x2 n2 T2) n m s d p = spines_back bs (Bound n1) (Unknown x2 n2 T2) (normal_spine (Bound n1) tt n) (normal_spine (Unknown x2 n2 T2) tt m) s d p
  parts_back bs (Bound n1) (Bound n2) n m s d p = spines_back bs (Bound n1) (Bound n2) (normal_spine (Bound n1) tt n) (normal_spine (Bound n2) tt m) s d p
  parts_back bs (Bound n1) (App f2 a2) n m s d p = spines_back bs (Bound n1) (App f2 a2) (normal_spine (Bound n1) tt n) (normal_spine (App f2 a2) tt m) s d p
  parts_back bs (App f1 a1) (Abs x2 T2 b2) n m s d p = back_turned bs (Abs x2 T2 b2) (App f1 a1) (open_back bs x2 T2 b2 (App f1 a1) (type_turned bs (App f1 a1) (Abs x2 T2 b2) s) (back_turned (record { name = x2; typ = T2 } ∷ bs) (opened (App f1 a1)) b2 p.0))
  parts_back bs (App f1 a1) (Const x2 T2) n m s d p = spines_back bs (App f1 a1) (Const x2 T2) (normal_spine (App f1 a1) tt n) (normal_spine (Const x2 T2) tt m) s d p
  parts_back bs (App f1 a1) (Free x2 T2) n m s d p = spines_back bs (App f1 a1) (Free x2 T2) (normal_spine (App f1 a1) tt n) (normal_spine (Free x2 T2) tt m) s d p
  parts_back bs (App f1 a1) (Unknown x2 n2 T2) n m s d p = spines_back bs (App f1 a1) (Unknown x2 n2 T2) (normal_spine (App f1 a1) tt n) (normal_spine (Unknown x2 n2 T2) tt m) s d p
  parts_back bs (App f1 a1) (Bound n2) n m s d p = spines_back bs (App f1 a1) (Bound n2) (normal_spine (App f1 a1) tt n) (normal_spine (Bound n2) tt m) s d p
  parts_back bs (App f1 a1) (App f2 a2) n m s d p = spines_back bs (App f1 a1) (App f2 a2) (normal_spine (App f1 a1) tt n) (normal_spine (App f2 a2) tt m) s d p
