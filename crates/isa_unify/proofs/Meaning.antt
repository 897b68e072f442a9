-- What an instance that makes the sides of an equation equal says of the equation's parts.
use Rattle.std.proofs.Common.{◌≡◌, ℕ, List, [], ◌∷◌, ◌++◌, map, true, cond, nat_eq, Option, Some, None, sym, ap, ◌∙◌, subst, arith}
use Rattle.std.specs.Prelude.{option_map}
use Rattle.std.specs.Cmp.Lexicographic.{bytes_decides}
use Rattle.std.proofs.lemmas.Bool.Decides.{nat_tests}
use Rattle.isa_terms.specs.Types.{Ty}
use Rattle.isa_terms.specs.Terms.{Tm, Const, Free, Unknown, Bound, Abs, App, bare}
use Rattle.isa_terms.specs.Equal.{name_eq}
use Rattle.isa_terms.specs.Typing.{function_of}
use Rattle.isa_terms.specs.Normal.{IsNormal}
use Rattle.isa_terms.specs.Instance.{inst_ty}
use Rattle.isa_terms.specs.declared.inst.TypeEntry.{TypeEntry}
use Rattle.isa_terms.specs.Typed.{Typed}
use Rattle.isa_terms.specs.Conversion.{Conv, CSym}
use Rattle.isa_terms.proofs.Conv.{left_typed, right_typed}
use Rattle.isa_terms.proofs.Unique.{conv_norm, abs_typed, domain_same, range_same}
use Rattle.isa_terms.proofs.Opening.{open_conv, bodies_conv}
use Rattle.isa_terms.proofs.Heads.{IsSpine, IsRigid, rigid_spine, normal_spine, app_norm, heads_same, apps_conv}
use Rattle.isa_terms.proofs.Valuations.{Values, val, AreFit, val_raise, val_rigid, head_val}
use Rattle.isa_unify.specs.declared.equation.Variable.{Variable}
use Rattle.isa_unify.specs.declared.equation.Equation.{Equation}
use Rattle.isa_unify.specs.declared.progress.Parts.{Parts}
use Rattle.isa_unify.specs.declared.progress.Parts.TheVariants.{Flexible, Clash, Into, Heads}
use Rattle.isa_unify.specs.Spines.{head_of, args_of}
use Rattle.isa_unify.specs.Unification.{paired, inner_parts, typed_parts, meet, opened, parts_at, types_in}

-- an atom that a term of the pattern's kind may have as its head
abbrev pub IsAtom : Tm → Type 0
IsAtom (Abs x T b) = ⊥
IsAtom (App f a) = ⊥
IsAtom t = Unit {0}

pub head_atom : (t : Tm) → IsSpine t → IsAtom (head_of t)
head_atom (App f a) h = head_atom f h
head_atom (Const x T) h = tt
head_atom (Free x T) h = tt
head_atom (Unknown x i T) h = tt
head_atom (Bound n) h = tt
head_atom (Abs x T b) h = h

pub head_rigid : (t : Tm) → IsSpine t → IsRigid (head_of t) → IsRigid t
head_rigid (App f a) h k = head_rigid f h k
head_rigid (Const x T) h k = tt
head_rigid (Free x T) h k = tt
head_rigid (Unknown x i T) h k = k
head_rigid (Bound n) h k = tt
head_rigid (Abs x T b) h k = absurd h

module _ (r : List TypeEntry) (v : Values) where
  abbrev pub types_under : List Variable → List Ty
  types_under bs = map (inst_ty r) (types_in bs)

  -- the sides of the equation convert, at some type
  pub record Holds (bs : List Variable) (t u : Tm) : Type 0 where
    pub typ : Ty
    pub equal : Conv (types_under bs) typ (val r v t) (val r v u)

  abbrev pub EachHolds : List Equation → Type 0
  EachHolds [] = Unit {0}
  EachHolds (e ∷ es) = Holds e.binders e.left e.right × EachHolds es

  abbrev pub PairsHold : List Variable → List Tm → List Tm → Type 0
  PairsHold bs [] [] = Unit {0}
  PairsHold bs (t ∷ ts) (u ∷ us) = Holds bs t u × PairsHold bs ts us
  PairsHold bs [] (u ∷ us) = ⊥
  PairsHold bs (t ∷ ts) [] = ⊥

  abbrev pub PartsHold : Parts → Type 0
  PartsHold Flexible = Unit {0}
  PartsHold Clash = ⊥
  PartsHold (Into es) = EachHolds es
  PartsHold (Heads S T es) = (inst_ty r S ≡ inst_ty r T) × EachHolds es

  abbrev pub SomeHold : Option (List Equation) → Type 0
  SomeHold None = ⊥
  SomeHold (Some es) = EachHolds es

  pub paired_hold : (bs : List Variable) (ts us : List Tm) → PairsHold bs ts us → SomeHold (paired bs ts us)
  paired_hold bs [] [] h = tt
  paired_hold bs (t ∷ ts) (u ∷ us) h = go (paired bs ts us) (paired_hold bs ts us h.1)
    where
      go : (o : Option (List Equation)) → SomeHold o → SomeHold (option_map (λ es. record { binders = bs; left = t; right = u } ∷ es) o)
      go None k = k
      go (Some es) k = (h.0, k)
  paired_hold bs [] (u ∷ us) h = absurd h
  paired_hold bs (t ∷ ts) [] h = absurd h

  pub pairs_append : (bs : List Variable) (ts us : List Tm) (t u : Tm) → PairsHold bs ts us → Holds bs t u → PairsHold bs (ts ++ t ∷ []) (us ++ u ∷ [])
  pairs_append bs [] [] t u h k = (k, tt)
  pairs_append bs (x ∷ ts) (y ∷ us) t u h k = (h.0, pairs_append bs ts us t u h.1 k)
  pairs_append bs [] (y ∷ us) t u h k = absurd h
  pairs_append bs (x ∷ ts) [] t u h k = absurd h

  -- no application converts to an atom
  app_atom : (G : List Ty) (T : Ty) (f a u : Tm) → IsRigid f → IsRigid u → IsAtom u → Conv G T (App (val r v f) (val r v a)) (val r v u) → ⊥
  app_atom G T f a (Const x U) h k i c = let e = ap bare (sym (app_norm (val r v f) (val r v a) (rigid_spine (val r v f) (val_rigid r v f h)))) ∙ conv_norm c in cc
  app_atom G T f a (Free x U) h k i c = let e = ap bare (sym (app_norm (val r v f) (val r v a) (rigid_spine (val r v f) (val_rigid r v f h)))) ∙ conv_norm c in cc
  app_atom G T f a (Bound n) h k i c = let e = ap bare (sym (app_norm (val r v f) (val r v a) (rigid_spine (val r v f) (val_rigid r v f h)))) ∙ conv_norm c in cc
  app_atom G T f a (Unknown x j U) h k i c = k
  app_atom G T f a (Abs x U b) h k i c = k
  app_atom G T f a (App g b) h k i c = i

  -- the arguments of rigid sides convert
  pub rigid_pairs : (bs : List Variable) (t u : Tm) (T : Ty) → IsRigid t → IsRigid u → Conv (types_under bs) T (val r v t) (val r v u) → PairsHold bs (args_of t) (args_of u)
  rigid_pairs bs (App f a) (App g b) T h k c =
      let p = apps_conv (rigid_spine (val r v f) (val_rigid r v f h)) (rigid_spine (val r v g) (val_rigid r v g k)) c in
      pairs_append bs (args_of f) (args_of g) a b (rigid_pairs bs f g (function_of p.domain T) h k p.functions) (record { typ = p.domain; equal = p.arguments })
  rigid_pairs bs (App f a) (Const x U) T h k c = absurd (app_atom (types_under bs) T f a (Const x U) h k tt c)
  rigid_pairs bs (App f a) (Free x U) T h k c = absurd (app_atom (types_under bs) T f a (Free x U) h k tt c)
  rigid_pairs bs (App f a) (Bound n) T h k c = absurd (app_atom (types_under bs) T f a (Bound n) h k tt c)
  rigid_pairs bs (App f a) (Unknown x i U) T h k c = absurd k
  rigid_pairs bs (App f a) (Abs x U b) T h k c = absurd k
  rigid_pairs bs (Unknown x i U) u T h k c = absurd h
  rigid_pairs bs (Abs x U b) u T h k c = absurd h
  rigid_pairs bs (Const x U) (App g b) T h k c = absurd (app_atom (types_under bs) T g b (Const x U) k h tt (CSym c))
  rigid_pairs bs (Free x U) (App g b) T h k c = absurd (app_atom (types_under bs) T g b (Free x U) k h tt (CSym c))
  rigid_pairs bs (Bound n) (App g b) T h k c = absurd (app_atom (types_under bs) T g b (Bound n) k h tt (CSym c))
  rigid_pairs bs (Const x U) (Unknown y i V) T h k c = absurd k
  rigid_pairs bs (Const x U) (Abs y V b) T h k c = absurd k
  rigid_pairs bs (Free x U) (Unknown y i V) T h k c = absurd k
  rigid_pairs bs (Free x U) (Abs y V b) T h k c = absurd k
  rigid_pairs bs (Bound n) (Unknown y i V) T h k c = absurd k
  rigid_pairs bs (Bound n) (Abs y V b) T h k c = absurd k
  rigid_pairs bs (Const x U) (Const y V) T h k c = tt
  rigid_pairs bs (Const x U) (Free y V) T h k c = tt
  rigid_pairs bs (Const x U) (Bound m) T h k c = tt
  rigid_pairs bs (Free x U) (Const y V) T h k c = tt
  rigid_pairs bs (Free x U) (Free y V) T h k c = tt
  rigid_pairs bs (Free x U) (Bound m) T h k c = tt
  rigid_pairs bs (Bound n) (Const y V) T h k c = tt
  rigid_pairs bs (Bound n) (Free y V) T h k c = tt
  rigid_pairs bs (Bound n) (Bound m) T h k c = tt

  -- what two rigid heads and their arguments owe
  pub record Agree (bs : List Variable) (g h : Tm) (ts us : List Tm) : Type 0 where
    pub heads : bare (val r v g) ≡ bare (val r v h)
    pub pairs : PairsHold bs ts us

  named : (bs : List Variable) (x y : List ℕ) (S T : Ty) (o : Option (List Equation)) → x ≡ y → inst_ty r S ≡ inst_ty r T → SomeHold o → PartsHold (cond (name_eq x y) (typed_parts S T o) Clash)
  named bs x y S T o e q h = subst (λ b. PartsHold (cond b (typed_parts S T o) Clash)) (sym ((bytes_decides x y).1 e)) (go o h)
    where
      go : (o : Option (List Equation)) → SomeHold o → PartsHold (typed_parts S T o)
      go None k = k
      go (Some es) k = (q, k)

  numbered : (bs : List Variable) (m n : ℕ) (o : Option (List Equation)) → m ≡ n → SomeHold o → PartsHold (cond (nat_eq m n) (inner_parts o) Clash)
  numbered bs m n o e h = let t : nat_eq m n ≡ true = grind (arith, nat_tests) in subst (λ b. PartsHold (cond b (inner_parts o) Clash)) (sym t) (go o h)
    where
      go : (o : Option (List Equation)) → SomeHold o → PartsHold (inner_parts o)
      go None k = k
      go (Some es) k = k

  meet_hold : (bs : List Variable) (g : Tm) (ts : List Tm) (h : Tm) (us : List Tm) → IsAtom g → IsAtom h → (IsRigid g → IsRigid h → Agree bs g h ts us) → PartsHold (meet bs g ts h us)
  meet_hold bs (Const x S) ts (Const y T) us i j p = let a = p tt tt in let e = a.heads in named bs x y S T (paired bs ts us) (const_name e) (const_type e) (paired_hold bs ts us a.pairs)
    where
      const_name : {x y : List ℕ} {S T : Ty} → Const x S ≡ Const y T → x ≡ y
      const_name e = cc

      const_type : {x y : List ℕ} {S T : Ty} → Const x S ≡ Const y T → S ≡ T
      const_type e = cc
  meet_hold bs (Free x S) ts (Free y T) us i j p = let a = p tt tt in let e = a.heads in named bs x y S T (paired bs ts us) (free_name e) (free_type e) (paired_hold bs ts us a.pairs)
    where
      free_name : {x y : List ℕ} {S T : Ty} → Free x S ≡ Free y T → x ≡ y
      free_name e = cc

      free_type : {x y : List ℕ} {S T : Ty} → Free x S ≡ Free y T → S ≡ T
      free_type e = cc
  meet_hold bs (Bound m) ts (Bound n) us i j p = let a = p tt tt in let e = a.heads in numbered bs m n (paired bs ts us) (number e) (paired_hold bs ts us a.pairs)
    where
      number : {m n : ℕ} → Bound m ≡ Bound n → m ≡ n
      number e = cc
  meet_hold bs (Const x S) ts (Free y T) us i j p = let e = (p tt tt).heads in absurd (cc)
  meet_hold bs (Const x S) ts (Bound n) us i j p = let e = (p tt tt).heads in absurd (cc)
  meet_hold bs (Free x S) ts (Const y T) us i j p = let e = (p tt tt).heads in absurd (cc)
  meet_hold bs (Free x S) ts (Bound n) us i j p = let e = (p tt tt).heads in absurd (cc)
  meet_hold bs (Bound m) ts (Const y T) us i j p = let e = (p tt tt).heads in absurd (cc)
  meet_hold bs (Bound m) ts (Free y T) us i j p = let e = (p tt tt).heads in absurd (cc)
  meet_hold bs (Unknown x n S) ts (Const y T) us i j p = tt
  meet_hold bs (Unknown x n S) ts (Free y T) us i j p = tt
  meet_hold bs (Unknown x n S) ts (Unknown y m T) us i j p = tt
  meet_hold bs (Unknown x n S) ts (Bound m) us i j p = tt
  meet_hold bs (Unknown x n S) ts (Abs y T b) us i j p = absurd j
  meet_hold bs (Unknown x n S) ts (App f a) us i j p = absurd j
  meet_hold bs (Const x S) ts (Unknown y m T) us i j p = tt
  meet_hold bs (Const x S) ts (Abs y T b) us i j p = absurd j
  meet_hold bs (Const x S) ts (App f a) us i j p = absurd j
  meet_hold bs (Free x S) ts (Unknown y m T) us i j p = tt
  meet_hold bs (Free x S) ts (Abs y T b) us i j p = absurd j
  meet_hold bs (Free x S) ts (App f a) us i j p = absurd j
  meet_hold bs (Bound n) ts (Unknown y m T) us i j p = tt
  meet_hold bs (Bound n) ts (Abs y T b) us i j p = absurd j
  meet_hold bs (Bound n) ts (App f a) us i j p = absurd j
  meet_hold bs (Abs x S b) ts h us i j p = absurd i
  meet_hold bs (App f a) ts h us i j p = absurd i

  -- both sides no abstractions
  spines_hold : (bs : List Variable) (t u : Tm) → IsSpine t → IsSpine u → Holds bs t u → PartsHold (meet bs (head_of t) (args_of t) (head_of u) (args_of u))
  spines_hold bs t u h k c = meet_hold bs (head_of t) (args_of t) (head_of u) (args_of u) (head_atom t h) (head_atom u k) (λ i j.
      let p = head_rigid t h i in
      let q = head_rigid u k j in
      let heads = heads_same (val r v t) (val r v u) (rigid_spine (val r v t) (val_rigid r v t p)) (rigid_spine (val r v u) (val_rigid r v u q)) (conv_norm c.equal) in
      record { heads = ap bare (sym (head_val r v t p)) ∙ heads ∙ ap bare (head_val r v u q); pairs = rigid_pairs bs t u c.typ p q c.equal })

  module _ (fit : AreFit r v) where
    abs_hold : (bs : List Variable) (x y : List ℕ) (S T : Ty) (t u : Tm) → Holds bs (Abs x S t) (Abs y T u) → EachHolds (record { binders = record { name = x; typ = S } ∷ bs; left = t; right = u } ∷ [])
    abs_hold bs x y S T t u c =
        let G = types_under bs in
        let p = abs_typed (left_typed c.equal) in
        let q = abs_typed (right_typed c.equal) in
        let f : function_of (inst_ty r S) p.0 ≡ function_of (inst_ty r T) q.0 = sym p.1 ∙ q.1 in
        let d : Typed (inst_ty r S ∷ G) (val r v u) p.0 = subst (λ U. Typed (inst_ty r S ∷ G) (val r v u) U) (sym (range_same f)) (subst (λ U. Typed (U ∷ G) (val r v u) q.0) (sym (domain_same f)) q.2) in
        let e : Conv G (function_of (inst_ty r S) p.0) (Abs x (inst_ty r S) (val r v t)) (Abs y (inst_ty r S) (val r v u)) =
        subst (λ U. Conv G (function_of (inst_ty r S) p.0) (Abs x (inst_ty r S) (val r v t)) (Abs y U (val r v u))) (sym (domain_same f)) (subst (λ U. Conv G U (Abs x (inst_ty r S) (val r v t)) (Abs y (inst_ty r T) (val r v u))) p.1 c.equal) in
        (record { typ = p.0; equal = bodies_conv p.2 d e }, tt)

    open_hold : (bs : List Variable) (x : List ℕ) (S : Ty) (t u : Tm) → Holds bs (Abs x S t) u → Holds (record { name = x; typ = S } ∷ bs) t (opened u)
    open_hold bs x S t u c =
        let G = types_under bs in
        let p = abs_typed (left_typed c.equal) in
        let e : Conv G (function_of (inst_ty r S) p.0) (Abs x (inst_ty r S) (val r v t)) (val r v u) = subst (λ U. Conv G U (Abs x (inst_ty r S) (val r v t)) (val r v u)) p.1 c.equal in
        record {
          typ = p.0;
          equal = subst (λ w. Conv (inst_ty r S ∷ G) p.0 (val r v t) (App w (Bound 0))) (sym (val_raise r v fit 1 0 u)) (open_conv p.2 e);
        }

    turned : (bs : List Variable) (t u : Tm) → Holds bs t u → Holds bs u t
    turned bs t u c = record { typ = c.typ; equal = CSym c.equal }

    pub parts_hold : (bs : List Variable) (t u : Tm) → IsNormal t → IsNormal u → Holds bs t u → PartsHold (parts_at bs t u)
    unfolding parts_at
    parts_hold bs (Abs x1 T1 b1) (Abs x2 T2 b2) n m c = abs_hold bs x1 x2 T1 T2 b1 b2 c
    parts_hold bs (Abs x1 T1 b1) (Const x2 T2) n m c = (open_hold bs x1 T1 b1 (Const x2 T2) c, tt)
    parts_hold bs (Abs x1 T1 b1) (Free x2 T2) n m c = (open_hold bs x1 T1 b1 (Free x2 T2) c, tt)
    parts_hold bs (Abs x1 T1 b1) (Unknown x2 n2 T2) n m c = (open_hold bs x1 T1 b1 (Unknown x2 n2 T2) c, tt)
    parts_hold bs (Abs x1 T1 b1) (Bound n2) n m c = (open_hold bs x1 T1 b1 (Bound n2) c, tt)
    parts_hold bs (Abs x1 T1 b1) (App f2 a2) n m c = (open_hold bs x1 T1 b1 (App f2 a2) c, tt)
    parts_hold bs (Const x1 T1) (Abs x2 T2 b2) n m c = (turned (record { name = x2; typ = T2 } ∷ bs) b2 (opened (Const x1 T1)) (open_hold bs x2 T2 b2 (Const x1 T1) (turned bs (Const x1 T1) (Abs x2 T2 b2) c)), tt)
    parts_hold bs (Const x1 T1) (Const x2 T2) n m c = spines_hold bs (Const x1 T1) (Const x2 T2) (normal_spine (Const x1 T1) tt n) (normal_spine (Const x2 T2) tt m) c
    parts_hold bs (Const x1 T1) (Free x2 T2) n m c = spines_hold bs (Const x1 T1) (Free x2 T2) (normal_spine (Const x1 T1) tt n) (normal_spine (Free x2 T2) tt m) c
    parts_hold bs (Const x1 T1) (Unknown x2 n2 T2) n m c = spines_hold bs (Const x1 T1) (Unknown x2 n2 T2) (normal_spine (Const x1 T1) tt n) (normal_spine (Unknown x2 n2 T2) tt m) c
    parts_hold bs (Const x1 T1) (Bound n2) n m c = spines_hold bs (Const x1 T1) (Bound n2) (normal_spine (Const x1 T1) tt n) (normal_spine (Bound n2) tt m) c
    parts_hold bs (Const x1 T1) (App f2 a2) n m c = spines_hold bs (Const x1 T1) (App f2 a2) (normal_spine (Const x1 T1) tt n) (normal_spine (App f2 a2) tt m) c
    parts_hold bs (Free x1 T1) (Abs x2 T2 b2) n m c = (turned (record { name = x2; typ = T2 } ∷ bs) b2 (opened (Free x1 T1)) (open_hold bs x2 T2 b2 (Free x1 T1) (turned bs (Free x1 T1) (Abs x2 T2 b2) c)), tt)
    parts_hold bs (Free x1 T1) (Const x2 T2) n m c = spines_hold bs (Free x1 T1) (Const x2 T2) (normal_spine (Free x1 T1) tt n) (normal_spine (Const x2 T2) tt m) c
    parts_hold bs (Free x1 T1) (Free x2 T2) n m c = spines_hold bs (Free x1 T1) (Free x2 T2) (normal_spine (Free x1 T1) tt n) (normal_spine (Free x2 T2) tt m) c
    parts_hold bs (Free x1 T1) (Unknown x2 n2 T2) n m c = spines_hold bs (Free x1 T1) (Unknown x2 n2 T2) (normal_spine (Free x1 T1) tt n) (normal_spine (Unknown x2 n2 T2) tt m) c
    parts_hold bs (Free x1 T1) (Bound n2) n m c = spines_hold bs (Free x1 T1) (Bound n2) (normal_spine (Free x1 T1) tt n) (normal_spine (Bound n2) tt m) c
    parts_hold bs (Free x1 T1) (App f2 a2) n m c = spines_hold bs (Free x1 T1) (App f2 a2) (normal_spine (Free x1 T1) tt n) (normal_spine (App f2 a2) tt m) c
    parts_hold bs (Unknown x1 n1 T1) (Abs x2 T2 b2) n m c = (turned (record { name = x2; typ = T2 } ∷ bs) b2 (opened (Unknown x1 n1 T1)) (open_hold bs x2 T2 b2 (Unknown x1 n1 T1) (turned bs (Unknown x1 n1 T1) (Abs x2 T2 b2) c)), tt)
    parts_hold bs (Unknown x1 n1 T1) (Const x2 T2) n m c = spines_hold bs (Unknown x1 n1 T1) (Const x2 T2) (normal_spine (Unknown x1 n1 T1) tt n) (normal_spine (Const x2 T2) tt m) c
    parts_hold bs (Unknown x1 n1 T1) (Free x2 T2) n m c = spines_hold bs (Unknown x1 n1 T1) (Free x2 T2) (normal_spine (Unknown x1 n1 T1) tt n) (normal_spine (Free x2 T2) tt m) c
    parts_hold bs (Unknown x1 n1 T1) (Unknown x2 n2 T2) n m c = spines_hold bs (Unknown x1 n1 T1) (Unknown x2 n2 T2) (normal_spine (Unknown x1 n1 T1) tt n) (normal_spine (Unknown x2 n2 T2) tt m) c
    parts_hold bs (Unknown x1 n1 T1) (Bound n2) n m c = spines_hold bs (Unknown x1 n1 T1) (Bound n2) (normal_spine (Unknown x1 n1 T1) tt n) (normal_spine (Bound n2) tt m) c
    parts_hold bs (Unknown x1 n1 T1) (App f2 a2) n m c = spines_hold bs (Unknown x1 n1 T1) (App f2 a2) (normal_spine (Unknown x1 n1 T1) tt n) (normal_spine (App f2 a2) tt m) c
    parts_hold bs (Bound n1) (Abs x2 T2 b2) n m c = (turned (record { name = x2; typ = T2 } ∷ bs) b2 (opened (Bound n1)) (open_hold bs x2 T2 b2 (Bound n1) (turned bs (Bound n1) (Abs x2 T2 b2) c)), tt)
    parts_hold bs (Bound n1) (Const x2 T2) n m c = spines_hold bs (Bound n1) (Const x2 T2) (normal_spine (Bound n1) tt n) (normal_spine (Const x2 T2) tt m) c
    parts_hold bs (Bound n1) (Free x2 T2) n m c = spines_hold bs (Bound n1) (Free x2 T2) (normal_spine (Bound n1) tt n) (normal_spine (Free x2 T2) tt m) c
    parts_hold bs (Bound n1) (Unknown x2 n2 T2) n m c = spines_hold bs (Bound n1) (Unknown x2 n2 T2) (normal_spine (Bound n1) tt n) (normal_spine (Unknown x2 n2 T2) tt m) c
    parts_hold bs (Bound n1) (Bound n2) n m c = spines_hold bs (Bound n1) (Bound n2) (normal_spine (Bound n1) tt n) (normal_spine (Bound n2) tt m) c
    parts_hold bs (Bound n1) (App f2 a2) n m c = spines_hold bs (Bound n1) (App f2 a2) (normal_spine (Bound n1) tt n) (normal_spine (App f2 a2) tt m) c
    parts_hold bs (App f1 a1) (Abs x2 T2 b2) n m c = (turned (record { name = x2; typ = T2 } ∷ bs) b2 (opened (App f1 a1)) (open_hold bs x2 T2 b2 (App f1 a1) (turned bs (App f1 a1) (Abs x2 T2 b2) c)), tt)
    parts_hold bs (App f1 a1) (Const x2 T2) n m c = spines_hold bs (App f1 a1) (Const x2 T2) (normal_spine (App f1 a1) tt n) (normal_spine (Const x2 T2) tt m) c
    parts_hold bs (App f1 a1) (Free x2 T2) n m c = spines_hold bs (App f1 a1) (Free x2 T2) (normal_spine (App f1 a1) tt n) (normal_spine (Free x2 T2) tt m) c
    parts_hold bs (App f1 a1) (Unknown x2 n2 T2) n m c = spines_hold bs (App f1 a1) (Unknown x2 n2 T2) (normal_spine (App f1 a1) tt n) (normal_spine (Unknown x2 n2 T2) tt m) c
    parts_hold bs (App f1 a1) (Bound n2) n m c = spines_hold bs (App f1 a1) (Bound n2) (normal_spine (App f1 a1) tt n) (normal_spine (Bound n2) tt m) c
    parts_hold bs (App f1 a1) (App f2 a2) n m c = spines_hold bs (App f1 a1) (App f2 a2) (normal_spine (App f1 a1) tt n) (normal_spine (App f2 a2) tt m) c
