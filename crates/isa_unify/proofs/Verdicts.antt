-- What the first place that decides says of an instance that makes `?F xs` equal to the term.
use Rattle.std.proofs.Common.{◌≡◌, ◌⊎◌, inl, inr, ℕ, ◌+◌, ◌-◌, ◌<◌, ◌≤◌, List, [], ◌∷◌, ◌++◌, filter, length, Bool, true, false, cond, ◌&&◌, ◌||◌, nat_eq, nat_lt, Option, Some, None, refl, sym, ap, ◌∙◌, subst, arith}
use Rattle.std.specs.Cmp.Lexicographic.{bytes_decides}
use Rattle.std.proofs.lemmas.Bool.Decides.{nat_tests}
use Rattle.isa_terms.specs.Types.{Ty}
use Rattle.isa_terms.specs.Terms.{Tm, Const, Free, Unknown, Bound, Abs, App}
use Rattle.isa_terms.specs.Equal.{name_eq}
use Rattle.isa_terms.specs.Norm.{loose, norm}
use Rattle.isa_terms.specs.Normal.{IsNormal}
use Rattle.isa_terms.specs.Instance.{inst_ty}
use Rattle.isa_terms.specs.declared.inst.TypeEntry.{TypeEntry}
use Rattle.isa_terms.specs.Typed.{Typed}
use Rattle.isa_terms.proofs.Unique.{abs_typed, app_typed}
use Rattle.isa_terms.proofs.Heads.{IsSpine, IsRigid, rigid_spine, normal_spine, app_norm}
use Rattle.isa_terms.proofs.Loose.{or_false, neither, norm_misses, beyond_misses}
use Rattle.isa_terms.proofs.Abstracting.{on_bounds, AreDistinct, Among}
use Rattle.isa_terms.proofs.Pruning.{closed_missing, IsWithin, among_or_not, on_bounds_misses}
use Rattle.isa_terms.proofs.Measures.{size, spine_size, size_abs, size_arg, size_fun, spine_size_le, size_closed, size_applied}
use Rattle.isa_terms.proofs.Valuations.{Values, val, AreFit, val_typed, val_rigid, val_on_bounds}
use Rattle.isa_unify.specs.declared.equation.Variable.{Variable}
use Rattle.isa_unify.specs.declared.progress.Verdict.{Verdict}
use Rattle.isa_unify.specs.declared.progress.Verdict.TheVariants.{Fine, Refused, Strays, Prunes}
use Rattle.isa_unify.specs.Spines.{head_of, args_of, is_flexible, has_number, distinct_bounds}
use Rattle.isa_unify.specs.Unification.{types_in, allowed, at_pattern, at_unknown, first_verdict, first_place}
use Rattle.isa_unify.proofs.Unknowns.{Key, key, key_eq_self, stands, both_true, or_left, or_right}
use Rattle.isa_unify.proofs.Meaning.{types_under}
use Rattle.isa_unify.proofs.Changing.{Sig}
use Rattle.isa_unify.proofs.Deciding.{among_has, has_among, filter_front, filter_has, filter_distinct, filter_all, applied_is, distinct_bounds_are, typ_in, no_names, bounds_typed, loose_eta, stiff, flexible_head, unknown, flexible_is}

-- what a place with an unknown at its head may be
pub data PlaceCase (f : List ℕ) (k : ℕ) (xs : List ℕ) (depth : ℕ) (bs : List Variable) (p : Tm) (w : Verdict) : Type 0 where
  strays : w ≡ Strays → PlaceCase f k xs depth bs p w
  pattern : (u : Key) (ys : List ℕ) → p ≡ on_bounds (unknown u) ys → AreDistinct ys → w ≡ at_pattern f k xs depth bs u.name u.number u.typ ys → PlaceCase f k xs depth bs p w

place_app : (f : List ℕ) (k : ℕ) (xs : List ℕ) (depth : ℕ) (bs : List Variable) (g a : Tm) → is_flexible g ≡ true → PlaceCase f k xs depth bs (App g a) (at_unknown f k xs depth bs (head_of g) (args_of g ++ a ∷ []))
place_app f k xs depth bs g a e = go (distinct_bounds (args_of g ++ a ∷ [])) refl
  where
    u : Key
    u = flexible_head g

    h : head_of g ≡ unknown u
    h = flexible_is g e

    at_key : Option (List ℕ) → Verdict
    at_key o = elim o [ None ↦ Strays | Some ys ↦ at_pattern f k xs depth bs u.name u.number u.typ ys ]

    start : at_unknown f k xs depth bs (head_of g) (args_of g ++ a ∷ []) ≡ at_key (distinct_bounds (args_of g ++ a ∷ []))
    start = ap (λ t. at_unknown f k xs depth bs t (args_of g ++ a ∷ [])) h

    go : (o : Option (List ℕ)) → distinct_bounds (args_of g ++ a ∷ []) ≡ o → PlaceCase f k xs depth bs (App g a) (at_unknown f k xs depth bs (head_of g) (args_of g ++ a ∷ []))
    go None p = strays (start ∙ ap at_key p)
    go (Some ys) p =
        let b = distinct_bounds_are (args_of g ++ a ∷ []) ys p in
        pattern u ys (applied_is (App g a) ys b.are ∙ ap (λ t. on_bounds t ys) h) b.distinct (start ∙ ap at_key p)

place_unknown : (f : List ℕ) (k : ℕ) (xs : List ℕ) (depth : ℕ) (bs : List Variable) (x : List ℕ) (i : ℕ) (T : Ty) → PlaceCase f k xs depth bs (Unknown x i T) (at_pattern f k xs depth bs x i T [])
place_unknown f k xs depth bs x i T = pattern (key x i T) [] refl tt refl

-- ---- a fine term has the variables xs alone
allowed_among : (xs : List ℕ) (depth j : ℕ) → allowed xs depth (j + depth) ≡ true → Among j xs
allowed_among xs depth j h =
    let l : nat_lt (j + depth) depth ≡ false = grind (arith, nat_tests) in
    let m : j + depth - depth ≡ j = omega arith in
    among_has xs j (sym (ap (λ b. cond b true (has_number xs (j + depth - depth))) l ∙ ap (has_number xs) m) ∙ h)

among_allowed : (xs : List ℕ) (depth j : ℕ) → (j < depth) ⊎ ((depth ≤ j) × Among (j - depth) xs) → allowed xs depth j ≡ true
among_allowed xs depth j (inl h) = let l : nat_lt j depth ≡ true = grind (arith, nat_tests) in ap (λ b. cond b true (has_number xs (j - depth))) l
among_allowed xs depth j (inr h) =
    let le : depth ≤ j = h.0 in
    let l : nat_lt j depth ≡ false = grind (arith, nat_tests) in
    ap (λ b. cond b true (has_number xs (j - depth))) l ∙ has_among xs (j - depth) h.1

-- the variables of xs are all that is loose under so many binders
abbrev pub WithinAt : List ℕ → ℕ → Tm → Type 0
WithinAt xs depth t = (j : ℕ) → Among j xs ⊎ (loose (j + depth) t ≡ false)

pattern_fine : (f : List ℕ) (k : ℕ) (xs : List ℕ) (depth : ℕ) (bs : List Variable) (x : List ℕ) (i : ℕ) (T : Ty) (ys : List ℕ) → at_pattern f k xs depth bs x i T ys ≡ Fine → (j : ℕ) → Among j ys → allowed xs depth j ≡ true
pattern_fine f k xs depth bs x i T ys e = go (name_eq f x && nat_eq k i) (nat_eq (length (filter (allowed xs depth) ys)) (length ys)) refl e
  where
    go : (b c : Bool) → nat_eq (length (filter (allowed xs depth) ys)) (length ys) ≡ c → cond b Refused (cond c Fine (Prunes x i T bs ys (filter (allowed xs depth) ys))) ≡ Fine → (j : ℕ) → Among j ys → allowed xs depth j ≡ true
    go true c p h = absurd (cc)
    go false true p h = let q : length (filter (allowed xs depth) ys) ≡ length ys = grind (arith, nat_tests) in filter_all (allowed xs depth) ys q
    go false false p h = absurd (cc)

place_fine : (f : List ℕ) (k : ℕ) (xs : List ℕ) (depth : ℕ) (bs : List Variable) (p : Tm) (w : Verdict) → PlaceCase f k xs depth bs p w → w ≡ Fine → WithinAt xs depth p
place_fine f k xs depth bs p w (strays e) h j = absurd (cc)
place_fine f k xs depth bs p w (pattern u ys is d e) h j = go (among_or_not (j + depth) ys)
  where
    go : Among (j + depth) ys ⊎ (Among (j + depth) ys → ⊥) → Among j xs ⊎ (loose (j + depth) p ≡ false)
    go (inl g) = inl (allowed_among xs depth j (pattern_fine f k xs depth bs u.name u.number u.typ ys (sym e ∙ h) (j + depth) g))
    go (inr g) = inr (ap (loose (j + depth)) is ∙ on_bounds_misses (unknown u) ys (j + depth) refl g)

both_fine : (v w : Verdict) → first_verdict v w ≡ Fine → (v ≡ Fine) × (w ≡ Fine)
both_fine Fine w e = (refl, e)
both_fine Refused w e = absurd (cc)
both_fine Strays w e = absurd (cc)
both_fine (Prunes x i T bs ys zs) w e = absurd (cc)

within_app : (xs : List ℕ) (depth : ℕ) (g a : Tm) → WithinAt xs depth g → WithinAt xs depth a → WithinAt xs depth (App g a)
within_app xs depth g a h k j = go (h j) (k j)
  where
    go : Among j xs ⊎ (loose (j + depth) g ≡ false) → Among j xs ⊎ (loose (j + depth) a ≡ false) → Among j xs ⊎ ((loose (j + depth) g || loose (j + depth) a) ≡ false)
    go (inl p) q = inl p
    go (inr p) (inl q) = inl q
    go (inr p) (inr q) = inr (neither (loose (j + depth) g) (loose (j + depth) a) p q)

pub fine_within : (f : List ℕ) (k : ℕ) (xs : List ℕ) (t : Tm) (depth : ℕ) (bs : List Variable) → first_place f k xs depth bs t ≡ Fine → WithinAt xs depth t
fine_within f k xs (Const x T) depth bs e j = inr refl
fine_within f k xs (Free x T) depth bs e j = inr refl
fine_within f k xs (Unknown x i T) depth bs e j = inr refl
fine_within f k xs (Bound n) depth bs e j = go (nat_eq n (j + depth)) refl (allowed xs depth n) refl e
  where
    go : (b : Bool) → nat_eq n (j + depth) ≡ b → (c : Bool) → allowed xs depth n ≡ c → cond c Fine Refused ≡ Fine → Among j xs ⊎ (b ≡ false)
    go false p c q h = inr refl
    go true p false q h = absurd (cc)
    go true p true q h = let s : n ≡ j + depth = grind (arith, nat_tests) in inl (allowed_among xs depth j (ap (allowed xs depth) (sym s) ∙ q))
fine_within f k xs (Abs x T b) depth bs e j = go (fine_within f k xs b (depth + 1) (record { name = x; typ = T } ∷ bs) e j)
  where
    go : Among j xs ⊎ (loose (j + (depth + 1)) b ≡ false) → Among j xs ⊎ (loose (j + depth + 1) b ≡ false)
    go (inl h) = inl h
    go (inr h) = let s : j + depth + 1 ≡ j + (depth + 1) = omega arith in inr (ap (λ i. loose i b) s ∙ h)
fine_within f k xs (App g a) depth bs e j = go (is_flexible g) refl e (λ h. fine_within f k xs g depth bs h) (λ h. fine_within f k xs a depth bs h)
  where
    go : (b : Bool) → is_flexible g ≡ b → cond b (at_unknown f k xs depth bs (head_of g) (args_of g ++ a ∷ [])) (first_verdict (first_place f k xs depth bs g) (first_place f k xs depth bs a)) ≡ Fine
        → (first_place f k xs depth bs g ≡ Fine → WithinAt xs depth g) → (first_place f k xs depth bs a ≡ Fine → WithinAt xs depth a) → Among j xs ⊎ (loose (j + depth) (App g a) ≡ false)
    go true p h r s = place_fine f k xs depth bs (App g a) _ (place_app f k xs depth bs g a p) h j
    go false p h r s = let q = both_fine (first_place f k xs depth bs g) (first_place f k xs depth bs a) h in within_app xs depth g a (r q.0) (s q.1) j

-- ---- a place that is pruned is well typed
pub record PrunePlace (x : List ℕ) (i : ℕ) (T : Ty) (bs : List Variable) (ys kept : List ℕ) : Type 0 where
  pub typ : Ty
  pub typed : Typed (types_in bs) (on_bounds (Unknown x i T) ys) typ
  pub distinct : AreDistinct ys
  pub kept_distinct : AreDistinct kept
  pub kept_front : (j : ℕ) → Among j kept → Among j ys

abbrev pub VerdictTyped : Verdict → Type 0
VerdictTyped (Prunes x i T bs ys kept) = PrunePlace x i T bs ys kept
VerdictTyped v = Unit {0}

first_typed : (v w : Verdict) → VerdictTyped v → VerdictTyped w → VerdictTyped (first_verdict v w)
first_typed Fine w h k = k
first_typed Refused w h k = tt
first_typed Strays w h k = tt
first_typed (Prunes x i T bs ys zs) w h k = h

place_typed : (f : List ℕ) (k : ℕ) (xs : List ℕ) (depth : ℕ) (bs : List Variable) (p : Tm) (w : Verdict) {U : Ty} → PlaceCase f k xs depth bs p w → Typed (types_in bs) p U → VerdictTyped w
place_typed f k xs depth bs p w (strays e) d = subst VerdictTyped (sym e) tt
place_typed f k xs depth bs p w {U} (pattern u ys is dis e) d = subst VerdictTyped (sym e) (go (name_eq f u.name && nat_eq k u.number) (nat_eq (length (filter (allowed xs depth) ys)) (length ys)))
  where
    go : (b c : Bool) → VerdictTyped (cond b Refused (cond c Fine (Prunes u.name u.number u.typ bs ys (filter (allowed xs depth) ys))))
    go true c = tt
    go false true = tt
    go false false = record {
      typ = U;
      typed = subst (λ t. Typed (types_in bs) t U) is d;
      distinct = dis;
      kept_distinct = filter_distinct (allowed xs depth) ys dis;
      kept_front = λ j h. (filter_front (allowed xs depth) ys j h).0;
    }

pub verdict_typed : (f : List ℕ) (k : ℕ) (xs : List ℕ) (t : Tm) (depth : ℕ) (bs : List Variable) (U : Ty) → Typed (types_in bs) t U → VerdictTyped (first_place f k xs depth bs t)
verdict_typed f k xs (Const x T) depth bs U d = tt
verdict_typed f k xs (Free x T) depth bs U d = tt
verdict_typed f k xs (Unknown x i T) depth bs U d = place_typed f k xs depth bs (Unknown x i T) _ (place_unknown f k xs depth bs x i T) d
verdict_typed f k xs (Bound n) depth bs U d = go (allowed xs depth n)
  where
    go : (b : Bool) → VerdictTyped (cond b Fine Refused)
    go true = tt
    go false = tt
verdict_typed f k xs (Abs x T b) depth bs U d = let p = abs_typed d in verdict_typed f k xs b (depth + 1) (record { name = x; typ = T } ∷ bs) p.0 p.2
verdict_typed f k xs (App g a) depth bs U d =
    let p = app_typed d in
    go (is_flexible g) refl (verdict_typed f k xs g depth bs _ p.1) (verdict_typed f k xs a depth bs _ p.2)
  where
    go : (b : Bool) → is_flexible g ≡ b → VerdictTyped (first_place f k xs depth bs g) → VerdictTyped (first_place f k xs depth bs a)
        → VerdictTyped (cond b (at_unknown f k xs depth bs (head_of g) (args_of g ++ a ∷ [])) (first_verdict (first_place f k xs depth bs g) (first_place f k xs depth bs a)))
    go true e h l = place_typed f k xs depth bs (App g a) _ (place_app f k xs depth bs g a e) d
    go false e h l = first_typed (first_place f k xs depth bs g) (first_place f k xs depth bs a) h l

-- ---- an instance that makes the sides equal
module _ (r : List TypeEntry) (v : Values) (fit : AreFit r v) (sig : Sig) (f : List ℕ) (k : ℕ) (xs : List ℕ) where
  abbrev pub Whole : ℕ
  Whole = size [] (v f k (sig f k))

  -- what the verdict says of the instance
  abbrev pub VerdictHolds : Verdict → Type 0
  VerdictHolds Fine = Unit {0}
  VerdictHolds Strays = Unit {0}
  VerdictHolds Refused = ⊥
  VerdictHolds (Prunes x i T bs ys kept) = IsWithin kept (norm (val r v (on_bounds (Unknown x i T) ys)))

  first_holds : (a b : Verdict) → VerdictHolds a → VerdictHolds b → VerdictHolds (first_verdict a b)
  first_holds Fine w h l = l
  first_holds Refused w h l = h
  first_holds Strays w h l = tt
  first_holds (Prunes x i T bs ys zs) w h l = h

  abbrev pub OneType : Tm → Type 0
  OneType t = (u : Key) → stands u t ≡ true → u.typ ≡ sig u.name u.number

  -- the part is smaller than the unknown's term, or is the rigid term itself, or what is applied in it
  abbrev pub Smaller : List Variable → Tm → Type 0
  Smaller bs t = (IsRigid t × (spine_size (types_under r v bs) (val r v t) ≤ Whole)) ⊎ (size (types_under r v bs) (val r v t) < Whole)

  -- the unknown itself, on variables, is as large as its term
  same_size : (bs : List Variable) (u : Key) (ys : List ℕ) {U : Ty} → Typed (types_in bs) (on_bounds (unknown u) ys) U → AreDistinct ys → (f ≡ u.name) × (k ≡ u.number) × (u.typ ≡ sig u.name u.number) → size (types_under r v bs) (val r v (on_bounds (unknown u) ys)) ≡ Whole
  same_size bs u ys {U} d dis e =
      let G = types_under r v bs in
      let w = v u.name u.number u.typ in
      let is : val r v (on_bounds (unknown u) ys) ≡ on_bounds w ys = val_on_bounds r v (unknown u) ys in
      let t : Typed G (on_bounds w ys) (inst_ty r U) = subst (λ s. Typed G s (inst_ty r U)) is (val_typed r v fit d) in
      let b = bounds_typed no_names w ys t in
      let c : Typed [] w (inst_ty r u.typ) = fit u.name u.number u.typ in
      let typ : u.typ ≡ sig f k = e.2 ∙ (λ i. sig (sym e.0 i) (sym e.1 i)) in
      let same : w ≡ v f k (sig f k) = λ i. v (sym e.0 i) (sym e.1 i) (typ i) in
      ap (size G) is ∙ size_applied no_names (typ_in G) ys (inst_ty r U) b.0 dis (closed_missing c ys) b.1 ∙ size_closed G c ∙ ap (size []) same

  place_holds : (depth : ℕ) (bs : List Variable) (p : Tm) (w : Verdict) {U : Ty} → PlaceCase f k xs depth bs p w → Typed (types_in bs) p U → OneType p → WithinAt xs depth (norm (val r v p)) → size (types_under r v bs) (val r v p) < Whole → VerdictHolds w
  place_holds depth bs p w (strays e) d o h lt = subst VerdictHolds (sym e) tt
  place_holds depth bs p w {U} (pattern u ys is dis e) d o h lt = subst VerdictHolds (sym e) (go (name_eq f u.name && nat_eq k u.number) refl (nat_eq (length (filter (allowed xs depth) ys)) (length ys)))
    where
      q : Tm
      q = on_bounds (unknown u) ys

      d' : Typed (types_in bs) q U
      d' = subst (λ t. Typed (types_in bs) t U) is d

      stands_there : (h : Tm) (ns : List ℕ) → stands u h ≡ true → stands u (on_bounds h ns) ≡ true
      stands_there h [] s = s
      stands_there h (n ∷ ns) s = stands_there (App h (Bound n)) ns (or_left (stands u h) false s)

      typ : u.typ ≡ sig u.name u.number
      typ = o u (ap (stands u) is ∙ stands_there (unknown u) ys (key_eq_self u))

      refused : (name_eq f u.name && nat_eq k u.number) ≡ true → ⊥
      refused b =
          let c = both_true (name_eq f u.name) (nat_eq k u.number) b in
          let m : k ≡ u.number = grind (arith, nat_tests, c.1) in
          let s = same_size bs u ys d' dis ((bytes_decides f u.name).0 c.0, m, typ) in
          let lt' : size (types_under r v bs) (val r v q) < Whole = subst (λ t. size (types_under r v bs) (val r v t) < Whole) is lt in
          omega (arith, s, lt')

      within : IsWithin (filter (allowed xs depth) ys) (norm (val r v q))
      within j = at (among_or_not j ys) (nat_lt j depth) refl
        where
          found : Among j ys → allowed xs depth j ≡ true → Among j (filter (allowed xs depth) ys) ⊎ (loose j (norm (val r v q)) ≡ false)
          found g a = inl (filter_has (allowed xs depth) ys j g a)

          outer : depth ≤ j → Among j ys → Among (j - depth) xs ⊎ (loose (j - depth + depth) (norm (val r v p)) ≡ false) → Among j (filter (allowed xs depth) ys) ⊎ (loose j (norm (val r v q)) ≡ false)
          outer le g (inl a) = found g (among_allowed xs depth j (inr (le, a)))
          outer le g (inr a) = let m : j ≡ j - depth + depth = omega arith in inr (ap (λ i. loose i (norm (val r v q))) m ∙ ap (λ t. loose (j - depth + depth) (norm (val r v t))) (sym is) ∙ a)

          at : Among j ys ⊎ (Among j ys → ⊥) → (b : Bool) → nat_lt j depth ≡ b → Among j (filter (allowed xs depth) ys) ⊎ (loose j (norm (val r v q)) ≡ false)
          at (inl g) true l = let lt : j < depth = grind (arith, nat_tests) in found g (among_allowed xs depth j (inl lt))
          at (inl g) false l = let le : depth ≤ j = grind (arith, nat_tests) in outer le g (h (j - depth))
          at (inr g) b l =
              let w = v u.name u.number u.typ in
              let c = fit u.name u.number u.typ in
              inr (norm_misses (val_typed r v fit d') j (ap (loose j) (val_on_bounds r v (unknown u) ys) ∙ on_bounds_misses w ys j (beyond_misses c j (omega arith)) g))

      go : (b : Bool) → (name_eq f u.name && nat_eq k u.number) ≡ b → (c : Bool) → VerdictHolds (cond b Refused (cond c Fine (Prunes u.name u.number u.typ bs ys (filter (allowed xs depth) ys))))
      go true b c = refused b
      go false b true = tt
      go false b false = within

  one_fun : (g a : Tm) → OneType (App g a) → OneType g
  one_fun g a o u s = o u (or_left (stands u g) (stands u a) s)

  one_arg : (g a : Tm) → OneType (App g a) → OneType a
  one_arg g a o u s = o u (or_right (stands u g) (stands u a) s)

  within_parts : (depth : ℕ) (g a : Tm) → IsSpine (val r v g) → WithinAt xs depth (norm (val r v (App g a))) → WithinAt xs depth (norm (val r v g)) × WithinAt xs depth (norm (val r v a))
  within_parts depth g a s h = ((λ j. left j (h j)), (λ j. right j (h j)))
    where
      e : norm (val r v (App g a)) ≡ App (norm (val r v g)) (norm (val r v a))
      e = app_norm (val r v g) (val r v a) s

      left : (j : ℕ) → Among j xs ⊎ (loose (j + depth) (norm (val r v (App g a))) ≡ false) → Among j xs ⊎ (loose (j + depth) (norm (val r v g)) ≡ false)
      left j (inl m) = inl m
      left j (inr m) = inr ((or_false (loose (j + depth) (norm (val r v g))) (loose (j + depth) (norm (val r v a))) (sym (ap (loose (j + depth)) e) ∙ m)).0)

      right : (j : ℕ) → Among j xs ⊎ (loose (j + depth) (norm (val r v (App g a))) ≡ false) → Among j xs ⊎ (loose (j + depth) (norm (val r v a)) ≡ false)
      right j (inl m) = inl m
      right j (inr m) = inr ((or_false (loose (j + depth) (norm (val r v g))) (loose (j + depth) (norm (val r v a))) (sym (ap (loose (j + depth)) e) ∙ m)).1)

  flexible_not : (g : Tm) → is_flexible g ≡ true → IsRigid g → ⊥
  flexible_not (App g a) e h = flexible_not g e h
  flexible_not (Unknown x i T) e h = h
  flexible_not (Const x T) e h = cc
  flexible_not (Free x T) e h = cc
  flexible_not (Bound n) e h = cc
  flexible_not (Abs x T b) e h = h

  pub verdict_holds : (t : Tm) (depth : ℕ) (bs : List Variable) (U : Ty) → IsNormal t → Typed (types_in bs) t U → OneType t → WithinAt xs depth (norm (val r v t)) → Smaller bs t → VerdictHolds (first_place f k xs depth bs t)
  verdict_holds (Const x T) depth bs U n d o h m = tt
  verdict_holds (Free x T) depth bs U n d o h m = tt
  verdict_holds (Unknown x i T) depth bs U n d o h (inl m) = absurd m.0
  verdict_holds (Unknown x i T) depth bs U n d o h (inr m) = place_holds depth bs (Unknown x i T) _ (place_unknown f k xs depth bs x i T) d o h m
  verdict_holds (Bound i) depth bs U n d o h m = go (allowed xs depth i) refl (nat_lt i depth) refl
    where
      outer : allowed xs depth i ≡ false → depth ≤ i → Among (i - depth) xs ⊎ (nat_eq i (i - depth + depth) ≡ false) → ⊥
      outer e le (inl g) = let t = among_allowed xs depth i (inr (le, g)) in cc
      outer e le (inr g) = let t : nat_eq i (i - depth + depth) ≡ true = grind (arith, nat_tests) in cc

      go : (b : Bool) → allowed xs depth i ≡ b → (c : Bool) → nat_lt i depth ≡ c → VerdictHolds (cond b Fine Refused)
      go true e c l = tt
      go false e true l = let lt : i < depth = grind (arith, nat_tests) in let t = among_allowed xs depth i (inl lt) in absurd (cc)
      go false e false l = let le : depth ≤ i = grind (arith, nat_tests) in outer e le (h (i - depth))
  verdict_holds (Abs x T b) depth bs U n d o h (inl m) = absurd m.0
  verdict_holds (Abs x T b) depth bs U n d o h (inr m) =
      let p = abs_typed d in
      let bs' = record { name = x; typ = T } ∷ bs in
      let s : size (types_under r v bs) (val r v (Abs x T b)) ≡ size (types_under r v bs') (val r v b) = size_abs x (val_typed r v fit p.2) in
      verdict_holds b (depth + 1) bs' p.0 n.0 p.2 o (λ j. deeper j (h j)) (inr (omega (arith, s, m)))
    where
      deeper : (j : ℕ) → Among j xs ⊎ (loose (j + depth) (norm (val r v (Abs x T b))) ≡ false) → Among j xs ⊎ (loose (j + (depth + 1)) (norm (val r v b)) ≡ false)
      deeper j (inl g) = inl g
      deeper j (inr g) =
          let e : j + (depth + 1) ≡ j + depth + 1 = omega arith in
          inr (ap (λ i. loose i (norm (val r v b))) e ∙ sym (loose_eta x (inst_ty r T) (norm (val r v b)) (j + depth)) ∙ g)
  verdict_holds (App g a) depth bs U n d o h m = go (is_flexible g) refl m
      (λ h' m'. verdict_holds g depth bs _ n.1.0 (app_typed d).1 (one_fun g a o) h' m')
      (λ h' m'. verdict_holds a depth bs _ n.1.1 (app_typed d).2 (one_arg g a o) h' m')
    where
      G : List Ty
      G = types_under r v bs

      rigid_case : IsRigid g → spine_size G (val r v (App g a)) ≤ Whole → (WithinAt xs depth (norm (val r v g)) → Smaller bs g → VerdictHolds (first_place f k xs depth bs g)) → (WithinAt xs depth (norm (val r v a)) → Smaller bs a → VerdictHolds (first_place f k xs depth bs a)) → VerdictHolds (first_verdict (first_place f k xs depth bs g) (first_place f k xs depth bs a))
      rigid_case s le p q =
          let sp = rigid_spine (val r v g) (val_rigid r v g s) in
          let w = within_parts depth g a sp h in
          let x = size_fun G (val r v g) (val r v a) sp in
          let y = size_arg G (val r v g) (val r v a) sp in
          first_holds (first_place f k xs depth bs g) (first_place f k xs depth bs a) (p w.0 (inl (s, omega (arith, x, le)))) (q w.1 (inr (omega (arith, y, le))))

      go : (b : Bool) → is_flexible g ≡ b → Smaller bs (App g a) → (WithinAt xs depth (norm (val r v g)) → Smaller bs g → VerdictHolds (first_place f k xs depth bs g)) → (WithinAt xs depth (norm (val r v a)) → Smaller bs a → VerdictHolds (first_place f k xs depth bs a))
          → VerdictHolds (cond b (at_unknown f k xs depth bs (head_of g) (args_of g ++ a ∷ [])) (first_verdict (first_place f k xs depth bs g) (first_place f k xs depth bs a)))
      go true e (inl s) p q = absurd (flexible_not g e s.0)
      go true e (inr s) p q = place_holds depth bs (App g a) _ (place_app f k xs depth bs g a e) d o h s
      go false e (inl s) p q = rigid_case s.0 s.1 p q
      go false e (inr s) p q =
          let t = stiff g (normal_spine g n.0 n.1.0) e in
          let sp = rigid_spine (val r v (App g a)) (val_rigid r v (App g a) t) in
          let le = spine_size_le G (val r v (App g a)) sp in
          rigid_case t (omega (arith, le, s)) p q
