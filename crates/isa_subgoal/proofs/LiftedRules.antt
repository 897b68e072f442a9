-- No inference refuses where a normal rule is lifted.
use Rattle.std.specs.Prelude.{is_some, not}
use Rattle.std.proofs.Common.{◌≡◌, ℕ, zero, suc, ◌+◌, ◌-◌, ◌<◌, ◌≤◌, arith, length, List, [], ◌∷◌, ◌++◌, map, Bool, true, false, cond, ◌||◌, ◌&&◌, nat_eq, Some, None, unwrap_or, refl, sym, ap, ◌∙◌, subst}
use Rattle.std.specs.List.{slice_get}
use Rattle.std.proofs.lemmas.Bool.Decides.{Decides-eqb}
use Rattle.std.specs.Cmp.Lexicographic.{bytes_decides}
use Rattle.isa_terms.specs.Types.{Ty}
use Rattle.isa_terms.specs.Terms.{Tm, Const, Free, Unknown, Bound, Abs, App}
use Rattle.isa_terms.specs.Equal.{name_eq, ty_eq}
use Rattle.isa_terms.specs.Norm.{norm, loose}
use Rattle.isa_terms.specs.Normal.{redex_at, redex, IsHead, IsNormal}
use Rattle.isa_terms.specs.Typing.{HasType}
use Rattle.isa_terms.specs.Instance.{find_term, inst_ty, inst_tm, set_term, same_unknown}
use Rattle.isa_terms.specs.declared.inst.TermEntry.{TermEntry}
use Rattle.isa_terms.proofs.Equal.{ty_decides}
use Rattle.isa_terms.proofs.Typed.{Typed, TConst, TFree, TUnknown, TBound, TAbs, TApp, type_of_typed}
use Rattle.isa_terms.proofs.NormalForms.{norm_same}
use Rattle.isa_kernel.specs.Logic.{imp}
use Rattle.isa_kernel.specs.Inferences.{has_type, keeps, typed_as, instantiated}
use Rattle.isa_kernel.specs.Theorem.{Theorem}
use Rattle.isa_kernel.proofs.Fill.{Var, types, filled, fill, fill_below, fill_above, fill_typed, get_past, get_own, within_length, one_more}
use Rattle.isa_subgoal.specs.declared.lift.Parameter.{Parameter}
use Rattle.isa_subgoal.specs.Premises.{implies}
use Rattle.isa_subgoal.specs.Private.Reshaping.{opened}
use Rattle.isa_subgoal.specs.Lift.{over_types, applied, lift, types_under}
use Rattle.isa_subgoal.specs.Private.Lifting.{lifted_entries}
use Rattle.isa_subgoal.proofs.Entries.{term_set_keeps, term_set_has}
use Rattle.isa_subgoal.proofs.Instancing.{empty_ty}
use Rattle.isa_subgoal.proofs.Opening.{frees, opened_is}

both_true : (a b : Bool) → (a && b) ≡ true → (a ≡ true) × (b ≡ true)
both_true true b e = (refl, e)
both_true false b e = cc

-- ---- the types of parameters
add_later : (m j : ℕ) → suc m + j ≡ m + suc j
add_later m j = omega arith

under_past : (xs : List Parameter) (G : List Ty) (j : ℕ) → slice_get (types_under xs G) (length xs + j) ≡ slice_get G j
under_past [] G j = let e : 0 + j ≡ j = omega arith in ap (slice_get G) e
under_past (x ∷ xs) G j = ap (slice_get (types_under xs (x.typ ∷ G))) (add_later (length xs) j) ∙ under_past xs (x.typ ∷ G) (suc j)

under_at : (xs : List Parameter) (G : List Ty) (T : Ty) → slice_get (types_under xs (T ∷ G)) (length xs) ≡ Some T
under_at xs G T = let e : length xs ≡ length xs + 0 = omega arith in ap (slice_get (types_under xs (T ∷ G))) e ∙ under_past xs (T ∷ G) 0

-- what is applied to the parameters
applied_typed : (P K : List Ty) (xs : List Parameter) (G : List Ty) (f : Tm) (T : Ty) → K ≡ types_under xs G → Typed (P ++ K) f (over_types xs T) → Typed (P ++ K) (applied f (length xs) (length P)) T
applied_typed P K [] G f T e d = d
applied_typed P K (x ∷ xs) G f T e d =
    let n : ℕ = length xs + length P in
    let z : n - length P ≡ length xs = omega arith in
    let there : slice_get (P ++ K) n ≡ Some x.typ = get_past P K n (omega arith) ∙ ap (slice_get K) z ∙ ap (λ J. slice_get J (length xs)) e ∙ under_at xs G x.typ in
    applied_typed P K xs (x.typ ∷ G) (App f (Bound n)) T e (TApp d (TBound there))

pub lift_typed : (xs : List Parameter) {P : List Ty} {t : Tm} {T : Ty} → Typed P t T → Typed (P ++ types_under xs []) (lift xs (length P) t) T
lift_typed xs TConst = TConst
lift_typed xs TFree = TFree
lift_typed xs (TUnknown {G} {x} {i} {T}) = applied_typed G (types_under xs []) xs [] (Unknown x i (over_types xs T)) T refl TUnknown
lift_typed xs (TBound {G} {n} {T} h) = TBound (get_own G (types_under xs []) n (within_length G n T h) ∙ h)
lift_typed xs (TAbs {G} {x = y} {S} {T} {b} d) = TAbs (subst (λ k. Typed (S ∷ (G ++ types_under xs [])) (lift xs k b) T) (one_more (length G)) (lift_typed xs d))
lift_typed xs (TApp d e) = TApp (lift_typed xs d) (lift_typed xs e)

-- a head without loose numbers that no redex ends in
record IsNeutral (t : Tm) : Type 0 where
  head : IsHead t
  normal : IsNormal t
  closed : (k : ℕ) → loose k t ≡ false
  plain : redex t ≡ false
  argument : (f : Tm) → redex_at f t ≡ false

-- ---- the unknowns at variables
get_some : (vs : List Var) (n : ℕ) → n < length vs → (v : Var) × (slice_get vs n ≡ Some v)
get_some [] n h = absurd (omega (arith, h))
get_some (v ∷ vs) zero h = (v, refl)
get_some (v ∷ vs) (suc n) h = get_some vs n (omega (arith, h))

module _ (xs : List Parameter) (vs : List Var) (same : types vs ≡ types_under xs []) (long : length vs ≡ length xs) where
  -- an unknown at the variables
  abbrev at_vars : List ℕ → ℕ → Ty → Tm
  at_vars x i T = fill vs 0 (lift xs 0 (Unknown x i T))

  -- the term with its unknowns at the variables
  abbrev pub sub : Tm → Tm
  sub (Const x T) = Const x T
  sub (Free x T) = Free x T
  sub (Unknown x i T) = at_vars x i T
  sub (Bound i) = Bound i
  sub (Abs x T b) = Abs x T (sub b)
  sub (App f a) = App (sub f) (sub a)

  filled_at : (m k : ℕ) → m < length vs → (v : Var) × (fill vs k (Bound (m + k)) ≡ Free v.0 v.1) × (fill vs 0 (Bound (m + 0)) ≡ Free v.0 v.1)
  filled_at m k h =
      let g = get_some vs m h in
      let a : (m + k) - k ≡ m = omega arith in
      let b : (m + 0) - 0 ≡ m = omega arith in (
        g.0,
        fill_above vs k (m + k) (omega arith) ∙ ap (λ n. filled (m + k) (slice_get vs n)) a ∙ ap (filled (m + k)) g.1,
        fill_above vs 0 (m + 0) (omega arith) ∙ ap (λ n. filled (m + 0) (slice_get vs n)) b ∙ ap (filled (m + 0)) g.1,
      )

  applied_anywhere : (m k : ℕ) (f g : Tm) → m ≤ length vs → fill vs k f ≡ fill vs 0 g → fill vs k (applied f m k) ≡ fill vs 0 (applied g m 0)
  applied_anywhere zero k f g h e = e
  applied_anywhere (suc m) k f g h e =
      let b = filled_at m k (omega (arith, h)) in
      applied_anywhere m k (App f (Bound (m + k))) (App g (Bound (m + 0))) (omega (arith, h)) (λ i. App (e i) ((b.1 ∙ sym b.2) i))

  pub fill_lift : {P : List Ty} {t : Tm} {T : Ty} → Typed P t T → fill vs (length P) (lift xs (length P) t) ≡ sub t
  fill_lift TConst = refl
  fill_lift TFree = refl
  fill_lift (TUnknown {G} {x} {i} {T}) = let l : length xs ≤ length vs = omega (arith, long) in applied_anywhere (length xs) (length G) (Unknown x i (over_types xs T)) (Unknown x i (over_types xs T)) l refl
  fill_lift (TBound {G} {n} {T} h) = fill_below vs (length G) n (within_length G n T h)
  fill_lift (TAbs {G} {x = y} {S} {T} {b} d) = ap (Abs y S) (subst (λ k. fill vs k (lift xs k b) ≡ sub b) (one_more (length G)) (fill_lift d))
  fill_lift (TApp d e) = λ i. App (fill_lift d i) (fill_lift e i)

  -- ---- in normal form
  applied_neutral : (m : ℕ) (f : Tm) → m ≤ length vs → IsNeutral (fill vs 0 f) → IsNeutral (fill vs 0 (applied f m 0))
  applied_neutral zero f h n = n
  applied_neutral (suc m) f h n =
      let b = filled_at m 0 (omega (arith, h)) in
      let F : Tm = fill vs 0 f in
      let v : Var = b.0 in
      let whole : IsNeutral (App F (Free v.0 v.1)) = record { head = tt; normal = (n.head, (n.normal, tt)); closed = λ k. ap (λ c. c || false) (n.closed k); plain = refl; argument = λ g. refl } in
      applied_neutral m (App f (Bound (m + 0))) (omega (arith, h)) (subst (λ a. IsNeutral (App F a)) (sym b.2) whole)

  at_neutral : (x : List ℕ) (i : ℕ) (T : Ty) → IsNeutral (at_vars x i T)
  at_neutral x i T = let l : length xs ≤ length vs = omega (arith, long) in applied_neutral (length xs) (Unknown x i (over_types xs T)) l (record { head = tt; normal = tt; closed = λ k. refl; plain = refl; argument = λ g. refl })

  sub_loose : (k : ℕ) (t : Tm) → loose k (sub t) ≡ loose k t
  sub_loose k (Const x T) = refl
  sub_loose k (Free x T) = refl
  sub_loose k (Unknown x i T) = (at_neutral x i T).closed k
  sub_loose k (Bound n) = refl
  sub_loose k (Abs x T b) = sub_loose (k + 1) b
  sub_loose k (App f a) = λ i. sub_loose k f i || sub_loose k a i

  sub_redex : (b : Tm) → redex (sub b) ≡ redex b
  sub_redex (App f (Bound i)) = ap (λ v. nat_eq i 0 && not v) (sub_loose 0 f)
  sub_redex (App f (Const x T)) = refl
  sub_redex (App f (Free x T)) = refl
  sub_redex (App f (Unknown x i T)) = (at_neutral x i T).argument (sub f)
  sub_redex (App f (Abs x T b)) = refl
  sub_redex (App f (App g a)) = refl
  sub_redex (Const x T) = refl
  sub_redex (Free x T) = refl
  sub_redex (Unknown x i T) = (at_neutral x i T).plain
  sub_redex (Bound n) = refl
  sub_redex (Abs x T b) = refl

  sub_head : (t : Tm) → IsHead t → IsHead (sub t)
  sub_head (Const x T) h = tt
  sub_head (Free x T) h = tt
  sub_head (Unknown x i T) h = (at_neutral x i T).head
  sub_head (Bound n) h = tt
  sub_head (Abs x T b) h = absurd h
  sub_head (App f a) h = tt

  sub_normal : (t : Tm) → IsNormal t → IsNormal (sub t)
  sub_normal (Const x T) n = tt
  sub_normal (Free x T) n = tt
  sub_normal (Unknown x i T) n = (at_neutral x i T).normal
  sub_normal (Bound k) n = tt
  sub_normal (Abs x T b) n = (sub_normal b n.0, sub_redex b ∙ n.1)
  sub_normal (App f a) n = (sub_head f n.0, (sub_normal f n.1.0, sub_normal a n.1.1))

  pub sub_implies : (ps : List Tm) (c : Tm) → sub (implies ps c) ≡ implies (map sub ps) (sub c)
  sub_implies [] c = refl
  sub_implies (p ∷ ps) c = ap (imp (sub p)) (sub_implies ps c)

  -- ---- the instance
  -- each entry gives its unknown at the variables
  abbrev AreAtVars : List TermEntry → Type 0
  AreAtVars [] = Unit {0}
  AreAtVars (f ∷ fs) = (f.term ≡ at_vars f.name f.number f.typ) × AreAtVars fs

  set_at : (f : TermEntry) (fs : List TermEntry) → f.term ≡ at_vars f.name f.number f.typ → AreAtVars fs → AreAtVars (set_term f fs)
  set_at f [] h k = (h, tt)
  set_at f (g ∷ gs) h k = go (same_unknown f g) (set_at f gs h k.1)
    where
      go : (b : Bool) → AreAtVars (set_term f gs) → AreAtVars (cond b (f ∷ gs) (g ∷ set_term f gs))
      go true r = (h, k.1)
      go false r = (k.0, r)

  entries_at : (t : Tm) (fs : List TermEntry) → AreAtVars fs → AreAtVars (lifted_entries xs (frees vs) t fs)
  entries_at (Const x T) fs k = k
  entries_at (Free x T) fs k = k
  entries_at (Unknown x i T) fs k = set_at (record { name = x; number = i; typ = T; term = opened (frees vs) 0 (lift xs 0 (Unknown x i T)) }) fs (opened_is vs 0 (lift xs 0 (Unknown x i T))) k
  entries_at (Bound n) fs k = k
  entries_at (Abs x T b) fs k = entries_at b fs k
  entries_at (App f a) fs k = entries_at a (lifted_entries xs (frees vs) f fs) (entries_at f fs k)

  found_at : (x : List ℕ) (i : ℕ) (T : Ty) (fs : List TermEntry) → AreAtVars fs → is_some (find_term x i T fs) ≡ true → unwrap_or (find_term x i T fs) (Unknown x i (inst_ty [] T)) ≡ at_vars x i T
  found_at x i T [] k e = absurd (cc)
  found_at x i T (f ∷ fs) k e = go (name_eq x f.name && (nat_eq i f.number && ty_eq T f.typ)) refl e (found_at x i T fs k.1)
    where
      same_key : (name_eq x f.name && (nat_eq i f.number && ty_eq T f.typ)) ≡ true → f.term ≡ at_vars x i T
      same_key h =
          let p = both_true (name_eq x f.name) (nat_eq i f.number && ty_eq T f.typ) h in
          let q = both_true (nat_eq i f.number) (ty_eq T f.typ) p.1 in
          let n : x ≡ f.name = (bytes_decides x f.name).0 p.0 in
          let m : i ≡ f.number = (Decides-eqb i f.number).0 q.0 in
          let y : T ≡ f.typ = (ty_decides T f.typ).0 q.1 in
          k.0 ∙ (λ j. at_vars (sym n j) (sym m j) (sym y j))

      go : (b : Bool) → (name_eq x f.name && (nat_eq i f.number && ty_eq T f.typ)) ≡ b → is_some (cond b (Some f.term) (find_term x i T fs)) ≡ true → (is_some (find_term x i T fs) ≡ true → unwrap_or (find_term x i T fs) (Unknown x i (inst_ty [] T)) ≡ at_vars x i T) → unwrap_or (cond b (Some f.term) (find_term x i T fs)) (Unknown x i (inst_ty [] T)) ≡ at_vars x i T
      go true h s r = same_key h
      go false h s r = r s

  -- each unknown of the term has an entry
  abbrev Covers : List TermEntry → Tm → Type 0
  Covers fs (Unknown x i T) = is_some (find_term x i T fs) ≡ true
  Covers fs (Abs x T b) = Covers fs b
  Covers fs (App f a) = Covers fs f × Covers fs a
  Covers fs _ = Unit {0}

  more_entries : (x : List ℕ) (i : ℕ) (T : Ty) (t : Tm) (fs : List TermEntry) → is_some (find_term x i T fs) ≡ true → is_some (find_term x i T (lifted_entries xs (frees vs) t fs)) ≡ true
  more_entries x i T (Const y S) fs e = e
  more_entries x i T (Free y S) fs e = e
  more_entries x i T (Unknown y j S) fs e = term_set_keeps x i T (record { name = y; number = j; typ = S; term = opened (frees vs) 0 (lift xs 0 (Unknown y j S)) }) fs e
  more_entries x i T (Bound n) fs e = e
  more_entries x i T (Abs y S b) fs e = more_entries x i T b fs e
  more_entries x i T (App f a) fs e = more_entries x i T a (lifted_entries xs (frees vs) f fs) (more_entries x i T f fs e)

  more_covers : (u t : Tm) (fs : List TermEntry) → Covers fs u → Covers (lifted_entries xs (frees vs) t fs) u
  more_covers (Const y S) t fs c = tt
  more_covers (Free y S) t fs c = tt
  more_covers (Unknown y j S) t fs c = more_entries y j S t fs c
  more_covers (Bound n) t fs c = tt
  more_covers (Abs y S b) t fs c = more_covers b t fs c
  more_covers (App f a) t fs c = (more_covers f t fs c.0, more_covers a t fs c.1)

  entries_cover : (t : Tm) (fs : List TermEntry) → Covers (lifted_entries xs (frees vs) t fs) t
  entries_cover (Const y S) fs = tt
  entries_cover (Free y S) fs = tt
  entries_cover (Unknown y j S) fs = term_set_has (record { name = y; number = j; typ = S; term = opened (frees vs) 0 (lift xs 0 (Unknown y j S)) }) fs
  entries_cover (Bound n) fs = tt
  entries_cover (Abs y S b) fs = entries_cover b fs
  entries_cover (App f a) fs = (more_covers f a (lifted_entries xs (frees vs) f fs) (entries_cover f fs), entries_cover a (lifted_entries xs (frees vs) f fs))

  inst_is : (t : Tm) (fs : List TermEntry) → AreAtVars fs → Covers fs t → inst_tm [] fs t ≡ sub t
  inst_is (Const y S) fs k c = ap (Const y) (empty_ty S)
  inst_is (Free y S) fs k c = ap (Free y) (empty_ty S)
  inst_is (Unknown y j S) fs k c = found_at y j S fs k c
  inst_is (Bound n) fs k c = refl
  inst_is (Abs y S b) fs k c = λ i. Abs y (empty_ty S i) (inst_is b fs k c i)
  inst_is (App f a) fs k c = λ i. App (inst_is f fs k c.0 i) (inst_is a fs k c.1 i)

  at_typed : (x : List ℕ) (i : ℕ) (T : Ty) → Typed [] (at_vars x i T) T
  at_typed x i T = fill_typed [] vs (sym same) (lift_typed xs {P = []} (TUnknown {x = x} {i = i} {T = T}))

  at_keeps : (fs : List TermEntry) → AreAtVars fs → keeps [] fs ≡ true
  at_keeps [] k = refl
  at_keeps (f ∷ fs) k =
      let h : HasType f.term f.typ = subst (λ t. HasType t f.typ) (sym k.0) (type_of_typed (at_typed f.name f.number f.typ)) in
      let e : has_type f.term (inst_ty [] f.typ) ≡ true = ap (λ r. typed_as r (inst_ty [] f.typ)) h ∙ ap (λ S. ty_eq f.typ S) (empty_ty f.typ) ∙ (ty_decides f.typ f.typ).1 refl in
      λ i. e i && at_keeps fs k.1 i

  -- the instance of a normal rule
  pub rule_at : (th : Theorem) → th.hyps ≡ [] → IsNormal th.prop → instantiated (record { types = []; terms = lifted_entries xs (frees vs) th.prop [] }) th ≡ Some (record { hyps = []; prop = sub th.prop; base = th.base })
  rule_at th h n =
      let fs : List TermEntry = lifted_entries xs (frees vs) th.prop [] in
      let k : AreAtVars fs = entries_at th.prop [] tt in
      let made : norm (inst_tm [] fs th.prop) ≡ sub th.prop = ap norm (inst_is th.prop fs k (entries_cover th.prop [])) ∙ norm_same (sub th.prop) (sub_normal th.prop n) in
      (λ i. instantiated (record { types = []; terms = fs }) (record { hyps = h i; prop = th.prop; base = th.base }))
      ∙ ap (λ b. cond (b && true) (Some (record { hyps = []; prop = norm (inst_tm [] fs th.prop); base = th.base })) None) (at_keeps fs k)
      ∙ ap (λ p. Some (record { hyps = []; prop = p; base = th.base })) made
