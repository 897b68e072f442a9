-- No inference refuses where the unknowns of a normal rule get other numbers.
use Rattle.std.specs.Prelude.{is_some, not, option_and_then, IfOk, Result, Ok, Err}
use Rattle.std.proofs.Common.{◌≡◌, ℕ, ◌+◌, ◌<◌, arith, length, List, [], ◌∷◌, Bool, true, false, cond, ◌||◌, ◌&&◌, nat_eq, Option, Some, None, unwrap_or, refl, sym, ap, ◌∙◌, subst}
use Rattle.std.proofs.lemmas.Bool.Decides.{Decides-eqb}
use Rattle.std.specs.Cmp.Lexicographic.{bytes_decides}
use Rattle.isa_terms.specs.Types.{Ty, Tys, TyCon, TyFixed, TyUnknown, NoTys, MoreTys}
use Rattle.isa_terms.specs.Terms.{Tm, Const, Free, Unknown, Bound, Abs, App}
use Rattle.isa_terms.specs.Equal.{name_eq, ty_eq}
use Rattle.isa_terms.specs.Norm.{norm, loose}
use Rattle.isa_terms.specs.Normal.{redex, IsHead, IsNormal}
use Rattle.isa_terms.specs.Typing.{HasType}
use Rattle.isa_terms.specs.Instance.{find_type, find_term, inst_ty, inst_tys, inst_tm, set_type, set_term, same_type_unknown, same_unknown}
use Rattle.isa_terms.specs.declared.inst.TypeEntry.{TypeEntry}
use Rattle.isa_terms.specs.declared.inst.TermEntry.{TermEntry}
use Rattle.isa_terms.proofs.Equal.{ty_decides}
use Rattle.isa_terms.proofs.NormalForms.{norm_same}
use Rattle.isa_kernel.specs.Inferences.{Answers, has_type, typed_as, keeps, instantiated}
use Rattle.isa_kernel.specs.declared.inference.InferenceError.{InferenceError}
use Rattle.isa_kernel.specs.Theorem.{Theorem}
use Rattle.isa_subgoal.specs.Renumbering.{renumbered_type, renumbered_types, renumbered, renumbered_rule, Renumbers}
use Rattle.isa_subgoal.specs.Private.Renumbering.{type_numbers, all_type_numbers, numbers_in_types, numbers_in, renumbered_by}
use Rattle.isa_kernel.specs.Derived.{renamed}
use Rattle.isa_subgoal.proofs.Entries.{term_set_keeps, term_set_has}
use Rattle.isa_subgoal.proofs.Stating.{renamed_is, renamed_same}
use Rattle.isa_subgoal.proofs.Bases.{instantiated_keeps}
use Rattle.isa_terms.proofs.Functions.{bind_some}

both_true : (a b : Bool) → (a && b) ≡ true → (a ≡ true) × (b ≡ true)
both_true true b e = (refl, e)
both_true false b e = cc

module _ (n : ℕ) where
  -- ---- type unknowns
  -- each entry raises its number
  abbrev RaiseTypes : List TypeEntry → Type 0
  RaiseTypes [] = Unit {0}
  RaiseTypes (e ∷ es) = (e.typ ≡ TyUnknown e.name (e.number + n)) × RaiseTypes es

  set_raises : (e : TypeEntry) (es : List TypeEntry) → e.typ ≡ TyUnknown e.name (e.number + n) → RaiseTypes es → RaiseTypes (set_type e es)
  set_raises e [] h k = (h, tt)
  set_raises e (d ∷ ds) h k = go (same_type_unknown e d) (set_raises e ds h k.1)
    where
      go : (b : Bool) → RaiseTypes (set_type e ds) → RaiseTypes (cond b (e ∷ ds) (d ∷ set_type e ds))
      go true r = (h, k.1)
      go false r = (k.0, r)

  mutual
    type_raises : (T : Ty) (es : List TypeEntry) → RaiseTypes es → RaiseTypes (type_numbers n T es)
    type_raises (TyCon x Ts) es k = all_raise Ts es k
    type_raises (TyFixed x) es k = k
    type_raises (TyUnknown x i) es k = set_raises (record { name = x; number = i; typ = TyUnknown x (i + n) }) es refl k

    all_raise : (Ts : Tys) (es : List TypeEntry) → RaiseTypes es → RaiseTypes (all_type_numbers n Ts es)
    all_raise NoTys es k = k
    all_raise (MoreTys T Ts) es k = all_raise Ts (type_numbers n T es) (type_raises T es k)

  types_raise : (t : Tm) (es : List TypeEntry) → RaiseTypes es → RaiseTypes (numbers_in_types n t es)
  types_raise (Const x T) es k = type_raises T es k
  types_raise (Free x T) es k = type_raises T es k
  types_raise (Unknown x i T) es k = type_raises T es k
  types_raise (Bound i) es k = k
  types_raise (Abs x T b) es k = types_raise b (type_numbers n T es) (type_raises T es k)
  types_raise (App f a) es k = types_raise a (numbers_in_types n f es) (types_raise f es k)

  type_found : (x : List ℕ) (i : ℕ) (es : List TypeEntry) → RaiseTypes es → is_some (find_type x i es) ≡ true → unwrap_or (find_type x i es) (TyUnknown x i) ≡ TyUnknown x (i + n)
  type_found x i [] k e = absurd (cc)
  type_found x i (d ∷ ds) k e = go (name_eq x d.name && nat_eq i d.number) refl e (type_found x i ds k.1)
    where
      here : (name_eq x d.name && nat_eq i d.number) ≡ true → d.typ ≡ TyUnknown x (i + n)
      here h =
          let p = both_true (name_eq x d.name) (nat_eq i d.number) h in
          let y : x ≡ d.name = (bytes_decides x d.name).0 p.0 in
          let m : i ≡ d.number = (Decides-eqb i d.number).0 p.1 in
          k.0 ∙ (λ j. TyUnknown (sym y j) (sym m j + n))

      go : (b : Bool) → (name_eq x d.name && nat_eq i d.number) ≡ b → is_some (cond b (Some d.typ) (find_type x i ds)) ≡ true → (is_some (find_type x i ds) ≡ true → unwrap_or (find_type x i ds) (TyUnknown x i) ≡ TyUnknown x (i + n)) → unwrap_or (cond b (Some d.typ) (find_type x i ds)) (TyUnknown x i) ≡ TyUnknown x (i + n)
      go true h s r = here h
      go false h s r = r s

  -- each type unknown of the type has an entry
  abbrev mutual
    CoversType : List TypeEntry → Ty → Type 0
    CoversType es (TyCon x Ts) = CoverTypes es Ts
    CoversType es (TyFixed x) = Unit {0}
    CoversType es (TyUnknown x i) = is_some (find_type x i es) ≡ true

    CoverTypes : List TypeEntry → Tys → Type 0
    CoverTypes es NoTys = Unit {0}
    CoverTypes es (MoreTys T Ts) = CoversType es T × CoverTypes es Ts

  mutual
    type_is : (T : Ty) (es : List TypeEntry) → RaiseTypes es → CoversType es T → inst_ty es T ≡ renumbered_type n T
    type_is (TyCon x Ts) es k c = ap (TyCon x) (types_are Ts es k c)
    type_is (TyFixed x) es k c = refl
    type_is (TyUnknown x i) es k c = type_found x i es k c

    types_are : (Ts : Tys) (es : List TypeEntry) → RaiseTypes es → CoverTypes es Ts → inst_tys es Ts ≡ renumbered_types n Ts
    types_are NoTys es k c = refl
    types_are (MoreTys T Ts) es k c = λ i. MoreTys (type_is T es k c.0 i) (types_are Ts es k c.1 i)

  set_keeps : (x : List ℕ) (i : ℕ) (e : TypeEntry) (es : List TypeEntry) → is_some (find_type x i es) ≡ true → is_some (find_type x i (set_type e es)) ≡ true
  set_keeps x i e [] h = absurd (cc)
  set_keeps x i e (d ∷ ds) h = go (same_type_unknown e d) refl (λ r. set_keeps x i e ds r)
    where
      later : (b : Bool) → is_some (cond b (Some d.typ) (find_type x i ds)) ≡ true → (is_some (find_type x i ds) ≡ true → is_some (find_type x i (set_type e ds)) ≡ true) → is_some (cond b (Some d.typ) (find_type x i (set_type e ds))) ≡ true
      later true s r = refl
      later false s r = r s

      first : (b : Bool) → is_some (cond b (Some d.typ) (find_type x i ds)) ≡ true → is_some (cond b (Some e.typ) (find_type x i ds)) ≡ true
      first true s = refl
      first false s = s

      go : (b : Bool) → same_type_unknown e d ≡ b → (is_some (find_type x i ds) ≡ true → is_some (find_type x i (set_type e ds)) ≡ true) → is_some (find_type x i (cond b (e ∷ ds) (d ∷ set_type e ds))) ≡ true
      go true s r =
          let p = both_true (name_eq e.name d.name) (nat_eq e.number d.number) s in
          let y : e.name ≡ d.name = (bytes_decides e.name d.name).0 p.0 in
          let m : e.number ≡ d.number = (Decides-eqb e.number d.number).0 p.1 in
          first (name_eq x e.name && nat_eq i e.number) (ap (λ b. is_some (cond b (Some d.typ) (find_type x i ds))) (λ j. name_eq x (y j) && nat_eq i (m j)) ∙ h)
      go false s r = later (name_eq x d.name && nat_eq i d.number) h r

  key_same : (e : TypeEntry) → (name_eq e.name e.name && nat_eq e.number e.number) ≡ true
  key_same e = λ j. (bytes_decides e.name e.name).1 refl j && (Decides-eqb e.number e.number).1 refl j

  set_has : (e : TypeEntry) (es : List TypeEntry) → is_some (find_type e.name e.number (set_type e es)) ≡ true
  set_has e [] = ap (λ b. is_some (cond b (Some e.typ) None)) (key_same e)
  set_has e (d ∷ ds) = go (same_type_unknown e d) refl (set_has e ds)
    where
      go : (b : Bool) → same_type_unknown e d ≡ b → is_some (find_type e.name e.number (set_type e ds)) ≡ true → is_some (find_type e.name e.number (cond b (e ∷ ds) (d ∷ set_type e ds))) ≡ true
      go true s r = ap (λ b. is_some (cond b (Some e.typ) (find_type e.name e.number ds))) (key_same e)
      go false s r = ap (λ b. is_some (cond b (Some d.typ) (find_type e.name e.number (set_type e ds)))) s ∙ r

  mutual
    type_keeps : (x : List ℕ) (i : ℕ) (T : Ty) (es : List TypeEntry) → is_some (find_type x i es) ≡ true → is_some (find_type x i (type_numbers n T es)) ≡ true
    type_keeps x i (TyCon y Ts) es h = all_keep x i Ts es h
    type_keeps x i (TyFixed y) es h = h
    type_keeps x i (TyUnknown y j) es h = set_keeps x i (record { name = y; number = j; typ = TyUnknown y (j + n) }) es h

    all_keep : (x : List ℕ) (i : ℕ) (Ts : Tys) (es : List TypeEntry) → is_some (find_type x i es) ≡ true → is_some (find_type x i (all_type_numbers n Ts es)) ≡ true
    all_keep x i NoTys es h = h
    all_keep x i (MoreTys T Ts) es h = all_keep x i Ts (type_numbers n T es) (type_keeps x i T es h)

  types_keep : (x : List ℕ) (i : ℕ) (t : Tm) (es : List TypeEntry) → is_some (find_type x i es) ≡ true → is_some (find_type x i (numbers_in_types n t es)) ≡ true
  types_keep x i (Const y T) es h = type_keeps x i T es h
  types_keep x i (Free y T) es h = type_keeps x i T es h
  types_keep x i (Unknown y j T) es h = type_keeps x i T es h
  types_keep x i (Bound j) es h = h
  types_keep x i (Abs y T b) es h = types_keep x i b (type_numbers n T es) (type_keeps x i T es h)
  types_keep x i (App f a) es h = types_keep x i a (numbers_in_types n f es) (types_keep x i f es h)

  -- what is covered by some entries is covered by those that keep them
  abbrev Keeps : List TypeEntry → List TypeEntry → Type 0
  Keeps ds es = (x : List ℕ) (i : ℕ) → is_some (find_type x i ds) ≡ true → is_some (find_type x i es) ≡ true

  mutual
    more_type : (T : Ty) (ds es : List TypeEntry) → Keeps ds es → CoversType ds T → CoversType es T
    more_type (TyCon x Ts) ds es k c = more_types Ts ds es k c
    more_type (TyFixed x) ds es k c = tt
    more_type (TyUnknown x i) ds es k c = k x i c

    more_types : (Ts : Tys) (ds es : List TypeEntry) → Keeps ds es → CoverTypes ds Ts → CoverTypes es Ts
    more_types NoTys ds es k c = tt
    more_types (MoreTys T Ts) ds es k c = (more_type T ds es k c.0, more_types Ts ds es k c.1)

  mutual
    type_covered : (T : Ty) (es : List TypeEntry) → CoversType (type_numbers n T es) T
    type_covered (TyCon x Ts) es = all_covered Ts es
    type_covered (TyFixed x) es = tt
    type_covered (TyUnknown x i) es = set_has (record { name = x; number = i; typ = TyUnknown x (i + n) }) es

    all_covered : (Ts : Tys) (es : List TypeEntry) → CoverTypes (all_type_numbers n Ts es) Ts
    all_covered NoTys es = tt
    all_covered (MoreTys T Ts) es = (more_type T (type_numbers n T es) (all_type_numbers n Ts (type_numbers n T es)) (λ x i h. all_keep x i Ts (type_numbers n T es) h) (type_covered T es), all_covered Ts (type_numbers n T es))

  -- each type of the term is covered
  abbrev CoversIn : List TypeEntry → Tm → Type 0
  CoversIn es (Const x T) = CoversType es T
  CoversIn es (Free x T) = CoversType es T
  CoversIn es (Unknown x i T) = CoversType es T
  CoversIn es (Bound i) = Unit {0}
  CoversIn es (Abs x T b) = CoversType es T × CoversIn es b
  CoversIn es (App f a) = CoversIn es f × CoversIn es a

  more_in : (t : Tm) (ds es : List TypeEntry) → Keeps ds es → CoversIn ds t → CoversIn es t
  more_in (Const x T) ds es k c = more_type T ds es k c
  more_in (Free x T) ds es k c = more_type T ds es k c
  more_in (Unknown x i T) ds es k c = more_type T ds es k c
  more_in (Bound i) ds es k c = tt
  more_in (Abs x T b) ds es k c = (more_type T ds es k c.0, more_in b ds es k c.1)
  more_in (App f a) ds es k c = (more_in f ds es k c.0, more_in a ds es k c.1)

  covered_in : (t : Tm) (es : List TypeEntry) → CoversIn (numbers_in_types n t es) t
  covered_in (Const x T) es = type_covered T es
  covered_in (Free x T) es = type_covered T es
  covered_in (Unknown x i T) es = type_covered T es
  covered_in (Bound i) es = tt
  covered_in (Abs x T b) es = (more_type T (type_numbers n T es) (numbers_in_types n b (type_numbers n T es)) (λ y i h. types_keep y i b (type_numbers n T es) h) (type_covered T es), covered_in b (type_numbers n T es))
  covered_in (App f a) es = (more_in f (numbers_in_types n f es) (numbers_in_types n a (numbers_in_types n f es)) (λ y i h. types_keep y i a (numbers_in_types n f es) h) (covered_in f es), covered_in a (numbers_in_types n f es))

  -- ---- unknowns
  module _ (es : List TypeEntry) (raise : RaiseTypes es) where
    -- each entry raises its number, and the types of its unknown are covered
    abbrev RaiseTerms : List TermEntry → Type 0
    RaiseTerms [] = Unit {0}
    RaiseTerms (f ∷ fs) = ((f.term ≡ Unknown f.name (f.number + n) (renumbered_type n f.typ)) × CoversType es f.typ) × RaiseTerms fs

    set_raises_term : (f : TermEntry) (fs : List TermEntry) → (f.term ≡ Unknown f.name (f.number + n) (renumbered_type n f.typ)) × CoversType es f.typ → RaiseTerms fs → RaiseTerms (set_term f fs)
    set_raises_term f [] h k = (h, tt)
    set_raises_term f (g ∷ gs) h k = go (same_unknown f g) (set_raises_term f gs h k.1)
      where
        go : (b : Bool) → RaiseTerms (set_term f gs) → RaiseTerms (cond b (f ∷ gs) (g ∷ set_term f gs))
        go true r = (h, k.1)
        go false r = (k.0, r)

    terms_raise : (t : Tm) (fs : List TermEntry) → CoversIn es t → RaiseTerms fs → RaiseTerms (numbers_in n t fs)
    terms_raise (Const x T) fs c k = k
    terms_raise (Free x T) fs c k = k
    terms_raise (Unknown x i T) fs c k = set_raises_term (record { name = x; number = i; typ = T; term = Unknown x (i + n) (renumbered_type n T) }) fs (refl, c) k
    terms_raise (Bound i) fs c k = k
    terms_raise (Abs x T b) fs c k = terms_raise b fs c.1 k
    terms_raise (App f a) fs c k = terms_raise a (numbers_in n f fs) c.1 (terms_raise f fs c.0 k)

    terms_keep : (fs : List TermEntry) → RaiseTerms fs → keeps es fs ≡ true
    terms_keep [] k = refl
    terms_keep (f ∷ fs) k =
        let h : HasType f.term (renumbered_type n f.typ) = subst (λ t. HasType t (renumbered_type n f.typ)) (sym k.0.0) refl in
        let e : has_type f.term (inst_ty es f.typ) ≡ true = ap (λ r. typed_as r (inst_ty es f.typ)) h ∙ ap (λ T. ty_eq (renumbered_type n f.typ) T) (type_is f.typ es raise k.0.1) ∙ (ty_decides (renumbered_type n f.typ) (renumbered_type n f.typ)).1 refl in
        λ i. e i && terms_keep fs k.1 i

    term_found : (x : List ℕ) (i : ℕ) (T : Ty) (fs : List TermEntry) → RaiseTerms fs → is_some (find_term x i T fs) ≡ true → unwrap_or (find_term x i T fs) (Unknown x i (inst_ty es T)) ≡ Unknown x (i + n) (renumbered_type n T)
    term_found x i T [] k e = absurd (cc)
    term_found x i T (f ∷ fs) k e = go (name_eq x f.name && (nat_eq i f.number && ty_eq T f.typ)) refl e (term_found x i T fs k.1)
      where
        here : (name_eq x f.name && (nat_eq i f.number && ty_eq T f.typ)) ≡ true → f.term ≡ Unknown x (i + n) (renumbered_type n T)
        here h =
            let p = both_true (name_eq x f.name) (nat_eq i f.number && ty_eq T f.typ) h in
            let q = both_true (nat_eq i f.number) (ty_eq T f.typ) p.1 in
            let y : x ≡ f.name = (bytes_decides x f.name).0 p.0 in
            let m : i ≡ f.number = (Decides-eqb i f.number).0 q.0 in
            let w : T ≡ f.typ = (ty_decides T f.typ).0 q.1 in
            k.0.0 ∙ (λ j. Unknown (sym y j) (sym m j + n) (renumbered_type n (sym w j)))

        go : (b : Bool) → (name_eq x f.name && (nat_eq i f.number && ty_eq T f.typ)) ≡ b → is_some (cond b (Some f.term) (find_term x i T fs)) ≡ true → (is_some (find_term x i T fs) ≡ true → unwrap_or (find_term x i T fs) (Unknown x i (inst_ty es T)) ≡ Unknown x (i + n) (renumbered_type n T)) → unwrap_or (cond b (Some f.term) (find_term x i T fs)) (Unknown x i (inst_ty es T)) ≡ Unknown x (i + n) (renumbered_type n T)
        go true h s r = here h
        go false h s r = r s

    -- each unknown of the term has an entry
    abbrev Covers : List TermEntry → Tm → Type 0
    Covers fs (Unknown x i T) = is_some (find_term x i T fs) ≡ true
    Covers fs (Abs x T b) = Covers fs b
    Covers fs (App f a) = Covers fs f × Covers fs a
    Covers fs _ = Unit {0}

    more_terms : (x : List ℕ) (i : ℕ) (T : Ty) (t : Tm) (fs : List TermEntry) → is_some (find_term x i T fs) ≡ true → is_some (find_term x i T (numbers_in n t fs)) ≡ true
    more_terms x i T (Const y S) fs e = e
    more_terms x i T (Free y S) fs e = e
    more_terms x i T (Unknown y j S) fs e = term_set_keeps x i T (record { name = y; number = j; typ = S; term = Unknown y (j + n) (renumbered_type n S) }) fs e
    more_terms x i T (Bound m) fs e = e
    more_terms x i T (Abs y S b) fs e = more_terms x i T b fs e
    more_terms x i T (App f a) fs e = more_terms x i T a (numbers_in n f fs) (more_terms x i T f fs e)

    more_covers : (u t : Tm) (fs : List TermEntry) → Covers fs u → Covers (numbers_in n t fs) u
    more_covers (Const y S) t fs c = tt
    more_covers (Free y S) t fs c = tt
    more_covers (Unknown y j S) t fs c = more_terms y j S t fs c
    more_covers (Bound m) t fs c = tt
    more_covers (Abs y S b) t fs c = more_covers b t fs c
    more_covers (App f a) t fs c = (more_covers f t fs c.0, more_covers a t fs c.1)

    terms_covered : (t : Tm) (fs : List TermEntry) → Covers (numbers_in n t fs) t
    terms_covered (Const y S) fs = tt
    terms_covered (Free y S) fs = tt
    terms_covered (Unknown y j S) fs = term_set_has (record { name = y; number = j; typ = S; term = Unknown y (j + n) (renumbered_type n S) }) fs
    terms_covered (Bound m) fs = tt
    terms_covered (Abs y S b) fs = terms_covered b fs
    terms_covered (App f a) fs = (more_covers f a (numbers_in n f fs) (terms_covered f fs), terms_covered a (numbers_in n f fs))

    term_is : (t : Tm) (fs : List TermEntry) → CoversIn es t → RaiseTerms fs → Covers fs t → inst_tm es fs t ≡ renumbered n t
    term_is (Const x T) fs c k v = ap (Const x) (type_is T es raise c)
    term_is (Free x T) fs c k v = ap (Free x) (type_is T es raise c)
    term_is (Unknown x i T) fs c k v = term_found x i T fs k v
    term_is (Bound i) fs c k v = refl
    term_is (Abs x T b) fs c k v = λ i. Abs x (type_is T es raise c.0 i) (term_is b fs c.1 k v i)
    term_is (App f a) fs c k v = λ i. App (term_is f fs c.0 k v.0 i) (term_is a fs c.1 k v.1 i)

  -- ---- normal forms
  loose_kept : (k : ℕ) (t : Tm) → loose k (renumbered n t) ≡ loose k t
  loose_kept k (Const x T) = refl
  loose_kept k (Free x T) = refl
  loose_kept k (Unknown x i T) = refl
  loose_kept k (Bound m) = refl
  loose_kept k (Abs x T b) = loose_kept (k + 1) b
  loose_kept k (App f a) = λ i. loose_kept k f i || loose_kept k a i

  redex_kept : (b : Tm) → redex (renumbered n b) ≡ redex b
  redex_kept (App f (Bound i)) = ap (λ v. nat_eq i 0 && not v) (loose_kept 0 f)
  redex_kept (App f (Const x T)) = refl
  redex_kept (App f (Free x T)) = refl
  redex_kept (App f (Unknown x i T)) = refl
  redex_kept (App f (Abs x T b)) = refl
  redex_kept (App f (App g a)) = refl
  redex_kept (Const x T) = refl
  redex_kept (Free x T) = refl
  redex_kept (Unknown x i T) = refl
  redex_kept (Bound m) = refl
  redex_kept (Abs x T b) = refl

  head_kept : (t : Tm) → IsHead t → IsHead (renumbered n t)
  head_kept (Const x T) h = tt
  head_kept (Free x T) h = tt
  head_kept (Unknown x i T) h = tt
  head_kept (Bound m) h = tt
  head_kept (Abs x T b) h = absurd h
  head_kept (App f a) h = tt

  normal_kept : (t : Tm) → IsNormal t → IsNormal (renumbered n t)
  normal_kept (Const x T) h = tt
  normal_kept (Free x T) h = tt
  normal_kept (Unknown x i T) h = tt
  normal_kept (Bound m) h = tt
  normal_kept (Abs x T b) h = (normal_kept b h.0, redex_kept b ∙ h.1)
  normal_kept (App f a) h = (head_kept f h.0, (normal_kept f h.1.0, normal_kept a h.1.1))

-- ---- the rule
pub renumbered_instance : (n : ℕ) (th : Theorem) → th.hyps ≡ [] → IsNormal th.prop → instantiated (record { types = numbers_in_types n th.prop []; terms = numbers_in n th.prop [] }) th ≡ Some (renumbered_rule n th)
renumbered_instance n th h m =
    let es : List TypeEntry = numbers_in_types n th.prop [] in
    let fs : List TermEntry = numbers_in n th.prop [] in
    let r = types_raise n th.prop [] tt in
    let c = covered_in n th.prop [] in
    let k = terms_raise n es r th.prop [] c tt in
    let made : norm (inst_tm es fs th.prop) ≡ renumbered n th.prop = ap norm (term_is n es r th.prop fs c k (terms_covered n es r th.prop [])) ∙ norm_same (renumbered n th.prop) (normal_kept n th.prop m) in
    (λ i. instantiated (record { types = es; terms = fs }) (record { hyps = h i; prop = th.prop; base = th.base }))
    ∙ ap (λ b. cond (b && true) (Some (record { hyps = []; prop = norm (inst_tm es fs th.prop); base = th.base })) None) (terms_keep n es r fs k)
    ∙ ap (λ p. Some (record { hyps = []; prop = p; base = th.base })) made

empty_list : (ts : List Tm) → length ts ≡ 0 → ts ≡ []
empty_list [] l = refl
empty_list (t ∷ ts) l = absurd (omega (arith, l))

renumbered_gives : (n : ℕ) (th : Theorem) → th.hyps ≡ [] → IsNormal th.prop → renumbered_by n th ≡ Some (renumbered_rule n th)
unfolding renumbered_by
renumbered_gives n th h m = ap (λ o. option_and_then {T = Theorem} {U = Theorem} (λ x. renamed (renumbered n th.prop) x) o) (renumbered_instance n th h m) ∙ renamed_same (renumbered n th.prop) (renumbered n th.prop) [] th.base refl

-- ---- the answers of the call
pub renumbers : (n : ℕ) (th : Theorem) (answer : Result Theorem InferenceError) → Answers answer (renumbered_by n th) → Renumbers n th answer
renumbers n th answer a = λ h m. subst (λ (o : Option Theorem). Answers answer o) (renumbered_gives n th h m) a

pub renumbers_none : (n : ℕ) (th : Theorem) (answer : Result Theorem InferenceError) → 0 < length th.hyps → Renumbers n th answer
renumbers_none n th answer l = λ h m. absurd (omega (arith, l, ap length h))

pub renumbered_theorem : (n : ℕ) (th : Theorem) (answer : Result Theorem InferenceError) → Answers answer (renumbered_by n th) → length th.hyps ≡ 0 → IfOk answer (λ x. x ≡ renumbered_rule n th)
unfolding renumbered_by
renumbered_theorem n th (Ok x) a l =
    let r = bind_some (instantiated (record { types = numbers_in_types n th.prop []; terms = numbers_in n th.prop [] }) th) _ a in
    let k = instantiated_keeps (record { types = numbers_in_types n th.prop []; terms = numbers_in n th.prop [] }) th r.0 r.1 in
    let q = renamed_is (renumbered n th.prop) r.0 x r.2 in
    q ∙ (λ i. record { hyps = (k.1 ∙ empty_list th.hyps l) i; prop = renumbered n th.prop; base = k.0 i })
renumbered_theorem n th (Err e) a l = tt
