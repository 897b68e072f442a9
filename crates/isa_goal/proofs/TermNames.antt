-- The names that unknowns get: each gets the one of its number, and no two get the same.
use Rattle.std.proofs.Common.{◌≡◌, ℕ, ◌+◌, ◌^◌, ◌<◌, ◌≤◌, arith, List, [], ◌∷◌, ◌++◌, map, drop, length, Bool, true, false, cond, ◌&&◌, ◌||◌, nat_eq, Option, Some, None, unwrap_or, refl, ap, ◌∙◌, sym, subst}
use Rattle.std.proofs.lemmas.Bool.Decides.{Decides-eqb}
use Rattle.std.proofs.lemmas.Fmt.{decimal_injective}
use Rattle.std.proofs.lemmas.List.{map-append}
use Rattle.std.specs.Cmp.Lexicographic.{bytes_decides}
use Rattle.isa_terms.specs.Types.{Ty, TyFixed}
use Rattle.isa_terms.specs.Terms.{Tm, Const, Free, Unknown, Bound, Abs, App, bare}
use Rattle.isa_terms.specs.Equal.{name_eq, ty_eq, tm_eq}
use Rattle.isa_terms.specs.Generalize.{is_named}
use Rattle.isa_terms.specs.Instance.{find_term, inst_ty, inst_tm, set_term, same_unknown}
use Rattle.isa_terms.specs.Unknowns.{unknown_places, all_unknown_places, type_unknown_places, all_type_unknown_places, ty_unknown_places, all_noted}
use Rattle.isa_terms.specs.declared.inst.TypeEntry.{TypeEntry}
use Rattle.isa_terms.specs.declared.inst.TermEntry.{TermEntry}
use Rattle.isa_terms.proofs.Equal.{ty_decides}
use Rattle.isa_terms.proofs.Bare.{tm_decides}
use Rattle.isa_goal.specs.Names.{next_number, numbered, entries, set_terms, free_places, fixed_places, ty_fixed_places}
use Rattle.isa_goal.specs.Private.Numbers.{StayTypes, StayTerms, TermNumbersFit}
use Rattle.isa_goal.proofs.Unknowns.{IsTypeUnknown, RenamesTypes, type_renamed, IsUnknown}
use Rattle.isa_goal.proofs.Noting.{EachOf, holds, neither, Distinct, noted_all, all_noted_is, noted_distinct, noted_each, are_noted, noted_mapped, each_join, each_both}
use Rattle.isa_goal.proofs.TypeNames.{among_least, type_stays, type_places, fixed_renamed, type_kinds}

number_least : (names : List (List ℕ)) (n : ℕ) → n ≤ next_number names n
unfolding next_number
number_least names n = among_least (length names) (λ m. is_named names (numbered m)) n

pub number_same : (m n : ℕ) → m < 2 ^ 64 → n < 2 ^ 64 → numbered m ≡ numbered n → m ≡ n
unfolding numbered
number_same m n l k e = decimal_injective m n l k (ap (drop 1) e)

-- the type of an unknown, and its name
abbrev pub typ_of : Tm → Ty
typ_of (Unknown x i T) = T
typ_of _ = TyFixed []

abbrev pub name_of : Tm → List ℕ
name_of (Unknown x i T) = x
name_of _ = []

bare_of : (u : Tm) → IsUnknown u → bare u ≡ u
bare_of (Unknown x i T) k = refl
bare_of (Const x T) k = absurd k
bare_of (Free x T) k = absurd k
bare_of (Bound i) k = absurd k
bare_of (Abs x T b) k = absurd k
bare_of (App f a) k = absurd k

pub tm_yes : (t u : Tm) → IsUnknown t → IsUnknown u → tm_eq t u ≡ true → t ≡ u
tm_yes t u k l e = sym (bare_of t k) ∙ (tm_decides t u).0 e ∙ bare_of u l

pub tm_itself : (t : Tm) → IsUnknown t → tm_eq t t ≡ true
tm_itself t k = (tm_decides t t).1 refl

tm_turned : (t u : Tm) → tm_eq t u ≡ false → tm_eq u t ≡ false
tm_turned t u e = go (tm_eq u t) refl
  where
    go : (v : Bool) → tm_eq u t ≡ v → v ≡ false
    go false s = refl
    go true s = let r : tm_eq t u ≡ true = (tm_decides t u).1 (sym ((tm_decides u t).0 s)) in cc

-- ---- one entry
abbrev key : TermEntry → Tm
key f = Unknown f.name f.number f.typ

set_here : (f : TermEntry) (fs : List TermEntry) → find_term f.name f.number f.typ (set_term f fs) ≡ Some f.term
set_here f [] = ap (λ b. cond b (Some f.term) None) (tm_itself (key f) tt)
set_here f (d ∷ ds) = go (same_unknown f d) refl (set_here f ds)
  where
    go : (b : Bool) → same_unknown f d ≡ b → find_term f.name f.number f.typ (set_term f ds) ≡ Some f.term → find_term f.name f.number f.typ (cond b (f ∷ ds) (d ∷ set_term f ds)) ≡ Some f.term
    go true s r = ap (λ b. cond b (Some f.term) (find_term f.name f.number f.typ ds)) (tm_itself (key f) tt)
    go false s r = ap (λ b. cond b (Some d.term) (find_term f.name f.number f.typ (set_term f ds))) s ∙ r

set_apart : (x : List ℕ) (i : ℕ) (T : Ty) (f : TermEntry) (fs : List TermEntry) → tm_eq (Unknown x i T) (key f) ≡ false → find_term x i T (set_term f fs) ≡ find_term x i T fs
set_apart x i T f [] k = ap (λ b. cond b (Some f.term) None) k
set_apart x i T f (d ∷ ds) k = go (same_unknown f d) refl (set_apart x i T f ds k)
  where
    go : (b : Bool) → same_unknown f d ≡ b → find_term x i T (set_term f ds) ≡ find_term x i T ds → find_term x i T (cond b (f ∷ ds) (d ∷ set_term f ds)) ≡ cond (tm_eq (Unknown x i T) (key d)) (Some d.term) (find_term x i T ds)
    go true s r =
        let same : key f ≡ key d = tm_yes (key f) (key d) tt tt s in
        let other : tm_eq (Unknown x i T) (key d) ≡ false = subst (λ u. tm_eq (Unknown x i T) u ≡ false) same k in
        ap (λ b. cond b (Some f.term) (find_term x i T ds)) k ∙ sym (ap (λ b. cond b (Some d.term) (find_term x i T ds)) other)
    go false s r = ap (λ o. cond (tm_eq (Unknown x i T) (key d)) (Some d.term) o) r

-- ---- the entries in their order
module _ (es : List TypeEntry) where
  sets_apart : (x : List ℕ) (i : ℕ) (T : Ty) (names : List (List ℕ)) (n : ℕ) (us : List Tm) (fs : List TermEntry) → holds tm_eq us (Unknown x i T) ≡ false → find_term x i T (set_terms (entries es names n us) fs) ≡ find_term x i T fs
  unfolding entries
  sets_apart x i T names n [] fs h = refl
  sets_apart x i T names n (Unknown y j U ∷ us) fs h =
      let k = neither (tm_eq (Unknown y j U) (Unknown x i T)) (holds tm_eq us (Unknown x i T)) h in
      let m : ℕ = next_number names n in
      let f : TermEntry = record { name = y; number = j; typ = U; term = Unknown (numbered m) 0 (inst_ty es U) } in
      sets_apart x i T names (m + 1) us (set_term f fs) k.1 ∙ set_apart x i T f fs (tm_turned (Unknown y j U) (Unknown x i T) k.0)
  sets_apart x i T names n (Const y U ∷ us) fs h = sets_apart x i T names n us fs h
  sets_apart x i T names n (Free y U ∷ us) fs h = sets_apart x i T names n us fs h
  sets_apart x i T names n (Bound j ∷ us) fs h = sets_apart x i T names n us fs (neither (tm_eq (Bound j) (Unknown x i T)) (holds tm_eq us (Unknown x i T)) h).1
  sets_apart x i T names n (Abs y U b ∷ us) fs h = sets_apart x i T names n us fs h
  sets_apart x i T names n (App f a ∷ us) fs h = sets_apart x i T names n us fs h

  -- each of the unknowns gets the name of its number, at the instance of its type
  abbrev pub TermsFrom : List TermEntry → List (List ℕ) → ℕ → List Tm → Type 0
  TermsFrom fs names n [] = Unit {0}
  TermsFrom fs names n (u ∷ us) = (inst_tm es fs u ≡ Unknown (numbered (next_number names n)) 0 (inst_ty es (typ_of u))) × TermsFrom fs names (next_number names n + 1) us

  pub terms_from : (names : List (List ℕ)) (n : ℕ) (us : List Tm) (fs : List TermEntry) → EachOf IsUnknown us → Distinct tm_eq us → TermsFrom (set_terms (entries es names n us) fs) names n us
  unfolding entries
  terms_from names n [] fs k d = tt
  terms_from names n (Unknown x i T ∷ us) fs k d =
      let m : ℕ = next_number names n in
      let f : TermEntry = record { name = x; number = i; typ = T; term = Unknown (numbered m) 0 (inst_ty es T) } in
      (ap (λ o. unwrap_or o (Unknown x i (inst_ty es T))) (sets_apart x i T names (m + 1) us (set_term f fs) d.0 ∙ set_here f fs), terms_from names (m + 1) us (set_term f fs) k.1 d.1)
  terms_from names n (Const x T ∷ us) fs k d = absurd (k.0)
  terms_from names n (Free x T ∷ us) fs k d = absurd (k.0)
  terms_from names n (Bound i ∷ us) fs k d = absurd (k.0)
  terms_from names n (Abs x T b ∷ us) fs k d = absurd (k.0)
  terms_from names n (App f a ∷ us) fs k d = absurd (k.0)

-- the numbers are below 2 ^ 64
abbrev pub TermsFit : List (List ℕ) → ℕ → List Tm → Type 0
TermsFit names n [] = Unit {0}
TermsFit names n (u ∷ us) = (next_number names n < 2 ^ 64) × TermsFit names (next_number names n + 1) us

pub terms_fit : (names : List (List ℕ)) (n : ℕ) (us : List Tm) → EachOf IsUnknown us → TermNumbersFit names n us → TermsFit names n us
terms_fit names n [] k l = tt
terms_fit names n (Unknown x i T ∷ us) k l = (l.0, terms_fit names (next_number names n + 1) us k.1 l.1)
terms_fit names n (Const x T ∷ us) k l = absurd (k.0)
terms_fit names n (Free x T ∷ us) k l = absurd (k.0)
terms_fit names n (Bound i ∷ us) k l = absurd (k.0)
terms_fit names n (Abs x T b ∷ us) k l = absurd (k.0)
terms_fit names n (App f a ∷ us) k l = absurd (k.0)

pub record IsNumbered (es : List TypeEntry) (fs : List TermEntry) (n : ℕ) (t : Tm) : Type 0 where
  pub number : ℕ
  pub least : n ≤ number
  pub fits : number < 2 ^ 64
  pub gives : inst_tm es fs t ≡ Unknown (numbered number) 0 (inst_ty es (typ_of t))

module _ (es : List TypeEntry) (fs : List TermEntry) (names : List (List ℕ)) where
  pub term_number : (n : ℕ) (us : List Tm) (t : Tm) → EachOf IsUnknown us → IsUnknown t → TermsFrom es fs names n us → TermsFit names n us → holds tm_eq us t ≡ true → IsNumbered es fs n t
  term_number n [] t ks k f l h = absurd (cc)
  term_number n (u ∷ us) t ks k f l h = go (tm_eq u t) refl h (λ r. term_number (next_number names n + 1) us t ks.1 k f.1 l.1 r)
    where
      go : (b : Bool) → tm_eq u t ≡ b → (b || holds tm_eq us t) ≡ true → (holds tm_eq us t ≡ true → IsNumbered es fs (next_number names n + 1) t) → IsNumbered es fs n t
      go true s r q = record { number = next_number names n; least = number_least names n; fits = l.0; gives = subst (λ v. inst_tm es fs v ≡ Unknown (numbered (next_number names n)) 0 (inst_ty es (typ_of v))) (tm_yes u t ks.0 k s) f.0 }
      go false s r q = let z = q r in let le : n ≤ next_number names n = number_least names n in record { number = z.number; least = omega (arith, le, z.least); fits = z.fits; gives = z.gives }

  terms_clash : (n : ℕ) (t u : Tm) (m : ℕ) → m < 2 ^ 64 → m < n → name_of (inst_tm es fs t) ≡ numbered m → IsNumbered es fs n u → name_of (inst_tm es fs t) ≡ name_of (inst_tm es fs u) → ⊥
  terms_clash n t u m l lt g k e =
      let q : numbered m ≡ numbered k.number = sym g ∙ e ∙ ap name_of k.gives in
      let r : m ≡ k.number = number_same m k.number l k.fits q in
      omega (arith, r, k.least, lt)

  -- no two of them get the same name
  pub terms_apart : (n : ℕ) (us : List Tm) (t u : Tm) → EachOf IsUnknown us → IsUnknown t → IsUnknown u → TermsFrom es fs names n us → TermsFit names n us → holds tm_eq us t ≡ true → holds tm_eq us u ≡ true → name_of (inst_tm es fs t) ≡ name_of (inst_tm es fs u) → t ≡ u
  terms_apart n [] t u ks a b f l h k e = absurd (cc)
  terms_apart n (v ∷ us) t u ks a b f l h k e = go (tm_eq v t) (tm_eq v u) refl refl h k (λ p q. terms_apart (next_number names n + 1) us t u ks.1 a b f.1 l.1 p q e)
    where
      first : (w : Tm) → IsUnknown w → tm_eq v w ≡ true → name_of (inst_tm es fs w) ≡ numbered (next_number names n)
      first w c s = subst (λ x. name_of (inst_tm es fs x) ≡ numbered (next_number names n)) (tm_yes v w ks.0 c s) (ap name_of f.0)

      go : (c d : Bool) → tm_eq v t ≡ c → tm_eq v u ≡ d → (c || holds tm_eq us t) ≡ true → (d || holds tm_eq us u) ≡ true → (holds tm_eq us t ≡ true → holds tm_eq us u ≡ true → t ≡ u) → t ≡ u
      go true true s z p q r = sym (tm_yes v t ks.0 a s) ∙ tm_yes v u ks.0 b z
      go true false s z p q r = absurd (terms_clash (next_number names n + 1) t u (next_number names n) l.0 (omega arith) (first t a s) (term_number (next_number names n + 1) us u ks.1 b f.1 l.1 q) e)
      go false true s z p q r = absurd (terms_clash (next_number names n + 1) u t (next_number names n) l.0 (omega arith) (first u b z) (term_number (next_number names n + 1) us t ks.1 a f.1 l.1 p) (sym e))
      go false false s z p q r = r p q

-- ---- what is named so keeps its name
-- named by entries that change no type
pub named_terms_stay : (es ds : List TypeEntry) (fs : List TermEntry) (names : List (List ℕ)) (n : ℕ) (us : List Tm) → StayTypes ds → TermsFrom es fs names n us → StayTerms (entries ds names n (map (inst_tm es fs) us))
unfolding entries
named_terms_stay es ds fs names n [] st f = tt
named_terms_stay es ds fs names n (u ∷ us) st f =
    subst (λ t. StayTerms (entries ds names n (t ∷ map (inst_tm es fs) us))) (sym f.0)
    (ap (Unknown (numbered (next_number names n)) 0) (type_stays ds st (inst_ty es (typ_of u))), named_terms_stay es ds fs names (next_number names n + 1) us st f.1)

set_stay : (f : TermEntry) (fs : List TermEntry) → f.term ≡ Unknown f.name f.number f.typ → StayTerms fs → StayTerms (set_term f fs)
set_stay f [] h k = (h, tt)
set_stay f (d ∷ ds) h k = go (same_unknown f d) (set_stay f ds h k.1)
  where
    go : (b : Bool) → StayTerms (set_term f ds) → StayTerms (cond b (f ∷ ds) (d ∷ set_term f ds))
    go true r = (h, k.1)
    go false r = (k.0, r)

pub sets_stay : (gs fs : List TermEntry) → StayTerms gs → StayTerms fs → StayTerms (set_terms gs fs)
sets_stay [] fs h k = k
sets_stay (g ∷ gs) fs h k = sets_stay gs (set_term g fs) h.1 (set_stay g fs h.0 k)

module _ (es : List TypeEntry) (fs : List TermEntry) (st : StayTypes es) (sf : StayTerms fs) where
  unknown_stays : (x : List ℕ) (i : ℕ) (T : Ty) → inst_tm es fs (Unknown x i T) ≡ Unknown x i T
  unknown_stays x i T = go fs sf
    where
      one : (f : TermEntry) (o : Option Tm) (b : Bool) → tm_eq (Unknown x i T) (key f) ≡ b → f.term ≡ key f → unwrap_or o (Unknown x i (inst_ty es T)) ≡ Unknown x i T → unwrap_or (cond b (Some f.term) o) (Unknown x i (inst_ty es T)) ≡ Unknown x i T
      one f o true s h r = h ∙ sym (tm_yes (Unknown x i T) (key f) tt tt s)
      one f o false s h r = r

      go : (ds : List TermEntry) → StayTerms ds → inst_tm es ds (Unknown x i T) ≡ Unknown x i T
      go [] h = ap (Unknown x i) (type_stays es st T)
      go (f ∷ ds) h = one f (find_term x i T ds) (tm_eq (Unknown x i T) (key f)) refl h.0 (go ds h.1)

  -- an instance that gives each unknown itself changes nothing
  pub term_stays : (t : Tm) → inst_tm es fs t ≡ t
  term_stays (Const x T) = ap (Const x) (type_stays es st T)
  term_stays (Free x T) = ap (Free x) (type_stays es st T)
  term_stays (Unknown x i T) = unknown_stays x i T
  term_stays (Bound i) = refl
  term_stays (Abs x T b) = λ i. Abs x (type_stays es st T i) (term_stays b i)
  term_stays (App f a) = λ i. App (term_stays f i) (term_stays a i)

-- ---- the places of the instance of a term
-- the entries give unknowns of the instances of the types
abbrev pub Retypes : List TypeEntry → List TermEntry → Type 0
Retypes es [] = Unit {0}
Retypes es (f ∷ fs) = (IsUnknown f.term × (typ_of f.term ≡ inst_ty es f.typ)) × Retypes es fs

pub entries_retype : (es : List TypeEntry) (names : List (List ℕ)) (n : ℕ) (us : List Tm) → Retypes es (entries es names n us)
unfolding entries
entries_retype es names n [] = tt
entries_retype es names n (Unknown x i T ∷ us) = ((tt, refl), entries_retype es names (next_number names n + 1) us)
entries_retype es names n (Const x T ∷ us) = entries_retype es names n us
entries_retype es names n (Free x T ∷ us) = entries_retype es names n us
entries_retype es names n (Bound i ∷ us) = entries_retype es names n us
entries_retype es names n (Abs x T b ∷ us) = entries_retype es names n us
entries_retype es names n (App f a ∷ us) = entries_retype es names n us

set_retypes : (es : List TypeEntry) (f : TermEntry) (fs : List TermEntry) → IsUnknown f.term × (typ_of f.term ≡ inst_ty es f.typ) → Retypes es fs → Retypes es (set_term f fs)
set_retypes es f [] h k = (h, tt)
set_retypes es f (d ∷ ds) h k = go (same_unknown f d) (set_retypes es f ds h k.1)
  where
    go : (b : Bool) → Retypes es (set_term f ds) → Retypes es (cond b (f ∷ ds) (d ∷ set_term f ds))
    go true r = (h, k.1)
    go false r = (k.0, r)

pub sets_retype : (es : List TypeEntry) (gs fs : List TermEntry) → Retypes es gs → Retypes es fs → Retypes es (set_terms gs fs)
sets_retype es [] fs h k = k
sets_retype es (g ∷ gs) fs h k = sets_retype es gs (set_term g fs) h.1 (set_retypes es g fs h.0 k)

module _ (es : List TypeEntry) (fs : List TermEntry) (hs : RenamesTypes es) (rf : Retypes es fs) where
  pub retyped : (x : List ℕ) (i : ℕ) (T : Ty) → IsUnknown (inst_tm es fs (Unknown x i T)) × (typ_of (inst_tm es fs (Unknown x i T)) ≡ inst_ty es T)
  retyped x i T = go fs rf
    where
      one : (f : TermEntry) (o : Option Tm) (b : Bool) → tm_eq (Unknown x i T) (key f) ≡ b → IsUnknown f.term × (typ_of f.term ≡ inst_ty es f.typ) → IsUnknown (unwrap_or o (Unknown x i (inst_ty es T))) × (typ_of (unwrap_or o (Unknown x i (inst_ty es T))) ≡ inst_ty es T) →
          IsUnknown (unwrap_or (cond b (Some f.term) o) (Unknown x i (inst_ty es T))) × (typ_of (unwrap_or (cond b (Some f.term) o) (Unknown x i (inst_ty es T))) ≡ inst_ty es T)
      one f o true s h r = (h.0, h.1 ∙ ap (inst_ty es) (sym (ap typ_of (tm_yes (Unknown x i T) (key f) tt tt s))))
      one f o false s h r = r

      go : (ds : List TermEntry) → Retypes es ds → IsUnknown (inst_tm es ds (Unknown x i T)) × (typ_of (inst_tm es ds (Unknown x i T)) ≡ inst_ty es T)
      go [] h = (tt, refl)
      go (f ∷ ds) h = one f (find_term x i T ds) (tm_eq (Unknown x i T) (key f)) refl h.0 (go ds h.1)

  of_unknown : (u : Tm) → IsUnknown u → (unknown_places u ≡ u ∷ []) × (type_unknown_places u ≡ ty_unknown_places (typ_of u)) × (free_places u ≡ []) × (fixed_places u ≡ ty_fixed_places (typ_of u))
  of_unknown (Unknown x i T) k = (refl, refl, refl, refl)
  of_unknown (Const x T) k = absurd k
  of_unknown (Free x T) k = absurd k
  of_unknown (Bound i) k = absurd k
  of_unknown (Abs x T b) k = absurd k
  of_unknown (App f a) k = absurd k

  pub term_places : (t : Tm) → unknown_places (inst_tm es fs t) ≡ map (inst_tm es fs) (unknown_places t)
  term_places (Const x T) = refl
  term_places (Free x T) = refl
  term_places (Unknown x i T) = (of_unknown (inst_tm es fs (Unknown x i T)) (retyped x i T).0).0
  term_places (Bound i) = refl
  term_places (Abs x T b) = term_places b
  term_places (App f a) = (λ i. term_places f i ++ term_places a i) ∙ sym (map-append (inst_tm es fs) (unknown_places f) (unknown_places a))

  pub all_term_places : (ts : List Tm) → all_unknown_places (map (inst_tm es fs) ts) ≡ map (inst_tm es fs) (all_unknown_places ts)
  all_term_places [] = refl
  all_term_places (t ∷ ts) = (λ i. term_places t i ++ all_term_places ts i) ∙ sym (map-append (inst_tm es fs) (unknown_places t) (all_unknown_places ts))

  pub types_of_term : (t : Tm) → type_unknown_places (inst_tm es fs t) ≡ map (inst_ty es) (type_unknown_places t)
  types_of_term (Const x T) = type_places es hs T
  types_of_term (Free x T) = type_places es hs T
  types_of_term (Unknown x i T) = (of_unknown (inst_tm es fs (Unknown x i T)) (retyped x i T).0).1 ∙ ap ty_unknown_places (retyped x i T).1 ∙ type_places es hs T
  types_of_term (Bound i) = refl
  types_of_term (Abs x T b) = (λ i. type_places es hs T i ++ types_of_term b i) ∙ sym (map-append (inst_ty es) (ty_unknown_places T) (type_unknown_places b))
  types_of_term (App f a) = (λ i. types_of_term f i ++ types_of_term a i) ∙ sym (map-append (inst_ty es) (type_unknown_places f) (type_unknown_places a))

  pub types_of_terms : (ts : List Tm) → all_type_unknown_places (map (inst_tm es fs) ts) ≡ map (inst_ty es) (all_type_unknown_places ts)
  types_of_terms [] = refl
  types_of_terms (t ∷ ts) = (λ i. types_of_term t i ++ types_of_terms ts i) ∙ sym (map-append (inst_ty es) (type_unknown_places t) (all_type_unknown_places ts))

  pub frees_renamed : (t : Tm) → free_places (inst_tm es fs t) ≡ free_places t
  frees_renamed (Const x T) = refl
  frees_renamed (Free x T) = refl
  frees_renamed (Unknown x i T) = (of_unknown (inst_tm es fs (Unknown x i T)) (retyped x i T).0).2
  frees_renamed (Bound i) = refl
  frees_renamed (Abs x T b) = frees_renamed b
  frees_renamed (App f a) = λ i. frees_renamed f i ++ frees_renamed a i

  pub fixeds_renamed : (t : Tm) → fixed_places (inst_tm es fs t) ≡ fixed_places t
  fixeds_renamed (Const x T) = fixed_renamed es hs T
  fixeds_renamed (Free x T) = fixed_renamed es hs T
  fixeds_renamed (Unknown x i T) = (of_unknown (inst_tm es fs (Unknown x i T)) (retyped x i T).0).3 ∙ ap ty_fixed_places (retyped x i T).1 ∙ fixed_renamed es hs T
  fixeds_renamed (Bound i) = refl
  fixeds_renamed (Abs x T b) = λ i. fixed_renamed es hs T i ++ fixeds_renamed b i
  fixeds_renamed (App f a) = λ i. fixeds_renamed f i ++ fixeds_renamed a i

-- renaming gives unknowns
pub term_kind : (es : List TypeEntry) (fs : List TermEntry) → RenamesTypes es → Retypes es fs → (t : Tm) → IsUnknown t → IsUnknown (inst_tm es fs t)
term_kind es fs hs rf (Unknown x i T) k = (retyped es fs hs rf x i T).0
term_kind es fs hs rf (Const x T) k = absurd k
term_kind es fs hs rf (Free x T) k = absurd k
term_kind es fs hs rf (Bound i) k = absurd k
term_kind es fs hs rf (Abs x T b) k = absurd k
term_kind es fs hs rf (App f a) k = absurd k

-- each place of a term's unknowns is an unknown, each of its type unknowns a type unknown
term_kinds : (t : Tm) → EachOf IsUnknown (unknown_places t)
term_kinds (Const x T) = tt
term_kinds (Free x T) = tt
term_kinds (Unknown x i T) = (tt, tt)
term_kinds (Bound i) = tt
term_kinds (Abs x T b) = term_kinds b
term_kinds (App f a) = each_join IsUnknown (unknown_places f) (unknown_places a) (term_kinds f) (term_kinds a)

pub all_term_kinds : (ts : List Tm) → EachOf IsUnknown (all_unknown_places ts)
all_term_kinds [] = tt
all_term_kinds (t ∷ ts) = each_join IsUnknown (unknown_places t) (all_unknown_places ts) (term_kinds t) (all_term_kinds ts)

kinds_of_types : (t : Tm) → EachOf IsTypeUnknown (type_unknown_places t)
kinds_of_types (Const x T) = type_kinds T
kinds_of_types (Free x T) = type_kinds T
kinds_of_types (Unknown x i T) = type_kinds T
kinds_of_types (Bound i) = tt
kinds_of_types (Abs x T b) = each_join IsTypeUnknown (ty_unknown_places T) (type_unknown_places b) (type_kinds T) (kinds_of_types b)
kinds_of_types (App f a) = each_join IsTypeUnknown (type_unknown_places f) (type_unknown_places a) (kinds_of_types f) (kinds_of_types a)

pub all_kinds_of_types : (ts : List Tm) → EachOf IsTypeUnknown (all_type_unknown_places ts)
all_kinds_of_types [] = tt
all_kinds_of_types (t ∷ ts) = each_join IsTypeUnknown (type_unknown_places t) (all_type_unknown_places ts) (kinds_of_types t) (all_kinds_of_types ts)

-- ---- the unknowns of places, noted
module _ (ps : List Tm) (kinds : EachOf IsUnknown ps) where
  abbrev us : List Tm
  us = all_noted [] ps

  pub noted_are : EachOf (λ t. holds tm_eq us t ≡ true) ps
  noted_are = subst (λ vs. EachOf (λ t. holds tm_eq vs t ≡ true) ps) (sym (all_noted_is [] ps)) (are_noted tm_eq IsUnknown tm_yes tm_itself [] ps kinds)

  pub noted_kinds : EachOf IsUnknown us
  noted_kinds = subst (λ vs. EachOf IsUnknown vs) (sym (all_noted_is [] ps)) (noted_each tm_eq IsUnknown [] ps tt kinds)

  pub noted_once : Distinct tm_eq us
  noted_once = subst (λ vs. Distinct tm_eq vs) (sym (all_noted_is [] ps)) (noted_distinct tm_eq IsUnknown tm_yes tm_itself [] ps tt kinds tt)

  abbrev pub IsPlace : Tm → Type 0
  IsPlace t = IsUnknown t × (holds tm_eq us t ≡ true)

  pub are_places : EachOf IsPlace ps
  are_places = each_both IsUnknown (λ t. holds tm_eq us t ≡ true) ps kinds noted_are

  -- named apart, they are noted in the same order
  pub named_noted : (es : List TypeEntry) (fs : List TermEntry) (names : List (List ℕ)) (n : ℕ) → RenamesTypes es → Retypes es fs → TermsFrom es fs names n us → TermsFit names n us → all_noted [] (map (inst_tm es fs) ps) ≡ map (inst_tm es fs) us
  named_noted es fs names n hs rf f l =
      all_noted_is [] (map (inst_tm es fs) ps)
      ∙ noted_mapped tm_eq IsUnknown tm_yes tm_itself (inst_tm es fs) IsPlace (λ t p. p.0) (λ t p. term_kind es fs hs rf t p.0) (λ t u p q e. terms_apart es fs names n us t u noted_kinds p.0 q.0 f l p.1 q.1 (ap name_of e)) [] ps tt are_places
      ∙ ap (map (inst_tm es fs)) (sym (all_noted_is [] ps))
