-- New names stand in the order in which they first occur.
use Rattle.std.proofs.Common.{◌≡◌, ℕ, zero, suc, ◌+◌, List, [], ◌∷◌, ◌++◌, map, length, Bool, true, false, cond, ◌&&◌, ◌||◌, nat_eq, Option, Some, None, refl, sym, ap, ◌∙◌, subst, unwrap_or, arith}
use Rattle.isa_terms.specs.Types.{Ty, Tys, TyCon, TyFixed, TyUnknown, NoTys, MoreTys}
use Rattle.isa_terms.specs.Terms.{Tm, Const, Free, Unknown, Bound, Abs, App}
use Rattle.isa_terms.specs.Equal.{name_eq, ty_eq}
use Rattle.isa_terms.specs.Generalize.{is_named}
use Rattle.isa_terms.specs.Instance.{inst_ty, inst_tys, find_type}
use Rattle.isa_terms.specs.Unknowns.{ty_unknown_places, tys_unknown_places, type_unknown_places, has_ty, ty_noted, tys_noted, type_unknowns_of}
use Rattle.isa_terms.specs.declared.inst.TypeEntry.{TypeEntry}
use Rattle.isa_terms.proofs.Equal.{ty_decides}
use Rattle.isa_terms.proofs.Noting.{tys_noted_append}
use Rattle.std.proofs.lemmas.List.{append-nil}
use Rattle.isa_unify.proofs.Tests.{name_self, name_true, key_turned, same_test}
use Rattle.isa_typing.specs.Marks.{ty_with, tys_with, retyped, named, numbered, of_text, thawed_name, thawed, kept_variable}
use Rattle.isa_typing.specs.TextNames.{names_in_ty, names_in_tys}
use Rattle.isa_typing.specs.NewNames.{AreFirstFree}
use Rattle.isa_typing.specs.Naming.{entries_for}
use Rattle.isa_typing.specs.Principal.{variable_places, noted_name, first_occurrences}
use Rattle.isa_typing.proofs.Lacking.{Lacks, AllLack, OfTypes, not_left, not_right}
use Rattle.isa_typing.proofs.Noted.{AllNoted, noted_left, noted_right, new_other, or_first, or_last}

occurrences_append : (names seen cs bs : List (List ℕ)) → first_occurrences names seen (cs ++ bs) ≡ first_occurrences names (first_occurrences names seen cs) bs
occurrences_append names seen [] bs = refl
occurrences_append names seen (a ∷ cs) bs = occurrences_append names (cond (is_named names a) (noted_name seen a) seen) cs bs

-- the name at the place of the type
abbrev name_for : List Ty → List (List ℕ) → Ty → List ℕ
name_for [] ns V = []
name_for (U ∷ Us) [] V = []
name_for (U ∷ Us) (n ∷ ns) V = cond (ty_eq U V) n (name_for Us ns V)

abbrev names_for : List Ty → List (List ℕ) → List Ty → List (List ℕ)
names_for Us ns [] = []
names_for Us ns (V ∷ Vs) = name_for Us ns V ∷ names_for Us ns Vs

names_for_last : (Us : List Ty) (ns : List (List ℕ)) (Vs : List Ty) (W : Ty) → names_for Us ns (Vs ++ W ∷ []) ≡ names_for Us ns Vs ++ name_for Us ns W ∷ []
names_for_last Us ns [] W = refl
names_for_last Us ns (V ∷ Vs) W = ap (λ ms. name_for Us ns V ∷ ms) (names_for_last Us ns Vs W)

ty_true : (S T : Ty) → ty_eq S T ≡ true → S ≡ T
ty_true S T h = (ty_decides S T).0 h

ty_self : (T : Ty) → ty_eq T T ≡ true
ty_self T = (ty_decides T T).1 refl

-- it is one of the names
name_for_named : (Us : List Ty) (ns : List (List ℕ)) → length ns ≡ length Us → (V : Ty) → has_ty Us V ≡ true → is_named ns (name_for Us ns V) ≡ true
name_for_named [] ns l V h = absurd (cc)
name_for_named (U ∷ Us) [] l V h = absurd (omega arith)
name_for_named (U ∷ Us) (n ∷ ns) l V h = at (λ w. name_for_named Us ns (omega arith) V w) (ty_eq U V) h where
  at : (has_ty Us V ≡ true → is_named ns (name_for Us ns V) ≡ true) → (v : Bool) → (v || has_ty Us V) ≡ true → (name_eq (cond v n (name_for Us ns V)) n || is_named ns (cond v n (name_for Us ns V))) ≡ true
  at ih true w = or_first (name_eq n n) (is_named ns n) (name_self n)
  at ih false w = or_last (name_eq (name_for Us ns V) n) (is_named ns (name_for Us ns V)) (ih w)

-- two types have two names
name_for_same : (taken : List (List ℕ)) (Us : List Ty) (ns : List (List ℕ)) → length ns ≡ length Us → AreFirstFree taken ns → (V W : Ty) → has_ty Us V ≡ true → has_ty Us W ≡ true → name_for Us ns V ≡ name_for Us ns W → V ≡ W
name_for_same taken [] ns l f V W h k e = absurd (cc)
name_for_same taken (U ∷ Us) [] l f V W h k e = absurd (omega arith)
name_for_same taken (U ∷ Us) (n ∷ ns) l f V W h k e =
    at (λ p q d. name_for_same (taken ++ n ∷ []) Us ns (omega arith) f.1 V W p q d) (λ X p. name_for_named Us ns (omega arith) X p) (λ a p. new_other taken ns n f.1 a p) (ty_eq U V) refl (ty_eq U W) refl h k e where
      other : ((a : List ℕ) → is_named ns a ≡ true → name_eq a n ≡ false) → (a : List ℕ) → is_named ns a ≡ true → a ≡ n → ⊥
      other o a p q =
          let no : name_eq a n ≡ false = o a p in
          let yes : name_eq a n ≡ true = subst (λ b. name_eq b n ≡ true) (sym q) (name_self n) in
          absurd (cc)

      at : (has_ty Us V ≡ true → has_ty Us W ≡ true → name_for Us ns V ≡ name_for Us ns W → V ≡ W) → ((X : Ty) → has_ty Us X ≡ true → is_named ns (name_for Us ns X) ≡ true) → ((a : List ℕ) → is_named ns a ≡ true → name_eq a n ≡ false) → (v : Bool) → ty_eq U V ≡ v → (w : Bool) → ty_eq U W ≡ w → (v || has_ty Us V) ≡ true → (w || has_ty Us W) ≡ true → cond v n (name_for Us ns V) ≡ cond w n (name_for Us ns W) → V ≡ W
      at ih g o true p true q h k e = sym (ty_true U V p) ∙ ty_true U W q
      at ih g o true p false q h k e = absurd (other o (name_for Us ns W) (g W k) (sym e))
      at ih g o false p true q h k e = absurd (other o (name_for Us ns V) (g V h) e)
      at ih g o false p false q h k e = ih h k e

other_name : (taken : List (List ℕ)) (Us : List Ty) (ns : List (List ℕ)) → length ns ≡ length Us → AreFirstFree taken ns → (V W : Ty) → has_ty Us V ≡ true → has_ty Us W ≡ true → ty_eq V W ≡ false → name_eq (name_for Us ns W) (name_for Us ns V) ≡ false
other_name taken Us ns l f V W k h e = test (name_eq (name_for Us ns W) (name_for Us ns V)) refl where
  test : (b : Bool) → name_eq (name_for Us ns W) (name_for Us ns V) ≡ b → b ≡ false
  test false p = refl
  test true p =
      let same : V ≡ W = name_for_same taken Us ns l f V W k h (sym (name_true (name_for Us ns W) (name_for Us ns V) p)) in
      let yes : ty_eq V W ≡ true = subst (λ Z. ty_eq V Z ≡ true) same (ty_self V) in
      absurd (cc)

-- the name is among those of the types where the type is among them
has_name : (taken : List (List ℕ)) (Us : List Ty) (ns : List (List ℕ)) → length ns ≡ length Us → AreFirstFree taken ns → (Vs : List Ty) → AllNoted Us Vs → (W : Ty) → has_ty Us W ≡ true → is_named (names_for Us ns Vs) (name_for Us ns W) ≡ has_ty Vs W
has_name taken Us ns l f [] a W h = refl
has_name taken Us ns l f (V ∷ Vs) a W h = at (has_name taken Us ns l f Vs a.1 W h) (ty_eq V W) refl where
  at : is_named (names_for Us ns Vs) (name_for Us ns W) ≡ has_ty Vs W → (v : Bool) → ty_eq V W ≡ v → (name_eq (name_for Us ns W) (name_for Us ns V) || is_named (names_for Us ns Vs) (name_for Us ns W)) ≡ (v || has_ty Vs W)
  at ih true e =
      let same : name_for Us ns V ≡ name_for Us ns W = ap (name_for Us ns) (ty_true V W e) in
      or_first (name_eq (name_for Us ns W) (name_for Us ns V)) (is_named (names_for Us ns Vs) (name_for Us ns W)) (subst (λ b. name_eq (name_for Us ns W) b ≡ true) (sym same) (name_self (name_for Us ns W)))
  at ih false e = ap (λ b. b || is_named (names_for Us ns Vs) (name_for Us ns W)) (other_name taken Us ns l f V W a.0 h e) ∙ ih

-- noting the name is noting the type
name_noted : (taken : List (List ℕ)) (Us : List Ty) (ns : List (List ℕ)) → length ns ≡ length Us → AreFirstFree taken ns → (Vs : List Ty) → AllNoted Us Vs → (W : Ty) → has_ty Us W ≡ true → noted_name (names_for Us ns Vs) (name_for Us ns W) ≡ names_for Us ns (ty_noted Vs W)
name_noted taken Us ns l f Vs a W h = ap (λ b. cond b (names_for Us ns Vs) (names_for Us ns Vs ++ name_for Us ns W ∷ [])) (has_name taken Us ns l f Vs a W h) ∙ at (has_ty Vs W) where
  at : (b : Bool) → cond b (names_for Us ns Vs) (names_for Us ns Vs ++ name_for Us ns W ∷ []) ≡ names_for Us ns (cond b Vs (Vs ++ W ∷ []))
  at true = refl
  at false = sym (names_for_last Us ns Vs W)

all_noted_both : (Us Ss Ts : List Ty) → AllNoted Us Ss → AllNoted Us Ts → AllNoted Us (Ss ++ Ts)
all_noted_both Us [] Ts a b = b
all_noted_both Us (S ∷ Ss) Ts a b = (a.0, all_noted_both Us Ss Ts a.1 b)

noted_within : (Us Vs : List Ty) (W : Ty) → AllNoted Us Vs → has_ty Us W ≡ true → AllNoted Us (ty_noted Vs W)
noted_within Us Vs W a h = at (has_ty Vs W) where
  at : (b : Bool) → AllNoted Us (cond b Vs (Vs ++ W ∷ []))
  at true = a
  at false = all_noted_both Us Vs (W ∷ []) a (h, tt)

all_within : (Us Vs Ws : List Ty) → AllNoted Us Vs → AllNoted Us Ws → AllNoted Us (tys_noted Vs Ws)
all_within Us Vs [] a b = a
all_within Us Vs (W ∷ Ws) a b = all_within Us (ty_noted Vs W) Ws (noted_within Us Vs W a b.0) b.1

turned : (x : List ℕ) (i : ℕ) (y : List ℕ) (j : ℕ) → (name_eq x y && nat_eq i j) ≡ (name_eq y x && nat_eq j i)
turned x i y j = same_test (name_eq x y && nat_eq i j) (name_eq y x && nat_eq j i) (key_turned x i y j) (key_turned y j x i)

-- the entry of a variable is the type variable of its name
find_named : (Us : List Ty) (ns : List (List ℕ)) → length ns ≡ length Us → (x : List ℕ) (i : ℕ) → has_ty Us (TyUnknown x i) ≡ true → thawed (inst_ty (entries_for Us ns) (TyUnknown x i)) ≡ TyFixed (name_for Us ns (TyUnknown x i))
find_named [] ns l x i h = absurd (cc)
find_named (U ∷ Us) [] l x i h = absurd (omega arith)
find_named (TyCon c Ts ∷ Us) (n ∷ ns) l x i h = find_named Us ns (omega arith) x i h
find_named (TyFixed c ∷ Us) (n ∷ ns) l x i h = find_named Us ns (omega arith) x i h
find_named (TyUnknown y j ∷ Us) (n ∷ ns) l x i h =
    ap (λ b. thawed (unwrap_or (cond b (Some (kept_variable n)) (find_type x i (entries_for Us ns))) (TyUnknown x i))) (turned x i y j) ∙ at (λ w. find_named Us ns (omega arith) x i w) (name_eq y x && nat_eq j i) h where
      at : (has_ty Us (TyUnknown x i) ≡ true → thawed (inst_ty (entries_for Us ns) (TyUnknown x i)) ≡ TyFixed (name_for Us ns (TyUnknown x i))) → (v : Bool) → (v || has_ty Us (TyUnknown x i)) ≡ true → thawed (unwrap_or (cond v (Some (kept_variable n)) (find_type x i (entries_for Us ns))) (TyUnknown x i)) ≡ TyFixed (cond v n (name_for Us ns (TyUnknown x i)))
      at ih true w = refl
      at ih false w = ih w

of_text_occurs : (names seen : List (List ℕ)) (a : List ℕ) (i : ℕ) → is_named names a ≡ false → first_occurrences names seen (names_in_ty false (of_text a i)) ≡ seen
of_text_occurs names seen a zero h = ap (λ b. cond b (noted_name seen a) seen) h
of_text_occurs names seen a (suc i) h = refl

mutual
  type_in_order : (taken : List (List ℕ)) (Us : List Ty) (ns : List (List ℕ)) → length ns ≡ length Us → AreFirstFree taken ns → (Vs : List Ty) → AllNoted Us Vs → (T : Ty) → AllNoted Us (ty_unknown_places T) → ((a : List ℕ) → is_named ns a ≡ true → Lacks a T) → first_occurrences ns (names_for Us ns Vs) (names_in_ty false (thawed (inst_ty (entries_for Us ns) T))) ≡ names_for Us ns (tys_noted Vs (ty_unknown_places T))
  type_in_order taken Us ns l f Vs a (TyCon c Ts) h k = types_in_order taken Us ns l f Vs a Ts h k
  type_in_order taken Us ns l f Vs a (TyFixed y) h k = of_text_occurs ns (names_for Us ns Vs) (named y) (numbered y) (at (is_named ns (named y)) refl) where
    at : (v : Bool) → is_named ns (named y) ≡ v → is_named ns (named y) ≡ false
    at false e = e
    at true e =
        let same : name_eq (named y) (named y) ≡ true = name_self (named y) in
        let other : name_eq (named y) (named y) ≡ false = k (named y) e in
        absurd (cc)
  type_in_order taken Us ns l f Vs a (TyUnknown x i) h k =
      let W : Ty = TyUnknown x i in
      ap (λ Z. first_occurrences ns (names_for Us ns Vs) (names_in_ty false Z)) (find_named Us ns l x i h.0) ∙ (ap (λ b. cond b (noted_name (names_for Us ns Vs) (name_for Us ns W)) (names_for Us ns Vs)) (name_for_named Us ns l W h.0) ∙ name_noted taken Us ns l f Vs a W h.0)

  types_in_order : (taken : List (List ℕ)) (Us : List Ty) (ns : List (List ℕ)) → length ns ≡ length Us → AreFirstFree taken ns → (Vs : List Ty) → AllNoted Us Vs → (Ts : Tys) → AllNoted Us (tys_unknown_places Ts) → ((a : List ℕ) → is_named ns a ≡ true → AllLack a Ts) → first_occurrences ns (names_for Us ns Vs) (names_in_tys false (tys_with thawed_name TyUnknown (inst_tys (entries_for Us ns) Ts))) ≡ names_for Us ns (tys_noted Vs (tys_unknown_places Ts))
  types_in_order taken Us ns l f Vs a NoTys h k = refl
  types_in_order taken Us ns l f Vs a (MoreTys T Ts) h k =
      let h0 = noted_left Us (ty_unknown_places T) (tys_unknown_places Ts) h in
      let h1 = noted_right Us (ty_unknown_places T) (tys_unknown_places Ts) h in
      let Ws : List Ty = tys_noted Vs (ty_unknown_places T) in
      occurrences_append ns (names_for Us ns Vs) (names_in_ty false (thawed (inst_ty (entries_for Us ns) T))) (names_in_tys false (tys_with thawed_name TyUnknown (inst_tys (entries_for Us ns) Ts))) ∙ (ap (λ z. first_occurrences ns z (names_in_tys false (tys_with thawed_name TyUnknown (inst_tys (entries_for Us ns) Ts)))) (type_in_order taken Us ns l f Vs a T h0 (λ b e. (k b e).0)) ∙ (types_in_order taken Us ns l f Ws (all_within Us Vs (ty_unknown_places T) a h0) Ts h1 (λ b e. (k b e).1) ∙ ap (names_for Us ns) (sym (tys_noted_append Vs (ty_unknown_places T) (tys_unknown_places Ts)))))

abbrev pub in_text : List Ty → List (List ℕ) → Tm → Tm
in_text Us ns t = retyped (λ T. thawed (inst_ty (entries_for Us ns) T)) t

-- one part after the other
parts_in_order : (Us : List Ty) (ns cs bs : List (List ℕ)) (Vs Ss Ts : List Ty) → first_occurrences ns (names_for Us ns Vs) cs ≡ names_for Us ns (tys_noted Vs Ss) → first_occurrences ns (names_for Us ns (tys_noted Vs Ss)) bs ≡ names_for Us ns (tys_noted (tys_noted Vs Ss) Ts) → first_occurrences ns (names_for Us ns Vs) (cs ++ bs) ≡ names_for Us ns (tys_noted Vs (Ss ++ Ts))
parts_in_order Us ns cs bs Vs Ss Ts p q =
    occurrences_append ns (names_for Us ns Vs) cs bs ∙ (ap (λ z. first_occurrences ns z bs) p ∙ (q ∙ ap (names_for Us ns) (sym (tys_noted_append Vs Ss Ts))))

term_in_order : (taken : List (List ℕ)) (Us : List Ty) (ns : List (List ℕ)) → length ns ≡ length Us → AreFirstFree taken ns → (Vs : List Ty) → AllNoted Us Vs → (t : Tm) → AllNoted Us (type_unknown_places t) → ((a : List ℕ) → is_named ns a ≡ true → OfTypes (Lacks a) t) → first_occurrences ns (names_for Us ns Vs) (variable_places (in_text Us ns t)) ≡ names_for Us ns (tys_noted Vs (type_unknown_places t))
term_in_order taken Us ns l f Vs a (Const c T) h k = type_in_order taken Us ns l f Vs a T h k
term_in_order taken Us ns l f Vs a (Free x T) h k = type_in_order taken Us ns l f Vs a T h k
term_in_order taken Us ns l f Vs a (Unknown x i T) h k = type_in_order taken Us ns l f Vs a T h k
term_in_order taken Us ns l f Vs a (Bound n) h k = refl
term_in_order taken Us ns l f Vs a (Abs x T b) h k =
    let h0 = noted_left Us (ty_unknown_places T) (type_unknown_places b) h in
    let h1 = noted_right Us (ty_unknown_places T) (type_unknown_places b) h in
    parts_in_order Us ns (names_in_ty false (thawed (inst_ty (entries_for Us ns) T))) (variable_places (in_text Us ns b)) Vs (ty_unknown_places T) (type_unknown_places b) (type_in_order taken Us ns l f Vs a T h0 (λ c e. (k c e).0)) (term_in_order taken Us ns l f (tys_noted Vs (ty_unknown_places T)) (all_within Us Vs (ty_unknown_places T) a h0) b h1 (λ c e. (k c e).1))
term_in_order taken Us ns l f Vs a (App g w) h k =
    let h0 = noted_left Us (type_unknown_places g) (type_unknown_places w) h in
    let h1 = noted_right Us (type_unknown_places g) (type_unknown_places w) h in
    parts_in_order Us ns (variable_places (in_text Us ns g)) (variable_places (in_text Us ns w)) Vs (type_unknown_places g) (type_unknown_places w) (term_in_order taken Us ns l f Vs a g h0 (λ c e. (k c e).0)) (term_in_order taken Us ns l f (tys_noted Vs (type_unknown_places g)) (all_within Us Vs (type_unknown_places g) a h0) w h1 (λ c e. (k c e).1))

-- no two of the types are the same
abbrev Distinct : List Ty → Type 0
Distinct [] = Unit {0}
Distinct (U ∷ Us) = (has_ty Us U ≡ false) × Distinct Us

ty_other : (S T : Ty) → ty_eq S T ≡ false → ty_eq T S ≡ false
ty_other S T h = at (ty_eq T S) refl where
  at : (b : Bool) → ty_eq T S ≡ b → b ≡ false
  at false e = refl
  at true e = let yes : ty_eq S T ≡ true = subst (λ Z. ty_eq Z T ≡ true) (ty_true T S e) (ty_self T) in absurd (cc)

not_last : (Us : List Ty) (T U : Ty) → has_ty Us U ≡ false → ty_eq T U ≡ false → has_ty (Us ++ T ∷ []) U ≡ false
not_last [] T U h e = ap (λ b. b || false) e
not_last (V ∷ Us) T U h e =
    ap (λ b. b || has_ty (Us ++ T ∷ []) U) (not_left (ty_eq V U) (has_ty Us U) h) ∙ not_last Us T U (not_right (ty_eq V U) (has_ty Us U) h) e

distinct_last : (Us : List Ty) (T : Ty) → Distinct Us → has_ty Us T ≡ false → Distinct (Us ++ T ∷ [])
distinct_last [] T d h = (refl, tt)
distinct_last (U ∷ Us) T d h =
    (not_last Us T U d.0 (ty_other U T (not_left (ty_eq U T) (has_ty Us T) h)), distinct_last Us T d.1 (not_right (ty_eq U T) (has_ty Us T) h))

distinct_noted : (Us : List Ty) (T : Ty) → Distinct Us → Distinct (ty_noted Us T)
distinct_noted Us T d = at (has_ty Us T) refl where
  at : (b : Bool) → has_ty Us T ≡ b → Distinct (cond b Us (Us ++ T ∷ []))
  at true e = d
  at false e = distinct_last Us T d e

all_distinct : (Us Ts : List Ty) → Distinct Us → Distinct (tys_noted Us Ts)
all_distinct Us [] d = d
all_distinct Us (T ∷ Ts) d = all_distinct (ty_noted Us T) Ts (distinct_noted Us T d)

names_past : (U : Ty) (Us : List Ty) (n : List ℕ) (ns : List (List ℕ)) (Vs : List Ty) → has_ty Vs U ≡ false → names_for (U ∷ Us) (n ∷ ns) Vs ≡ names_for Us ns Vs
names_past U Us n ns [] h = refl
names_past U Us n ns (V ∷ Vs) h = λ i. ap (λ b. cond b n (name_for Us ns V)) (ty_other V U (not_left (ty_eq V U) (has_ty Vs U) h)) i ∷ names_past U Us n ns Vs (not_right (ty_eq V U) (has_ty Vs U) h) i

own_names : (Us : List Ty) (ns : List (List ℕ)) → length ns ≡ length Us → Distinct Us → names_for Us ns Us ≡ ns
own_names [] [] l d = refl
own_names [] (n ∷ ns) l d = absurd (omega arith)
own_names (U ∷ Us) [] l d = absurd (omega arith)
own_names (U ∷ Us) (n ∷ ns) l d = λ i. ap (λ b. cond b n (name_for Us ns U)) (ty_self U) i ∷ (names_past U Us n ns Us d.0 ∙ own_names Us ns (omega arith) d.1) i

-- the names of the open types stand in the order in which they first occur
pub names_in_order : (taken : List (List ℕ)) (ns : List (List ℕ)) (t : Tm) → length ns ≡ length (type_unknowns_of (t ∷ [])) → AreFirstFree taken ns → AllNoted (type_unknowns_of (t ∷ [])) (type_unknown_places t) → ((a : List ℕ) → is_named ns a ≡ true → OfTypes (Lacks a) t) → first_occurrences ns [] (variable_places (in_text (type_unknowns_of (t ∷ [])) ns t)) ≡ ns
names_in_order taken ns t l f a k =
    let Us : List Ty = type_unknowns_of (t ∷ []) in
    let same : tys_noted [] (type_unknown_places t) ≡ Us = ap (tys_noted []) (sym (append-nil (type_unknown_places t))) in
    term_in_order taken Us ns l f [] tt t a k ∙ (ap (names_for Us ns) same ∙ own_names Us ns l (all_distinct [] (type_unknown_places t ++ []) tt))
