-- Declarations one after the other, and their sorts.
use Rattle.std.proofs.Common.{◌≡◌, ℕ, zero, suc, ◌-◌, ◌≤◌, List, drop, take-append-drop, length-append, append_assoc, append-nil, arith, [], ◌∷◌, ◌++◌, length, take, Bool, true, false, cond, Some, None, Ok, inl, refl, sym, ap, ◌∙◌, subst}
use Rattle.std.specs.Map.{lookup}
use Rattle.indexmap.specs.IndexMap.{insert_entry}
use Rattle.isa_terms.specs.Types.{Ty}
use Rattle.isa_terms.specs.Terms.{Tm}
use Rattle.isa_terms.specs.Equal.{name_eq, ty_eq}
use Rattle.isa_terms.specs.Typing.{type_at}
use Rattle.isa_terms.proofs.Equal.{ty_decides}
use Rattle.isa_terms.proofs.Bare.{type_at_bare}
use Rattle.isa_kernel.specs.Logic.{prop, IsProposition}
use Rattle.isa_kernel.specs.Derivation.{Axiom}
use Rattle.isa_kernel.specs.Theorem.{Theorem, IsDerived}
use Rattle.isa_kernel.specs.Theories.{AreProps, axiom_theorem, types_in, constants_in, axioms_in, pure_types, pure_constants}
use Rattle.isa_kernel.specs.declared.declarations.Declaration.{Declaration}
use Rattle.isa_kernel.specs.declared.declarations.Declaration.TheVariants as declared

-- a term of a type that passes the test is a proposition
pub is_prop : (t : Tm) (T : Ty) → type_at [] t ≡ Ok T → ty_eq T prop ≡ true → IsProposition t
is_prop t T e h = e ∙ ap Ok ((ty_decides T prop).0 h)

prop_found : (x : List ℕ) (a : List ℕ × Tm) (rest : List (List ℕ × Tm)) (p : Tm) (b : Bool) → IsProposition a.1 → (lookup (name_eq x) rest ≡ Some p → IsProposition p) → cond b (Some a.1) (lookup (name_eq x) rest) ≡ Some p → IsProposition p
prop_found x a rest p true h f e = let same : a.1 ≡ p = cc (e) in subst (λ q. IsProposition q) same h
prop_found x a rest p false h f e = f e

pub axiom_is_prop : (x : List ℕ) (axioms : List (List ℕ × Tm)) (p : Tm) → AreProps axioms → lookup (name_eq x) axioms ≡ Some p → IsProposition p
axiom_is_prop x [] p h e = cc
axiom_is_prop x (a ∷ rest) p h e = prop_found x a rest p (name_eq x a.0) h.0 (λ f. axiom_is_prop x rest p h.1 f) e

-- a declared axiom is derived from itself
pub axiom_sound : (x : List ℕ) (p : Tm) (th : Theorem) → axiom_theorem x p ≡ th → IsProposition p → IsDerived th
axiom_sound x p th e h = subst (λ r. IsDerived r) e (record { derivation = record { used = []; tree = Axiom (inl refl) (type_at_bare [] p ∙ h); within = λ q m. m } })

-- ---- declarations one after the other
pub types_append : (xs ys : List Declaration) → types_in (xs ++ ys) ≡ types_in xs ++ types_in ys
types_append [] ys = refl
types_append (declared.Constructor x n ∷ xs) ys = ap (λ r. (x, n) ∷ r) (types_append xs ys)
types_append (declared.Constant x T ∷ xs) ys = types_append xs ys
types_append (declared.Axiom x p ∷ xs) ys = types_append xs ys

pub constants_append : (xs ys : List Declaration) → constants_in (xs ++ ys) ≡ constants_in xs ++ constants_in ys
constants_append [] ys = refl
constants_append (declared.Constructor x n ∷ xs) ys = constants_append xs ys
constants_append (declared.Constant x T ∷ xs) ys = ap (λ r. (x, T) ∷ r) (constants_append xs ys)
constants_append (declared.Axiom x p ∷ xs) ys = constants_append xs ys

pub axioms_append : (xs ys : List Declaration) → axioms_in (xs ++ ys) ≡ axioms_in xs ++ axioms_in ys
axioms_append [] ys = refl
axioms_append (declared.Constructor x n ∷ xs) ys = axioms_append xs ys
axioms_append (declared.Constant x T ∷ xs) ys = axioms_append xs ys
axioms_append (declared.Axiom x p ∷ xs) ys = ap (λ r. (x, p) ∷ r) (axioms_append xs ys)

-- ---- a new name goes last
step : {V : Type 0} (k : List ℕ) (v : V) (e : List ℕ × V) (es : List (List ℕ × V)) (b : Bool) → cond b (Some e.1) (lookup (name_eq k) es) ≡ None → (lookup (name_eq k) es ≡ None → insert_entry name_eq es k v ≡ es ++ (k, v) ∷ []) → cond b ((e.0, v) ∷ es) (e ∷ insert_entry name_eq es k v) ≡ e ∷ (es ++ (k, v) ∷ [])
step k v e es true h rest = cc
step k v e es false h rest = ap (λ r. e ∷ r) (rest h)

pub insert_new : {V : Type 0} (k : List ℕ) (v : V) (es : List (List ℕ × V)) → lookup (name_eq k) es ≡ None → insert_entry name_eq es k v ≡ es ++ (k, v) ∷ []
insert_new k v [] h = refl
insert_new k v (e ∷ es) h = step k v e es (name_eq k e.0) h (insert_new k v es)

-- ---- the first declarations alone
cut : {X : Type 0} (A B : List X) → take (length (A ++ B) - length B) (A ++ B) ≡ A
cut [] B = let e : length B - length B ≡ 0 = omega arith in ap (λ n. take n B) e
cut (a ∷ A) B =
    let e : suc (length (A ++ B)) - length B ≡ suc (length (A ++ B) - length B) = omega (arith, length-append A B) in
    ap (λ n. take n (a ∷ (A ++ B))) e ∙ ap (λ r. a ∷ r) (cut A B)

-- what is left of P and A and B without B
pub cut_behind : {X : Type 0} (P A B : List X) {C : List X} → C ≡ A ++ B → take (length (P ++ C) - length B) (P ++ C) ≡ P ++ A
cut_behind P A B e =
    let same : P ++ _ ≡ (P ++ A) ++ B = ap (λ r. P ++ r) e ∙ sym (append_assoc P A B) in
    ap (λ r. take (length r - length B) r) same ∙ cut (P ++ A) B

pub types_parts : (m : ℕ) (ds : List Declaration) → types_in ds ≡ types_in (take m ds) ++ types_in (drop m ds)
types_parts m ds = ap types_in (sym (take-append-drop m ds)) ∙ types_append (take m ds) (drop m ds)

pub constants_parts : (m : ℕ) (ds : List Declaration) → constants_in ds ≡ constants_in (take m ds) ++ constants_in (drop m ds)
constants_parts m ds = ap constants_in (sym (take-append-drop m ds)) ∙ constants_append (take m ds) (drop m ds)

pub axioms_parts : (m : ℕ) (ds : List Declaration) → axioms_in ds ≡ axioms_in (take m ds) ++ axioms_in (drop m ds)
axioms_parts m ds = ap axioms_in (sym (take-append-drop m ds)) ∙ axioms_append (take m ds) (drop m ds)

-- ---- axioms are propositions
pub props_push : (axioms : List (List ℕ × Tm)) (x : List ℕ) (p : Tm) → AreProps axioms → IsProposition p → AreProps (axioms ++ (x, p) ∷ [])
props_push [] x p h e = (e, tt)
props_push (a ∷ rest) x p h e = (h.0, props_push rest x p h.1 e)

pub props_first : (first second : List (List ℕ × Tm)) → AreProps (first ++ second) → AreProps first
props_first [] second h = tt
props_first (a ∷ first) second h = (h.0, props_first first second h.1)

-- ---- the maps of a theory after a declaration, and after some are taken out
abbrev pub Indexed : List (List ℕ × ℕ) → List (List ℕ × Ty) → List (List ℕ × Tm) → List Declaration → Type 0
Indexed types constants axioms ds =
    (types ≡ pure_types ++ types_in ds) × (constants ≡ pure_constants ++ constants_in ds) × (axioms ≡ axioms_in ds) × AreProps (axioms_in ds)

-- the entries P ++ A with a new name, where A goes on with it
put_last : {V : Type 0} (x : List ℕ) (v : V) (old new P A B : List (List ℕ × V)) → old ≡ P ++ A → lookup (name_eq x) (P ++ A) ≡ None → new ≡ insert_entry name_eq old x v → B ≡ A ++ (x, v) ∷ [] → new ≡ P ++ B
put_last x v old new P A B e n i b =
    i ∙ ap (λ r. insert_entry name_eq r x v) e ∙ insert_new x v (P ++ A) n ∙ append_assoc P A ((x, v) ∷ []) ∙ ap (λ r. P ++ r) (sym b)

module _ (types : List (List ℕ × ℕ)) (constants : List (List ℕ × Ty)) (axioms : List (List ℕ × Tm)) (ds more : List Declaration) (indexed : Indexed types constants axioms ds) where
  pub type_put : (x : List ℕ) (n : ℕ) (new : List (List ℕ × ℕ)) → lookup (name_eq x) (pure_types ++ types_in ds) ≡ None → new ≡ insert_entry name_eq types x n → more ≡ ds ++ declared.Constructor x n ∷ [] → Indexed new constants axioms more
  type_put x n new absent i e =
      let d = declared.Constructor x n in
      let c = ap constants_in e ∙ constants_append ds (d ∷ []) ∙ append-nil (constants_in ds) in
      let a = ap axioms_in e ∙ axioms_append ds (d ∷ []) ∙ append-nil (axioms_in ds) in (
        put_last x n types new pure_types (types_in ds) (types_in more) indexed.0 absent i (ap types_in e ∙ types_append ds (d ∷ [])),
        indexed.1 ∙ ap (λ r. pure_constants ++ r) (sym c),
        indexed.2 ∙ sym a,
        subst (λ r. AreProps r) (sym a) indexed.3,
      )

  pub constant_put : (x : List ℕ) (T : Ty) (new : List (List ℕ × Ty)) → lookup (name_eq x) (pure_constants ++ constants_in ds) ≡ None → new ≡ insert_entry name_eq constants x T → more ≡ ds ++ declared.Constant x T ∷ [] → Indexed types new axioms more
  constant_put x T new absent i e =
      let d = declared.Constant x T in
      let t = ap types_in e ∙ types_append ds (d ∷ []) ∙ append-nil (types_in ds) in
      let a = ap axioms_in e ∙ axioms_append ds (d ∷ []) ∙ append-nil (axioms_in ds) in (
        indexed.0 ∙ ap (λ r. pure_types ++ r) (sym t),
        put_last x T constants new pure_constants (constants_in ds) (constants_in more) indexed.1 absent i (ap constants_in e ∙ constants_append ds (d ∷ [])),
        indexed.2 ∙ sym a,
        subst (λ r. AreProps r) (sym a) indexed.3,
      )

  pub axiom_put : (x : List ℕ) (p : Tm) (new : List (List ℕ × Tm)) → lookup (name_eq x) (axioms_in ds) ≡ None → IsProposition p → new ≡ insert_entry name_eq axioms x p → more ≡ ds ++ declared.Axiom x p ∷ [] → Indexed types constants new more
  axiom_put x p new absent typed i e =
      let d = declared.Axiom x p in
      let t = ap types_in e ∙ types_append ds (d ∷ []) ∙ append-nil (types_in ds) in
      let c = ap constants_in e ∙ constants_append ds (d ∷ []) ∙ append-nil (constants_in ds) in
      let a = ap axioms_in e ∙ axioms_append ds (d ∷ []) in (
        indexed.0 ∙ ap (λ r. pure_types ++ r) (sym t),
        indexed.1 ∙ ap (λ r. pure_constants ++ r) (sym c),
        put_last x p axioms new [] (axioms_in ds) (axioms_in more) indexed.2 absent i a,
        subst (λ r. AreProps r) (sym a) (props_push (axioms_in ds) x p indexed.3 typed),
      )

-- the first entries of each map that are left
pub first_left : (types left_types : List (List ℕ × ℕ)) (constants left_constants : List (List ℕ × Ty)) (axioms left_axioms : List (List ℕ × Tm)) (ds : List Declaration) (m : ℕ) → Indexed types constants axioms ds
    → left_types ≡ take (length types - length (types_in (drop m ds))) types → left_constants ≡ take (length constants - length (constants_in (drop m ds))) constants → left_axioms ≡ take (length axioms - length (axioms_in (drop m ds))) axioms
    → Indexed left_types left_constants left_axioms (take m ds)
first_left types left_types constants left_constants axioms left_axioms ds m indexed t c a = (
  t ∙ ap (λ r. take (length r - length (types_in (drop m ds))) r) indexed.0 ∙ cut_behind pure_types (types_in (take m ds)) (types_in (drop m ds)) (types_parts m ds),
  c ∙ ap (λ r. take (length r - length (constants_in (drop m ds))) r) indexed.1 ∙ cut_behind pure_constants (constants_in (take m ds)) (constants_in (drop m ds)) (constants_parts m ds),
  a ∙ ap (λ r. take (length r - length (axioms_in (drop m ds))) r) indexed.2 ∙ cut_behind [] (axioms_in (take m ds)) (axioms_in (drop m ds)) (axioms_parts m ds),
  props_first (axioms_in (take m ds)) (axioms_in (drop m ds)) (subst (λ r. AreProps r) (axioms_parts m ds) indexed.3),
)

pub behind_all : {X : Type 0} (m : ℕ) (xs : List X) → take (length xs - m) (drop m xs) ≡ drop m xs
behind_all zero xs = let e : length xs - 0 ≡ length xs = omega arith in ap (λ n. take n xs) e ∙ take_whole xs
  where
    take_whole : {X : Type 0} (xs : List X) → take (length xs) xs ≡ xs
    take_whole [] = refl
    take_whole (x ∷ xs) = ap (λ r. x ∷ r) (take_whole xs)
behind_all {X} (suc m) [] = let e : 0 - suc m ≡ 0 = omega arith in ap (λ n. take {A = X} n []) e
behind_all (suc m) (x ∷ xs) = let e : suc (length xs) - suc m ≡ length xs - m = omega arith in ap (λ n. take n (drop m xs)) e ∙ behind_all m xs

-- those behind are no more than all
few_behind : {X : Type 0} (P A B C : List X) → C ≡ A ++ B → length B ≤ length (P ++ C)
few_behind P A B C e = omega (arith, length-append P C, ap length e, length-append A B)

pub types_behind : (types : List (List ℕ × ℕ)) (ds : List Declaration) (m : ℕ) → types ≡ pure_types ++ types_in ds → length (types_in (drop m ds)) ≤ length types
types_behind types ds m e = omega (arith, ap length e, few_behind pure_types (types_in (take m ds)) (types_in (drop m ds)) (types_in ds) (types_parts m ds))

pub constants_behind : (constants : List (List ℕ × Ty)) (ds : List Declaration) (m : ℕ) → constants ≡ pure_constants ++ constants_in ds → length (constants_in (drop m ds)) ≤ length constants
constants_behind constants ds m e = omega (arith, ap length e, few_behind pure_constants (constants_in (take m ds)) (constants_in (drop m ds)) (constants_in ds) (constants_parts m ds))

pub axioms_behind : (axioms : List (List ℕ × Tm)) (ds : List Declaration) (m : ℕ) → axioms ≡ axioms_in ds → length (axioms_in (drop m ds)) ≤ length axioms
axioms_behind axioms ds m e = omega (arith, ap length e, few_behind [] (axioms_in (take m ds)) (axioms_in (drop m ds)) (axioms_in ds) (axioms_parts m ds))
