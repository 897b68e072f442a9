-- What lines add.
use Rattle.std.proofs.Common.{◌≡◌, ℕ, suc, ◌+◌, ◌-◌, ◌<◌, ◌≤◌, List, [], ◌∷◌, ◌++◌, Bool, true, false, ◌||◌, cond, Option, Some, None, Result, Ok, Err, is_some, length, drop, get_or, refl, sym, ap, ◌∙◌, subst, append_assoc, arith}
use Rattle.std.specs.Map.{lookup}
use Rattle.std.specs.Prelude.{option_map, slice_get}
use Rattle.std.specs.Cmp.Lexicographic.{bytes_decides}
use Rattle.isa_terms.specs.Types.{Ty, TyUnknown}
use Rattle.isa_terms.specs.Terms.{Tm, Unknown}
use Rattle.isa_terms.specs.Equal.{name_eq}
use Rattle.isa_terms.specs.Entries.{passes, set_first}
use Rattle.isa_terms.specs.Instance.{Instance, find_type, find_term, same_type_unknown, same_unknown, set_type, set_term}
use Rattle.isa_terms.specs.declared.inst.TypeEntry.{TypeEntry}
use Rattle.isa_terms.specs.declared.inst.TermEntry.{TermEntry}
use Rattle.isa_kernel.specs.Theorem.{Theorem}
use Rattle.isa_kernel.specs.Theories.{axiom_prop, axioms_in, axiom_theorem, axiom_refusal}
use Rattle.isa_kernel.specs.declared.declarations.TheoryFail.{TheoryFail}
use Rattle.isa_cert.specs.declared.line.Line.TheVariants as line
use Rattle.isa_kernel.specs.declared.declarations.Declaration.{Declaration}
use Rattle.isa_kernel.specs.declared.declarations.Declaration.TheVariants as declared
use Rattle.isa_kernel.proofs.Theories.{axioms_append}
use Rattle.isa_cert.specs.declared.table.Table.{Table}
use Rattle.isa_cert.specs.Checking.{Fault, Form, Typed, taken, with_axiom, or_form, type_entry, term_entry, with_entry, type_pair, term_pair}

-- ---- axioms
last_if : {V : Type 0} (k : List ℕ) (v w : V) (es : List (List ℕ × V)) (b : Bool) → cond b (Some w) (lookup (name_eq k) es) ≡ None → (lookup (name_eq k) es ≡ None → lookup (name_eq k) (es ++ (k, v) ∷ []) ≡ Some v) → cond b (Some w) (lookup (name_eq k) (es ++ (k, v) ∷ [])) ≡ Some v
last_if k v w es true h more = cc
last_if k v w es false h more = more h

lookup_last : {V : Type 0} (k : List ℕ) (v : V) (es : List (List ℕ × V)) → lookup (name_eq k) es ≡ None → lookup (name_eq k) (es ++ (k, v) ∷ []) ≡ Some v
lookup_last k v [] h = ap (λ b. cond b (Some v) None) ((bytes_decides k k).1 refl)
lookup_last k v (e ∷ es) h = last_if k v e.1 es (name_eq k e.0) h (lookup_last k v es)

-- a new axiom is there afterwards
pub axiom_there : (ds : List Declaration) (x : List ℕ) (p : Tm) → axiom_prop ds x ≡ None → axiom_prop (ds ++ declared.Axiom x p ∷ []) x ≡ Some p
axiom_there ds x p h = ap (λ (es : List (List ℕ × Tm)). lookup (name_eq x) es) (axioms_append ds (declared.Axiom x p ∷ [])) ∙ lookup_last x p (axioms_in ds) h

pub axiom_taken : (ds later : List Declaration) (x : List ℕ) (p : Tm) (th : Theorem) → axiom_prop ds x ≡ None → later ≡ ds ++ declared.Axiom x p ∷ [] → option_map (axiom_theorem x) (axiom_prop later x) ≡ Some th → th ≡ axiom_theorem x p
axiom_taken ds later x p th h e a =
    let there : axiom_prop later x ≡ Some p = ap (λ (xs : List Declaration). axiom_prop xs x) e ∙ axiom_there ds x p h in
    let same : Some th ≡ Some (axiom_theorem x p) = sym a ∙ ap (λ (o : Option Tm). option_map (axiom_theorem x) o) there in
    cc (same)

-- ---- instances
found_if : (b c : Bool) (T : Ty) (o : Option Ty) → c ≡ is_some o → (b || c) ≡ is_some (cond b (Some T) o)
found_if true c T o h = refl
found_if false c T o h = h

-- a type unknown has an entry where one is found for it
pub type_found : (x : List ℕ) (i : ℕ) (T : Ty) (es : List TypeEntry) → passes (same_type_unknown (record { name = x; number = i; typ = T })) es ≡ is_some (find_type x i es)
type_found x i T [] = refl
type_found x i T (e ∷ es) = found_if _ (passes (same_type_unknown (record { name = x; number = i; typ = T })) es) e.typ (find_type x i es) (type_found x i T es)

term_found_if : (b c : Bool) (t : Tm) (o : Option Tm) → c ≡ is_some o → (b || c) ≡ is_some (cond b (Some t) o)
term_found_if true c t o h = refl
term_found_if false c t o h = h

-- an unknown has an entry where one is found for it
pub term_found : (x : List ℕ) (i : ℕ) (T : Ty) (u : Tm) (es : List TermEntry) → passes (same_unknown (record { name = x; number = i; typ = T; term = u })) es ≡ is_some (find_term x i T es)
term_found x i T u [] = refl
term_found x i T u (e ∷ es) = term_found_if _ (passes (same_unknown (record { name = x; number = i; typ = T; term = u })) es) e.term (find_term x i T es) (term_found x i T u es)

last_there : {A : Type 0} (test : A → Bool) (a e : A) (es : List A) (b : Bool) → (b || passes test es) ≡ false → (passes test es ≡ false → set_first test a es ≡ es ++ a ∷ []) → cond b (a ∷ es) (e ∷ set_first test a es) ≡ e ∷ (es ++ a ∷ [])
last_there test a e es true h more = cc
last_there test a e es false h more = ap (λ r. e ∷ r) (more h)

-- where no entry is for it a new one stands last
pub set_new : {A : Type 0} (test : A → Bool) (a : A) (es : List A) → passes test es ≡ false → set_first test a es ≡ es ++ a ∷ []
set_new test a [] h = refl
set_new test a (e ∷ es) h = last_there test a e es (test e) h (set_new test a es)

abbrev err_form : (A : Type 0) → Result A Fault
err_form A = Err Form

abbrev err_typed : (A : Type 0) → Result A Fault
err_typed A = Err Typed

none_of : {A : Type 0} (o : Option A) → is_some o ≡ false → o ≡ None
none_of None e = refl
none_of (Some a) e = cc

abbrev ok_form : {A : Type 0} → A → Result A Fault
ok_form a = Ok a

pair_of_types : (t : Table) (es : List TypeEntry) (u v : ℕ) (x : List ℕ) (i : ℕ) (S T : Ty) → slice_get t.types u ≡ Some S → S ≡ TyUnknown x i → slice_get t.types v ≡ Some T → type_pair t es (u, v) ≡ with_entry same_type_unknown es (record { name = x; number = i; typ = T })
pair_of_types t es u v x i S T e s f =
    ap (λ (o : Option Ty). or_form o (λ S. or_form (slice_get t.types v) (λ T. or_form (type_entry S T) (with_entry same_type_unknown es)))) (e ∙ ap (λ (S : Ty). Some S) s)
    ∙ ap (λ (o : Option Ty). or_form o (λ T. or_form (type_entry (TyUnknown x i) T) (with_entry same_type_unknown es))) f

-- a pair whose type unknown has a type already
pub type_twice : (t : Table) (es : List TypeEntry) (u v : ℕ) (x : List ℕ) (i : ℕ) (S T : Ty) → slice_get t.types u ≡ Some S → S ≡ TyUnknown x i → slice_get t.types v ≡ Some T → is_some (find_type x i es) ≡ true → type_pair t es (u, v) ≡ Err Form
type_twice t es u v x i S T e s f h =
    let d : TypeEntry = record { name = x; number = i; typ = T } in
    pair_of_types t es u v x i S T e s f ∙ ap (λ b. cond b (err_form (List TypeEntry)) (Ok (es ++ d ∷ []))) (type_found x i T es ∙ h)

-- a pair whose type unknown has none
pub type_put : (t : Table) (old later : Instance) (u v : ℕ) (x y : List ℕ) (i : ℕ) (S T V : Ty) → slice_get t.types u ≡ Some S → S ≡ TyUnknown x i → slice_get t.types v ≡ Some T → is_some (find_type x i old.types) ≡ false → y ≡ x → V ≡ T
    → later ≡ record { types = set_type (record { name = y; number = i; typ = V }) old.types; terms = old.terms } → type_pair t old.types (u, v) ≡ Ok later.types
type_put t old later u v x y i S T V e s f h n m k =
    let d : TypeEntry = record { name = x; number = i; typ = T } in
    let new : passes (same_type_unknown d) old.types ≡ false = type_found x i T old.types ∙ h in
    let put : later.types ≡ set_type d old.types = ap (λ (s : Instance). s.types) k ∙ ap (λ (z : List ℕ). set_type (record { name = z; number = i; typ = V }) old.types) n ∙ ap (λ (W : Ty). set_type (record { name = x; number = i; typ = W }) old.types) m in
    pair_of_types t old.types u v x i S T e s f
    ∙ ap (λ b. cond b (err_form (List TypeEntry)) (Ok (old.types ++ d ∷ []))) new
    ∙ ap (λ (es : List TypeEntry). ok_form es) (sym (set_new (same_type_unknown d) d old.types new) ∙ sym put)

pair_of_terms : (t : Table) (es : List TermEntry) (u v : ℕ) (x : List ℕ) (i : ℕ) (S : Ty) (a b : Tm) → slice_get t.terms u ≡ Some a → a ≡ Unknown x i S → slice_get t.terms v ≡ Some b → term_pair t es (u, v) ≡ with_entry same_unknown es (record { name = x; number = i; typ = S; term = b })
pair_of_terms t es u v x i S a b e s f =
    ap (λ (o : Option Tm). or_form o (λ a. or_form (slice_get t.terms v) (λ b. or_form (term_entry a b) (with_entry same_unknown es)))) (e ∙ ap (λ (a : Tm). Some a) s)
    ∙ ap (λ (o : Option Tm). or_form o (λ b. or_form (term_entry (Unknown x i S) b) (with_entry same_unknown es))) f

-- a pair whose unknown has a term already
pub term_twice : (t : Table) (es : List TermEntry) (u v : ℕ) (x : List ℕ) (i : ℕ) (S : Ty) (a b : Tm) → slice_get t.terms u ≡ Some a → a ≡ Unknown x i S → slice_get t.terms v ≡ Some b → is_some (find_term x i S es) ≡ true → term_pair t es (u, v) ≡ Err Form
term_twice t es u v x i S a b e s f h =
    let d : TermEntry = record { name = x; number = i; typ = S; term = b } in
    pair_of_terms t es u v x i S a b e s f ∙ ap (λ b. cond b (err_form (List TermEntry)) (Ok (es ++ d ∷ []))) (term_found x i S b es ∙ h)

-- a pair whose unknown has none
pub term_put : (t : Table) (old later : Instance) (u v : ℕ) (x y : List ℕ) (i : ℕ) (S V : Ty) (a b w : Tm) → slice_get t.terms u ≡ Some a → a ≡ Unknown x i S → slice_get t.terms v ≡ Some b → is_some (find_term x i S old.terms) ≡ false → y ≡ x → V ≡ S → w ≡ b
    → later ≡ record { types = old.types; terms = set_term (record { name = y; number = i; typ = V; term = w }) old.terms } → term_pair t old.terms (u, v) ≡ Ok later.terms
term_put t old later u v x y i S V a b w e s f h n m q k =
    let d : TermEntry = record { name = x; number = i; typ = S; term = b } in
    let new : passes (same_unknown d) old.terms ≡ false = term_found x i S b old.terms ∙ h in
    let put : later.terms ≡ set_term d old.terms =
    ap (λ (s : Instance). s.terms) k
    ∙ ap (λ (z : List ℕ). set_term (record { name = z; number = i; typ = V; term = w }) old.terms) n
    ∙ ap (λ (W : Ty). set_term (record { name = x; number = i; typ = W; term = w }) old.terms) m
    ∙ ap (λ (z : Tm). set_term (record { name = x; number = i; typ = S; term = z }) old.terms) q in
    pair_of_terms t old.terms u v x i S a b e s f
    ∙ ap (λ b. cond b (err_form (List TermEntry)) (Ok (old.terms ++ d ∷ []))) new
    ∙ ap (λ (es : List TermEntry). ok_form es) (sym (set_new (same_unknown d) d old.terms new) ∙ sym put)

-- an axiom is added
pub axiom_line : (t : Table) (x : List ℕ) (e : ℕ) (p q : Tm) (th : Theorem) (ds : List Declaration) (ths : List Theorem) → slice_get t.terms e ≡ Some q → p ≡ q → is_some (axiom_prop t.declared x) ≡ false → axiom_refusal t.declared x p ≡ None → ds ≡ t.declared ++ declared.Axiom x p ∷ [] → option_map (axiom_theorem x) (axiom_prop ds x) ≡ Some th → ths ≡ t.axioms ++ th ∷ []
    → taken t (line.Axiom x e) ≡ Ok (record t { declared = ds; axioms = ths })
axiom_line t x e p q th ds ths s c n r d a k =
    let made : th ≡ axiom_theorem x p = axiom_taken t.declared ds x p th (none_of (axiom_prop t.declared x) n) d a in
    ap (λ (o : Option Tm). or_form o (with_axiom t x)) (s ∙ ap (λ (u : Tm). Some u) (sym c))
    ∙ ap (λ b. cond b (err_form Table) (cond (is_some (axiom_refusal t.declared x p)) (Err Typed) (Ok (record t { declared = t.declared ++ declared.Axiom x p ∷ []; axioms = t.axioms ++ axiom_theorem x p ∷ [] })))) n
    ∙ ap (λ (o : Option TheoryFail). cond (is_some o) (err_typed Table) (Ok (record t { declared = t.declared ++ declared.Axiom x p ∷ []; axioms = t.axioms ++ axiom_theorem x p ∷ [] }))) r
    ∙ ap (λ (es : List Declaration). let u : Table = record t { declared = es; axioms = t.axioms ++ axiom_theorem x p ∷ [] } in ok_form u) (sym d)
    ∙ ap (λ (z : Theorem). let u : Table = record t { declared = ds; axioms = t.axioms ++ z ∷ [] } in ok_form u) (sym made)
    ∙ ap (λ (zs : List Theorem). let u : Table = record t { declared = ds; axioms = zs } in ok_form u) (sym k)
