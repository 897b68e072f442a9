-- What is declared and proved rests on the declared axioms, whatever commands are taken.
use Rattle.std.proofs.Common.{◌≡◌, ℕ, List, [], ◌∷◌, ◌++◌, map, Bool, true, false, cond, Option, Some, None, Ok, Err, inl, inr, refl, sym, ap, subst, ◌∙◌}
use Rattle.std.specs.Prelude.{option_map, is_some}
use Rattle.std.specs.Option.{option_or}
use Rattle.std.specs.declared.result.Result.{Result}
use Rattle.std.specs.Map.{lookup}
use Rattle.std.proofs.lemmas.List.{map-append}
use Rattle.isa_terms.specs.Terms.{Tm, bare}
use Rattle.isa_terms.specs.Types.{Ty}
use Rattle.isa_terms.specs.Typing.{TypeFault, type_at}
use Rattle.isa_terms.specs.Equal.{name_eq, ty_eq}
use Rattle.isa_kernel.specs.Logic.{prop, IsProposition}
use Rattle.isa_kernel.specs.Forms.{predicate_of}
use Rattle.isa_kernel.specs.declared.declarations.Declaration.{Declaration}
use Rattle.isa_kernel.specs.declared.declarations.Declaration.TheVariants.{Constructor, Constant, Axiom}
use Rattle.isa_kernel.specs.declared.declarations.TheoryFail.{TheoryFail}
use Rattle.isa_kernel.specs.declared.declarations.TheoryFail.TheVariants as fail
use Rattle.isa_kernel.specs.Axioms.{propositions}
use Rattle.isa_kernel.specs.Derivation.{Member, Within}
use Rattle.isa_kernel.specs.Theorem.{Theorem, IsDerived}
use Rattle.isa_kernel.specs.Theories.{AreProps, axioms_in, axiom_prop, axiom_theorem, axiom_refusal, type_refusal, constant_refusal, no_prop, duplicate, unknown_in, misfit_in, constant_type}
use Rattle.isa_kernel.proofs.Members.{Member-left}
use Rattle.isa_kernel.proofs.Theories.{axioms_append, axiom_sound, axiom_is_prop, is_prop}
use Rattle.isa_outer.specs.declared.refusal.Kind.{Kind}
use Rattle.isa_outer.specs.declared.refusal.Kind.TheVariants as kind
use Rattle.isa_outer.specs.declared.refusal.Sort.{Sort}
use Rattle.isa_outer.specs.declared.refusal.Sort.TheVariants as sort
use Rattle.isa_outer.specs.declared.command.Inner.{Inner}
use Rattle.isa_outer.specs.declared.command.Constant.{Constant as NewConstant}
use Rattle.isa_outer.specs.declared.command.Label.{Label}
use Rattle.isa_outer.specs.declared.command.Axiom.{Axiom as NewAxiom}
use Rattle.isa_outer.specs.declared.command.Declaration.{Declaration as Declared}
use Rattle.isa_outer.specs.declared.command.Attribute.{Attribute}
use Rattle.isa_outer.specs.declared.command.Setting.{Setting}
use Rattle.isa_outer.specs.declared.command.Command.{Command}
use Rattle.isa_outer.specs.declared.command.Command.TheVariants as command
use Rattle.isa_syntax.specs.Syntaxes.{SyntaxSeen}
use Rattle.isa_syntax.specs.Syntaxes as syntax
use Rattle.isa_syntax.specs.Notations as notations
use Rattle.isa_outer.specs.declared.command.Notation.{Notation}
use Rattle.isa_theory.specs.Contexts.{ContextSeen, fact_of, judgment_name}
use Rattle.isa_theory.specs.General.{general_type, general_prop, variable_names}
use Rattle.isa_theory.specs.MethodFacts.{method_facts}
use Rattle.isa_theory.specs.Reading.{IsTypeOf, IsPropOf}
use Rattle.isa_theory.specs.Options.{with_setting}
use Rattle.isa_theory.specs.Results.{◌>>=◌, each, or_refused}
use Rattle.isa_theory.specs.Told.{Reading, FailsCheck, IsUnread, IsRead, Each, IsDone, Stops, GoesOn, Then, IsRefused, Leads}
use Rattle.isa_theory.specs.Applying.{declared, new_name, in_syntax, with_type, with_constant, new_constant, with_notation, constant_of, WithNewConstant, WithConstants, new_judgment, predicate_type, judgment_of, WithJudgment, with_fact, new_fact, known_fact, known_facts, all_known, axiom_fact, axiom_of, WithAxiom, WithAxioms, logic_with, with_attribute, with_attribute_on, with_attributes, with_declared, with_labels, WithAxiomatization, with_lemmas, declared_facts, with_each_declared, with_declarations, with_option, with_wrapper, IsGoalOf, WithGoal, Applied}
use Rattle.isa_theory.specs.Storing.{general_of, with_named, with_closed, named_with, closed_with, kept}
use Rattle.isa_kernel.specs.Axioms.{axioms_of as axioms_of_base}
use Rattle.isa_kernel.specs.declared.axioms.NamedProp.{NamedProp}
use Rattle.isa_kernel.specs.Citing.{cited}
use Rattle.isa_kernel.specs.Inferences.{generalized}
use Rattle.isa_kernel.proofs.Members.{cite_axioms}
use Rattle.isa_kernel.proofs.Recorded.{cited_sound}
use Rattle.isa_kernel.proofs.Generals.{generalized_sound}
use Rattle.isaprove.specs.Sound.{axioms_of}
use Rattle.isaprove.proofs.Standing.{Within-trans, IsKept, AreKept}

-- ---- steps that may be refused
pub bind_ok : {A B : Type 0} (m : Result A Kind) (f : A → Result B Kind) {b : B} → (m >>= f) ≡ Ok b → (a : A) × (m ≡ Ok a) × (f a ≡ Ok b)
bind_ok (Ok a) f e = (a, refl, e)
bind_ok (Err k) f e = absurd (cc (e))

pub some_ok : {A : Type 0} (k : Kind) (o : Option A) {a : A} → or_refused k o ≡ Ok a → o ≡ Some a
some_ok k None e = absurd (cc (e))
some_ok k (Some x) e = cc (e)

-- ---- steps for each item
each_keeps : {A B : Type 0} (P : A → Type 0) (f : A → B → Result A Kind) (a : A) (bs : List B) (e : A) → ((a : A) (b : B) (e : A) → P a → f a b ≡ Ok e → P e) → P a → each f a bs ≡ Ok e → P e
each_keeps P f a [] e k p h = let same : a ≡ e = cc (h) in subst P same p
each_keeps P f a (b ∷ bs) e k p h =
    let d = bind_ok (f a b) _ h in
    each_keeps P f d.0 bs e k (k a b d.0 p d.1) d.2

-- ---- what is told
reading_ok : {A B : Type 0} (check : Result (Unit {0}) Kind) (tells : Result A Kind → Type 0) (rest : A → Result B Kind) (r : Result B Kind) (b : B) → Reading check tells rest r → r ≡ Ok b → (a : A) × (rest a ≡ Ok b)
reading_ok {A} {B} check tells rest _ b (FailsCheck k c) e = absurd (cc (e))
reading_ok {A} {B} check tells rest _ b (IsUnread k c p) e = absurd (cc (e))
reading_ok {A} {B} check tells rest _ b (IsRead a r c p q) e = (a, q ∙ e)

then_ok : {A B : Type 0} (first : Result A Kind → Type 0) (rest : A → Result B Kind) (r : Result B Kind) (b : B) → Then first rest r → r ≡ Ok b → (a : A) × first (Ok a) × (rest a ≡ Ok b)
then_ok {A} {B} first rest _ b (IsRefused k p) e = absurd (cc (e))
then_ok {A} {B} first rest _ b (Leads a r p q) e = (a, p, q ∙ e)

told_keeps : {A B : Type 0} (P : A → Type 0) (step : A → B → Result A Kind → Type 0) → ((a : A) (b : B) (c : A) → P a → step a b (Ok c) → P c) → (a : A) (bs : List B) (r : Result A Kind) (e : A) → Each step a bs r → r ≡ Ok e → P a → P e
told_keeps {A} {B} P step k _ _ _ e (IsDone a) h p = let same : a ≡ e = cc (h) in subst P same p
told_keeps {A} {B} P step k _ _ _ e (Stops a b bs j q) h p = absurd (cc (h))
told_keeps {A} {B} P step k _ _ _ e (GoesOn a c b bs r q g) h p = told_keeps P step k c bs r e g h (k a b c p q)

-- ---- more axioms
kept_more : (ax bx : List Tm) (th : Theorem) → Within ax bx → IsKept ax th → IsKept bx th
kept_more ax bx th w k = record { derived = k.derived; closed = k.closed; rests = Within-trans (propositions th.base) ax bx k.rests w }

are_kept_more : (ax bx : List Tm) (ths : List Theorem) → Within ax bx → AreKept ax ths → AreKept bx ths
are_kept_more ax bx [] w k = tt
are_kept_more ax bx (th ∷ ths) w k = (kept_more ax bx th w k.0, are_kept_more ax bx ths w k.1)

pub AreKept-append : (ax : List Tm) (ths more : List Theorem) → AreKept ax ths → AreKept ax more → AreKept ax (ths ++ more)
AreKept-append ax [] more k m = m
AreKept-append ax (th ∷ ths) more k m = (k.0, AreKept-append ax ths more k.1 m)

-- the theorems of all facts
abbrev pub FactsKept : List Tm → List (List ℕ × List Theorem) → Type 0
FactsKept ax [] = Unit {0}
FactsKept ax (f ∷ fs) = AreKept ax f.1 × FactsKept ax fs

facts_more : (ax bx : List Tm) (fs : List (List ℕ × List Theorem)) → Within ax bx → FactsKept ax fs → FactsKept bx fs
facts_more ax bx [] w k = tt
facts_more ax bx (f ∷ fs) w k = (are_kept_more ax bx f.1 w k.0, facts_more ax bx fs w k.1)

FactsKept-append : (ax : List Tm) (fs gs : List (List ℕ × List Theorem)) → FactsKept ax fs → FactsKept ax gs → FactsKept ax (fs ++ gs)
FactsKept-append ax [] gs k m = m
FactsKept-append ax (f ∷ fs) gs k m = (k.0, FactsKept-append ax fs gs k.1 m)

-- Each declared axiom is a proposition, and each theorem has a derivation from the declared axioms.
pub record IsGrounded (c : ContextSeen) : Type 0 where
  pub props : AreProps (axioms_in c.theory)
  pub facts : FactsKept (axioms_of c.theory) c.facts

-- ---- more declarations
axioms_grow : (ds more : List Declaration) → Within (axioms_of ds) (axioms_of (ds ++ more))
axioms_grow ds more =
    subst
    (λ (ps : List Tm). Within (axioms_of ds) ps)
    (sym (ap (λ (xs : List (List ℕ × Tm)). map (λ a. bare a.1) xs) (axioms_append ds more) ∙ map-append (λ (a : List ℕ × Tm). bare a.1) (axioms_in ds) (axioms_in more)))
    (λ p m. Member-left p (axioms_of ds) (axioms_of more) m)

AreProps-append : (xs ys : List (List ℕ × Tm)) → AreProps xs → AreProps ys → AreProps (xs ++ ys)
AreProps-append [] ys p q = q
AreProps-append (x ∷ xs) ys p q = (p.0, AreProps-append xs ys p.1 q)

grown : (c : ContextSeen) (d : Declaration) → AreProps (axioms_in (d ∷ [])) → IsGrounded c → IsGrounded (record c { theory = c.theory ++ d ∷ [] })
grown c d p g =
    record {
      props = subst (λ (xs : List (List ℕ × Tm)). AreProps xs) (sym (axioms_append c.theory (d ∷ []))) (AreProps-append (axioms_in c.theory) (axioms_in (d ∷ [])) g.props p);
      facts = facts_more (axioms_of c.theory) (axioms_of (c.theory ++ d ∷ [])) c.facts (axioms_grow c.theory (d ∷ [])) g.facts;
    }

declared_ok : (s : Sort) (d : Declaration) (refusal : Option TheoryFail) (c : ContextSeen) {e : ContextSeen} → declared s d refusal c ≡ Ok e → (refusal ≡ None) × (record c { theory = c.theory ++ d ∷ [] } ≡ e)
declared_ok s d None c h = (refl, cc (h))
declared_ok s d (Some fault) c h = absurd (cc (h))

declared_grounded : (s : Sort) (d : Declaration) (refusal : Option TheoryFail) (c e : ContextSeen) → IsGrounded c → AreProps (axioms_in (d ∷ [])) → declared s d refusal c ≡ Ok e → IsGrounded e
declared_grounded s d refusal c e g p h = subst (λ (x : ContextSeen). IsGrounded x) (declared_ok s d refusal c h).1 (grown c d p g)

in_syntax_grounded : (c : ContextSeen) (next : Result SyntaxSeen Kind) (e : ContextSeen) → IsGrounded c → in_syntax c next ≡ Ok e → IsGrounded e
in_syntax_grounded c next e g h =
    let s = bind_ok next _ h in
    let same : record c { syntax = s.0 } ≡ e = cc (s.2) in
    subst (λ (x : ContextSeen). IsGrounded x) same (record { props = g.props; facts = g.facts })

type_grounded : (c : ContextSeen) (x : List ℕ) (n : ℕ) (e : ContextSeen) → IsGrounded c → with_type c x n ≡ Ok e → IsGrounded e
unfolding with_type
type_grounded c x n e g h =
    let d = bind_ok (declared sort.Type (Constructor x n) (type_refusal c.theory x) c) _ h in
    in_syntax_grounded d.0 (syntax.with_type d.0.syntax x n) e (declared_grounded sort.Type (Constructor x n) (type_refusal c.theory x) c d.0 g tt d.1) d.2

constant_grounded : (c : ContextSeen) (x : List ℕ) (T : Ty) (e : ContextSeen) → IsGrounded c → with_constant c x T ≡ Ok e → IsGrounded e
unfolding with_constant
constant_grounded c x T e g h =
    let d = bind_ok (declared sort.Constant (Constant x T) (constant_refusal c.theory x T) c) _ h in
    in_syntax_grounded d.0 (syntax.with_constant d.0.syntax x T) e (declared_grounded sort.Constant (Constant x T) (constant_refusal c.theory x T) c d.0 g tt d.1) d.2

notation_grounded : (c : ContextSeen) (x : List ℕ) (o : Option Notation) (e : ContextSeen) → IsGrounded c → with_notation c x o ≡ Ok e → IsGrounded e
unfolding with_notation
notation_grounded c x None e g h = let same : c ≡ e = cc (h) in subst (λ (d : ContextSeen). IsGrounded d) same g
notation_grounded c x (Some n) e g h = in_syntax_grounded c (notations.with_notation c.syntax x n) e g h

constant_of_grounded : (c : ContextSeen) (k : NewConstant) (T : Ty) (e : ContextSeen) → IsGrounded c → constant_of c k T ≡ Ok e → IsGrounded e
unfolding constant_of
constant_of_grounded c k T e g h =
    let d = bind_ok (with_constant c k.name (general_type T)) _ h in
    notation_grounded d.0 k.name k.notation e (constant_grounded c k.name (general_type T) d.0 g d.1) d.2

new_constant_grounded : (c : ContextSeen) (k : NewConstant) (e : ContextSeen) → IsGrounded c → WithNewConstant c k (Ok e) → IsGrounded e
new_constant_grounded c k e g h =
    let t = reading_ok (new_constant c k.name) (IsTypeOf c k.typ) (constant_of c k) (Ok e) e h refl in
    constant_of_grounded c k t.0 e g t.1

constants_grounded : (c : ContextSeen) (ks : List NewConstant) (e : ContextSeen) → IsGrounded c → WithConstants c ks (Ok e) → IsGrounded e
constants_grounded c ks e g h = told_keeps (λ d. IsGrounded d) WithNewConstant (λ d k e. new_constant_grounded d k e) c ks (Ok e) e h refl g

judgment_of_grounded : (c : ContextSeen) (x : List ℕ) (T : Ty) (e : ContextSeen) → IsGrounded c → judgment_of c x T ≡ Ok e → IsGrounded e
unfolding judgment_of
judgment_of_grounded c x T e g h =
    let u = bind_ok (predicate_type T) _ h in
    let d = bind_ok (with_constant c x (general_type T)) _ u.2 in
    in_syntax_grounded d.0 (syntax.with_judgment d.0.syntax x) e (constant_grounded c x (general_type T) d.0 g d.1) d.2

judgment_grounded : (c : ContextSeen) (x : List ℕ) (text : Inner) (e : ContextSeen) → IsGrounded c → WithJudgment c x text (Ok e) → IsGrounded e
judgment_grounded c x text e g h =
    let t = reading_ok (new_judgment c x) (IsTypeOf c text) (judgment_of c x) (Ok e) e h refl in
    judgment_of_grounded c x t.0 e g t.1

-- ---- facts
pub fact_grounded : (c : ContextSeen) (x : List ℕ) (ths : List Theorem) → IsGrounded c → AreKept (axioms_of c.theory) ths → IsGrounded (with_fact c x ths)
fact_grounded c x ths g k = record { props = g.props; facts = FactsKept-append (axioms_of c.theory) c.facts ((x, ths) ∷ []) g.facts (k, tt) }

looked_kept : (ax : List Tm) (f : List ℕ × List Theorem) (fs : List (List ℕ × List Theorem)) (x : List ℕ) (ths : List Theorem) (b : Bool) → AreKept ax f.1 → (lookup (name_eq x) fs ≡ Some ths → AreKept ax ths) → cond b (Some f.1) (lookup (name_eq x) fs) ≡ Some ths → AreKept ax ths
looked_kept ax f fs x ths true k r e = let same : f.1 ≡ ths = cc (e) in subst (λ (t : List Theorem). AreKept ax t) same k
looked_kept ax f fs x ths false k r e = r e

lookup_kept : (ax : List Tm) (fs : List (List ℕ × List Theorem)) (x : List ℕ) (ths : List Theorem) → FactsKept ax fs → lookup (name_eq x) fs ≡ Some ths → AreKept ax ths
lookup_kept ax [] x ths k e = absurd (cc (e))
lookup_kept ax (f ∷ fs) x ths k e = looked_kept ax f fs x ths (name_eq x f.0) k.0 (λ r. lookup_kept ax fs x ths k.1 r) e

known_fact_kept : (c : ContextSeen) (x : List ℕ) (ths : List Theorem) → IsGrounded c → known_fact c x ≡ Ok ths → AreKept (axioms_of c.theory) ths
unfolding known_fact
known_fact_kept c x ths g e = lookup_kept (axioms_of c.theory) c.facts x ths g.facts (some_ok (kind.Unknown sort.Fact x) (fact_of c x) e)

pub known_kept : (c : ContextSeen) (xs : List (List ℕ)) (ths : List Theorem) → IsGrounded c → known_facts c xs ≡ Ok ths → AreKept (axioms_of c.theory) ths
known_kept c [] ths g e = let same : [] ≡ ths = cc (e) in subst (λ (t : List Theorem). AreKept (axioms_of c.theory) t) same tt
known_kept c (x ∷ xs) ths g e =
    let a = bind_ok (known_fact c x) _ e in
    let m = bind_ok (known_facts c xs) _ a.2 in
    let same : a.0 ++ m.0 ≡ ths = cc (m.2) in
    subst (λ (t : List Theorem). AreKept (axioms_of c.theory) t) same (AreKept-append (axioms_of c.theory) a.0 m.0 (known_fact_kept c x a.0 g a.1) (known_kept c xs m.0 g m.1))

-- ---- axioms
or_none : {A : Type 0} (a b : Option A) → option_or a b ≡ None → b ≡ None
or_none None b e = e
or_none (Some x) b e = absurd (cc (e))

tested_prop : (p : Tm) (T : Ty) (b : Bool) → type_at [] p ≡ Ok T → ty_eq T prop ≡ b → cond b None (Some (fail.NotProp T)) ≡ None → IsProposition p
tested_prop p T true t e h = is_prop p T t e
tested_prop p T false t e h = absurd (cc (h))

no_prop_none : (p : Tm) (r : Result Ty TypeFault) → type_at [] p ≡ r → no_prop r ≡ None → IsProposition p
no_prop_none p (Ok T) t e = tested_prop p T (ty_eq T prop) t refl e
no_prop_none p (Err fault) t e = absurd (cc (e))

axiom_prop_of : (ds : List Declaration) (x : List ℕ) (p : Tm) → axiom_refusal ds x p ≡ None → IsProposition p
axiom_prop_of ds x p e =
    no_prop_none p (type_at [] p) refl
    (or_none (option_map fail.Misfit (misfit_in ds p)) (no_prop (type_at [] p))
    (or_none (option_map fail.Unknown (unknown_in ds p)) (option_or (option_map fail.Misfit (misfit_in ds p)) (no_prop (type_at [] p)))
    (or_none (duplicate x (is_some (axiom_prop ds x))) (option_or (option_map fail.Unknown (unknown_in ds p)) (option_or (option_map fail.Misfit (misfit_in ds p)) (no_prop (type_at [] p)))) e)))

looked_up : (x : List ℕ) (e : List ℕ × Tm) (es : List (List ℕ × Tm)) (q : Tm) (b : Bool) → (lookup (name_eq x) es ≡ Some q → Member (bare q) (map (λ a. bare a.1) es)) → cond b (Some e.1) (lookup (name_eq x) es) ≡ Some q → Member (bare q) (map (λ a. bare a.1) (e ∷ es))
looked_up x e es q true k h = let same : e.1 ≡ q = cc (h) in inl (ap bare (sym same))
looked_up x e es q false k h = inr (k h)

lookup_member : (x : List ℕ) (es : List (List ℕ × Tm)) (q : Tm) → lookup (name_eq x) es ≡ Some q → Member (bare q) (map (λ a. bare a.1) es)
lookup_member x [] q h = absurd (cc (h))
lookup_member x (e ∷ es) q h = looked_up x e es q (name_eq x e.0) (λ k. lookup_member x es q k) h

axiom_rests : (ds : List Declaration) (x : List ℕ) (q : Tm) → axiom_prop ds x ≡ Some q → Within (propositions (axiom_theorem x q).base) (axioms_of ds)
axiom_rests ds x q e p (inl same) = subst (λ (r : Tm). Member r (axioms_of ds)) (sym same) (lookup_member x (axioms_in ds) q e)
axiom_rests ds x q e p (inr none) = absurd none

axiom_kept : (c : ContextSeen) (x : List ℕ) (q : Tm) → IsGrounded c → axiom_prop c.theory x ≡ Some q → IsKept (axioms_of c.theory) (axiom_theorem x q)
axiom_kept c x q g e =
    record {
      derived = axiom_sound x q (axiom_theorem x q) refl (axiom_is_prop x (axioms_in c.theory) q g.props e);
      closed = refl;
      rests = axiom_rests c.theory x q e;
    }

mapped_kept : (c : ContextSeen) (x : List ℕ) (o : Option Tm) (th : Theorem) → IsGrounded c → axiom_prop c.theory x ≡ o → option_map (axiom_theorem x) o ≡ Some th → IsKept (axioms_of c.theory) th
mapped_kept c x None th g e h = absurd (cc (h))
mapped_kept c x (Some q) th g e h = let same : axiom_theorem x q ≡ th = cc (h) in subst (λ (t : Theorem). IsKept (axioms_of c.theory) t) same (axiom_kept c x q g e)

axiom_fact_kept : (c : ContextSeen) (x : List ℕ) (th : Theorem) → IsGrounded c → axiom_fact c x ≡ Ok th → IsKept (axioms_of c.theory) th
unfolding axiom_fact
axiom_fact_kept c x th g e = mapped_kept c x (axiom_prop c.theory x) th g refl (some_ok (kind.Unknown sort.Fact x) (option_map (axiom_theorem x) (axiom_prop c.theory x)) e)

axiom_of_grounded : (c : ContextSeen) (x : List ℕ) (t : Tm) (e : ContextSeen) → IsGrounded c → axiom_of c x t ≡ Ok e → IsGrounded e
unfolding axiom_of
axiom_of_grounded c x t e g h =
    let p : Tm = general_prop t in
    let d = bind_ok (declared sort.Fact (Axiom x p) (axiom_refusal c.theory x p) c) _ h in
    let th = bind_ok (axiom_fact d.0 x) _ d.2 in
    let none = declared_ok sort.Fact (Axiom x p) (axiom_refusal c.theory x p) c d.1 in
    let gd : IsGrounded d.0 = declared_grounded sort.Fact (Axiom x p) (axiom_refusal c.theory x p) c d.0 g (axiom_prop_of c.theory x p none.0, tt) d.1 in
    let same : with_fact d.0 x (th.0 ∷ []) ≡ e = cc (th.2) in
    subst (λ (y : ContextSeen). IsGrounded y) same (fact_grounded d.0 x (th.0 ∷ []) gd (axiom_fact_kept d.0 x th.0 gd th.1, tt))

axiom_grounded : (c : ContextSeen) (a : NewAxiom) (e : ContextSeen) → IsGrounded c → WithAxiom c a (Ok e) → IsGrounded e
axiom_grounded c a e g h =
    let t = reading_ok (new_fact c a.label.name) (IsPropOf c false a.prop) (axiom_of c a.label.name) (Ok e) e h refl in
    axiom_of_grounded c a.label.name t.0 e g t.1

axioms_grounded : (c : ContextSeen) (axioms : List NewAxiom) (e : ContextSeen) → IsGrounded c → WithAxioms c axioms (Ok e) → IsGrounded e
axioms_grounded c axioms e g h = told_keeps (λ d. IsGrounded d) WithAxiom (λ d a e. axiom_grounded d a e) c axioms (Ok e) e h refl g

-- ---- attributes change neither the axioms nor the facts
attribute_grounded : (c : ContextSeen) (a : Attribute) (th : Theorem) (e : ContextSeen) → IsGrounded c → with_attribute c a th ≡ Ok e → IsGrounded e
unfolding with_attribute
attribute_grounded c a th e g h =
    let l = bind_ok (logic_with (judgment_name c) c.logic a th) _ h in
    let same : record c { declarations = c.declarations ++ record { attribute = a; thm = th } ∷ []; logic = l.0 } ≡ e = cc (l.2) in
    subst (λ (d : ContextSeen). IsGrounded d) same (record { props = g.props; facts = g.facts })

attribute_on_grounded : (c : ContextSeen) (ths : List Theorem) (a : Attribute) (e : ContextSeen) → IsGrounded c → with_attribute_on c ths a ≡ Ok e → IsGrounded e
unfolding with_attribute_on
attribute_on_grounded c ths a e g h = each_keeps (λ d. IsGrounded d) (λ d th. with_attribute d a th) c ths e (λ d th e. attribute_grounded d a th e) g h

attributes_grounded : (c : ContextSeen) (attributes : List Attribute) (ths : List Theorem) (e : ContextSeen) → IsGrounded c → with_attributes c attributes ths ≡ Ok e → IsGrounded e
unfolding with_attributes
attributes_grounded c attributes ths e g h = each_keeps (λ d. IsGrounded d) (λ d a. with_attribute_on d ths a) c attributes e (λ d a e. attribute_on_grounded d ths a e) g h

fact_declared_grounded : (c : ContextSeen) (x : List ℕ) (attributes : List Attribute) (e : ContextSeen) → IsGrounded c → with_declared c x attributes ≡ Ok e → IsGrounded e
unfolding with_declared
fact_declared_grounded c x attributes e g h =
    let ths = bind_ok (known_fact c x) _ h in
    attributes_grounded c attributes ths.0 e g ths.2

labels_grounded : (c : ContextSeen) (axioms : List NewAxiom) (e : ContextSeen) → IsGrounded c → with_labels c axioms ≡ Ok e → IsGrounded e
labels_grounded c axioms e g h = each_keeps (λ d. IsGrounded d) (λ d a. with_declared d a.label.name a.label.attributes) c axioms e (λ d a e. fact_declared_grounded d a.label.name a.label.attributes e) g h

each_declared_grounded : (c : ContextSeen) (ds : List Declared) (e : ContextSeen) → IsGrounded c → with_each_declared c ds ≡ Ok e → IsGrounded e
each_declared_grounded c ds e g h = each_keeps (λ d. IsGrounded d) (λ e d. with_declared e d.fact d.attributes) c ds e (λ c d e. fact_declared_grounded c d.fact d.attributes e) g h

axiomatization_grounded : (c : ContextSeen) (axioms : List NewAxiom) (e : ContextSeen) → IsGrounded c → WithAxiomatization c axioms (Ok e) → IsGrounded e
axiomatization_grounded c axioms e g h =
    let d = then_ok (WithAxioms c axioms) (λ d. with_labels d axioms) (Ok e) e h refl in
    labels_grounded d.0 axioms e (axioms_grounded c axioms d.0 g d.1) d.2

lemmas_grounded : (c : ContextSeen) (label : Label) (xs : List (List ℕ)) (e : ContextSeen) → IsGrounded c → with_lemmas c label xs ≡ Ok e → IsGrounded e
unfolding with_lemmas
lemmas_grounded c label xs e g h =
    let u = bind_ok (new_fact c label.name) _ h in
    let t = bind_ok (known_facts c xs) _ u.2 in
    attributes_grounded (with_fact c label.name t.0) label.attributes t.0 e (fact_grounded c label.name t.0 g (known_kept c xs t.0 g t.1)) t.2

declarations_grounded : (c : ContextSeen) (ds : List Declared) (e : ContextSeen) → IsGrounded c → with_declarations c ds ≡ Ok e → IsGrounded e
unfolding with_declarations
declarations_grounded c ds e g h =
    let u = bind_ok (all_known c (declared_facts ds)) _ h in
    each_declared_grounded c ds e g u.2

option_grounded : (c : ContextSeen) (setting : Setting) (e : ContextSeen) → IsGrounded c → with_option c setting ≡ Ok e → IsGrounded e
unfolding with_option
option_grounded c setting e g h =
    let o = bind_ok (with_setting c.options setting) _ h in
    let same : record c { options = o.0 } ≡ e = cc (o.2) in
    subst (λ (d : ContextSeen). IsGrounded d) same (record { props = g.props; facts = g.facts })

wrapper_grounded : (c : ContextSeen) (xs : List (List ℕ)) (e : ContextSeen) → with_wrapper c xs ≡ Ok e → IsGrounded e
unfolding with_wrapper
wrapper_grounded c xs e h = let u = bind_ok (all_known c xs) _ h in absurd (cc (u.2))

goal_grounded : (c : ContextSeen) (schematic : Bool) (label : Option Label) (text : Inner) (e : ContextSeen) → IsGrounded c → WithGoal c schematic label text (Ok e) → IsGrounded e
goal_grounded c schematic label text e g h =
    let p = then_ok (IsGoalOf c schematic label text) (λ t. let z : Result ContextSeen Kind = Ok c in z) (Ok e) e h refl in
    let same : c ≡ e = cc (p.2) in
    subst (λ (d : ContextSeen). IsGrounded d) same g

-- ---- lemmas that are proved
general_is : (th : Theorem) (hs : List Tm) → hs ≡ [] → (let t : Theorem = record th { hyps = hs } in generalized (variable_names t.prop) t ≡ Some (general_of t))
general_is th hs e = subst (λ (xs : List Tm). let t : Theorem = record th { hyps = xs } in generalized (variable_names t.prop) t ≡ Some (general_of t)) (sym e) refl

-- the theorem with unknowns for its variables
pub general_kept : (ax : List Tm) (th : Theorem) → IsKept ax th → IsKept ax (general_of th)
general_kept ax th k =
    record {
      derived = generalized_sound (variable_names th.prop) th (general_of th) (general_is th th.hyps k.closed) k.derived;
      closed = k.closed;
      rests = k.rests;
    }

-- a theorem that is cited rests on the same axioms
cited_kept : (ax : List Tm) (n : ℕ) (th : Theorem) → IsKept ax th → IsKept ax (cited n th)
cited_kept ax n th k =
    record {
      derived = cited_sound n th k.closed k.derived;
      closed = refl;
      rests = subst (λ (axioms : List NamedProp). Within (map (λ a. bare a.prop) axioms) ax) (sym (cite_axioms n th.prop (axioms_of_base th.base))) k.rests;
    }

named_grounded : (c : ContextSeen) (o : Option (List ℕ)) (th : Theorem) → IsGrounded c → IsKept (axioms_of c.theory) th → IsGrounded (with_named c o th)
named_grounded c None th g k = g
named_grounded c (Some x) th g k = fact_grounded c x (th ∷ []) g (k, tt)

pub stored_grounded : (c : ContextSeen) (name : Option (List ℕ)) (attributes : List Attribute) (th : Theorem) (e : ContextSeen) → IsGrounded c → IsKept (axioms_of c.theory) th → closed_with c name attributes (kept c th) ≡ Ok e → IsGrounded e
unfolding closed_with named_with
stored_grounded c name attributes th e g k h =
    let last : Theorem = kept c th in
    let n : IsGrounded (with_named c name last) = named_grounded c name last g (cited_kept (axioms_of c.theory) _ (general_of th) (general_kept (axioms_of c.theory) th k)) in
    let d = bind_ok (with_attributes (with_named c name last) attributes (last ∷ [])) _ h in
    let gd : IsGrounded d.0 = attributes_grounded (with_named c name last) attributes (last ∷ []) d.0 n d.1 in
    let same : with_closed d.0 last ≡ e = cc (d.2) in
    subst (λ (x : ContextSeen). IsGrounded x) same (record { props = gd.props; facts = gd.facts })

-- ---- all commands
pub applied_grounded : (c : ContextSeen) (k : Command) (e : ContextSeen) → IsGrounded c → Applied c k (Ok e) → IsGrounded e
unfolding Applied
applied_grounded c (command.Typedecl line xs x) e g h = type_grounded c x _ e g h
applied_grounded c (command.Judgment line x text) e g h = judgment_grounded c x text e g h
applied_grounded c (command.Consts line ks) e g h = constants_grounded c ks e g h
applied_grounded c (command.Axiomatization line axioms) e g h = axiomatization_grounded c axioms e g h
applied_grounded c (command.Lemma line label text) e g h = goal_grounded c false label text e g h
applied_grounded c (command.SchematicGoal line label text) e g h = goal_grounded c true label text e g h
applied_grounded c (command.Lemmas line label xs) e g h = lemmas_grounded c label xs e g h
applied_grounded c (command.Declare line ds) e g h = declarations_grounded c ds e g h
applied_grounded c (command.DeclareOption line setting) e g h = option_grounded c setting e g h
applied_grounded c (command.Wrapper line safe before x m) e g h = wrapper_grounded c (method_facts m) e h
applied_grounded c (command.Apply line m) e g h = absurd (cc (h))
applied_grounded c (command.By line m) e g h = absurd (cc (h))
applied_grounded c (command.Done line) e g h = absurd (cc (h))
applied_grounded c (command.Back line) e g h = absurd (cc (h))
applied_grounded c (command.Oops line) e g h = absurd (cc (h))
applied_grounded c (command.Print line count) e g h = absurd (cc (h))
