-- Steps that read have one answer each, where what they read tells one thing.
use Rattle.std.proofs.Common.{◌≡◌, List, refl, sym, ap, subst, ◌∙◌}
use Rattle.std.specs.Prelude.{Bool, true, false, Option, Result, Ok, Err}
use Rattle.isa_outer.specs.declared.command.Command.TheVariants as command
use Rattle.isa_outer.specs.declared.command.Inner.{Inner}
use Rattle.isa_outer.specs.declared.command.Label.{Label}
use Rattle.isa_outer.specs.declared.command.Axiom.{Axiom as NewAxiom}
use Rattle.isa_outer.specs.declared.command.Constant.{Constant as NewConstant}
use Rattle.isa_outer.specs.declared.refusal.Kind.{Kind}
use Rattle.isa_syntax.proofs.OneThing.{one_prop, one_type}
use Rattle.isa_theory.specs.Contexts.{ContextSeen}
use Rattle.isa_theory.specs.Reading.{IsTypeOf, IsPropOf}
use Rattle.isa_theory.specs.Applying.{Applied, new_constant, constant_of, WithNewConstant, new_judgment, judgment_of, new_fact, axiom_of, WithAxiom, WithAxioms, with_labels, new_label, label_name, label_attributes, IsGoalOf}
use Rattle.isa_theory.specs.declared.lemma.Lemma.{Lemma}
use Rattle.isa_theory.specs.Laws.{OneLemma, OneNextContext}
use Rattle.isa_theory.specs.Told.{Reading, FailsCheck, IsUnread, IsRead, Each, IsDone, Stops, GoesOn, Then, IsRefused, Leads}

-- one answer at most
abbrev pub One : {A : Type 0} → (A → Type 0) → Type 0
One {A} P = (a b : A) → P a → P b → a ≡ b

kind_same : {A : Type 0} (j k : Kind) → (let e : Result A Kind = Err j in e) ≡ Err k → j ≡ k
kind_same {A} j k e = cc

ok_same : {A : Type 0} (a b : A) → (let e : Result A Kind = Ok a in e) ≡ Ok b → a ≡ b
ok_same {A} a b e = cc

not_both : {A : Type 0} (a : A) (k : Kind) → (let e : Result A Kind = Ok a in e) ≡ Err k → ⊥
not_both {A} a k e = cc

-- ---- known steps
pub one_known : {A : Type 0} (wanted : A) → One (λ r. wanted ≡ r)
one_known {A} wanted a b p q = sym p ∙ q

-- ---- a known step behind others
from_refused : {A B : Type 0} (first : Result A Kind → Type 0) (rest : A → Result B Kind) → One first → (k : Kind) → first (Err k) → (s : Result B Kind) → Then first rest s → Err k ≡ s
from_refused {A} {B} first rest one k p _ (IsRefused j q) = ap (λ (i : Kind). let z : Result B Kind = Err i in z) (kind_same k j (one (Err k) (Err j) p q))
from_refused {A} {B} first rest one k p _ (Leads a s q e) = absurd (not_both a k (one (Ok a) (Err k) q p))

from_leads : {A B : Type 0} (first : Result A Kind → Type 0) (rest : A → Result B Kind) → One first → (a : A) → first (Ok a) → (s : Result B Kind) → Then first rest s → rest a ≡ s
from_leads {A} {B} first rest one a p _ (IsRefused k q) = absurd (not_both a k (one (Ok a) (Err k) p q))
from_leads {A} {B} first rest one a p _ (Leads b s q e) = ap rest (ok_same a b (one (Ok a) (Ok b) p q)) ∙ e

pub one_then : {A B : Type 0} (first : Result A Kind → Type 0) (rest : A → Result B Kind) → One first → (r : Result B Kind) → Then first rest r → (s : Result B Kind) → Then first rest s → r ≡ s
one_then {A} {B} first rest one _ (IsRefused k p) s h = from_refused first rest one k p s h
one_then {A} {B} first rest one _ (Leads a r p e) s h = sym e ∙ from_leads first rest one a p s h

-- ---- a text behind a check
from_checked : {A B : Type 0} (check : Result (Unit {0}) Kind) (tells : Result A Kind → Type 0) (rest : A → Result B Kind) (k : Kind) → check ≡ Err k → (s : Result B Kind) → Reading check tells rest s → Err k ≡ s
from_checked {A} {B} check tells rest k c _ (FailsCheck j d) = ap (λ (i : Kind). let z : Result B Kind = Err i in z) (kind_same k j (sym c ∙ d))
from_checked {A} {B} check tells rest k c _ (IsUnread j d q) = absurd (not_both tt k (sym d ∙ c))
from_checked {A} {B} check tells rest k c _ (IsRead a s d q e) = absurd (not_both tt k (sym d ∙ c))

from_unread : {A B : Type 0} (check : Result (Unit {0}) Kind) (tells : Result A Kind → Type 0) (rest : A → Result B Kind) → One tells → (k : Kind) → check ≡ Ok tt → tells (Err k) → (s : Result B Kind) → Reading check tells rest s → Err k ≡ s
from_unread {A} {B} check tells rest one k c p _ (FailsCheck j d) = absurd (not_both tt j (sym c ∙ d))
from_unread {A} {B} check tells rest one k c p _ (IsUnread j d q) = ap (λ (i : Kind). let z : Result B Kind = Err i in z) (kind_same k j (one (Err k) (Err j) p q))
from_unread {A} {B} check tells rest one k c p _ (IsRead a s d q e) = absurd (not_both a k (one (Ok a) (Err k) q p))

from_read : {A B : Type 0} (check : Result (Unit {0}) Kind) (tells : Result A Kind → Type 0) (rest : A → Result B Kind) → One tells → (a : A) → check ≡ Ok tt → tells (Ok a) → (s : Result B Kind) → Reading check tells rest s → rest a ≡ s
from_read {A} {B} check tells rest one a c p _ (FailsCheck j d) = absurd (not_both tt j (sym c ∙ d))
from_read {A} {B} check tells rest one a c p _ (IsUnread j d q) = absurd (not_both a j (one (Ok a) (Err j) p q))
from_read {A} {B} check tells rest one a c p _ (IsRead b s d q e) = ap rest (ok_same a b (one (Ok a) (Ok b) p q)) ∙ e

pub one_reading : {A B : Type 0} (check : Result (Unit {0}) Kind) (tells : Result A Kind → Type 0) (rest : A → Result B Kind) → One tells → (r : Result B Kind) → Reading check tells rest r → (s : Result B Kind) → Reading check tells rest s → r ≡ s
one_reading {A} {B} check tells rest one _ (FailsCheck k c) s h = from_checked check tells rest k c s h
one_reading {A} {B} check tells rest one _ (IsUnread k c p) s h = from_unread check tells rest one k c p s h
one_reading {A} {B} check tells rest one _ (IsRead a r c p e) s h = sym e ∙ from_read check tells rest one a c p s h

-- ---- one step for each item
pub one_each : {A B : Type 0} (step : A → B → Result A Kind → Type 0) → ((a : A) (b : B) → One (step a b)) → (a : A) (bs : List B) (r : Result A Kind) → Each step a bs r → (s : Result A Kind) → Each step a bs s → r ≡ s
one_each {A} {B} step one _ _ _ (IsDone a) _ (IsDone _) = refl
one_each {A} {B} step one _ _ _ (Stops a b bs k p) _ (Stops _ _ _ j q) = one a b (Err k) (Err j) p q
one_each {A} {B} step one _ _ _ (Stops a b bs k p) _ (GoesOn _ c _ _ s q h) = absurd (not_both c k (one a b (Ok c) (Err k) q p))
one_each {A} {B} step one _ _ _ (GoesOn a c b bs r p g) _ (Stops _ _ _ k q) = absurd (not_both c k (one a b (Ok c) (Err k) p q))
one_each {A} {B} step one _ _ _ (GoesOn a c b bs r p g) _ (GoesOn _ d _ _ s q h) =
    one_each step one c bs r g s (subst (λ (x : A). Each step x bs s) (sym (ok_same c d (one a b (Ok c) (Ok d) p q))) h)

-- ---- texts
type_text : (c : ContextSeen) (text : Inner) → One (IsTypeOf c text)
type_text c text a b p q = one_type c.syntax false text.bytes a b p q

prop_text : (c : ContextSeen) (schematic : Bool) (text : Inner) → One (IsPropOf c schematic text)
prop_text c schematic text a b p q = one_prop c.syntax schematic text.bytes a b p q

-- ---- the parts of commands
one_constant : (c : ContextSeen) (k : NewConstant) → One (WithNewConstant c k)
one_constant c k a b p q = one_reading (new_constant c k.name) (IsTypeOf c k.typ) (constant_of c k) (type_text c k.typ) a p b q

one_axiom : (c : ContextSeen) (x : NewAxiom) → One (WithAxiom c x)
one_axiom c x a b p q = one_reading (new_fact c x.label.name) (IsPropOf c false x.prop) (axiom_of c x.label.name) (prop_text c false x.prop) a p b q

one_goal : (c : ContextSeen) (schematic : Bool) (label : Option Label) (text : Inner) → One (IsGoalOf c schematic label text)
one_goal c schematic label text a b p q = one_reading (new_label c label) (IsPropOf c schematic text) (λ t. Ok t) (prop_text c schematic text) a p b q

-- ---- all commands
pub one_next_context : OneNextContext
unfolding Applied
one_next_context c (command.Typedecl line xs x) a b p q = sym p ∙ q
one_next_context c (command.Judgment line x text) a b p q = one_reading (new_judgment c x) (IsTypeOf c text) (judgment_of c x) (type_text c text) a p b q
one_next_context c (command.Consts line ks) a b p q = one_each WithNewConstant one_constant c ks a p b q
one_next_context c (command.Axiomatization line axioms) a b p q = one_then (WithAxioms c axioms) (λ d. with_labels d axioms) (λ r s g h. one_each WithAxiom one_axiom c axioms r g s h) a p b q
one_next_context c (command.Lemma line label text) a b p q = one_then (IsGoalOf c false label text) (λ t. Ok c) (one_goal c false label text) a p b q
one_next_context c (command.SchematicGoal line label text) a b p q = one_then (IsGoalOf c true label text) (λ t. Ok c) (one_goal c true label text) a p b q
one_next_context c (command.Lemmas line label xs) a b p q = sym p ∙ q
one_next_context c (command.Declare line ds) a b p q = sym p ∙ q
one_next_context c (command.DeclareOption line setting) a b p q = sym p ∙ q
one_next_context c (command.Wrapper line safe before x m) a b p q = sym p ∙ q
one_next_context c (command.Apply line m) a b p q = sym p ∙ q
one_next_context c (command.By line m) a b p q = sym p ∙ q
one_next_context c (command.Done line) a b p q = sym p ∙ q
one_next_context c (command.Back line) a b p q = sym p ∙ q
one_next_context c (command.Oops line) a b p q = sym p ∙ q
one_next_context c (command.Print line count) a b p q = sym p ∙ q

pub one_lemma : OneLemma
one_lemma c schematic label text a b p q =
    one_then (IsGoalOf c schematic label text) (λ t. let z : Result Lemma Kind = Ok (record { line = text.line; name = label_name label; attributes = label_attributes label; goal = t }) in z) (one_goal c schematic label text) a p b q
