-- What is read tells what the answers say.
use Rattle.std.proofs.Common.{◌≡◌, ◌≢◌, ℕ, Bool, List, [], Result, Ok, Err, refl, sym, ap, subst, ◌∙◌}
use Rattle.isa_terms.specs.Types.{Ty}
use Rattle.isa_terms.specs.Terms.{Tm}
use Rattle.isa_kernel.specs.Logic.{prop}
use Rattle.isa_raw.specs.RawTerms.{Raw, RawTyped}
use Rattle.isa_inner_text.specs.declared.refusal.Refusal.{Refusal}
use Rattle.isa_inner_text.specs.declared.refusal.Refusal.TheVariants as refusal
use Rattle.isa_inner_text.specs.Reading.{type_why}
use Rattle.isa_inner_text.specs.Texts as inner
use Rattle.isa_typing.specs.Principal.{IsPrincipal, HasNoTyping}
use Rattle.isa_typing.proofs.WellTyped.{principal_terms_are_typed_law, annotations_hold_law, variables_have_one_type_law}
use Rattle.isa_outer.specs.declared.refusal.Kind.{Kind}
use Rattle.isa_outer.specs.declared.refusal.Kind.TheVariants as kind
use Rattle.isa_inner_text.specs.Signatures.{SignatureSeen}
use Rattle.isa_typing.specs.Scopes.{declared_in}
use Rattle.isa_syntax.specs.Syntaxes.{SyntaxSeen}
use Rattle.isa_syntax.specs.Refusals.{kind_of}
use Rattle.isa_syntax.specs.Reading.{TellsProp, IsRead, IsRefused, HasNoTypes, TellsType, IsType, IsNoType, Answers, types_of}
use Rattle.isa_syntax.specs.Private.Typed.{IsInferred}
use Rattle.isa_syntax.specs.Laws.{IsTold, ToldPropsAreTyped}

-- want of memory is told as such
memory_kind : (why : Refusal) → why ≡ refusal.Memory → kind_of why ≡ kind.Memory
memory_kind why e = ap kind_of e

pub inferred_tells : (s : SyntaxSeen) (schematic : Bool) (text : List ℕ) (raw : Raw) (r : Result Tm Kind) → inner.Answers s.signature schematic text (Ok raw) → IsInferred (types_of s) (RawTyped raw prop) r → Answers (TellsProp s schematic text) r
inferred_tells s schematic text raw (Ok t) a p = IsRead a.0 t a.2 (subst (λ (u : Raw). IsPrincipal (types_of s) (RawTyped u prop) t) (sym a.1) p)
inferred_tells s schematic text raw (Err k) a p = λ n. let q = p n in
    subst (λ (j : Kind). TellsProp s schematic text (Err j)) (sym q.0)
    (HasNoTypes a.0 a.2 (subst (λ (u : Raw). HasNoTyping (types_of s) (RawTyped u prop)) (sym a.1) q.1))

pub refusal_tells : (s : SyntaxSeen) (schematic : Bool) (text : List ℕ) (why : Refusal) → inner.Answers s.signature schematic text (Err why) → Answers {A = Tm} (TellsProp s schematic text) (Err (kind_of why))
refusal_tells s schematic text why a = λ n. IsRefused why (a (λ e. n (memory_kind why e)))

pub type_tells : (s : SyntaxSeen) (schematic : Bool) (text : List ℕ) (T : Ty) → inner.AnswersType s.signature schematic text (Ok T) → Answers (TellsType s schematic text) (Ok T)
type_tells s schematic text T a = IsType T a.0 a.1

pub type_refusal_tells : (s : SyntaxSeen) (schematic : Bool) (text : List ℕ) (why : Refusal) → inner.AnswersType s.signature schematic text (Err why) → Answers {A = Ty} (TellsType s schematic text) (Err (kind_of why))
type_refusal_tells s schematic text why a = λ n.
    let w = a (λ e. n (memory_kind why e)) in
    subst (λ (j : Refusal). TellsType s schematic text (Err (kind_of j))) (sym w.2) (IsNoType w.0 w.1 w.3)

pub refused_type : (s : SyntaxSeen) (schematic : Bool) (text : List ℕ) (sig : SignatureSeen) (why : Refusal) (k : Kind) → sig ≡ s.signature → k ≡ kind_of why → inner.AnswersType sig schematic text (Err why) → Answers {A = Ty} (TellsType s schematic text) (Err k)
refused_type s schematic text sig why k e f a =
    subst (λ (j : Kind). Answers {A = Ty} (TellsType s schematic text) (Err j)) (sym f)
    (type_refusal_tells s schematic text why (subst (λ (g : SignatureSeen). inner.AnswersType g schematic text (Err why)) e a))

pub untyped : (es fs : List (List ℕ × Ty)) (u v : Raw) → es ≡ fs → u ≡ v → HasNoTyping (declared_in es) u → HasNoTyping (declared_in fs) v
untyped es fs u v e f h = subst (λ (gs : List (List ℕ × Ty)). HasNoTyping (declared_in gs) v) e (subst (λ (w : Raw). HasNoTyping (declared_in es) w) f h)

-- a principal term is a proposition where the text is read as one
told : (s : SyntaxSeen) (raw : Raw) (t : Tm) → IsPrincipal (types_of s) (RawTyped raw prop) t → IsTold t
told s raw t p = record {
  proposition = annotations_hold_law (types_of s) raw prop t p;
  normal = (principal_terms_are_typed_law (types_of s) (RawTyped raw prop) t p).1.1;
  variables = variables_have_one_type_law (types_of s) (RawTyped raw prop) t p;
}

abbrev IfProp : Result Tm Kind → Type 0
IfProp (Ok t) = IsTold t
IfProp (Err k) = Unit {0}

told_prop : (s : SyntaxSeen) (schematic : Bool) (text : List ℕ) (r : Result Tm Kind) → TellsProp s schematic text r → IfProp r
told_prop s schematic text _ (IsRead part t g p) = told s part.term t p
told_prop s schematic text _ (IsRefused why g) = tt
told_prop s schematic text _ (HasNoTypes part g n) = tt

pub told_props : ToldPropsAreTyped
told_props s schematic text t h = told_prop s schematic text (Ok t) h
