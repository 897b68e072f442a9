-- A text tells one thing at most.
use Rattle.std.proofs.Common.{◌≡◌, ℕ, Bool, List, [], Result, Ok, Err, refl, sym, ap, subst, ◌∙◌}
use Rattle.isa_terms.specs.Types.{Ty}
use Rattle.isa_terms.specs.Terms.{Tm}
use Rattle.isa_kernel.specs.Logic.{prop}
use Rattle.isa_raw.specs.RawTerms.{Raw, RawTyped}
use Rattle.isa_inner_types.specs.declared.token.TypeRefusal.{TypeRefusal}
use Rattle.isa_inner_types.specs.declared.token.TextToken.{TextToken}
use Rattle.isa_inner_types.specs.TypeReading as types
use Rattle.isa_inner_types.proofs.TypeOutcomes.{one_outcome as one_type_outcome}
use Rattle.isa_inner_tokens.specs.declared.cutting.Word.{Word}
use Rattle.isa_inner_text.specs.declared.refusal.Refusal.{Refusal}
use Rattle.isa_inner_text.specs.declared.part.Part.{Part}
use Rattle.isa_inner_text.specs.Reading.{Outcome, Read, Refused, type_why}
use Rattle.isa_inner_text.specs.Signature.{tokens_of}
use Rattle.isa_inner_text.specs.Texts.{Gives, GivesType}
use Rattle.isa_inner_text.proofs.OneOutcome.{one_reading, cut_once}
use Rattle.isa_typing.specs.Principal.{IsPrincipal, HasNoTyping}
use Rattle.isa_outer.specs.declared.refusal.Kind.{Kind}
use Rattle.isa_outer.specs.declared.refusal.Kind.TheVariants as kind
use Rattle.isa_syntax.specs.Syntaxes.{SyntaxSeen}
use Rattle.isa_syntax.specs.Refusals.{kind_of}
use Rattle.isa_syntax.specs.Reading.{TellsProp, IsRead, IsRefused, HasNoTypes, TellsType, IsType, IsNoType, types_of}
use Rattle.isa_syntax.specs.Laws.{OneProp, OneType}
use Rattle.isa_syntax.proofs.OneTerm.{one_principal, typed_or_not}

part_same : (p q : Part) (ts us : List TextToken) → Read p ts ≡ Read q us → p ≡ q
part_same p q ts us e = cc

why_same : (w v : Refusal) → Refused w ≡ Refused v → w ≡ v
why_same w v e = cc

not_both : (p : Part) (ts : List TextToken) (w : Refusal) → Read p ts ≡ Refused w → ⊥
not_both p ts w e = cc

-- what a text that is read tells
from_read : (s : SyntaxSeen) (schematic : Bool) (text : List ℕ) (part : Part) (t : Tm) → Gives s.signature schematic text (Read part []) → IsPrincipal (types_of s) (RawTyped part.term prop) t → (b : Result Tm Kind) → TellsProp s schematic text b → Ok t ≡ b
from_read s schematic text part t g p _ (IsRead part' t' g' p') =
    let e : part ≡ part' = part_same part part' [] [] (one_reading s.signature schematic text (Read part []) (Read part' []) g g') in
    ap Ok (one_principal (types_of s) (RawTyped part.term prop) t t' p (subst (λ (q : Part). IsPrincipal (types_of s) (RawTyped q.term prop) t') (sym e) p'))
from_read s schematic text part t g p _ (IsRefused why g') = absurd (not_both part [] why (one_reading s.signature schematic text (Read part []) (Refused why) g g'))
from_read s schematic text part t g p _ (HasNoTypes part' g' n) =
    let e : part ≡ part' = part_same part part' [] [] (one_reading s.signature schematic text (Read part []) (Read part' []) g g') in
    absurd (typed_or_not (types_of s) (RawTyped part.term prop) t p (subst (λ (q : Part). HasNoTyping (types_of s) (RawTyped q.term prop)) (sym e) n))

from_refused : (s : SyntaxSeen) (schematic : Bool) (text : List ℕ) (why : Refusal) → Gives s.signature schematic text (Refused why) → (b : Result Tm Kind) → TellsProp s schematic text b → Err (kind_of why) ≡ b
from_refused s schematic text why g _ (IsRead part t g' p) = absurd (not_both part [] why (one_reading s.signature schematic text (Read part []) (Refused why) g' g))
from_refused s schematic text why g _ (IsRefused why' g') = ap (λ (w : Refusal). Err (kind_of w)) (why_same why why' (one_reading s.signature schematic text (Refused why) (Refused why') g g'))
from_refused s schematic text why g _ (HasNoTypes part g' n) = absurd (not_both part [] why (one_reading s.signature schematic text (Read part []) (Refused why) g' g))

from_untyped : (s : SyntaxSeen) (schematic : Bool) (text : List ℕ) (part : Part) → Gives s.signature schematic text (Read part []) → HasNoTyping (types_of s) (RawTyped part.term prop) → (b : Result Tm Kind) → TellsProp s schematic text b → Err kind.Types ≡ b
from_untyped s schematic text part g n _ (IsRead part' t g' p) =
    let e : part ≡ part' = part_same part part' [] [] (one_reading s.signature schematic text (Read part []) (Read part' []) g g') in
    absurd (typed_or_not (types_of s) (RawTyped part.term prop) t (subst (λ (q : Part). IsPrincipal (types_of s) (RawTyped q.term prop) t) (sym e) p) n)
from_untyped s schematic text part g n _ (IsRefused why g') = absurd (not_both part [] why (one_reading s.signature schematic text (Read part []) (Refused why) g g'))
from_untyped s schematic text part g n _ (HasNoTypes part' g' n') = refl

one : (s : SyntaxSeen) (schematic : Bool) (text : List ℕ) (a : Result Tm Kind) → TellsProp s schematic text a → (b : Result Tm Kind) → TellsProp s schematic text b → a ≡ b
one s schematic text _ (IsRead part t g p) b h = from_read s schematic text part t g p b h
one s schematic text _ (IsRefused why g) b h = from_refused s schematic text why g b h
one s schematic text _ (HasNoTypes part g n) b h = from_untyped s schematic text part g n b h

pub one_prop : OneProp
one_prop s schematic text a b g h = one s schematic text a g b h

-- types
one_type_reading : (s : SyntaxSeen) (schematic : Bool) (text : List ℕ) (o u : types.Outcome) → GivesType s.signature schematic text o → GivesType s.signature schematic text u → o ≡ u
one_type_reading s schematic text o u g h =
    one_type_outcome (types.type_text (tokens_of s.signature schematic g.0)) o u g.2
    (subst (λ (ws : List Word). types.Runs (types.type_text (tokens_of s.signature schematic ws)) u) (sym (cut_once s.signature.signs text g.0 g.1 h.0 h.1)) h.2)

type_same : (T S : Ty) (h k : ℕ) → types.Read T h [] ≡ types.Read S k [] → T ≡ S
type_same T S h k e = cc

type_not_both : (T : Ty) (h : ℕ) (w : TypeRefusal) (at : List TextToken) → types.Read T h [] ≡ types.Refused w at → ⊥
type_not_both T h w at e = cc

type_why_same : (w v : TypeRefusal) (at bt : List TextToken) → types.Refused w at ≡ types.Refused v bt → type_why w at ≡ type_why v bt
type_why_same w v at bt e = let a : w ≡ v = cc in let b : at ≡ bt = cc in λ i. type_why (a i) (b i)

from_type : (s : SyntaxSeen) (schematic : Bool) (text : List ℕ) (T : Ty) (h : ℕ) → GivesType s.signature schematic text (types.Read T h []) → (b : Result Ty Kind) → TellsType s schematic text b → Ok T ≡ b
from_type s schematic text T h g _ (IsType S k g') = ap Ok (type_same T S h k (one_type_reading s schematic text (types.Read T h []) (types.Read S k []) g g'))
from_type s schematic text T h g _ (IsNoType w at g') = absurd (type_not_both T h w at (one_type_reading s schematic text (types.Read T h []) (types.Refused w at) g g'))

from_no_type : (s : SyntaxSeen) (schematic : Bool) (text : List ℕ) (w : TypeRefusal) (at : List TextToken) → GivesType s.signature schematic text (types.Refused w at) → (b : Result Ty Kind) → TellsType s schematic text b → Err (kind_of (type_why w at)) ≡ b
from_no_type s schematic text w at g _ (IsType S k g') = absurd (type_not_both S k w at (one_type_reading s schematic text (types.Read S k []) (types.Refused w at) g' g))
from_no_type s schematic text w at g _ (IsNoType v bt g') = ap (λ (r : Refusal). Err (kind_of r)) (type_why_same w v at bt (one_type_reading s schematic text (types.Refused w at) (types.Refused v bt) g g'))

one_of_type : (s : SyntaxSeen) (schematic : Bool) (text : List ℕ) (a : Result Ty Kind) → TellsType s schematic text a → (b : Result Ty Kind) → TellsType s schematic text b → a ≡ b
one_of_type s schematic text _ (IsType T h g) b k = from_type s schematic text T h g b k
one_of_type s schematic text _ (IsNoType w at g) b k = from_no_type s schematic text w at g b k

pub one_type : OneType
one_type s schematic text a b g h = one_of_type s schematic text a g b h
