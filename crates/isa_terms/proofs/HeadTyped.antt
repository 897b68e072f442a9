-- The head's type tells the type of a well-typed term.
use Rattle.std.proofs.Common.{◌≡◌, List, [], Some, None, refl, sym, ap, ◌∙◌, subst}
use Rattle.std.specs.Prelude.{option_map, option_and_then}
use Rattle.isa_terms.specs.Types.{Ty}
use Rattle.isa_terms.specs.Terms.{Tm}
use Rattle.isa_terms.specs.Typing.{HasType, function_of}
use Rattle.isa_terms.specs.HeadTypes.{IsWellTyped, range_of, head_type}
use Rattle.isa_terms.proofs.Typed.{Typed, TConst, TFree, TUnknown, TBound, TAbs, TApp, typed_of_type}

pub head_typed : {G : List Ty} {t : Tm} {T : Ty} → Typed G t T → head_type G t ≡ Some T
head_typed TConst = refl
head_typed TFree = refl
head_typed TUnknown = refl
head_typed (TBound h) = h
head_typed (TAbs {G} {x} {S} {T} {b} d) = ap (option_map (λ B. function_of S B)) (head_typed d)
head_typed (TApp {G} {S} {T} {f} {a} d e) = ap (option_and_then range_of) (head_typed d)

told : (t : Tm) (U : Ty) → HasType t U → head_type [] t ≡ Some U
told t U h = head_typed (typed_of_type [] t U h)

pub known_type : (t : Tm) (T : Ty) → IsWellTyped t → head_type [] t ≡ Some T → HasType t T
known_type t T w e =
    let k : Some w.0 ≡ Some T = sym (told t w.0 w.1) ∙ e in
    let q : w.0 ≡ T = cc in
    subst (λ U. HasType t U) q w.1

pub known_some : (t : Tm) → IsWellTyped t → head_type [] t ≡ None → ⊥
known_some t w e = let k : Some w.0 ≡ None = sym (told t w.0 w.1) ∙ e in cc
