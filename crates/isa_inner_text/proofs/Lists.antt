-- Lists that are walked from an end.
use Rattle.std.proofs.Common.{◌≡◌, Bool, List, [], ◌∷◌, ◌++◌, refl, sym, ap, ◌∙◌, append_assoc}
use Rattle.isa_inner.specs.declared.token.InfixSign.TheVariants as infix_sign
use Rattle.isa_inner.specs.declared.token.BinderSign.{BinderSign}
use Rattle.isa_inner_tokens.specs.declared.cutting.Word.{Word}
use Rattle.isa_inner_types.specs.declared.token.TextToken.{TextToken}
use Rattle.isa_raw.specs.RawTerms.{Raw, RawAbs}
use Rattle.isa_inner_text.specs.Signatures.{SignatureSeen}
use Rattle.isa_inner_text.specs.declared.part.Variable.{Variable}
use Rattle.isa_inner_text.specs.Signature.{token_of, tokens_of}
use Rattle.isa_inner_text.specs.Parts.{under, implied, between, binder_term}

pub under_last : (sig : SignatureSeen) (s : BinderSign) (vs : List Variable) (v : Variable) (t : Raw) → under sig s (vs ++ v ∷ []) t ≡ under sig s vs (binder_term sig s (RawAbs v.name v.typ t))
under_last sig s [] v t = refl
under_last sig s (u ∷ vs) v t = ap (λ (b : Raw). binder_term sig s (RawAbs u.name u.typ b)) (under_last sig s vs v t)

pub implied_last : (sig : SignatureSeen) (before : List Raw) (a c : Raw) → implied sig (before ++ a ∷ []) c ≡ implied sig before (between sig infix_sign.Implies a c)
implied_last sig [] a c = refl
implied_last sig (b ∷ before) a c = ap (between sig infix_sign.Implies b) (implied_last sig before a c)

pub tokens_step : (sig : SignatureSeen) (schematic : Bool) (done more whole : List TextToken) (w : Word) (t : TextToken) (rest after : List Word) → (done ++ tokens_of sig schematic rest) ≡ whole → rest ≡ w ∷ after → t ≡ token_of sig schematic w → more ≡ (done ++ t ∷ []) → (more ++ tokens_of sig schematic after) ≡ whole
tokens_step sig schematic done more whole w t rest after e f g m =
    ap (λ (ts : List TextToken). ts ++ tokens_of sig schematic after) m
    ∙ append_assoc done (t ∷ []) (tokens_of sig schematic after)
    ∙ ap (λ (x : TextToken). done ++ x ∷ tokens_of sig schematic after) g
    ∙ ap (λ (ws : List Word). done ++ tokens_of sig schematic ws) (sym f)
    ∙ e
