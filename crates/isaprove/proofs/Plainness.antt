-- Plain propositions.
use Rattle.std.proofs.Common.{◌≡◌, ℕ, List, Bool, true, ◌&&◌, sym, ap, ◌∙◌}
use Rattle.isa_terms.specs.Terms.{Tm}
use Rattle.isa_goal.specs.Matching.{is_first_order}
use Rattle.isa_inner_text.specs.Signatures.{SignatureSeen}
use Rattle.isa_syntax.specs.Syntaxes.{SyntaxSeen}
use Rattle.isa_theory.specs.Contexts.{ContextSeen, judgment_name}
use Rattle.isaprove.specs.Plain.{is_plain_prop, is_plain}

pub plain_is : (c : ContextSeen) (t : Tm) (j : List ℕ) (s : SyntaxSeen) (g : SignatureSeen) (ns : List (List ℕ)) (b : Bool) → is_first_order t ≡ true → j ≡ judgment_name c → s ≡ c.syntax → g ≡ s.signature → ns ≡ g.notated → b ≡ is_plain_prop j ns t → b ≡ is_plain c t
unfolding is_plain
plain_is c t j s g ns b f e x y z r =
    let signature : g ≡ c.syntax.signature = y ∙ ap (λ (w : SyntaxSeen). w.signature) x in
    let notated : ns ≡ c.syntax.signature.notated = z ∙ ap (λ (w : SignatureSeen). w.notated) signature in
    r ∙ ap (λ (w : List ℕ). is_plain_prop w ns t) e ∙ ap (λ (ws : List (List ℕ)). is_plain_prop (judgment_name c) ws t) notated
    ∙ ap (λ (w : Bool). w && is_plain_prop (judgment_name c) c.syntax.signature.notated t) (sym f)
