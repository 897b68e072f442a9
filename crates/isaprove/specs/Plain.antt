-- Plain propositions: those that are proved and printed today.
-- Source: this project.
use Rattle.std.specs.Prelude.{ℕ, Bool, true, false, ◌&&◌, ◌||◌, not, List, [], ◌∷◌, codes}
use Rattle.isa_terms.specs.Terms.{Tm, Const, Free, Unknown, Bound, Abs, App}
use Rattle.isa_terms.specs.Equal.{name_eq}
use Rattle.isa_kernel.specs.Theorem.{Theorem}
use Rattle.isa_goal.specs.Matching.{is_first_order}
use Rattle.isa_print.specs.Text.{is_constant}
use Rattle.isa_theory.specs.Contexts.{ContextSeen, judgment_name}

-- whether one of these constants, those with a notation, has the name
abbrev pub is_notated : List (List ℕ) → List ℕ → Bool
is_notated [] x = false
is_notated (y ∷ ys) x = name_eq y x || is_notated ys x

-- whether the term has neither an abstraction nor a constant with a notation
abbrev pub is_plain_term : List (List ℕ) → Tm → Bool
is_plain_term notated (Const x T) = not (is_notated notated x)
is_plain_term notated (Free x T) = true
is_plain_term notated (Unknown x i T) = true
is_plain_term notated (Bound i) = false
is_plain_term notated (Abs x T b) = false
is_plain_term notated (App f a) = is_plain_term notated f && is_plain_term notated a

-- whether it is built by `==>` from the judgment of such terms
abbrev pub is_plain_prop : List ℕ → List (List ℕ) → Tm → Bool
is_plain_prop judgment notated (App (App c a) b) = is_constant (codes "Pure.imp") c && (is_plain_prop judgment notated a && is_plain_prop judgment notated b)
is_plain_prop judgment notated (App (Const x T) t) = name_eq x judgment && is_plain_term notated t
is_plain_prop judgment notated _ = false

-- and holds neither an unknown of a function type nor a type unknown
unfoldable pub is_plain : ContextSeen → Tm → Bool
is_plain c t = is_first_order t && is_plain_prop (judgment_name c) c.syntax.signature.notated t

abbrev pub are_plain : ContextSeen → List Theorem → Bool
are_plain c [] = true
are_plain c (th ∷ ths) = is_plain c th.prop && are_plain c ths
