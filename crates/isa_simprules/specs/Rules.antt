-- Rewrite rules.
-- Source: conditional rewrite rules (the Isabelle/Isar Reference Manual, "The Simplifier"; Baader and Nipkow, "Term Rewriting and All That", 1998).
use Rattle.std.specs.Prelude.{◌≡◌, refl, ℕ, List, [], ◌∷◌, ◌++◌, Bool, true, option_to_list, Option, Some, None}
use Rattle.std.specs.Coded.{Coded, code_by, coded×, coded_list, coded_bool}
use Rattle.isa_terms.specs.Codes.{coded_tm}
use Rattle.isa_terms.specs.Terms.{Tm}
use Rattle.isa_terms.specs.Normal.{IsNormal}
use Rattle.isa_kernel.specs.Forms.{◌>>=◌, eq_parts}
use Rattle.isa_kernel.specs.Theorem.{Theorem, theorem_code}
use Rattle.isa_subgoal.specs.Premises.{premises, conclusion}
use Rattle.isa_simprules.specs.Renamings.{is_renamed}

-- `conditions ==> left == right`, whether its sides are equal up to a renaming of unknowns, and the theorem that says so
pub record Rule : Type 0 where
  pub conditions : List Tm
  pub left : Tm
  pub right : Tm
  pub permutes : Bool
  pub thm : Theorem

abbrev pub rule_code : Coded Rule
rule_code = code_by (List Tm × (Tm × (Tm × (Bool × Theorem)))) (coded× (coded_list coded_tm) (coded× coded_tm (coded× coded_tm (coded× coded_bool theorem_code))))
    (λ r. (r.conditions, (r.left, (r.right, (r.permutes, r.thm))))) (λ p. record { conditions = p.0; left = p.1.0; right = p.1.1.0; permutes = p.1.1.1.0; thm = p.1.1.1.1 }) (λ _. refl)

-- the theorem as a rule, where its conclusion is an equation
abbrev pub rule_of : Theorem → Option Rule
rule_of th = do
  parts ← eq_parts (conclusion th.prop)
  Some (record { conditions = premises th.prop; left = parts.1; right = parts.2; permutes = is_renamed parts.1 parts.2; thm = th })

-- a rule is what its theorem says
abbrev pub IsRule : Rule → Type 0
IsRule r = rule_of r.thm ≡ Some r

-- those of the theorems that are rules, as rules
abbrev pub rules_in : List Theorem → List Rule
rules_in [] = []
rules_in (th ∷ ths) = option_to_list (rule_of th) ++ rules_in ths
