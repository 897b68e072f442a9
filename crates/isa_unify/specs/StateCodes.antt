-- How a state is stored.
use Rattle.std.specs.Prelude.{ℕ, List, refl}
use Rattle.std.specs.Coded.{Coded, code_by, coded×, coded_ℕ, coded_list}
use Rattle.isa_terms.specs.EntryCodes.{coded_type_entry, coded_term_entry}
use Rattle.isa_terms.specs.declared.inst.TypeEntry.{TypeEntry}
use Rattle.isa_terms.specs.declared.inst.TermEntry.{TermEntry}
use Rattle.isa_unify.specs.declared.equation.Equation.{Equation}
use Rattle.isa_unify.specs.declared.progress.State.{State}
use Rattle.isa_unify.specs.EquationCodes.{equation_code}

abbrev pub state_code : Coded State
state_code =
    code_by (List Equation × (List TypeEntry × (List TermEntry × (ℕ × ℕ)))) (coded× (coded_list equation_code) (coded× (coded_list coded_type_entry) (coded× (coded_list coded_term_entry) (coded× coded_ℕ coded_ℕ)))) (λ s. (s.equations, (s.types, (s.terms, (s.next, s.left))))) (λ p. record { equations = p.0; types = p.1.0; terms = p.1.1.0; next = p.1.1.1.0; left = p.1.1.1.1 }) (λ _. refl)
