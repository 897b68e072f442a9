-- How equations are stored.
use Rattle.std.specs.Prelude.{List, refl}
use Rattle.std.specs.Coded.{Coded, code_by, coded×, coded_list}
use Rattle.isa_terms.specs.Terms.{Tm}
use Rattle.isa_terms.specs.Codes.{coded_tm}
use Rattle.isa_unify.specs.declared.equation.Variable.{Variable}
use Rattle.isa_unify.specs.declared.equation.Equation.{Equation}
use Rattle.isa_unify.specs.VariableCodes.{variable_code}

abbrev pub equation_code : Coded Equation
equation_code =
    code_by (List Variable × (Tm × Tm)) (coded× (coded_list variable_code) (coded× coded_tm coded_tm)) (λ e. (e.binders, (e.left, e.right))) (λ p. record { binders = p.0; left = p.1.0; right = p.1.1 }) (λ _. refl)
