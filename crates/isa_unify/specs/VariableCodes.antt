-- How variables of binders are stored.
use Rattle.std.specs.Prelude.{ℕ, List, refl}
use Rattle.std.specs.Coded.{Coded, code_by, coded×, coded_ℕ, coded_list}
use Rattle.isa_terms.specs.Types.{Ty}
use Rattle.isa_terms.specs.Codes.{coded_ty}
use Rattle.isa_unify.specs.declared.equation.Variable.{Variable}

abbrev pub variable_code : Coded Variable
variable_code = code_by (List ℕ × Ty) (coded× (coded_list coded_ℕ) coded_ty) (λ v. (v.name, v.typ)) (λ p. record { name = p.0; typ = p.1 }) (λ _. refl)
