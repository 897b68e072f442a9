-- How the logic stores ends and accepted theorems.
use Rattle.std.specs.Prelude.{refl, ℕ, List}
use Rattle.std.specs.Coded.{Coded, code_by, coded×, coded_list, coded_ℕ}
use Rattle.isa_terms.specs.Codes.{coded_tm}
use Rattle.isa_terms.specs.Terms.{Tm}
use Rattle.isa_kernel.specs.NamedProps.{named_prop_code}
use Rattle.isa_kernel.specs.declared.axioms.NamedProp.{NamedProp}
use Rattle.isa_kernel.specs.Theorem.{Theorem, theorem_code}
use Rattle.isa_cert.specs.declared.certs.Accepted.{Accepted}
use Rattle.isa_cert.specs.declared.table.End.{End}

abbrev pub end_code : Coded End
end_code = code_by (List ℕ × Theorem) (coded× (coded_list coded_ℕ) theorem_code) (λ e. (e.name, e.theorem)) (λ p. record { name = p.0; theorem = p.1 }) (λ _. refl)

abbrev pub accepted_code : Coded Accepted
accepted_code = code_by (List ℕ × (List NamedProp × Tm)) (coded× (coded_list coded_ℕ) (coded× (coded_list named_prop_code) coded_tm)) (λ a. (a.name, (a.axioms, a.prop))) (λ p. record { name = p.0; axioms = p.1.0; prop = p.1.1 }) (λ _. refl)
