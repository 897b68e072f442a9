-- How the logic stores the entries of an instance.
use Rattle.std.specs.Prelude.{ℕ, List, refl}
use Rattle.std.specs.Coded.{Coded, code_by, coded×, coded_ℕ, coded_list}
use Rattle.isa_terms.specs.Types.{Ty}
use Rattle.isa_terms.specs.Terms.{Tm}
use Rattle.isa_terms.specs.Codes.{coded_ty, coded_tm}
use Rattle.isa_terms.specs.declared.inst.TypeEntry.{TypeEntry}
use Rattle.isa_terms.specs.declared.inst.TermEntry.{TermEntry}
use Rattle.isa_terms.specs.Instance.{Instance}

abbrev coded_name : Coded (List ℕ)
coded_name = coded_list coded_ℕ

abbrev pub coded_type_entry : Coded TypeEntry
coded_type_entry =
    code_by (List ℕ × (ℕ × Ty)) (coded× coded_name (coded× coded_ℕ coded_ty)) (λ e. (e.name, (e.number, e.typ))) (λ p. record { name = p.0; number = p.1.0; typ = p.1.1 }) (λ _. refl)

abbrev pub coded_term_entry : Coded TermEntry
coded_term_entry =
    code_by (List ℕ × (ℕ × (Ty × Tm))) (coded× coded_name (coded× coded_ℕ (coded× coded_ty coded_tm))) (λ e. (e.name, (e.number, (e.typ, e.term)))) (λ p. record { name = p.0; number = p.1.0; typ = p.1.1.0; term = p.1.1.1 }) (λ _. refl)

abbrev pub coded_instance : Coded Instance
coded_instance =
    code_by (List TypeEntry × List TermEntry) (coded× (coded_list coded_type_entry) (coded_list coded_term_entry)) (λ s. (s.types, s.terms)) (λ p. record { types = p.0; terms = p.1 }) (λ _. refl)
