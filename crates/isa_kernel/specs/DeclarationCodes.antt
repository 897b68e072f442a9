-- How the logic stores declarations.
use Rattle.std.specs.Prelude.{refl, ◌≡◌, ℕ, List, [], nat_eq, cond}
use Rattle.std.specs.Coded.{Coded, code_by, coded×, coded_ℕ, coded_list}
use Rattle.isa_terms.specs.Types.{Ty, TyFixed}
use Rattle.isa_terms.specs.Terms.{Tm, Bound}
use Rattle.isa_terms.specs.Codes.{coded_ty, coded_tm}
use Rattle.isa_kernel.specs.declared.declarations.Declaration.{Declaration}
use Rattle.isa_kernel.specs.declared.declarations.Declaration.TheVariants.{Constructor, Constant, Axiom}

-- which sort it is, the name, and what the sort needs
abbrev Parts : Type 0
Parts = ℕ × (List ℕ × (ℕ × (Ty × Tm)))

abbrev parts : Declaration → Parts
parts (Constructor x n) = (0, (x, (n, (TyFixed [], Bound 0))))
parts (Constant x T) = (1, (x, (0, (T, Bound 0))))
parts (Axiom x p) = (2, (x, (0, (TyFixed [], p))))

abbrev whole : Parts → Declaration
whole p = cond (nat_eq p.0 0) (Constructor p.1.0 p.1.1.0) (cond (nat_eq p.0 1) (Constant p.1.0 p.1.1.1.0) (Axiom p.1.0 p.1.1.1.1))

abbrev whole_parts : (d : Declaration) → whole (parts d) ≡ d
whole_parts (Constructor x n) = refl
whole_parts (Constant x T) = refl
whole_parts (Axiom x p) = refl

abbrev pub coded_declaration : Coded Declaration
coded_declaration = code_by Parts (coded× coded_ℕ (coded× (coded_list coded_ℕ) (coded× coded_ℕ (coded× coded_ty coded_tm)))) parts whole whole_parts
