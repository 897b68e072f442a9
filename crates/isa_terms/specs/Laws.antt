-- Laws that hold of the definitions.
use Rattle.std.specs.Prelude.{◌≡◌, ◌↔◌}
use Rattle.std.specs.declared.cmp.Ordering.TheVariants.{Equal}
use Rattle.std.specs.Cmp.{IsTotalOrder}
use Rattle.isa_terms.specs.Terms.{Tm, bare}
use Rattle.isa_terms.specs.Order.{tm_cmp}

-- the term order is antisymmetric, transitive and total on terms up to the names of their binders
abbrev pub TermOrderIsTotal : Type 0
TermOrderIsTotal = IsTotalOrder tm_cmp

abbrev pub TermOrderTellsApart : Type 0
TermOrderTellsApart = (t u : Tm) → (tm_cmp t u ≡ Equal) ↔ (bare t ≡ bare u)
