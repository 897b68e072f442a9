-- Binders and patterns of the code as those of matching.
use Rattle.std.specs.Prelude.{List, map}
use Rattle.isa_unify.specs.declared.equation.Variable.{Variable}
use Rattle.isa_unify.specs.declared.patterns.Pattern.{Pattern}
use Rattle.isa_unify.specs.Matching.{Binder, Flexible}

abbrev pub binder_of : Variable → Binder
binder_of v = record { name = v.name; typ = v.typ }

abbrev pub binders_in : List Variable → List Binder
binders_in vs = map binder_of vs

-- an unknown with the numbers of the bound variables to which it is applied
abbrev pub flexible_of : Pattern → Flexible
flexible_of h = record { name = h.unknown.name.now; number = h.unknown.number; typ = h.unknown.typ.now; args = h.variables }
