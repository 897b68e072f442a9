-- The binders round a place, as the code holds them.
use Rattle.std.specs.Prelude.{[], ◌∷◌}
use Rattle.isa_typing.specs.Scopes.{Scope}
use Rattle.isa_typing.specs.declared.inferred.Binders.{Binders, Outermost, Under'}

abbrev pub scope_of : Binders → Scope
scope_of Outermost = []
scope_of (Under' name typ p outer) = (name.now, typ.now) ∷ scope_of outer
