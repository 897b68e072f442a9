-- One layer of binders, as the code holds it, as a list.
use Rattle.std.specs.Prelude.{List, [], ◌∷◌}
use Rattle.isa_unify.specs.declared.equation.Variable.{Variable}
use Rattle.isa_unify.specs.declared.equation.Layer.{Layer}
use Rattle.isa_unify.specs.declared.equation.Layer.TheVariants.{Outermost, Under}

abbrev pub variables_of : Layer → List Variable
variables_of Outermost = []
variables_of (Under v vs) = v ∷ vs
