-- The binders round the innermost one are fewer than all.
use Rattle.std.specs.Prelude.{◌≤◌, max, length}
use Rattle.std.proofs.Common.{arith}
use Rattle.isa_unify.specs.declared.equation.Layer.{Layer}
use Rattle.isa_unify.specs.declared.equation.Layer.TheVariants.{Outermost, Under}
use Rattle.isa_unify.specs.declared.equation.Binders.TheDeep.{deep-Layer}
use Rattle.isa_unify.specs.BinderLayers.{variables_of}

pub layers_fall : (n : Layer) → max (deep-Layer n) 0 ≤ length (variables_of n)
layers_fall Outermost = omega arith
layers_fall (Under v vs) = omega arith
