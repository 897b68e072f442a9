-- The items of a list of axioms, whether other lists share them or not.
use Rattle.std.specs.Prelude.{List, Option, Some, None}
use Rattle.std.specs.declared.rc.Rc.{Rc}
use Rattle.std.specs.declared.vec.Vec.{Vec}
use Rattle.std.specs.declared.alloc.Global.{Global}
use Rattle.isa_kernel.specs.declared.axioms.NamedProp.{NamedProp}

abbrev pub items_of : Option (Rc (Vec NamedProp Global) Global) → List NamedProp → List NamedProp
items_of None own = own
items_of (Some shared) own = shared.value.items
