-- The bytes of a name, where it has a block of them.
use Rattle.std.specs.Prelude.{ℕ, List, [], Option, Some, None}
use Rattle.std.specs.declared.rc.Rc.{Rc}
use Rattle.std.specs.declared.vec.Vec.{Vec}
use Rattle.std.specs.declared.alloc.Global.{Global}

abbrev pub shared_bytes : Option (Rc (Vec ℕ Global) Global) → List ℕ
shared_bytes None = []
shared_bytes (Some block) = block.value.items
