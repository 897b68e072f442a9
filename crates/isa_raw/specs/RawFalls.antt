-- A raw term's parts are smaller than the raw term.
use Rattle.std.specs.Prelude.{◌≤◌, max}
use Rattle.std.proofs.Common.{arith}
use Rattle.isa_raw.specs.RawTerms.{raw_size}
use Rattle.isa_raw.specs.RawLayers.{raw_of}
use Rattle.isa_raw.specs.declared.raw.RawNode.{RawNode}
use Rattle.isa_raw.specs.declared.raw.RawNode.TheVariants.{Name, Unknown, Constant, Typed, Abs, App}
use Rattle.isa_raw.specs.declared.raw.RawTerm.TheDeep.{deep-RawNode}

pub raw_falls : (n : RawNode) → max (deep-RawNode n) 0 ≤ raw_size (raw_of n)
raw_falls (Name name) = omega arith
raw_falls (Unknown name) = omega arith
raw_falls (Constant name) = omega arith
raw_falls (Typed body typ) = omega arith
raw_falls (Abs name typ body) = omega arith
raw_falls (App fun arg) = omega arith
