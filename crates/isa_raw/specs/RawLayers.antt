-- One level of a raw term, as the code holds it, as a raw term.
use Rattle.isa_raw.specs.RawTerms.{Raw, RawName, RawUnknown, RawConst, RawTyped, RawAbs, RawApp}
use Rattle.isa_raw.specs.declared.raw.RawNode.{RawNode}
use Rattle.isa_raw.specs.declared.raw.RawNode.TheVariants.{Name, Unknown, Constant, Typed, Abs, App}

abbrev pub raw_of : RawNode → Raw
raw_of (Name name) = RawName name
raw_of (Unknown name) = RawUnknown name
raw_of (Constant name) = RawConst name
raw_of (Typed body typ) = RawTyped body typ
raw_of (Abs name typ body) = RawAbs name typ body
raw_of (App fun arg) = RawApp fun arg
