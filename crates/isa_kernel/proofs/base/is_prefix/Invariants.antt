use Rattle.std.proofs.Common.{◌≡◌, List, ◌++◌, drop}
use Rattle.isa_kernel.specs.declared.base.BaseEntry.{BaseEntry}
use Rattle.isa_kernel.proofs.base.is_prefix.Given as goal

abbrev pub invariant-loop-one : goal.invariant-loop-one
invariant-loop-one l = (behind : List BaseEntry) → l.rest ≡ drop l.one-index l.first ++ behind → l.second ≡ l.first ++ behind
