-- The worked rules are computed.
use Rattle.std.proofs.Common.{refl}
use Rattle.isa_simprules.specs.RulesOf.{branches, rules_of}
use Rattle.isa_simprules.specs.Worked.{Rows}

pub rows : Rows
unfolding branches rules_of
rows = record { apart = refl; numbered = refl; opened = refl; none = refl; itself = refl; renamed = refl; not_renamed = refl }
