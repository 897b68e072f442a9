-- A premise in front of others.
use Rattle.std.specs.List.{insert}
use Rattle.std.proofs.Common.{◌≡◌, List, ◌∷◌, refl}
use Rattle.isa_simprules.specs.Congruences.{Premise}

pub first_inserted : (p : Premise) (ps : List Premise) → insert ps 0 p ≡ p ∷ ps
first_inserted p ps = refl
