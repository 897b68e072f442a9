-- Entries of which none stands twice, and bases that begin with others. This is how a base is kept; no clause of a public call speaks of it.
use Rattle.std.specs.Prelude.{◌≡◌, List, [], ◌∷◌, ◌++◌, false}
use Rattle.isa_kernel.specs.declared.base.BaseEntry.{BaseEntry}
use Rattle.isa_kernel.specs.Axioms.{same_entry}

-- none of the entries is the entry e
abbrev pub AreOther : BaseEntry → List BaseEntry → Type 0
AreOther e [] = Unit {0}
AreOther e (f ∷ fs) = (same_entry e f ≡ false) × AreOther e fs

-- none of the entries stands twice
abbrev pub AreDistinct : List BaseEntry → Type 0
AreDistinct [] = Unit {0}
AreDistinct (e ∷ es) = AreOther e es × AreDistinct es

-- the second entries begin with the first ones
abbrev pub IsPrefix : List BaseEntry → List BaseEntry → Type 0
IsPrefix bs cs = (rest : List BaseEntry) × (cs ≡ bs ++ rest)
