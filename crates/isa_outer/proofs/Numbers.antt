-- The number that digits write.
use Rattle.std.proofs.Common.{◌≡◌, ℕ, ◌+◌, ◌-◌, ◌*◌, ◌≤◌, ◌^◌, List, [], ◌∷◌, arith}
use Rattle.isa_outer.specs.Forms.{number_from}

-- further digits make it no less
pub number_grows : (n : ℕ) (digits : List ℕ) → n ≤ number_from n digits
number_grows n [] = omega arith
number_grows n (d ∷ ds) = omega (arith, number_grows (10 * n + (d - 48)) ds)

-- the digit at a place makes it too large
pub too_large : (n all digit : ℕ) (rest : List ℕ) → all ≡ number_from n (digit ∷ rest) → 2 ^ 32 ≤ 10 * n + (digit - 48) → 2 ^ 32 ≤ all
too_large n all digit rest e h = omega (arith, e, h, number_grows (10 * n + (digit - 48)) rest)
