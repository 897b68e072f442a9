-- The number of arguments.
use Rattle.std.proofs.Common.{◌≡◌, List, [], ◌∷◌, length, arith}
use Rattle.isa_terms.specs.Types.{Ty, tys_of}
use Rattle.isa_terms.specs.Order.{tys_count}

pub count_of_list : (l : List Ty) → tys_count (tys_of l) ≡ length l
count_of_list [] = omega arith
count_of_list (t ∷ ts) = omega (arith, count_of_list ts)
