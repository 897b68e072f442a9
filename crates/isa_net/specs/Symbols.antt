-- The symbols of words, and their order.
use Rattle.std.specs.Prelude.{ℕ, Bool, true, false, ◌&&◌, nat_eq, List, []}
use Rattle.std.specs.declared.cmp.Ordering.{Ordering}
use Rattle.std.specs.Ordering.{nat_cmp, on, then_cmp}
use Rattle.std.specs.Cmp.Lexicographic.{slice_cmp}
use Rattle.isa_terms.specs.Equal.{name_eq}
use Rattle.isa_net.specs.declared.symbol.Symbol.{Symbol}
use Rattle.isa_net.specs.declared.symbol.Symbol.TheVariants.{Star, Constant, Variable}

-- how many words of arguments follow the symbol
abbrev pub arity : Symbol → ℕ
arity Star = 0
arity (Constant c n) = n
arity (Variable x n) = n

abbrev pub is_star : Symbol → Bool
is_star Star = true
is_star (Constant c n) = false
is_star (Variable x n) = false

abbrev pub symbol_eq : Symbol → Symbol → Bool
symbol_eq Star Star = true
symbol_eq (Constant c m) (Constant d n) = name_eq c d && nat_eq m n
symbol_eq (Variable x m) (Variable y n) = name_eq x y && nat_eq m n
symbol_eq _ _ = false

-- stars come first, then constants, then free variables
abbrev pub kind : Symbol → ℕ
kind Star = 0
kind (Constant c n) = 1
kind (Variable x n) = 2

abbrev pub spelling : Symbol → List ℕ
spelling Star = []
spelling (Constant c n) = c
spelling (Variable x n) = x

-- by kind, then by the bytes of the name, then by the number of arguments
abbrev pub symbol_cmp : Symbol → Symbol → Ordering
symbol_cmp = then_cmp (on kind nat_cmp) (then_cmp (on spelling (slice_cmp nat_cmp)) (on arity nat_cmp))
