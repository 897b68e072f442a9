-- The tree in the slab as a map from words to nodes.
use Rattle.std.specs.Prelude.{◌≡◌, ℕ, Bool, true, false, ◌&&◌, nat_eq, List, [], ◌∷◌, length, Option, Some, None, if◌then◌else◌}
use Rattle.slab.specs.Slab.{Slab, get}
use Rattle.isa_net.specs.declared.symbol.Symbol.{Symbol}
use Rattle.isa_net.specs.declared.node.Node.{Node}
use Rattle.isa_net.specs.Symbols.{symbol_eq}

abbrev pub edges_of : Node → List (Symbol × ℕ)
edges_of node = node.edges.entries

-- where the symbol leads to
abbrev pub target : Symbol → List (Symbol × ℕ) → Option ℕ
target s [] = None
target s (e ∷ es) = if symbol_eq s e.0 then Some e.1 else target s es

abbrev pub if_there : Option Node → ℕ → Option ℕ
if_there None n = None
if_there (Some node) n = Some n

abbrev pub go_on : Option ℕ → (ℕ → Option ℕ) → Option ℕ
go_on None f = None
go_on (Some c) f = f c

abbrev pub edge_of : Option Node → Symbol → Option ℕ
edge_of None s = None
edge_of (Some node) s = target s (edges_of node)

-- the node to which the symbol leads
abbrev pub edge : Slab Node → ℕ → Symbol → Option ℕ
edge nodes n s = edge_of (get nodes n) s

-- the node at which the word ends that is read from a node on, where there is one
unfoldable pub reach : Slab Node → ℕ → List Symbol → Option ℕ
reach nodes n [] = if_there (get nodes n) n
reach nodes n (s ∷ w) = go_on (edge_of (get nodes n) s) (λ c. reach nodes c w)

-- no two edges have one symbol
abbrev pub Apart : List (Symbol × ℕ) → Type 0
Apart [] = Unit {0}
Apart (e ∷ es) = (target e.0 es ≡ None) × Apart es

-- whether the node has neither edges nor ranks
abbrev pub is_idle : Option Node → Bool
is_idle None = false
is_idle (Some node) = nat_eq (length (edges_of node)) 0 && nat_eq (length node.ranks.items) 0
