-- The nodes that a look-up visits.
use Rattle.std.specs.Prelude.{ℕ, zero, suc, Bool, if◌then◌else◌, List, [], ◌∷◌, ◌++◌, Option, Some, None}
use Rattle.slab.specs.Slab.{Slab, get}
use Rattle.isa_terms.specs.Terms.{Tm}
use Rattle.isa_net.specs.declared.rank.Rank.{Rank}
use Rattle.isa_net.specs.declared.symbol.Symbol.{Symbol}
use Rattle.isa_net.specs.declared.symbol.Symbol.TheVariants.{Star}
use Rattle.isa_net.specs.declared.node.Node.{Node}
use Rattle.isa_net.specs.declared.mode.Mode.{Mode}
use Rattle.isa_net.specs.Symbols.{arity, is_star}
use Rattle.isa_net.specs.Words.{Item, overs, alongs, symbol_of, onward}
use Rattle.isa_net.specs.Inside.Lists.{last_args}
use Rattle.isa_net.specs.Inside.Reach.{edges_of, target}

-- along the edges whose symbols can be read
abbrev pub along_edges : Mode → (ℕ → List Item → List ℕ) → List Item → List (Symbol × ℕ) → List ℕ
along_edges mode go is [] = []
along_edges mode go is (e ∷ es) = elim (onward mode is e.0) [ None ↦ along_edges mode go is es | Some js ↦ go e.1 js ++ along_edges mode go is es ]

-- the same where a subword is passed over: along all edges
abbrev pub along_all : (ℕ → List Item → List ℕ) → List Item → List (Symbol × ℕ) → List ℕ
along_all go rest [] = []
along_all go rest (e ∷ es) = go e.1 (overs (arity e.0) ++ rest) ++ along_all go rest es

abbrev pub if_leads : Option ℕ → (ℕ → List ℕ) → List ℕ
if_leads None go = []
if_leads (Some n) go = go n

abbrev pub along_own : (ℕ → List Item → List ℕ) → Tm → List Item → List (Symbol × ℕ) → Symbol → List ℕ
along_own go t rest es s = if is_star s then [] else if_leads (target s es) (λ n. go n (alongs (last_args (arity s) t) ++ rest))

-- the same where a subterm is read: along the star, and along the subterm's own symbol
abbrev pub along_two : (ℕ → List Item → List ℕ) → Tm → List Item → List (Symbol × ℕ) → List ℕ
along_two go t rest es = if_leads (target Star es) (λ n. go n rest) ++ along_own go t rest es (symbol_of t)

abbrev pub at_node : Option Node → (List (Symbol × ℕ) → List ℕ) → ℕ → List ℕ
at_node None go n = []
at_node (Some node) go n = n ∷ go (edges_of node)

-- the nodes that are visited from a node on, at most so deep
unfoldable pub trail : Mode → Slab Node → ℕ → ℕ → List Item → List ℕ
trail mode nodes zero n is = []
trail mode nodes (suc k) n is = at_node (get nodes n) (along_edges mode (trail mode nodes k) is) n

abbrev pub ranks_of : Option Node → List Rank
ranks_of None = []
ranks_of (Some node) = node.ranks.items

abbrev pub ranks_at : Slab Node → List ℕ → List Rank
ranks_at nodes [] = []
ranks_at nodes (n ∷ ns) = ranks_of (get nodes n) ++ ranks_at nodes ns
