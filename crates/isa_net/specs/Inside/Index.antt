-- What the nodes of a net mean: a map from ranks to the words of their keys.
use Rattle.std.specs.Prelude.{◌≡◌, ◌≢◌, ◌↔◌, ◌⊎◌, ℕ, ◌+◌, ◌<◌, ◌≤◌, Bool, true, if◌then◌else◌, List, [], ◌∷◌, ◌++◌, length, Option, Some, None, IsSome}
use Rattle.slab.specs.Slab.{Slab, get}
use Rattle.isa_net.specs.declared.symbol.Symbol.{Symbol}
use Rattle.isa_net.specs.declared.rank.Rank.{Rank}
use Rattle.isa_net.specs.declared.node.Node.{Node}
use Rattle.isa_net.specs.Inside.Reach.{edges_of, target, edge, reach, Apart, is_idle}
use Rattle.isa_terms.specs.Terms.{Tm}
use Rattle.isa_net.specs.Words.{Along, agrees}
use Rattle.isa_net.specs.Count.{agreeing}
use Rattle.isa_net.specs.declared.mode.Mode.{Mode}

abbrev pub In : {A : Type 0} → A → List A → Type 0
In x [] = ⊥
In x (y ∷ ys) = (x ≡ y) ⊎ In x ys

-- The nodes are a tree with this root: each node has at most one edge for a symbol, each edge leads to a node that is
-- there, no two edges lead to one node, and none to the root.
pub record IsTree (nodes : Slab Node) (root : ℕ) : Type 0 where
  pub apart : (n : ℕ) (node : Node) → get nodes n ≡ Some node → Apart (edges_of node)
  pub there : (n c : ℕ) (s : Symbol) → edge nodes n s ≡ Some c → (node : Node) × (get nodes c ≡ Some node)
  pub once : (m n c : ℕ) (s t : Symbol) → edge nodes m s ≡ Some c → edge nodes n t ≡ Some c → (m ≡ n) × (s ≡ t)
  pub outermost : (n : ℕ) (s : Symbol) → edge nodes n s ≡ Some root → ⊥
  pub stands : (node : Node) × (get nodes root ≡ Some node)

-- The ranks of a node are those whose word ends there, each word ends at a node, and no word is as long as told. Each
-- node stands on the way to the end of a word, or of the pending one: of the empty word where nothing is pending, so that
-- only the root may then be idle.
pub record IsIndex (nodes : Slab Node) (root deep : ℕ) (word_at : Rank → Option (List Symbol)) (pending : List Symbol) : Type 0 where
  pub tree : IsTree nodes root
  pub ranked : (w : List Symbol) (n : ℕ) (node : Node) (r : Rank) → reach nodes root w ≡ Some n → get nodes n ≡ Some node → In r node.ranks.items ↔ (word_at r ≡ Some w)
  pub held : (r : Rank) (w : List Symbol) → word_at r ≡ Some w → (n : ℕ) × (reach nodes root w ≡ Some n)
  pub shallow : (w : List Symbol) (n : ℕ) → reach nodes root w ≡ Some n → length w < deep
  pub used : (w : List Symbol) (n : ℕ) → reach nodes root w ≡ Some n → ((v : List Symbol) × (pending ≡ w ++ v)) ⊎ ((r : Rank) × ((v : List Symbol) × (word_at r ≡ Some (w ++ v))))

abbrev pub IsLive : Slab Node → ℕ → Type 0
IsLive nodes n = (node : Node) × (get nodes n ≡ Some node)

-- the new edges have one more, from the symbol to c
pub record AddsEdge (old new : List (Symbol × ℕ)) (s : Symbol) (c : ℕ) : Type 0 where
  pub free : target s old ≡ None
  pub leads : target s new ≡ Some c
  pub same : (t : Symbol) → (t ≡ s → ⊥) → target t new ≡ target t old
  pub was_apart : Apart old
  pub apart : Apart new

-- the new nodes have one more, c, without edges and ranks, to which the symbol leads from n
pub record Grown (old new : Slab Node) (n c : ℕ) (s : Symbol) : Type 0 where
  pub was : Node
  pub is : Node
  pub stood : get old n ≡ Some was
  pub stands : get new n ≡ Some is
  pub edges : AddsEdge (edges_of was) (edges_of is) s c
  pub ranks : is.ranks.items ≡ was.ranks.items
  pub fresh : get old c ≡ None
  pub leaf : Node
  pub made : get new c ≡ Some leaf
  pub bare : edges_of leaf ≡ []
  pub rankless : leaf.ranks.items ≡ []
  pub others : (m : ℕ) → m ≢ n → m ≢ c → get new m ≡ get old m

-- the new nodes are the old ones without c, which has neither edges nor ranks, and to which the symbol leads from n
abbrev pub Shrunk : Slab Node → Slab Node → ℕ → ℕ → Symbol → Type 0
Shrunk old new n c s = Grown new old n c s

abbrev pub edges_at : Option Node → List (Symbol × ℕ)
edges_at None = []
edges_at (Some node) = edges_of node

abbrev pub ranks_in : Option Node → List Rank
ranks_in None = []
ranks_in (Some node) = node.ranks.items

-- the same nodes are there, with the same edges and ranks
pub record Alike (old new : Slab Node) : Type 0 where
  pub live : (m : ℕ) → IsSome (get new m) ↔ IsSome (get old m)
  pub edges : (m : ℕ) → edges_at (get new m) ≡ edges_at (get old m)
  pub ranks : (m : ℕ) → ranks_in (get new m) ≡ ranks_in (get old m)

-- the symbol leads from n to c, in the old net or by a new leaf
pub data Descends (old new : Slab Node) (n : ℕ) (s : Symbol) (c : ℕ) : Type 0 where
  found : edge old n s ≡ Some c → new ≡ old → Descends old new n s c
  made : edge old n s ≡ None → Grown old new n c s → Descends old new n s c

-- an index whose pending word is this stays one
abbrev pub KeepsIndex : Slab Node → Slab Node → ℕ → List Symbol → Type 0
KeepsIndex old new root pending = (deep : ℕ) (word_at : Rank → Option (List Symbol)) → length pending < deep → IsIndex old root deep word_at pending → IsIndex new root deep word_at pending

-- the rank stands for a word that agrees with the term
abbrev pub IsGiven : Mode → Tm → (Rank → Option (List Symbol)) → Rank → Type 0
IsGiven mode t word_at r = (w : List Symbol) × ((word_at r ≡ Some w) × (agrees mode t w ≡ true))

-- the ranks are those of the words that agree, whichever map the nodes mean
abbrev pub AreGiven : Mode → Slab Node → ℕ → ℕ → Tm → List Rank → Type 0
AreGiven mode nodes root deep t rs = (word_at : Rank → Option (List Symbol)) (pending : List Symbol) → IsIndex nodes root deep word_at pending → (r : Rank) → In r rs ↔ IsGiven mode t word_at r

-- so many steps are at most the distinct prefixes that agree, of the words of a list that has all of the net
abbrev pub AreCounted : Mode → Slab Node → ℕ → ℕ → Tm → ℕ → ℕ → Type 0
AreCounted mode nodes root deep t before after = (word_at : Rank → Option (List Symbol)) (ws : List (List Symbol)) → IsIndex nodes root deep word_at [] → ((r : Rank) (w : List Symbol) → word_at r ≡ Some w → In w ws) → after ≤ before + agreeing mode (Along t ∷ []) ws

-- the node n has the rank r besides its old ones
pub record Ranks (old new : Slab Node) (n : ℕ) (r : Rank) : Type 0 where
  pub live : (m : ℕ) → IsSome (get new m) ↔ IsSome (get old m)
  pub edges : (m : ℕ) → edges_at (get new m) ≡ edges_at (get old m)
  pub added : (q : Rank) → In q (ranks_in (get new n)) ↔ (In q (ranks_in (get old n)) ⊎ (q ≡ r))
  pub others : (m : ℕ) → m ≢ n → ranks_in (get new m) ≡ ranks_in (get old m)

-- the net means the old map with the word for the rank, which had none
abbrev pub Places : Slab Node → Slab Node → ℕ → List Symbol → Rank → Type 0
Places old new root w r =
    (deep : ℕ) (before after : Rank → Option (List Symbol)) → length w < deep → IsIndex old root deep before [] → before r ≡ None
    → after r ≡ Some w → ((q : Rank) → (q ≡ r → ⊥) → after q ≡ before q) → IsIndex new root deep after []

-- the node n has its old ranks without r
pub record Unranks (old new : Slab Node) (n : ℕ) (r : Rank) : Type 0 where
  pub live : (m : ℕ) → IsSome (get new m) ↔ IsSome (get old m)
  pub edges : (m : ℕ) → edges_at (get new m) ≡ edges_at (get old m)
  pub left : (q : Rank) → In q (ranks_in (get new n)) ↔ (In q (ranks_in (get old n)) × (q ≡ r → ⊥))
  pub others : (m : ℕ) → m ≢ n → ranks_in (get new m) ≡ ranks_in (get old m)

-- the symbol leads from n to c, which has neither edges nor ranks
pub record IsLeaf (nodes : Slab Node) (n : ℕ) (s : Symbol) (c : ℕ) : Type 0 where
  pub parent : Node
  pub stands : get nodes n ≡ Some parent
  pub apart : Apart (edges_of parent)
  pub leads : target s (edges_of parent) ≡ Some c
  pub leaf : Node
  pub made : get nodes c ≡ Some leaf
  pub bare : edges_of leaf ≡ []
  pub rankless : leaf.ranks.items ≡ []
  pub other : c ≢ n

-- after the idle nodes at the end of the pending word are taken away, up to a node at the end of its front
pub record Pruned (old new : Slab Node) (root deep : ℕ) (word_at : Rank → Option (List Symbol)) (front : List Symbol) (n : ℕ) (found : Bool) : Type 0 where
  pub fewer : (w : List Symbol) (k m : ℕ) → reach new k w ≡ Some m → reach old k w ≡ Some m
  pub index : IsIndex new root deep word_at (if found then front else [])
  pub here : found ≡ true → reach new root front ≡ Some n
  pub idle : found ≡ true → is_idle (get new n) ≡ true

abbrev pub Prunes : Slab Node → Slab Node → ℕ → List Symbol → Bool → Type 0
Prunes old new n w idle = (root deep : ℕ) (word_at : Rank → Option (List Symbol)) (front : List Symbol) → reach old root front ≡ Some n → IsIndex old root deep word_at (front ++ w) → Pruned old new root deep word_at front n idle

-- an index that has the word for the rank becomes one without it
abbrev pub Unplaces : Slab Node → Slab Node → ℕ → List Symbol → Rank → Type 0
Unplaces old new root w r =
    (deep : ℕ) (before after : Rank → Option (List Symbol)) → IsIndex old root deep before [] → before r ≡ Some w → after r ≡ None
    → ((q : Rank) → (q ≡ r → ⊥) → after q ≡ before q) → IsIndex new root deep after []

-- an index stays one
abbrev pub Restores : Slab Node → Slab Node → ℕ → List Symbol → Type 0
Restores old new root w = (deep : ℕ) (word_at : Rank → Option (List Symbol)) → length w < deep → IsIndex old root deep word_at [] → IsIndex new root deep word_at []
