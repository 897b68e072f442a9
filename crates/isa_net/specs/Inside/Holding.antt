-- What a tree of nodes with its root holds: a map from ranks to words.
use Rattle.std.specs.Prelude.{◌≡◌, ◌↔◌, ℕ, ◌<◌, ◌≤◌, List, [], ◌∷◌, length, Option, Some, None, option_map}
use Rattle.std.specs.Map.{lookup}
use Rattle.std.specs.BTreeMap.{is_at}
use Rattle.slab.specs.Slab as slab
use Rattle.slab.specs.Slab.{Slab}
use Rattle.isa_terms.specs.Terms.{Tm}
use Rattle.isa_net.specs.declared.mode.Mode.{Mode}
use Rattle.isa_net.specs.declared.rank.Rank.{Rank}
use Rattle.isa_net.specs.declared.symbol.Symbol.{Symbol}
use Rattle.isa_net.specs.declared.node.Node.{Node}
use Rattle.isa_net.specs.declared.tree.Tree.{Tree}
use Rattle.isa_net.specs.Words.{Along, word}
use Rattle.isa_net.specs.Count.{agreeing}
use Rattle.isa_net.specs.Nets.{Entry, rank_cmp}
use Rattle.isa_net.specs.Inside.Index.{In, IsTree, IsIndex, IsGiven}

-- with no root there are no nodes
pub record IsBare (nodes : Slab Node) (word_at : Rank → Option (List Symbol)) : Type 0 where
  pub nowhere : (r : Rank) → word_at r ≡ None
  pub empty : (n : ℕ) → slab.get nodes n ≡ None

abbrev pub HoldsAt : Option ℕ → Slab Node → ℕ → (Rank → Option (List Symbol)) → Type 0
HoldsAt None nodes deep word_at = IsBare nodes word_at
HoldsAt (Some root) nodes deep word_at = IsIndex nodes root deep word_at []

abbrev pub Holds : Tree → (Rank → Option (List Symbol)) → Type 0
Holds tree word_at = HoldsAt tree.root tree.nodes tree.deep word_at

-- it holds some map
abbrev pub IsSound : Tree → Type 0
IsSound tree = (word_at : Rank → Option (List Symbol)) × Holds tree word_at

-- the second map has the word at the rank besides
pub record Extends (before after : Rank → Option (List Symbol)) (r : Rank) (w : List Symbol) : Type 0 where
  pub free : before r ≡ None
  pub put : after r ≡ Some w
  pub others : (q : Rank) → (q ≡ r → ⊥) → after q ≡ before q

-- the new tree holds the word at the rank besides
abbrev pub Puts : Tree → Tree → List Symbol → Rank → Type 0
Puts old new w r = (before after : Rank → Option (List Symbol)) → Holds old before → Extends before after r w → Holds new after

-- the new tree holds all but the word at the rank
abbrev pub Loses : Tree → Tree → List Symbol → Rank → Type 0
Loses old new w r = (before after : Rank → Option (List Symbol)) → Holds old before → Extends after before r w → Holds new after

-- it holds the same
abbrev pub Keeps : Tree → Tree → Type 0
Keeps old new = (word_at : Rank → Option (List Symbol)) → Holds old word_at → Holds new word_at

-- there is a root, and the tree holds the same
pub record IsRooted (old new : Tree) (root : ℕ) : Type 0 where
  pub is : new.root ≡ Some root
  pub deep : new.deep ≡ old.deep
  pub keeps : (word_at : Rank → Option (List Symbol)) → Holds old word_at → IsIndex new.nodes root new.deep word_at []

-- whichever map the tree holds, these are its ranks whose word agrees
abbrev pub GivesAll : Tree → Mode → Tm → List Rank → Type 0
GivesAll tree mode t rs = (word_at : Rank → Option (List Symbol)) → Holds tree word_at → (r : Rank) → In r rs ↔ IsGiven mode t word_at r

-- so many nodes are at most the distinct prefixes that agree
abbrev pub GivesFew : Tree → Mode → Tm → ℕ → Type 0
GivesFew tree mode t visited = (word_at : Rank → Option (List Symbol)) (ws : List (List Symbol)) → Holds tree word_at → ((r : Rank) (w : List Symbol) → word_at r ≡ Some w → In w ws) → visited ≤ agreeing mode (Along t ∷ []) ws

-- the words of a net's keys
abbrev pub word_in : {V : Type 0} → List (Rank × Entry V) → Rank → Option (List Symbol)
word_in net r = option_map (λ e. word e.key) (lookup (is_at (rank_cmp r)) net)
