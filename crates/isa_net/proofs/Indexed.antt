-- A look-up finds just the ranks whose word agrees.
use Rattle.std.proofs.Common.{◌≡◌, inl, inr, ℕ, Bool, true, List, [], ◌∷◌, Option, Some, None, refl, sym, ap, ◌∙◌}
use Rattle.std.specs.Prelude.{is_some}
use Rattle.slab.specs.Slab.{Slab, get}
use Rattle.isa_net.specs.declared.symbol.Symbol.{Symbol}
use Rattle.isa_net.specs.declared.rank.Rank.{Rank}
use Rattle.isa_net.specs.declared.node.Node.{Node}
use Rattle.isa_net.specs.Words.{Item, reads}
use Rattle.isa_net.specs.Inside.Trails.{trail, ranks_of, ranks_at}
use Rattle.isa_net.specs.Inside.Reach.{reach, go_on, edge_of, if_there}
use Rattle.isa_net.specs.Inside.Index.{In, IsIndex}
use Rattle.isa_net.proofs.Members.{in_left, in_right, in_either}
use Rattle.isa_net.proofs.Reached.{reached, visited}
use Rattle.isa_net.specs.declared.mode.Mode.{Mode}

-- a rank of one of the nodes
pub record RankOf (nodes : Slab Node) (ns : List ℕ) (r : Rank) : Type 0 where
  pub at : ℕ
  pub node : Node
  pub listed : In at ns
  pub there : get nodes at ≡ Some node
  pub has : In r node.ranks.items

pub rank_of : (nodes : Slab Node) (ns : List ℕ) (r : Rank) → In r (ranks_at nodes ns) → RankOf nodes ns r
rank_of nodes [] r h = absurd h
rank_of nodes (n ∷ ns) r h = elim (in_either r (ranks_of (get nodes n)) (ranks_at nodes ns) h) [ inl g ↦ here (get nodes n) refl g | inr g ↦ later (rank_of nodes ns r g) ]
  where
    here : (o : Option Node) → get nodes n ≡ o → In r (ranks_of o) → RankOf nodes (n ∷ ns) r
    here None q g = absurd g
    here (Some node) q g = record { at = n; node = node; listed = inl refl; there = q; has = g }

    later : RankOf nodes ns r → RankOf nodes (n ∷ ns) r
    later k = record { at = k.at; node = k.node; listed = inr k.listed; there = k.there; has = k.has }

pub of_rank : (nodes : Slab Node) (ns : List ℕ) (r : Rank) (n : ℕ) (node : Node) → In n ns → get nodes n ≡ Some node → In r node.ranks.items → In r (ranks_at nodes ns)
of_rank nodes [] r n node h q g = absurd h
of_rank nodes (m ∷ ns) r n node (inl e) q g =
    let x : get nodes m ≡ Some node = ap (get nodes) (sym e) ∙ q in
    in_left r (ranks_of (get nodes m)) (ranks_at nodes ns) (move (get nodes m) x)
  where
    move : (o : Option Node) → o ≡ Some node → In r (ranks_of o)
    move o e = rw e g
of_rank nodes (m ∷ ns) r n node (inr h) q g = in_right r (ranks_of (get nodes m)) (ranks_at nodes ns) (of_rank nodes ns r n node h q g)

-- where a word ends there is a node
pub ends_there : (nodes : Slab Node) (n : ℕ) (w : List Symbol) (m : ℕ) → reach nodes n w ≡ Some m → (node : Node) × (get nodes m ≡ Some node)
unfolding reach
ends_there nodes n [] m h = at (get nodes n) refl h
  where
    at : (o : Option Node) → get nodes n ≡ o → if_there o n ≡ Some m → (node : Node) × (get nodes m ≡ Some node)
    at None q g = absurd (cc)
    at (Some node) q g = let e : m ≡ n = cc in (node, ap (get nodes) e ∙ q)
ends_there nodes n (s ∷ w) m h = at (edge_of (get nodes n) s) h (λ c g. ends_there nodes c w m g)
  where
    at : (o : Option ℕ) → go_on o (λ c. reach nodes c w) ≡ Some m → ((c : ℕ) → reach nodes c w ≡ Some m → (node : Node) × (get nodes m ≡ Some node)) → (node : Node) × (get nodes m ≡ Some node)
    at None g f = absurd (cc)
    at (Some c) g f = f c g

-- a rank is found just where its word agrees
pub record Agreed (mode : Mode) (is : List Item) (word_at : Rank → Option (List Symbol)) (r : Rank) : Type 0 where
  pub word : List Symbol
  pub has : word_at r ≡ Some word
  pub agrees : is_some (reads mode is word) ≡ true

module _ (mode : Mode) (nodes : Slab Node) (root deep : ℕ) (word_at : Rank → Option (List Symbol)) (pending : List Symbol) (x : IsIndex nodes root deep word_at pending) (is : List Item) where
  pub found_agrees : (r : Rank) → In r (ranks_at nodes (trail mode nodes deep root is)) → Agreed mode is word_at r
  found_agrees r h =
      let k = rank_of nodes (trail mode nodes deep root is) r h in
      let p = reached mode nodes x.tree.apart deep root is k.at k.listed in
      record { word = p.word; has = (x.ranked p.word k.at k.node r p.ends k.there).0 k.has; agrees = p.agrees }

  pub agreed_found : (r : Rank) → Agreed mode is word_at r → In r (ranks_at nodes (trail mode nodes deep root is))
  agreed_found r a =
      let n = x.held r a.word a.has in
      let t = ends_there nodes root a.word n.0 n.1 in
      of_rank nodes (trail mode nodes deep root is) r n.0 t.0 (visited mode nodes deep root is n.0 a.word (x.shallow a.word n.0 n.1) n.1 a.agrees) t.1 ((x.ranked a.word n.0 t.0 r n.1 t.1).1 a.has)
