-- Trees with their roots.
use Rattle.std.proofs.Common.{◌≡◌, ◌≢◌, ◌↔◌, ◌⊎◌, inl, inr, ℕ, ◌+◌, ◌<◌, ◌≤◌, List, [], ◌∷◌, ◌++◌, length, Option, Some, None, refl, sym, ap, ◌∙◌, arith}
use Rattle.std.specs.Prelude.{slice_index_or}
use Rattle.std.proofs.lemmas.Bool.{cases_eq}
use Rattle.slab.specs.Slab.{Slab, get, Updates}
use Rattle.isa_terms.specs.Terms.{Tm}
use Rattle.isa_net.specs.declared.mode.Mode.{Mode}
use Rattle.isa_net.specs.declared.symbol.Symbol.{Symbol}
use Rattle.isa_net.specs.declared.rank.Rank.{Rank}
use Rattle.isa_net.specs.declared.node.Node.{Node}
use Rattle.isa_net.specs.Words.{Along}
use Rattle.isa_net.specs.Count.{agreeing}
use Rattle.isa_net.specs.Inside.Reach.{edges_of, target, edge_of, edge, reach, Apart}
use Rattle.isa_net.specs.Inside.Index.{In, IsTree, IsIndex, IsGiven, AreGiven, AreCounted, Places, Restores, Unplaces}
use Rattle.isa_net.specs.declared.tree.Tree.{Tree}
use Rattle.isa_net.specs.Inside.Holding.{IsBare, HoldsAt, Holds, Keeps, IsRooted, Extends}
use Rattle.isa_net.proofs.Reached.{back}
use Rattle.isa_net.proofs.Growing.{first_step, no_step}
use Rattle.isa_net.proofs.Indexes.{deeper}

-- ---- the first root
module _ (old new : Slab Node) (c : ℕ) (leaf : Node) (empty : (n : ℕ) → get old n ≡ None) (made : Updates old new c (Some leaf)) (bare : edges_of leaf ≡ []) (rankless : leaf.ranks.items ≡ []) where
  no_node : (n : ℕ) → n ≢ c → get new n ≡ None
  no_node n d = made.others n d ∙ empty n

  no_edge : (n : ℕ) (s : Symbol) → edge new n s ≡ None
  no_edge n s = elim (cases_eq n c) [
    | inl e ↦ ap (λ o. edge_of o s) (ap (get new) e ∙ made.changed) ∙ ap (target s) bare
    | inr d ↦ ap (λ o. edge_of o s) (no_node n d)
  ]

  the_leaf : (n : ℕ) (node : Node) → get new n ≡ Some node → (n ≡ c) × (leaf ≡ node)
  the_leaf n node h = elim (cases_eq n c) [
    | inl e ↦ (e, (let x : get new n ≡ Some leaf = ap (get new) e ∙ made.changed in cc))
    | inr d ↦ let x = no_node n d in absurd (cc)
  ]

  fresh_tree : IsTree new c
  fresh_tree = record {
    apart = λ n node h. back (λ v. Apart v) _ _ (sym (ap edges_of (the_leaf n node h).1) ∙ bare) tt;
    there = λ n m s h. (let x = no_edge n s in absurd (cc));
    once = λ m n k s t h g. (let x = no_edge m s in absurd (cc));
    outermost = λ n s h. (let x = no_edge n s in absurd (cc));
    stands = (leaf, made.changed);
  }

  only_root : (w : List Symbol) (m : ℕ) → reach new c w ≡ Some m → (w ≡ []) × (m ≡ c)
  only_root [] m h = (refl, (no_step new c m h).0)
  only_root (s ∷ w) m h = let r = first_step new c s w m h in let x = no_edge c s in let y = r.leads in absurd (cc)

  pub fresh_root : (deep : ℕ) (word_at : Rank → Option (List Symbol)) → ((r : Rank) → word_at r ≡ None) → 0 < deep → IsIndex new c deep word_at []
  fresh_root deep word_at nowhere l = record {
    tree = fresh_tree;
    ranked = λ w n node r h t. ((λ i. absurd (back (λ v. In r v) _ _ (sym (sym (ap (λ v. v.ranks.items) (the_leaf n node t).1) ∙ rankless)) i)), (λ e. (let x = nowhere r in absurd (cc))));
    held = λ r w e. (let x = nowhere r in absurd (cc));
    shallow = λ w n h. (let x = ap length (only_root w n h).0 in omega (arith, x));
    used = λ w n h. inl ([], ap (λ v. v ++ []) (sym (only_root w n h).0));
  }

-- ---- the calls, by the root
pub holds_deeper : (root : Option ℕ) (nodes : Slab Node) (deep more : ℕ) → deep ≤ more → (word_at : Rank → Option (List Symbol)) → HoldsAt root nodes deep word_at → HoldsAt root nodes more word_at
holds_deeper None nodes deep more l word_at x = x
holds_deeper (Some root) nodes deep more l word_at x = deeper nodes root deep more word_at [] l x

pub holds_rooted : (o : Option ℕ) (root : ℕ) (nodes : Slab Node) (deep : ℕ) → o ≡ Some root → (word_at : Rank → Option (List Symbol)) → HoldsAt o nodes deep word_at → IsIndex nodes root deep word_at []
holds_rooted o root nodes deep e word_at x = back (λ v. HoldsAt v nodes deep word_at) _ _ (sym e) x

pub rooted_holds : (o : Option ℕ) (root : ℕ) (nodes : Slab Node) (deep : ℕ) → o ≡ Some root → (word_at : Rank → Option (List Symbol)) → IsIndex nodes root deep word_at [] → HoldsAt o nodes deep word_at
rooted_holds o root nodes deep e word_at x = back (λ v. HoldsAt v nodes deep word_at) _ _ e x

pub holds_bare : (o : Option ℕ) (nodes : Slab Node) (deep : ℕ) → o ≡ None → (word_at : Rank → Option (List Symbol)) → HoldsAt o nodes deep word_at → IsBare nodes word_at
holds_bare o nodes deep e word_at x = back (λ v. HoldsAt v nodes deep word_at) _ _ (sym e) x

pub bare_holds : (o : Option ℕ) (nodes : Slab Node) (deep : ℕ) → o ≡ None → (word_at : Rank → Option (List Symbol)) → IsBare nodes word_at → HoldsAt o nodes deep word_at
bare_holds o nodes deep e word_at x = back (λ v. HoldsAt v nodes deep word_at) _ _ e x

pub first_root : (o p : Option ℕ) (old new : Slab Node) (c : ℕ) (leaf : Node) (deep : ℕ) → o ≡ None → Updates old new c (Some leaf) → edges_of leaf ≡ [] → leaf.ranks.items ≡ [] → 0 < deep → (word_at : Rank → Option (List Symbol)) → HoldsAt o old deep word_at → IsIndex new c deep word_at []
first_root o p old new c leaf deep e made bare rankless l word_at x = let b = holds_bare o old deep e word_at x in fresh_root old new c leaf b.empty made bare rankless deep word_at b.nowhere l

pub places_at : (old new : Slab Node) (root deep : ℕ) (w : List Symbol) (r : Rank) (before after : Rank → Option (List Symbol)) → length w < deep → Places old new root w r → IsIndex old root deep before [] → Extends before after r w → IsIndex new root deep after []
places_at old new root deep w r before after l p x e = p deep before after l x e.free e.put e.others

pub unplaces_at : (o : Option ℕ) (old new : Slab Node) (root deep : ℕ) (w : List Symbol) (r : Rank) → o ≡ Some root → Unplaces old new root w r → (before after : Rank → Option (List Symbol)) → HoldsAt o old deep before → Extends after before r w → HoldsAt o new deep after
unplaces_at o old new root deep w r e p before after x ext =
    rooted_holds o root new deep e after (p deep before after (holds_rooted o root old deep e before x) ext.put ext.free (λ q d. sym (ext.others q d)))

pub unplaces_none : (o : Option ℕ) (nodes : Slab Node) (deep : ℕ) (w : List Symbol) (r : Rank) → o ≡ None → (before after : Rank → Option (List Symbol)) → HoldsAt o nodes deep before → Extends after before r w → HoldsAt o nodes deep after
unplaces_none o nodes deep w r e before after x ext = let y = (holds_bare o nodes deep e before x).nowhere r in let z = ext.put in absurd (cc)

pub given_none : (o : Option ℕ) (nodes : Slab Node) (deep : ℕ) (mode : Mode) (t : Tm) (rs : List Rank) → o ≡ None → rs ≡ [] → (word_at : Rank → Option (List Symbol)) → HoldsAt o nodes deep word_at → (r : Rank) → In r rs ↔ IsGiven mode t word_at r
given_none o nodes deep mode t rs e q word_at x r = (
  λ i. absurd (back (λ v. In r v) _ _ (sym q) i),
  λ g. (let y = (holds_bare o nodes deep e word_at x).nowhere r in let z = g.1.0 in absurd (cc)),
)

pub given_some : (o : Option ℕ) (nodes : Slab Node) (root deep : ℕ) (mode : Mode) (t : Tm) (rs : List Rank) → o ≡ Some root → AreGiven mode nodes root deep t rs → (word_at : Rank → Option (List Symbol)) → HoldsAt o nodes deep word_at → (r : Rank) → In r rs ↔ IsGiven mode t word_at r
given_some o nodes root deep mode t rs e g word_at x r = g word_at [] (holds_rooted o root nodes deep e word_at x) r

pub counted_some : (o : Option ℕ) (nodes : Slab Node) (root deep : ℕ) (mode : Mode) (t : Tm) (visited : ℕ) → o ≡ Some root → AreCounted mode nodes root deep t 0 visited → (word_at : Rank → Option (List Symbol)) (ws : List (List Symbol)) → HoldsAt o nodes deep word_at → ((r : Rank) (w : List Symbol) → word_at r ≡ Some w → In w ws) → visited ≤ agreeing mode (Along t ∷ []) ws
counted_some o nodes root deep mode t visited e g word_at ws x all = let h = g word_at ws (holds_rooted o root nodes deep e word_at x) all in omega (arith, h)

pub no_slots : (nodes : Slab Node) → nodes.slots ≡ [] → (n : ℕ) → get nodes n ≡ None
no_slots nodes e n = ap (λ v. slice_index_or v n None) e

pub holds_nothing : (nodes : Slab Node) (deep : ℕ) → nodes.slots ≡ [] → (word_at : Rank → Option (List Symbol)) → ((r : Rank) → word_at r ≡ None) → HoldsAt None nodes deep word_at
holds_nothing nodes deep e word_at h = record { nowhere = h; empty = no_slots nodes e }

-- ---- a word is put
module _ (old deepened mid : Tree) (root : ℕ) (after_nodes : Slab Node) (w : List Symbol) (r : Rank) (keeps : Keeps old deepened) (rooted : IsRooted deepened mid root) (long : length w < deepened.deep) where
  long_still : length w < mid.deep
  long_still = let e = rooted.deep in omega (arith, e, long)

  pub puts_by : Places mid.nodes after_nodes root w r → (before after : Rank → Option (List Symbol)) → Holds old before → Extends before after r w → HoldsAt mid.root after_nodes mid.deep after
  puts_by p before after x e = rooted_holds mid.root root after_nodes mid.deep rooted.is after (places_at mid.nodes after_nodes root mid.deep w r before after long_still p (rooted.keeps before (keeps before x)) e)

  pub keeps_by : Restores mid.nodes after_nodes root w → (word_at : Rank → Option (List Symbol)) → Holds old word_at → HoldsAt mid.root after_nodes mid.deep word_at
  keeps_by p word_at x = rooted_holds mid.root root after_nodes mid.deep rooted.is word_at (p mid.deep word_at long_still (rooted.keeps word_at (keeps word_at x)))
