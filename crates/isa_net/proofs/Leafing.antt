-- What the calls of a slab make of the nodes, when a leaf is added.
use Rattle.std.proofs.Common.{◌≡◌, ◌≢◌, ◌↔◌, inl, inr, ℕ, [], ◌∷◌, ◌++◌, Option, Some, None, refl, sym, ap, ◌∙◌}
use Rattle.std.specs.Prelude.{IsSome}
use Rattle.std.proofs.lemmas.Bool.{cases_eq}
use Rattle.slab.specs.Slab.{Slab, get, Updates, with_value}
use Rattle.slab.proofs.SlabLemmas.{Updates-with_value}
use Rattle.isa_net.specs.declared.symbol.Symbol.{Symbol}
use Rattle.isa_net.specs.declared.node.Node.{Node}
use Rattle.isa_net.specs.Inside.Index.{IsLive, AddsEdge, Grown, IsLeaf, Shrunk, Alike, edges_at, ranks_in}
use Rattle.isa_net.proofs.Reached.{back}
use Rattle.isa_net.specs.Inside.Reach.{edges_of, target, edge_of, edge, Apart}

some_is : (o : Option Node) (n : Node) → o ≡ Some n → IsSome o
some_is o n e = rw e refl

module _ (old mid : Slab Node) (at leaf : ℕ) (bare node : Node) (fresh : get old leaf ≡ None) (made : Updates old mid leaf (Some bare)) (here : get mid at ≡ Some node) (live : IsLive old at) where
  pub apart : at ≢ leaf
  apart e = let x : get old at ≡ None = ap (get old) e ∙ fresh in let y = live.1 in cc

  stood : get old at ≡ Some node
  stood = sym (made.others at apart) ∙ here

  written : (value : Node) → Updates mid (with_value mid at value) at (Some value)
  written value = Updates-with_value mid at value (some_is (get mid at) node here)

  -- the edges to which the leaf is put had none of the symbol
  pub node_free : (symbol : Symbol) → edge old at symbol ≡ None → target symbol (edges_of node) ≡ None
  node_free symbol h = sym (ap (λ o. edge_of o symbol) stood) ∙ h

  pub grown_by : (symbol : Symbol) (value : Node) → edges_of bare ≡ [] → bare.ranks.items ≡ [] → AddsEdge (edges_of node) (edges_of value) symbol leaf → value.ranks ≡ node.ranks → Grown old (with_value mid at value) at leaf symbol
  grown_by symbol value b r e q = record {
    was = node;
    is = value;
    stood = stood;
    stands = (written value).changed;
    edges = e;
    ranks = ap (λ v. v.items) q;
    fresh = fresh;
    leaf = bare;
    made = (written value).others leaf (λ w. apart (sym w)) ∙ made.changed;
    bare = b;
    rankless = r;
    others = λ m p k. (written value).others m p ∙ made.others m k;
  }

  pub alike_by : (value : Node) (new : Slab Node) → edges_of value ≡ edges_of node → value.ranks ≡ node.ranks → Updates (with_value mid at value) new leaf None → Alike old new
  alike_by value new e q gone = record {
    live = λ m. by (λ (o p : Option Node). IsSome p ↔ IsSome o) m ((λ h. refl), (λ h. refl)) ((λ h. h), (λ h. h)) (λ o. ((λ h. h), (λ h. h)));
    edges = λ m. by (λ (o p : Option Node). edges_at p ≡ edges_at o) m e refl (λ o. refl);
    ranks = λ m. by (λ (o p : Option Node). ranks_in p ≡ ranks_in o) m (ap (λ v. v.items) q) refl (λ o. refl);
  }
    where
      by : (P : Option Node → Option Node → Type 0) (m : ℕ) → P (Some node) (Some value) → P None None → ((o : Option Node) → P o o) → P (get old m) (get new m)
      by P m a n r = elim (cases_eq m leaf) [
        | inl w ↦ let x : get new m ≡ None = ap (get new) w ∙ gone.changed in let y : get old m ≡ None = ap (get old) w ∙ fresh in rw (x, y) n
        | inr k ↦ elim (cases_eq m at) [
          | inl w ↦ let x : get new m ≡ Some value = gone.others m k ∙ ap (get (with_value mid at value)) w ∙ (written value).changed in let y : get old m ≡ Some node = ap (get old) w ∙ stood in rw (x, y) a
          | inr j ↦ let x : get new m ≡ get old m = gone.others m k ∙ (written value).others m j ∙ made.others m k in rw x (r (get old m))
        ]
      ]

-- a leaf is dropped
module _ (old mid : Slab Node) (at leaf : ℕ) (symbol : Symbol) (l : IsLeaf old at symbol leaf) (gone : Updates old mid leaf None) where
  apart_here : at ≢ leaf
  apart_here e = l.other (sym e)

  parent_left : get mid at ≡ Some l.parent
  parent_left = gone.others at apart_here ∙ l.stands

  pub none_dropped : get mid at ≡ None → ⊥
  none_dropped h = let y = parent_left in cc

  pub dropped_by : (node value : Node) → get mid at ≡ Some node → ((c : ℕ) → Apart (edges_of node) → target symbol (edges_of node) ≡ Some c → AddsEdge (edges_of value) (edges_of node) symbol c) → value.ranks ≡ node.ranks → Shrunk old (with_value mid at value) at leaf symbol
  dropped_by node value here takes q =
      let same : l.parent ≡ node = let y = parent_left in cc in
      let written : Updates mid (with_value mid at value) at (Some value) = Updates-with_value mid at value (some_is (get mid at) node here) in
      record {
        was = value;
        is = node;
        stood = written.changed;
        stands = l.stands ∙ ap (λ v. Some v) same;
        edges = takes leaf (back (λ v. Apart (edges_of v)) _ _ (sym same) l.apart) (ap (λ v. target symbol (edges_of v)) (sym same) ∙ l.leads);
        ranks = ap (λ v. v.items) (sym q);
        fresh = written.others leaf l.other ∙ gone.changed;
        leaf = l.leaf;
        made = l.made;
        bare = l.bare;
        rankless = l.rankless;
        others = λ m p k. sym (written.others m p ∙ gone.others m k);
      }
