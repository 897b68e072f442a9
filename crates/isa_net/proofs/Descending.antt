-- A step of growing.
use Rattle.std.proofs.Common.{◌≡◌, ◌↔◌, ℕ, List, [], ◌∷◌, ◌++◌, length, length-append, Option, Some, None, refl, sym, ap, ◌∙◌, arith}
use Rattle.std.specs.Prelude.{IsSome}
use Rattle.slab.specs.Slab.{Slab, get}
use Rattle.isa_net.specs.declared.symbol.Symbol.{Symbol}
use Rattle.isa_net.specs.declared.rank.Rank.{Rank}
use Rattle.isa_net.specs.declared.node.Node.{Node}
use Rattle.isa_net.specs.Inside.Reach.{edges_of, target, edge_of, edge, reach, Apart}
use Rattle.isa_net.specs.Inside.Index.{In, IsTree, IsIndex, IsLive, Descends, found, made, KeepsIndex, Alike, edges_at, ranks_in}
use Rattle.isa_net.proofs.Reached.{back}
use Rattle.isa_net.proofs.Growing.{first_step, with_step, no_step, at_once, reach_new}
use Rattle.isa_net.proofs.Trees.{tree_grown}
use Rattle.isa_net.proofs.Indexes.{index_grown}

pub one_more : (nodes : Slab Node) (w : List Symbol) (k n c : ℕ) (s : Symbol) → edge nodes n s ≡ Some c → IsLive nodes c → reach nodes k w ≡ Some n → reach nodes k (w ++ s ∷ []) ≡ Some c
one_more nodes [] k n c s e l h = let r = no_step nodes k n h in with_step nodes k c s [] c (ap (λ v. edge nodes v s) (sym r.0) ∙ e) (at_once nodes c l)
one_more nodes (t ∷ w) k n c s e l h = let r = first_step nodes k t w n h in with_step nodes k r.next t (w ++ s ∷ []) c r.leads (one_more nodes w r.next n c s e l r.rest)

pub tree_descended : (old new : Slab Node) (root n c : ℕ) (s : Symbol) → IsTree old root → Descends old new n s c → IsTree new root
tree_descended old new root n c s x (found e q) = back (λ v. IsTree v root) _ _ q x
tree_descended old new root n c s x (made e g) = tree_grown old new root n c s x g

pub reach_descended : (old new : Slab Node) (root n c : ℕ) (s : Symbol) (w : List Symbol) → IsTree old root → reach old root w ≡ Some n → Descends old new n s c → reach new root (w ++ s ∷ []) ≡ Some c
reach_descended old new root n c s w x h (found e q) = ap (λ v. reach v root (w ++ s ∷ [])) q ∙ one_more old w root n c s e (x.there n c s e) h
reach_descended old new root n c s w x h (made e g) = reach_new old new n c s g w root h

pub index_descended : (old new : Slab Node) (root n c : ℕ) (s : Symbol) (w v pending : List Symbol) → reach old root w ≡ Some n → Descends old new n s c → pending ≡ (w ++ s ∷ []) ++ v → KeepsIndex old new root pending
index_descended old new root n c s w v pending h (found e q) p deep word_at l x = back (λ u. IsIndex u root deep word_at pending) _ _ q x
index_descended old new root n c s w v pending h (made e g) p deep word_at l x =
    let k = ap length p in
    let j = length-append (w ++ s ∷ []) v in
    index_grown old new root deep n c s word_at pending w g x h (v, p) (omega (arith, k, j))

pub keeps_more : (old mid new : Slab Node) (root : ℕ) (pending : List Symbol) → KeepsIndex old mid root pending → KeepsIndex mid new root pending → KeepsIndex old new root pending
keeps_more old mid new root pending f g deep word_at l x = g deep word_at l (f deep word_at l x)

-- ---- nets that are alike
module _ (old new : Slab Node) (live : (m : ℕ) → IsSome (get new m) ↔ IsSome (get old m)) (edges : (m : ℕ) → edges_at (get new m) ≡ edges_at (get old m)) where
  edge_by : (o : Option Node) (s : Symbol) → edge_of o s ≡ target s (edges_at o)
  edge_by None s = refl
  edge_by (Some node) s = refl

  alike_edge : (m : ℕ) (s : Symbol) → edge new m s ≡ edge old m s
  alike_edge m s = edge_by (get new m) s ∙ ap (target s) (edges m) ∙ sym (edge_by (get old m) s)

  some_node : (o : Option Node) → IsSome o → (node : Node) × (o ≡ Some node)
  some_node None h = absurd (cc)
  some_node (Some node) h = (node, refl)

  is_some_of : (m : ℕ) (nodes : Slab Node) → IsLive nodes m → IsSome (get nodes m)
  is_some_of m nodes l = rw l.1 refl

  alike_live : (m : ℕ) → IsLive old m → IsLive new m
  alike_live m l = some_node (get new m) ((live m).1 (is_some_of m old l))

  pub alike_back : (m : ℕ) → IsLive new m → IsLive old m
  alike_back m l = some_node (get old m) ((live m).0 (is_some_of m new l))

  pub alike_reach : (w : List Symbol) (k m : ℕ) → reach old k w ≡ Some m → reach new k w ≡ Some m
  alike_reach [] k m h = let r = no_step old k m h in at_once new k (alike_live k r.1) ∙ ap (λ v. Some v) (sym r.0)
  alike_reach (t ∷ w) k m h = let r = first_step old k t w m h in with_step new k r.next t w m (alike_edge k t ∙ r.leads) (alike_reach w r.next m r.rest)

  pub alike_reached : (w : List Symbol) (k m : ℕ) → reach new k w ≡ Some m → reach old k w ≡ Some m
  alike_reached [] k m h = let r = no_step new k m h in at_once old k (alike_back k r.1) ∙ ap (λ v. Some v) (sym r.0)
  alike_reached (t ∷ w) k m h = let r = first_step new k t w m h in with_step old k r.next t w m (sym (alike_edge k t) ∙ r.leads) (alike_reached w r.next m r.rest)

  pub alike_tree : (root : ℕ) → IsTree old root → IsTree new root
  alike_tree root x = record {
    apart = λ m node h. apart m node h (alike_back m (node, h));
    there = λ m d t h. alike_live d (x.there m d t (sym (alike_edge m t) ∙ h));
    once = λ m k d t u h j. x.once m k d t u (sym (alike_edge m t) ∙ h) (sym (alike_edge k u) ∙ j);
    outermost = λ m t h. x.outermost m t (sym (alike_edge m t) ∙ h);
    stands = alike_live root x.stands;
  }
    where
      apart : (m : ℕ) (node : Node) → get new m ≡ Some node → IsLive old m → Apart (edges_of node)
      apart m node h l = back (λ v. Apart v) _ _ (sym (ap edges_at h) ∙ edges m ∙ ap edges_at l.1) (x.apart m l.0 l.1)

module _ (old new : Slab Node) (a : Alike old new) (root : ℕ) (pending : List Symbol) where
  reached_old : (w : List Symbol) (m : ℕ) → reach new root w ≡ Some m → reach old root w ≡ Some m
  reached_old w m h = alike_reached old new a.live a.edges w root m h

  pub alike_index : KeepsIndex old new root pending
  alike_index deep word_at l x = record {
    tree = alike_tree old new a.live a.edges root x.tree;
    ranked = λ w m node r h t. ranked w m node r h t (alike_back old new a.live a.edges m (node, t));
    held = λ r w h. (let k = x.held r w h in (k.0, alike_reach old new a.live a.edges w root k.0 k.1));
    shallow = λ w m h. x.shallow w m (reached_old w m h);
    used = λ w m h. x.used w m (reached_old w m h);
  }
    where
      ranked : (w : List Symbol) (m : ℕ) (node : Node) (r : Rank) → reach new root w ≡ Some m → get new m ≡ Some node → IsLive old m → In r node.ranks.items ↔ (word_at r ≡ Some w)
      ranked w m node r h t l =
          let e : node.ranks.items ≡ l.0.ranks.items = sym (ap ranks_in t) ∙ a.ranks m ∙ ap ranks_in l.1 in
          let b = x.ranked w m l.0 r (reached_old w m h) l.1 in
          ((λ i. b.0 (back (λ v. In r v) _ _ (sym e) i)), (λ q. back (λ v. In r v) _ _ e (b.1 q)))
