-- A net loses an idle leaf: the index stays, and the pending word loses its last symbol.
use Rattle.std.proofs.Common.{◌≡◌, ◌↔◌, ◌⊎◌, inl, inr, ℕ, suc, Bool, true, false, cond, List, [], ◌∷◌, ◌++◌, length, length-append, append_assoc, Option, Some, None, refl, sym, ap, ◌∙◌, arith}
use Rattle.std.proofs.lemmas.Bool.{cases_eq}
use Rattle.std.proofs.lemmas.List.{append-nil}
use Rattle.slab.specs.Slab.{Slab, get}
use Rattle.isa_net.specs.declared.symbol.Symbol.{Symbol}
use Rattle.isa_net.specs.declared.rank.Rank.{Rank}
use Rattle.isa_net.specs.declared.node.Node.{Node}
use Rattle.isa_net.specs.Inside.Reach.{edges_of, edge, reach, Apart}
use Rattle.isa_net.specs.Inside.Index.{In, IsTree, IsIndex, IsLive, Shrunk}
use Rattle.isa_net.proofs.Reached.{back}
use Rattle.isa_net.proofs.Indexed.{ends_there}
use Rattle.isa_net.proofs.Growing.{AtLeaf, reach_from, reach_kept, edge_kept, edge_free}
use Rattle.isa_net.proofs.Trees.{Ended, nothing, behind, ended}

-- ---- lists
cons_same : {A : Type 0} (x y : A) (xs ys : List A) → x ∷ xs ≡ y ∷ ys → (x ≡ y) × (xs ≡ ys)
cons_same x y xs ys e = (cc, cc)

snoc_same : (a b : List Symbol) (s t : Symbol) → a ++ s ∷ [] ≡ b ++ t ∷ [] → a ≡ b
snoc_same [] [] s t e = refl
snoc_same [] (y ∷ b) s t e = let l : 1 ≡ suc (length (b ++ t ∷ [])) = ap length e in let q = length-append b (t ∷ []) in absurd (omega (arith, l, q))
snoc_same (x ∷ a) [] s t e = let l : suc (length (a ++ s ∷ [])) ≡ 1 = ap length e in let q = length-append a (s ∷ []) in absurd (omega (arith, l, q))
snoc_same (x ∷ a) (y ∷ b) s t e = let q = cons_same x y (a ++ s ∷ []) (b ++ t ∷ []) e in let r = snoc_same a b s t q.1 in cc

-- a beginning of a word and a last symbol is the whole, or a beginning of the word
begins : (front w v : List Symbol) (s : Symbol) → Ended v → front ++ s ∷ [] ≡ w ++ v → (w ≡ front ++ s ∷ []) ⊎ ((u : List Symbol) × (front ≡ w ++ u))
begins front w _ s nothing e = inl (sym (e ∙ append-nil w))
begins front w _ s (behind u t) e = inr (u, snoc_same front (w ++ u) s t (e ∙ sym (append_assoc w u (t ∷ []))))

-- ---- the net that is left
module _ (old new : Slab Node) (root n c : ℕ) (s : Symbol) (g : Shrunk old new n c s) (x : IsTree old root) (leads : edge old n s ≡ Some c) where
  kept : (m d : ℕ) (t : Symbol) → edge new m t ≡ Some d → edge old m t ≡ Some d
  kept m d t h = edge_kept new old n c s g m d t h

  pub free : edge new n s ≡ None
  free = edge_free new old n c s g

  -- an edge that is left doesn't lead to the leaf
  not_there : (m d : ℕ) (t : Symbol) → edge new m t ≡ Some d → d ≡ c → ⊥
  not_there m d t h e =
      let o = x.once m n c t s (kept m d t h ∙ ap (λ v. Some v) e) leads in
      let z : edge new m t ≡ None = ap (λ v. edge new v t) o.0 ∙ ap (λ v. edge new n v) o.1 ∙ free in
      absurd (cc)

  live_left : (m : ℕ) → IsLive old m → (m ≡ c → ⊥) → IsLive new m
  live_left m l d = elim (cases_eq m n) [
    | inl e ↦ (g.was, ap (get new) e ∙ g.stood)
    | inr p ↦ (l.0, sym (g.others m p d) ∙ l.1)
  ]

  there : (m d : ℕ) (t : Symbol) → edge new m t ≡ Some d → IsLive new d
  there m d t h = live_left d (x.there m d t (kept m d t h)) (not_there m d t h)

  not_root : root ≡ c → ⊥
  not_root e = x.outermost n s (leads ∙ ap (λ v. Some v) (sym e))

  apart : (m : ℕ) (node : Node) → get new m ≡ Some node → Apart (edges_of node)
  apart m node h = elim (cases_eq m n) [
    | inl e ↦ let z : g.was ≡ node = let y = ap (get new) e in let w = g.stood in cc in back (λ v. Apart (edges_of v)) _ _ (sym z) g.edges.was_apart
    | inr p ↦ elim (cases_eq m c) [
      | inl e ↦ let y : get new m ≡ None = ap (get new) e ∙ g.fresh in absurd (cc)
      | inr q ↦ x.apart m node (g.others m p q ∙ h)
    ]
  ]

  pub tree_shrunk : IsTree new root
  tree_shrunk = record {
    apart = apart;
    there = λ m d t h. there m d t h;
    once = λ m k d t u h j. x.once m k d t u (kept m d t h) (kept k d u j);
    outermost = λ m t h. x.outermost m t (kept m root t h);
    stands = live_left root x.stands not_root;
  }

  -- what was reached, but the leaf, still is
  pub left_there : (w : List Symbol) (m : ℕ) → reach old root w ≡ Some m → (m ≡ c → ⊥) → reach new root w ≡ Some m
  left_there w m h d = at (reach_from new old n c s g (λ j k t e. there j k t e) w root m tree_shrunk.stands h)
    where
      at : (reach new root w ≡ Some m) ⊎ AtLeaf new old n c s g w root m → reach new root w ≡ Some m
      at (inl q) = q
      at (inr a) = absurd (d a.is)

  -- the ranks of a node that is left
  same_ranks : (m : ℕ) (node : Node) → get new m ≡ Some node → (was : Node) × ((get old m ≡ Some was) × (node.ranks.items ≡ was.ranks.items))
  same_ranks m node h = elim (cases_eq m n) [
    | inl e ↦ let z : g.was ≡ node = let y = ap (get new) e in let w = g.stood in cc in (g.is, (ap (get old) e ∙ g.stands, ap (λ v. v.ranks.items) (sym z) ∙ sym g.ranks))
    | inr p ↦ elim (cases_eq m c) [
      | inl e ↦ let y : get new m ≡ None = ap (get new) e ∙ g.fresh in absurd (cc)
      | inr q ↦ (node, (g.others m p q ∙ h, refl))
    ]
  ]

module _ (old new : Slab Node) (root deep n c : ℕ) (s : Symbol) (word_at : Rank → Option (List Symbol)) (front : List Symbol) (g : Shrunk old new n c s) (x : IsIndex old root deep word_at (front ++ s ∷ [])) (leads : edge old n s ≡ Some c) (here : reach old root (front ++ s ∷ []) ≡ Some c) where
  stays : (w : List Symbol) (m : ℕ) → reach new root w ≡ Some m → reach old root w ≡ Some m
  stays w m h = reach_kept new old n c s g w root m h

  pub index_shrunk : IsIndex new root deep word_at front
  index_shrunk = record {
    tree = tree_shrunk old new root n c s g x.tree leads;
    ranked = λ w m node r h t. ranked w m node r h t;
    held = λ r w h. held r w h;
    shallow = λ w m h. x.shallow w m (stays w m h);
    used = λ w m h. used w m h (x.used w m (stays w m h));
  }
    where
      ranked : (w : List Symbol) (m : ℕ) (node : Node) (r : Rank) → reach new root w ≡ Some m → get new m ≡ Some node → In r node.ranks.items ↔ (word_at r ≡ Some w)
      ranked w m node r h t =
          let k = same_ranks old new root n c s g x.tree leads m node t in
          let b = x.ranked w m k.0 r (stays w m h) k.1.0 in
          ((λ i. b.0 (back (λ v. In r v) _ _ (sym k.1.1) i)), (λ e. back (λ v. In r v) _ _ k.1.1 (b.1 e)))

      held : (r : Rank) (w : List Symbol) → word_at r ≡ Some w → (m : ℕ) × (reach new root w ≡ Some m)
      held r w h = at (x.held r w h)
        where
          idle : (m : ℕ) → reach old root w ≡ Some m → m ≡ c → ⊥
          idle m k e =
              let i = (x.ranked w m g.leaf r k (ap (get old) e ∙ g.made)).1 h in
              back (λ v. In r v) _ _ (sym g.rankless) i

          either : (m : ℕ) → reach old root w ≡ Some m → (reach new root w ≡ Some m) ⊎ AtLeaf new old n c s g w root m → (m : ℕ) × (reach new root w ≡ Some m)
          either m k (inl q) = (m, q)
          either m k (inr a) = absurd (idle m k a.is)

          at : (m : ℕ) × (reach old root w ≡ Some m) → (m : ℕ) × (reach new root w ≡ Some m)
          at k = either k.0 k.1 (reach_from new old n c s g (λ m d t e. there old new root n c s g x.tree leads m d t e) w root k.0 (tree_shrunk old new root n c s g x.tree leads).stands k.1)

      gone : (w : List Symbol) (m : ℕ) → reach new root w ≡ Some m → w ≡ front ++ s ∷ [] → ⊥
      gone w m h e =
          let k = stays w m h in
          let q : m ≡ c = let y = ap (λ v. reach old root v) e in let z = here in cc in
          let l = ends_there new root w m h in
          let f : get new m ≡ None = ap (get new) q ∙ g.fresh in
          let z = l.1 in
          cc

      used : (w : List Symbol) (m : ℕ) → reach new root w ≡ Some m → ((v : List Symbol) × (front ++ s ∷ [] ≡ w ++ v)) ⊎ ((r : Rank) × ((v : List Symbol) × (word_at r ≡ Some (w ++ v)))) → ((v : List Symbol) × (front ≡ w ++ v)) ⊎ ((r : Rank) × ((v : List Symbol) × (word_at r ≡ Some (w ++ v))))
      used w m h (inr u) = inr u
      used w m h (inl e) = elim (begins front w e.0 s (ended e.0) e.1) [ inl q ↦ absurd (gone w m h q) | inr q ↦ inl q ]
