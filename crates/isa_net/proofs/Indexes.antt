-- An index stays one where the net grows by a leaf on the way to the pending word, or loses one.
use Rattle.std.proofs.Common.{◌≡◌, ◌↔◌, ◌⊎◌, inl, inr, ℕ, ◌<◌, ◌≤◌, List, [], ◌∷◌, ◌++◌, length, Option, Some, None, refl, sym, ap, ◌∙◌, arith}
use Rattle.std.proofs.lemmas.Bool.{cases_eq}
use Rattle.slab.specs.Slab.{Slab, get}
use Rattle.isa_net.specs.declared.symbol.Symbol.{Symbol}
use Rattle.isa_net.specs.declared.rank.Rank.{Rank}
use Rattle.isa_net.specs.declared.node.Node.{Node}
use Rattle.isa_net.specs.Inside.Reach.{edge, reach}
use Rattle.isa_net.specs.Inside.Index.{In, IsIndex, IsLive, Grown}
use Rattle.isa_net.proofs.Reached.{back}
use Rattle.isa_net.proofs.Indexed.{ends_there}
use Rattle.isa_net.proofs.Growing.{AtLeaf, reach_from, reach_kept, not_live_c, edge_free}
use Rattle.isa_net.proofs.Trees.{last, one_word, tree_grown}

-- while a word is pending, its way may be idle
pub pending_from_none : (nodes : Slab Node) (root deep : ℕ) (word_at : Rank → Option (List Symbol)) (p : List Symbol) → IsIndex nodes root deep word_at [] → IsIndex nodes root deep word_at p
pending_from_none nodes root deep word_at p x = record { tree = x.tree; ranked = x.ranked; held = x.held; shallow = x.shallow; used = λ w n h. used w (x.used w n h) }
  where
    used : (w : List Symbol) → ((v : List Symbol) × ([] ≡ w ++ v)) ⊎ ((r : Rank) × ((v : List Symbol) × (word_at r ≡ Some (w ++ v)))) → ((v : List Symbol) × (p ≡ w ++ v)) ⊎ ((r : Rank) × ((v : List Symbol) × (word_at r ≡ Some (w ++ v))))
    used [] (inl e) = inl (p, refl)
    used (s ∷ w) (inl e) = let q = e.1 in absurd (cc)
    used w (inr u) = inr u

-- the same index, where more words may be as long as told
pub deeper : (nodes : Slab Node) (root deep more : ℕ) (word_at : Rank → Option (List Symbol)) (p : List Symbol) → deep ≤ more → IsIndex nodes root deep word_at p → IsIndex nodes root more word_at p
deeper nodes root deep more word_at p l x = record { tree = x.tree; ranked = x.ranked; held = x.held; shallow = λ w n h. (let q = x.shallow w n h in omega (arith, q)); used = x.used }

module _ (old new : Slab Node) (root deep n c : ℕ) (s : Symbol) (word_at : Rank → Option (List Symbol)) (pending front : List Symbol) (g : Grown old new n c s) (x : IsIndex old root deep word_at pending) (here : reach old root front ≡ Some n) (within : (v : List Symbol) × (pending ≡ (front ++ s ∷ []) ++ v)) (short : length (front ++ s ∷ []) < deep) where
  -- the word of the new leaf
  leaf_word : (w : List Symbol) (m : ℕ) → AtLeaf old new n c s g w root m → w ≡ front ++ s ∷ []
  leaf_word w m a = a.word ∙ ap (λ v. v ++ s ∷ []) (one_word old root x.tree a.front front n a.parent here)

  cases : (w : List Symbol) (m : ℕ) → reach new root w ≡ Some m → (reach old root w ≡ Some m) ⊎ AtLeaf old new n c s g w root m
  cases w m h = reach_from old new n c s g (λ k d t e. x.tree.there k d t e) w root m x.tree.stands h

  -- no word of the old index ended where the leaf is
  unheld : (r : Rank) (w : List Symbol) (m : ℕ) → AtLeaf old new n c s g w root m → word_at r ≡ Some w → ⊥
  unheld r w m a h =
      let e = leaf_word w m a in
      let k = x.held r w h in
      let l = last old root x.tree front s k.0 (ap (λ v. reach old root v) (sym e) ∙ k.1) in
      let q : l.parent ≡ n = let y = l.before in cc in
      let z : edge old n s ≡ Some k.0 = ap (λ v. edge old v s) (sym q) ∙ l.leads in
      absurd (cc)

  -- the ranks of an old node
  same_ranks : (m : ℕ) (node : Node) → IsLive old m → get new m ≡ Some node → (was : Node) × ((get old m ≡ Some was) × (node.ranks.items ≡ was.ranks.items))
  same_ranks m node l h = elim (cases_eq m n) [
    | inl e ↦
        let z : g.is ≡ node = let y = ap (get new) e in let w = g.stands in cc in
        (g.was, (ap (get old) e ∙ g.stood, ap (λ v. v.ranks.items) (sym z) ∙ g.ranks))
    | inr p ↦ elim (cases_eq m c) [
      | inl e ↦ absurd (not_live_c old new n c s g m e l)
      | inr q ↦ (node, (sym (g.others m p q) ∙ h, refl))
    ]
  ]

  pub index_grown : IsIndex new root deep word_at pending
  index_grown = record {
    tree = tree_grown old new root n c s x.tree g;
    ranked = λ w m node r h t. ranked w m node r t (cases w m h);
    held = λ r w h. (let k = x.held r w h in (k.0, reach_kept old new n c s g w root k.0 k.1));
    shallow = λ w m h. shallow w m (cases w m h);
    used = λ w m h. used w m (cases w m h);
  }
    where
      ranked : (w : List Symbol) (m : ℕ) (node : Node) (r : Rank) → get new m ≡ Some node → (reach old root w ≡ Some m) ⊎ AtLeaf old new n c s g w root m → In r node.ranks.items ↔ (word_at r ≡ Some w)
      ranked w m node r t (inl h) =
          let k = same_ranks m node (ends_there old root w m h) t in
          let b = x.ranked w m k.0 r h k.1.0 in
          ((λ i. b.0 (back (λ v. In r v) _ _ (sym k.1.1) i)), (λ e. back (λ v. In r v) _ _ k.1.1 (b.1 e)))
      ranked w m node r t (inr a) =
          let z : g.leaf ≡ node = let y = ap (get new) a.is in let q = g.made in cc in
          let e : node.ranks.items ≡ [] = ap (λ v. v.ranks.items) (sym z) ∙ g.rankless in
          ((λ i. absurd (back (λ v. In r v) _ _ (sym e) i)), (λ h. absurd (unheld r w m a h)))

      shallow : (w : List Symbol) (m : ℕ) → (reach old root w ≡ Some m) ⊎ AtLeaf old new n c s g w root m → length w < deep
      shallow w m (inl h) = x.shallow w m h
      shallow w m (inr a) = let e = ap length (leaf_word w m a) in omega (arith, e)

      used : (w : List Symbol) (m : ℕ) → (reach old root w ≡ Some m) ⊎ AtLeaf old new n c s g w root m → ((v : List Symbol) × (pending ≡ w ++ v)) ⊎ ((r : Rank) × ((v : List Symbol) × (word_at r ≡ Some (w ++ v))))
      used w m (inl h) = x.used w m h
      used w m (inr a) = inl (within.0, within.1 ∙ ap (λ u. u ++ within.0) (sym (leaf_word w m a)))
