-- A rank is put at the end of the pending word.
use Rattle.std.proofs.Common.{◌≡◌, ◌↔◌, ◌⊎◌, inl, inr, ℕ, List, [], ◌++◌, Option, Some, None, sym, ap, ◌∙◌}
use Rattle.std.proofs.lemmas.Bool.{cases_eq}
use Rattle.slab.specs.Slab.{Slab, get}
use Rattle.isa_net.specs.declared.symbol.Symbol.{Symbol}
use Rattle.isa_net.specs.declared.rank.Rank.{Rank}
use Rattle.isa_net.specs.declared.node.Node.{Node}
use Rattle.isa_net.specs.Inside.Reach.{reach}
use Rattle.isa_net.specs.Inside.Index.{In, IsIndex, IsLive, Ranks, ranks_in}
use Rattle.isa_net.proofs.Reached.{back}
use Rattle.isa_net.proofs.Trees.{one_word}
use Rattle.isa_net.proofs.Descending.{alike_tree, alike_reach, alike_reached, alike_back}

module _ (old new : Slab Node) (root deep n : ℕ) (r : Rank) (w : List Symbol) (before after : Rank → Option (List Symbol)) (g : Ranks old new n r) (x : IsIndex old root deep before w) (here : reach old root w ≡ Some n) (free : before r ≡ None) (put : after r ≡ Some w) (kept : (q : Rank) (v : List Symbol) → (q ≡ r → ⊥) → after q ≡ Some v → before q ≡ Some v) (stays : (q : Rank) (v : List Symbol) → before q ≡ Some v → after q ≡ Some v) (decide : (q : Rank) → (q ≡ r) ⊎ (q ≡ r → ⊥)) where
  to_old : (v : List Symbol) (m : ℕ) → reach new root v ≡ Some m → reach old root v ≡ Some m
  to_old v m h = alike_reached old new g.live g.edges v root m h

  pub index_ranked : IsIndex new root deep after []
  index_ranked = record {
    tree = alike_tree old new g.live g.edges root x.tree;
    ranked = λ v m node q h t. ranked v m node q (to_old v m h) t (alike_back old new g.live g.edges m (node, t));
    held = λ q v h. held q v h (decide q);
    shallow = λ v m h. x.shallow v m (to_old v m h);
    used = λ v m h. used v m (x.used v m (to_old v m h));
  }
    where
      at_n : (v : List Symbol) (m : ℕ) (q : Rank) → reach old root v ≡ Some m → m ≡ n → (In q (ranks_in (get old m)) ↔ (before q ≡ Some v)) → In q (ranks_in (get new m)) ↔ (after q ≡ Some v)
      at_n v m q h e b = (
        λ i. (elim ((g.added q).0 (back (λ k. In q (ranks_in (get new k))) _ _ (sym e) i)) [
          | inl o ↦ stays q v (b.0 (back (λ k. In q (ranks_in (get old k))) _ _ e o))
          | inr z ↦ ap after z ∙ put ∙ ap (λ u. Some u) (one_word old root x.tree w v n here (h ∙ ap (λ k. Some k) e))
        ]),
        λ a. back (λ k. In q (ranks_in (get new k))) _ _ e ((g.added q).1 (which (decide q) a)),
      )
        where
          which : (q ≡ r) ⊎ (q ≡ r → ⊥) → after q ≡ Some v → In q (ranks_in (get old n)) ⊎ (q ≡ r)
          which (inl z) a = inr z
          which (inr z) a = inl (back (λ k. In q (ranks_in (get old k))) _ _ (sym e) (b.1 (kept q v z a)))

      elsewhere : (v : List Symbol) (m : ℕ) (q : Rank) → reach old root v ≡ Some m → (m ≡ n → ⊥) → (In q (ranks_in (get old m)) ↔ (before q ≡ Some v)) → In q (ranks_in (get new m)) ↔ (after q ≡ Some v)
      elsewhere v m q h d b = (
        λ i. stays q v (b.0 (back (λ k. In q k) _ _ (sym (g.others m d)) i)),
        λ a. back (λ k. In q k) _ _ (g.others m d) (b.1 (kept q v (not_r a) a)),
      )
        where
          not_r : after q ≡ Some v → q ≡ r → ⊥
          not_r a z =
              let y : after r ≡ Some v = ap after (sym z) ∙ a in
              let u : v ≡ w = let p = put in cc in
              let k : m ≡ n = let o = ap (λ s. reach old root s) u in let p = here in cc in
              d k

      ranked : (v : List Symbol) (m : ℕ) (node : Node) (q : Rank) → reach old root v ≡ Some m → get new m ≡ Some node → IsLive old m → In q node.ranks.items ↔ (after q ≡ Some v)
      ranked v m node q h t l =
          let o = x.ranked v m l.0 q h l.1 in
          let b : In q (ranks_in (get old m)) ↔ (before q ≡ Some v) = ((λ i. o.0 (back (λ k. In q k) _ _ (sym (ap ranks_in l.1)) i)), (λ a. back (λ k. In q k) _ _ (ap ranks_in l.1) (o.1 a))) in
          let e = ap ranks_in t in
          let f : In q (ranks_in (get new m)) ↔ (after q ≡ Some v) = elim (cases_eq m n) [ inl z ↦ at_n v m q h z b | inr z ↦ elsewhere v m q h z b ] in
          ((λ i. f.0 (back (λ k. In q k) _ _ e i)), (λ a. back (λ k. In q k) _ _ (sym e) (f.1 a)))

      held : (q : Rank) (v : List Symbol) → after q ≡ Some v → (q ≡ r) ⊎ (q ≡ r → ⊥) → (m : ℕ) × (reach new root v ≡ Some m)
      held q v a (inl z) =
          let y : after r ≡ Some v = ap after (sym z) ∙ a in
          let u : v ≡ w = let p = put in cc in
          (n, alike_reach old new g.live g.edges v root n (ap (λ s. reach old root s) u ∙ here))
      held q v a (inr z) = let k = x.held q v (kept q v z a) in (k.0, alike_reach old new g.live g.edges v root k.0 k.1)

      used : (v : List Symbol) (m : ℕ) → ((u : List Symbol) × (w ≡ v ++ u)) ⊎ ((q : Rank) × ((u : List Symbol) × (before q ≡ Some (v ++ u)))) → ((u : List Symbol) × ([] ≡ v ++ u)) ⊎ ((q : Rank) × ((u : List Symbol) × (after q ≡ Some (v ++ u))))
      used v m (inl e) = inr (r, (e.0, put ∙ ap (λ u. Some u) e.1))
      used v m (inr e) = inr (e.0, (e.1.0, stays e.0 (v ++ e.1.0) e.1.1))
