-- A rank is taken away, after which its word is pending; a pending word that ends at a node in use is settled.
use Rattle.std.proofs.Common.{◌≡◌, ◌↔◌, ◌⊎◌, inl, inr, ℕ, List, [], ◌∷◌, ◌++◌, length, length-append, append_assoc, Option, Some, None, refl, sym, ap, ◌∙◌, arith}
use Rattle.std.proofs.lemmas.Bool.{cases_eq}
use Rattle.std.proofs.lemmas.List.{append-nil}
use Rattle.slab.specs.Slab.{Slab, get}
use Rattle.isa_net.specs.declared.symbol.Symbol.{Symbol}
use Rattle.isa_net.specs.declared.rank.Rank.{Rank}
use Rattle.isa_net.specs.declared.node.Node.{Node}
use Rattle.isa_net.specs.Inside.Reach.{edge, reach}
use Rattle.isa_net.specs.Inside.Index.{In, IsIndex, IsLive, Unranks, ranks_in}
use Rattle.isa_net.proofs.Reached.{back}
use Rattle.isa_net.proofs.Descending.{one_more, alike_tree, alike_reach, alike_reached, alike_back}
use Rattle.isa_net.proofs.Placing.{same_rank}

module _ (old new : Slab Node) (root deep n : ℕ) (r : Rank) (w : List Symbol) (before after : Rank → Option (List Symbol)) (g : Unranks old new n r) (x : IsIndex old root deep before []) (here : reach old root w ≡ Some n) (had : before r ≡ Some w) (gone : after r ≡ None) (same : (q : Rank) → (q ≡ r → ⊥) → after q ≡ before q) where
  to_old : (v : List Symbol) (m : ℕ) → reach new root v ≡ Some m → reach old root v ≡ Some m
  to_old v m h = alike_reached old new g.live g.edges v root m h

  not_r : (q : Rank) (v : List Symbol) → after q ≡ Some v → q ≡ r → ⊥
  not_r q v a z = let y : after q ≡ None = ap after z ∙ gone in cc

  was : (q : Rank) (v : List Symbol) → after q ≡ Some v → before q ≡ Some v
  was q v a = sym (same q (not_r q v a)) ∙ a

  pub index_unranked : IsIndex new root deep after w
  index_unranked = record {
    tree = alike_tree old new g.live g.edges root x.tree;
    ranked = λ v m node q h t. ranked v m node q (to_old v m h) t (alike_back old new g.live g.edges m (node, t));
    held = λ q v a. (let k = x.held q v (was q v a) in (k.0, alike_reach old new g.live g.edges v root k.0 k.1));
    shallow = λ v m h. x.shallow v m (to_old v m h);
    used = λ v m h. used v m (x.used v m (to_old v m h));
  }
    where
      at_n : (v : List Symbol) (m : ℕ) (q : Rank) → m ≡ n → (In q (ranks_in (get old m)) ↔ (before q ≡ Some v)) → In q (ranks_in (get new m)) ↔ (after q ≡ Some v)
      at_n v m q e b = (
        λ i. (let k = (g.left q).0 (back (λ j. In q (ranks_in (get new j))) _ _ (sym e) i) in same q k.1 ∙ b.0 (back (λ j. In q (ranks_in (get old j))) _ _ e k.0)),
        λ a. back (λ j. In q (ranks_in (get new j))) _ _ e ((g.left q).1 (back (λ j. In q (ranks_in (get old j))) _ _ (sym e) (b.1 (was q v a)), not_r q v a)),
      )

      elsewhere : (v : List Symbol) (m : ℕ) (q : Rank) → reach old root v ≡ Some m → (m ≡ n → ⊥) → (In q (ranks_in (get old m)) ↔ (before q ≡ Some v)) → In q (ranks_in (get new m)) ↔ (after q ≡ Some v)
      elsewhere v m q h d b = (
        λ i. (let p = b.0 (back (λ k. In q k) _ _ (sym (g.others m d)) i) in same q (other p) ∙ p),
        λ a. back (λ k. In q k) _ _ (g.others m d) (b.1 (was q v a)),
      )
        where
          other : before q ≡ Some v → q ≡ r → ⊥
          other p z =
              let y : before r ≡ Some v = ap before (sym z) ∙ p in
              let u : v ≡ w = let k = had in cc in
              let k : m ≡ n = let o = ap (λ s. reach old root s) u in let j = here in cc in
              d k

      ranked : (v : List Symbol) (m : ℕ) (node : Node) (q : Rank) → reach old root v ≡ Some m → get new m ≡ Some node → IsLive old m → In q node.ranks.items ↔ (after q ≡ Some v)
      ranked v m node q h t l =
          let o = x.ranked v m l.0 q h l.1 in
          let b : In q (ranks_in (get old m)) ↔ (before q ≡ Some v) = ((λ i. o.0 (back (λ k. In q k) _ _ (sym (ap ranks_in l.1)) i)), (λ a. back (λ k. In q k) _ _ (ap ranks_in l.1) (o.1 a))) in
          let e = ap ranks_in t in
          let f : In q (ranks_in (get new m)) ↔ (after q ≡ Some v) = elim (cases_eq m n) [ inl z ↦ at_n v m q z b | inr z ↦ elsewhere v m q h z b ] in
          ((λ i. f.0 (back (λ k. In q k) _ _ e i)), (λ a. back (λ k. In q k) _ _ (sym e) (f.1 a)))

      used : (v : List Symbol) (m : ℕ) → ((u : List Symbol) × ([] ≡ v ++ u)) ⊎ ((q : Rank) × ((u : List Symbol) × (before q ≡ Some (v ++ u)))) → ((u : List Symbol) × (w ≡ v ++ u)) ⊎ ((q : Rank) × ((u : List Symbol) × (after q ≡ Some (v ++ u))))
      used [] m (inl e) = inl (w, refl)
      used (s ∷ v) m (inl e) = let q = e.1 in absurd (cc)
      used v m (inr e) = elim (same_rank e.0 r) [
        | inl z ↦ inl (e.1.0, (let y : before r ≡ Some (v ++ e.1.0) = ap before (sym z) ∙ e.1.1 in let h = had in cc))
        | inr z ↦ inr (e.0, (e.1.0, same e.0 z ∙ e.1.1))
      ]

-- a pending word that stands before a word of the index is settled
pub settled : (nodes : Slab Node) (root deep : ℕ) (word_at : Rank → Option (List Symbol)) (w : List Symbol) (r : Rank) (u : List Symbol) → word_at r ≡ Some (w ++ u) → IsIndex nodes root deep word_at w → IsIndex nodes root deep word_at []
settled nodes root deep word_at w r u e x = record { tree = x.tree; ranked = x.ranked; held = x.held; shallow = x.shallow; used = λ v n h. used v (x.used v n h) }
  where
    used : (v : List Symbol) → ((t : List Symbol) × (w ≡ v ++ t)) ⊎ ((q : Rank) × ((t : List Symbol) × (word_at q ≡ Some (v ++ t)))) → ((t : List Symbol) × ([] ≡ v ++ t)) ⊎ ((q : Rank) × ((t : List Symbol) × (word_at q ≡ Some (v ++ t))))
    used v (inr q) = inr q
    used v (inl t) = inr (r, (t.0 ++ u, e ∙ ap (λ z. Some (z ++ u)) t.1 ∙ ap (λ z. Some z) (append_assoc v t.0 u)))

-- so is one whose node has an edge
pub settled_by_edge : (nodes : Slab Node) (root deep n c : ℕ) (s : Symbol) (word_at : Rank → Option (List Symbol)) (w : List Symbol) → reach nodes root w ≡ Some n → edge nodes n s ≡ Some c → IsIndex nodes root deep word_at w → IsIndex nodes root deep word_at []
settled_by_edge nodes root deep n c s word_at w h e x = at (x.used (w ++ s ∷ []) c (one_more nodes w root n c s e (x.tree.there n c s e) h))
  where
    at : ((t : List Symbol) × (w ≡ (w ++ s ∷ []) ++ t)) ⊎ ((q : Rank) × ((t : List Symbol) × (word_at q ≡ Some ((w ++ s ∷ []) ++ t)))) → IsIndex nodes root deep word_at []
    at (inl t) = let k = ap length t.1 in let i = length-append (w ++ s ∷ []) t.0 in let j = length-append w (s ∷ []) in absurd (omega (arith, k, i, j))
    at (inr q) = settled nodes root deep word_at w q.0 (s ∷ q.1.0) (q.1.1 ∙ ap (λ v. Some v) (append_assoc w (s ∷ []) q.1.0)) x

-- and one at whose end a rank stands
pub settled_by_rank : (nodes : Slab Node) (root deep n : ℕ) (node : Node) (r : Rank) (word_at : Rank → Option (List Symbol)) (w : List Symbol) → reach nodes root w ≡ Some n → get nodes n ≡ Some node → In r node.ranks.items → IsIndex nodes root deep word_at w → IsIndex nodes root deep word_at []
settled_by_rank nodes root deep n node r word_at w h t i x = settled nodes root deep word_at w r [] ((x.ranked w n node r h t).0 i ∙ ap (λ v. Some v) (sym (append-nil w))) x
