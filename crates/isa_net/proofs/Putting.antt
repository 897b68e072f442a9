-- What the calls of a slab make of the nodes, when a rank is put.
use Rattle.std.proofs.Common.{◌≡◌, ◌↔◌, ◌⊎◌, inl, inr, ℕ, [], ◌∷◌, ◌++◌, Option, Some, refl, sym, ap, ◌∙◌}
use Rattle.std.specs.Prelude.{IsSome}
use Rattle.std.proofs.lemmas.Bool.{cases_eq}
use Rattle.slab.specs.Slab.{Slab, get, Updates, with_value}
use Rattle.slab.proofs.SlabLemmas.{Updates-with_value}
use Rattle.isa_net.specs.declared.rank.Rank.{Rank}
use Rattle.isa_net.specs.declared.node.Node.{Node}
use Rattle.isa_net.specs.Inside.Index.{In, Alike, Ranks, Unranks, edges_at, ranks_in}
use Rattle.isa_net.proofs.Reached.{back}
use Rattle.isa_net.proofs.Members.{in_left, in_right, in_either}

some_is : (o : Option Node) (n : Node) → o ≡ Some n → IsSome o
some_is o n e = rw e refl

module _ (old : Slab Node) (at : ℕ) (node value : Node) (here : get old at ≡ Some node) (edges : value.edges ≡ node.edges) where
  written : Updates old (with_value old at value) at (Some value)
  written = Updates-with_value old at value (some_is (get old at) node here)

  by : (P : Option Node → Option Node → Type 0) (m : ℕ) → P (Some node) (Some value) → ((o : Option Node) → P o o) → P (get old m) (get (with_value old at value) m)
  by P m a r = elim (cases_eq m at) [
    | inl w ↦ let x : get (with_value old at value) m ≡ Some value = ap (get (with_value old at value)) w ∙ written.changed in let y : get old m ≡ Some node = ap (get old) w ∙ here in back (λ o. P o (get (with_value old at value) m)) _ _ y (back (λ o. P (Some node) o) _ _ x a)
    | inr j ↦ back (λ o. P (get old m) o) _ _ (written.others m j) (r (get old m))
  ]

  lives : (m : ℕ) → IsSome (get (with_value old at value) m) ↔ IsSome (get old m)
  lives m = by (λ (o p : Option Node). IsSome p ↔ IsSome o) m ((λ h. refl), (λ h. refl)) (λ o. ((λ h. h), (λ h. h)))

  edged : (m : ℕ) → edges_at (get (with_value old at value) m) ≡ edges_at (get old m)
  edged m = by (λ (o p : Option Node). edges_at p ≡ edges_at o) m (ap (λ v. v.entries) edges) (λ o. refl)

  pub put_alike : value.ranks.items ≡ node.ranks.items → Alike old (with_value old at value)
  put_alike e = record { live = lives; edges = edged; ranks = λ m. by (λ (o p : Option Node). ranks_in p ≡ ranks_in o) m e (λ o. refl) }

  pub put_ranks : (r : Rank) → value.ranks.items ≡ node.ranks.items ++ r ∷ [] → Ranks old (with_value old at value) at r
  put_ranks r e = record {
    live = lives;
    edges = edged;
    added = λ q. ((λ i. from q (in_either q node.ranks.items (r ∷ []) (back (λ v. In q v) _ _ (sym e ∙ sym new_ranks) i))), (λ i. back (λ v. In q v) _ _ (new_ranks ∙ e) (to q i)));
    others = λ m d. ap ranks_in (written.others m d);
  }
    where
      new_ranks : ranks_in (get (with_value old at value) at) ≡ value.ranks.items
      new_ranks = ap ranks_in written.changed

      old_ranks : ranks_in (get old at) ≡ node.ranks.items
      old_ranks = ap ranks_in here

      from : (q : Rank) → In q node.ranks.items ⊎ In q (r ∷ []) → In q (ranks_in (get old at)) ⊎ (q ≡ r)
      from q (inl i) = inl (back (λ v. In q v) _ _ old_ranks i)
      from q (inr (inl z)) = inr z
      from q (inr (inr z)) = absurd z

      to : (q : Rank) → In q (ranks_in (get old at)) ⊎ (q ≡ r) → In q (node.ranks.items ++ r ∷ [])
      to q (inl i) = in_left q node.ranks.items (r ∷ []) (back (λ v. In q v) _ _ (sym old_ranks) i)
      to q (inr z) = in_right q node.ranks.items (r ∷ []) (inl z)

  pub take_ranks : (r : Rank) → ((q : Rank) → In q value.ranks.items ↔ (In q node.ranks.items × (q ≡ r → ⊥))) → Unranks old (with_value old at value) at r
  take_ranks r e = record {
    live = lives;
    edges = edged;
    left = λ q. (
      (λ i. (let k = (e q).0 (back (λ v. In q v) _ _ (sym new_ranks) i) in (back (λ v. In q v) _ _ old_ranks k.0, k.1))),
      (λ i. back (λ v. In q v) _ _ new_ranks ((e q).1 (back (λ v. In q v) _ _ (sym old_ranks) i.0, i.1))),
    );
    others = λ m d. ap ranks_in (written.others m d);
  }
    where
      new_ranks : ranks_in (get (with_value old at value) at) ≡ value.ranks.items
      new_ranks = ap ranks_in written.changed

      old_ranks : ranks_in (get old at) ≡ node.ranks.items
      old_ranks = ap ranks_in here
