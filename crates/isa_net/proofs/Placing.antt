-- A word is placed: its way is grown, and the rank is put at its end.
use Rattle.std.proofs.Common.{◌≡◌, ◌⊎◌, inl, inr, ℕ, List, Some, None, sym, ap, ◌∙◌}
use Rattle.std.proofs.lemmas.Bool.{cases_eq}
use Rattle.slab.specs.Slab.{Slab}
use Rattle.isa_net.specs.declared.symbol.Symbol.{Symbol}
use Rattle.isa_net.specs.declared.rank.Rank.{Rank}
use Rattle.isa_net.specs.declared.node.Node.{Node}
use Rattle.isa_net.specs.Inside.Reach.{reach}
use Rattle.isa_net.specs.Inside.Index.{KeepsIndex, Ranks, Places}
use Rattle.isa_net.proofs.Indexes.{pending_from_none}
use Rattle.isa_net.proofs.Ranking.{index_ranked}

pub same_rank : (q r : Rank) → (q ≡ r) ⊎ (q ≡ r → ⊥)
same_rank q r = elim (cases_eq q.weight r.weight) [
  | inl a ↦ elim (cases_eq q.subgoals r.subgoals) [
    | inl b ↦ elim (cases_eq q.later r.later) [
      | inl c ↦ inl (λ i. record { weight = a i; subgoals = b i; later = c i })
      | inr d ↦ inr (λ e. d (ap (λ v. v.later) e))
    ]
    | inr d ↦ inr (λ e. d (ap (λ v. v.subgoals) e))
  ]
  | inr d ↦ inr (λ e. d (ap (λ v. v.weight) e))
]

pub places_by : (old mid new : Slab Node) (root n : ℕ) (w : List Symbol) (r : Rank) → KeepsIndex old mid root w → reach mid root w ≡ Some n → Ranks mid new n r → Places old new root w r
places_by old mid new root n w r keeps here g deep before after l x free put others =
    index_ranked mid new root deep n r w before after g (keeps deep before l (pending_from_none old root deep before w x)) here free put (λ q v d e. sym (others q d) ∙ e) (λ q v e. stays q v e (same_rank q r)) (λ q. same_rank q r)
  where
    stays : (q : Rank) (v : List Symbol) → before q ≡ Some v → (q ≡ r) ⊎ (q ≡ r → ⊥) → after q ≡ Some v
    stays q v e (inl z) = let y : before q ≡ None = ap before z ∙ free in absurd (cc)
    stays q v e (inr z) = others q z ∙ e
