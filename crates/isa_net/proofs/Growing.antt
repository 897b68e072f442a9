-- A net grows by a leaf.
use Rattle.std.proofs.Common.{◌≡◌, ◌≢◌, ◌⊎◌, inl, inr, ℕ, Bool, true, false, cond, List, [], ◌∷◌, ◌++◌, Option, Some, None, refl, sym, ap, ◌∙◌}
use Rattle.std.proofs.lemmas.Bool.{cases_eq}
use Rattle.slab.specs.Slab.{Slab, get}
use Rattle.isa_net.specs.declared.symbol.Symbol.{Symbol}
use Rattle.isa_net.specs.declared.node.Node.{Node}
use Rattle.isa_net.specs.Inside.Reach.{edges_of, target, if_there, go_on, edge_of, edge, reach}
use Rattle.isa_net.specs.Inside.Index.{IsLive, Grown}
use Rattle.isa_net.proofs.Members.{same_symbol}

-- ---- reaching, step by step
pub record Onward (nodes : Slab Node) (n : ℕ) (s : Symbol) (w : List Symbol) (m : ℕ) : Type 0 where
  pub next : ℕ
  pub leads : edge nodes n s ≡ Some next
  pub rest : reach nodes next w ≡ Some m

pub first_step : (nodes : Slab Node) (n : ℕ) (s : Symbol) (w : List Symbol) (m : ℕ) → reach nodes n (s ∷ w) ≡ Some m → Onward nodes n s w m
unfolding reach
first_step nodes n s w m h = at (edge nodes n s) refl h
  where
    at : (o : Option ℕ) → edge nodes n s ≡ o → go_on o (λ c. reach nodes c w) ≡ Some m → Onward nodes n s w m
    at None q g = absurd (cc)
    at (Some c) q g = record { next = c; leads = q; rest = g }

pub with_step : (nodes : Slab Node) (n c : ℕ) (s : Symbol) (w : List Symbol) (m : ℕ) → edge nodes n s ≡ Some c → reach nodes c w ≡ Some m → reach nodes n (s ∷ w) ≡ Some m
unfolding reach
with_step nodes n c s w m e h = ap (λ o. go_on o (λ c. reach nodes c w)) e ∙ h

pub no_step : (nodes : Slab Node) (n m : ℕ) → reach nodes n [] ≡ Some m → (m ≡ n) × IsLive nodes n
unfolding reach
no_step nodes n m h = at (get nodes n) refl h
  where
    at : (o : Option Node) → get nodes n ≡ o → if_there o n ≡ Some m → (m ≡ n) × IsLive nodes n
    at None q g = absurd (cc)
    at (Some node) q g = (cc, (node, q))

pub at_once : (nodes : Slab Node) (n : ℕ) → IsLive nodes n → reach nodes n [] ≡ Some n
unfolding reach
at_once nodes n l = ap (λ o. if_there o n) l.1

pub reach_on : (nodes : Slab Node) (n c : ℕ) (s : Symbol) (w v : List Symbol) → v ≡ s ∷ w → edge nodes n s ≡ Some c → reach nodes n v ≡ reach nodes c w
unfolding reach
reach_on nodes n c s w v q h = ap (λ z. reach nodes n z) q ∙ ap (λ o. go_on o (λ c. reach nodes c w)) h

pub reach_off : (nodes : Slab Node) (n : ℕ) (s : Symbol) (w v : List Symbol) → v ≡ s ∷ w → edge nodes n s ≡ None → reach nodes n v ≡ None
unfolding reach
reach_off nodes n s w v q h = ap (λ z. reach nodes n z) q ∙ ap (λ o. go_on o (λ c. reach nodes c w)) h

pub reach_end : (nodes : Slab Node) (n : ℕ) (v : List Symbol) (o : Option Node) → v ≡ [] → get nodes n ≡ o → reach nodes n v ≡ if_there o n
unfolding reach
reach_end nodes n v o q h = ap (λ z. reach nodes n z) q ∙ ap (λ o. if_there o n) h

-- ---- edges of a grown net
-- the net before, and what is new
module _ (old new : Slab Node) (n c : ℕ) (s : Symbol) (g : Grown old new n c s) where
  apart_nc : n ≢ c
  apart_nc e = let x : get old n ≡ None = ap (get old) e ∙ g.fresh in let y = g.stood in absurd (cc)

  edges_new : (t : Symbol) → edge new n t ≡ target t (edges_of g.is)
  edges_new t = ap (λ o. edge_of o t) g.stands

  edges_old : (t : Symbol) → edge old n t ≡ target t (edges_of g.was)
  edges_old t = ap (λ o. edge_of o t) g.stood

  pub edge_free : edge old n s ≡ None
  edge_free = edges_old s ∙ g.edges.free

  pub edge_leads : edge new n s ≡ Some c
  edge_leads = edges_new s ∙ g.edges.leads

  edge_same : (t : Symbol) → (t ≡ s → ⊥) → edge new n t ≡ edge old n t
  edge_same t d = edges_new t ∙ g.edges.same t d ∙ sym (edges_old t)

  pub edge_at_c : (t : Symbol) → edge new c t ≡ None
  edge_at_c t = ap (λ o. edge_of o t) g.made ∙ ap (target t) g.bare

  pub edge_elsewhere : (m : ℕ) (t : Symbol) → m ≢ n → m ≢ c → edge new m t ≡ edge old m t
  edge_elsewhere m t p q = ap (λ o. edge_of o t) (g.others m p q)

  pub edge_old_c : (t : Symbol) → edge old c t ≡ None
  edge_old_c t = ap (λ o. edge_of o t) g.fresh

  -- an edge of the old net, or the new edge
  pub edge_from : (m d : ℕ) (t : Symbol) → edge new m t ≡ Some d → (edge old m t ≡ Some d) ⊎ ((m ≡ n) × ((t ≡ s) × (d ≡ c)))
  edge_from m d t h = elim (cases_eq m n) [
    | inl e ↦ at_n e (same_symbol t s)
    | inr p ↦ elim (cases_eq m c) [
      | inl e ↦ absurd (no_edge e)
      | inr q ↦ inl (sym (edge_elsewhere m t p q) ∙ h)
    ]
  ]
    where
      no_edge : m ≡ c → ⊥
      no_edge e = let x : edge new m t ≡ None = ap (λ k. edge new k t) e ∙ edge_at_c t in cc

      at_n : m ≡ n → (t ≡ s) ⊎ (t ≡ s → ⊥) → (edge old m t ≡ Some d) ⊎ ((m ≡ n) × ((t ≡ s) × (d ≡ c)))
      at_n e (inl q) =
          let x : edge new m t ≡ Some c = ap (λ k. edge new k t) e ∙ ap (λ v. edge new n v) q ∙ edge_leads in
          let i : d ≡ c = cc in
          inr (e, (q, i))
      at_n e (inr q) = inl (ap (λ k. edge old k t) e ∙ sym (edge_same t q) ∙ sym (ap (λ k. edge new k t) e) ∙ h)

  pub edge_kept : (m d : ℕ) (t : Symbol) → edge old m t ≡ Some d → edge new m t ≡ Some d
  edge_kept m d t h = elim (cases_eq m n) [
    | inl e ↦ at_n e (same_symbol t s)
    | inr p ↦ elim (cases_eq m c) [
      | inl e ↦ absurd (no_edge e)
      | inr q ↦ edge_elsewhere m t p q ∙ h
    ]
  ]
    where
      no_edge : m ≡ c → ⊥
      no_edge e = let x : edge old m t ≡ None = ap (λ k. edge old k t) e ∙ edge_old_c t in cc

      at_n : m ≡ n → (t ≡ s) ⊎ (t ≡ s → ⊥) → edge new m t ≡ Some d
      at_n e (inl q) = let x : edge old m t ≡ None = ap (λ k. edge old k t) e ∙ ap (λ v. edge old n v) q ∙ edge_free in absurd (cc)
      at_n e (inr q) = ap (λ k. edge new k t) e ∙ edge_same t q ∙ sym (ap (λ k. edge old k t) e) ∙ h

  pub live_kept : (m : ℕ) → IsLive old m → IsLive new m
  live_kept m l = elim (cases_eq m n) [
    | inl e ↦ (g.is, ap (get new) e ∙ g.stands)
    | inr p ↦ elim (cases_eq m c) [
      | inl e ↦ (g.leaf, ap (get new) e ∙ g.made)
      | inr q ↦ (l.0, g.others m p q ∙ l.1)
    ]
  ]

  pub not_live_c : (m : ℕ) → m ≡ c → IsLive old m → ⊥
  not_live_c m e l = let x : get old m ≡ None = ap (get old) e ∙ g.fresh in let y = l.1 in cc

  -- what could be reached still is
  pub reach_kept : (w : List Symbol) (k m : ℕ) → reach old k w ≡ Some m → reach new k w ≡ Some m
  reach_kept [] k m h = let r = no_step old k m h in at_once new k (live_kept k r.1) ∙ ap (λ v. Some v) (sym r.0)
  reach_kept (t ∷ w) k m h = let r = first_step old k t w m h in with_step new k r.next t w m (edge_kept k r.next t r.leads) (reach_kept w r.next m r.rest)

  -- the new leaf is at the end of the word of its parent and the symbol
  pub reach_new : (w : List Symbol) (k : ℕ) → reach old k w ≡ Some n → reach new k (w ++ s ∷ []) ≡ Some c
  reach_new [] k h = let r = no_step old k n h in with_step new k c s [] c (ap (λ v. edge new v s) (sym r.0) ∙ edge_leads) (at_once new c (g.leaf, g.made))
  reach_new (t ∷ w) k h = let r = first_step old k t w n h in with_step new k r.next t (w ++ s ∷ []) c (edge_kept k r.next t r.leads) (reach_new w r.next r.rest)

  pub record AtLeaf (w : List Symbol) (k m : ℕ) : Type 0 where
    pub front : List Symbol
    pub word : w ≡ front ++ s ∷ []
    pub parent : reach old k front ≡ Some n
    pub is : m ≡ c

  -- and nothing else is reached
  pub reach_from : ((m d : ℕ) (t : Symbol) → edge old m t ≡ Some d → IsLive old d) → (w : List Symbol) (k m : ℕ) → IsLive old k → reach new k w ≡ Some m → (reach old k w ≡ Some m) ⊎ AtLeaf w k m
  reach_from there [] k m l h = let r = no_step new k m h in inl (at_once old k l ∙ ap (λ v. Some v) (sym r.0))
  reach_from there (t ∷ w) k m l h =
      let r = first_step new k t w m h in
      elim (edge_from k r.next t r.leads) [
        | inl e ↦ later r.next e (reach_from there w r.next m (there k r.next t e) r.rest)
        | inr e ↦ inr (leaf w r.next r.rest e)
      ]
    where
      later : (d : ℕ) → edge old k t ≡ Some d → (reach old d w ≡ Some m) ⊎ AtLeaf w d m → (reach old k (t ∷ w) ≡ Some m) ⊎ AtLeaf (t ∷ w) k m
      later d e (inl q) = inl (with_step old k d t w m e q)
      later d e (inr a) = inr (record { front = t ∷ a.front; word = ap (λ v. t ∷ v) a.word; parent = with_step old k d t a.front n e a.parent; is = a.is })

      leaf : (v : List Symbol) (d : ℕ) → reach new d v ≡ Some m → (k ≡ n) × ((t ≡ s) × (d ≡ c)) → AtLeaf (t ∷ v) k m
      leaf [] d q e = let r = no_step new d m q in record { front = []; word = ap (λ u. u ∷ []) e.1.0; parent = at_once old k l ∙ ap (λ u. Some u) e.0; is = r.0 ∙ e.1.1 }
      leaf (u ∷ v) d q e =
          let r = first_step new d u v m q in
          let x : edge new d u ≡ None = ap (λ j. edge new j u) e.1.1 ∙ edge_at_c u in
          let y = r.leads in
          absurd (cc)
