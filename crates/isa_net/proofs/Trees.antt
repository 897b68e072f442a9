-- Trees of nodes: each node stands at the end of one word, and a grown tree is a tree.
use Rattle.std.proofs.Common.{◌≡◌, ◌≢◌, ◌⊎◌, inl, inr, ℕ, zero, suc, ◌≤◌, Bool, true, false, cond, List, [], ◌∷◌, ◌++◌, length, length-append, Some, None, refl, sym, ap, ◌∙◌, arith}
use Rattle.slab.specs.Slab.{Slab, get}
use Rattle.isa_net.specs.declared.symbol.Symbol.{Symbol}
use Rattle.isa_net.specs.declared.node.Node.{Node}
use Rattle.isa_net.specs.Inside.Reach.{edges_of, edge, reach, Apart}
use Rattle.isa_net.specs.Inside.Index.{IsTree, IsLive, Grown}
use Rattle.isa_net.proofs.Growing.{first_step, with_step, no_step, at_once, edge_from, live_kept}
use Rattle.isa_net.proofs.Reached.{back}
use Rattle.std.proofs.lemmas.Bool.{cases_eq}

-- ---- one word for each node
-- a word that is empty, or a front and a last symbol
pub data Ended : List Symbol → Type 0 where
  nothing : Ended []
  behind : (front : List Symbol) (s : Symbol) → Ended (front ++ s ∷ [])

pub ended : (w : List Symbol) → Ended w
ended [] = nothing
ended (s ∷ w) = more (ended w)
  where
    more : {v : List Symbol} → Ended v → Ended (s ∷ v)
    more nothing = behind [] s
    more (behind front t) = behind (s ∷ front) t

-- the last step of a word
pub record Last (nodes : Slab Node) (n : ℕ) (w : List Symbol) (s : Symbol) (m : ℕ) : Type 0 where
  pub parent : ℕ
  pub before : reach nodes n w ≡ Some parent
  pub leads : edge nodes parent s ≡ Some m

pub last_step : (nodes : Slab Node) (w : List Symbol) (s : Symbol) (n m : ℕ) → ((k : ℕ) → IsLive nodes k → IsLive nodes k) → IsLive nodes n → ((k c : ℕ) (t : Symbol) → edge nodes k t ≡ Some c → IsLive nodes c) → reach nodes n (w ++ s ∷ []) ≡ Some m → Last nodes n w s m
last_step nodes [] s n m i l there h = let r = first_step nodes n s [] m h in let z = no_step nodes r.next m r.rest in record { parent = n; before = at_once nodes n l; leads = r.leads ∙ ap (λ v. Some v) (sym z.0) }
last_step nodes (t ∷ w) s n m i l there h =
    let r = first_step nodes n t (w ++ s ∷ []) m h in
    let k = last_step nodes w s r.next m i (there n r.next t r.leads) there r.rest in
    record { parent = k.parent; before = with_step nodes n r.next t w k.parent r.leads k.before; leads = k.leads }

module _ (nodes : Slab Node) (root : ℕ) (x : IsTree nodes root) where
  pub last : (w : List Symbol) (s : Symbol) (m : ℕ) → reach nodes root (w ++ s ∷ []) ≡ Some m → Last nodes root w s m
  last w s m h = last_step nodes w s root m (λ k l. l) x.stands (λ k c t e. x.there k c t e) h

  not_root : (w : List Symbol) (s : Symbol) (m : ℕ) → reach nodes root [] ≡ Some m → reach nodes root (w ++ s ∷ []) ≡ Some m → ⊥
  not_root w s m a b = let r = no_step nodes root m a in let k = last w s m b in x.outermost k.parent s (k.leads ∙ ap (λ v. Some v) r.0)

  abbrev pub OneWord : List Symbol → List Symbol → Type 0
  OneWord v w = (m : ℕ) → reach nodes root v ≡ Some m → reach nodes root w ≡ Some m → v ≡ w

  one_by : (v w : List Symbol) → Ended v → Ended w → ((f g : List Symbol) (s : Symbol) → v ≡ f ++ s ∷ [] → OneWord f g) → OneWord v w
  one_by _ _ nothing nothing i m a b = refl
  one_by _ _ nothing (behind g t) i m a b = absurd (not_root g t m a b)
  one_by _ _ (behind f s) nothing i m a b = absurd (not_root f s m b a)
  one_by _ _ (behind f s) (behind g t) i m a b =
      let j = last f s m a in
      let k = last g t m b in
      let o = x.once j.parent k.parent m s t j.leads k.leads in
      let e : f ≡ g = i f g s refl j.parent j.before (k.before ∙ ap (λ v. Some v) (sym o.0)) in
      ap (λ v. v ++ s ∷ []) e ∙ ap (λ v. g ++ v ∷ []) o.1

  one_within : (k : ℕ) (v w : List Symbol) → length v ≤ k → OneWord v w
  one_within zero v w l = one_by v w (ended v) (ended w) (λ f g s e. absurd (let q = ap length e in let r = length-append f (s ∷ []) in omega (arith, q, r)))
  one_within (suc k) v w l = one_by v w (ended v) (ended w) (λ f g s e. one_within k f g (let q = ap length e in let r = length-append f (s ∷ []) in omega (arith, q, r)))

  -- two words that end at one node are the same
  pub one_word : (v w : List Symbol) (m : ℕ) → reach nodes root v ≡ Some m → reach nodes root w ≡ Some m → v ≡ w
  one_word v w m a b = one_within (length v) v w (omega arith) m a b

-- ---- a grown tree
pub tree_grown : (old new : Slab Node) (root n c : ℕ) (s : Symbol) → IsTree old root → Grown old new n c s → IsTree new root
tree_grown old new root n c s x g = record {
  apart = λ m node h. apart m node h;
  there = λ m d t h. there (edge_from old new n c s g m d t h);
  once = λ m k d t u h j. once m k d t u (edge_from old new n c s g m d t h) (edge_from old new n c s g k d u j);
  outermost = λ m t h. outermost m t (edge_from old new n c s g m root t h);
  stands = live_kept old new n c s g root x.stands;
}
  where
    gone : (d : ℕ) → d ≡ c → IsLive old d → ⊥
    gone d e l = let z : get old d ≡ None = ap (get old) e ∙ g.fresh in let y = l.1 in cc

    apart_at : (m : ℕ) (node : Node) → get new m ≡ Some node → (m ≡ n) ⊎ (m ≢ n) → (m ≡ c) ⊎ (m ≢ c) → Apart (edges_of node)
    apart_at m node h (inl e) q =
        let z : g.is ≡ node = let y = ap (get new) e in let w = g.stands in cc in
        back (λ v. Apart (edges_of v)) _ _ (sym z) g.edges.apart
    apart_at m node h (inr p) (inl e) =
        let z : g.leaf ≡ node = let y = ap (get new) e in let w = g.made in cc in
        back (λ v. Apart v) _ _ (sym (ap edges_of z) ∙ g.bare) tt
    apart_at m node h (inr p) (inr q) = x.apart m node (sym (g.others m p q) ∙ h)

    apart : (m : ℕ) (node : Node) → get new m ≡ Some node → Apart (edges_of node)
    apart m node h = apart_at m node h (cases_eq m n) (cases_eq m c)

    there : {m d : ℕ} {t : Symbol} → (edge old m t ≡ Some d) ⊎ ((m ≡ n) × ((t ≡ s) × (d ≡ c))) → IsLive new d
    there {m} {d} {t} (inl h) = live_kept old new n c s g d (x.there m d t h)
    there {m} {d} {t} (inr e) = (g.leaf, ap (get new) e.1.1 ∙ g.made)

    once : (m k d : ℕ) (t u : Symbol) → (edge old m t ≡ Some d) ⊎ ((m ≡ n) × ((t ≡ s) × (d ≡ c))) → (edge old k u ≡ Some d) ⊎ ((k ≡ n) × ((u ≡ s) × (d ≡ c))) → (m ≡ k) × (t ≡ u)
    once m k d t u (inl a) (inl b) = x.once m k d t u a b
    once m k d t u (inl a) (inr b) = absurd (gone d b.1.1 (x.there m d t a))
    once m k d t u (inr a) (inl b) = absurd (gone d a.1.1 (x.there k d u b))
    once m k d t u (inr a) (inr b) = (a.0 ∙ sym b.0, a.1.0 ∙ sym b.1.0)

    outermost : (m : ℕ) (t : Symbol) → (edge old m t ≡ Some root) ⊎ ((m ≡ n) × ((t ≡ s) × (root ≡ c))) → ⊥
    outermost m t (inl a) = x.outermost m t a
    outermost m t (inr a) = gone root a.1.1 x.stands
