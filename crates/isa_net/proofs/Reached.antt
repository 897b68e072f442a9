-- A look-up visits just the nodes at the ends of the words that agree.
use Rattle.std.proofs.Common.{◌≡◌, inl, inr, ℕ, zero, suc, ◌<◌, Bool, true, false, cond, List, [], ◌∷◌, ◌++◌, length, Option, Some, None, refl, sym, ap, ◌∙◌, arith}
use Rattle.std.specs.Prelude.{is_some}
use Rattle.slab.specs.Slab.{Slab, get}
use Rattle.isa_net.specs.declared.symbol.Symbol.{Symbol}
use Rattle.isa_net.specs.declared.node.Node.{Node}
use Rattle.isa_net.specs.Words.{Item, onward, reads}
use Rattle.isa_net.specs.Symbols.{symbol_eq}
use Rattle.isa_net.specs.Inside.Trails.{along_edges, at_node, trail}
use Rattle.isa_net.specs.Inside.Reach.{edges_of, target, if_there, go_on, edge_of, reach, Apart}
use Rattle.isa_net.specs.Inside.Index.{In}
use Rattle.isa_net.proofs.Members.{in_left, in_right, in_either, symbol_decides, symbol_same}
use Rattle.isa_net.specs.declared.mode.Mode.{Mode}

-- ---- edges
abbrev pub edge_at : (ℕ → List Item → List ℕ) → Symbol × ℕ → List ℕ → Option (List Item) → List ℕ
edge_at go e more o = elim o [ None ↦ more | Some js ↦ go e.1 js ++ more ]

-- an edge that is taken
pub record Taken (mode : Mode) (go : ℕ → List Item → List ℕ) (is : List Item) (es : List (Symbol × ℕ)) (m : ℕ) : Type 0 where
  pub symbol : Symbol
  pub node : ℕ
  pub items : List Item
  pub leads : target symbol es ≡ Some node
  pub onward : onward mode is symbol ≡ Some items
  pub there : In m (go node items)

pub target_here : (e : Symbol × ℕ) (es : List (Symbol × ℕ)) → target e.0 (e ∷ es) ≡ Some e.1
target_here e es = ap (λ b. cond b (Some e.1) (target e.0 es)) (symbol_same e.0)

pub target_later : (s : Symbol) (e : Symbol × ℕ) (es : List (Symbol × ℕ)) (c : ℕ) → target e.0 es ≡ None → target s es ≡ Some c → target s (e ∷ es) ≡ Some c
target_later s e es c apart h = at (symbol_eq s e.0) refl
  where
    at : (b : Bool) → symbol_eq s e.0 ≡ b → cond b (Some e.1) (target s es) ≡ Some c
    at true q = let w : s ≡ e.0 = (symbol_decides s e.0).0 q in let x : target s es ≡ None = ap (λ v. target v es) w ∙ apart in absurd (cc)
    at false q = h

pub back : {A : Type 0} (P : A → Type 0) (a b : A) → a ≡ b → P b → P a
back P a b e p = rw e p

pub taken : (mode : Mode) (go : ℕ → List Item → List ℕ) (is : List Item) (es : List (Symbol × ℕ)) (m : ℕ) → Apart es → In m (along_edges mode go is es) → Taken mode go is es m
taken mode go is [] m a h = absurd h
taken mode go is (e ∷ es) m a h = at (onward mode is e.0) refl h (λ g. taken mode go is es m a.1 g)
  where
    later : Taken mode go is es m → Taken mode go is (e ∷ es) m
    later t = record { symbol = t.symbol; node = t.node; items = t.items; leads = target_later t.symbol e es t.node a.0 t.leads; onward = t.onward; there = t.there }

    at : (o : Option (List Item)) → onward mode is e.0 ≡ o → In m (edge_at go e (along_edges mode go is es) o) → (In m (along_edges mode go is es) → Taken mode go is es m) → Taken mode go is (e ∷ es) m
    at None q g r = later (r g)
    at (Some js) q g r = elim (in_either m (go e.1 js) (along_edges mode go is es) g) [
      | inl here ↦ record { symbol = e.0; node = e.1; items = js; leads = target_here e es; onward = q; there = here }
      | inr there ↦ later (r there)
    ]

pub takes : (mode : Mode) (go : ℕ → List Item → List ℕ) (is : List Item) (es : List (Symbol × ℕ)) (m : ℕ) (s : Symbol) (c : ℕ) (js : List Item) → target s es ≡ Some c → onward mode is s ≡ Some js → In m (go c js) → In m (along_edges mode go is es)
takes mode go is [] m s c js t o h = absurd (cc)
takes mode go is (e ∷ es) m s c js t o h = at (symbol_eq s e.0) refl t (λ r. takes mode go is es m s c js r o h)
  where
    skip : (o : Option (List Item)) → In m (along_edges mode go is es) → In m (edge_at go e (along_edges mode go is es) o)
    skip None g = g
    skip (Some ks) g = in_right m (go e.1 ks) (along_edges mode go is es) g

    at : (b : Bool) → symbol_eq s e.0 ≡ b → cond b (Some e.1) (target s es) ≡ Some c → (target s es ≡ Some c → In m (along_edges mode go is es)) → In m (along_edges mode go is (e ∷ es))
    at true q r f =
        let w : s ≡ e.0 = (symbol_decides s e.0).0 q in
        let x : onward mode is e.0 ≡ Some js = ap (λ v. onward mode is v) (sym w) ∙ o in
        let y : e.1 ≡ c = cc in
        back (λ v. In m (edge_at go e (along_edges mode go is es) v)) _ _ x (in_left m (go e.1 js) (along_edges mode go is es) (back (λ n. In m (go n js)) _ _ y h))
    at false q r f = skip (onward mode is e.0) (f r)

-- ---- words
-- a word at whose end the node stands, and which can be read
pub record Reached (mode : Mode) (nodes : Slab Node) (k n : ℕ) (is : List Item) (m : ℕ) : Type 0 where
  pub word : List Symbol
  pub short : length word < k
  pub ends : reach nodes n word ≡ Some m
  pub agrees : is_some (reads mode is word) ≡ true

abbrev pub IsApart : Slab Node → Type 0
IsApart nodes = (n : ℕ) (node : Node) → get nodes n ≡ Some node → Apart (edges_of node)

pub reached : (mode : Mode) (nodes : Slab Node) → IsApart nodes → (k n : ℕ) (is : List Item) (m : ℕ) → In m (trail mode nodes k n is) → Reached mode nodes k n is m
unfolding trail reach
reached mode nodes f zero n is m h = absurd h
reached mode nodes f (suc k) n is m h = at (get nodes n) refl h (λ c js g. reached mode nodes f k c js m g)
  where
    at : (o : Option Node) → get nodes n ≡ o → In m (at_node o (along_edges mode (trail mode nodes k) is) n) → ((c : ℕ) (js : List Item) → In m (trail mode nodes k c js) → Reached mode nodes k c js m) → Reached mode nodes (suc k) n is m
    at None q g i = absurd g
    at (Some node) q (inl e) i = record { word = []; short = omega arith; ends = ap (λ o. if_there o n) q ∙ ap (λ v. Some v) (sym e); agrees = refl }
    at (Some node) q (inr g) i =
        let t = taken mode (trail mode nodes k) is (edges_of node) m (f n node q) g in
        let r = i t.node t.items t.there in
        record {
          word = t.symbol ∷ r.word;
          short = omega (arith, r.short);
          ends = ap (λ o. go_on (edge_of o t.symbol) (λ c. reach nodes c r.word)) q ∙ ap (λ o. go_on o (λ c. reach nodes c r.word)) t.leads ∙ r.ends;
          agrees = ap (λ (o : Option (List Item)). is_some (elim o as (λ v. Option (List Item)) [ None ↦ None | Some js ↦ reads mode js r.word ])) t.onward ∙ r.agrees;
        }

pub visited : (mode : Mode) (nodes : Slab Node) (k n : ℕ) (is : List Item) (m : ℕ) (w : List Symbol) → length w < k → reach nodes n w ≡ Some m → is_some (reads mode is w) ≡ true → In m (trail mode nodes k n is)
unfolding trail reach
visited mode nodes zero n is m w l r a = absurd (omega arith)
visited mode nodes (suc k) n is m [] l r a = at (get nodes n) r
  where
    at : (o : Option Node) → if_there o n ≡ Some m → In m (at_node o (along_edges mode (trail mode nodes k) is) n)
    at None q = absurd (cc)
    at (Some node) q = inl (cc)
visited mode nodes (suc k) n is m (s ∷ w) l r a = at (get nodes n) r (λ c js q b. visited mode nodes k c js m w (omega arith) q b)
  where
    goes : (node : Node) (o : Option ℕ) (p : Option (List Item)) → target s (edges_of node) ≡ o → onward mode is s ≡ p → go_on o (λ c. reach nodes c w) ≡ Some m → is_some (elim p as (λ v. Option (List Item)) [ None ↦ None | Some js ↦ reads mode js w ]) ≡ true → ((c : ℕ) (js : List Item) → reach nodes c w ≡ Some m → is_some (reads mode js w) ≡ true → In m (trail mode nodes k c js)) → In m (along_edges mode (trail mode nodes k) is (edges_of node))
    goes node None p t o q b i = absurd (cc)
    goes node (Some c) None t o q b i = absurd (cc)
    goes node (Some c) (Some js) t o q b i = takes mode (trail mode nodes k) is (edges_of node) m s c js t o (i c js q b)

    at : (o : Option Node) → go_on (edge_of o s) (λ c. reach nodes c w) ≡ Some m → ((c : ℕ) (js : List Item) → reach nodes c w ≡ Some m → is_some (reads mode js w) ≡ true → In m (trail mode nodes k c js)) → In m (at_node o (along_edges mode (trail mode nodes k) is) n)
    at None q i = absurd (cc)
    at (Some node) q i = inr (goes node (target s (edges_of node)) (onward mode is s) refl refl q a i)
