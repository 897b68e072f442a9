-- What a look-up visits, by the code's steps.
use Rattle.std.proofs.Common.{◌≡◌, ℕ, zero, suc, ◌+◌, Bool, true, false, List, [], ◌∷◌, ◌++◌, Option, Some, None, refl, sym, ap, ◌∙◌, cond, arith, zero-add, append_assoc}
use Rattle.std.specs.Prelude.{option_map}
use Rattle.std.specs.Map.{keys_of}
use Rattle.std.specs.List.Sorted.{IsStrictlySortedBy}
use Rattle.std.proofs.lemmas.List.{append-nil}
use Rattle.slab.specs.Slab.{Slab, get}
use Rattle.isa_terms.specs.Terms.{Tm, Const, Free, Unknown, Bound, Abs, App}
use Rattle.isa_unify.specs.Spines.{args_of}
use Rattle.isa_net.specs.declared.mode.Mode.{Mode}
use Rattle.isa_net.specs.declared.symbol.Symbol.{Symbol}
use Rattle.isa_net.specs.declared.symbol.Symbol.TheVariants.{Star, Constant, Variable}
use Rattle.isa_net.specs.declared.node.Node.{Node}
use Rattle.isa_net.specs.Symbols.{arity, symbol_eq, symbol_cmp, is_star}
use Rattle.isa_net.specs.Words.{Item, Along, Over, overs, alongs, symbol_on, symbol_of, passes, along, after, onward}
use Rattle.isa_net.specs.Inside.Lists.{arg_at, last_args}
use Rattle.isa_net.specs.Inside.Reach.{edges_of, target, Apart}
use Rattle.isa_net.specs.Inside.Trails.{along_edges, along_all, if_leads, along_own, along_two, at_node, trail, ranks_of, ranks_at}
use Rattle.isa_net.proofs.Members.{symbol_decides, symbol_same}
use Rattle.isa_net.proofs.Ordered.{apart_sorted, star_first}

abbrev edge_taken : (ℕ → List Item → List ℕ) → Symbol × ℕ → List ℕ → Option (List Item) → List ℕ
edge_taken go e more o = elim o [ None ↦ more | Some js ↦ go e.1 js ++ more ]

-- ---- arguments
pub last_args-app : (k : ℕ) (f a : Tm) → last_args (suc k) (App f a) ≡ last_args k f ++ a ∷ []
last_args-app zero f a = refl
last_args-app (suc k) f a = ap (λ ts. arg_at k f ∷ ts) (last_args-app k f a)

-- how many arguments a term has
abbrev pub count : Tm → ℕ
count (App f a) = suc (count f)
count t = 0

pub all_args : (t : Tm) → last_args (count t) t ≡ args_of t
all_args (Const c T) = refl
all_args (Free x T) = refl
all_args (Unknown x i T) = refl
all_args (Bound i) = refl
all_args (Abs x T b) = refl
all_args (App f a) = last_args-app (count f) f a ∙ ap (λ ts. ts ++ a ∷ []) (all_args f)

-- a symbol that isn't a star counts the arguments
pub arity_count : (n : ℕ) (t : Tm) → is_star (symbol_on n t) ≡ false → arity (symbol_on n t) ≡ n + count t
arity_count n (Const c T) h = omega arith
arity_count n (Free x T) h = omega arith
arity_count n (Unknown x i T) h = absurd (cc)
arity_count n (Bound i) h = absurd (cc)
arity_count n (Abs x T b) h = absurd (cc)
arity_count n (App f a) h = let e = arity_count (n + 1) f h in omega (arith, e)

pub own_args : (t : Tm) → is_star (symbol_of t) ≡ false → last_args (arity (symbol_of t)) t ≡ args_of t
own_args t h = ap (λ k. last_args k t) (arity_count 0 t h ∙ zero-add (count t)) ∙ all_args t

-- ---- where a subword is passed over
pub edges_over : (mode : Mode) (i : Item) (go : ℕ → List Item → List ℕ) (rest : List Item) → ((s : Symbol) → after mode i s ≡ Some (overs (arity s))) → (es : List (Symbol × ℕ)) → along_edges mode go (i ∷ rest) es ≡ along_all go rest es
edges_over mode i go rest h [] = refl
edges_over mode i go rest h (e ∷ es) = ap (λ o. edge_taken go e (along_edges mode go (i ∷ rest) es) (option_map (λ js. js ++ rest) o)) (h e.0) ∙ ap (λ v. go e.1 (overs (arity e.0) ++ rest) ++ v) (edges_over mode i go rest h es)

pub after_passed : (mode : Mode) (t : Tm) (s : Symbol) → passes mode t ≡ true → after mode (Along t) s ≡ Some (overs (arity s))
after_passed mode t s h = ap (λ b. cond b (Some (overs (arity s))) (along t s)) h

after_along : (mode : Mode) (t : Tm) (s : Symbol) → passes mode t ≡ false → after mode (Along t) s ≡ along t s
after_along mode t s h = ap (λ b. cond b (Some (overs (arity s))) (along t s)) h

-- ---- where a subterm is read
target_none : (s : Symbol) (e : Symbol × ℕ) (es : List (Symbol × ℕ)) → target s (e ∷ es) ≡ None → (symbol_eq s e.0 ≡ false) × (target s es ≡ None)
target_none s e es h = at (symbol_eq s e.0) refl h
  where
    at : (b : Bool) → symbol_eq s e.0 ≡ b → cond b (Some e.1) (target s es) ≡ None → (symbol_eq s e.0 ≡ false) × (target s es ≡ None)
    at true q g = absurd (cc)
    at false q g = (q, g)

flipped : (a b : Symbol) → symbol_eq a b ≡ false → symbol_eq b a ≡ false
flipped a b h = at (symbol_eq b a) refl
  where
    at : (x : Bool) → symbol_eq b a ≡ x → x ≡ false
    at true e = let q : b ≡ a = (symbol_decides b a).0 e in let r : symbol_eq a b ≡ true = (symbol_decides a b).1 (sym q) in absurd (cc)
    at false e = refl

along_not : (t : Tm) (s : Symbol) → symbol_eq Star s ≡ false → symbol_eq (symbol_of t) s ≡ false → along t s ≡ None
along_not t Star h g = absurd (cc)
along_not t (Constant c n) h g = ap (λ b. cond b (Some (alongs (args_of t))) None) (flipped (symbol_of t) (Constant c n) g)
along_not t (Variable c n) h g = ap (λ b. cond b (Some (alongs (args_of t))) None) (flipped (symbol_of t) (Variable c n) g)

along_is : (t : Tm) (s : Symbol) → symbol_eq Star s ≡ false → symbol_eq (symbol_of t) s ≡ true → along t s ≡ Some (alongs (args_of t))
along_is t Star h g = absurd (cc)
along_is t (Constant c n) h g = let q : symbol_of t ≡ Constant c n = (symbol_decides (symbol_of t) (Constant c n)).0 g in ap (λ b. cond b (Some (alongs (args_of t))) None) (ap (λ v. symbol_eq (Constant c n) v) q ∙ symbol_same (Constant c n))
along_is t (Variable c n) h g = let q : symbol_of t ≡ Variable c n = (symbol_decides (symbol_of t) (Variable c n)).0 g in ap (λ b. cond b (Some (alongs (args_of t))) None) (ap (λ v. symbol_eq (Variable c n) v) q ∙ symbol_same (Variable c n))

not_star : (s : Symbol) → symbol_eq Star s ≡ false → is_star s ≡ false
not_star Star h = absurd (cc)
not_star (Constant c n) h = refl
not_star (Variable c n) h = refl

star_is : (s : Symbol) → symbol_eq Star s ≡ true → s ≡ Star
star_is s h = sym ((symbol_decides Star s).0 h)

module _ (mode : Mode) (t : Tm) (go : ℕ → List Item → List ℕ) (rest : List Item) (p : passes mode t ≡ false) where
  taken_by : (e : Symbol × ℕ) (more : List ℕ) (o : Option (List Item)) → along t e.0 ≡ o → edge_taken go e more (onward mode (Along t ∷ rest) e.0) ≡ edge_taken go e more (option_map (λ js. js ++ rest) o)
  taken_by e more o h = ap (λ v. edge_taken go e more (option_map (λ js. js ++ rest) v)) (after_along mode t e.0 p ∙ h)

  none_left : (es : List (Symbol × ℕ)) → target Star es ≡ None → target (symbol_of t) es ≡ None → along_edges mode go (Along t ∷ rest) es ≡ []
  none_left [] h g = refl
  none_left (e ∷ es) h g =
      let a = target_none Star e es h in
      let b = target_none (symbol_of t) e es g in
      taken_by e (along_edges mode go (Along t ∷ rest) es) None (along_not t e.0 a.0 b.0) ∙ none_left es a.1 b.1

  own_left : (es : List (Symbol × ℕ)) → target Star es ≡ None → Apart es → along_edges mode go (Along t ∷ rest) es ≡ along_own go t rest es (symbol_of t)
  own_left [] h a = at (is_star (symbol_of t))
    where
      at : (b : Bool) → [] ≡ cond b [] (if_leads None (λ n. go n (alongs (last_args (arity (symbol_of t)) t) ++ rest)))
      at true = refl
      at false = refl
  own_left (e ∷ es) h a = at (symbol_eq (symbol_of t) e.0) refl (own_left es (target_none Star e es h).1 a.1)
    where
      n : (symbol_eq Star e.0 ≡ false) × (target Star es ≡ None)
      n = target_none Star e es h

      at : (b : Bool) → symbol_eq (symbol_of t) e.0 ≡ b → along_edges mode go (Along t ∷ rest) es ≡ along_own go t rest es (symbol_of t) → along_edges mode go (Along t ∷ rest) (e ∷ es) ≡ cond (is_star (symbol_of t)) [] (if_leads (cond b (Some e.1) (target (symbol_of t) es)) (λ n. go n (alongs (last_args (arity (symbol_of t)) t) ++ rest)))
      at false q i = taken_by e (along_edges mode go (Along t ∷ rest) es) None (along_not t e.0 n.0 q) ∙ i
      at true q i =
          let s : symbol_of t ≡ e.0 = (symbol_decides (symbol_of t) e.0).0 q in
          let k : is_star (symbol_of t) ≡ false = ap is_star s ∙ not_star e.0 n.0 in
          let gone : target (symbol_of t) es ≡ None = ap (λ v. target v es) s ∙ a.0 in
          let x = taken_by e (along_edges mode go (Along t ∷ rest) es) (Some (alongs (args_of t))) (along_is t e.0 n.0 q) in
          let y = ap (λ v. go e.1 (alongs (args_of t) ++ rest) ++ v) (none_left es n.1 gone) in
          let z = append-nil (go e.1 (alongs (args_of t) ++ rest)) in
          let u = ap (λ v. go e.1 (alongs v ++ rest)) (sym (own_args t k)) in
          let w = ap (λ b. cond b [] (go e.1 (alongs (last_args (arity (symbol_of t)) t) ++ rest))) (sym k) in
          x ∙ y ∙ z ∙ u ∙ w

  pub edges_two : (es : List (Symbol × ℕ)) → IsStrictlySortedBy symbol_cmp (keys_of es) → along_edges mode go (Along t ∷ rest) es ≡ along_two go t rest es
  edges_two [] x = own_left [] refl tt
  edges_two (e ∷ es) x = at (symbol_eq Star e.0) refl
    where
      apart : Apart (e ∷ es)
      apart = apart_sorted (e ∷ es) x

      at : (b : Bool) → symbol_eq Star e.0 ≡ b → along_edges mode go (Along t ∷ rest) (e ∷ es) ≡ if_leads (cond b (Some e.1) (target Star es)) (λ n. go n rest) ++ along_own go t rest (e ∷ es) (symbol_of t)
      at true q =
          let s = star_is e.0 q in
          let gone : target Star es ≡ None = ap (λ v. target v es) (sym s) ∙ apart.0 in
          let k : along t e.0 ≡ Some [] = ap (along t) s in
          let own : along_own go t rest es (symbol_of t) ≡ along_own go t rest (e ∷ es) (symbol_of t) = skipped (symbol_of t) s in
          taken_by e (along_edges mode go (Along t ∷ rest) es) (Some []) k ∙ ap (λ v. go e.1 rest ++ v) (own_left es gone apart.1 ∙ own)
        where
          skipped : (u : Symbol) → e.0 ≡ Star → along_own go t rest es u ≡ along_own go t rest (e ∷ es) u
          skipped Star s = refl
          skipped (Constant c n) s = ap (λ b. if_leads (cond b (Some e.1) (target (Constant c n) es)) (λ m. go m (alongs (last_args n t) ++ rest))) (sym (ap (symbol_eq (Constant c n)) s))
          skipped (Variable c n) s = ap (λ b. if_leads (cond b (Some e.1) (target (Variable c n) es)) (λ m. go m (alongs (last_args n t) ++ rest))) (sym (ap (symbol_eq (Variable c n)) s))
      at false q =
          let gone : target Star es ≡ None = star_first e es x q in
          let all : target Star (e ∷ es) ≡ None = ap (λ b. cond b (Some e.1) (target Star es)) q ∙ gone in
          own_left (e ∷ es) all apart ∙ ap (λ o. if_leads o (λ n. go n rest) ++ along_own go t rest (e ∷ es) (symbol_of t)) (sym gone)

-- ---- trails
pub trail_past : (mode : Mode) (nodes : Slab Node) (k n : ℕ) (is : List Item) → get nodes n ≡ None → trail mode nodes k n is ≡ []
unfolding trail
trail_past mode nodes zero n is h = refl
trail_past mode nodes (suc k) n is h = ap (λ o. at_node o (along_edges mode (trail mode nodes k) is) n) h

pub trail_at : (mode : Mode) (nodes : Slab Node) (k n : ℕ) (is : List Item) (node : Node) → get nodes n ≡ Some node → trail mode nodes (suc k) n is ≡ n ∷ along_edges mode (trail mode nodes k) is (edges_of node)
unfolding trail
trail_at mode nodes k n is node h = ap (λ o. at_node o (along_edges mode (trail mode nodes k) is) n) h

pub along_nothing : (mode : Mode) (go : ℕ → List Item → List ℕ) (es : List (Symbol × ℕ)) → along_edges mode go [] es ≡ []
along_nothing mode go [] = refl
along_nothing mode go (e ∷ es) = along_nothing mode go es

pub ranks_at-append : (nodes : Slab Node) (ms ns : List ℕ) → ranks_at nodes (ms ++ ns) ≡ ranks_at nodes ms ++ ranks_at nodes ns
ranks_at-append nodes [] ns = refl
ranks_at-append nodes (m ∷ ms) ns = ap (λ v. ranks_of (get nodes m) ++ v) (ranks_at-append nodes ms ns) ∙ sym (append_assoc (ranks_of (get nodes m)) (ranks_at nodes ms) (ranks_at nodes ns))
