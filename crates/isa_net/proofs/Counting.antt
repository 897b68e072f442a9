-- A look-up visits at most as many nodes as there are distinct prefixes that agree.
use Rattle.std.proofs.Common.{◌≡◌, ◌⊎◌, inl, inr, ℕ, zero, suc, ◌≤◌, Bool, true, false, cond, ◌||◌, List, [], ◌∷◌, ◌++◌, length, length-append, Option, Some, None, refl, sym, ap, ◌∙◌, arith, Decides}
use Rattle.std.specs.Prelude.{is_some}
use Rattle.std.proofs.lemmas.Bool.Decides.{Decides-and, Decides-like}
use Rattle.slab.specs.Slab.{Slab, get}
use Rattle.isa_net.specs.declared.symbol.Symbol.{Symbol}
use Rattle.isa_net.specs.declared.rank.Rank.{Rank}
use Rattle.isa_net.specs.declared.node.Node.{Node}
use Rattle.isa_net.specs.Words.{Item, onward, reads}
use Rattle.isa_net.specs.Inside.Trails.{along_edges, at_node, trail}
use Rattle.isa_net.specs.Inside.Reach.{edges_of, target, edge_of, reach, Apart}
use Rattle.isa_net.specs.Inside.Index.{In, IsIndex}
use Rattle.isa_net.specs.Count.{word_eq, each, prefixes, all_prefixes, has_word, distinct, readable, agreeing}
use Rattle.isa_net.proofs.Members.{in_left, in_right, in_either, symbol_decides}
use Rattle.isa_net.proofs.Reached.{IsApart, back, target_here, target_later}
use Rattle.isa_net.proofs.Growing.{with_step, at_once}
use Rattle.isa_net.specs.declared.mode.Mode.{Mode}

-- ---- lists
abbrev pub Distinct : {A : Type 0} → List A → Type 0
Distinct [] = Unit {0}
Distinct (x ∷ xs) = (In x xs → ⊥) × Distinct xs

-- a list without one of its members
record Without {A : Type 0} (x : A) (ys : List A) : Type 0 where
  others : List A
  shorter : length ys ≡ suc (length others)
  kept : (z : A) → In z ys → (z ≡ x) ⊎ In z others

without : {A : Type 0} (x : A) (ys : List A) → In x ys → Without x ys
without x [] h = absurd h
without x (y ∷ ys) (inl e) = record { others = ys; shorter = refl; kept = kept }
  where
    kept : (z : _) → In z (y ∷ ys) → (z ≡ x) ⊎ In z ys
    kept z (inl q) = inl (q ∙ sym e)
    kept z (inr q) = inr q
without x (y ∷ ys) (inr h) = more (without x ys h)
  where
    more : Without x ys → Without x (y ∷ ys)
    more w = record { others = y ∷ w.others; shorter = ap suc w.shorter; kept = kept w }
      where
        kept : (w : Without x ys) (z : _) → In z (y ∷ ys) → (z ≡ x) ⊎ In z (y ∷ w.others)
        kept w z (inl q) = inr (inl q)
        kept w z (inr q) = elim (w.kept z q) [ inl r ↦ inl r | inr r ↦ inr (inr r) ]

-- distinct members of a list are no more than the list has
pub no_more : {A : Type 0} (xs ys : List A) → Distinct xs → ((x : A) → In x xs → In x ys) → length xs ≤ length ys
no_more [] ys d h = omega arith
no_more {A} (x ∷ xs) ys d h =
    let w = without x ys (h x (inl refl)) in
    let r = no_more xs w.others d.1 (λ z q. elim (w.kept z (h z (inr q))) [ inl e ↦ absurd (d.0 (rw e at q)) | inr g ↦ g ]) in
    omega (arith, r, w.shorter)

-- ---- words
pub word_decides : (v w : List Symbol) → Decides (word_eq v w) (v ≡ w)
word_decides [] [] = (λ e. refl, λ e. refl)
word_decides (s ∷ v) (t ∷ w) = Decides-like _ (λ p i. (p.0 i) ∷ (p.1 i)) (λ e. (cc, cc)) (Decides-and _ _ (symbol_decides s t) (word_decides v w))
word_decides [] (t ∷ w) = (λ e. cc, λ e. cc)
word_decides (s ∷ v) [] = (λ e. cc, λ e. cc)

has_in : (v : List Symbol) (ws : List (List Symbol)) → has_word v ws ≡ true → In v ws
has_in v [] h = absurd (cc)
has_in v (w ∷ ws) h = at (word_eq v w) refl h (λ g. has_in v ws g)
  where
    at : (b : Bool) → word_eq v w ≡ b → (b || has_word v ws) ≡ true → (has_word v ws ≡ true → In v ws) → In v (w ∷ ws)
    at true q r f = inl ((word_decides v w).0 q)
    at false q r f = inr (f r)

pub in_distinct : (v : List Symbol) (ws : List (List Symbol)) → In v ws → In v (distinct ws)
in_distinct v [] h = absurd h
in_distinct v (w ∷ ws) h = at (has_word w ws) refl h (λ g. in_distinct v ws g)
  where
    at : (b : Bool) → has_word w ws ≡ b → In v (w ∷ ws) → (In v ws → In v (distinct ws)) → In v (cond b (distinct ws) (w ∷ distinct ws))
    at true q (inl e) f = f (back (λ u. In u ws) _ _ e (has_in w ws q))
    at true q (inr g) f = f g
    at false q (inl e) f = inl e
    at false q (inr g) f = inr (f g)

pub in_readable : (mode : Mode) (is : List Item) (v : List Symbol) (ws : List (List Symbol)) → In v ws → is_some (reads mode is v) ≡ true → In v (readable mode is ws)
in_readable mode is v [] h r = absurd h
in_readable mode is v (w ∷ ws) h r = at (is_some (reads mode is w)) refl h (λ g. in_readable mode is v ws g r)
  where
    at : (b : Bool) → is_some (reads mode is w) ≡ b → In v (w ∷ ws) → (In v ws → In v (readable mode is ws)) → In v (cond b (w ∷ readable mode is ws) (readable mode is ws))
    at true q (inl e) f = inl e
    at true q (inr g) f = inr (f g)
    at false q (inl e) f = let x : is_some (reads mode is v) ≡ false = ap (λ u. is_some (reads mode is u)) e ∙ q in absurd (cc)
    at false q (inr g) f = f g

in_each : (s : Symbol) (v : List Symbol) (ws : List (List Symbol)) → In v ws → In (s ∷ v) (each s ws)
in_each s v [] h = absurd h
in_each s v (w ∷ ws) (inl e) = inl (ap (λ u. s ∷ u) e)
in_each s v (w ∷ ws) (inr h) = inr (in_each s v ws h)

-- a member of the words behind a symbol
record Behind (s : Symbol) (v : List Symbol) (ws : List (List Symbol)) : Type 0 where
  rest : List Symbol
  word : v ≡ s ∷ rest
  listed : In rest ws

of_each : (s : Symbol) (v : List Symbol) (ws : List (List Symbol)) → In v (each s ws) → Behind s v ws
of_each s v [] h = absurd h
of_each s v (w ∷ ws) (inl e) = record { rest = w; word = e; listed = inl refl }
of_each s v (w ∷ ws) (inr h) = let b = of_each s v ws h in record { rest = b.rest; word = b.word; listed = inr b.listed }

pub in_prefixes : (v w : List Symbol) → In v (prefixes (v ++ w))
in_prefixes [] [] = inl refl
in_prefixes [] (s ∷ w) = inl refl
in_prefixes (s ∷ v) w = inr (in_each s v (prefixes (v ++ w)) (in_prefixes v w))

pub in_all_prefixes : (v w : List Symbol) (ws : List (List Symbol)) → In w ws → In v (prefixes w) → In v (all_prefixes ws)
in_all_prefixes v w [] h p = absurd h
in_all_prefixes v w (u ∷ ws) (inl e) p = in_left v (prefixes u) (all_prefixes ws) (back (λ u. In v (prefixes u)) _ _ (sym e) p)
in_all_prefixes v w (u ∷ ws) (inr h) p = in_right v (prefixes u) (all_prefixes ws) (in_all_prefixes v w ws h p)

pub empty_prefix : (ws : List (List Symbol)) → In [] (all_prefixes ws)
empty_prefix [] = inl refl
empty_prefix (w ∷ ws) = in_right [] (prefixes w) (all_prefixes ws) (empty_prefix ws)

-- ---- the words that a look-up reads
abbrev pub along_words : Mode → (ℕ → List Item → List (List Symbol)) → List Item → List (Symbol × ℕ) → List (List Symbol)
along_words mode go is [] = []
along_words mode go is (e ∷ es) = elim (onward mode is e.0) [ None ↦ along_words mode go is es | Some js ↦ each e.0 (go e.1 js) ++ along_words mode go is es ]

abbrev pub node_words : Option Node → (List (Symbol × ℕ) → List (List Symbol)) → List (List Symbol)
node_words None go = []
node_words (Some node) go = [] ∷ go (edges_of node)

abbrev pub read_words : Mode → Slab Node → ℕ → ℕ → List Item → List (List Symbol)
read_words mode nodes zero n is = []
read_words mode nodes (suc k) n is = node_words (get nodes n) (along_words mode (read_words mode nodes k) is)

length-each : (s : Symbol) (ws : List (List Symbol)) → length (each s ws) ≡ length ws
length-each s [] = refl
length-each s (w ∷ ws) = ap suc (length-each s ws)

abbrev edge_words : (ℕ → List Item → List (List Symbol)) → Symbol × ℕ → List (List Symbol) → Option (List Item) → List (List Symbol)
edge_words go e more o = elim o [ None ↦ more | Some js ↦ each e.0 (go e.1 js) ++ more ]

edges_length : (mode : Mode) (f : ℕ → List Item → List (List Symbol)) (g : ℕ → List Item → List ℕ) (is : List Item) → ((n : ℕ) (js : List Item) → length (f n js) ≡ length (g n js)) → (es : List (Symbol × ℕ)) → length (along_words mode f is es) ≡ length (along_edges mode g is es)
edges_length mode f g is h [] = refl
edges_length mode f g is h (e ∷ es) = at (onward mode is e.0) (edges_length mode f g is h es)
  where
    at : (o : Option (List Item)) → length (along_words mode f is es) ≡ length (along_edges mode g is es) → length (edge_words f e (along_words mode f is es) o) ≡ length (elim o as (λ v. List ℕ) [ None ↦ along_edges mode g is es | Some js ↦ g e.1 js ++ along_edges mode g is es ])
    at None q = q
    at (Some js) q = omega (arith, length-append (each e.0 (f e.1 js)) (along_words mode f is es), length-each e.0 (f e.1 js), length-append (g e.1 js) (along_edges mode g is es), h e.1 js, q)

pub words_length : (mode : Mode) (nodes : Slab Node) (k n : ℕ) (is : List Item) → length (read_words mode nodes k n is) ≡ length (trail mode nodes k n is)
unfolding trail
words_length mode nodes zero n is = refl
words_length mode nodes (suc k) n is = at (get nodes n) (λ es. edges_length mode (read_words mode nodes k) (trail mode nodes k) is (λ m js. words_length mode nodes k m js) es)
  where
    at : (o : Option Node) → ((es : List (Symbol × ℕ)) → length (along_words mode (read_words mode nodes k) is es) ≡ length (along_edges mode (trail mode nodes k) is es)) → length (node_words o (along_words mode (read_words mode nodes k) is)) ≡ length (at_node o (along_edges mode (trail mode nodes k) is) n)
    at None f = refl
    at (Some node) f = ap suc (f (edges_of node))

-- a word along the edges
record TakenWord (mode : Mode) (go : ℕ → List Item → List (List Symbol)) (is : List Item) (es : List (Symbol × ℕ)) (w : List Symbol) : Type 0 where
  symbol : Symbol
  rest : List Symbol
  node : ℕ
  items : List Item
  leads : target symbol es ≡ Some node
  onward : onward mode is symbol ≡ Some items
  word : w ≡ symbol ∷ rest
  there : In rest (go node items)

taken_word : (mode : Mode) (go : ℕ → List Item → List (List Symbol)) (is : List Item) (es : List (Symbol × ℕ)) (w : List Symbol) → Apart es → In w (along_words mode go is es) → TakenWord mode go is es w
taken_word mode go is [] w a h = absurd h
taken_word mode go is (e ∷ es) w a h = at (onward mode is e.0) refl h (λ g. taken_word mode go is es w a.1 g)
  where
    later : TakenWord mode go is es w → TakenWord mode go is (e ∷ es) w
    later t = record { symbol = t.symbol; rest = t.rest; node = t.node; items = t.items; leads = target_later t.symbol e es t.node a.0 t.leads; onward = t.onward; word = t.word; there = t.there }

    here : (js : List Item) → onward mode is e.0 ≡ Some js → Behind e.0 w (go e.1 js) → TakenWord mode go is (e ∷ es) w
    here js q b = record { symbol = e.0; rest = b.rest; node = e.1; items = js; leads = target_here e es; onward = q; word = b.word; there = b.listed }

    at : (o : Option (List Item)) → onward mode is e.0 ≡ o → In w (edge_words go e (along_words mode go is es) o) → (In w (along_words mode go is es) → TakenWord mode go is es w) → TakenWord mode go is (e ∷ es) w
    at None q g r = later (r g)
    at (Some js) q g r = elim (in_either w (each e.0 (go e.1 js)) (along_words mode go is es) g) [
      | inl u ↦ here js q (of_each e.0 w (go e.1 js) u)
      | inr u ↦ later (r u)
    ]

-- each word that is read ends at a node, and agrees
pub record Read (mode : Mode) (nodes : Slab Node) (n : ℕ) (is : List Item) (w : List Symbol) : Type 0 where
  pub end : ℕ
  pub ends : reach nodes n w ≡ Some end
  pub agrees : is_some (reads mode is w) ≡ true

pub words_read : (mode : Mode) (nodes : Slab Node) → IsApart nodes → (k n : ℕ) (is : List Item) (w : List Symbol) → In w (read_words mode nodes k n is) → Read mode nodes n is w
words_read mode nodes f zero n is w h = absurd h
words_read mode nodes f (suc k) n is w h = at (get nodes n) refl h (λ c js v g. words_read mode nodes f k c js v g)
  where
    at : (o : Option Node) → get nodes n ≡ o → In w (node_words o (along_words mode (read_words mode nodes k) is)) → ((c : ℕ) (js : List Item) (v : List Symbol) → In v (read_words mode nodes k c js) → Read mode nodes c js v) → Read mode nodes n is w
    at None q g i = absurd g
    at (Some node) q (inl e) i = back (λ v. Read mode nodes n is v) _ _ e (record { end = n; ends = at_once nodes n (node, q); agrees = refl })
    at (Some node) q (inr g) i =
        let t = taken_word mode (read_words mode nodes k) is (edges_of node) w (f n node q) g in
        let r = i t.node t.items t.rest t.there in
        back (λ v. Read mode nodes n is v) _ _ t.word (record {
          end = r.end;
          ends = with_step nodes n t.node t.symbol t.rest r.end (ap (λ o. edge_of o t.symbol) q ∙ t.leads) r.ends;
          agrees = ap (λ (o : Option (List Item)). is_some (elim o as (λ v. Option (List Item)) [ None ↦ None | Some js ↦ reads mode js t.rest ])) t.onward ∙ r.agrees;
        })

distinct_each : (s : Symbol) (ws : List (List Symbol)) → Distinct ws → Distinct (each s ws)
distinct_each s [] d = tt
distinct_each s (w ∷ ws) d = (λ h. d.0 (same (of_each s (s ∷ w) ws h)), distinct_each s ws d.1)
  where
    same : Behind s (s ∷ w) ws → In w ws
    same b = let e : w ≡ b.rest = let q = b.word in cc in back (λ v. In v ws) _ _ e b.listed

distinct_append : {A : Type 0} (xs ys : List A) → Distinct xs → Distinct ys → ((x : A) → In x xs → In x ys → ⊥) → Distinct (xs ++ ys)
distinct_append [] ys d e h = e
distinct_append {A} (x ∷ xs) ys d e h = (
  λ g. elim (in_either x xs ys g) [ inl u ↦ d.0 u | inr u ↦ h x (inl refl) u ],
  distinct_append xs ys d.1 e (λ z p q. h z (inr p) q),
)

edges_distinct : (mode : Mode) (go : ℕ → List Item → List (List Symbol)) (is : List Item) (es : List (Symbol × ℕ)) → Apart es → ((n : ℕ) (js : List Item) → Distinct (go n js)) → Distinct (along_words mode go is es)
edges_distinct mode go is [] a h = tt
edges_distinct mode go is (e ∷ es) a h = at (onward mode is e.0) (edges_distinct mode go is es a.1 h)
  where
    both : (js : List Item) (w : List Symbol) → Behind e.0 w (go e.1 js) → TakenWord mode go is es w → ⊥
    both js w b t =
        let s : t.symbol ≡ e.0 = let p = b.word in let q = t.word in cc in
        let x : target t.symbol es ≡ None = ap (λ v. target v es) s ∙ a.0 in
        let y = t.leads in cc

    at : (o : Option (List Item)) → Distinct (along_words mode go is es) → Distinct (edge_words go e (along_words mode go is es) o)
    at None d = d
    at (Some js) d = distinct_append (each e.0 (go e.1 js)) (along_words mode go is es) (distinct_each e.0 (go e.1 js) (h e.1 js)) d (λ w p q. both js w (of_each e.0 w (go e.1 js) p) (taken_word mode go is es w a.1 q))

pub words_distinct : (mode : Mode) (nodes : Slab Node) → IsApart nodes → (k n : ℕ) (is : List Item) → Distinct (read_words mode nodes k n is)
words_distinct mode nodes f zero n is = tt
words_distinct mode nodes f (suc k) n is = at (get nodes n) refl (λ c js. words_distinct mode nodes f k c js)
  where
    not_empty : (node : Node) → get nodes n ≡ Some node → In [] (along_words mode (read_words mode nodes k) is (edges_of node)) → ⊥
    not_empty node q g = let t = taken_word mode (read_words mode nodes k) is (edges_of node) [] (f n node q) g in let e = t.word in cc

    at : (o : Option Node) → get nodes n ≡ o → ((c : ℕ) (js : List Item) → Distinct (read_words mode nodes k c js)) → Distinct (node_words o (along_words mode (read_words mode nodes k) is))
    at None q i = tt
    at (Some node) q i = (not_empty node q, edges_distinct mode (read_words mode nodes k) is (edges_of node) (f n node q) i)

-- ---- the bound
module _ (mode : Mode) (nodes : Slab Node) (root deep : ℕ) (word_at : Rank → Option (List Symbol)) (x : IsIndex nodes root deep word_at []) (ws : List (List Symbol)) (all : (r : Rank) (w : List Symbol) → word_at r ≡ Some w → In w ws) where
  is_prefix : (w : List Symbol) → ((v : List Symbol) × ([] ≡ w ++ v)) ⊎ ((r : Rank) × ((v : List Symbol) × (word_at r ≡ Some (w ++ v)))) → In w (all_prefixes ws)
  is_prefix [] (inl e) = empty_prefix ws
  is_prefix (s ∷ w) (inl e) = let q = e.1 in absurd (cc)
  is_prefix w (inr u) = in_all_prefixes w (w ++ u.1.0) ws (all u.0 (w ++ u.1.0) u.1.1) (in_prefixes w u.1.0)

  pub visits_bounded : (is : List Item) → length (trail mode nodes deep root is) ≤ agreeing mode is ws
  visits_bounded is =
      let l = words_length mode nodes deep root is in
      let m = no_more (read_words mode nodes deep root is) (readable mode is (distinct (all_prefixes ws))) (words_distinct mode nodes x.tree.apart deep root is) (λ w h. among w (words_read mode nodes x.tree.apart deep root is w h)) in
      omega (arith, l, m)
    where
      among : (w : List Symbol) → Read mode nodes root is w → In w (readable mode is (distinct (all_prefixes ws)))
      among w r = in_readable mode is w (distinct (all_prefixes ws)) (in_distinct w (all_prefixes ws) (is_prefix w (x.used w r.end r.ends))) r.agrees
