-- One step of the code that looks up.
use Rattle.std.proofs.Common.{◌≡◌, ◌≢◌, ℕ, zero, suc, Bool, true, false, ◌+◌, ◌-◌, ◌<◌, ◌≤◌, List, [], ◌∷◌, ◌++◌, length, Some, None, Result, Ok, Err, refl, sym, ap, ◌∙◌, cond, arith, append_assoc, length-append}
use Rattle.std.specs.Prelude.{IfOk, OnOk, OnErr}
use Rattle.std.proofs.lemmas.List.{append-nil}
use Rattle.slab.specs.Slab.{Slab, get}
use Rattle.isa_terms.specs.Terms.{Tm}
use Rattle.isa_net.specs.declared.mode.Mode.{Mode}
use Rattle.isa_net.specs.declared.rank.Rank.{Rank}
use Rattle.isa_net.specs.declared.symbol.Symbol.{Symbol}
use Rattle.isa_net.specs.declared.node.Node.{Node}
use Rattle.isa_net.specs.Symbols.{arity, is_star}
use Rattle.isa_net.specs.declared.symbol.Symbol.TheVariants.{Star}
use Rattle.isa_net.specs.Inside.Lists.{last_args}
use Rattle.isa_net.specs.Words.{Item, Along, Over, overs, alongs, symbol_of}
use Rattle.isa_net.specs.Inside.Reach.{edges_of, target}
use Rattle.isa_net.specs.Inside.Trails.{along_edges, along_all, if_leads, along_own, along_two, trail, ranks_of, ranks_at}
use Rattle.isa_net.proofs.Visits.{trail_at, along_nothing, ranks_at-append, edges_over}

pub on_ok : {A E : Type 0} (r : Result A E) (P Q : Type 0) → (P → Q) → OnOk r P → OnOk r Q
on_ok (Ok x) P Q f h = f h
on_ok (Err e) P Q f h = h

pub on_err : {A E : Type 0} (r : Result A E) (P Q : Type 0) → (P → Q) → OnErr r P → OnErr r Q
on_err (Ok x) P Q f h = h
on_err (Err e) P Q f h = f h

pub if_ok : {A E : Type 0} (r : Result A E) (P Q : A → Type 0) → ((x : A) → P x → Q x) → IfOk r P → IfOk r Q
if_ok (Ok x) P Q f h = f x h
if_ok (Err e) P Q f h = h

-- nothing is visited
pub found_nothing : (nodes : Slab Node) (xs : List Rank) (ns : List ℕ) → ns ≡ [] → xs ≡ xs ++ ranks_at nodes ns
found_nothing nodes xs ns e = sym (ap (λ v. xs ++ ranks_at nodes v) e ∙ append-nil xs)

pub trail_stops : (mode : Mode) (nodes : Slab Node) (k n : ℕ) (is : List Item) → k ≡ 0 → trail mode nodes k n is ≡ []
unfolding trail
trail_stops mode nodes zero n is e = refl
trail_stops mode nodes (suc k) n is e = absurd (omega arith)

pub trail_front : (mode : Mode) (nodes : Slab Node) (k n : ℕ) (is : List Item) (node : Node) → k ≢ 0 → get nodes n ≡ Some node → trail mode nodes k n is ≡ n ∷ along_edges mode (trail mode nodes (k - 1)) is (edges_of node)
trail_front mode nodes zero n is node d h = absurd (d refl)
trail_front mode nodes (suc k) n is node d h = let e : suc k - 1 ≡ k = omega arith in trail_at mode nodes k n is node h ∙ ap (λ j. n ∷ along_edges mode (trail mode nodes j) is (edges_of node)) (sym e)

-- a node's own ranks, and what its edges give
pub found_front : (nodes : Slab Node) (n : ℕ) (node : Node) (ns all : List ℕ) (old mid new : List Rank) → get nodes n ≡ Some node → mid ≡ old ++ node.ranks.items → new ≡ mid ++ ranks_at nodes ns → all ≡ n ∷ ns → new ≡ old ++ ranks_at nodes all
found_front nodes n node ns all old mid new h m w e =
    w ∙ ap (λ v. v ++ ranks_at nodes ns) m ∙ append_assoc old node.ranks.items (ranks_at nodes ns) ∙ ap (λ o. old ++ (ranks_of o ++ ranks_at nodes ns)) (sym h) ∙ ap (λ v. old ++ ranks_at nodes v) (sym e)

pub found_alone : (nodes : Slab Node) (n : ℕ) (node : Node) (ns all : List ℕ) (old mid : List Rank) → get nodes n ≡ Some node → mid ≡ old ++ node.ranks.items → ns ≡ [] → all ≡ n ∷ ns → mid ≡ old ++ ranks_at nodes all
found_alone nodes n node ns all old mid h m w e = found_front nodes n node ns all old mid mid h m (found_nothing nodes mid ns w) e

pub counted : (n : ℕ) (ns all : List ℕ) (old mid new : ℕ) → mid ≤ old + 1 → new ≤ mid + length ns → all ≡ n ∷ ns → new ≤ old + length all
counted n ns all old mid new h m e = let q : length all ≡ suc (length ns) = ap length e in omega arith

-- the first of the edges that are left, and those behind it
pub all_found : (nodes : Slab Node) (go : ℕ → List Item → List ℕ) (rest : List Item) (es more : List (Symbol × ℕ)) (e : Symbol × ℕ) (old new total : List Rank) → es ≡ e ∷ more → new ≡ old ++ ranks_at nodes (go e.1 (overs (arity e.0) ++ rest)) → old ++ ranks_at nodes (along_all go rest es) ≡ total → new ++ ranks_at nodes (along_all go rest more) ≡ total
all_found nodes go rest es more e old new total h w inv =
    let here = go e.1 (overs (arity e.0) ++ rest) in
    let left = along_all go rest more in
    let a = ap (λ v. old ++ ranks_at nodes (along_all go rest v)) h in
    let b = ranks_at-append nodes here left in
    let c = append_assoc old (ranks_at nodes here) (ranks_at nodes left) in
    ap (λ v. v ++ ranks_at nodes left) w ∙ c ∙ ap (λ v. old ++ v) (sym b) ∙ sym a ∙ inv

pub all_counted : (go : ℕ → List Item → List ℕ) (rest : List Item) (es more : List (Symbol × ℕ)) (e : Symbol × ℕ) (old new total : ℕ) → es ≡ e ∷ more → new ≤ old + length (go e.1 (overs (arity e.0) ++ rest)) → old + length (along_all go rest es) ≤ total → new + length (along_all go rest more) ≤ total
all_counted go rest es more e old new total h w inv =
    let a = ap (λ v. length (along_all go rest v)) h in
    let b = length-append (go e.1 (overs (arity e.0) ++ rest)) (along_all go rest more) in
    omega (arith, a, b)

-- ---- two parts
pub both_found : (nodes : Slab Node) (ns ms : List ℕ) (old mid new : List Rank) → mid ≡ old ++ ranks_at nodes ns → new ≡ mid ++ ranks_at nodes ms → new ≡ old ++ ranks_at nodes (ns ++ ms)
both_found nodes ns ms old mid new h g = g ∙ ap (λ v. v ++ ranks_at nodes ms) h ∙ append_assoc old (ranks_at nodes ns) (ranks_at nodes ms) ∙ ap (λ v. old ++ v) (sym (ranks_at-append nodes ns ms))

pub both_counted : (ns ms : List ℕ) (old mid new : ℕ) → mid ≤ old + length ns → new ≤ mid + length ms → new ≤ old + length (ns ++ ms)
both_counted ns ms old mid new h g = let a = length-append ns ms in omega (arith, a)

-- the star and a symbol of its own
own_is : (go : ℕ → List Item → List ℕ) (t : Tm) (rest : List Item) (es : List (Symbol × ℕ)) (s : Symbol) (k : ℕ) → is_star s ≡ false → k ≡ arity s → if_leads (target s es) (λ n. go n (alongs (last_args k t) ++ rest)) ≡ along_own go t rest es s
own_is go t rest es s k h e =
    ap (λ j. if_leads (target s es) (λ n. go n (alongs (last_args j t) ++ rest))) e
    ∙ ap (λ b. cond b [] (if_leads (target s es) (λ n. go n (alongs (last_args (arity s) t) ++ rest)))) (sym h)

own_as : (go : ℕ → List Item → List ℕ) (t : Tm) (rest : List Item) (es : List (Symbol × ℕ)) (s : Symbol) (k : ℕ) → s ≡ symbol_of t → is_star s ≡ false → k ≡ arity s → if_leads (target s es) (λ n. go n (alongs (last_args k t) ++ rest)) ≡ along_own go t rest es (symbol_of t)
own_as go t rest es s k q h e = own_is go t rest es s k h e ∙ ap (along_own go t rest es) q

pub two_found : (nodes : Slab Node) (go : ℕ → List Item → List ℕ) (t : Tm) (rest : List Item) (es : List (Symbol × ℕ)) (s : Symbol) (k : ℕ) → s ≡ symbol_of t → is_star s ≡ false → k ≡ arity s → (old mid new : List Rank) → mid ≡ old ++ ranks_at nodes (if_leads (target Star es) (λ n. go n rest)) → new ≡ mid ++ ranks_at nodes (if_leads (target s es) (λ n. go n (alongs (last_args k t) ++ rest))) → new ≡ old ++ ranks_at nodes (along_two go t rest es)
two_found nodes go t rest es s k q h e old mid new a b = both_found nodes _ _ old mid new a (b ∙ ap (λ v. mid ++ ranks_at nodes v) (own_as go t rest es s k q h e))

pub two_counted : (go : ℕ → List Item → List ℕ) (t : Tm) (rest : List Item) (es : List (Symbol × ℕ)) (s : Symbol) (k : ℕ) → s ≡ symbol_of t → is_star s ≡ false → k ≡ arity s → (old mid new : ℕ) → mid ≤ old + length (if_leads (target Star es) (λ n. go n rest)) → new ≤ mid + length (if_leads (target s es) (λ n. go n (alongs (last_args k t) ++ rest))) → new ≤ old + length (along_two go t rest es)
two_counted go t rest es s k q h e old mid new a b = let l = ap length (own_as go t rest es s k q h e) in both_counted (if_leads (target Star es) (λ n. go n rest)) (along_own go t rest es (symbol_of t)) old mid new a (omega (arith, b, l))

star_alone : (go : ℕ → List Item → List ℕ) (t : Tm) (rest : List Item) (es : List (Symbol × ℕ)) (s : Symbol) → s ≡ symbol_of t → is_star s ≡ true → [] ≡ along_own go t rest es (symbol_of t)
star_alone go t rest es s q h = ap (λ b. cond b [] (if_leads (target (symbol_of t) es) (λ n. go n (alongs (last_args (arity (symbol_of t)) t) ++ rest)))) (sym (sym (ap is_star q) ∙ h))

pub star_found : (nodes : Slab Node) (go : ℕ → List Item → List ℕ) (t : Tm) (rest : List Item) (es : List (Symbol × ℕ)) (s : Symbol) → s ≡ symbol_of t → is_star s ≡ true → (old new : List Rank) → new ≡ old ++ ranks_at nodes (if_leads (target Star es) (λ n. go n rest)) → new ≡ old ++ ranks_at nodes (along_two go t rest es)
star_found nodes go t rest es s q h old new a = both_found nodes _ _ old new new a (found_nothing nodes new (along_own go t rest es (symbol_of t)) (sym (star_alone go t rest es s q h)))

pub star_counted : (go : ℕ → List Item → List ℕ) (t : Tm) (rest : List Item) (es : List (Symbol × ℕ)) (s : Symbol) → s ≡ symbol_of t → is_star s ≡ true → (old new : ℕ) → new ≤ old + length (if_leads (target Star es) (λ n. go n rest)) → new ≤ old + length (along_two go t rest es)
star_counted go t rest es s q h old new a = both_counted (if_leads (target Star es) (λ n. go n rest)) (along_own go t rest es (symbol_of t)) old new new a (omega arith)

-- the same nodes, told otherwise
pub same_found : (nodes : Slab Node) (ns ms : List ℕ) (old new : List Rank) → ns ≡ ms → new ≡ old ++ ranks_at nodes ms → new ≡ old ++ ranks_at nodes ns
same_found nodes ns ms old new e h = h ∙ ap (λ v. old ++ ranks_at nodes v) (sym e)

pub same_counted : (ns ms : List ℕ) (old new : ℕ) → ns ≡ ms → new ≤ old + length ms → new ≤ old + length ns
same_counted ns ms old new e h = let l = ap length e in omega (arith, l)

-- ---- the whole of a visit, from what the calls told
pub trail_alone : (mode : Mode) (nodes : Slab Node) (k n : ℕ) (is : List Item) (node : Node) → (k ≡ 0 → ⊥) → Some node ≡ get nodes n → [] ≡ is → trail mode nodes k n is ≡ n ∷ []
trail_alone mode nodes k n is node d h e = trail_front mode nodes k n is node d (sym h) ∙ ap (λ v. n ∷ along_edges mode (trail mode nodes (k - 1)) v (edges_of node)) (sym e) ∙ ap (λ v. n ∷ v) (along_nothing mode (trail mode nodes (k - 1)) (edges_of node))

pub trail_over : (mode : Mode) (nodes : Slab Node) (k n : ℕ) (is : List Item) (node : Node) (rest : List Item) → (k ≡ 0 → ⊥) → Some node ≡ get nodes n → Over ∷ rest ≡ is → trail mode nodes k n is ≡ n ∷ along_all (trail mode nodes (k - 1)) rest (edges_of node)
trail_over mode nodes k n is node rest d h e =
    trail_front mode nodes k n is node d (sym h) ∙ ap (λ v. n ∷ along_edges mode (trail mode nodes (k - 1)) v (edges_of node)) (sym e) ∙ ap (λ v. n ∷ v) (edges_over mode Over (trail mode nodes (k - 1)) rest (λ s. refl) (edges_of node))

pub trail_along : (mode : Mode) (nodes : Slab Node) (k n : ℕ) (is : List Item) (node : Node) (t : Tm) (rest : List Item) → (k ≡ 0 → ⊥) → Some node ≡ get nodes n → Along t ∷ rest ≡ is → trail mode nodes k n is ≡ n ∷ along_edges mode (trail mode nodes (k - 1)) (Along t ∷ rest) (edges_of node)
trail_along mode nodes k n is node t rest d h e =
    trail_front mode nodes k n is node d (sym h) ∙ ap (λ v. n ∷ along_edges mode (trail mode nodes (k - 1)) v (edges_of node)) (sym e)

pub found_by : (nodes : Slab Node) (n : ℕ) (node : Node) (ns all : List ℕ) (old mid new rs : List Rank) → Some node ≡ get nodes n → mid ≡ old ++ rs → rs ≡ node.ranks.items → all ≡ n ∷ ns → new ≡ mid ++ ranks_at nodes ns → new ≡ old ++ ranks_at nodes all
found_by nodes n node ns all old mid new rs h m r e w = found_front nodes n node ns all old mid new (sym h) (m ∙ ap (λ v. old ++ v) r) w e

pub counted_by : (n : ℕ) (ns all : List ℕ) (old mid new : ℕ) → mid ≤ old + 1 → all ≡ n ∷ ns → new ≤ mid + length ns → new ≤ old + length all
counted_by n ns all old mid new h e m = counted n ns all old mid new h m e
