-- Idle nodes are taken away from the end of the pending word.
use Rattle.std.proofs.Common.{◌≡◌, ◌⊎◌, inl, inr, ℕ, suc, Bool, true, false, cond, ◌&&◌, nat_eq, ◌<◌, ◌≤◌, List, [], ◌∷◌, ◌++◌, length, take, drop, get_or, ◌-◌, append_assoc, Option, Some, None, refl, sym, ap, ◌∙◌, arith}
use Rattle.std.proofs.lemmas.List.{append-nil}
use Rattle.std.proofs.lemmas.Bool.Decides.{nat_tests}
use Rattle.slab.specs.Slab.{Slab, get}
use Rattle.isa_net.specs.declared.symbol.Symbol.{Symbol}
use Rattle.isa_net.specs.declared.rank.Rank.{Rank}
use Rattle.isa_net.specs.declared.node.Node.{Node}
use Rattle.isa_net.specs.Symbols.{symbol_eq}
use Rattle.isa_net.specs.Inside.Reach.{edges_of, target, edge_of, edge, reach, Apart, is_idle}
use Rattle.isa_net.specs.Inside.Index.{In, IsIndex, IsLive, IsLeaf, Shrunk, Pruned, Prunes, KeepsIndex, Restores, Unranks, Unplaces}
use Rattle.isa_net.proofs.Members.{symbol_same}
use Rattle.isa_net.proofs.Reached.{back}
use Rattle.isa_net.proofs.Indexed.{ends_there}
use Rattle.isa_net.proofs.Indexes.{pending_from_none}
use Rattle.isa_net.proofs.Growing.{first_step, with_step, no_step, at_once, reach_kept}
use Rattle.isa_net.proofs.Trees.{last}
use Rattle.isa_net.proofs.Descending.{one_more}
use Rattle.isa_net.proofs.Dropping.{index_shrunk, left_there}
use Rattle.isa_net.proofs.Unranking.{settled_by_edge, settled_by_rank, index_unranked}

-- ---- words
-- where two words begin one list, one of them begins the other
common_front : (front w a b : List Symbol) → front ++ a ≡ w ++ b → ((v : List Symbol) × (front ≡ w ++ v)) ⊎ ((s : Symbol) × ((u : List Symbol) × ((w ≡ front ++ s ∷ u) × (a ≡ (s ∷ u) ++ b))))
common_front [] [] a b e = inl ([], refl)
common_front [] (s ∷ u) a b e = inr (s, (u, (refl, e)))
common_front (x ∷ front) [] a b e = inl (x ∷ front, refl)
common_front (x ∷ front) (y ∷ w) a b e = more (common_front front w a b tails)
  where
    heads : x ≡ y
    heads = cc

    tails : front ++ a ≡ w ++ b
    tails = cc

    more : ((v : List Symbol) × (front ≡ w ++ v)) ⊎ ((s : Symbol) × ((u : List Symbol) × ((w ≡ front ++ s ∷ u) × (a ≡ (s ∷ u) ++ b)))) → ((v : List Symbol) × (x ∷ front ≡ (y ∷ w) ++ v)) ⊎ ((s : Symbol) × ((u : List Symbol) × ((y ∷ w ≡ (x ∷ front) ++ s ∷ u) × (a ≡ (s ∷ u) ++ b))))
    more (inl v) = inl (v.0, ap (λ z. z ∷ front) heads ∙ ap (λ z. y ∷ z) v.1)
    more (inr r) = inr (r.0, (r.1.0, (ap (λ z. z ∷ w) (sym heads) ∙ ap (λ z. x ∷ z) r.1.1.0, r.1.1.1)))

-- ---- ways
live_by_edge : (nodes : Slab Node) (n c : ℕ) (s : Symbol) → edge nodes n s ≡ Some c → IsLive nodes n
live_by_edge nodes n c s h = at (get nodes n) refl h
  where
    at : (o : Option Node) → get nodes n ≡ o → edge_of o s ≡ Some c → IsLive nodes n
    at None q g = absurd (cc)
    at (Some node) q g = (node, q)

live_start : (nodes : Slab Node) (w : List Symbol) (n m : ℕ) → reach nodes n w ≡ Some m → IsLive nodes n
live_start nodes [] n m h = (no_step nodes n m h).1
live_start nodes (s ∷ w) n m h = let r = first_step nodes n s w m h in live_by_edge nodes n r.next s r.leads

-- a word's way leads through the end of its front
record Through (nodes : Slab Node) (n : ℕ) (front rest : List Symbol) (m : ℕ) : Type 0 where
  node : ℕ
  before : reach nodes n front ≡ Some node
  behind : reach nodes node rest ≡ Some m

through : (nodes : Slab Node) (front rest : List Symbol) (n m : ℕ) → reach nodes n (front ++ rest) ≡ Some m → Through nodes n front rest m
through nodes [] rest n m h = record { node = n; before = at_once nodes n (live_start nodes rest n m h); behind = h }
through nodes (s ∷ front) rest n m h =
    let r = first_step nodes n s (front ++ rest) m h in
    let k = through nodes front rest r.next m r.rest in
    record { node = k.node; before = with_step nodes n r.next s front k.node r.leads k.before; behind = k.behind }

-- ---- the pending word ends where no edge goes on
index_cut : (nodes : Slab Node) (root deep n : ℕ) (s : Symbol) (word_at : Rank → Option (List Symbol)) (front rest : List Symbol) → reach nodes root front ≡ Some n → edge nodes n s ≡ None → IsIndex nodes root deep word_at (front ++ s ∷ rest) → IsIndex nodes root deep word_at front
index_cut nodes root deep n s word_at front rest here free x = record { tree = x.tree; ranked = x.ranked; held = x.held; shallow = x.shallow; used = λ w m h. used w m h (x.used w m h) }
  where
    no_way : (w u v : List Symbol) (t : Symbol) (m : ℕ) → reach nodes root w ≡ Some m → w ≡ front ++ t ∷ u → s ∷ rest ≡ (t ∷ u) ++ v → ⊥
    no_way w u v t m h e q =
        let k = through nodes front (t ∷ u) root m (ap (λ z. reach nodes root z) (sym e) ∙ h) in
        let r = first_step nodes k.node t u m k.behind in
        let same : k.node ≡ n = let y = k.before in cc in
        let first : s ≡ t = cc in
        let z : edge nodes n s ≡ Some r.next = ap (λ i. edge nodes i s) (sym same) ∙ ap (λ i. edge nodes k.node i) first ∙ r.leads in
        cc

    used : (w : List Symbol) (m : ℕ) → reach nodes root w ≡ Some m → ((v : List Symbol) × (front ++ s ∷ rest ≡ w ++ v)) ⊎ ((r : Rank) × ((v : List Symbol) × (word_at r ≡ Some (w ++ v)))) → ((v : List Symbol) × (front ≡ w ++ v)) ⊎ ((r : Rank) × ((v : List Symbol) × (word_at r ≡ Some (w ++ v))))
    used w m h (inr u) = inr u
    used w m h (inl e) = elim (common_front front w (s ∷ rest) e.0 e.1) [ inl q ↦ inl q | inr q ↦ absurd (no_way w q.1.0 e.0 q.0 m h q.1.1.0 q.1.1.1) ]

-- ---- the node at the end of the pending word is idle, or in use
in_use : (nodes : Slab Node) (root deep n : ℕ) (word_at : Rank → Option (List Symbol)) (front : List Symbol) → reach nodes root front ≡ Some n → is_idle (get nodes n) ≡ false → IsIndex nodes root deep word_at front → IsIndex nodes root deep word_at []
in_use nodes root deep n word_at front here busy x = at (ends_there nodes root front n here)
  where
    by_edges : (node : Node) → get nodes n ≡ Some node → (es : List (Symbol × ℕ)) → edges_of node ≡ es → (rs : List Rank) → node.ranks.items ≡ rs → (nat_eq (length es) 0 && nat_eq (length rs) 0) ≡ false → IsIndex nodes root deep word_at []
    by_edges node q [] a [] b h = absurd (cc)
    by_edges node q [] a (r ∷ rs) b h = settled_by_rank nodes root deep n node r word_at front here q (back (λ v. In r v) _ _ b (inl refl)) x
    by_edges node q (e ∷ es) a rs b h =
        let first : target e.0 (e ∷ es) ≡ Some e.1 = ap (λ v. cond v (Some e.1) (target e.0 es)) (symbol_same e.0) in
        settled_by_edge nodes root deep n e.1 e.0 word_at front here (ap (λ o. edge_of o e.0) q ∙ ap (target e.0) a ∙ first) x

    at : (node : Node) × (get nodes n ≡ Some node) → IsIndex nodes root deep word_at []
    at k = by_edges k.0 k.1 (edges_of k.0) refl k.0.ranks.items refl (sym (ap is_idle k.1) ∙ busy)

pruned_here : (nodes : Slab Node) (root deep n : ℕ) (word_at : Rank → Option (List Symbol)) (front : List Symbol) (found : Bool) → found ≡ is_idle (get nodes n) → reach nodes root front ≡ Some n → IsIndex nodes root deep word_at front → Pruned nodes nodes root deep word_at front n found
pruned_here nodes root deep n word_at front true e here x = record { fewer = λ w k m h. h; index = x; here = λ h. here; idle = λ h. sym e }
pruned_here nodes root deep n word_at front false e here x = record { fewer = λ w k m h. h; index = in_use nodes root deep n word_at front here (sym e) x; here = λ h. absurd (cc); idle = λ h. absurd (cc) }

-- ---- the code's ways
-- the word has ended
pub prunes_end : (nodes : Slab Node) (n : ℕ) (w : List Symbol) (found : Bool) → w ≡ [] → found ≡ is_idle (get nodes n) → Prunes nodes nodes n w found
prunes_end nodes n w found e b root deep word_at front here x = pruned_here nodes root deep n word_at front found b here (back (λ v. IsIndex nodes root deep word_at v) _ _ (sym (append-nil front) ∙ ap (λ v. front ++ v) (sym e)) x)

-- the word leads nowhere
pub prunes_cut : (nodes : Slab Node) (n : ℕ) (s : Symbol) (w rest : List Symbol) (found : Bool) → w ≡ s ∷ rest → edge nodes n s ≡ None → found ≡ is_idle (get nodes n) → Prunes nodes nodes n w found
prunes_cut nodes n s w rest found e free b root deep word_at front here x = pruned_here nodes root deep n word_at front found b here (index_cut nodes root deep n s word_at front rest here free (back (λ v. IsIndex nodes root deep word_at (front ++ v)) _ _ (sym e) x))

-- what the call below is given
begins_below : (nodes : Slab Node) (root deep n c : ℕ) (s : Symbol) (word_at : Rank → Option (List Symbol)) (front w rest : List Symbol) → w ≡ s ∷ rest → IsIndex nodes root deep word_at (front ++ w) → IsIndex nodes root deep word_at ((front ++ s ∷ []) ++ rest)
begins_below nodes root deep n c s word_at front w rest e x = back (λ v. IsIndex nodes root deep word_at v) _ _ (append_assoc front (s ∷ []) rest ∙ ap (λ v. front ++ v) (sym e)) x

way_below : (nodes : Slab Node) (root deep n c : ℕ) (s : Symbol) (word_at : Rank → Option (List Symbol)) (front p : List Symbol) → reach nodes root front ≡ Some n → edge nodes n s ≡ Some c → IsIndex nodes root deep word_at p → reach nodes root (front ++ s ∷ []) ≡ Some c
way_below nodes root deep n c s word_at front p here leads x = one_more nodes front root n c s leads (x.tree.there n c s leads) here

-- the node below is in use
pub prunes_busy : (old new : Slab Node) (n c : ℕ) (s : Symbol) (w rest : List Symbol) → w ≡ s ∷ rest → edge old n s ≡ Some c → Prunes old new c rest false → Prunes old new n w false
prunes_busy old new n c s w rest e leads p root deep word_at front here x =
    let k = p root deep word_at (front ++ s ∷ []) (way_below old root deep n c s word_at front (front ++ w) here leads x) (begins_below old root deep n c s word_at front w rest e x) in
    record { fewer = k.fewer; index = k.index; here = λ h. absurd (cc); idle = λ h. absurd (cc) }

both_zero : (a b : ℕ) → (nat_eq a 0 && nat_eq b 0) ≡ true → (a ≡ 0) × (b ≡ 0)
both_zero a b h = first (nat_eq a 0) refl h
  where
    first : (x : Bool) → nat_eq a 0 ≡ x → (x && nat_eq b 0) ≡ true → (a ≡ 0) × (b ≡ 0)
    first true q g = (grind (arith, nat_tests), grind (arith, nat_tests))
    first false q g = absurd (cc)

idle_node : (o : Option Node) → is_idle o ≡ true → (node : Node) × ((o ≡ Some node) × ((edges_of node ≡ []) × (node.ranks.items ≡ [])))
idle_node None h = absurd (cc)
idle_node (Some node) h = at (edges_of node) refl node.ranks.items refl h
  where
    at : (es : List (Symbol × ℕ)) → edges_of node ≡ es → (rs : List Rank) → node.ranks.items ≡ rs → (nat_eq (length es) 0 && nat_eq (length rs) 0) ≡ true → (k : Node) × ((Some node ≡ Some k) × ((edges_of k ≡ []) × (k.ranks.items ≡ [])))
    at [] a [] b g = (node, (refl, (a, b)))
    at [] a (r ∷ rs) b g = let z = both_zero 0 (length (r ∷ rs)) g in let y : suc (length rs) ≡ 0 = z.1 in absurd (omega (arith, y))
    at (e ∷ es) a rs b g = let z = both_zero (length (e ∷ es)) (length rs) g in let y : suc (length es) ≡ 0 = z.0 in absurd (omega (arith, y))

module _ (old mid : Slab Node) (root deep n c : ℕ) (s : Symbol) (word_at : Rank → Option (List Symbol)) (front : List Symbol) (here : reach old root front ≡ Some n) (k : Pruned old mid root deep word_at (front ++ s ∷ []) c true) where
  -- the node above is where it was
  parent : (edge mid n s ≡ Some c) × (reach mid root front ≡ Some n)
  parent =
      let l = last mid root k.index.tree front s c (k.here refl) in
      let same : l.parent ≡ n = let y = k.fewer front root l.parent l.before in cc in
      (ap (λ v. edge mid v s) (sym same) ∙ l.leads, l.before ∙ ap (λ v. Some v) same)

  pub leaf_below : IsLeaf mid n s c
  leaf_below = at (get mid n) refl parent.0
    where
      i : (node : Node) × ((get mid c ≡ Some node) × ((edges_of node ≡ []) × (node.ranks.items ≡ [])))
      i = idle_node (get mid c) (k.idle refl)

      apart : c ≡ n → ⊥
      apart e =
          let x : edge mid c s ≡ None = ap (λ o. edge_of o s) i.1.0 ∙ ap (target s) i.1.1.0 in
          let y : edge mid c s ≡ Some c = ap (λ v. edge mid v s) e ∙ parent.0 in
          cc

      at : (o : Option Node) → get mid n ≡ o → edge_of o s ≡ Some c → IsLeaf mid n s c
      at None q g = absurd (cc)
      at (Some node) q g = record {
        parent = node;
        stands = q;
        apart = k.index.tree.apart n node q;
        leads = g;
        leaf = i.0;
        made = i.1.0;
        bare = i.1.1.0;
        rankless = i.1.1.1;
        other = apart;
      }

  pub pruned_below : (new : Slab Node) (found : Bool) → Shrunk mid new n c s → found ≡ is_idle (get new n) → Pruned old new root deep word_at front n found
  pruned_below new found g b =
      let x = index_shrunk mid new root deep n c s word_at front g k.index parent.0 (k.here refl) in
      let stays = left_there mid new root n c s g k.index.tree parent.0 front n parent.1 (λ e. leaf_below.other (sym e)) in
      let p = pruned_here new root deep n word_at front found b stays x in
      record { fewer = λ w j m h. k.fewer w j m (reach_kept new mid n c s g w j m h); index = p.index; here = p.here; idle = p.idle }

pub prunes_leaf : (old mid new : Slab Node) (n c : ℕ) (s : Symbol) (w rest : List Symbol) (found : Bool) → w ≡ s ∷ rest → edge old n s ≡ Some c → Prunes old mid c rest true → (IsLeaf mid n s c → Shrunk mid new n c s) → found ≡ is_idle (get new n) → Prunes old new n w found
prunes_leaf old mid new n c s w rest found e leads p g b root deep word_at front here x =
    let k = p root deep word_at (front ++ s ∷ []) (way_below old root deep n c s word_at front (front ++ w) here leads x) (begins_below old root deep n c s word_at front w rest e x) in
    pruned_below old mid root deep n c s word_at front here k new found (g (leaf_below old mid root deep n c s word_at front here k)) b

-- ---- the whole of a word
from_root : (old new : Slab Node) (root deep : ℕ) (word_at : Rank → Option (List Symbol)) (w : List Symbol) (found : Bool) → Prunes old new root w found → IsIndex old root deep word_at w → IsIndex new root deep word_at []
from_root old new root deep word_at w found p x = at found (p root deep word_at [] (at_once old root x.tree.stands) x).index
  where
    at : (b : Bool) → IsIndex new root deep word_at (cond b [] []) → IsIndex new root deep word_at []
    at true i = i
    at false i = i

-- a word that was placed in part
pub restores_by : (old mid new : Slab Node) (root : ℕ) (w : List Symbol) (found : Bool) → KeepsIndex old mid root w → Prunes mid new root w found → Restores old new root w
restores_by old mid new root w found keeps p deep word_at l x = from_root mid new root deep word_at w found p (keeps deep word_at l (pending_from_none old root deep word_at w x))

-- a word whose rank was taken away
pub unplaces_by : (old mid new : Slab Node) (root : ℕ) (w : List Symbol) (r : Rank) (found : Bool) → ((n : ℕ) → reach old root w ≡ Some n → Unranks old mid n r) → Prunes mid new root w found → Unplaces old new root w r
unplaces_by old mid new root w r found takes p deep before after x had gone same =
    let k = x.held r w had in
    from_root mid new root deep after w found p (index_unranked old mid root deep k.0 r w before after (takes k.0 k.1) x k.1 had gone same)

-- ---- the code's words
pub empty_word : (w : List Symbol) → length w < 1 → w ≡ []
empty_word [] h = refl
empty_word (s ∷ w) h = absurd (omega arith)

take_whole : (w : List Symbol) → take (length w) w ≡ w
take_whole [] = refl
take_whole (s ∷ w) = ap (λ v. s ∷ v) (take_whole w)

pub word_split : (w : List Symbol) (s : Symbol) → 1 ≤ length w → s ≡ get_or w 0 s → w ≡ s ∷ take (length w - 1) (drop 1 w)
word_split [] s l h = absurd (omega arith)
word_split (t ∷ w) s l h =
    let e : suc (length w) - 1 ≡ length w = omega arith in
    ap (λ v. v ∷ w) (sym h) ∙ ap (λ v. s ∷ v) (sym (take_whole w) ∙ ap (λ n. take n w) (sym e))
