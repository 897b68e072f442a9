-- What a net's map and its tree say of each other.
use Rattle.std.proofs.Common.{◌≡◌, ◌⊎◌, ◌↔◌, inl, inr, ℕ, zero, suc, ◌+◌, ◌≤◌, Bool, true, false, cond, List, [], ◌∷◌, length, drop, Option, Some, None, refl, sym, ap, ◌∙◌, filter, map, arith}
use Rattle.std.specs.Prelude.{option_map, is_some, IsSome, All, Contains, Result, Ok, Err, IfOk}
use Rattle.std.specs.declared.alloc.AllocError.{AllocError}
use Rattle.std.specs.declared.cmp.Ordering.{Ordering}
use Rattle.std.specs.declared.cmp.Ordering.TheVariants.{Less, Equal, Greater}
use Rattle.std.specs.Ordering.{is_eq, ordering_reverse}
use Rattle.std.specs.List.{AllByRecursion}
use Rattle.std.specs.List.Sorted.{IsStrictlySortedBy}
use Rattle.std.specs.Map.{keys_of, lookup}
use Rattle.std.specs.BTreeMap.{BTreeMap, is_at, get, Updates, UpdatesBy}
use Rattle.std.proofs.lemmas.Map.Keys.{sorted_head, sorted_tail}
use Rattle.isa_terms.specs.Terms.{Tm}
use Rattle.isa_net.specs.declared.mode.Mode.{Mode}
use Rattle.isa_net.specs.declared.rank.Rank.{Rank}
use Rattle.isa_net.specs.declared.symbol.Symbol.{Symbol}
use Rattle.isa_net.specs.declared.tree.Tree.{Tree}
use Rattle.isa_net.specs.Words.{Along, word, agrees}
use Rattle.isa_net.specs.Count.{agreeing}
use Rattle.isa_net.specs.Nets.{Entry, rank_cmp, words, candidates, agreeing_prefixes, AreThere, MissedClash, MissedHaveNoMatch}
use Rattle.isa_net.specs.Inside.Index.{In, IsGiven}
use Rattle.isa_net.specs.Inside.Holding.{Holds, Extends, word_in, GivesAll, GivesFew}
use Rattle.isa_unify.proofs.MatchClashes.{clash_has_no_match}
use Rattle.isa_net.proofs.Clashing.{is_fixed, missed_clashes}
use Rattle.isa_net.proofs.Reached.{back}
use Rattle.isa_net.proofs.Ranked.{rank_total, rank_exact, rank_self, same_sorted, below_rest}

equal_from : (o : Ordering) → is_eq o ≡ true → o ≡ Equal
equal_from Less h = absurd (cc)
equal_from Equal h = refl
equal_from Greater h = absurd (cc)

at_other : (r q : Rank) → (q ≡ r → ⊥) → is_at (rank_cmp r) q ≡ false
at_other r q d = at (is_eq (rank_cmp r q)) refl
  where
    at : (b : Bool) → is_eq (rank_cmp r q) ≡ b → b ≡ false
    at true e = absurd (d (sym (rank_exact r q (equal_from (rank_cmp r q) e))))
    at false e = refl

module _ {V : Type 0} where
  -- ---- changes of the map
  pub extends_by : (old new : BTreeMap Rank (Entry V)) (r : Rank) (e : Entry V) → get rank_cmp old r ≡ None → Updates rank_cmp old new r (Some e) → Extends (word_in old.entries) (word_in new.entries) r (word e.key)
  extends_by old new r e free h = record {
    free = ap (λ (o : Option (Entry V)). option_map (λ e. word e.key) o) free;
    put = ap (λ (o : Option (Entry V)). option_map (λ e. word e.key) o) h.1;
    others = λ q d. ap (λ (o : Option (Entry V)). option_map (λ e. word e.key) o) (h.2 q (at_other r q d));
  }

  pub shrinks_by : (old new : BTreeMap Rank (Entry V)) (r : Rank) (e : Entry V) → Some e ≡ get rank_cmp old r → UpdatesBy rank_cmp (rank_cmp r) old new None → Extends (word_in new.entries) (word_in old.entries) r (word e.key)
  shrinks_by old new r e had h = record {
    free = ap (λ (o : Option (Entry V)). option_map (λ e. word e.key) o) h.1;
    put = ap (λ (o : Option (Entry V)). option_map (λ e. word e.key) o) (sym had);
    others = λ q d. ap (λ (o : Option (Entry V)). option_map (λ e. word e.key) o) (sym (h.2 q (at_other r q d)));
  }

  pub unchanged_holds : (tree : Tree) (old new : List (Rank × Entry V)) → new ≡ old → Holds tree (word_in old) → Holds tree (word_in new)
  unchanged_holds tree old new e x = back (λ v. Holds tree (word_in v)) _ _ e x

  pub empty_is : (m : List (Rank × Entry V)) → length m ≡ 0 → m ≡ []
  empty_is [] h = refl
  empty_is (e ∷ m) h = absurd (omega arith)

  pub none_in : (m : List (Rank × Entry V)) → m ≡ [] → (r : Rank) → word_in m r ≡ None
  none_in m e r = ap (λ (es : List (Rank × Entry V)). word_in es r) e

-- the map with one more word, whether or not the net's map has it
abbrev pub added : (Rank → Option (List Symbol)) → Rank → List Symbol → Rank → Option (List Symbol)
added before r w q = cond (is_eq (rank_cmp r q)) (Some w) (before q)

pub extends_added : (before : Rank → Option (List Symbol)) (r : Rank) (w : List Symbol) → before r ≡ None → Extends before (added before r w) r w
extends_added before r w free = record {
  free = free;
  put = ap (λ o. cond (is_eq o) (Some w) (before r)) (rank_self r);
  others = λ q d. ap (λ b. cond b (Some w) (before q)) (at_other r q d);
}

-- ---- candidates
module _ {V : Type 0} (f : Entry V → Bool) where
  abbrev fits : Rank × Entry V → Bool
  fits e = f e.1

  all_kept : (P : Rank → Type 0) (es : List (Rank × Entry V)) → AllByRecursion P (keys_of es) → AllByRecursion P (keys_of (filter (λ e. f e.1) es))
  all_kept P [] a = tt
  all_kept P (e ∷ es) a = at (f e.1) (all_kept P es a.1)
    where
      at : (b : Bool) → AllByRecursion P (keys_of (filter (λ e. f e.1) es)) → AllByRecursion P (keys_of (cond b (e ∷ filter (λ e. f e.1) es) (filter (λ e. f e.1) es)))
      at true i = (a.0, i)
      at false i = i

  pub sorted_kept : (es : List (Rank × Entry V)) → IsStrictlySortedBy rank_cmp (keys_of es) → IsStrictlySortedBy rank_cmp (keys_of (filter (λ e. f e.1) es))
  unfolding IsStrictlySortedBy
  sorted_kept [] s = tt
  sorted_kept (e ∷ es) s = at (f e.1) (sorted_kept es s.1)
    where
      at : (b : Bool) → IsStrictlySortedBy rank_cmp (keys_of (filter (λ e. f e.1) es)) → IsStrictlySortedBy rank_cmp (keys_of (cond b (e ∷ filter (λ e. f e.1) es) (filter (λ e. f e.1) es)))
      at true i = (all_kept (λ y. rank_cmp e.0 y ≡ Less) es s.0, i)
      at false i = i

  -- a rank with an entry that fits
  pub record Fits (es : List (Rank × Entry V)) (r : Rank) : Type 0 where
    pub entry : Entry V
    pub found : lookup (is_at (rank_cmp r)) es ≡ Some entry
    pub fit : f entry ≡ true

  behind_is : (e : Rank × Entry V) (es : List (Rank × Entry V)) (r : Rank) → rank_cmp r e.0 ≡ Greater → Fits es r → Fits (e ∷ es) r
  behind_is e es r g k = record { entry = k.entry; found = ap (λ o. cond (is_eq o) (Some e.1) (lookup (is_at (rank_cmp r)) es)) g ∙ k.found; fit = k.fit }

  in_keys : (r : Rank) (es : List (Rank × Entry V)) → In r (keys_of (filter (λ e. f e.1) es)) → In r (keys_of es)
  in_keys r [] i = i
  in_keys r (e ∷ es) i = at (f e.1) i (λ j. in_keys r es j)
    where
      at : (b : Bool) → In r (keys_of (cond b (e ∷ filter (λ e. f e.1) es) (filter (λ e. f e.1) es))) → (In r (keys_of (filter (λ e. f e.1) es)) → In r (keys_of es)) → (r ≡ e.0) ⊎ In r (keys_of es)
      at true (inl q) g = inl q
      at true (inr j) g = inr (g j)
      at false j g = inr (g j)

  pub kept_fits : (es : List (Rank × Entry V)) → IsStrictlySortedBy rank_cmp (keys_of es) → (r : Rank) → In r (keys_of (filter (λ e. f e.1) es)) → Fits es r
  kept_fits [] s r i = absurd i
  kept_fits (e ∷ es) s r i = at (f e.1) refl i (λ j. kept_fits es (sorted_tail rank_cmp e.0 (keys_of es) s) r j)
    where
      later : (In r (keys_of (filter (λ e. f e.1) es)) → Fits es r) → In r (keys_of (filter (λ e. f e.1) es)) → Fits (e ∷ es) r
      later g j =
          let l = below_rest e.0 (keys_of es) s r (in_keys r es j) in
          let a : rank_cmp r e.0 ≡ ordering_reverse (rank_cmp e.0 r) = rank_total.antisymm r e.0 in
          behind_is e es r (a ∙ ap ordering_reverse l) (g j)

      at : (b : Bool) → f e.1 ≡ b → In r (keys_of (cond b (e ∷ filter (λ e. f e.1) es) (filter (λ e. f e.1) es))) → (In r (keys_of (filter (λ e. f e.1) es)) → Fits es r) → Fits (e ∷ es) r
      at true q (inl h) g = record { entry = e.1; found = ap (λ o. cond (is_eq o) (Some e.1) (lookup (is_at (rank_cmp r)) es)) (ap (λ v. rank_cmp v e.0) h ∙ rank_self e.0); fit = q }
      at true q (inr j) g = later g j
      at false q j g = later g j

  pub fits_kept : (es : List (Rank × Entry V)) (r : Rank) (x : Entry V) → lookup (is_at (rank_cmp r)) es ≡ Some x → f x ≡ true → In r (keys_of (filter (λ e. f e.1) es))
  fits_kept [] r x h p = absurd (cc)
  fits_kept (e ∷ es) r x h p = at (is_eq (rank_cmp r e.0)) refl h (λ g. fits_kept es r x g p)
    where
      skip : (b : Bool) → In r (keys_of (filter (λ e. f e.1) es)) → In r (keys_of (cond b (e ∷ filter (λ e. f e.1) es) (filter (λ e. f e.1) es)))
      skip true i = inr i
      skip false i = i

      here : (b : Bool) → f e.1 ≡ b → f e.1 ≡ true → r ≡ e.0 → In r (keys_of (cond b (e ∷ filter (λ e. f e.1) es) (filter (λ e. f e.1) es)))
      here true q g z = inl z
      here false q g z = absurd (cc)

      at : (b : Bool) → is_eq (rank_cmp r e.0) ≡ b → cond b (Some e.1) (lookup (is_at (rank_cmp r)) es) ≡ Some x → (lookup (is_at (rank_cmp r)) es ≡ Some x → In r (keys_of (filter (λ e. f e.1) es))) → In r (keys_of (filter (λ e. f e.1) (e ∷ es)))
      at true q g i = let z : e.1 ≡ x = cc in here (f e.1) refl (ap f z ∙ p) (rank_exact r e.0 (equal_from (rank_cmp r e.0) q))
      at false q g i = skip (f e.1) (i g)

all_from : (P : Rank → Type 0) (xs : List Rank) → ((x : Rank) → In x xs → P x) → All P xs
all_from P [] f k d h = absurd (omega arith)
all_from P (x ∷ xs) f zero d h = f x (inl refl)
all_from P (x ∷ xs) f (suc k) d h = all_from P xs (λ y i. f y (inr i)) k d (omega arith)

-- what holds of each element holds of each behind the first
pub drop_all : (P : Rank → Type 0) (xs : List Rank) (n : ℕ) → All P (drop n xs) → All P (drop (suc n) xs)
drop_all P [] n a = λ k d h. absurd (omega arith)
drop_all P (x ∷ xs) zero a = λ k d h. a (suc k) d (omega arith)
drop_all P (x ∷ xs) (suc n) a = drop_all P xs n a

in_contains : (x : Rank) (xs : List Rank) → In x xs → Contains xs x
in_contains x [] h = absurd h
in_contains x (y ∷ ys) (inl e) = (0, omega arith, sym e)
in_contains x (y ∷ ys) (inr h) = let k = in_contains x ys h in (suc k.0, omega (arith, k.1), k.2)

module _ {V : Type 0} (mode : Mode) (t : Tm) (net : List (Rank × Entry V)) where
  agreeing_entry : (o : Option (Entry V)) (w : List Symbol) → option_map (λ e. word e.key) o ≡ Some w → (e : Entry V) × ((o ≡ Some e) × (word e.key ≡ w))
  agreeing_entry None w h = absurd (cc)
  agreeing_entry (Some e) w h = (e, (refl, cc))

  -- the ranks that a tree gives, in order, are the candidates
  pub are_candidates : (tree : Tree) (found rs : List Rank) → IsStrictlySortedBy rank_cmp (keys_of net) → Holds tree (word_in net) → GivesAll tree mode t found → IsStrictlySortedBy rank_cmp rs → ((r : Rank) → In r rs ↔ In r found) → rs ≡ candidates mode t net
  are_candidates tree found rs ordered holds gives s same =
      same_sorted rs (candidates mode t net) s (sorted_kept (λ e. agrees mode t (word e.key)) net ordered) (λ r. (to r, from r))
    where
      to : (r : Rank) → In r rs → In r (candidates mode t net)
      to r i =
          let g = (gives (word_in net) holds r).0 ((same r).0 i) in
          let e = agreeing_entry (lookup (is_at (rank_cmp r)) net) g.0 g.1.0 in
          fits_kept (λ e. agrees mode t (word e.key)) net r e.0 e.1.0 (ap (agrees mode t) e.1.1 ∙ g.1.1)

      from : (r : Rank) → In r (candidates mode t net) → In r rs
      from r i =
          let k = kept_fits (λ e. agrees mode t (word e.key)) net ordered r i in
          (same r).1 ((gives (word_in net) holds r).1 (word k.entry.key, (ap (λ (o : Option (Entry V)). option_map (λ e. word e.key) o) k.found, k.fit)))

  in_words : (r : Rank) (es : List (Rank × Entry V)) (e : Entry V) → lookup (is_at (rank_cmp r)) es ≡ Some e → In (word e.key) (map (λ (e : Rank × Entry V). word e.1.key) es)
  in_words r [] e h = absurd (cc)
  in_words r (x ∷ es) e h = at (is_eq (rank_cmp r x.0)) h (λ g. in_words r es e g)
    where
      at : (b : Bool) → cond b (Some x.1) (lookup (is_at (rank_cmp r)) es) ≡ Some e → (lookup (is_at (rank_cmp r)) es ≡ Some e → In (word e.key) (map (λ (e : Rank × Entry V). word e.1.key) es)) → (word e.key ≡ word x.1.key) ⊎ In (word e.key) (map (λ (e : Rank × Entry V). word e.1.key) es)
      at true g i = let z : x.1 ≡ e = cc in inl (ap (λ (v : Entry V). word v.key) (sym z))
      at false g i = inr (i g)

  all_words : (r : Rank) (w : List Symbol) → word_in net r ≡ Some w → In w (words net)
  all_words r w h = let e = agreeing_entry (lookup (is_at (rank_cmp r)) net) w h in back (λ v. In v (words net)) _ _ (sym e.1.1) (in_words r net e.0 e.1.0)

  -- the nodes that were visited are at most the prefixes that agree
  pub few_steps : (tree : Tree) (visited : ℕ) → Holds tree (word_in net) → GivesFew tree mode t visited → visited ≤ agreeing_prefixes mode t net
  few_steps tree visited holds gives = gives (word_in net) (words net) holds all_words

  pub all_there : (rs : List Rank) → IsStrictlySortedBy rank_cmp (keys_of net) → rs ≡ candidates mode t net → AreThere net rs
  all_there rs ordered e = all_from (λ r. IsSome (lookup (is_at (rank_cmp r)) net)) rs (λ r i. ap is_some (kept_fits (λ e. agrees mode t (word e.key)) net ordered r (back (λ v. In r v) _ _ (sym e) i)).found)

  -- a key that isn't under the candidates clashes with the term
  pub missed_clash : (rs : List Rank) → rs ≡ candidates mode t net → MissedClash (is_fixed mode) t net rs
  missed_clash rs e rank entry h n = missed_clashes mode entry.key t (at (agrees mode t (word entry.key)) refl)
    where
      at : (b : Bool) → agrees mode t (word entry.key) ≡ b → b ≡ false
      at false q = refl
      at true q = absurd (n (in_contains rank rs (back (λ v. In rank v) _ _ e (fits_kept (λ e. agrees mode t (word e.key)) net rank entry h q))))

  -- a pattern among them has no match
  pub missed_unmatched : (r : Result (List Rank) AllocError) → IfOk r (MissedClash true t net) → IfOk r (MissedHaveNoMatch t net)
  missed_unmatched (Ok rs) h = λ rank e f n a s m. clash_has_no_match e.key t a (h rank e f n) s m
  missed_unmatched (Err x) h = tt
