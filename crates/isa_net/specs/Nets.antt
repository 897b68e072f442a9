-- What a net means, and what its calls answer.
use Rattle.std.specs.Prelude.{◌≡◌, ℕ, ◌+◌, ◌≤◌, Bool, List, [], ◌∷◌, Option, Some, None, Result, Ok, Err, option_map, map, filter, All, Contains, IsSome, refl}
use Rattle.std.specs.declared.cmp.Ordering.{Ordering}
use Rattle.std.specs.Ordering.{nat_cmp, on, flip_args, then_cmp}
use Rattle.std.specs.Map.{keys_of, lookup, remove_entry}
use Rattle.std.specs.BTreeMap.{is_at, insert_entry}
use Rattle.std.specs.Coded.{Coded, code_by, coded×, coded_ℕ}
use Rattle.isa_terms.specs.Terms.{Tm}
use Rattle.isa_terms.specs.Codes.{coded_tm}
use Rattle.isa_terms.specs.Instance.{Instance}
use Rattle.isa_unify.specs.Matching.{IsAsked, IsMatch}
use Rattle.isa_unify.specs.Clashes.{Clash}
use Rattle.isa_net.specs.declared.mode.Mode.{Mode}
use Rattle.isa_net.specs.declared.rank.Rank.{Rank}
use Rattle.isa_net.specs.declared.symbol.Symbol.{Symbol}
use Rattle.isa_net.specs.Words.{Along, word, agrees}
use Rattle.isa_net.specs.Count.{agreeing}

-- lower weight first, then fewer subgoals, then the later one
abbrev pub rank_cmp : Rank → Rank → Ordering
rank_cmp = then_cmp (on (λ r. r.weight) nat_cmp) (then_cmp (on (λ r. r.subgoals) nat_cmp) (flip_args (on (λ r. r.later) nat_cmp)))

-- a net is a map from ranks to these, seen as the list of its entries by rising rank
pub record Entry (V : Type 0) : Type 0 where
  pub key : Tm
  pub value : V

-- a net is stored as the tuple of its parts
abbrev pub entry_code : {V : Type 0} → Coded V → Coded (Entry V)
entry_code {V} code = code_by (Tm × V) (coded× coded_tm code) (λ e. (e.key, e.value)) (λ p. record { key = p.0; value = p.1 }) (λ _. refl)

abbrev pub rank_code : Coded Rank
rank_code = code_by (ℕ × (ℕ × ℕ)) (coded× coded_ℕ (coded× coded_ℕ coded_ℕ)) (λ r. (r.weight, (r.subgoals, r.later))) (λ p. record { weight = p.0; subgoals = p.1.0; later = p.1.1 }) (λ _. refl)

abbrev pub RankList : Type 0
RankList = List Rank

abbrev pub Contents : Type 0 → Type 0
Contents V = List (Rank × Entry V)

-- a count went up, by so much at most
abbrev pub AddsAtMost : ℕ → ℕ → ℕ → Type 0
AddsAtMost most before after = (before ≤ after) × (after ≤ before + most)

module _ {V : Type 0} where
  -- the entry at the rank
  abbrev pub entry_at : List (Rank × Entry V) → Rank → Option (Entry V)
  entry_at net rank = lookup (is_at (rank_cmp rank)) net

  -- the value at the rank
  abbrev pub value_at : List (Rank × Entry V) → Rank → Option V
  value_at net rank = option_map (λ e. e.value) (entry_at net rank)

  -- each of the ranks stands in the net
  abbrev pub AreThere : List (Rank × Entry V) → List Rank → Type 0
  AreThere net ranks = All (λ rank. IsSome (entry_at net rank)) ranks

  -- the words of the keys
  abbrev pub words : List (Rank × Entry V) → List (List Symbol)
  words net = map (λ e. word e.1.key) net

  -- by rising rank, the ranks whose key's word agrees with the term
  abbrev pub candidates : Mode → Tm → List (Rank × Entry V) → List Rank
  candidates mode t net = keys_of (filter (λ e. agrees mode t (word e.1.key)) net)

  -- how many distinct prefixes of the keys' words agree with the term, the empty one included
  abbrev pub agreeing_prefixes : Mode → Tm → List (Rank × Entry V) → ℕ
  agreeing_prefixes mode t net = agreeing mode (Along t ∷ []) (words net)

  -- the key with its value stands at the rank, or the value comes back and the net is as it was
  abbrev pub Inserts : List (Rank × Entry V) → Result (Unit {0}) V → List (Rank × Entry V) → Tm → Rank → V → Type 0
  Inserts old (Ok _) new key rank value = new ≡ insert_entry rank_cmp old rank (record { key = key; value = value })
  Inserts old (Err back) new key rank value = (back ≡ value) × (new ≡ old)

  -- without the entry at the rank
  abbrev pub removed : List (Rank × Entry V) → Rank → List (Rank × Entry V)
  removed net rank = remove_entry (is_at (rank_cmp rank)) net

  -- the value at the first of the ranks, and the ranks that are still to come
  abbrev pub next_of : List Rank → List (Rank × Entry V) → Option V × List Rank
  next_of [] net = (None, [])
  next_of (rank ∷ ranks) net = (value_at net rank, ranks)

  -- each key that isn't under the ranks clashes with the term; `fixed` says whether the term's unknowns count as constants
  abbrev pub MissedClash : Bool → Tm → List (Rank × Entry V) → List Rank → Type 0
  MissedClash fixed t net ranks = (rank : Rank) (e : Entry V) → entry_at net rank ≡ Some e → (Contains ranks rank → ⊥) → Clash fixed e.key t

  -- each pattern that is a key, and not under the ranks, has no match with the term
  abbrev pub MissedHaveNoMatch : Tm → List (Rank × Entry V) → List Rank → Type 0
  MissedHaveNoMatch t net ranks = (rank : Rank) (e : Entry V) → entry_at net rank ≡ Some e → (Contains ranks rank → ⊥) → IsAsked e.key t → (s : Instance) → IsMatch e.key t s → ⊥
