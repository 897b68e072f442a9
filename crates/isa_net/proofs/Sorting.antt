-- Ranks that are sorted, each kept once.
use Rattle.std.proofs.Common.{◌≡◌, ◌⊎◌, ◌↔◌, inl, inr, ℕ, zero, suc, ◌+◌, ◌<◌, Bool, true, List, [], ◌∷◌, length, refl, sym, ap, ◌∙◌, arith}
use Rattle.std.specs.Prelude.{slice_index_or}
use Rattle.std.specs.List.{Contains, dedup}
use Rattle.std.specs.List.Sorted.{IsPermutation, IsSorted, IsStrictlySortedBy}
use Rattle.std.specs.List.Retain.{IsFiltered, DiffersFromLast}
use Rattle.std.specs.Cmp.{IsEquivalence}
use Rattle.std.specs.Ordering.{is_eq, eq_by_cmp}
use Rattle.std.specs.declared.cmp.Ordering.{Ordering}
use Rattle.std.specs.declared.cmp.Ordering.TheVariants.{Less, Equal, Greater}
use Rattle.std.proofs.lemmas.List.Filters.{dedup_is}
use Rattle.std.proofs.lemmas.List.Kept.{IsStrictlySortedBy-dedup, Contains-dedup, Contains-from_dedup}
use Rattle.std.proofs.lemmas.List.Sorted.{Contains-permutation, IsPermutation-sym}
use Rattle.isa_net.specs.declared.rank.Rank.{Rank}
use Rattle.isa_net.specs.Nets.{rank_cmp}
use Rattle.isa_net.specs.Inside.Index.{In}
use Rattle.isa_net.proofs.Reached.{back}
use Rattle.isa_net.proofs.Ranked.{rank_total, rank_exact}

contains_in : (xs : List Rank) (x : Rank) → Contains xs x → In x xs
contains_in [] x c = absurd (omega (arith, c.1))
contains_in (y ∷ ys) x c = at c.0 c.1 c.2 (λ d. contains_in ys x d)
  where
    at : (k : ℕ) → k < suc (length ys) → slice_index_or (y ∷ ys) k x ≡ x → (Contains ys x → In x ys) → (x ≡ y) ⊎ In x ys
    at zero l e f = inl (sym e)
    at (suc k) l e f = inr (f (k, omega arith, e))

in_contains : (xs : List Rank) (x : Rank) → In x xs → Contains xs x
in_contains [] x i = absurd i
in_contains (y ∷ ys) x (inl e) = (0, omega arith, sym e)
in_contains (y ∷ ys) x (inr i) = let c = in_contains ys x i in (suc c.0, omega (arith, c.1), c.2)

is_equal : (o : Ordering) → is_eq o ≡ true → o ≡ Equal
is_equal Less h = absurd (cc)
is_equal Equal h = refl
is_equal Greater h = absurd (cc)

module _ (E : Rank → Rank → Bool) (e : IsEquivalence E) (ties : (x y : Rank) → E x y ≡ eq_by_cmp rank_cmp x y) (old mid new : List Rank) (moved : IsPermutation old mid) (sorted : IsSorted rank_cmp mid) (once : IsFiltered (DiffersFromLast E) [] mid new) where
  is : new ≡ dedup E mid
  is = dedup_is E mid new once

  exact : (x y : Rank) → E x y ≡ true → x ≡ y
  exact x y h = rank_exact x y (is_equal (rank_cmp x y) (sym (ties x y) ∙ h))

  pub rising_once : IsStrictlySortedBy rank_cmp new
  rising_once = back (λ v. IsStrictlySortedBy rank_cmp v) _ _ is (IsStrictlySortedBy-dedup rank_total ties mid sorted)

  pub same_once : (r : Rank) → In r new ↔ In r old
  same_once r = (
    λ i. contains_in old r (Contains-permutation mid old r (IsPermutation-sym old mid moved) (Contains-from_dedup E mid r (in_contains (dedup E mid) r (back (λ v. In r v) _ _ (sym is) i)))),
    λ i. back (λ v. In r v) _ _ is (contains_in (dedup E mid) r (Contains-dedup e exact mid r (Contains-permutation old mid r moved (in_contains old r i)))),
  )
