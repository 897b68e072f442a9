-- The order of ranks, and lists of ranks in order.
use Rattle.std.proofs.Common.{◌≡◌, ◌⊎◌, ◌↔◌, inl, inr, ℕ, Bool, true, false, cond, List, [], ◌∷◌, Option, Some, None, refl, sym, ap, ◌∙◌, filter}
use Rattle.std.specs.declared.cmp.Ordering.{Ordering}
use Rattle.std.specs.declared.cmp.Ordering.TheVariants.{Less, Equal, Greater}
use Rattle.std.specs.Ordering.{is_eq, is_ne, nat_cmp, ordering_then, ordering_reverse}
use Rattle.std.specs.Cmp.{IsTotalOrder}
use Rattle.std.specs.List.{AllByRecursion}
use Rattle.std.specs.List.Sorted.{IsStrictlySortedBy}
use Rattle.std.specs.Map.{keys_of, lookup}
use Rattle.std.specs.BTreeMap.{is_at}
use Rattle.std.proofs.lemmas.Map.Keys.{sorted_head, sorted_tail}
use Rattle.std.proofs.lemmas.Map.Lookups.{exact_unsigned}
use Rattle.isa_net.specs.declared.rank.Rank.{Rank}
use Rattle.isa_net.specs.contracts.rank.RankOrd.TheImpl.Laws.{total-law}
use Rattle.isa_net.specs.Nets.{rank_cmp}
use Rattle.isa_net.specs.Inside.Index.{In}
use Rattle.isa_net.proofs.Reached.{back}

-- ---- the order
pub rank_total : IsTotalOrder rank_cmp
rank_total = total-law

both_equal : (a b : Ordering) → ordering_then a b ≡ Equal → (a ≡ Equal) × (b ≡ Equal)
both_equal Less b h = absurd (cc)
both_equal Equal b h = (refl, h)
both_equal Greater b h = absurd (cc)

pub rank_exact : (q r : Rank) → rank_cmp q r ≡ Equal → q ≡ r
rank_exact q r h =
    let a = both_equal (nat_cmp q.weight r.weight) _ h in
    let b = both_equal (nat_cmp q.subgoals r.subgoals) (nat_cmp r.later q.later) a.1 in
    let x = exact_unsigned q.weight r.weight a.0 in
    let y = exact_unsigned q.subgoals r.subgoals b.0 in
    let z = exact_unsigned r.later q.later b.1 in
    λ i. record { weight = x i; subgoals = y i; later = (sym z) i }

equal_self : (o : Ordering) → o ≡ ordering_reverse o → o ≡ Equal
equal_self Less h = absurd (cc)
equal_self Equal h = refl
equal_self Greater h = absurd (cc)

pub rank_self : (r : Rank) → rank_cmp r r ≡ Equal
rank_self r = equal_self (rank_cmp r r) (rank_total.antisymm r r)

-- ---- members of a filter
pub in_filter : {A : Type 0} (p : A → Bool) (x : A) (xs : List A) → In x xs → p x ≡ true → In x (filter p xs)
in_filter p x [] i h = absurd i
in_filter {A} p x (y ∷ ys) i h = at (p y) refl i (λ j. in_filter p x ys j h)
  where
    at : (b : Bool) → p y ≡ b → (x ≡ y) ⊎ In x ys → (In x ys → In x (filter p ys)) → In x (cond b (y ∷ filter p ys) (filter p ys))
    at true q (inl e) f = inl e
    at true q (inr j) f = inr (f j)
    at false q (inl e) f = let g : p y ≡ true = ap p (sym e) ∙ h in absurd (cc)
    at false q (inr j) f = f j

pub from_filter : {A : Type 0} (p : A → Bool) (x : A) (xs : List A) → In x (filter p xs) → In x xs × (p x ≡ true)
from_filter p x [] i = absurd i
from_filter {A} p x (y ∷ ys) i = at (p y) refl i (λ j. from_filter p x ys j)
  where
    at : (b : Bool) → p y ≡ b → In x (cond b (y ∷ filter p ys) (filter p ys)) → (In x (filter p ys) → In x ys × (p x ≡ true)) → ((x ≡ y) ⊎ In x ys) × (p x ≡ true)
    at true q (inl e) f = (inl e, ap p e ∙ q)
    at true q (inr j) f = let k = f j in (inr k.0, k.1)
    at false q j f = let k = f j in (inr k.0, k.1)

not_equal : (o : Ordering) → (o ≡ Equal → ⊥) → is_ne o ≡ true
not_equal Less d = refl
not_equal Equal d = absurd (d refl)
not_equal Greater d = refl

-- the ranks without one
pub without_rank : (r : Rank) (old new : List Rank) → new ≡ filter (λ q. is_ne (rank_cmp q r)) old → (q : Rank) → In q new ↔ (In q old × (q ≡ r → ⊥))
without_rank r old new e q = (
  λ i. (let k = from_filter (λ q. is_ne (rank_cmp q r)) q old (back (λ v. In q v) _ _ (sym e) i) in (k.0, λ z. differ z k.1)),
  λ g. back (λ v. In q v) _ _ e (in_filter (λ q. is_ne (rank_cmp q r)) q old g.0 (not_equal (rank_cmp q r) (λ h. g.1 (rank_exact q r h)))),
)
  where
    differ : q ≡ r → is_ne (rank_cmp q r) ≡ true → ⊥
    differ z h = let x : rank_cmp q r ≡ Equal = ap (λ v. rank_cmp v r) z ∙ rank_self r in let y : is_ne (rank_cmp q r) ≡ false = ap is_ne x in cc

-- ---- lists in order
above : (P : Rank → Type 0) (x : Rank) (xs : List Rank) → AllByRecursion P xs → In x xs → P x
above P x [] a i = absurd i
above P x (y ∷ ys) a (inl e) = back P _ _ e a.0
above P x (y ∷ ys) a (inr i) = above P x ys a.1 i

module _ (x : Rank) (xs : List Rank) (s : IsStrictlySortedBy rank_cmp (x ∷ xs)) where
  pub below_rest : (y : Rank) → In y xs → rank_cmp x y ≡ Less
  below_rest y i = above (λ y. rank_cmp x y ≡ Less) y xs (sorted_head rank_cmp x xs s) i

  pub not_again : In x xs → ⊥
  not_again i = let a = below_rest x i in let b = rank_self x in cc

-- two lists in order with the same members are one
pub same_sorted : (xs ys : List Rank) → IsStrictlySortedBy rank_cmp xs → IsStrictlySortedBy rank_cmp ys → ((r : Rank) → In r xs ↔ In r ys) → xs ≡ ys
same_sorted [] [] s t h = refl
same_sorted [] (y ∷ ys) s t h = absurd ((h y).1 (inl refl))
same_sorted (x ∷ xs) [] s t h = absurd ((h x).0 (inl refl))
same_sorted (x ∷ xs) (y ∷ ys) s t h = ap (λ v. v ∷ xs) first ∙ ap (λ v. y ∷ v) (same_sorted xs ys (sorted_tail rank_cmp x xs s) (sorted_tail rank_cmp y ys t) (λ r. (to r, from r)))
  where
    heads : (x ≡ y) ⊎ In x ys → (y ≡ x) ⊎ In y xs → x ≡ y
    heads (inl e) g = e
    heads (inr i) (inl e) = sym e
    heads (inr i) (inr j) =
        let a = below_rest y ys t x i in
        let b = below_rest x xs s y j in
        let c : rank_cmp x y ≡ ordering_reverse (rank_cmp y x) = rank_total.antisymm x y in
        let d : ordering_reverse (rank_cmp y x) ≡ Greater = ap ordering_reverse a in
        absurd (cc)

    first : x ≡ y
    first = heads ((h x).0 (inl refl)) ((h y).1 (inl refl))

    to : (r : Rank) → In r xs → In r ys
    to r i = at ((h r).0 (inr i))
      where
        at : (r ≡ y) ⊎ In r ys → In r ys
        at (inl e) = absurd (not_again x xs s (back (λ v. In v xs) _ _ (first ∙ sym e) i))
        at (inr j) = j

    from : (r : Rank) → In r ys → In r xs
    from r i = at ((h r).1 (inr i))
      where
        at : (r ≡ x) ⊎ In r xs → In r xs
        at (inl e) = absurd (not_again y ys t (back (λ v. In v ys) _ _ (sym first ∙ sym e) i))
        at (inr j) = j
