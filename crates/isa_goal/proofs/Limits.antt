-- A small state has few unknowns and few subgoals.
use Rattle.std.proofs.Common.{◌≡◌, ℕ, ◌+◌, ◌-◌, ◌^◌, ◌<◌, ◌≤◌, min, arith, List, [], ◌∷◌, ◌++◌, length, Bool, true, false, cond, nat_lt, ◌||◌, length-append, ap}
use Rattle.isa_goal.specs.Measures.{total_size}
use Rattle.std.proofs.lemmas.Bool.Decides.{nat_tests}
use Rattle.isa_terms.specs.Terms.{Tm, Const, Free, Unknown, Bound, Abs, App, tm_size}
use Rattle.isa_terms.specs.Equal.{tm_eq}
use Rattle.isa_terms.specs.Unknowns.{unknown_places, all_unknown_places, unknowns_of}
use Rattle.isa_goal.specs.Goals.{Goals}
use Rattle.isa_goal.specs.Names.{terms_of}
use Rattle.isa_goal.specs.Resolving.{is_large}
use Rattle.isa_goal.proofs.Noting.{all_noted_is, noted_length}

places_bound : (t : Tm) → length (unknown_places t) ≤ tm_size t
places_bound (Const x T) = omega arith
places_bound (Free x T) = omega arith
places_bound (Unknown x i T) = omega arith
places_bound (Bound i) = omega arith
places_bound (Abs x T b) = omega (arith, places_bound b)
places_bound (App f a) = omega (arith, length-append (unknown_places f) (unknown_places a), places_bound f, places_bound a)

all_bound : (ts : List Tm) → length (all_unknown_places ts) ≤ total_size ts
all_bound [] = omega arith
all_bound (t ∷ ts) = omega (arith, length-append (unknown_places t) (all_unknown_places ts), places_bound t, all_bound ts)

unknowns_bound : (ts : List Tm) → length (unknowns_of ts) ≤ total_size ts
unknowns_bound ts = omega (arith, ap length (all_noted_is [] (all_unknown_places ts)), noted_length tm_eq [] (all_unknown_places ts), all_bound ts)

total_more : (ts : List Tm) (g : Tm) → total_size (ts ++ g ∷ []) ≡ total_size ts + tm_size g
total_more [] g = omega arith
total_more (t ∷ ts) g = omega (arith, total_more ts g)

size_positive : (t : Tm) → 0 < tm_size t
size_positive (Const x T) = omega arith
size_positive (Free x T) = omega arith
size_positive (Unknown x i T) = omega arith
size_positive (Bound i) = omega arith
size_positive (Abs x T b) = omega (arith, size_positive b)
size_positive (App f a) = omega (arith, size_positive f, size_positive a)

count_bound : (ts : List Tm) → length ts ≤ total_size ts
count_bound [] = omega arith
count_bound (t ∷ ts) = omega (arith, size_positive t, count_bound ts)

not_less : (m n : ℕ) → n ≤ m → nat_lt m n ≡ false
not_less m n h = grind (arith, nat_tests)

pub is_small : (s : Goals) → total_size s.subgoals + tm_size s.goal ≤ 1000000 → is_large s ≡ false
is_small s h =
    let few : length s.subgoals ≤ 1000000 = omega (arith, count_bound s.subgoals, h) in
    let known : length (unknowns_of (terms_of s)) ≤ 1000000 = omega (arith, unknowns_bound (terms_of s), total_more s.subgoals s.goal, h) in
    λ i. not_less 1000000 (length s.subgoals) few i || not_less 1000000 (length (unknowns_of (terms_of s))) known i

pub small_total : (s : Goals) (m n total : ℕ) → m ≡ min (total_size s.subgoals) (2 ^ 64 - 1) → n ≡ min (tm_size s.goal) (2 ^ 64 - 1) → total ≡ min (m + n) (2 ^ 64 - 1) → total ≤ 1000000 → is_large s ≡ false
small_total s m n total a b c h = is_small s (omega (arith, a, b, c, h))
