-- Terms that are told apart by what their nodes keep.
use Rattle.std.proofs.Common.{◌≡◌, ◌≢◌, ◌+◌, ◌-◌, ◌^◌, max, min, Bool, true, false, refl, sym, ap, ◌∙◌}
use Rattle.isa_terms.specs.Terms.{Tm, Const, Free, Unknown, Bound, Abs, App, bare, tm_size}
use Rattle.isa_terms.specs.Equal.{tm_eq}
use Rattle.isa_terms.specs.Order.{counted_size}
use Rattle.isa_terms.specs.Facts.{loose_end}
use Rattle.isa_terms.proofs.Bare.{tm_decides}

size_bare : (t : Tm) → tm_size (bare t) ≡ tm_size t
size_bare (Const x T) = refl
size_bare (Free x T) = refl
size_bare (Unknown x i T) = refl
size_bare (Bound i) = refl
size_bare (Abs x T b) = λ i. size_bare b i + 1
size_bare (App f a) = λ i. size_bare f i + size_bare a i

loose_end_bare : (t : Tm) → loose_end (bare t) ≡ loose_end t
loose_end_bare (Const x T) = refl
loose_end_bare (Free x T) = refl
loose_end_bare (Unknown x i T) = refl
loose_end_bare (Bound i) = refl
loose_end_bare (Abs x T b) = λ i. loose_end_bare b i - 1
loose_end_bare (App f a) = λ i. max (loose_end_bare f i) (loose_end_bare a i)

pub sizes_apart : (t u : Tm) → counted_size t ≢ counted_size u → bare t ≡ bare u → ⊥
sizes_apart t u h e = h (ap (λ n. min n (2 ^ 64 - 1)) (sym (size_bare t) ∙ ap tm_size e ∙ size_bare u))

pub ends_apart : (t u : Tm) → loose_end t ≢ loose_end u → bare t ≡ bare u → ⊥
ends_apart t u h e = h (sym (loose_end_bare t) ∙ ap loose_end e ∙ loose_end_bare u)

untrue : (b : Bool) → (b ≡ true → ⊥) → b ≡ false
untrue true h = absurd (h refl)
untrue false h = refl

pub sizes_differ : (t u : Tm) → counted_size t ≢ counted_size u → tm_eq t u ≡ false
sizes_differ t u h = untrue (tm_eq t u) (λ e. sizes_apart t u h ((tm_decides t u).0 e))

pub ends_differ : (t u : Tm) → loose_end t ≢ loose_end u → tm_eq t u ≡ false
ends_differ t u h = untrue (tm_eq t u) (λ e. ends_apart t u h ((tm_decides t u).0 e))
