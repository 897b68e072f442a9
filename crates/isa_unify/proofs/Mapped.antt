-- What the code takes from elsewhere, in the words of this crate.
use Rattle.std.proofs.Common.{◌≡◌, ℕ, zero, suc, List, [], ◌∷◌, ◌++◌, option_map, refl, ap}
use Rattle.std.specs.List.{slice_get}
use Rattle.isa_terms.specs.Terms.{Tm, Const, Free, Unknown, Bound, Abs, App}
use Rattle.isa_terms.specs.Order as order
use Rattle.isa_terms.specs.Spines as terms
use Rattle.isa_unify.specs.Spines.{head_of, args_of}
use Rattle.isa_unify.specs.BinderLists.{binder_of, binders_in}
use Rattle.isa_unify.specs.declared.equation.Variable.{Variable}

pub same_head : (t : Tm) → order.head_of t ≡ head_of t
same_head (Const x T) = refl
same_head (Free x T) = refl
same_head (Unknown x i T) = refl
same_head (Bound i) = refl
same_head (Abs x T b) = refl
same_head (App f a) = same_head f

pub same_args : (t : Tm) → terms.args_of t ≡ args_of t
same_args (Const x T) = refl
same_args (Free x T) = refl
same_args (Unknown x i T) = refl
same_args (Bound i) = refl
same_args (Abs x T b) = refl
same_args (App f a) = ap (λ ts. ts ++ a ∷ []) (same_args f)

pub get_mapped : (vs : List Variable) (n : ℕ) → slice_get (binders_in vs) n ≡ option_map binder_of (slice_get vs n)
get_mapped [] zero = refl
get_mapped [] (suc n) = refl
get_mapped (v ∷ vs) zero = refl
get_mapped (v ∷ vs) (suc n) = get_mapped vs n
