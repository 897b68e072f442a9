-- A term is its head applied to its arguments.
use Rattle.std.proofs.Common.{◌≡◌, List, [], ◌∷◌, ◌++◌, refl, ap, ◌∙◌}
use Rattle.isa_terms.specs.Terms.{Tm, Const, Free, Unknown, Bound, Abs, App}
use Rattle.isa_terms.specs.Order.{head_of}
use Rattle.isa_terms.specs.Spines.{args_of, applied_to}

pub applied_to_last : (h : Tm) (us : List Tm) (a : Tm) → applied_to h (us ++ a ∷ []) ≡ App (applied_to h us) a
applied_to_last h [] a = refl
applied_to_last h (u ∷ us) a = applied_to_last (App h u) us a

pub head_applied : (t : Tm) → applied_to (head_of t) (args_of t) ≡ t
head_applied (Const x T) = refl
head_applied (Free x T) = refl
head_applied (Unknown x i T) = refl
head_applied (Bound i) = refl
head_applied (Abs x T b) = refl
head_applied (App f a) = applied_to_last (head_of f) (args_of f) a ∙ ap (λ g. App g a) (head_applied f)

pub spine_back : (t h : Tm) (us : List Tm) → h ≡ head_of t → us ≡ args_of t → applied_to h us ≡ t
spine_back t h us p q = (λ i. applied_to (p i) (q i)) ∙ head_applied t
