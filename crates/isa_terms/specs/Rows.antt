-- Worked examples.
use Rattle.std.specs.Prelude.{◌≡◌, ℕ, List, codes, refl}
use Rattle.isa_terms.specs.Types.{Ty, TyCon, NoTys}
use Rattle.isa_terms.specs.Typing.{function_of}
use Rattle.isa_terms.specs.Terms.{Const, Free, Bound, Abs, App}
use Rattle.isa_terms.specs.Norm.{norm}

abbrev i : Ty
i = TyCon (codes "i") NoTys

abbrev x : List ℕ
x = codes "x"

abbrev y : List ℕ
y = codes "y"

-- `(%x. %y. x) y` keeps the free y apart from the binder of that name
pub no_capture : norm (App (Abs x i (Abs y i (Bound 1))) (Free y i)) ≡ Abs y i (Free y i)
no_capture = refl

-- `%x. f x` is f
pub eta_short : (f : List ℕ) → norm (Abs x i (App (Free f (function_of i i)) (Bound 0))) ≡ Free f (function_of i i)
eta_short f = refl

-- `%x. g x x` stays
pub eta_not : (g : Ty) → norm (Abs x i (App (App (Free y g) (Bound 0)) (Bound 0))) ≡ Abs x i (App (App (Free y g) (Bound 0)) (Bound 0))
eta_not g = refl

-- `(%f. f (f c)) (%x. g x x)` goes on where the argument became a head
pub twice : (c : Ty) → norm (App (Abs y (function_of i i) (App (Bound 0) (App (Bound 0) (Free x i)))) (Abs x i (App (App (Const y c) (Bound 0)) (Bound 0)))) ≡ App (App (Const y c) (App (App (Const y c) (Free x i)) (Free x i))) (App (App (Const y c) (Free x i)) (Free x i))
twice c = refl
