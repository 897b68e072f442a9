-- Terms without the types and the names of binders, and their conversion.
use Rattle.std.specs.Prelude.{◌≡◌, ℕ, zero, suc}
use Rattle.isa_terms.specs.Terms.{Tm}

pub data Erased : Type 0 where
  Atom : Tm → Erased
  Var : ℕ → Erased
  Lam : Erased → Erased
  Ap : Erased → Erased → Erased

-- a renaming under a binder
abbrev pub up : (ℕ → ℕ) → ℕ → ℕ
up r zero = zero
up r (suc n) = suc (r n)

abbrev pub ren : (ℕ → ℕ) → Erased → Erased
ren r (Atom c) = Atom c
ren r (Var n) = Var (r n)
ren r (Lam b) = Lam (ren (up r) b)
ren r (Ap f a) = Ap (ren r f) (ren r a)

abbrev pub next : ℕ → ℕ
next n = suc n

-- a substitution under a binder
abbrev pub lift : (ℕ → Erased) → ℕ → Erased
lift s zero = Var zero
lift s (suc n) = ren next (s n)

abbrev pub sub : (ℕ → Erased) → Erased → Erased
sub s (Atom c) = Atom c
sub s (Var n) = s n
sub s (Lam b) = Lam (sub (lift s) b)
sub s (Ap f a) = Ap (sub s f) (sub s a)

-- a in the place of the innermost variable
abbrev pub first : Erased → ℕ → Erased
first a zero = a
first a (suc n) = Var n

-- one step or none at each place at once
pub data Par : Erased → Erased → Type 0 where
  p_atom : (c : Tm) → Par (Atom c) (Atom c)
  p_var : (n : ℕ) → Par (Var n) (Var n)
  p_lam : {b c : Erased} → Par b c → Par (Lam b) (Lam c)
  p_ap : {f g a b : Erased} → Par f g → Par a b → Par (Ap f a) (Ap g b)
  p_beta : {b c a d u : Erased} → Par b c → Par a d → u ≡ sub (first d) c → Par (Ap (Lam b) a) u
  p_eta : {t f g : Erased} → t ≡ ren next f → Par f g → Par (Lam (Ap t (Var 0))) g

-- equality by beta and eta at any place
pub data Linked : Erased → Erased → Type 0 where
  by_step : {t u : Erased} → Par t u → Linked t u
  back : {t u : Erased} → Linked t u → Linked u t
  through : {t u v : Erased} → Linked t u → Linked u v → Linked t v

-- nothing can be contracted
abbrev pub IsStuck : Erased → Type 0
IsStuck t = (u : Erased) → Par t u → u ≡ t
