-- One step of an application.
use Rattle.std.proofs.Common.{◌≡◌, ◌≢◌, ℕ, List, zero, suc, ◌-◌, refl, sym, ap, arith}
use Rattle.isa_terms.specs.Types.{Ty}
use Rattle.isa_terms.specs.Terms.{Tm, Abs}
use Rattle.isa_terms.specs.Norm.{put_normal, apply}

pub apply_step : (n : ℕ) (x : List ℕ) (T : Ty) (b a : Tm) → n ≢ 0 → apply n (Abs x T b) a ≡ put_normal (apply (n - 1)) a 0 b
apply_step zero x T b a h = absurd (h refl)
apply_step (suc n) x T b a h = let e : suc n - 1 ≡ n = omega arith in ap (λ m. put_normal (apply m) a 0 b) (sym e)
