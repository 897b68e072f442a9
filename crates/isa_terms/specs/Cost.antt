-- How many calls normalising takes, a number that falls from call to call.
use Rattle.std.specs.Prelude.{ℕ, zero, suc, ◌+◌}
use Rattle.isa_terms.specs.Terms.{Tm, Abs, App}
use Rattle.isa_terms.specs.Norm.{put_normal, apply}

abbrev pub put_cost : (Tm → Tm → Tm) → (Tm → Tm → ℕ) → Tm → ℕ → Tm → ℕ
put_cost app cost a k (Abs x T b) = put_cost app cost a (k + 1) b + 1
put_cost app cost a k (App f b) = put_cost app cost a k f + put_cost app cost a k b + cost (put_normal app a k f) (put_normal app a k b) + 1
put_cost app cost a k _ = 1

abbrev pub beta_cost : (Tm → Tm → Tm) → (Tm → Tm → ℕ) → Tm → Tm → ℕ
beta_cost app cost (Abs x T b) a = put_cost app cost a 0 b + 1
beta_cost app cost f a = 1

abbrev pub apply_cost : ℕ → Tm → Tm → ℕ
apply_cost zero f a = 1
apply_cost (suc n) f a = beta_cost (apply n) (apply_cost n) f a
