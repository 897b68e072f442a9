-- Ticks are counted.
use Rattle.std.proofs.Common.{◌≡◌, ℕ, zero, suc, ◌<◌, refl, sym, ap, ◌∙◌, arith}
use Rattle.isa_terms.specs.Terms.{Tm}
use Rattle.isa_rewrite.specs.Ticking.{Spent, Past, Gives, Ticking, now, tick}
use Rattle.isa_rewrite.specs.Traces.{GoesOn, TicksAreCounted}

done : (k : ℕ) (x : Ticking Tm) (u : Tm) → GoesOn k x (now u) → x k ≡ Gives u 0
done zero x u h = h 0
done (suc k) x u h = h.1 (suc k) ∙ done k h.0 u h.2

gives_same : (u v : Tm) (m n : ℕ) → Gives u m ≡ Gives v n → (m ≡ n) × (u ≡ v)
gives_same u v m n e = (cc, cc)

never : (x : Spent Tm) (u : Tm) → x ≡ Past → x ≡ Gives u 0 → ⊥
never x u d e = cc

only : (k n : ℕ) (x : Ticking Tm) (u v : Tm) → GoesOn k x (now v) → x n ≡ Gives u 0 → (n ≡ k) × (u ≡ v)
only zero n x u v h e = gives_same_ends (sym (h n) ∙ e)
  where
    gives_same_ends : Gives v n ≡ Gives u 0 → (n ≡ 0) × (u ≡ v)
    gives_same_ends d = let s = gives_same v u n 0 d in (s.0, sym s.1)
only (suc k) zero x u v h e = absurd (never (x 0) u (h.1 0) e)
only (suc k) (suc n) x u v h e = let r = only k n h.0 u v h.2 (sym (h.1 (suc n)) ∙ e) in (ap suc r.0, r.1)

later : (k n : ℕ) (x y : Ticking Tm) (u : Tm) → GoesOn k x (tick y) → x n ≡ Gives u 0 → k < n
later zero zero x y u h e = absurd (never (x 0) u (h 0) e)
later zero (suc n) x y u h e = omega arith
later (suc k) zero x y u h e = absurd (never (x 0) u (h.1 0) e)
later (suc k) (suc n) x y u h e = let r = later k n h.0 y u h.2 (sym (h.1 (suc n)) ∙ e) in omega (arith, r)

pub ticks_are_counted : TicksAreCounted
ticks_are_counted = record { done = done; only = only; later = later }
