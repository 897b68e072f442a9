-- Parallel steps.
use Rattle.std.proofs.Common.{ℕ, zero, suc, ap, ◌∙◌}
use Rattle.isa_terms.proofs.Erased.{Erased, Atom, Var, Lam, Ap, up, ren, next, lift, sub, Par, p_atom, p_var, p_lam, p_ap, p_beta, p_eta}
use Rattle.isa_terms.proofs.Renaming.{ren-up-next, sub-lift-next, ren-sub-first, sub-sub-first}

pub par_self : (t : Erased) → Par t t
par_self (Atom c) = p_atom c
par_self (Var n) = p_var n
par_self (Lam b) = p_lam (par_self b)
par_self (Ap f a) = p_ap (par_self f) (par_self a)

pub par_ren : (r : ℕ → ℕ) {t u : Erased} → Par t u → Par (ren r t) (ren r u)
par_ren r (p_atom c) = p_atom c
par_ren r (p_var n) = p_var (r n)
par_ren r (p_lam h) = p_lam (par_ren (up r) h)
par_ren r (p_ap h k) = p_ap (par_ren r h) (par_ren r k)
par_ren r (p_beta {c = c} {d = d} h k e) = p_beta (par_ren (up r) h) (par_ren r k) (ap (ren r) e ∙ ren-sub-first r d c)
par_ren r (p_eta {f = f} e h) = p_eta (ap (ren (up r)) e ∙ ren-up-next r f) (par_ren r h)

par_lift : {s q : ℕ → Erased} → ((n : ℕ) → Par (s n) (q n)) → (n : ℕ) → Par (lift s n) (lift q n)
par_lift h zero = p_var 0
par_lift h (suc n) = par_ren next (h n)

pub par_sub : (s q : ℕ → Erased) {t u : Erased} → ((n : ℕ) → Par (s n) (q n)) → Par t u → Par (sub s t) (sub q u)
par_sub s q h (p_atom c) = p_atom c
par_sub s q h (p_var n) = h n
par_sub s q h (p_lam k) = p_lam (par_sub (lift s) (lift q) (par_lift h) k)
par_sub s q h (p_ap k l) = p_ap (par_sub s q h k) (par_sub s q h l)
par_sub s q h (p_beta {c = c} {d = d} k l e) = p_beta (par_sub (lift s) (lift q) (par_lift h) k) (par_sub s q h l) (ap (sub q) e ∙ sub-sub-first q d c)
par_sub s q h (p_eta {f = f} e k) = p_eta (ap (sub (lift s)) e ∙ sub-lift-next s f) (par_sub s q h k)
