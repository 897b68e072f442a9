-- Two parallel steps from one term meet after one more.
use Rattle.std.proofs.Common.{◌≡◌, ℕ, zero, suc, ◌+◌, ◌<◌, Bool, true, false, ◌||◌, refl, sym, ap, ◌∙◌, subst, arith}
use Rattle.isa_terms.specs.Terms.{Tm}
use Rattle.isa_terms.proofs.Erased.{Erased, Atom, Var, Lam, Ap, up, ren, next, sub, first, Par, p_atom, p_var, p_lam, p_ap, p_beta, p_eta}
use Rattle.isa_terms.proofs.Renaming.{ren-ren, sub-ren, ren-up-next, ren-sub-first, sub-first-next, sub_same, sub-var}
use Rattle.isa_terms.proofs.Parallel.{par_sub}

-- 1. Terms without the innermost variable

abbrev pub upk : ℕ → (ℕ → ℕ) → ℕ → ℕ
upk zero r = r
upk (suc k) r = up (upk k r)

abbrev pub same_number : ℕ → ℕ → Bool
same_number zero zero = true
same_number (suc m) (suc n) = same_number m n
same_number zero (suc n) = false
same_number (suc m) zero = false

abbrev pub has : ℕ → Erased → Bool
has k (Atom c) = false
has k (Var n) = same_number n k
has k (Lam b) = has (suc k) b
has k (Ap f a) = has k f || has k a

abbrev low : ℕ → ℕ
low zero = zero
low (suc n) = n

next_misses : (k n : ℕ) → same_number (upk k next n) k ≡ false
next_misses zero n = refl
next_misses (suc k) zero = refl
next_misses (suc k) (suc n) = next_misses k n

neither : (a b : Bool) → a ≡ false → b ≡ false → (a || b) ≡ false
neither true b h k = absurd (cc)
neither false b h k = k

neither_true : (a b : Bool) → (a || b) ≡ false → (a ≡ false) × (b ≡ false)
neither_true true b k = absurd (cc)
neither_true false b k = (refl, k)

pub has-next : (k : ℕ) (t : Erased) → has k (ren (upk k next) t) ≡ false
has-next k (Atom c) = refl
has-next k (Var n) = next_misses k n
has-next k (Lam b) = has-next (suc k) b
has-next k (Ap f a) = neither (has k (ren (upk k next) f)) (has k (ren (upk k next) a)) (has-next k f) (has-next k a)

up_hits : (r : ℕ → ℕ) (k n : ℕ) → same_number (upk k (up r) n) k ≡ same_number n k
up_hits r zero zero = refl
up_hits r zero (suc n) = refl
up_hits r (suc k) zero = refl
up_hits r (suc k) (suc n) = up_hits r k n

pub has-up : (r : ℕ → ℕ) (k : ℕ) (t : Erased) → has k (ren (upk k (up r)) t) ≡ has k t
has-up r k (Atom c) = refl
has-up r k (Var n) = up_hits r k n
has-up r k (Lam b) = has-up r (suc k) b
has-up r k (Ap f a) = λ i. has-up r k f i || has-up r k a i

next_low : (k n : ℕ) → same_number n k ≡ false → upk k next (upk k low n) ≡ n
next_low zero zero h = absurd (cc)
next_low zero (suc n) h = refl
next_low (suc k) zero h = refl
next_low (suc k) (suc n) h = ap (λ m. suc m) (next_low k n h)

next-low : (k : ℕ) (t : Erased) → has k t ≡ false → ren (upk k next) (ren (upk k low) t) ≡ t
next-low k (Atom c) h = refl
next-low k (Var n) h = ap Var (next_low k n h)
next-low k (Lam b) h = ap Lam (next-low (suc k) b h)
next-low k (Ap f a) h =
    let both = neither_true (has k f) (has k a) h in
    λ i. Ap (next-low k f both.0 i) (next-low k a both.1 i)

low_next : (n : ℕ) → low (next n) ≡ n
low_next n = refl

ren_id : (r : ℕ → ℕ) → ((n : ℕ) → r n ≡ n) → (t : Erased) → ren r t ≡ t
ren_id r h (Atom c) = refl
ren_id r h (Var n) = ap Var (h n)
ren_id r h (Lam b) = ap Lam (ren_id (up r) (up_id r h) b)
  where
    up_id : (r : ℕ → ℕ) → ((n : ℕ) → r n ≡ n) → (n : ℕ) → up r n ≡ n
    up_id r h zero = refl
    up_id r h (suc n) = ap (λ m. suc m) (h n)
ren_id r h (Ap f a) = λ i. Ap (ren_id r h f i) (ren_id r h a i)

-- renaming by next loses nothing
next_once : (t u : Erased) → ren next t ≡ ren next u → t ≡ u
next_once t u h = sym (ren-ren low next t ∙ ren_id (λ n. n) (λ n. refl) t) ∙ ap (ren low) h ∙ ren-ren low next u ∙ ren_id (λ n. n) (λ n. refl) u

-- what comes of t by up r, and of f by next, comes of one term
strip : (r : ℕ → ℕ) (t f : Erased) → ren (up r) t ≡ ren next f → (g : Erased) × (t ≡ ren next g) × (f ≡ ren r g)
strip r t f h =
    let without : has 0 t ≡ false = sym (has-up r 0 t) ∙ ap (has 0) h ∙ has-next 0 f in
    let g = ren low t in
    let e : t ≡ ren next g = sym (next-low 0 t without) in
    (g, e, next_once f (ren r g) (sym h ∙ ap (ren (up r)) e ∙ ren-up-next r g))

-- 2. A step from a renamed term is a renamed step

pub lam_same : {t u : Erased} → Lam t ≡ Lam u → t ≡ u
lam_same h = cc

pub fun_same : {f g a b : Erased} → Ap f a ≡ Ap g b → f ≡ g
fun_same h = cc

pub arg_same : {f g a b : Erased} → Ap f a ≡ Ap g b → a ≡ b
arg_same h = cc

abbrev Unrenamed : (ℕ → ℕ) → Erased → Erased → Type 0
Unrenamed r t u = (v : Erased) × (u ≡ ren r v) × Par t v

unren_atom : (c : Tm) (r : ℕ → ℕ) (t : Erased) → Atom c ≡ ren r t → Unrenamed r t (Atom c)
unren_atom c r (Atom d) e = (Atom d, e, p_atom d)
unren_atom c r (Var n) e = absurd (cc)
unren_atom c r (Lam b) e = absurd (cc)
unren_atom c r (Ap f a) e = absurd (cc)

unren_var : (n : ℕ) (r : ℕ → ℕ) (t : Erased) → Var n ≡ ren r t → Unrenamed r t (Var n)
unren_var n r (Var m) e = (Var m, e, p_var m)
unren_var n r (Atom d) e = absurd (cc)
unren_var n r (Lam b) e = absurd (cc)
unren_var n r (Ap f a) e = absurd (cc)

unren_lam : (b c : Erased) (r : ℕ → ℕ) (t : Erased) → Lam b ≡ ren r t → ((q : ℕ → ℕ) (s : Erased) → b ≡ ren q s → Unrenamed q s c) → Unrenamed r t (Lam c)
unren_lam b c r (Lam s) e ih = let h = ih (up r) s (lam_same e) in (Lam h.0, ap Lam h.1, p_lam h.2)
unren_lam b c r (Atom d) e ih = absurd (cc)
unren_lam b c r (Var n) e ih = absurd (cc)
unren_lam b c r (Ap f a) e ih = absurd (cc)

unren_ap : (f a g d : Erased) (r : ℕ → ℕ) (t : Erased) → Ap f a ≡ ren r t → ((q : ℕ → ℕ) (s : Erased) → f ≡ ren q s → Unrenamed q s g) → ((q : ℕ → ℕ) (s : Erased) → a ≡ ren q s → Unrenamed q s d) → Unrenamed r t (Ap g d)
unren_ap f a g d r (Ap s x) e ih jh =
    let h = ih r s (fun_same e) in
    let k = jh r x (arg_same e) in
    (Ap h.0 k.0, (λ i. Ap (h.1 i) (k.1 i)), p_ap h.2 k.2)
unren_ap f a g d r (Atom c) e ih jh = absurd (cc)
unren_ap f a g d r (Var n) e ih jh = absurd (cc)
unren_ap f a g d r (Lam b) e ih jh = absurd (cc)

unren_beta : (b a c d u : Erased) (r : ℕ → ℕ) (t : Erased) → Ap (Lam b) a ≡ ren r t → u ≡ sub (first d) c → ((q : ℕ → ℕ) (s : Erased) → b ≡ ren q s → Unrenamed q s c) → ((q : ℕ → ℕ) (s : Erased) → a ≡ ren q s → Unrenamed q s d) → Unrenamed r t u
unren_beta b a c d u r (Ap (Lam s) x) e is ih jh =
    let h = ih (up r) s (lam_same (fun_same e)) in
    let k = jh r x (arg_same e) in
    (sub (first k.0) h.0, is ∙ (λ i. sub (first (k.1 i)) (h.1 i)) ∙ sym (ren-sub-first r k.0 h.0), p_beta h.2 k.2 refl)
unren_beta b a c d u r (Ap (Atom s) x) e is ih jh = let k = fun_same e in absurd (cc)
unren_beta b a c d u r (Ap (Var s) x) e is ih jh = let k = fun_same e in absurd (cc)
unren_beta b a c d u r (Ap (Ap s y) x) e is ih jh = let k = fun_same e in absurd (cc)
unren_beta b a c d u r (Atom s) e is ih jh = absurd (cc)
unren_beta b a c d u r (Var n) e is ih jh = absurd (cc)
unren_beta b a c d u r (Lam s) e is ih jh = absurd (cc)

unren_eta : (s f g : Erased) (r : ℕ → ℕ) (t : Erased) → Lam (Ap s (Var 0)) ≡ ren r t → s ≡ ren next f → ((q : ℕ → ℕ) (v : Erased) → f ≡ ren q v → Unrenamed q v g) → Unrenamed r t g
unren_eta s f g r (Lam (Ap x (Var zero))) e is ih =
    let p = strip r x f (sym (fun_same (lam_same e)) ∙ is) in
    let h = ih r p.0 p.2 in
    (h.0, h.1, p_eta p.1 h.2)
unren_eta s f g r (Lam (Ap x (Var (suc m)))) e is ih = let k = arg_same (lam_same e) in absurd (cc)
unren_eta s f g r (Lam (Ap x (Atom y))) e is ih = let k = arg_same (lam_same e) in absurd (cc)
unren_eta s f g r (Lam (Ap x (Lam y))) e is ih = let k = arg_same (lam_same e) in absurd (cc)
unren_eta s f g r (Lam (Ap x (Ap y z))) e is ih = let k = arg_same (lam_same e) in absurd (cc)
unren_eta s f g r (Lam (Atom x)) e is ih = let k = lam_same e in absurd (cc)
unren_eta s f g r (Lam (Var x)) e is ih = let k = lam_same e in absurd (cc)
unren_eta s f g r (Lam (Lam x)) e is ih = let k = lam_same e in absurd (cc)
unren_eta s f g r (Atom x) e is ih = absurd (cc)
unren_eta s f g r (Var x) e is ih = absurd (cc)
unren_eta s f g r (Ap x y) e is ih = absurd (cc)

par_unren : {w u : Erased} → Par w u → (r : ℕ → ℕ) (t : Erased) → w ≡ ren r t → Unrenamed r t u
par_unren (p_atom c) r t e = unren_atom c r t e
par_unren (p_var n) r t e = unren_var n r t e
par_unren (p_lam {b = b} {c = c} h) r t e = unren_lam b c r t e (λ q s k. par_unren h q s k)
par_unren (p_ap {f = f} {g = g} {a = a} {b = d} h k) r t e = unren_ap f a g d r t e (λ q s l. par_unren h q s l) (λ q s l. par_unren k q s l)
par_unren {u = u} (p_beta {b = b} {c = c} {a = a} {d = d} h k is) r t e = unren_beta b a c d u r t e is (λ q s l. par_unren h q s l) (λ q s l. par_unren k q s l)
par_unren {u = u} (p_eta {t = s} {f = f} is h) r t e = unren_eta s f u r t e is (λ q v l. par_unren h q v l)

-- 3. What a step does to each kind of term

pub data LamCase (b v : Erased) : Type 0 where
  stays : (c : Erased) → v ≡ Lam c → Par b c → LamCase b v
  contracts : (s f : Erased) → b ≡ Ap s (Var 0) → s ≡ ren next f → Par f v → LamCase b v

pub data ApCase (f a v : Erased) : Type 0 where
  both : (g d : Erased) → v ≡ Ap g d → Par f g → Par a d → ApCase f a v
  fires : (b c d : Erased) → f ≡ Lam b → Par b c → Par a d → v ≡ sub (first d) c → ApCase f a v

pub lam_inv : {t v : Erased} → Par t v → (b : Erased) → t ≡ Lam b → LamCase b v
lam_inv (p_atom c) b e = absurd (cc)
lam_inv (p_var n) b e = absurd (cc)
lam_inv (p_lam {c = c} h) b e = stays c refl (subst (λ x. Par x c) (lam_same e) h)
lam_inv (p_ap h k) b e = absurd (cc)
lam_inv (p_beta h k is) b e = absurd (cc)
lam_inv (p_eta {t = s} {f = f} is h) b e = contracts s f (sym (lam_same e)) is h

pub ap_inv : {t v : Erased} → Par t v → (f a : Erased) → t ≡ Ap f a → ApCase f a v
ap_inv (p_atom c) f a e = absurd (cc)
ap_inv (p_var n) f a e = absurd (cc)
ap_inv (p_lam h) f a e = absurd (cc)
ap_inv (p_ap {g = g} {b = d} h k) f a e = both g d refl (subst (λ x. Par x g) (fun_same e) h) (subst (λ x. Par x d) (arg_same e) k)
ap_inv (p_beta {b = b} {c = c} {d = d} h k is) f a e = fires b c d (sym (fun_same e)) h (subst (λ x. Par x d) (arg_same e) k) is
ap_inv (p_eta is h) f a e = absurd (cc)

pub var_inv : {t v : Erased} → Par t v → (n : ℕ) → t ≡ Var n → v ≡ Var n
var_inv (p_atom c) n e = absurd (cc)
var_inv (p_var m) n e = e
var_inv (p_lam h) n e = absurd (cc)
var_inv (p_ap h k) n e = absurd (cc)
var_inv (p_beta h k is) n e = absurd (cc)
var_inv (p_eta is h) n e = absurd (cc)

pub atom_inv : {t v : Erased} → Par t v → (c : Tm) → t ≡ Atom c → v ≡ Atom c
atom_inv (p_atom c) n e = e
atom_inv (p_var m) n e = absurd (cc)
atom_inv (p_lam h) n e = absurd (cc)
atom_inv (p_ap h k) n e = absurd (cc)
atom_inv (p_beta h k is) n e = absurd (cc)
atom_inv (p_eta is h) n e = absurd (cc)

-- 4. The diamond

abbrev pub Join : Erased → Erased → Type 0
Join u v = (w : Erased) × Par u w × Par v w

swapped : {u v : Erased} → Join u v → Join v u
swapped j = (j.0, j.2, j.1)

abbrev size : Erased → ℕ
size (Atom c) = 1
size (Var n) = 1
size (Lam b) = suc (size b)
size (Ap f a) = suc (size f + size a)

size-ren : (r : ℕ → ℕ) (t : Erased) → size (ren r t) ≡ size t
size-ren r (Atom c) = refl
size-ren r (Var n) = refl
size-ren r (Lam b) = ap (λ n. suc n) (size-ren (up r) b)
size-ren r (Ap f a) = λ i. suc (size-ren r f i + size-ren r a i)

-- two steps from a term of less than this size meet
abbrev Below : ℕ → Type 0
Below n = (t u v : Erased) → size t < n → Par t u → Par t v → Join u v

par_first : {d e : Erased} → Par d e → (n : ℕ) → Par (first d n) (first e n)
par_first h zero = h
par_first h (suc n) = p_var n

first_up : (v : Erased) → sub (first (Var 0)) (ren (up next) v) ≡ v
first_up v = sub-ren (first (Var 0)) (up next) v ∙ sub_same (λ n. first (Var 0) (up next n)) Var at v ∙ sub-var v
  where
    at : (n : ℕ) → first (Var 0) (up next n) ≡ Var n
    at zero = refl
    at (suc n) = refl

-- Of a body s x with s free of the innermost variable, which came from f: what a beta step in it leads to.
data Inner (f c : Erased) : Type 0 where
  inner : (f1 v1 : Erased) → f ≡ Lam f1 → Par f1 v1 → c ≡ v1 → Inner f c

inner_fires : (s f b1 c1 d c : Erased) → s ≡ ren next f → s ≡ Lam b1 → Par b1 c1 → Par (Var 0) d → c ≡ sub (first d) c1 → Inner f c
inner_fires s (Lam f1) b1 c1 d c e is h k z =
    let p = par_unren h (up next) f1 (lam_same (sym is ∙ e)) in
    inner f1 p.0 refl p.2 (z ∙ (λ i. sub (first (var_inv k 0 refl i)) (p.1 i)) ∙ first_up p.0)
inner_fires s (Atom x) b1 c1 d c e is h k z = let q = sym is ∙ e in absurd (cc)
inner_fires s (Var x) b1 c1 d c e is h k z = let q = sym is ∙ e in absurd (cc)
inner_fires s (Ap x y) b1 c1 d c e is h k z = let q = sym is ∙ e in absurd (cc)

-- an abstraction that stays against one that is contracted
stays_contracts : (s f c g : Erased) → Below (size (Lam (Ap s (Var 0)))) → s ≡ ren next f → Par f g → ApCase s (Var 0) c → Join (Lam c) g
stays_contracts s f c g below e k (both s' x z h1 h2) =
    let p = par_unren h1 next f e in
    let z0 = size-ren next f in
    let e' = ap size e in
    let j = below f p.0 g (omega (arith, z0, e')) p.2 k in
    let is : Lam c ≡ Lam (Ap s' (Var 0)) = ap Lam (z ∙ ap (Ap s') (var_inv h2 0 refl)) in
    (j.0, subst (λ y. Par y j.0) (sym is) (p_eta p.1 j.1), j.2)
stays_contracts s f c g below e k (fires b1 c1 d is h1 h2 z) = go (inner_fires s f b1 c1 d c e is h1 h2 z)
  where
    go : Inner f c → Join (Lam c) g
    go (inner f1 v1 y h q) =
        let z0 = size-ren next f in
        let e' = ap size e in
        below f (Lam c) g (omega (arith, z0, e')) (subst (λ x. Par x (Lam c)) (sym y) (subst (λ x. Par (Lam f1) (Lam x)) (sym q) (p_lam h))) k

lam_meets : (b u v : Erased) → Below (size (Lam b)) → LamCase b u → LamCase b v → Join u v
lam_meets b u v below (stays c e h) (stays c' e' h') =
    let j = below b c c' (omega arith) h h' in
    (Lam j.0, subst (λ x. Par x (Lam j.0)) (sym e) (p_lam j.1), subst (λ x. Par x (Lam j.0)) (sym e') (p_lam j.2))
lam_meets b u v below (stays c e h) (contracts s f z is k) =
    subst (λ x. Join x v) (sym e) (stays_contracts s f c v (subst (λ x. Below (size (Lam x))) z below) is k (ap_inv h s (Var 0) z))
lam_meets b u v below (contracts s f z is k) (stays c e h) =
    swapped (subst (λ x. Join x u) (sym e) (stays_contracts s f c u (subst (λ x. Below (size (Lam x))) z below) is k (ap_inv h s (Var 0) z)))
lam_meets b u v below (contracts s f z is k) (contracts s' f' z' is' k') =
    let same : f' ≡ f = next_once f' f (sym is' ∙ fun_same (sym z' ∙ z) ∙ is) in
    let z0 = size-ren next f in
    let e1 = ap size is in
    let e2 = ap size z in
    below f u v (omega (arith, z0, e1, e2)) k (subst (λ x. Par x v) same k')

-- a function that is contracted by eta, applied, against a beta step
contracts_fires : (s f0 a g d c' d' : Erased) → Below (size (Ap (Lam (Ap s (Var 0))) a)) → s ≡ ren next f0 → Par f0 g → Par a d → Par a d' → ApCase s (Var 0) c' → Join (Ap g d) (sub (first d') c')
contracts_fires s f0 a g d c' d' below e k hd hd' (both s' x z h1 h2) =
    let p = par_unren h1 next f0 e in
    let z0 = size-ren next f0 in
    let e' = ap size e in
    let j = below f0 g p.0 (omega (arith, z0, e')) k p.2 in
    let l = below a d d' (omega arith) hd hd' in
    let is : sub (first d') c' ≡ Ap p.0 d' = ap (sub (first d')) (z ∙ (λ i. Ap (p.1 i) (var_inv h2 0 refl i))) ∙ ap (λ y. Ap y d') (sub-first-next d' p.0) in
    (Ap j.0 l.0, p_ap j.1 l.1, subst (λ y. Par y (Ap j.0 l.0)) (sym is) (p_ap j.2 l.2))
contracts_fires s f0 a g d c' d' below e k hd hd' (fires b1 c1 d1 is h1 h2 z) = go (inner_fires s f0 b1 c1 d1 c' e is h1 h2 z)
  where
    go : Inner f0 c' → Join (Ap g d) (sub (first d') c')
    go (inner f1 v1 y h q) =
        let z0 = size-ren next f0 in
        let e' = ap size e in
        below (Ap f0 a) (Ap g d) (sub (first d') c') (omega (arith, z0, e')) (p_ap k hd)
        (subst (λ x. Par (Ap x a) (sub (first d') c')) (sym y) (p_beta h hd' (ap (sub (first d')) q)))

both_fires : (b a g d c' d' : Erased) → Below (size (Ap (Lam b) a)) → LamCase b g → Par a d → Par b c' → Par a d' → Join (Ap g d) (sub (first d') c')
both_fires b a g d c' d' below (stays c e h) hd h' hd' =
    let j = below b c c' (omega arith) h h' in
    let l = below a d d' (omega arith) hd hd' in
    (sub (first l.0) j.0, subst (λ x. Par (Ap x d) (sub (first l.0) j.0)) (sym e) (p_beta j.1 l.1 refl), par_sub (first d') (first l.0) (par_first l.2) j.2)
both_fires b a g d c' d' below (contracts s f z is k) hd h' hd' =
    contracts_fires s f a g d c' d' (subst (λ x. Below (size (Ap (Lam x) a))) z below) is k hd hd' (ap_inv h' s (Var 0) z)

ap_meets : (f a u v : Erased) → Below (size (Ap f a)) → ApCase f a u → ApCase f a v → Join u v
ap_meets f a u v below (both g d e h k) (both g' d' e' h' k') =
    let i = below f g g' (omega arith) h h' in
    let j = below a d d' (omega arith) k k' in
    (Ap i.0 j.0, subst (λ x. Par x (Ap i.0 j.0)) (sym e) (p_ap i.1 j.1), subst (λ x. Par x (Ap i.0 j.0)) (sym e') (p_ap i.2 j.2))
ap_meets f a u v below (both g d e h k) (fires b c d' is h' k' z) =
    subst (λ x. Join x v) (sym e) (subst (λ x. Join (Ap g d) x) (sym z) (both_fires b a g d c d' (subst (λ x. Below (size (Ap x a))) is below) (lam_inv h b is) k h' k'))
ap_meets f a u v below (fires b c d' is h' k' z) (both g d e h k) =
    swapped (subst (λ x. Join x u) (sym e) (subst (λ x. Join (Ap g d) x) (sym z) (both_fires b a g d c d' (subst (λ x. Below (size (Ap x a))) is below) (lam_inv h b is) k h' k')))
ap_meets f a u v below (fires b c d is h k z) (fires b' c' d' is' h' k' z') =
    let same : b' ≡ b = lam_same (sym is' ∙ is) in
    let e1 = ap size is in
    let i = below b c c' (omega (arith, e1)) h (subst (λ x. Par x c') same h') in
    let j = below a d d' (omega arith) k k' in
    (sub (first j.0) i.0, subst (λ x. Par x (sub (first j.0) i.0)) (sym z) (par_sub (first d) (first j.0) (par_first j.1) i.1), subst (λ x. Par x (sub (first j.0) i.0)) (sym z') (par_sub (first d') (first j.0) (par_first j.2) i.2))

meets : (t u v : Erased) → Below (size t) → Par t u → Par t v → Join u v
meets (Atom c) u v below h k = (Atom c, subst (λ x. Par x (Atom c)) (sym (atom_inv h c refl)) (p_atom c), subst (λ x. Par x (Atom c)) (sym (atom_inv k c refl)) (p_atom c))
meets (Var n) u v below h k = (Var n, subst (λ x. Par x (Var n)) (sym (var_inv h n refl)) (p_var n), subst (λ x. Par x (Var n)) (sym (var_inv k n refl)) (p_var n))
meets (Lam b) u v below h k = lam_meets b u v below (lam_inv h b refl) (lam_inv k b refl)
meets (Ap f a) u v below h k = ap_meets f a u v below (ap_inv h f a refl) (ap_inv k f a refl)

below : (n : ℕ) → Below n
below zero t u v h p q = absurd (omega arith)
below (suc n) t u v h p q = meets t u v (λ s x y k. below n s x y (omega (arith, h, k))) p q

pub diamond : {t u v : Erased} → Par t u → Par t v → Join u v
diamond {t} {u} {v} p q = below (suc (size t)) t u v (omega arith) p q
