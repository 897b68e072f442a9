-- Convertible terms lead to one term.
use Rattle.std.proofs.Common.{◌≡◌, refl, sym, ◌∙◌, subst}
use Rattle.isa_terms.proofs.Erased.{Erased, Par, Linked, by_step, back, through, IsStuck}
use Rattle.isa_terms.proofs.Diamond.{diamond}

-- some steps
pub data Leads : Erased → Erased → Type 0 where
  stop : (t : Erased) → Leads t t
  step : {t u v : Erased} → Par t u → Leads u v → Leads t v

abbrev pub Meet : Erased → Erased → Type 0
Meet u v = (w : Erased) × Leads u w × Leads v w

joined : {t u v : Erased} → Leads t u → Leads u v → Leads t v
joined (stop t) k = k
joined (step h r) k = step h (joined r k)

-- one step against some
strip : {t v : Erased} → Leads t v → (u : Erased) → Par t u → (w : Erased) × Leads u w × Par v w
strip (stop t) u h = (u, stop u, h)
strip (step k r) u h =
    let j = diamond h k in
    let s = strip r j.0 j.2 in
    (s.0, step j.1 s.1, s.2)

-- some against some
meeting : {t u : Erased} → Leads t u → (v : Erased) → Leads t v → Meet u v
meeting (stop t) v k = (v, k, stop v)
meeting (step h r) v k =
    let s = strip k _ h in
    let m = meeting r s.0 s.1 in
    (m.0, m.1, step s.2 m.2)

pub church_rosser : {t u : Erased} → Linked t u → Meet t u
church_rosser (by_step {u = u} h) = (u, step h (stop u), stop u)
church_rosser (back h) = let m = church_rosser h in (m.0, m.2, m.1)
church_rosser (through h k) =
    let m = church_rosser h in
    let n = church_rosser k in
    let o = meeting m.2 n.0 n.1 in
    (o.0, joined m.1 o.1, joined n.2 o.2)

normal_leads : {t u : Erased} → Leads t u → IsStuck t → u ≡ t
normal_leads (stop t) n = refl
normal_leads (step {t = t} {u = u} h r) n =
    let e : u ≡ t = n u h in
    normal_leads r (subst IsStuck (sym e) n) ∙ e

pub stuck_is_unique : (t u : Erased) → Linked t u → IsStuck t → IsStuck u → t ≡ u
stuck_is_unique t u h n m =
    let j = church_rosser h in
    sym (normal_leads j.1 n) ∙ normal_leads j.2 m
