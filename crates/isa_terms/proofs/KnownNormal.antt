-- What a node keeps says whether the term is normal, and whether a variable is loose in it.
use Rattle.std.proofs.Common.{◌≡◌, true, false, not, ◌&&◌, Bool, refl}
use Rattle.isa_terms.specs.Terms.{Tm, Const, Free, Unknown, Bound, Abs, App}
use Rattle.isa_terms.specs.Normal.{redex, IsHead, IsNormal}
use Rattle.isa_terms.specs.Facts.{is_abs, is_normal}

and_true : (a b : Bool) → (a && b) ≡ true → (a ≡ true) × (b ≡ true)
and_true true b e = (refl, e)
and_true false b e = cc

not_true : (a : Bool) → not a ≡ true → a ≡ false
not_true true e = cc
not_true false e = refl

no_abs : (t : Tm) → is_abs t ≡ false → IsHead t
no_abs (Const x T) h = tt
no_abs (Free x T) h = tt
no_abs (Unknown x i T) h = tt
no_abs (Bound i) h = tt
no_abs (Abs x T b) h = cc
no_abs (App f a) h = tt

head_no_abs : (t : Tm) → IsHead t → is_abs t ≡ false
head_no_abs (Const x T) h = refl
head_no_abs (Free x T) h = refl
head_no_abs (Unknown x i T) h = refl
head_no_abs (Bound i) h = refl
head_no_abs (Abs x T b) h = absurd h
head_no_abs (App f a) h = refl

pub normal_kept : (t : Tm) → is_normal t ≡ true → IsNormal t
normal_kept (Const x T) h = tt
normal_kept (Free x T) h = tt
normal_kept (Unknown x i T) h = tt
normal_kept (Bound i) h = tt
normal_kept (Abs x T b) h = let p = and_true (is_normal b) (not (redex b)) h in (normal_kept b p.0, not_true (redex b) p.1)
normal_kept (App f a) h =
    let p = and_true (not (is_abs f)) (is_normal f && is_normal a) h in
    let q = and_true (is_normal f) (is_normal a) p.1 in
    (no_abs f (not_true (is_abs f) p.0), (normal_kept f q.0, normal_kept a q.1))

pub normal_told : (t : Tm) → IsNormal t → is_normal t ≡ true
normal_told (Const x T) h = refl
normal_told (Free x T) h = refl
normal_told (Unknown x i T) h = refl
normal_told (Bound i) h = refl
normal_told (Abs x T b) h = λ i. normal_told b h.0 i && not (h.1 i)
normal_told (App f a) h = λ i. not (head_no_abs f h.0 i) && (normal_told f h.1.0 i && normal_told a h.1.1 i)
