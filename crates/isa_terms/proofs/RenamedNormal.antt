-- Renaming keeps normal forms.
use Rattle.std.proofs.Common.{◌≡◌, ℕ, zero, suc, ◌+◌, false, not, ◌&&◌, ◌||◌, nat_eq, List, refl, sym, ap, ◌∙◌, subst, arith}
use Rattle.std.proofs.lemmas.Bool.Decides.{nat_tests}
use Rattle.isa_terms.specs.Types.{Ty}
use Rattle.isa_terms.specs.Terms.{Tm, Const, Free, Unknown, Bound, Abs, App, bare}
use Rattle.isa_terms.specs.Norm.{loose, norm}
use Rattle.isa_terms.specs.Normal.{redex_at, redex, IsHead, IsNormal}
use Rattle.isa_terms.specs.Typed.{Typed}
use Rattle.isa_terms.specs.Conversion.{Conv}
use Rattle.isa_terms.proofs.Conv.{norm_conv}
use Rattle.isa_terms.proofs.NormalForms.{norm_normal, norm_same}
use Rattle.isa_terms.proofs.Unique.{conv_norm}
use Rattle.isa_terms.proofs.Erased.{Lam, Ap, up, ren}
use Rattle.isa_terms.proofs.Diamond.{has, has-up}
use Rattle.isa_terms.proofs.Erasing.{erase, loose_has}
use Rattle.isa_terms.proofs.Renames.{rename}
use Rattle.isa_terms.proofs.Opening.{IsRenaming, rename_conv, over, over_number, over_is}

pub erase_rename : (r : ℕ → ℕ) (t : Tm) → erase (rename r t) ≡ ren r (erase t)
erase_rename r (Const x T) = refl
erase_rename r (Free x T) = refl
erase_rename r (Unknown x i T) = refl
erase_rename r (Bound n) = refl
erase_rename r (Abs x T b) = ap Lam (erase_rename (up r) b)
erase_rename r (App f a) = λ i. Ap (erase_rename r f i) (erase_rename r a i)

pub loose_up : (r : ℕ → ℕ) (t : Tm) → loose 0 (rename (up r) t) ≡ loose 0 t
loose_up r t = loose_has 0 (rename (up r) t) ∙ ap (has 0) (erase_rename (up r) t) ∙ has-up r 0 (erase t) ∙ sym (loose_has 0 t)

pub redex_up_bound : (r : ℕ → ℕ) (f : Tm) (i : ℕ) → redex_at (rename (up r) f) (Bound (up r i)) ≡ redex_at f (Bound i)
redex_up_bound r f zero = ap (λ v. nat_eq 0 0 && not v) (loose_up r f)
redex_up_bound r f (suc i) =
    let e : nat_eq (suc (r i)) 0 ≡ false = grind (arith, nat_tests) in
    let d : nat_eq (suc i) 0 ≡ false = grind (arith, nat_tests) in
    ap (λ v. v && not (loose 0 (rename (up r) f))) e ∙ sym (ap (λ v. v && not (loose 0 f)) d)

pub redex_up : (r : ℕ → ℕ) (b : Tm) → redex (rename (up r) b) ≡ redex b
redex_up r (App f (Bound i)) = redex_up_bound r f i
redex_up r (App f (Const x T)) = refl
redex_up r (App f (Free x T)) = refl
redex_up r (App f (Unknown x i T)) = refl
redex_up r (App f (Abs x T b)) = refl
redex_up r (App f (App g a)) = refl
redex_up r (Const x T) = refl
redex_up r (Free x T) = refl
redex_up r (Unknown x i T) = refl
redex_up r (Bound n) = refl
redex_up r (Abs x T b) = refl

pub rename_head : (r : ℕ → ℕ) (t : Tm) → IsHead t → IsHead (rename r t)
rename_head r (Const x T) h = tt
rename_head r (Free x T) h = tt
rename_head r (Unknown x i T) h = tt
rename_head r (Bound n) h = tt
rename_head r (Abs x T b) h = absurd h
rename_head r (App f a) h = tt

pub rename_normal : (r : ℕ → ℕ) (t : Tm) → IsNormal t → IsNormal (rename r t)
rename_normal r (Const x T) n = tt
rename_normal r (Free x T) n = tt
rename_normal r (Unknown x i T) n = tt
rename_normal r (Bound k) n = tt
rename_normal r (Abs x T b) n = (rename_normal (up r) b n.0, redex_up r b ∙ n.1)
rename_normal r (App f a) n = (rename_head r f n.0, (rename_normal r f n.1.0, rename_normal r a n.1.1))

pub over_normal : (n k : ℕ) (t : Tm) → IsNormal t → IsNormal (over n k t)
over_normal n k t h = subst IsNormal (sym (over_is n k t)) (rename_normal (over_number n k) t h)

-- the normal form of a renamed term is the renamed normal form
pub rename_norm : (r : ℕ → ℕ) (K : List Ty) {G : List Ty} {t : Tm} {T : Ty} → Typed G t T → IsRenaming r G K → bare (norm (rename r t)) ≡ bare (rename r (norm t))
rename_norm r K {G} {t} {T} d h =
    let c : Conv K T (rename r t) (rename r (norm t)) = rename_conv r K (norm_conv d) h in
    conv_norm c ∙ ap bare (norm_same (rename r (norm t)) (rename_normal r (norm t) (norm_normal d)))

-- ---- the names of binders
pub bare_head : (t : Tm) → IsHead t → IsHead (bare t)
bare_head (Const x T) h = tt
bare_head (Free x T) h = tt
bare_head (Unknown x i T) h = tt
bare_head (Bound n) h = tt
bare_head (Abs x T b) h = absurd h
bare_head (App f a) h = tt

pub loose_bare : (k : ℕ) (t : Tm) → loose k (bare t) ≡ loose k t
loose_bare k (Const x T) = refl
loose_bare k (Free x T) = refl
loose_bare k (Unknown x i T) = refl
loose_bare k (Bound n) = refl
loose_bare k (Abs x T b) = loose_bare (k + 1) b
loose_bare k (App f a) = λ i. loose_bare k f i || loose_bare k a i

pub redex_bare : (b : Tm) → redex (bare b) ≡ redex b
redex_bare (App f (Bound i)) = ap (λ v. nat_eq i 0 && not v) (loose_bare 0 f)
redex_bare (App f (Const x T)) = refl
redex_bare (App f (Free x T)) = refl
redex_bare (App f (Unknown x i T)) = refl
redex_bare (App f (Abs x T b)) = refl
redex_bare (App f (App g a)) = refl
redex_bare (Const x T) = refl
redex_bare (Free x T) = refl
redex_bare (Unknown x i T) = refl
redex_bare (Bound n) = refl
redex_bare (Abs x T b) = refl

pub bare_normal : (t : Tm) → IsNormal t → IsNormal (bare t)
bare_normal (Const x T) n = tt
bare_normal (Free x T) n = tt
bare_normal (Unknown x i T) n = tt
bare_normal (Bound k) n = tt
bare_normal (Abs x T b) n = (bare_normal b n.0, redex_bare b ∙ n.1)
bare_normal (App f a) n = (bare_head f n.0, (bare_normal f n.1.0, bare_normal a n.1.1))
