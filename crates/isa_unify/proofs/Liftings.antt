-- A lifted term clashes where the term does.
use Rattle.std.proofs.Common.{◌≡◌, ◌⊎◌, inl, inr, ℕ, zero, suc, ◌+◌, List, [], ◌∷◌, ◌++◌, length, nat_lt, Bool, true, false, cond, Option, Some, None, refl, sym, ap, ◌∙◌, subst}
use Rattle.std.specs.List.{slice_get}
use Rattle.isa_terms.specs.Types.{Ty}
use Rattle.isa_terms.specs.Terms.{Tm, Const, Free, Unknown, Bound, Abs, App}
use Rattle.isa_terms.specs.Replace.{raise}
use Rattle.isa_terms.specs.Normal.{IsHead}
use Rattle.isa_terms.proofs.NormalForms.{raise_head}
use Rattle.isa_unify.specs.Spines.{head_of, args_of, is_flexible}
use Rattle.isa_unify.specs.Unification.{opened}
use Rattle.isa_unify.specs.Clashes.{HeadsAgree, AreRigid, Clash, heads, numbers, argument, bodies, left, right, on_parameters, over_types, lifted, IsLifting, LiftedIsLifting, LiftingsClash}
use Rattle.isa_unify.proofs.Tests.{some_same}

-- ---- the lifted term
on_parameters_flexible : (f : Tm) (k d : ℕ) → IsHead f → is_flexible f ≡ true → IsHead (on_parameters f k d) × (is_flexible (on_parameters f k d) ≡ true)
on_parameters_flexible f zero d h e = (h, e)
on_parameters_flexible f (suc k) d h e = on_parameters_flexible (App f (Bound (k + d))) k d tt e

pub lifted_is_lifting : LiftedIsLifting
lifted_is_lifting Ts d (Const x T) = refl
lifted_is_lifting Ts d (Free x T) = refl
lifted_is_lifting Ts d (Unknown x i T) = on_parameters_flexible (Unknown x i (over_types Ts T)) (length Ts) d tt refl
lifted_is_lifting Ts d (Bound n) = refl
lifted_is_lifting Ts d (Abs x T b) = lifted_is_lifting Ts (d + 1) b
lifted_is_lifting Ts d (App f a) = (lifted_is_lifting Ts d f, lifted_is_lifting Ts d a)

-- ---- liftings under more binders
pub raise_flexible : (n k : ℕ) (t : Tm) → is_flexible (raise n k t) ≡ is_flexible t
raise_flexible n k (Const x T) = refl
raise_flexible n k (Free x T) = refl
raise_flexible n k (Unknown x i T) = refl
raise_flexible n k (Bound i) = go (nat_lt i k)
  where
    go : (b : Bool) → is_flexible (cond b (Bound i) (Bound (i + n))) ≡ false
    go true = refl
    go false = refl
raise_flexible n k (Abs x T b) = refl
raise_flexible n k (App f a) = raise_flexible n k f

bound_lifting : (i j : ℕ) (v : Tm) (b : Bool) → cond b (Bound i) (Bound j) ≡ v → IsLifting (cond b (Bound i) (Bound j)) v
bound_lifting i j v true e = e
bound_lifting i j v false e = e

raise_lifting : (n k : ℕ) (t u : Tm) → IsLifting t u → IsLifting (raise n k t) (raise n k u)
raise_lifting n k (Const x T) u h = ap (raise n k) h
raise_lifting n k (Free x T) u h = ap (raise n k) h
raise_lifting n k (Unknown x i T) u h = (raise_head n k u h.0, raise_flexible n k u ∙ h.1)
raise_lifting n k (Bound i) u h = bound_lifting i (i + n) (raise n k u) (nat_lt i k) (ap (raise n k) h)
raise_lifting n k (Abs x T b) (Const y U) h = absurd h
raise_lifting n k (Abs x T b) (Free y U) h = absurd h
raise_lifting n k (Abs x T b) (Unknown y j U) h = absurd h
raise_lifting n k (Abs x T b) (Bound m) h = absurd h
raise_lifting n k (Abs x T b) (Abs y U c) h = raise_lifting n (k + 1) b c h
raise_lifting n k (Abs x T b) (App g c) h = absurd h
raise_lifting n k (App f a) (Const y U) h = absurd h
raise_lifting n k (App f a) (Free y U) h = absurd h
raise_lifting n k (App f a) (Unknown y j U) h = absurd h
raise_lifting n k (App f a) (Bound m) h = absurd h
raise_lifting n k (App f a) (Abs y U c) h = absurd h
raise_lifting n k (App f a) (App g c) h = (raise_lifting n k f g h.0, raise_lifting n k a c h.1)

opened_lifting : (t u : Tm) → IsLifting t u → IsLifting (opened t) (opened u)
opened_lifting t u h = (raise_lifting 1 0 t u h, refl)

-- ---- heads and arguments
lifting_head : (t u : Tm) → IsHead t → IsLifting t u → IsHead u
lifting_head (Const x T) u i h = subst IsHead h tt
lifting_head (Free x T) u i h = subst IsHead h tt
lifting_head (Unknown x n T) u i h = h.0
lifting_head (Bound n) u i h = subst IsHead h tt
lifting_head (Abs x T b) (Const y U) i h = absurd h
lifting_head (Abs x T b) (Free y U) i h = absurd h
lifting_head (Abs x T b) (Unknown y j U) i h = absurd h
lifting_head (Abs x T b) (Bound m) i h = absurd h
lifting_head (Abs x T b) (Abs y U c) i h = absurd i
lifting_head (Abs x T b) (App g c) i h = absurd h
lifting_head (App f a) (Const y U) i h = absurd h
lifting_head (App f a) (Free y U) i h = absurd h
lifting_head (App f a) (Unknown y j U) i h = absurd h
lifting_head (App f a) (Bound m) i h = absurd h
lifting_head (App f a) (Abs y U c) i h = absurd h
lifting_head (App f a) (App g c) i h = tt

lifting_rigid : (t u : Tm) → IsLifting t u → is_flexible t ≡ false → is_flexible u ≡ false
lifting_rigid (Const x T) u h e = subst (λ v. is_flexible v ≡ false) h refl
lifting_rigid (Free x T) u h e = subst (λ v. is_flexible v ≡ false) h refl
lifting_rigid (Unknown x n T) u h e = absurd (cc)
lifting_rigid (Bound n) u h e = subst (λ v. is_flexible v ≡ false) h refl
lifting_rigid (Abs x T b) (Const y U) h e = absurd h
lifting_rigid (Abs x T b) (Free y U) h e = absurd h
lifting_rigid (Abs x T b) (Unknown y j U) h e = absurd h
lifting_rigid (Abs x T b) (Bound m) h e = absurd h
lifting_rigid (Abs x T b) (Abs y U c) h e = refl
lifting_rigid (Abs x T b) (App g c) h e = absurd h
lifting_rigid (App f a) (Const y U) h e = absurd h
lifting_rigid (App f a) (Free y U) h e = absurd h
lifting_rigid (App f a) (Unknown y j U) h e = absurd h
lifting_rigid (App f a) (Bound m) h e = absurd h
lifting_rigid (App f a) (Abs y U c) h e = absurd h
lifting_rigid (App f a) (App g c) h e = lifting_rigid f g h.0 e

no_abstraction : (fixed : Bool) (x : List ℕ) (T : Ty) (b h : Tm) → HeadsAgree fixed (Abs x T b) h → ⊥
no_abstraction fixed x T b (Const y U) a = a
no_abstraction fixed x T b (Free y U) a = a
no_abstraction fixed x T b (Unknown y j U) a = a
no_abstraction fixed x T b (Bound m) a = a
no_abstraction fixed x T b (Abs y U c) a = a
no_abstraction fixed x T b (App g c) a = a

heads_to : (fixed : Bool) (v t u : Tm) → IsLifting t u → is_flexible t ≡ false → HeadsAgree fixed (head_of u) v → HeadsAgree fixed (head_of t) v
heads_to fixed v (Const x T) u h e a = subst (λ w. HeadsAgree fixed (head_of w) v) (sym h) a
heads_to fixed v (Free x T) u h e a = subst (λ w. HeadsAgree fixed (head_of w) v) (sym h) a
heads_to fixed v (Unknown x n T) u h e a = absurd (cc)
heads_to fixed v (Bound n) u h e a = subst (λ w. HeadsAgree fixed (head_of w) v) (sym h) a
heads_to fixed v (Abs x T b) (Const y U) h e k = absurd h
heads_to fixed v (Abs x T b) (Free y U) h e k = absurd h
heads_to fixed v (Abs x T b) (Unknown y j U) h e k = absurd h
heads_to fixed v (Abs x T b) (Bound m) h e k = absurd h
heads_to fixed v (Abs x T b) (Abs y U c) h e k = absurd (no_abstraction fixed y U c v k)
heads_to fixed v (Abs x T b) (App g c) h e k = absurd h
heads_to fixed v (App f a) (Const y U) h e k = absurd h
heads_to fixed v (App f a) (Free y U) h e k = absurd h
heads_to fixed v (App f a) (Unknown y j U) h e k = absurd h
heads_to fixed v (App f a) (Bound m) h e k = absurd h
heads_to fixed v (App f a) (Abs y U c) h e k = absurd h
heads_to fixed v (App f a) (App g c) h e k = heads_to fixed v f g h.0 e k

heads_from : (fixed : Bool) (v t u : Tm) → IsLifting t u → is_flexible t ≡ false → HeadsAgree fixed (head_of t) v → HeadsAgree fixed (head_of u) v
heads_from fixed v (Const x T) u h e a = subst (λ w. HeadsAgree fixed (head_of w) v) h a
heads_from fixed v (Free x T) u h e a = subst (λ w. HeadsAgree fixed (head_of w) v) h a
heads_from fixed v (Unknown x n T) u h e a = absurd (cc)
heads_from fixed v (Bound n) u h e a = subst (λ w. HeadsAgree fixed (head_of w) v) h a
heads_from fixed v (Abs x T b) (Const y U) h e k = absurd h
heads_from fixed v (Abs x T b) (Free y U) h e k = absurd h
heads_from fixed v (Abs x T b) (Unknown y j U) h e k = absurd h
heads_from fixed v (Abs x T b) (Bound m) h e k = absurd h
heads_from fixed v (Abs x T b) (Abs y U c) h e k = absurd (no_abstraction fixed x T b v k)
heads_from fixed v (Abs x T b) (App g c) h e k = absurd h
heads_from fixed v (App f a) (Const y U) h e k = absurd h
heads_from fixed v (App f a) (Free y U) h e k = absurd h
heads_from fixed v (App f a) (Unknown y j U) h e k = absurd h
heads_from fixed v (App f a) (Bound m) h e k = absurd h
heads_from fixed v (App f a) (Abs y U c) h e k = absurd h
heads_from fixed v (App f a) (App g c) h e k = heads_from fixed v f g h.0 e k

abbrev AllLiftings : List Tm → List Tm → Type 0
AllLiftings [] [] = Unit {0}
AllLiftings (t ∷ ts) (u ∷ us) = IsLifting t u × AllLiftings ts us
AllLiftings _ _ = ⊥

liftings_last : (ts us : List Tm) (t u : Tm) → AllLiftings ts us → IsLifting t u → AllLiftings (ts ++ t ∷ []) (us ++ u ∷ [])
liftings_last [] [] t u h k = (k, tt)
liftings_last (x ∷ ts) (y ∷ us) t u h k = (h.0, liftings_last ts us t u h.1 k)
liftings_last [] (y ∷ us) t u h k = absurd h
liftings_last (x ∷ ts) [] t u h k = absurd h

args_lifting : (t u : Tm) → IsLifting t u → is_flexible t ≡ false → AllLiftings (args_of t) (args_of u)
args_lifting (Const x T) u h e = subst (λ v. AllLiftings [] (args_of v)) h tt
args_lifting (Free x T) u h e = subst (λ v. AllLiftings [] (args_of v)) h tt
args_lifting (Unknown x n T) u h e = absurd (cc)
args_lifting (Bound n) u h e = subst (λ v. AllLiftings [] (args_of v)) h tt
args_lifting (Abs x T b) (Const y U) h e = absurd h
args_lifting (Abs x T b) (Free y U) h e = absurd h
args_lifting (Abs x T b) (Unknown y j U) h e = absurd h
args_lifting (Abs x T b) (Bound m) h e = absurd h
args_lifting (Abs x T b) (Abs y U c) h e = tt
args_lifting (Abs x T b) (App g c) h e = absurd h
args_lifting (App f a) (Const y U) h e = absurd h
args_lifting (App f a) (Free y U) h e = absurd h
args_lifting (App f a) (Unknown y j U) h e = absurd h
args_lifting (App f a) (Bound m) h e = absurd h
args_lifting (App f a) (Abs y U c) h e = absurd h
args_lifting (App f a) (App g c) h e = liftings_last (args_of f) (args_of g) a c (args_lifting f g h.0 e) h.1

liftings_length : (ts us : List Tm) → AllLiftings ts us → length ts ≡ length us
liftings_length [] [] h = refl
liftings_length (t ∷ ts) (u ∷ us) h = ap (λ n. suc n) (liftings_length ts us h.1)
liftings_length [] (u ∷ us) h = absurd h
liftings_length (t ∷ ts) [] h = absurd h

liftings_get : (ts us : List Tm) → AllLiftings ts us → (i : ℕ) (a : Tm) → slice_get ts i ≡ Some a → (b : Tm) × (slice_get us i ≡ Some b) × IsLifting a b
liftings_get [] us h i a e = absurd (cc)
liftings_get (t ∷ ts) [] h i a e = absurd h
liftings_get (t ∷ ts) (u ∷ us) h zero a e = (u, refl, subst (λ x. IsLifting x u) (some_same e) h.0)
liftings_get (t ∷ ts) (u ∷ us) h (suc i) a e = liftings_get ts us h.1 i a e

-- ---- clashes
rigid_lifting : (fixed : Bool) (k l t : Tm) → IsLifting k l → AreRigid fixed k t → AreRigid fixed l t
rigid_lifting fixed k l t h r = record { left_head = lifting_head k l r.left_head h; right_head = r.right_head; left = lifting_rigid k l h r.left; right = r.right }

pub lifting_clashes : {fixed : Bool} {k t : Tm} → Clash fixed k t → (l : Tm) → IsLifting k l → Clash fixed l t
lifting_clashes {fixed} {k} {t} (heads r n) l h = heads (rigid_lifting fixed k l t h r) (λ a. n (heads_to fixed (head_of t) k l h r.left a))
lifting_clashes {fixed} {k} {t} (numbers r n) l h = numbers (rigid_lifting fixed k l t h r) (λ e. n (liftings_length (args_of k) (args_of l) (args_lifting k l h r.left) ∙ e))
lifting_clashes {fixed} {k} {t} (argument r a i b c p q d) l h =
    let g = liftings_get (args_of k) (args_of l) (args_lifting k l h r.left) i b p in
    argument (rigid_lifting fixed k l t h r) (heads_from fixed (head_of t) k l h r.left a) i g.0 c g.1 q (lifting_clashes d g.0 g.2)
lifting_clashes (bodies p) (Const y U) h = absurd h
lifting_clashes (bodies p) (Free y U) h = absurd h
lifting_clashes (bodies p) (Unknown y j U) h = absurd h
lifting_clashes (bodies p) (Bound m) h = absurd h
lifting_clashes (bodies p) (Abs y U c) h = bodies (lifting_clashes p c h)
lifting_clashes (bodies p) (App g c) h = absurd h
lifting_clashes (left n p) (Const y U) h = absurd h
lifting_clashes (left n p) (Free y U) h = absurd h
lifting_clashes (left n p) (Unknown y j U) h = absurd h
lifting_clashes (left n p) (Bound m) h = absurd h
lifting_clashes (left n p) (Abs y U c) h = left n (lifting_clashes p c h)
lifting_clashes (left n p) (App g c) h = absurd h
lifting_clashes {t = t} (right {t = k} n p) l h = right (lifting_head k l n h) (lifting_clashes p (opened l) (opened_lifting k l h))

pub liftings_clash : LiftingsClash
liftings_clash fixed k l t h c = lifting_clashes c l h
