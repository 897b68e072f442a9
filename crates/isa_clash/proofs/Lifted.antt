-- What lifting and types for type unknowns leave as it is.
use Rattle.std.proofs.Common.{◌≡◌, List, [], Bool, true, ◌&&◌, ◌||◌, refl, subst, ◌⊎◌, inl, inr}
use Rattle.isa_terms.specs.Terms.{Tm, Const, Free, Unknown, Bound, Abs, App}
use Rattle.isa_terms.specs.Instance.{inst_tm}
use Rattle.isa_terms.specs.declared.inst.TypeEntry.{TypeEntry}
use Rattle.isa_unify.specs.Clashes.{IsLifting}
use Rattle.isa_unify.proofs.Tests.{both_true, and_true, either_true, or_left, or_right}
use Rattle.isa_clash.specs.Differing.{is_named, is_firm, differ, differ_at}

pub named_lifting : (k l : Tm) → IsLifting k l → is_named k ≡ true → is_named l ≡ true
named_lifting (Const x T) l h e = subst (λ t. is_named t ≡ true) h refl
named_lifting (Free x T) l h e = subst (λ t. is_named t ≡ true) h refl
named_lifting (Unknown x i T) l h e = absurd (cc)
named_lifting (Bound n) l h e = absurd (cc)
named_lifting (Abs x T b) l h e = absurd (cc)
named_lifting (App f a) (App g c) h e = named_lifting f g h.0 e
named_lifting (App f a) (Const y U) h e = absurd h
named_lifting (App f a) (Free y U) h e = absurd h
named_lifting (App f a) (Unknown y j U) h e = absurd h
named_lifting (App f a) (Bound n) h e = absurd h
named_lifting (App f a) (Abs y U b) h e = absurd h

-- the test of two terms from that of their heads
pub split_test : (fixed : Bool) (t u : Tm) → differ fixed t u ≡ true → (is_named t ≡ true) × (is_firm fixed u ≡ true) × (differ_at fixed t u ≡ true)
split_test fixed t u e =
    let p = both_true (is_named t) (is_firm fixed u && differ_at fixed t u) e in
    let q = both_true (is_firm fixed u) (differ_at fixed t u) p.1 in
    (p.0, q.0, q.1)

join_test : (fixed : Bool) (t u : Tm) → is_named t ≡ true → is_firm fixed u ≡ true → differ_at fixed t u ≡ true → differ fixed t u ≡ true
join_test fixed t u n f e = and_true (is_named t) (is_firm fixed u && differ_at fixed t u) n (and_true (is_firm fixed u) (differ_at fixed t u) f e)

liftings_differ_at : (fixed : Bool) (k l t : Tm) → IsLifting k l → is_named k ≡ true → differ_at fixed k t ≡ true → differ_at fixed l t ≡ true
liftings_differ_at fixed (Const x T) l t h n e = subst (λ u. differ_at fixed u t ≡ true) h e
liftings_differ_at fixed (Free x T) l t h n e = subst (λ u. differ_at fixed u t ≡ true) h e
liftings_differ_at fixed (Unknown x i T) l t h n e = absurd (cc)
liftings_differ_at fixed (Bound m) l t h n e = absurd (cc)
liftings_differ_at fixed (Abs x T b) l t h n e = absurd (cc)
liftings_differ_at fixed (App f a) (App g c) (App u b) h n e = go (either_true (differ_at fixed f u) (differ fixed a b) e) (liftings_differ_at fixed f g u h.0 n) (λ m d. liftings_differ_at fixed a c b h.1 m d)
  where
    go : (differ_at fixed f u ≡ true) ⊎ (differ fixed a b ≡ true) → (differ_at fixed f u ≡ true → differ_at fixed g u ≡ true) → (is_named a ≡ true → differ_at fixed a b ≡ true → differ_at fixed c b ≡ true) → (differ_at fixed g u || differ fixed c b) ≡ true
    go (inl d) i j = or_left (differ_at fixed g u) (differ fixed c b) (i d)
    go (inr d) i j =
        let p = split_test fixed a b d in
        or_right (differ_at fixed g u) (differ fixed c b) (join_test fixed c b (named_lifting a c h.1 p.0) p.1 (j p.0 p.2))
liftings_differ_at fixed (App f a) (App g c) (Const x T) h n e = refl
liftings_differ_at fixed (App f a) (App g c) (Free x T) h n e = refl
liftings_differ_at fixed (App f a) (App g c) (Unknown x i T) h n e = refl
liftings_differ_at fixed (App f a) (App g c) (Bound m) h n e = refl
liftings_differ_at fixed (App f a) (App g c) (Abs x T b) h n e = refl
liftings_differ_at fixed (App f a) (Const y U) t h n e = absurd h
liftings_differ_at fixed (App f a) (Free y U) t h n e = absurd h
liftings_differ_at fixed (App f a) (Unknown y j U) t h n e = absurd h
liftings_differ_at fixed (App f a) (Bound m) t h n e = absurd h
liftings_differ_at fixed (App f a) (Abs y U b) t h n e = absurd h

pub liftings_differ : (fixed : Bool) (k l t : Tm) → IsLifting k l → differ fixed k t ≡ true → differ fixed l t ≡ true
liftings_differ fixed k l t h e =
    let p = split_test fixed k t e in
    join_test fixed l t (named_lifting k l h p.0) p.1 (liftings_differ_at fixed k l t h p.0 p.2)

-- ---- types for type unknowns
abbrev retyped : List TypeEntry → Tm → Tm
retyped s t = inst_tm s [] t

named_retyped : (s : List TypeEntry) (t : Tm) → is_named (retyped s t) ≡ is_named t
named_retyped s (Const x T) = refl
named_retyped s (Free x T) = refl
named_retyped s (Unknown x i T) = refl
named_retyped s (Bound n) = refl
named_retyped s (Abs x T b) = refl
named_retyped s (App f a) = named_retyped s f

firm_retyped : (fixed : Bool) (s : List TypeEntry) (t : Tm) → is_firm fixed (retyped s t) ≡ is_firm fixed t
firm_retyped fixed s (Const x T) = refl
firm_retyped fixed s (Free x T) = refl
firm_retyped fixed s (Unknown x i T) = refl
firm_retyped fixed s (Bound n) = refl
firm_retyped fixed s (Abs x T b) = refl
firm_retyped fixed s (App f a) = firm_retyped fixed s f

retyped_differ_at : (fixed : Bool) (s : List TypeEntry) (t u : Tm) → differ_at fixed (retyped s t) (retyped s u) ≡ differ_at fixed t u
retyped_differ_at fixed s (App f a) (App g b) = λ i. retyped_differ_at fixed s f g i || (named_retyped s a i && (firm_retyped fixed s b i && retyped_differ_at fixed s a b i))
retyped_differ_at fixed s (Const x T) (Const y U) = refl
retyped_differ_at fixed s (Const x T) (Free y U) = refl
retyped_differ_at fixed s (Const x T) (Unknown y j U) = refl
retyped_differ_at fixed s (Const x T) (Bound n) = refl
retyped_differ_at fixed s (Const x T) (Abs y U c) = refl
retyped_differ_at fixed s (Const x T) (App g b) = refl
retyped_differ_at fixed s (Free x T) (Const y U) = refl
retyped_differ_at fixed s (Free x T) (Free y U) = refl
retyped_differ_at fixed s (Free x T) (Unknown y j U) = refl
retyped_differ_at fixed s (Free x T) (Bound n) = refl
retyped_differ_at fixed s (Free x T) (Abs y U c) = refl
retyped_differ_at fixed s (Free x T) (App g b) = refl
retyped_differ_at fixed s (Unknown x i T) (Const y U) = refl
retyped_differ_at fixed s (Unknown x i T) (Free y U) = refl
retyped_differ_at fixed s (Unknown x i T) (Unknown y j U) = refl
retyped_differ_at fixed s (Unknown x i T) (Bound n) = refl
retyped_differ_at fixed s (Unknown x i T) (Abs y U c) = refl
retyped_differ_at fixed s (Unknown x i T) (App g b) = refl
retyped_differ_at fixed s (Bound m) (Const y U) = refl
retyped_differ_at fixed s (Bound m) (Free y U) = refl
retyped_differ_at fixed s (Bound m) (Unknown y j U) = refl
retyped_differ_at fixed s (Bound m) (Bound n) = refl
retyped_differ_at fixed s (Bound m) (Abs y U c) = refl
retyped_differ_at fixed s (Bound m) (App g b) = refl
retyped_differ_at fixed s (Abs x T d) (Const y U) = refl
retyped_differ_at fixed s (Abs x T d) (Free y U) = refl
retyped_differ_at fixed s (Abs x T d) (Unknown y j U) = refl
retyped_differ_at fixed s (Abs x T d) (Bound n) = refl
retyped_differ_at fixed s (Abs x T d) (Abs y U c) = refl
retyped_differ_at fixed s (Abs x T d) (App g b) = refl
retyped_differ_at fixed s (App f a) (Const y U) = refl
retyped_differ_at fixed s (App f a) (Free y U) = refl
retyped_differ_at fixed s (App f a) (Unknown y j U) = refl
retyped_differ_at fixed s (App f a) (Bound n) = refl
retyped_differ_at fixed s (App f a) (Abs y U c) = refl

pub retyped_differ : (fixed : Bool) (s : List TypeEntry) (t u : Tm) → differ fixed (retyped s t) (retyped s u) ≡ differ fixed t u
retyped_differ fixed s t u = λ i. named_retyped s t i && (firm_retyped fixed s u i && retyped_differ_at fixed s t u i)
