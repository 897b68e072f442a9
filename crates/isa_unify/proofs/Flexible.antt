-- Unknowns applied to bound variables.
use Rattle.std.proofs.Common.{◌≡◌, ℕ, ◌⊎◌, inl, inr, List, [], ◌∷◌, ◌++◌, Bool, true, false, ◌&&◌, ◌||◌, not, nat_eq, cond, refl, sym, ap, subst, ◌∙◌, Option, Some, None}
use Rattle.std.specs.List.{slice_get}
use Rattle.isa_terms.specs.Types.{Ty}
use Rattle.isa_terms.specs.Terms.{Tm, Const, Free, Unknown, Bound, Abs, App}
use Rattle.isa_terms.specs.Equal.{name_eq, ty_eq}
use Rattle.isa_terms.specs.Typing.{function_of}
use Rattle.isa_terms.specs.Instance.{Instance, inst_tm}
use Rattle.isa_terms.specs.declared.inst.TypeEntry.{TypeEntry}
use Rattle.isa_terms.specs.declared.inst.TermEntry.{TermEntry}
use Rattle.isa_terms.specs.Typed.{Typed, TUnknown, TBound, TApp}
use Rattle.isa_unify.specs.TypeUnification.{ty_has}
use Rattle.isa_unify.specs.Matching.{Binder, Flexible, flexible, applied, is_fixed, unless_fixed, to_solve, solved, matched, has_unknown, has_type_unknown, app_parts, ◌>>=◌}
use Rattle.isa_unify.proofs.Tests.{some_same, both_true, and_true, or_mono}

pub flexible_matched : (G : List Binder) (s : Instance) (p t : Tm) (h : Flexible) → to_solve s p ≡ Some h → matched G s p t ≡ solved G s h t
flexible_matched G s (Unknown x i T) t h e = ap (λ k. solved G s k t) (some_same e)
flexible_matched G s (App f a) t h e = ap (λ o. elim o [ Some k ↦ solved G s k t | None ↦ (app_parts t >>= λ q. (matched G s f q.0 >>= λ r. matched G r a q.1)) ]) e
flexible_matched G s (Const c T) t h e = absurd (cc)
flexible_matched G s (Free x T) t h e = absurd (cc)
flexible_matched G s (Bound n) t h e = absurd (cc)
flexible_matched G s (Abs x T b) t h e = absurd (cc)

-- a flexible application
pub record FlexibleApp (f a : Tm) (h : Flexible) : Type 0 where
  pub front : Flexible
  pub last : ℕ
  pub fun : flexible f ≡ Some front
  pub arg : a ≡ Bound last
  pub all : h ≡ record front { args = front.args ++ last ∷ [] }

app_case : (f a : Tm) (h : Flexible) (o : Option Flexible) → flexible f ≡ o → applied o a ≡ Some h → FlexibleApp f a h
app_case f a h None e k = absurd (cc)
app_case f (Bound n) h (Some g) e k = record { front = g; last = n; fun = e; arg = refl; all = sym (some_same k) }
app_case f (Const c T) h (Some g) e k = absurd (cc)
app_case f (Free c T) h (Some g) e k = absurd (cc)
app_case f (Unknown c i T) h (Some g) e k = absurd (cc)
app_case f (Abs c T b) h (Some g) e k = absurd (cc)
app_case f (App c b) h (Some g) e k = absurd (cc)

pub flexible_app : (f a : Tm) (h : Flexible) → flexible (App f a) ≡ Some h → FlexibleApp f a h
flexible_app f a h e = app_case f a h (flexible f) refl e

-- the term applied to bound variables
abbrev pub apps : Tm → List ℕ → Tm
apps u [] = u
apps u (n ∷ ns) = apps (App u (Bound n)) ns

apps_last : (u : Tm) (ns : List ℕ) (n : ℕ) → apps u (ns ++ n ∷ []) ≡ App (apps u ns) (Bound n)
apps_last u [] n = refl
apps_last u (m ∷ ns) n = apps_last (App u (Bound m)) ns n

pub flexible_inst : (es : List TypeEntry) (fs : List TermEntry) (p : Tm) (h : Flexible) → flexible p ≡ Some h → inst_tm es fs p ≡ apps (inst_tm es fs (Unknown h.name h.number h.typ)) h.args
flexible_inst es fs (Unknown x i T) h e = ap (λ (k : Flexible). apps (inst_tm es fs (Unknown k.name k.number k.typ)) k.args) (some_same e)
flexible_inst es fs (App f a) h e =
    let c = flexible_app f a h e in
    (λ j. App (flexible_inst es fs f c.front c.fun j) (inst_tm es fs (c.arg j)))
    ∙ sym (apps_last (inst_tm es fs (Unknown c.front.name c.front.number c.front.typ)) c.front.args c.last)
    ∙ ap (λ (k : Flexible). apps (inst_tm es fs (Unknown k.name k.number k.typ)) k.args) (sym c.all)
flexible_inst es fs (Const c T) h e = absurd (cc)
flexible_inst es fs (Free x T) h e = absurd (cc)
flexible_inst es fs (Bound n) h e = absurd (cc)
flexible_inst es fs (Abs x T b) h e = absurd (cc)

or_none : (b : Bool) → (b || false) ≡ b
or_none true = refl
or_none false = refl

pub flexible_unknown : (x : List ℕ) (i : ℕ) (T : Ty) (p : Tm) (h : Flexible) → flexible p ≡ Some h → has_unknown x i T p ≡ (name_eq x h.name && (nat_eq i h.number && ty_eq T h.typ))
flexible_unknown x i T (Unknown y j U) h e = ap (λ (k : Flexible). name_eq x k.name && (nat_eq i k.number && ty_eq T k.typ)) (some_same e)
flexible_unknown x i T (App f a) h e =
    let c = flexible_app f a h e in
    ap (λ b. has_unknown x i T f || has_unknown x i T b) c.arg
    ∙ or_none (has_unknown x i T f)
    ∙ flexible_unknown x i T f c.front c.fun
    ∙ ap (λ (k : Flexible). name_eq x k.name && (nat_eq i k.number && ty_eq T k.typ)) (sym c.all)
flexible_unknown x i T (Const c U) h e = absurd (cc)
flexible_unknown x i T (Free y U) h e = absurd (cc)
flexible_unknown x i T (Bound n) h e = absurd (cc)
flexible_unknown x i T (Abs y U b) h e = absurd (cc)

pub flexible_type_unknown : (x : List ℕ) (i : ℕ) (p : Tm) (h : Flexible) → flexible p ≡ Some h → has_type_unknown x i p ≡ ty_has x i h.typ
flexible_type_unknown x i (Unknown y j U) h e = ap (λ (k : Flexible). ty_has x i k.typ) (some_same e)
flexible_type_unknown x i (App f a) h e =
    let c = flexible_app f a h e in
    ap (λ b. has_type_unknown x i f || has_type_unknown x i b) c.arg
    ∙ or_none (has_type_unknown x i f)
    ∙ flexible_type_unknown x i f c.front c.fun
    ∙ ap (λ (k : Flexible). ty_has x i k.typ) (sym c.all)
flexible_type_unknown x i (Const c U) h e = absurd (cc)
flexible_type_unknown x i (Free y U) h e = absurd (cc)
flexible_type_unknown x i (Bound n) h e = absurd (cc)
flexible_type_unknown x i (Abs y U b) h e = absurd (cc)

-- what has the type T, applied to those variables, has the type A
abbrev pub Spined : List Ty → Ty → List ℕ → Ty → Type 0
Spined G T [] A = T ≡ A
Spined G T (n ∷ ns) A = (S : Ty) × (R : Ty) × (slice_get G n ≡ Some S) × (T ≡ function_of S R) × Spined G R ns A

spined_last : (G : List Ty) (T S A : Ty) (ns : List ℕ) (n : ℕ) → Spined G T ns (function_of S A) → slice_get G n ≡ Some S → Spined G T (ns ++ n ∷ []) A
spined_last G T S A [] n e h = (S, A, h, e, refl)
spined_last G T S A (m ∷ ns) n p h = (p.0, p.1, p.2, p.3, spined_last G p.1 S A ns n p.4 h)

unknown_type : {G : List Ty} {x : List ℕ} {i : ℕ} {T A : Ty} → Typed G (Unknown x i T) A → T ≡ A
unknown_type TUnknown = refl

bound_type : {G : List Ty} {n : ℕ} {A : Ty} → Typed G (Bound n) A → slice_get G n ≡ Some A
bound_type (TBound h) = h

pub flexible_typed : (G : List Ty) (p : Tm) (h : Flexible) (A : Ty) → flexible p ≡ Some h → Typed G p A → Spined G h.typ h.args A
flexible_typed G (Unknown x i T) h A e d = subst (λ (k : Flexible). Spined G k.typ k.args A) (some_same e) (unknown_type d)
flexible_typed G (App f a) h A e (TApp {S} d g) =
    let c = flexible_app f a h e in
    let arg : Typed G (Bound c.last) S = subst (λ b. Typed G b S) c.arg g in
    subst (λ (k : Flexible). Spined G k.typ k.args A) (sym c.all) (spined_last G c.front.typ S A c.front.args c.last (flexible_typed G f c.front (function_of S A) c.fun d) (bound_type arg))
flexible_typed G (Const c T) h A e d = absurd (cc)
flexible_typed G (Free x T) h A e d = absurd (cc)
flexible_typed G (Bound n) h A e d = absurd (cc)
flexible_typed G (Abs x T b) h A e d = absurd (cc)

-- ---- patterns by their parts
abbrev pub has_number : List ℕ → ℕ → Bool
has_number [] n = false
has_number (m ∷ ms) n = nat_eq m n || has_number ms n

abbrev pub are_distinct : List ℕ → Bool
are_distinct [] = true
are_distinct (n ∷ ns) = not (has_number ns n) && are_distinct ns

-- an unknown applied to distinct bound variables
pub record IsSpread (p : Tm) : Type 0 where
  pub head : Flexible
  pub is : flexible p ≡ Some head
  pub distinct : are_distinct head.args ≡ true

-- what is applied is a constant, a free variable, a bound one, or an unknown that counts as a constant
abbrev pub IsStiff : Instance → Tm → Type 0
IsStiff s (App f a) = IsStiff s f
IsStiff s (Abs x T b) = ⊥
IsStiff s (Unknown x i T) = is_fixed s x i T ≡ true
IsStiff s t = Unit {0}

abbrev pub IsPattern : Instance → Tm → Type 0
IsPattern s (App f a) = IsSpread (App f a) ⊎ (IsStiff s f × (IsPattern s f × IsPattern s a))
IsPattern s (Abs x T b) = IsPattern s b
IsPattern s _ = Unit {0}

pub solve_flexible : (s : Instance) (o : Option Flexible) (h : Flexible) → unless_fixed s o ≡ Some h → (o ≡ Some h) × (is_fixed s h.name h.number h.typ ≡ false)
solve_flexible s None h e = absurd (cc)
solve_flexible s (Some k) h e = go (is_fixed s k.name k.number k.typ) refl e
  where
    go : (b : Bool) → is_fixed s k.name k.number k.typ ≡ b → cond b None (Some k) ≡ Some h → (Some k ≡ Some h) × (is_fixed s h.name h.number h.typ ≡ false)
    go true f g = absurd (cc)
    go false f g = (g, subst (λ (l : Flexible). is_fixed s l.name l.number l.typ ≡ false) (some_same g) f)

-- where a spine isn't to be solved, its head counts as a constant
pub fixed_flexible : (s : Instance) (o : Option Flexible) (h : Flexible) → o ≡ Some h → unless_fixed s o ≡ None → is_fixed s h.name h.number h.typ ≡ true
fixed_flexible s None h e n = absurd (cc)
fixed_flexible s (Some k) h e n = subst (λ (l : Flexible). is_fixed s l.name l.number l.typ ≡ true) (some_same e) (go (is_fixed s k.name k.number k.typ) n)
  where
    go : (b : Bool) → cond b None (Some k) ≡ None → b ≡ true
    go true f = refl
    go false f = absurd (cc)

pub flexible_stiff : (s : Instance) (p : Tm) (h : Flexible) → flexible p ≡ Some h → is_fixed s h.name h.number h.typ ≡ true → IsStiff s p
flexible_stiff s (Unknown x i T) h e f = subst (λ (k : Flexible). is_fixed s k.name k.number k.typ ≡ true) (sym (some_same e)) f
flexible_stiff s (App f a) h e k = let c = flexible_app f a h e in flexible_stiff s f c.front c.fun (subst (λ (l : Flexible). is_fixed s l.name l.number l.typ ≡ true) c.all k)
flexible_stiff s (Const c T) h e f = absurd (cc)
flexible_stiff s (Free x T) h e f = absurd (cc)
flexible_stiff s (Bound n) h e f = absurd (cc)
flexible_stiff s (Abs x T b) h e f = absurd (cc)

pub flexible_not_stiff : (s : Instance) (p : Tm) (h : Flexible) → flexible p ≡ Some h → is_fixed s h.name h.number h.typ ≡ false → IsStiff s p → ⊥
flexible_not_stiff s (Unknown x i T) h e f k = let g : is_fixed s x i T ≡ false = subst (λ (l : Flexible). is_fixed s l.name l.number l.typ ≡ false) (sym (some_same e)) f in absurd (cc)
flexible_not_stiff s (App f a) h e k l = let c = flexible_app f a h e in flexible_not_stiff s f c.front c.fun (subst (λ (m : Flexible). is_fixed s m.name m.number m.typ ≡ false) c.all k) l
flexible_not_stiff s (Const c T) h e f k = absurd (cc)
flexible_not_stiff s (Free x T) h e f k = absurd (cc)
flexible_not_stiff s (Bound n) h e f k = absurd (cc)
flexible_not_stiff s (Abs x T b) h e f k = absurd (cc)

-- all but the last of distinct numbers
front_distinct : (ns : List ℕ) (n : ℕ) → are_distinct (ns ++ n ∷ []) ≡ true → are_distinct ns ≡ true
front_distinct [] n h = refl
front_distinct (m ∷ ns) n h =
    let p = both_true (not (has_number (ns ++ n ∷ []) m)) (are_distinct (ns ++ n ∷ [])) h in
    and_true (not (has_number ns m)) (are_distinct ns) (fewer ns (has_number (ns ++ n ∷ []) m) (has_number ns m) p.0 (has_front ns n m)) (front_distinct ns n p.1)
  where
    has_front : (ns : List ℕ) (n m : ℕ) → has_number ns m ≡ true → has_number (ns ++ n ∷ []) m ≡ true
    has_front [] n m h = absurd (cc)
    has_front (k ∷ ns) n m h = or_mono (nat_eq k m) (has_number ns m) (nat_eq k m) (has_number (ns ++ n ∷ []) m) (λ e. e) (has_front ns n m) h

    fewer : (ns : List ℕ) (b c : Bool) → not b ≡ true → (c ≡ true → b ≡ true) → not c ≡ true
    fewer ns true c h f = absurd (cc)
    fewer ns false true h f = let e : false ≡ true = f refl in absurd (cc)
    fewer ns false false h f = refl

spread_pattern : (s : Instance) (p : Tm) → IsSpread p → IsPattern s p
spread_pattern s (App f a) h = inl h
spread_pattern s (Unknown x i T) h = tt
spread_pattern s (Const c T) h = tt
spread_pattern s (Free x T) h = tt
spread_pattern s (Bound n) h = tt
spread_pattern s (Abs x T b) h = let e = h.is in absurd (cc)

-- the parts of an unknown that counts as a constant, applied to distinct bound variables
pub spread_parts : (s : Instance) (f a : Tm) (h : IsSpread (App f a)) → is_fixed s h.head.name h.head.number h.head.typ ≡ true → IsStiff s f × (IsPattern s f × IsPattern s a)
spread_parts s f a h e =
    let c = flexible_app f a h.head h.is in (
      flexible_stiff s f c.front c.fun (subst (λ (m : Flexible). is_fixed s m.name m.number m.typ ≡ true) c.all e),
      (
        spread_pattern s f (record { head = c.front; is = c.fun; distinct = front_distinct c.front.args c.last (subst (λ (m : Flexible). are_distinct m.args ≡ true) c.all h.distinct) }),
        subst (IsPattern s) (sym c.arg) tt,
      ),
    )
