-- Where there is a match, matching of patterns finds it.
use Rattle.std.proofs.Common.{◌≡◌, ℕ, List, [], ◌∷◌, map, Bool, true, false, ◌&&◌, nat_eq, refl, sym, ap, subst, ◌∙◌, cond, inl, inr, Option, Some, None, is_some, unwrap_or}
use Rattle.std.specs.Cmp.Lexicographic.{bytes_decides}
use Rattle.std.proofs.lemmas.Bool.Decides.{Decides-eqb}
use Rattle.isa_terms.specs.Types.{Ty}
use Rattle.isa_terms.specs.Terms.{Tm, Const, Free, Unknown, Bound, Abs, App, bare}
use Rattle.isa_terms.specs.Equal.{name_eq, ty_eq}
use Rattle.isa_terms.specs.Typing.{function_of, HasType}
use Rattle.isa_terms.specs.Replace.{raise}
use Rattle.isa_terms.specs.Norm.{norm, levels}
use Rattle.isa_terms.specs.Normal.{IsHead, IsNormal}
use Rattle.isa_terms.specs.Instance.{Instance, find_type, find_term, inst_ty, inst_tm}
use Rattle.isa_terms.specs.declared.inst.TypeEntry.{TypeEntry}
use Rattle.isa_terms.specs.declared.inst.TermEntry.{TermEntry}
use Rattle.isa_terms.proofs.Bare.{tm_decides}
use Rattle.isa_terms.specs.Typed.{Typed, TBound, TAbs, TApp}
use Rattle.isa_terms.specs.Conversion.{Conv}
use Rattle.isa_terms.specs.Instances.{IsKept}
use Rattle.isa_terms.proofs.Typed.{typed_of_type}
use Rattle.isa_terms.proofs.FreeNames.{norm_same_conv}
use Rattle.isa_terms.proofs.NormalForms.{norm_same, apply_head}
use Rattle.isa_terms.proofs.Opening.{next_typed, open_conv, bodies_conv}
use Rattle.isa_terms.proofs.Instances.{inst_typed, closed_anywhere}
use Rattle.isa_terms.proofs.Unique.{app_typed, abs_typed, conv_norm}
use Rattle.isa_unify.specs.TypeUnification.{ty_has}
use Rattle.isa_unify.specs.Matching.{Binder, Flexible, flexible, is_fixed, to_solve, is_closed, solved, bound_to, typed, matched, has_unknown, has_type_unknown, app_parts, ty_matched, ◌>>=◌}
use Rattle.isa_unify.proofs.Tests.{or_left, or_right, some_same, value_of}
use Rattle.isa_unify.proofs.TypeMatches.{TypesWithin, types_within_self, Fit, ty_finds, ty_completes}
use Rattle.isa_unify.proofs.Flexible.{apps, flexible_unknown, flexible_typed, are_distinct, IsStiff, IsPattern, solve_flexible, flexible_not_stiff}
use Rattle.isa_unify.proofs.Solutions.{types_of, Fits, fits_more, fits_map, solution_exists, solution_is, solution_only, misses_all, conv_closed, fit_domain, fit_range}
use Rattle.isa_unify.proofs.PatternMatches.{AllGood, find_set_term, unknown_true, unknown_self, entry_of, with_term, Place, Asked, asked_more, app_asked, fixed_place, fixed_is, placed, sound, flexible_becomes, opened_normal}

-- the types of s are among those of r, and its terms are, but for the names of binders, the normal forms of those of r
pub record Agrees (s r : Instance) : Type 0 where
  pub types : TypesWithin s.types r.types
  pub terms : (x : List ℕ) (i : ℕ) (T : Ty) (u : Tm) → find_term x i T s.terms ≡ Some u → (v : Tm) × (find_term x i T r.terms ≡ Some v) × (bare (norm v) ≡ bare u)

-- r has what the pattern asks for
pub record Covers (r : Instance) (p : Tm) : Type 0 where
  pub types : (x : List ℕ) (i : ℕ) → has_type_unknown x i p ≡ true → is_some (find_type x i r.types) ≡ true
  pub terms : (x : List ℕ) (i : ℕ) (T : Ty) → has_unknown x i T p ≡ true → is_some (find_term x i T r.terms) ≡ true

covers_body : {r : Instance} {x : List ℕ} {T : Ty} {b : Tm} → Covers r (Abs x T b) → Covers r b
covers_body {r} {x} {T} {b} c = record { types = λ y i h. c.types y i (or_right (ty_has y i T) (has_type_unknown y i b) h); terms = c.terms }

covers_fun : {r : Instance} {f a : Tm} → Covers r (App f a) → Covers r f
covers_fun {r} {f} {a} c = record { types = λ y i h. c.types y i (or_left (has_type_unknown y i f) (has_type_unknown y i a) h); terms = λ y i T h. c.terms y i T (or_left (has_unknown y i T f) (has_unknown y i T a) h) }

covers_arg : {r : Instance} {f a : Tm} → Covers r (App f a) → Covers r a
covers_arg {r} {f} {a} c = record { types = λ y i h. c.types y i (or_right (has_type_unknown y i f) (has_type_unknown y i a) h); terms = λ y i T h. c.terms y i T (or_right (has_unknown y i T f) (has_unknown y i T a) h) }

abbrev pub Completes : Tm → Type 0
Completes p = (t : Tm) (G : List Ty) (D : List Binder) (A B : Ty) (s r : Instance) → Asked s p → IsNormal t → Typed G p A → Typed (types_of D) t B → Fits s.types G D → Place p s A B → Covers r p → IsKept r.types r.terms → Agrees s r → bare (norm (inst_tm r.types r.terms p)) ≡ bare t
    → (q : Instance) × (matched D s p t ≡ Some q) × Agrees q r

-- ---- constants and free variables
const_name : {c d : List ℕ} {T U : Ty} → Const c T ≡ Const d U → c ≡ d
const_name e = cc

const_typ : {c d : List ℕ} {T U : Ty} → Const c T ≡ Const d U → T ≡ U
const_typ e = cc

free_name : {c d : List ℕ} {T U : Ty} → Free c T ≡ Free d U → c ≡ d
free_name e = cc

free_typ : {c d : List ℕ} {T U : Ty} → Free c T ≡ Free d U → T ≡ U
free_typ e = cc

bound_number : {m n : ℕ} → Bound m ≡ Bound n → m ≡ n
bound_number e = cc

atom_completes : (c d : List ℕ) (T U : Ty) (s r : Instance) → c ≡ d → inst_ty r.types T ≡ U → ((x : List ℕ) (i : ℕ) → ty_has x i T ≡ true → is_some (find_type x i r.types) ≡ true) → Agrees s r → (q : Instance) × (typed (name_eq c d) s T U ≡ Some q) × Agrees q r
atom_completes c d T U s r n e h a =
    let k = ty_completes T U s r.types a.types h e in
    let f = ty_finds T U s k.0 k.1 in
    (k.0, ap (λ b. cond b (ty_matched s T U) None) ((bytes_decides c d).1 n) ∙ k.1, record { types = k.2; terms = λ x i V u l. a.terms x i V u (ap (find_term x i V) (sym f.terms) ∙ l) })

const_completes : (c : List ℕ) (T : Ty) → Completes (Const c T)
const_completes c T (Const d U) G D A B s r pat n e f fits pl cov kept a g = atom_completes c d T U s r (const_name g) (const_typ g) cov.types a
const_completes c T (Free d U) G D A B s r pat n e f fits pl cov kept a g = absurd (cc)
const_completes c T (Unknown d i U) G D A B s r pat n e f fits pl cov kept a g = absurd (cc)
const_completes c T (Bound k) G D A B s r pat n e f fits pl cov kept a g = absurd (cc)
const_completes c T (Abs d U b) G D A B s r pat n e f fits pl cov kept a g = absurd (cc)
const_completes c T (App h b) G D A B s r pat n e f fits pl cov kept a g = absurd (cc)

free_completes : (c : List ℕ) (T : Ty) → Completes (Free c T)
free_completes c T (Free d U) G D A B s r pat n e f fits pl cov kept a g = atom_completes c d T U s r (free_name g) (free_typ g) cov.types a
free_completes c T (Const d U) G D A B s r pat n e f fits pl cov kept a g = absurd (cc)
free_completes c T (Unknown d i U) G D A B s r pat n e f fits pl cov kept a g = absurd (cc)
free_completes c T (Bound k) G D A B s r pat n e f fits pl cov kept a g = absurd (cc)
free_completes c T (Abs d U b) G D A B s r pat n e f fits pl cov kept a g = absurd (cc)
free_completes c T (App h b) G D A B s r pat n e f fits pl cov kept a g = absurd (cc)

bound_completes : (m : ℕ) → Completes (Bound m)
bound_completes m (Bound k) G D A B s r pat n e f fits pl cov kept a g = (s, ap (λ b. cond b (Some s) None) ((Decides-eqb m k).1 (bound_number g)), a)
bound_completes m (Const d U) G D A B s r pat n e f fits pl cov kept a g = absurd (cc)
bound_completes m (Free d U) G D A B s r pat n e f fits pl cov kept a g = absurd (cc)
bound_completes m (Unknown d i U) G D A B s r pat n e f fits pl cov kept a g = absurd (cc)
bound_completes m (Abs d U b) G D A B s r pat n e f fits pl cov kept a g = absurd (cc)
bound_completes m (App h b) G D A B s r pat n e f fits pl cov kept a g = absurd (cc)

-- ---- the pattern's instance has the type of the term
inst_place : (r : Instance) (G : List Ty) (D : List Binder) (p : Tm) (A B : Ty) (es : List TypeEntry) → IsKept r.types r.terms → TypesWithin es r.types → Fits es G D → Fit es A B → Typed G p A → Typed (types_of D) (inst_tm r.types r.terms p) B
inst_place r G D p A B es kept w fits a d =
    subst (λ K. Typed K (inst_tm r.types r.terms p) B) (fits_map r.types G D w fits)
    (subst (λ U. Typed (map (inst_ty r.types) G) (inst_tm r.types r.terms p) U) (a.gives r.types w) (inst_typed r.types r.terms kept d))

-- ---- unknowns applied to variables
kept_found : (es : List TypeEntry) (fs : List TermEntry) (x : List ℕ) (i : ℕ) (T : Ty) (v : Tm) → IsKept es fs → find_term x i T fs ≡ Some v → HasType v (inst_ty es T)
kept_found es [] x i T v k e = absurd (cc)
kept_found es (f ∷ fs) x i T v k e = go (name_eq x f.name && (nat_eq i f.number && ty_eq T f.typ)) refl e (kept_found es fs x i T v k.1)
  where
    go : (c : Bool) → (name_eq x f.name && (nat_eq i f.number && ty_eq T f.typ)) ≡ c → cond c (Some f.term) (find_term x i T fs) ≡ Some v → (find_term x i T fs ≡ Some v → HasType v (inst_ty es T)) → HasType v (inst_ty es T)
    go true h l ih =
        let a = unknown_true x i T f.name f.number f.typ h in
        subst (λ u. HasType u (inst_ty es T)) (some_same l) (subst (λ U. HasType f.term (inst_ty es U)) (sym a.2) k.0)
    go false h l ih = ih l

agrees_added : (s r : Instance) (h : Flexible) (u v : Tm) → Agrees s r → find_term h.name h.number h.typ r.terms ≡ Some v → bare (norm v) ≡ bare u → Agrees (with_term s h u) r
agrees_added s r h u v a e same = record {
  types = a.types;
  terms = λ x i T w k. go x i T w (name_eq x h.name && (nat_eq i h.number && ty_eq T h.typ)) refl (sym (find_set_term (entry_of h u) s.terms x i T) ∙ k);
}
  where
    go : (x : List ℕ) (i : ℕ) (T : Ty) (w : Tm) (c : Bool) → (name_eq x h.name && (nat_eq i h.number && ty_eq T h.typ)) ≡ c → cond c (Some u) (find_term x i T s.terms) ≡ Some w → (z : Tm) × (find_term x i T r.terms ≡ Some z) × (bare (norm z) ≡ bare w)
    go x i T w true k l =
        let m = unknown_true x i T h.name h.number h.typ k in
        (v, (λ j. find_term (m.0 j) (m.1 j) (m.2 j) r.terms) ∙ e, same ∙ ap bare (some_same l))
    go x i T w false k l = a.terms x i T w l

bound_completes_term : (s r : Instance) (h : Flexible) (u v : Tm) (o : Option Tm) → Agrees s r → find_term h.name h.number h.typ r.terms ≡ Some v → bare (norm v) ≡ bare u → find_term h.name h.number h.typ s.terms ≡ o → (q : Instance) × (bound_to o s h u ≡ Some q) × Agrees q r
bound_completes_term s r h u v None a e same f = (with_term s h u, refl, agrees_added s r h u v a e same)
bound_completes_term s r h u v (Some w) a e same f =
    let z = a.terms h.name h.number h.typ w f in
    let is : z.0 ≡ v = some_same (sym z.1 ∙ e) in
    let equal : bare w ≡ bare u = sym z.2 ∙ ap (λ x. bare (norm x)) is ∙ same in
    (s, ap (λ b. cond b (Some s) None) ((tm_decides w u).1 equal), a)

flexible_completes : (p t : Tm) (h : Flexible) (G : List Ty) (D : List Binder) (A B : Ty) (s r : Instance) → flexible p ≡ Some h → are_distinct h.args ≡ true → IsNormal t → Typed G p A → Typed (types_of D) t B → Fits s.types G D → Fit s.types A B → Covers r p → IsKept r.types r.terms → Agrees s r → bare (norm (inst_tm r.types r.terms p)) ≡ bare t
    → (q : Instance) × (solved D s h t ≡ Some q) × Agrees q r
flexible_completes p t h G D A B s r e dis n d f fits at cov kept a g =
    let K = types_of D in
    let sp = flexible_typed G p h A e d in
    let u = solution_exists s.types G D h.args h.typ A t fits sp in
    let i = solution_is s.types G D h.args h.typ A B t u.0 fits sp at f n u.1 in
    let here = cov.terms h.name h.number h.typ (flexible_unknown h.name h.number h.typ p h e ∙ unknown_self h.name h.number h.typ) in
    let v = value_of (find_term h.name h.number h.typ r.terms) here in
    let closed : Typed [] v.0 (inst_ty r.types h.typ) = typed_of_type [] v.0 (inst_ty r.types h.typ) (kept_found r.types r.terms h.name h.number h.typ v.0 kept v.1) in
    let v_typed : Typed [] v.0 i.typ = subst (λ U. Typed [] v.0 U) (i.fit.gives r.types a.types) closed in
    let whole : Conv K B (inst_tm r.types r.terms p) t = norm_same_conv (inst_place r G D p A B s.types kept a.types fits at d) f (g ∙ ap bare (sym (norm_same t n))) in
    let applied : Conv K B (apps v.0 h.args) t = subst (λ x. Conv K B x t) (flexible_becomes r p h v.0 e v.1) whole in
    let c : Conv K i.typ v.0 u.0 = solution_only D h.args i.typ B v.0 t u.0 dis (misses_all h.args v_typed) i.spined (closed_anywhere K v_typed) applied u.1 in
    let k = conv_closed K i.typ v.0 u.0 v_typed c i.normal in
    let o = bound_completes_term s r h u.0 v.0 (find_term h.name h.number h.typ s.terms) a v.1 k.1 refl in (
      o.0,
      ap (λ x. x >>= λ w. cond (is_closed 0 w) (bound_to (find_term h.name h.number h.typ s.terms) s h w) None) u.1
          ∙ ap (λ b. cond b (bound_to (find_term h.name h.number h.typ s.terms) s h u.0) None) k.0 ∙ o.1,
      o.2,
    )

-- an unknown that counts as a constant stands for itself, up to normal form
fixed_value : (s r : Instance) → Agrees s r → (x : List ℕ) (i : ℕ) (T : Ty) → is_fixed s x i T ≡ true → bare (norm (inst_tm r.types r.terms (Unknown x i T))) ≡ Unknown x i T
fixed_value s r a x i T f =
    let u = fixed_is s x i T f in
    let v = a.terms x i T u.0 u.1 in
    ap (λ o. bare (norm (unwrap_or o (Unknown x i (inst_ty r.types T))))) v.1 ∙ v.2 ∙ u.2

unknown_placed : (s r : Instance) (G K : List Ty) (x : List ℕ) (i : ℕ) (T A B : Ty) (t : Tm) → AllGood s.types s.terms → Typed G (Unknown x i T) A → Typed K t B → Agrees s r → Place (Unknown x i T) s A B → bare (norm (inst_tm r.types r.terms (Unknown x i T))) ≡ bare t → Fit s.types A B
unknown_placed s r G K x i T A B t g d e a (inl f) h = fixed_place s K G x i T A B t g f d e (sym h ∙ fixed_value s r a x i T f)
unknown_placed s r G K x i T A B t g d e a (inr f) h = f

unknown_completes : (x : List ℕ) (i : ℕ) (T : Ty) → Completes (Unknown x i T)
unknown_completes x i T t G D A B s r pat n e f fits pl cov kept a g =
    flexible_completes (Unknown x i T) t (record { name = x; number = i; typ = T; args = [] }) G D A B s r refl refl n e f fits (unknown_placed s r G (types_of D) x i T A B t pat.0 e f a pl g) cov kept a g

-- ---- abstractions
abs_both : (x : List ℕ) (T : Ty) (b : Tm) → Completes b → (y : List ℕ) (U : Ty) (c : Tm) (G : List Ty) (D : List Binder) (s r : Instance) (A2 B2 : Ty) → Asked s b → IsNormal (Abs y U c) → Typed (T ∷ G) b A2 → Typed (U ∷ types_of D) c B2 → Fits s.types G D → Fit s.types (function_of T A2) (function_of U B2) → Covers r (Abs x T b) → IsKept r.types r.terms → Agrees s r → bare (norm (inst_tm r.types r.terms (Abs x T b))) ≡ bare (Abs y U c)
    → (q : Instance) × (matched (record { name = x; typ = U } ∷ D) s b c ≡ Some q) × Agrees q r
abs_both x T b ih y U c G D s r A2 B2 pat n e f fits at cov kept a g =
    let K = types_of D in
    let under = record { name = x; typ = U } ∷ D in
    let ib = inst_tm r.types r.terms b in
    let whole : Conv K (function_of U B2) (Abs x (inst_ty r.types T) ib) (Abs y U c) = norm_same_conv (inst_place r G D (Abs x T b) (function_of T A2) (function_of U B2) s.types kept a.types fits at (TAbs e)) (TAbs f) (g ∙ ap bare (sym (norm_same (Abs y U c) n))) in
    let same : inst_ty r.types T ≡ U = (fit_domain at).gives r.types a.types in
    let named : Conv K (function_of U B2) (Abs x U ib) (Abs y U c) = subst (λ V. Conv K (function_of U B2) (Abs x V ib) (Abs y U c)) same whole in
    let body : Typed (U ∷ K) ib B2 = inst_place r (T ∷ G) under b A2 B2 s.types kept a.types (fit_domain at, fits) (fit_range at) e in
    let inner = bodies_conv body f named in
    ih c (T ∷ G) under A2 B2 s r pat n.0 e f (fit_domain at, fits) (inr (fit_range at)) (covers_body cov) kept a (conv_norm inner ∙ ap bare (norm_same c n.0))

abs_open : (x : List ℕ) (T : Ty) (b : Tm) → Completes b → (t : Tm) (G : List Ty) (D : List Binder) (s r : Instance) (A2 S R : Ty) → Asked s b → IsHead t → IsNormal t → Typed (T ∷ G) b A2 → Typed (types_of D) t (function_of S R) → Fits s.types G D → Fit s.types (function_of T A2) (function_of S R) → Covers r (Abs x T b) → IsKept r.types r.terms → Agrees s r → bare (norm (inst_tm r.types r.terms (Abs x T b))) ≡ bare t
    → (q : Instance) × (matched (record { name = x; typ = S } ∷ D) s b (App (raise 1 0 t) (Bound 0)) ≡ Some q) × Agrees q r
abs_open x T b ih t G D s r A2 S R pat hd n e f fits at cov kept a g =
    let K = types_of D in
    let under = record { name = x; typ = S } ∷ D in
    let ib = inst_tm r.types r.terms b in
    let opened = App (raise 1 0 t) (Bound 0) in
    let normal = opened_normal t hd n in
    let whole : Conv K (function_of S R) (Abs x (inst_ty r.types T) ib) t = norm_same_conv (inst_place r G D (Abs x T b) (function_of T A2) (function_of S R) s.types kept a.types fits at (TAbs e)) f (g ∙ ap bare (sym (norm_same t n))) in
    let same : inst_ty r.types T ≡ S = (fit_domain at).gives r.types a.types in
    let named : Conv K (function_of S R) (Abs x S ib) t = subst (λ V. Conv K (function_of S R) (Abs x V ib) t) same whole in
    let body : Typed (S ∷ K) ib R = inst_place r (T ∷ G) under b A2 R s.types kept a.types (fit_domain at, fits) (fit_range at) e in
    let inner = open_conv body named in
    ih opened (T ∷ G) under A2 R s r pat normal e (TApp (next_typed S f) (TBound refl)) (fit_domain at, fits) (inr (fit_range at)) (covers_body cov) kept a (conv_norm inner ∙ ap bare (norm_same opened normal))

abs_opened : (x : List ℕ) (T : Ty) (b : Tm) → Completes b → (t : Tm) (G : List Ty) (D : List Binder) (A B : Ty) (s r : Instance) → Asked s b → IsHead t → IsNormal t → Typed G (Abs x T b) A → Typed (types_of D) t B → Fits s.types G D → Fit s.types A B → Covers r (Abs x T b) → IsKept r.types r.terms → Agrees s r → bare (norm (inst_tm r.types r.terms (Abs x T b))) ≡ bare t
    → (q : Instance) × (matched (record { name = x; typ = inst_ty s.types T } ∷ D) s b (App (raise 1 0 t) (Bound 0)) ≡ Some q) × Agrees q r
abs_opened x T b ih t G D A B s r pat hd n e f fits at cov kept a g =
    let p = abs_typed e in
    let at2 : Fit s.types (function_of T p.0) B = subst (λ V. Fit s.types V B) p.1 at in
    let is : function_of (inst_ty s.types T) (inst_ty s.types p.0) ≡ B = at2.gives s.types (types_within_self s.types) in
    abs_open x T b ih t G D s r p.0 (inst_ty s.types T) (inst_ty s.types p.0) pat hd n p.2 (subst (Typed (types_of D) t) (sym is) f) fits (subst (Fit s.types (function_of T p.0)) (sym is) at2) cov kept a g

abs_completes : (x : List ℕ) (T : Ty) (b : Tm) → Completes b → Completes (Abs x T b)
abs_completes x T b ih (Abs y U c) G D A B s r pat n e f fits pl cov kept a g =
    let p = abs_typed e in
    let q = abs_typed f in
    let at : Fit s.types A B = placed (Abs x T b) s A B (λ k. k) pl in
    abs_both x T b ih y U c G D s r p.0 q.0 pat n p.2 q.2 fits (subst (λ V. Fit s.types V (function_of U q.0)) p.1 (subst (Fit s.types A) q.1 at)) cov kept a g
abs_completes x T b ih (Const d U) G D A B s r pat n e f fits pl cov kept a g = abs_opened x T b ih (Const d U) G D A B s r pat tt n e f fits (placed (Abs x T b) s A B (λ k. k) pl) cov kept a g
abs_completes x T b ih (Free d U) G D A B s r pat n e f fits pl cov kept a g = abs_opened x T b ih (Free d U) G D A B s r pat tt n e f fits (placed (Abs x T b) s A B (λ k. k) pl) cov kept a g
abs_completes x T b ih (Unknown d i U) G D A B s r pat n e f fits pl cov kept a g = abs_opened x T b ih (Unknown d i U) G D A B s r pat tt n e f fits (placed (Abs x T b) s A B (λ k. k) pl) cov kept a g
abs_completes x T b ih (Bound k) G D A B s r pat n e f fits pl cov kept a g = abs_opened x T b ih (Bound k) G D A B s r pat tt n e f fits (placed (Abs x T b) s A B (λ k. k) pl) cov kept a g
abs_completes x T b ih (App h c) G D A B s r pat n e f fits pl cov kept a g = abs_opened x T b ih (App h c) G D A B s r pat tt n e f fits (placed (Abs x T b) s A B (λ k. k) pl) cov kept a g

-- ---- applications
app_fun : {f g a b : Tm} → App f a ≡ App g b → f ≡ g
app_fun e = cc

app_arg : {f g a b : Tm} → App f a ≡ App g b → a ≡ b
app_arg e = cc

unknown_head : (t : Tm) (x : List ℕ) (i : ℕ) (T : Ty) → bare t ≡ Unknown x i T → IsHead t
unknown_head (Unknown y j U) x i T e = tt
unknown_head (Const y U) x i T e = tt
unknown_head (Free y U) x i T e = tt
unknown_head (Bound n) x i T e = tt
unknown_head (App f a) x i T e = tt
unknown_head (Abs y U b) x i T e = absurd (cc)

-- the instance of a stiff term is no abstraction
stiff_head : (s r : Instance) → Agrees s r → (f : Tm) → IsStiff s f → IsHead (norm (inst_tm r.types r.terms f))
stiff_head s r a (Const c T) h = tt
stiff_head s r a (Free c T) h = tt
stiff_head s r a (Bound n) h = tt
stiff_head s r a (Unknown x i T) h = unknown_head (norm (inst_tm r.types r.terms (Unknown x i T))) x i T (fixed_value s r a x i T h)
stiff_head s r a (Abs x T b) h = absurd h
stiff_head s r a (App f c) h =
    let g = norm (inst_tm r.types r.terms f) in
    subst IsHead (sym (apply_head (levels g) g (norm (inst_tm r.types r.terms c)) (stiff_head s r a f h))) tt

inst_app : (s r : Instance) (f a : Tm) → Agrees s r → IsStiff s f → bare (norm (inst_tm r.types r.terms (App f a))) ≡ App (bare (norm (inst_tm r.types r.terms f))) (bare (norm (inst_tm r.types r.terms a)))
inst_app s r f a g h = let k = norm (inst_tm r.types r.terms f) in ap bare (apply_head (levels k) k (norm (inst_tm r.types r.terms a)) (stiff_head s r g f h))

app_rigid : (f a : Tm) → Completes f → Completes a → (g c : Tm) (G : List Ty) (D : List Binder) (A B : Ty) (s r : Instance) → IsStiff s f → Asked s f → Asked s a → IsNormal (App g c) → Typed G (App f a) A → Typed (types_of D) (App g c) B → Fits s.types G D → Covers r (App f a) → IsKept r.types r.terms → Agrees s r → App (bare (norm (inst_tm r.types r.terms f))) (bare (norm (inst_tm r.types r.terms a))) ≡ bare (App g c)
    → (q : Instance) × ((matched D s f g >>= λ i. matched D i a c) ≡ Some q) × Agrees q r
app_rigid f a ihf iha g c G D A B s r rig pf pa n d e fits cov kept agree k =
    let p = app_typed d in
    let p2 = app_typed e in
    let one = ihf g G D (function_of p.0 A) (function_of p2.0 B) s r pf n.1.0 p.1 p2.1 fits (inl rig) (covers_fun cov) kept agree (app_fun k) in
    let found = sound f g G D (function_of p.0 A) (function_of p2.0 B) s one.0 pf n.1.0 p.1 p2.1 fits (inl rig) one.1 in
    let two = iha c G D p.0 p2.0 one.0 r (asked_more D s one.0 f g a (function_of p.0 A) (function_of p2.0 B) found pa) n.1.1 p.2 p2.2 (fits_more G D found.types_within fits) (inr (fit_domain found.fit)) (covers_arg cov) kept one.2 (app_arg k) in
    (two.0, ap (λ o. o >>= λ i. matched D i a c) one.1 ∙ two.1, two.2)

app_case : (f a : Tm) → Completes f → Completes a → (t : Tm) (G : List Ty) (D : List Binder) (A B : Ty) (s r : Instance) → IsStiff s f → Asked s f → Asked s a → IsNormal t → Typed G (App f a) A → Typed (types_of D) t B → Fits s.types G D → Covers r (App f a) → IsKept r.types r.terms → Agrees s r → App (bare (norm (inst_tm r.types r.terms f))) (bare (norm (inst_tm r.types r.terms a))) ≡ bare t
    → (q : Instance) × ((app_parts t >>= λ i. (matched D s f i.0 >>= λ j. matched D j a i.1)) ≡ Some q) × Agrees q r
app_case f a ihf iha (App g c) G D A B s r rig pf pa n d e fits cov kept agree k = app_rigid f a ihf iha g c G D A B s r rig pf pa n d e fits cov kept agree k
app_case f a ihf iha (Const y U) G D A B s r rig pf pa n d e fits cov kept agree k = absurd (cc)
app_case f a ihf iha (Free y U) G D A B s r rig pf pa n d e fits cov kept agree k = absurd (cc)
app_case f a ihf iha (Unknown y i U) G D A B s r rig pf pa n d e fits cov kept agree k = absurd (cc)
app_case f a ihf iha (Bound y) G D A B s r rig pf pa n d e fits cov kept agree k = absurd (cc)
app_case f a ihf iha (Abs y U b) G D A B s r rig pf pa n d e fits cov kept agree k = absurd (cc)

-- the variables to which an unknown that is to be solved is applied
solve_distinct : (s : Instance) (f a : Tm) (h : Flexible) → flexible (App f a) ≡ Some h → is_fixed s h.name h.number h.typ ≡ false → IsPattern s (App f a) → are_distinct h.args ≡ true
solve_distinct s f a h e n (inl p) = subst (λ (k : Flexible). are_distinct k.args ≡ true) (some_same (sym p.is ∙ e)) p.distinct
solve_distinct s f a h e n (inr p) = absurd (flexible_not_stiff s (App f a) h e n p.0)

app_either : (f a : Tm) → Completes f → Completes a → (t : Tm) (G : List Ty) (D : List Binder) (A B : Ty) (s r : Instance) → (o : Option Flexible) → to_solve s (App f a) ≡ o → Asked s (App f a) → IsNormal t → Typed G (App f a) A → Typed (types_of D) t B → Fits s.types G D → Place (App f a) s A B → Covers r (App f a) → IsKept r.types r.terms → Agrees s r → bare (norm (inst_tm r.types r.terms (App f a))) ≡ bare t
    → (q : Instance) × (elim o as (λ _. Option Instance) [ Some h ↦ solved D s h t | None ↦ (app_parts t >>= λ i. (matched D s f i.0 >>= λ j. matched D j a i.1)) ] ≡ Some q) × Agrees q r
app_either f a ihf iha t G D A B s r (Some h) e pat n d g fits pl cov kept agree k =
    let is = solve_flexible s (flexible (App f a)) h e in
    flexible_completes (App f a) t h G D A B s r is.0 (solve_distinct s f a h is.0 is.1 pat.1) n d g fits (placed (App f a) s A B (λ st. flexible_not_stiff s (App f a) h is.0 is.1 st) pl) cov kept agree k
app_either f a ihf iha t G D A B s r None e pat n d g fits pl cov kept agree k =
    let p = app_asked s f a e pat in
    app_case f a ihf iha t G D A B s r p.0 p.1.0 p.1.1 n d g fits cov kept agree (sym (inst_app s r f a agree p.0) ∙ k)

app_completes : (f a : Tm) → Completes f → Completes a → Completes (App f a)
app_completes f a ihf iha t G D A B s r pat n d g fits pl cov kept agree k = app_either f a ihf iha t G D A B s r (to_solve s (App f a)) refl pat n d g fits pl cov kept agree k

-- The matcher finds a match where there is one.
pub completes : (p : Tm) → Completes p
completes (Const c T) = const_completes c T
completes (Free x T) = free_completes x T
completes (Unknown x i T) = unknown_completes x i T
completes (Bound n) = bound_completes n
completes (Abs x T b) = abs_completes x T b (completes b)
completes (App f a) = app_completes f a (completes f) (completes a)
