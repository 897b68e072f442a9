-- An instance of a theorem has a derivation.
use Rattle.std.proofs.Common.{◌≡◌, inl, inr, ℕ, List, [], ◌∷◌, Bool, true, false, cond, not, ◌&&◌, ◌||◌, nat_eq, Option, Some, None, is_some, unwrap_or, refl, sym, ap, ◌∙◌, subst}
use Rattle.isa_terms.specs.Types.{Ty}
use Rattle.isa_terms.specs.Terms.{Tm, Const, Free, Unknown, Bound, Abs, App, bare}
use Rattle.isa_terms.specs.Equal.{name_eq, ty_eq}
use Rattle.isa_terms.specs.Instance.{Instance, instance_of, find_term, inst_ty, inst_tm, in_ty, in_tm, in_tms}
use Rattle.isa_terms.specs.declared.inst.TypeEntry.{TypeEntry}
use Rattle.isa_terms.specs.declared.inst.TermEntry.{TermEntry}
use Rattle.isa_terms.proofs.Bare.{type_at_bare}
use Rattle.isa_terms.specs.Norm.{norm}
use Rattle.isa_terms.specs.Typing.{HasType}
use Rattle.isa_kernel.specs.Logic.{prop, eq}
use Rattle.isa_kernel.specs.Derivation as D
use Rattle.isa_kernel.specs.Derivation.{Member, Within, Tree, EqualElim, IsKept, Derives}
use Rattle.isa_kernel.specs.Theorem.{Theorem, IsDerived}
use Rattle.isa_kernel.specs.Inferences.{has_type, keeps, instantiated}
use Rattle.isa_terms.proofs.Functions.{cond_some}
use Rattle.isa_kernel.specs.declared.base.BaseEntry.{BaseEntry}
use Rattle.isa_kernel.specs.Axioms.{propositions}
use Rattle.isa_kernel.proofs.Members.{bares}
use Rattle.isa_kernel.proofs.Rules.{tree_more, IsDerivedOf}
use Rattle.isa_kernel.proofs.Sound.{has_type_is}
use Rattle.isa_terms.proofs.Typed.{type_of_typed}
use Rattle.isa_kernel.proofs.Closed.{norm_tree}
use Rattle.isa_kernel.proofs.Preserved.{derived_typed}

-- the entries without the names of binders
abbrev pub bare_entry : TermEntry → TermEntry
bare_entry f = record { name = f.name; number = f.number; typ = f.typ; term = bare f.term }

abbrev pub bare_entries : List TermEntry → List TermEntry
bare_entries [] = []
bare_entries (f ∷ fs) = bare_entry f ∷ bare_entries fs

abbrev pub bare_option : Option Tm → Option Tm
bare_option None = None
bare_option (Some t) = Some (bare t)

pub bare_cond : (b : Bool) (t : Tm) (o : Option Tm) → cond b (Some (bare t)) (bare_option o) ≡ bare_option (cond b (Some t) o)
bare_cond true t o = refl
bare_cond false t o = refl

pub find_bare : (x : List ℕ) (i : ℕ) (T : Ty) (fs : List TermEntry) → find_term x i T (bare_entries fs) ≡ bare_option (find_term x i T fs)
find_bare x i T [] = refl
find_bare x i T (f ∷ fs) =
    let b = name_eq x f.name && (nat_eq i f.number && ty_eq T f.typ) in
    ap (λ o. cond b (Some (bare f.term)) o) (find_bare x i T fs) ∙ bare_cond b f.term (find_term x i T fs)

pub unwrap_bare : (o : Option Tm) (x : List ℕ) (i : ℕ) (T : Ty) → unwrap_or (bare_option o) (Unknown x i T) ≡ bare (unwrap_or o (Unknown x i T))
unwrap_bare None x i T = refl
unwrap_bare (Some t) x i T = refl

pub is_some_bare : (o : Option Tm) → is_some (bare_option o) ≡ is_some o
is_some_bare None = refl
is_some_bare (Some t) = refl

module _ (es : List TypeEntry) (fs : List TermEntry) where
  pub inst_bare : (t : Tm) → inst_tm es (bare_entries fs) (bare t) ≡ bare (inst_tm es fs t)
  inst_bare (Const x T) = refl
  inst_bare (Free x T) = refl
  inst_bare (Unknown x i T) = ap (λ o. unwrap_or o (Unknown x i (inst_ty es T))) (find_bare x i T fs) ∙ unwrap_bare (find_term x i T fs) x i (inst_ty es T)
  inst_bare (Bound i) = refl
  inst_bare (Abs x T b) = ap (Abs [] (inst_ty es T)) (inst_bare b)
  inst_bare (App f a) = λ i. App (inst_bare f i) (inst_bare a i)

  pub in_bare : (t : Tm) → in_tm es (bare_entries fs) (bare t) ≡ in_tm es fs t
  in_bare (Const x T) = refl
  in_bare (Free x T) = refl
  in_bare (Unknown x i T) = ap (λ b. b || in_ty es T) (ap is_some (find_bare x i T fs) ∙ is_some_bare (find_term x i T fs))
  in_bare (Bound i) = refl
  in_bare (Abs x T b) = ap (λ c. in_ty es T || c) (in_bare b)
  in_bare (App f a) = λ i. in_bare f i || in_bare a i

pub or_false : (a b : Bool) → (a || b) ≡ false → (a ≡ false) × (b ≡ false)
or_false true b e = cc
or_false false b e = (refl, e)

pub and_true : (a b : Bool) → (a && b) ≡ true → (a ≡ true) × (b ≡ true)
and_true true b e = (refl, e)
and_true false b e = cc

pub not_true : (a : Bool) → not a ≡ true → a ≡ false
not_true true e = cc
not_true false e = refl

pub in_Member : (es : List TypeEntry) (fs : List TermEntry) (us : List Tm) (t : Tm) → in_tms es fs us ≡ false → Member t (bares us) → in_tm es (bare_entries fs) t ≡ false
in_Member es fs [] t e m = absurd m
in_Member es fs (u ∷ us) t e (inl q) = ap (in_tm es (bare_entries fs)) q ∙ in_bare es fs u ∙ (or_false (in_tm es fs u) (in_tms es fs us) e).0
in_Member es fs (u ∷ us) t e (inr m) = in_Member es fs us t (or_false (in_tm es fs u) (in_tms es fs us) e).1 m

pub in_tms_false : (es : List TypeEntry) (fs : List TermEntry) (us : List Tm) → ((t : Tm) → Member t us → in_tm es fs t ≡ false) → in_tms es fs us ≡ false
in_tms_false es fs [] h = refl
in_tms_false es fs (u ∷ us) h = (λ i. h u (inl refl) i || in_tms es fs us) ∙ in_tms_false es fs us (λ t m. h t (inr m))

pub kept : (es : List TypeEntry) (fs : List TermEntry) → keeps es fs ≡ true → IsKept es (bare_entries fs)
kept es [] e = tt
kept es (f ∷ fs) e =
    let p = and_true (has_type f.term (inst_ty es f.typ)) (keeps es fs) e in
    (type_at_bare [] f.term ∙ has_type_is f.term (inst_ty es f.typ) p.0, kept es fs p.1)

pub instance_derived : (es : List TypeEntry) (fs : List TermEntry) (p : Tm) (B : List BaseEntry) (H : List Tm) → keeps es fs ≡ true → in_tms es fs H ≡ false → IsDerivedOf B H p → IsDerivedOf B H (norm (inst_tm es fs p))
instance_derived es fs p B H k n d =
    let q : Tm = inst_tm es fs p in
    let free : in_tms es (bare_entries fs) d.used ≡ false = in_tms_false es (bare_entries fs) d.used (λ t m. in_Member es fs H t n (d.within t m)) in
    let tree : Tree (propositions B) d.used (bare q) = subst (λ r. Tree (propositions B) d.used r) (inst_bare es fs p) (D.Instance es (bare_entries fs) (kept es fs k) free d.tree) in
    let typed : HasType q prop = sym (type_at_bare [] q) ∙ type_of_typed (derived_typed tree) in
    let same : Tree (propositions B) [] (eq prop (bare q) (bare (norm q))) = tree_more (λ r m. absurd m) (norm_tree q prop typed) in
    record { used = d.used; tree = EqualElim same tree; within = d.within }

pub instantiated_sound : (s : Instance) (b th : Theorem) → instantiated s b ≡ Some th → IsDerived b → IsDerived th
instantiated_sound s b th e d =
    let t = cond_some (keeps s.types s.terms && not (in_tms s.types s.terms b.hyps)) _ e in
    let u = and_true (keeps s.types s.terms) (not (in_tms s.types s.terms b.hyps)) t.0 in
    let made : record { hyps = b.hyps; prop = instance_of s b.prop; base = b.base } ≡ th = cc (t.1) in
    subst (λ x. IsDerived x) made (record { derivation = instance_derived s.types s.terms b.prop b.base b.hyps u.0 (not_true (in_tms s.types s.terms b.hyps) u.1) d.derivation })
