-- A match gives the term, and keeps types.
use Rattle.std.proofs.Common.{◌≡◌, ℕ, List, [], ◌∷◌, ◌++◌, Bool, true, false, cond, ◌&&◌, nat_eq, Option, Some, None, unwrap_or, refl, sym, ap, ◌∙◌, subst}
use Rattle.std.specs.Prelude.{is_none}
use Rattle.std.proofs.lemmas.Bool.Decides.{Decides-eqb}
use Rattle.std.specs.Cmp.Lexicographic.{bytes_decides}
use Rattle.isa_terms.specs.Types.{Ty, Tys, TyCon, TyFixed, TyUnknown, NoTys, MoreTys}
use Rattle.isa_terms.specs.Typing.{function_parts}
use Rattle.isa_terms.specs.declared.inst.TypeEntry.{TypeEntry}
use Rattle.isa_terms.specs.Terms.{Tm, Const, Free, Unknown, Bound, Abs, App, bare}
use Rattle.isa_terms.specs.Equal.{name_eq, ty_eq, tm_eq}
use Rattle.isa_terms.specs.Instance.{find_term, inst_ty, inst_tys, inst_tm}
use Rattle.isa_terms.specs.declared.inst.TermEntry.{TermEntry}
use Rattle.isa_terms.proofs.Bare.{tm_decides}
use Rattle.isa_terms.proofs.Equal.{ty_decides}
use Rattle.isa_kernel.specs.Forms.{app_parts}
use Rattle.isa_kernel.specs.Inferences.{has_type, keeps}
use Rattle.isa_terms.proofs.Functions.{bind_some, cond_some}
use Rattle.isa_kernel.proofs.Parts.{app_made}
use Rattle.isa_goal.specs.Matching.{is_ground, are_ground, is_first_order, matched_unknown, matched}
use Rattle.isa_subgoal.proofs.Instancing.{empty_ty}

-- what the first entries give, the second give too
pub record Grows (fs gs : List TermEntry) : Type 0 where
  pub at : (x : List ℕ) (i : ℕ) (T : Ty) (u : Tm) → find_term x i T fs ≡ Some u → find_term x i T gs ≡ Some u

pub grows_same : (fs : List TermEntry) → Grows fs fs
grows_same fs = record { at = λ x i T u e. e }

grows_more : {fs gs hs : List TermEntry} → Grows fs gs → Grows gs hs → Grows fs hs
grows_more f g = record { at = λ x i T u e. g.at x i T u (f.at x i T u e) }

find_front : (fs gs : List TermEntry) (x : List ℕ) (i : ℕ) (T : Ty) (u : Tm) → find_term x i T fs ≡ Some u → find_term x i T (fs ++ gs) ≡ Some u
find_front [] gs x i T u e = cc
find_front (f ∷ fs) gs x i T u e = go (name_eq x f.name && (nat_eq i f.number && ty_eq T f.typ)) e (λ k. find_front fs gs x i T u k)
  where
    go : (b : Bool) → cond b (Some f.term) (find_term x i T fs) ≡ Some u → (find_term x i T fs ≡ Some u → find_term x i T (fs ++ gs) ≡ Some u) → cond b (Some f.term) (find_term x i T (fs ++ gs)) ≡ Some u
    go true k h = k
    go false k h = h k

same_key : (x : List ℕ) (i : ℕ) (T : Ty) → (name_eq x x && (nat_eq i i && ty_eq T T)) ≡ true
same_key x i T = (λ j. (bytes_decides x x).1 refl j && ((Decides-eqb i i).1 refl j && (ty_decides T T).1 refl j))

find_last : (fs : List TermEntry) (x : List ℕ) (i : ℕ) (T : Ty) (t : Tm) → find_term x i T fs ≡ None → find_term x i T (fs ++ (record { name = x; number = i; typ = T; term = t } ∷ [])) ≡ Some t
find_last [] x i T t e = ap (λ b. cond b (Some t) None) (same_key x i T)
find_last (f ∷ fs) x i T t e = go (name_eq x f.name && (nat_eq i f.number && ty_eq T f.typ)) e (λ k. find_last fs x i T t k)
  where
    go : (b : Bool) → cond b (Some f.term) (find_term x i T fs) ≡ None → (find_term x i T fs ≡ None → find_term x i T (fs ++ (record { name = x; number = i; typ = T; term = t } ∷ [])) ≡ Some t) → cond b (Some f.term) (find_term x i T (fs ++ (record { name = x; number = i; typ = T; term = t } ∷ []))) ≡ Some t
    go true k h = cc
    go false k h = h k

keeps_last : (fs : List TermEntry) (f : TermEntry) → keeps [] fs ≡ true → has_type f.term f.typ ≡ true → keeps [] (fs ++ f ∷ []) ≡ true
keeps_last [] f k h = (λ j. has_type f.term (empty_ty f.typ j) && true) ∙ ap (λ b. b && true) h
keeps_last (g ∷ fs) f k h = go (has_type g.term (inst_ty [] g.typ)) k (λ j. keeps_last fs f j h)
  where
    go : (b : Bool) → (b && keeps [] fs) ≡ true → (keeps [] fs ≡ true → keeps [] (fs ++ f ∷ []) ≡ true) → (b && keeps [] (fs ++ f ∷ [])) ≡ true
    go true k j = j k
    go false k j = cc

-- what a match gives, also under more entries
pub record IsSound (p t : Tm) (fs gs : List TermEntry) : Type 0 where
  pub grows : Grows fs gs
  pub gives : (hs : List TermEntry) → Grows gs hs → bare (inst_tm [] hs p) ≡ bare t
  pub keeps : keeps [] fs ≡ true → keeps [] gs ≡ true

atom_sound : (p t : Tm) (fs gs : List TermEntry) → ((hs : List TermEntry) → inst_tm [] hs p ≡ p) → cond (tm_eq p t) (Some fs) None ≡ Some gs → IsSound p t fs gs
atom_sound p t fs gs h e =
    let c = cond_some (tm_eq p t) (Some fs) e in
    let q : fs ≡ gs = cc (c.1) in
    record {
      grows = subst (λ x. Grows fs x) q (grows_same fs);
      gives = λ hs g. ap bare (h hs) ∙ (tm_decides p t).0 c.0;
      keeps = λ k. subst (λ x. keeps [] x ≡ true) q k;
    }

unknown_sound : (x : List ℕ) (i : ℕ) (T : Ty) (t : Tm) (fs gs : List TermEntry) (o : Option Tm) → find_term x i T fs ≡ o → matched_unknown x i T t fs o ≡ Some gs → IsSound (Unknown x i T) t fs gs
unknown_sound x i T t fs gs (Some u) f e =
    let c = cond_some (tm_eq u t) (Some fs) e in
    let q : fs ≡ gs = cc (c.1) in
    record {
      grows = subst (λ y. Grows fs y) q (grows_same fs);
      gives = λ hs g. ap (λ r. bare (unwrap_or r (Unknown x i (inst_ty [] T)))) (g.at x i T u (ap (find_term x i T) (sym q) ∙ f)) ∙ (tm_decides u t).0 c.0;
      keeps = λ k. subst (λ y. keeps [] y ≡ true) q k;
    }
unknown_sound x i T t fs gs None f e =
    let entry : TermEntry = record { name = x; number = i; typ = T; term = t } in
    let c = cond_some (has_type t T) (Some (fs ++ entry ∷ [])) e in
    let q : fs ++ entry ∷ [] ≡ gs = cc (c.1) in
    record {
      grows = subst (λ y. Grows fs y) q (record { at = find_front fs (entry ∷ []) });
      gives = λ hs g. ap (λ r. bare (unwrap_or r (Unknown x i (inst_ty [] T)))) (g.at x i T t (ap (find_term x i T) (sym q) ∙ find_last fs x i T t f));
      keeps = λ k. subst (λ y. keeps [] y ≡ true) q (keeps_last fs entry k c.0);
    }

pub matched_sound : (p t : Tm) (fs gs : List TermEntry) → matched p t fs ≡ Some gs → IsSound p t fs gs
matched_sound (Const x S) t fs gs e = atom_sound (Const x S) t fs gs (λ hs. ap (Const x) (empty_ty S)) e
matched_sound (Free x S) t fs gs e = atom_sound (Free x S) t fs gs (λ hs. ap (Free x) (empty_ty S)) e
matched_sound (Unknown x i T) t fs gs e = unknown_sound x i T t fs gs (find_term x i T fs) refl e
matched_sound (Bound i) t fs gs e = atom_sound (Bound i) t fs gs (λ hs. refl) e
matched_sound (Abs x S b) t fs gs e = absurd (cc)
matched_sound (App f a) t fs gs e =
    let p = bind_some (app_parts t) _ e in
    let m = bind_some (matched f p.0.0 fs) _ p.2 in
    let left = matched_sound f p.0.0 fs m.0 m.1 in
    let right = matched_sound a p.0.1 m.0 gs m.2 in
    record {
      grows = grows_more left.grows right.grows;
      gives = λ hs g. (λ j. App (left.gives hs (grows_more right.grows g) j) (right.gives hs g j)) ∙ ap bare (sym (app_made t p.0 p.1));
      keeps = λ k. right.keeps (left.keeps k);
    }

-- ---- under an instance of types
pub both_true : (a b : Bool) → (a && b) ≡ true → (a ≡ true) × (b ≡ true)
both_true true b e = (refl, e)
both_true false b e = absurd (cc)

mutual
  pub ground_same : (es : List TypeEntry) (T : Ty) → is_ground T ≡ true → inst_ty es T ≡ T
  ground_same es (TyCon x Ts) h = ap (TyCon x) (grounds_same es Ts h)
  ground_same es (TyFixed x) h = refl
  ground_same es (TyUnknown x i) h = absurd (cc)

  pub grounds_same : (es : List TypeEntry) (Ts : Tys) → are_ground Ts ≡ true → inst_tys es Ts ≡ Ts
  grounds_same es NoTys h = refl
  grounds_same es (MoreTys T Ts) h = let p = both_true (is_ground T) (are_ground Ts) h in λ i. MoreTys (ground_same es T p.0 i) (grounds_same es Ts p.1 i)

keeps_end : (es : List TypeEntry) (fs : List TermEntry) (f : TermEntry) → keeps es fs ≡ true → has_type f.term (inst_ty es f.typ) ≡ true → keeps es (fs ++ f ∷ []) ≡ true
keeps_end es [] f k h = ap (λ b. b && true) h
keeps_end es (g ∷ fs) f k h = let p = both_true (has_type g.term (inst_ty es g.typ)) (keeps es fs) k in λ i. p.0 i && keeps_end es fs f p.1 h i

atom_keeps : (es : List TypeEntry) (b : Bool) (fs gs : List TermEntry) → cond b (Some fs) None ≡ Some gs → keeps es fs ≡ true → keeps es gs ≡ true
atom_keeps es b fs gs e k = let c = cond_some b (Some fs) e in let q : fs ≡ gs = cc (c.1) in subst (λ y. keeps es y ≡ true) q k

unknown_keeps : (es : List TypeEntry) (x : List ℕ) (i : ℕ) (T : Ty) (t : Tm) (fs gs : List TermEntry) (o : Option Tm) → is_ground T ≡ true → matched_unknown x i T t fs o ≡ Some gs → keeps es fs ≡ true → keeps es gs ≡ true
unknown_keeps es x i T t fs gs (Some u) g e k = atom_keeps es (tm_eq u t) fs gs e k
unknown_keeps es x i T t fs gs None g e k =
    let entry : TermEntry = record { name = x; number = i; typ = T; term = t } in
    let c = cond_some (has_type t T) (Some (fs ++ entry ∷ [])) e in
    let q : fs ++ entry ∷ [] ≡ gs = cc (c.1) in
    subst (λ y. keeps es y ≡ true) q (keeps_end es fs entry k (ap (has_type t) (ground_same es T g) ∙ c.0))

pub matched_keeps : (es : List TypeEntry) (p t : Tm) (fs gs : List TermEntry) → is_first_order p ≡ true → matched p t fs ≡ Some gs → keeps es fs ≡ true → keeps es gs ≡ true
matched_keeps es (Const x S) t fs gs o e k = atom_keeps es (tm_eq (Const x S) t) fs gs e k
matched_keeps es (Free x S) t fs gs o e k = atom_keeps es (tm_eq (Free x S) t) fs gs e k
matched_keeps es (Unknown x i T) t fs gs o e k = unknown_keeps es x i T t fs gs (find_term x i T fs) (both_true (is_ground T) (is_none (function_parts T)) o).0 e k
matched_keeps es (Bound i) t fs gs o e k = atom_keeps es (tm_eq (Bound i) t) fs gs e k
matched_keeps es (Abs x S b) t fs gs o e k = absurd (cc)
matched_keeps es (App f a) t fs gs o e k =
    let h = both_true (is_first_order f) (is_first_order a) o in
    let p = bind_some (app_parts t) _ e in
    let m = bind_some (matched f p.0.0 fs) _ p.2 in
    matched_keeps es a p.0.1 m.0 gs h.1 m.2 (matched_keeps es f p.0.0 fs m.0 h.0 m.1 k)
