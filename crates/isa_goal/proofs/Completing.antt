-- A match is found where there is one.
use Rattle.std.proofs.Common.{◌≡◌, ℕ, List, [], ◌∷◌, ◌++◌, Bool, true, false, cond, ◌&&◌, nat_eq, arith, Option, Some, None, refl, sym, ap, ◌∙◌, subst}
use Rattle.std.specs.Prelude.{is_none, option_and_then, Ok}
use Rattle.std.specs.Cmp.Lexicographic.{bytes_decides}
use Rattle.std.proofs.lemmas.Bool.Decides.{nat_tests}
use Rattle.isa_terms.specs.Types.{Ty}
use Rattle.isa_terms.specs.Terms.{Tm, Const, Free, Unknown, Bound, Abs, App, bare}
use Rattle.isa_terms.specs.Equal.{name_eq, ty_eq, tm_eq}
use Rattle.isa_terms.specs.Typing.{function_of, function_parts, type_at}
use Rattle.isa_terms.specs.Norm.{levels}
use Rattle.isa_terms.specs.Normal.{IsHead}
use Rattle.isa_terms.specs.Instance.{Instance, instance_of, find_term, inst_ty}
use Rattle.isa_terms.specs.declared.inst.TermEntry.{TermEntry}
use Rattle.isa_terms.proofs.Bare.{tm_decides, type_at_bare}
use Rattle.isa_terms.proofs.Equal.{ty_decides}
use Rattle.isa_terms.proofs.Typed.{Typed, TUnknown, TBound, type_of_typed}
use Rattle.isa_terms.proofs.NormalForms.{apply_head}
use Rattle.isa_terms.proofs.Instances.{inst_norm_typed}
use Rattle.isa_kernel.specs.Forms.{app_parts}
use Rattle.isa_kernel.specs.Inferences.{has_type, typed_as, keeps}
use Rattle.isa_kernel.proofs.Preserved.{app_typed}
use Rattle.isa_goal.specs.Matching.{is_ground, is_first_order, matched_unknown, matched}
use Rattle.isa_goal.proofs.Matches.{both_true, ground_same}
use Rattle.isa_goal.proofs.Numbers.{is_kept}

-- what the entries give, the instance gives
record Agrees (n : Instance) (fs : List TermEntry) : Type 0 where
  at : (x : List ℕ) (i : ℕ) (T : Ty) (u : Tm) → find_term x i T fs ≡ Some u → bare u ≡ bare (instance_of n (Unknown x i T))

record IsFound (n : Instance) (p t : Tm) (fs : List TermEntry) : Type 0 where
  entries : List TermEntry
  found : matched p t fs ≡ Some entries
  agrees : Agrees n entries

abbrev fun_of : Tm → Tm
fun_of (App h b) = h
fun_of t = t

abbrev arg_of : Tm → Tm
arg_of (App h b) = b
arg_of t = t

application : (t F A : Tm) → bare t ≡ App F A → (p : Tm × Tm) × (app_parts t ≡ Some p) × (bare p.0 ≡ F) × (bare p.1 ≡ A)
application (Const y S) F A e = absurd (cc)
application (Free y S) F A e = absurd (cc)
application (Unknown y i S) F A e = absurd (cc)
application (Bound i) F A e = absurd (cc)
application (Abs y S b) F A e = absurd (cc)
application (App f a) F A e = ((f, a), refl, ap fun_of e, ap arg_of e)

unknown_type : {G : List Ty} {y : List ℕ} {j : ℕ} {U V : Ty} → Typed G (Unknown y j U) V → U ≡ V
unknown_type TUnknown = refl

bound_nowhere : {i : ℕ} {T : Ty} → Typed [] (Bound i) T → ⊥
bound_nowhere (TBound h) = cc

no_function : (T : Ty) {A B : Ty} → T ≡ function_of A B → is_none (function_parts T) ≡ true → ⊥
no_function T {A} {B} e h =
    let p : function_parts T ≡ Some (A, B) = ap function_parts e in
    let q : is_none (function_parts T) ≡ false = ap (λ o. is_none o) p in
    cc (h, q)

module _ (n : Instance) (k : keeps n.types n.terms ≡ true) where
  typed : {t : Tm} {T : Ty} → Typed [] t T → Typed [] (instance_of n t) (inst_ty n.types T)
  typed d = inst_norm_typed n.types n.terms (is_kept n.types n.terms k) d

  -- the instance of what stands before an argument is no abstraction
  head : (p : Tm) {A B : Ty} → is_first_order p ≡ true → Typed [] p (function_of A B) → IsHead (instance_of n p)
  head (Const x S) o d = tt
  head (Free x S) o d = tt
  head (Unknown x i S) o d = absurd (no_function S (unknown_type d) (both_true (is_ground S) (is_none (function_parts S)) o).1)
  head (Bound i) o d = tt
  head (Abs x S b) o d = absurd (cc)
  head (App f a) o d =
      let h = both_true (is_first_order f) (is_first_order a) o in
      let p = app_typed d in
      subst IsHead (sym (apply_head (levels (instance_of n f)) (instance_of n f) (instance_of n a) (head f h.0 p.1))) tt

  parts : (f a : Tm) {A B : Ty} → is_first_order f ≡ true → Typed [] f (function_of A B) → instance_of n (App f a) ≡ App (instance_of n f) (instance_of n a)
  parts f a o d = apply_head (levels (instance_of n f)) (instance_of n f) (instance_of n a) (head f o d)

  atom : (p t : Tm) (fs : List TermEntry) → bare p ≡ bare t → Agrees n fs → (cond (tm_eq p t) (Some fs) None ≡ Some fs)
  atom p t fs e g = ap (λ b. cond b (Some fs) None) ((tm_decides p t).1 e)

  last : (x : List ℕ) (i : ℕ) (T : Ty) (t : Tm) (y : List ℕ) (j : ℕ) (U : Ty) (u : Tm) (b : Bool) → bare (instance_of n (Unknown x i T)) ≡ bare t → (name_eq y x && (nat_eq j i && ty_eq U T)) ≡ b → cond b (Some t) None ≡ Some u → bare u ≡ bare (instance_of n (Unknown y j U))
  last x i T t y j U u true e h q =
      let p = both_true (name_eq y x) (nat_eq j i && ty_eq U T) h in
      let r = both_true (nat_eq j i) (ty_eq U T) p.1 in
      let a : y ≡ x = (bytes_decides y x).0 p.0 in
      let b : j ≡ i = grind (arith, nat_tests, r.0) in
      let c : U ≡ T = (ty_decides U T).0 r.1 in
      let s : t ≡ u = cc (q) in
      ap bare (sym s) ∙ sym e ∙ (λ l. bare (instance_of n (Unknown (sym a l) (sym b l) (sym c l))))
  last x i T t y j U u false e h q = absurd (cc)

  find_more : (x : List ℕ) (i : ℕ) (T : Ty) (t : Tm) (fs : List TermEntry) (y : List ℕ) (j : ℕ) (U : Ty) (u : Tm) → bare (instance_of n (Unknown x i T)) ≡ bare t → (find_term y j U fs ≡ Some u → bare u ≡ bare (instance_of n (Unknown y j U))) → find_term y j U (fs ++ (record { name = x; number = i; typ = T; term = t } ∷ [])) ≡ Some u → bare u ≡ bare (instance_of n (Unknown y j U))
  find_more x i T t [] y j U u e g q = last x i T t y j U u (name_eq y x && (nat_eq j i && ty_eq U T)) e refl q
  find_more x i T t (f ∷ fs) y j U u e g q = choose (name_eq y f.name && (nat_eq j f.number && ty_eq U f.typ)) g q (λ h r. find_more x i T t fs y j U u e h r)
    where
      choose : (b : Bool) → (cond b (Some f.term) (find_term y j U fs) ≡ Some u → bare u ≡ bare (instance_of n (Unknown y j U))) → cond b (Some f.term) (find_term y j U (fs ++ (record { name = x; number = i; typ = T; term = t } ∷ []))) ≡ Some u → ((find_term y j U fs ≡ Some u → bare u ≡ bare (instance_of n (Unknown y j U))) → find_term y j U (fs ++ (record { name = x; number = i; typ = T; term = t } ∷ [])) ≡ Some u → bare u ≡ bare (instance_of n (Unknown y j U))) → bare u ≡ bare (instance_of n (Unknown y j U))
      choose true g q r = g q
      choose false g q r = r g q

  -- an entry for an unknown that has none
  more : (x : List ℕ) (i : ℕ) (T : Ty) (t : Tm) (fs : List TermEntry) → bare (instance_of n (Unknown x i T)) ≡ bare t → Agrees n fs → Agrees n (fs ++ (record { name = x; number = i; typ = T; term = t } ∷ []))
  more x i T t fs e g = record { at = λ y j U u q. find_more x i T t fs y j U u e (λ r. g.at y j U u r) q }

  unknown : (x : List ℕ) (i : ℕ) (T : Ty) (t : Tm) (fs : List TermEntry) (o : Option Tm) → is_ground T ≡ true → bare (instance_of n (Unknown x i T)) ≡ bare t → Agrees n fs → find_term x i T fs ≡ o → (gs : List TermEntry) × (matched_unknown x i T t fs o ≡ Some gs) × Agrees n gs
  unknown x i T t fs (Some u) g e a f = (fs, ap (λ b. cond b (Some fs) None) ((tm_decides u t).1 (a.at x i T u f ∙ e)), a)
  unknown x i T t fs None g e a f =
      let entry : TermEntry = record { name = x; number = i; typ = T; term = t } in
      let d : Typed [] (instance_of n (Unknown x i T)) T = subst (λ S. Typed [] (instance_of n (Unknown x i T)) S) (ground_same n.types T g) (typed TUnknown) in
      let h : type_at [] t ≡ Ok T = sym (type_at_bare [] t) ∙ ap (type_at []) (sym e) ∙ type_at_bare [] (instance_of n (Unknown x i T)) ∙ type_of_typed d in
      let yes : has_type t T ≡ true = ap (λ r. typed_as r T) h ∙ (ty_decides T T).1 refl in
      (fs ++ entry ∷ [], ap (λ b. cond b (Some (fs ++ entry ∷ [])) None) yes, more x i T t fs e a)

  complete : (p t : Tm) (fs : List TermEntry) {T : Ty} → is_first_order p ≡ true → Typed [] p T → bare (instance_of n p) ≡ bare t → Agrees n fs → IsFound n p t fs
  complete (Const x S) t fs o d e a = record { entries = fs; found = atom (Const x S) t fs (ap (Const x) (sym (ground_same n.types S o)) ∙ e) a; agrees = a }
  complete (Free x S) t fs o d e a = record { entries = fs; found = atom (Free x S) t fs (ap (Free x) (sym (ground_same n.types S o)) ∙ e) a; agrees = a }
  complete (Unknown x i S) t fs o d e a =
      let g = unknown x i S t fs (find_term x i S fs) (both_true (is_ground S) (is_none (function_parts S)) o).0 e a refl in
      record { entries = g.0; found = g.1; agrees = g.2 }
  complete (Bound i) t fs o d e a = absurd (bound_nowhere d)
  complete (Abs x S b) t fs o d e a = absurd (cc)
  complete (App f b) t fs o d e a =
      let h = both_true (is_first_order f) (is_first_order b) o in
      let ty = app_typed d in
      let q = application t (bare (instance_of n f)) (bare (instance_of n b)) (sym e ∙ ap bare (parts f b h.0 ty.1)) in
      let left = complete f q.0.0 fs h.0 ty.1 (sym q.2) a in
      let right = complete b q.0.1 left.entries h.1 ty.2 (sym q.3) left.agrees in
      record {
        entries = right.entries;
        found = ap (λ r. option_and_then {T = Tm × Tm} {U = List TermEntry} (λ c. option_and_then {T = List TermEntry} {U = List TermEntry} (λ gs. matched b c.1 gs) (matched f c.0 fs)) r) q.1
            ∙ ap (λ r. option_and_then {T = List TermEntry} {U = List TermEntry} (λ gs. matched b q.0.1 gs) r) left.found
            ∙ right.found;
        agrees = right.agrees;
      }

  -- where an instance makes the pattern the term, a match is found
  pub matched_found : (p t : Tm) (T : Ty) → is_first_order p ≡ true → Typed [] p T → bare (instance_of n p) ≡ bare t → (fs : List TermEntry) × (matched p t [] ≡ Some fs)
  matched_found p t T o d e = let f = complete p t [] o d e (record { at = λ x i U u q. absurd (nothing u q) }) in (f.entries, f.found)
    where
      nothing : (u : Tm) → None ≡ Some u → ⊥
      nothing u q = cc
