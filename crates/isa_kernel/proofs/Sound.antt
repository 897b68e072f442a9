-- What an inference gives has a derivation where its premises have one.
use Rattle.std.proofs.Common.{◌≡◌, [], Bool, true, false, cond, ◌&&◌, Option, Some, None, Result, Ok, Err, refl, sym, ap, ◌∙◌, subst}
use Rattle.isa_terms.specs.Types.{Ty}
use Rattle.isa_terms.specs.Terms.{Tm, Abs, App}
use Rattle.isa_terms.specs.Equal.{ty_eq, tm_eq}
use Rattle.isa_terms.specs.Typing.{TypeFault, type_at, function_of, function_parts}
use Rattle.isa_terms.specs.Binding.{occurs_in}
use Rattle.isa_terms.proofs.Equal.{ty_decides}
use Rattle.isa_terms.specs.Typing.{HasType}
use Rattle.isa_kernel.specs.Logic.{prop}
use Rattle.isa_kernel.specs.Forms.{app_parts, abs_parts, is_last, imp_parts, eq_parts, quantifier_parts, free_parts}
use Rattle.isa_kernel.specs.Theorem.{Theorem, IsDerived}
use Rattle.isa_kernel.specs.Inferences.{typed_as, has_type, well_typed, assumed, implies_introduced, implies_eliminated, forall_introduced, forall_eliminated, reflexive_at, turned, chained, combined, abstracted, contracted, shortened, equal_introduced, equal_eliminated}
use Rattle.isa_terms.proofs.Functions.{cond_some, bind_some, function_made}
use Rattle.isa_kernel.proofs.Parts.{app_made, abs_made, last_made}
use Rattle.isa_kernel.proofs.Rules.{assumed_derived, implies_introduced_derived, implies_eliminated_derived, forall_introduced_derived, forall_eliminated_derived, reflexive_derived, turned_derived, chained_derived, combined_derived, abstracted_derived, contracted_derived, shortened_derived, equal_introduced_derived, equal_eliminated_derived}

-- a test that led to Some in its second case was false
pub cond_none : {A : Type 0} (b : Bool) (o : Option A) {y : A} → cond b None o ≡ Some y → (b ≡ false) × (o ≡ Some y)
cond_none true o e = cc
cond_none false o e = (refl, e)

pub typed_as_is : (r : Result Ty TypeFault) (T : Ty) → typed_as r T ≡ true → r ≡ Ok T
typed_as_is (Ok S) T e = ap Ok ((ty_decides S T).0 e)
typed_as_is (Err fault) T e = cc

pub has_type_is : (t : Tm) (T : Ty) → has_type t T ≡ true → HasType t T
has_type_is t T e = typed_as_is (type_at [] t) T e

pub well_typed_is : (r : Result Ty TypeFault) (T : Ty) → well_typed r ≡ Some T → r ≡ Ok T
well_typed_is (Ok S) T e = cc
well_typed_is (Err fault) T e = cc

-- the theorem that a Some holds
pub derived_some : {th wanted : Theorem} → Some th ≡ Some wanted → IsDerived th → IsDerived wanted
derived_some e d = subst (λ x. IsDerived x) (cc (e)) d

pub assumed_sound : (a : Tm) (th : Theorem) → assumed a ≡ Some th → IsDerived th
assumed_sound a th e =
    let t = cond_some (has_type a prop) _ e in
    derived_some t.1 (record { derivation = assumed_derived a (has_type_is a prop t.0) })

pub implies_introduced_sound : (a : Tm) (b th : Theorem) → implies_introduced a b ≡ Some th → IsDerived b → IsDerived th
implies_introduced_sound a b th e d =
    let t = cond_some (has_type a prop) _ e in
    derived_some t.1 (record { derivation = implies_introduced_derived a b.prop b.base b.hyps (has_type_is a prop t.0) d.derivation })

pub implies_eliminated_sound : (ab a th : Theorem) → implies_eliminated ab a ≡ Some th → IsDerived ab → IsDerived a → IsDerived th
implies_eliminated_sound ab a th e d f =
    let p = bind_some (imp_parts ab.prop) _ e in
    let t = cond_some (tm_eq p.0.0 a.prop) _ p.2 in
    derived_some t.1 (record { derivation = implies_eliminated_derived ab.prop p.0.0 p.0.1 a.prop ab.base ab.hyps a.base a.hyps p.1 t.0 d.derivation f.derivation })

pub forall_introduced_sound : (x : Tm) (b th : Theorem) → forall_introduced x b ≡ Some th → IsDerived b → IsDerived th
forall_introduced_sound x b th e d =
    let v = bind_some (free_parts x) _ e in
    let t = cond_none (occurs_in v.0.0 v.0.1 b.hyps) _ v.2 in
    derived_some t.1 (record { derivation = forall_introduced_derived v.0.0 v.0.1 b.prop b.base b.hyps t.0 d.derivation })

pub forall_eliminated_sound : (t : Tm) (b th : Theorem) → forall_eliminated t b ≡ Some th → IsDerived b → IsDerived th
forall_eliminated_sound t b th e d =
    let p = bind_some (quantifier_parts b.prop) _ e in
    let h = cond_some (has_type t p.0.0) _ p.2 in
    derived_some h.1 (record { derivation = forall_eliminated_derived b.prop t p.0.0 p.0.1 b.base b.hyps p.1 (has_type_is t p.0.0 h.0) d.derivation })

pub reflexive_sound : (t : Tm) (th : Theorem) → reflexive_at t ≡ Some th → IsDerived th
reflexive_sound t th e =
    let T = bind_some (well_typed (type_at [] t)) _ e in
    derived_some T.2 (record { derivation = reflexive_derived t T.0 (well_typed_is (type_at [] t) T.0 T.1) })

pub turned_sound : (b th : Theorem) → turned b ≡ Some th → IsDerived b → IsDerived th
turned_sound b th e d =
    let p = bind_some (eq_parts b.prop) _ e in
    derived_some p.2 (record { derivation = turned_derived b.prop p.0.0 p.0.1 p.0.2 b.base b.hyps p.1 d.derivation })

pub and_true : (a b : Bool) → (a && b) ≡ true → (a ≡ true) × (b ≡ true)
and_true true b e = (refl, e)
and_true false b e = cc

pub chained_sound : (a b th : Theorem) → chained a b ≡ Some th → IsDerived a → IsDerived b → IsDerived th
chained_sound a b th e d f =
    let l = bind_some (eq_parts a.prop) _ e in
    let r = bind_some (eq_parts b.prop) _ l.2 in
    let t = cond_some (ty_eq l.0.0 r.0.0 && tm_eq l.0.2 r.0.1) _ r.2 in
    let u = and_true (ty_eq l.0.0 r.0.0) (tm_eq l.0.2 r.0.1) t.0 in
    derived_some t.1 (record {
      derivation = chained_derived a.prop b.prop l.0.0 r.0.0 l.0.1 l.0.2 r.0.1 r.0.2 a.base a.hyps b.base b.hyps l.1 r.1 ((ty_decides l.0.0 r.0.0).0 u.0) u.1 d.derivation f.derivation;
    })

pub combined_sound : (f a th : Theorem) → combined f a ≡ Some th → IsDerived f → IsDerived a → IsDerived th
combined_sound f a th e d g =
    let l = bind_some (eq_parts f.prop) _ e in
    let r = bind_some (eq_parts a.prop) _ l.2 in
    let F = bind_some (function_parts l.0.0) _ r.2 in
    let t = cond_some (ty_eq F.0.0 r.0.0) _ F.2 in
    let types = function_made l.0.0 F.0 F.1 ∙ ap (λ S. function_of S F.0.1) ((ty_decides F.0.0 r.0.0).0 t.0) in
    derived_some t.1 (record {
      derivation = combined_derived f.prop a.prop l.0.0 r.0.0 F.0.1 l.0.1 l.0.2 r.0.1 r.0.2 f.base f.hyps a.base a.hyps l.1 r.1 types d.derivation g.derivation;
    })

pub abstracted_sound : (x : Tm) (b th : Theorem) → abstracted x b ≡ Some th → IsDerived b → IsDerived th
abstracted_sound x b th e d =
    let v = bind_some (free_parts x) _ e in
    let p = bind_some (eq_parts b.prop) _ v.2 in
    let t = cond_none (occurs_in v.0.0 v.0.1 b.hyps) _ p.2 in
    derived_some t.1 (record { derivation = abstracted_derived b.prop v.0.0 v.0.1 p.0.0 p.0.1 p.0.2 b.base b.hyps t.0 p.1 d.derivation })

pub contracted_sound : (t : Tm) (th : Theorem) → contracted t ≡ Some th → IsDerived th
contracted_sound t th e =
    let o = bind_some (app_parts t) _ e in
    let f = bind_some (abs_parts o.0.0) _ o.2 in
    let T = bind_some (well_typed (type_at [] t)) _ f.2 in
    let made = app_made t o.0 o.1 ∙ ap (λ g. App g o.0.1) (abs_made o.0.0 f.0 f.1) in
    derived_some T.2 (record { derivation = contracted_derived t o.0.1 f.0.2 f.0.0 f.0.1 T.0 made (well_typed_is (type_at [] t) T.0 T.1) })

pub shortened_sound : (t : Tm) (th : Theorem) → shortened t ≡ Some th → IsDerived th
shortened_sound t th e =
    let f = bind_some (abs_parts t) _ e in
    let b = bind_some (app_parts f.0.2) _ f.2 in
    let F = bind_some (well_typed (type_at [] b.0.0)) _ b.2 in
    let p = bind_some (function_parts F.0) _ F.2 in
    let c = cond_some (is_last b.0.1 && ty_eq f.0.1 p.0.0) _ p.2 in
    let u = and_true (is_last b.0.1) (ty_eq f.0.1 p.0.0) c.0 in
    let made = abs_made t f.0 f.1 ∙ ap (Abs f.0.0 f.0.1) (app_made f.0.2 b.0 b.1 ∙ ap (App b.0.0) (last_made b.0.1 u.0)) in
    let types = function_made F.0 p.0 p.1 ∙ ap (λ S. function_of S p.0.1) (sym ((ty_decides f.0.1 p.0.0).0 u.1)) in
    derived_some c.1 (record { derivation = shortened_derived t b.0.0 f.0.0 f.0.1 p.0.1 F.0 made (well_typed_is (type_at [] b.0.0) F.0 F.1) types })

pub equal_introduced_sound : (a b th : Theorem) → equal_introduced a b ≡ Some th → IsDerived a → IsDerived b → IsDerived th
equal_introduced_sound a b th e d f =
    let l = bind_some (imp_parts a.prop) _ e in
    let r = bind_some (imp_parts b.prop) _ l.2 in
    let t = cond_some (tm_eq l.0.0 r.0.1 && tm_eq l.0.1 r.0.0) _ r.2 in
    let u = and_true (tm_eq l.0.0 r.0.1) (tm_eq l.0.1 r.0.0) t.0 in
    derived_some t.1 (record { derivation = equal_introduced_derived a.prop b.prop l.0.0 l.0.1 r.0.0 r.0.1 a.base a.hyps b.base b.hyps l.1 r.1 u.0 u.1 d.derivation f.derivation })

pub equal_eliminated_sound : (a b th : Theorem) → equal_eliminated a b ≡ Some th → IsDerived a → IsDerived b → IsDerived th
equal_eliminated_sound a b th e d f =
    let p = bind_some (eq_parts a.prop) _ e in
    let t = cond_some (ty_eq p.0.0 prop && tm_eq p.0.1 b.prop) _ p.2 in
    let u = and_true (ty_eq p.0.0 prop) (tm_eq p.0.1 b.prop) t.0 in
    derived_some t.1 (record { derivation = equal_eliminated_derived a.prop b.prop p.0.0 p.0.1 p.0.2 a.base a.hyps b.base b.hyps p.1 ((ty_decides p.0.0 prop).0 u.0) u.1 d.derivation f.derivation })
