-- A proposition that has a form is made of its parts.
use Rattle.std.proofs.Common.{◌≡◌, ℕ, List, true, cond, Some, None, sym, ap, ◌∙◌, codes}
use Rattle.std.specs.Prelude.{option_and_then}
use Rattle.std.proofs.lemmas.Bool.Decides.{Decides-eqb}
use Rattle.std.specs.Cmp.Lexicographic.{bytes_decides}
use Rattle.isa_terms.specs.Types.{Ty}
use Rattle.isa_terms.specs.Terms.{Tm, Const, Free, Unknown, Bound, Abs, App}
use Rattle.isa_terms.specs.Equal.{name_eq, ty_eq}
use Rattle.isa_terms.specs.Typing.{function_parts, function_of}
use Rattle.isa_terms.proofs.Equal.{ty_decides}
use Rattle.isa_terms.proofs.Functions.{cond_some, bind_some, function_made}
use Rattle.isa_kernel.specs.Logic.{prop, imp, eq, all}
use Rattle.isa_kernel.specs.Forms.{app_parts, abs_parts, is_last, const_type, free_parts, predicate_of, relation_of, binary, eq_parts, imp_parts, all_parts}

pub app_made : (s : Tm) (p : Tm × Tm) → app_parts s ≡ Some p → s ≡ App p.0 p.1
app_made (App f a) p e = let q : (f, a) ≡ p = cc in λ i. App ((q i).0) ((q i).1)
app_made (Const x T) p e = cc
app_made (Free x T) p e = cc
app_made (Unknown x n T) p e = cc
app_made (Bound n) p e = cc
app_made (Abs x T b) p e = cc

pub abs_made : (s : Tm) (p : List ℕ × Ty × Tm) → abs_parts s ≡ Some p → s ≡ Abs p.0 p.1 p.2
abs_made (Abs x T b) p e = let q : (x, T, b) ≡ p = cc in λ i. Abs ((q i).0) ((q i).1) ((q i).2)
abs_made (App f a) p e = cc
abs_made (Const x T) p e = cc
abs_made (Free x T) p e = cc
abs_made (Unknown x n T) p e = cc
abs_made (Bound n) p e = cc

pub free_made : (s : Tm) (p : List ℕ × Ty) → free_parts s ≡ Some p → s ≡ Free p.0 p.1
free_made (Free x T) p e = let q : (x, T) ≡ p = cc in λ i. Free ((q i).0) ((q i).1)
free_made (Abs x T b) p e = cc
free_made (App f a) p e = cc
free_made (Const x T) p e = cc
free_made (Unknown x n T) p e = cc
free_made (Bound n) p e = cc

pub const_made : (name : List ℕ) (s : Tm) (T : Ty) → const_type name s ≡ Some T → s ≡ Const name T
const_made name (Const x S) T e =
    let t = cond_some (name_eq x name) (Some S) e in
    let n = (bytes_decides x name).0 t.0 in
    let q : S ≡ T = cc (t.1) in
    λ i. Const (n i) (q i)
const_made name (Free x S) T e = cc
const_made name (Abs x S b) T e = cc
const_made name (App f a) T e = cc
const_made name (Unknown x n S) T e = cc
const_made name (Bound n) T e = cc

pub predicate_made : (F T : Ty) → predicate_of F ≡ Some T → F ≡ function_of T prop
predicate_made F T e =
    let b = bind_some (function_parts F) (λ p. cond (ty_eq p.1 prop) (Some p.0) None) e in
    let t = cond_some (ty_eq b.0.1 prop) (Some b.0.0) b.2 in
    let r = (ty_decides b.0.1 prop).0 t.0 in
    let d : b.0.0 ≡ T = cc (t.1) in
    function_made F b.0 b.1 ∙ (λ i. function_of (d i) (r i))

pub relation_made : (F T : Ty) → relation_of F ≡ Some T → F ≡ function_of T (function_of T prop)
relation_made F T e =
    let b = bind_some (function_parts F) (λ p. option_and_then (λ S. cond (ty_eq p.0 S) (Some p.0) None) (predicate_of p.1)) e in
    let c = bind_some (predicate_of b.0.1) (λ S. cond (ty_eq b.0.0 S) (Some b.0.0) None) b.2 in
    let t = cond_some (ty_eq b.0.0 c.0) (Some b.0.0) c.2 in
    let s = (ty_decides b.0.0 c.0).0 t.0 in
    let d : b.0.0 ≡ T = cc (t.1) in
    let r = predicate_made b.0.1 c.0 c.1 in
    let k : c.0 ≡ T = cc (s, d) in
    function_made F b.0 b.1 ∙ (λ i. function_of (d i) ((r ∙ ap (λ X. function_of X prop) k) i))

pub binary_made : (name : List ℕ) (s : Tm) (p : Ty × Tm × Tm) → binary name s ≡ Some p → s ≡ App (App (Const name (function_of p.0 (function_of p.0 prop))) p.1) p.2
binary_made name s p e =
    let outer = bind_some (app_parts s) _ e in
    let inner = bind_some (app_parts outer.0.0) _ outer.2 in
    let F = bind_some (const_type name inner.0.0) _ inner.2 in
    let T = bind_some (relation_of F.0) _ F.2 in
    let q : (T.0, inner.0.1, outer.0.1) ≡ p = cc (T.2) in
    let c = const_made name inner.0.0 F.0 F.1 ∙ ap (Const name) (relation_made F.0 T.0 T.1) in
    app_made s outer.0 outer.1 ∙ ap (λ f. App f outer.0.1) (app_made outer.0.0 inner.0 inner.1 ∙ ap (λ d. App d inner.0.1) c)
    ∙ (λ i. App (App (Const name (function_of ((q i).0) (function_of ((q i).0) prop))) ((q i).1)) ((q i).2))

pub eq_made : (s : Tm) (p : Ty × Tm × Tm) → eq_parts s ≡ Some p → s ≡ eq p.0 p.1 p.2
eq_made s p e = binary_made (codes "Pure.eq") s p e

pub imp_made : (s : Tm) (p : Tm × Tm) → imp_parts s ≡ Some p → s ≡ imp p.0 p.1
imp_made s p e =
    let b = bind_some (binary (codes "Pure.imp") s) _ e in
    let t = cond_some (ty_eq b.0.0 prop) (Some (b.0.1, b.0.2)) b.2 in
    let T = (ty_decides b.0.0 prop).0 t.0 in
    let q : (b.0.1, b.0.2) ≡ p = cc (t.1) in
    binary_made (codes "Pure.imp") s b.0 b.1 ∙ (λ i. App (App (Const (codes "Pure.imp") (function_of (T i) (function_of (T i) prop))) ((q i).0)) ((q i).1))

pub all_made : (s : Tm) (p : List ℕ × Ty × Tm) → all_parts s ≡ Some p → s ≡ all p.0 p.1 p.2
all_made s p e =
    let outer = bind_some (app_parts s) _ e in
    let F = bind_some (const_type (codes "Pure.all") outer.0.0) _ outer.2 in
    let P = bind_some (predicate_of F.0) _ F.2 in
    let T = bind_some (predicate_of P.0) _ P.2 in
    let b = bind_some (abs_parts outer.0.1) _ T.2 in
    let t = cond_some (ty_eq b.0.1 T.0) (Some b.0) b.2 in
    let same = (ty_decides b.0.1 T.0).0 t.0 in
    let q : b.0 ≡ p = cc (t.1) in
    let f = predicate_made F.0 P.0 P.1 ∙ ap (λ X. function_of X prop) (predicate_made P.0 T.0 T.1 ∙ ap (λ X. function_of X prop) (sym same)) in
    let c = const_made (codes "Pure.all") outer.0.0 F.0 F.1 ∙ ap (Const (codes "Pure.all")) f in
    app_made s outer.0 outer.1 ∙ (λ i. App (c i) (abs_made outer.0.1 b.0 b.1 i)) ∙ ap (λ (r : List ℕ × Ty × Tm). all r.0 r.1 r.2) q

pub last_made : (t : Tm) → is_last t ≡ true → t ≡ Bound 0
last_made (Bound n) e = ap Bound ((Decides-eqb n 0).0 e)
last_made (Const x T) e = cc
last_made (Free x T) e = cc
last_made (Unknown x n T) e = cc
last_made (Abs x T b) e = cc
last_made (App f a) e = cc

-- a constant of that name, whose type is a relation on S
pub constant_made : (name : List ℕ) (c : Tm) (F T S : Ty) → const_type name c ≡ Some F → relation_of F ≡ Some T → ty_eq T S ≡ true → c ≡ Const name (function_of S (function_of S prop))
constant_made name c F T S e f h = const_made name c F e ∙ ap (Const name) (relation_made F T f ∙ ap (λ X. function_of X (function_of X prop)) ((ty_decides T S).0 h))

-- a constant of that name, whose type is that of quantifiers over S
pub quantifier_made : (name : List ℕ) (c : Tm) (F P T S : Ty) → const_type name c ≡ Some F → predicate_of F ≡ Some P → predicate_of P ≡ Some T → ty_eq T S ≡ true → c ≡ Const name (function_of (function_of S prop) prop)
quantifier_made name c F P T S e f g h = const_made name c F e ∙ ap (Const name) (predicate_made F P f ∙ ap (λ X. function_of X prop) (predicate_made P T g ∙ ap (λ X. function_of X prop) ((ty_decides T S).0 h)))
