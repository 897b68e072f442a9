-- Entries that are put into a map are found there.
use Rattle.std.specs.Prelude.{is_some}
use Rattle.std.proofs.Common.{◌≡◌, ℕ, List, [], ◌∷◌, Bool, true, false, cond, ◌&&◌, nat_eq, Some, None, refl, ap, ◌∙◌}
use Rattle.std.proofs.lemmas.Bool.Decides.{Decides-eqb}
use Rattle.std.specs.Cmp.Lexicographic.{bytes_decides}
use Rattle.isa_terms.specs.Types.{Ty}
use Rattle.isa_terms.specs.Equal.{name_eq, ty_eq}
use Rattle.isa_terms.specs.Instance.{find_term, set_term, same_unknown}
use Rattle.isa_terms.specs.declared.inst.TermEntry.{TermEntry}
use Rattle.isa_terms.proofs.Equal.{ty_decides}

both_true : (a b : Bool) → (a && b) ≡ true → (a ≡ true) × (b ≡ true)
both_true true b e = (refl, e)
both_true false b e = cc

pub term_set_keeps : (x : List ℕ) (i : ℕ) (T : Ty) (f : TermEntry) (fs : List TermEntry) → is_some (find_term x i T fs) ≡ true → is_some (find_term x i T (set_term f fs)) ≡ true
term_set_keeps x i T f [] e = absurd (cc)
term_set_keeps x i T f (g ∷ gs) e = go (same_unknown f g) refl (λ r. term_set_keeps x i T f gs r)
  where
    later : (b : Bool) → is_some (cond b (Some g.term) (find_term x i T gs)) ≡ true → (is_some (find_term x i T gs) ≡ true → is_some (find_term x i T (set_term f gs)) ≡ true) → is_some (cond b (Some g.term) (find_term x i T (set_term f gs))) ≡ true
    later true h r = refl
    later false h r = r h

    first : (b : Bool) → is_some (cond b (Some g.term) (find_term x i T gs)) ≡ true → is_some (cond b (Some f.term) (find_term x i T gs)) ≡ true
    first true h = refl
    first false h = h

    go : (b : Bool) → same_unknown f g ≡ b → (is_some (find_term x i T gs) ≡ true → is_some (find_term x i T (set_term f gs)) ≡ true) → is_some (find_term x i T (cond b (f ∷ gs) (g ∷ set_term f gs))) ≡ true
    go true s r =
        let p = both_true (name_eq f.name g.name) (nat_eq f.number g.number && ty_eq f.typ g.typ) s in
        let q = both_true (nat_eq f.number g.number) (ty_eq f.typ g.typ) p.1 in
        let n : f.name ≡ g.name = (bytes_decides f.name g.name).0 p.0 in
        let m : f.number ≡ g.number = (Decides-eqb f.number g.number).0 q.0 in
        let y : f.typ ≡ g.typ = (ty_decides f.typ g.typ).0 q.1 in
        first (name_eq x f.name && (nat_eq i f.number && ty_eq T f.typ)) (ap (λ b. is_some (cond b (Some g.term) (find_term x i T gs))) (λ j. name_eq x (n j) && (nat_eq i (m j) && ty_eq T (y j))) ∙ e)
    go false s r = later (name_eq x g.name && (nat_eq i g.number && ty_eq T g.typ)) e r

key_same : (f : TermEntry) → (name_eq f.name f.name && (nat_eq f.number f.number && ty_eq f.typ f.typ)) ≡ true
key_same f = λ j. (bytes_decides f.name f.name).1 refl j && ((Decides-eqb f.number f.number).1 refl j && (ty_decides f.typ f.typ).1 refl j)

pub term_set_has : (f : TermEntry) (fs : List TermEntry) → is_some (find_term f.name f.number f.typ (set_term f fs)) ≡ true
term_set_has f [] = ap (λ b. is_some (cond b (Some f.term) None)) (key_same f)
term_set_has f (g ∷ gs) = go (same_unknown f g) refl (term_set_has f gs)
  where
    go : (b : Bool) → same_unknown f g ≡ b → is_some (find_term f.name f.number f.typ (set_term f gs)) ≡ true → is_some (find_term f.name f.number f.typ (cond b (f ∷ gs) (g ∷ set_term f gs))) ≡ true
    go true s r = ap (λ b. is_some (cond b (Some f.term) (find_term f.name f.number f.typ gs))) (key_same f)
    go false s r = ap (λ b. is_some (cond b (Some g.term) (find_term f.name f.number f.typ (set_term f gs)))) s ∙ r
