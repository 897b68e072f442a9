-- Noting entries in an index, and finding them.
use Rattle.std.proofs.Common.{◌≡◌, ℕ, zero, suc, nat_eq, List, [], ◌∷◌, Option, Some, None, Bool, true, false, cond, ◌||◌, ◌&&◌, refl, sym, ap, ◌∙◌}
use Rattle.std.specs.List.{slice_get}
use Rattle.std.specs.Map.{lookup}
use Rattle.isa_terms.specs.Terms.{Tm}
use Rattle.isa_terms.specs.Equal.{name_eq}
use Rattle.isa_kernel.specs.declared.axioms.NamedProp.{NamedProp}
use Rattle.isa_kernel.specs.declared.base.BaseEntry.{BaseEntry}
use Rattle.isa_kernel.specs.declared.base.BaseEntry.TheVariants.{Axiom, Cite}
use Rattle.isa_kernel.specs.Axioms.{same_entry, has_entry}
use Rattle.isa_kernel.specs.Indexes.{place_of, IsIndexed, Notes}

-- a key that has no value after another got one is another
none_behind : {V : Type 0} (v : V) (o : Option V) (b : Bool) → cond b (Some v) o ≡ None → (b ≡ false) × (o ≡ None)
none_behind v o true e = cc
none_behind v o false e = (refl, e)

and_false : (a b : Bool) → a ≡ false → (a && b) ≡ false
and_false a b e = ap (λ x. x && b) e

module _ (axioms : List (List ℕ × ℕ)) (cites : List (ℕ × ℕ)) where
  pub notes_axiom : (more : List (List ℕ × ℕ)) (a : NamedProp) (k : List ℕ) (v : ℕ) → k ≡ a.name → ((q : List ℕ) → lookup (name_eq q) more ≡ cond (name_eq k q) (Some v) (lookup (name_eq q) axioms)) → Notes axioms cites more cites (Axiom a)
  notes_axiom more a k v s h = record { before = before; other = other }
    where
      parts : (q : List ℕ) → lookup (name_eq q) more ≡ None → (name_eq k q ≡ false) × (lookup (name_eq q) axioms ≡ None)
      parts q e = none_behind v (lookup (name_eq q) axioms) (name_eq k q) (sym (h q) ∙ e)

      before : (f : BaseEntry) → place_of more cites f ≡ None → place_of axioms cites f ≡ None
      before (Axiom b) e = (parts b.name e).1
      before (Cite n p cs) e = e

      other : (f : BaseEntry) → place_of more cites f ≡ None → same_entry (Axiom a) f ≡ false
      other (Axiom b) e = and_false (name_eq a.name b.name) _ (ap (λ x. name_eq x b.name) (sym s) ∙ (parts b.name e).0)
      other (Cite n p cs) e = refl

  pub notes_cite : (more : List (ℕ × ℕ)) (n : ℕ) (p : Tm) (cs : List NamedProp) (v : ℕ) → ((q : ℕ) → lookup (nat_eq q) more ≡ cond (nat_eq n q) (Some v) (lookup (nat_eq q) cites)) → Notes axioms cites axioms more (Cite n p cs)
  notes_cite more n p cs v h = record { before = before; other = other }
    where
      parts : (q : ℕ) → lookup (nat_eq q) more ≡ None → (nat_eq n q ≡ false) × (lookup (nat_eq q) cites ≡ None)
      parts q e = none_behind v (lookup (nat_eq q) cites) (nat_eq n q) (sym (h q) ∙ e)

      before : (f : BaseEntry) → place_of axioms more f ≡ None → place_of axioms cites f ≡ None
      before (Axiom b) e = e
      before (Cite m q bs) e = (parts m e).1

      other : (f : BaseEntry) → place_of axioms more f ≡ None → same_entry (Cite n p cs) f ≡ false
      other (Axiom b) e = refl
      other (Cite m q bs) e = and_false (nat_eq n m) _ (parts m e).0

-- what stands at a place is there
or_true : (a b : Bool) → a ≡ true → (a || b) ≡ true
or_true a b e = ap (λ x. x || b) e

or_later : (a b : Bool) → b ≡ true → (a || b) ≡ true
or_later true b e = refl
or_later false b e = e

pub stands_there : (es : List BaseEntry) (i : ℕ) (e f : BaseEntry) → slice_get es i ≡ Some e → same_entry e f ≡ true → has_entry es f ≡ true
stands_there [] i e f g h = cc
stands_there (d ∷ es) zero e f g h = let s : d ≡ e = cc (g) in or_true (same_entry d f) (has_entry es f) (ap (λ x. same_entry x f) s ∙ h)
stands_there (d ∷ es) (suc i) e f g h = or_later (same_entry d f) (has_entry es f) (stands_there es i e f g h)

-- ---- entries noted one after the other
-- an entry that has no place in the index is none of the entries but those that are left
pub record Noted (axioms : List (List ℕ × ℕ)) (cites : List (ℕ × ℕ)) (left entries : List BaseEntry) : Type 0 where
  pub behind : (e : BaseEntry) → place_of axioms cites e ≡ None → has_entry entries e ≡ has_entry left e

pub noted_none : (axioms : List (List ℕ × ℕ)) (cites : List (ℕ × ℕ)) (entries : List BaseEntry) → Noted axioms cites entries entries
noted_none axioms cites entries = record { behind = λ e n. refl }

pub noted_more : (axioms more_axioms : List (List ℕ × ℕ)) (cites more_cites : List (ℕ × ℕ)) (left rest entries : List BaseEntry) (e : BaseEntry) → Noted axioms cites left entries → left ≡ e ∷ rest → Notes axioms cites more_axioms more_cites e → Noted more_axioms more_cites rest entries
noted_more axioms more_axioms cites more_cites left rest entries e h s n = record { behind = λ f none. h.behind f (n.before f none) ∙ ap (λ r. has_entry r f) s ∙ ap (λ b. b || has_entry rest f) (n.other f none) }

pub noted_all : (axioms : List (List ℕ × ℕ)) (cites : List (ℕ × ℕ)) (left entries : List BaseEntry) → Noted axioms cites left entries → left ≡ [] → IsIndexed axioms cites entries
noted_all axioms cites left entries h s = record { absent = λ e none. h.behind e none ∙ ap (λ r. has_entry r e) s }
