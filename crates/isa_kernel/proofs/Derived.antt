-- Derived inferences: their records replay, and give what their definitions say.
use Rattle.std.proofs.Common.{◌≡◌, List, [], ◌∷◌, Bool, true, false, cond, ◌||◌, Some, None, Ok, Err, Result, IfOk, length, arith, refl, sym, ap, ◌∙◌, subst, ◌++◌, append-nil}
use Rattle.std.specs.Prelude.{option_and_then}
use Rattle.std.specs.List.{slice_get}
use Rattle.std.proofs.Common.{ℕ, zero, suc}
use Rattle.isa_terms.specs.Terms.{Tm}
use Rattle.isa_terms.specs.Equal.{tm_eq}
use Rattle.isa_terms.specs.Sets.{has, missing, joined, without}
use Rattle.isa_terms.specs.Typing.{type_at}
use Rattle.isa_terms.proofs.Bare.{tm_decides, type_at_bare}
use Rattle.isa_terms.proofs.Functions.{bind_some, cond_some}
use Rattle.isa_terms.proofs.Typed.{type_of_typed, typed_of_type}
use Rattle.isa_kernel.specs.Forms.{imp_parts}
use Rattle.isa_kernel.proofs.Parts.{imp_made}
use Rattle.isa_kernel.specs.Logic.{prop, imp, IsProposition}
use Rattle.isa_kernel.specs.Theorem.{Theorem, IsDerived}
use Rattle.isa_kernel.specs.Axioms.{joined_bases}
use Rattle.isa_kernel.specs.Inferences.{has_type, assumed, implies_introduced, implies_eliminated}
use Rattle.isa_kernel.specs.Derived.{renamed, implies, behind_premises, with_premises, conclusion_behind, undischarged}
use Rattle.isa_kernel.specs.Replay.{Replay, IsRecorded}
use Rattle.isa_kernel.specs.Replays.{replay_of}
use Rattle.isa_kernel.specs.declared.log.LogNode.TheVariants.{Assume, ImpliesIntr, ImpliesElim}
use Rattle.isa_kernel.proofs.Preserved.{derived_proposition, imp_both}
use Rattle.isa_kernel.proofs.Members.{missing_none, missing_entries_none}
use Rattle.isa_kernel.proofs.Recorded.{proposition_typed, assumed_recorded, implies_introduced_recorded, implies_eliminated_recorded}

-- ---- lists of terms
or_left : (a b : Bool) → a ≡ true → (a || b) ≡ true
or_left a b e = ap (λ x. x || b) e

or_right : (a b : Bool) → b ≡ true → (a || b) ≡ true
or_right true b e = refl
or_right false b e = e

-- what stands at a place is there
pub has_there : (us : List Tm) (i : ℕ) (u t : Tm) → slice_get us i ≡ Some u → tm_eq u t ≡ true → has us t ≡ true
has_there [] i u t g h = cc
has_there (v ∷ us) zero u t g h = let s : v ≡ u = cc (g) in or_left (tm_eq v t) (has us t) (ap (λ x. tm_eq x t) s ∙ h)
has_there (v ∷ us) (suc i) u t g h = or_right (tm_eq v t) (has us t) (has_there us i u t g h)

-- ---- names of binders
same_itself : (p : Tm) → tm_eq p p ≡ true
same_itself p = (tm_decides p p).1 refl

-- what equals a derived proposition is a proposition
typed_like : (p : Tm) (th : Theorem) → IsDerived th → tm_eq p th.prop ≡ true → IsProposition p
typed_like p th d e = sym (type_at_bare [] p) ∙ ap (type_at []) ((tm_decides p th.prop).0 e) ∙ derived_proposition d.derivation.tree

module _ (p : Tm) (th : Theorem) where
  assumes : has_type p prop ≡ true → assumed p ≡ Some (record { hyps = p ∷ []; prop = p; base = [] })
  assumes w = ap (λ b. cond b (Some (record { hyps = p ∷ []; prop = p; base = [] })) None) w

  introduces : has_type p prop ≡ true → implies_introduced p (record { hyps = p ∷ []; prop = p; base = [] }) ≡ Some (record { hyps = []; prop = imp p p; base = [] })
  introduces w =
      ap (λ b. cond b (Some (record { hyps = without p (p ∷ []); prop = imp p p; base = [] })) None) w
      ∙ ap (λ b. Some (record { hyps = cond b [] (p ∷ []); prop = imp p p; base = [] })) (same_itself p)

  eliminates : tm_eq p th.prop ≡ true → implies_eliminated (record { hyps = []; prop = imp p p; base = [] }) th ≡ Some (record { hyps = th.hyps; prop = p; base = th.base })
  eliminates e =
      ap (λ b. cond b (Some (record { hyps = joined [] th.hyps; prop = p; base = joined_bases [] th.base })) None) e
      ∙ (λ i. Some (record { hyps = missing_none th.hyps i; prop = p; base = missing_entries_none th.base i }))

  renames : (out : Theorem) (b : Bool) → tm_eq p th.prop ≡ b → cond b (Some (record { hyps = th.hyps; prop = p; base = th.base })) None ≡ Some out → (tm_eq p th.prop ≡ true) × (Some (record { hyps = th.hyps; prop = p; base = th.base }) ≡ Some out)
  renames out true e h = (e, h)
  renames out false e h = cc

  pub renamed_recorded : (a b : Tm) (out : Theorem) (assumption implication log l : Replay) → assumption ≡ replay_of (Assume a) → a ≡ p → implication ≡ replay_of (ImpliesIntr b assumption) → b ≡ p → log ≡ replay_of (ImpliesElim implication l)
      → IsRecorded th l → renamed p th ≡ Some out → IsRecorded out log
  renamed_recorded a b out assumption implication log l ea sa ei si el r h =
      let q = renames out (tm_eq p th.prop) refl h in
      let w : has_type p prop ≡ true = proposition_typed p (typed_like p th r.derived q.0) in
      let first = assumed_recorded p a _ assumption ea sa (assumes w) in
      let second = implies_introduced_recorded p b _ _ implication assumption ei si first (introduces w) in
      implies_eliminated_recorded _ th out log implication l el second r (eliminates q.0 ∙ q.1)

-- a list without members
pub none_left : {A : Type 0} (xs : List A) → length xs ≡ 0 → xs ≡ []
none_left [] e = refl
none_left (x ∷ xs) e = absurd (omega arith)

-- what each value has, it has
pub if_ok_more : {A E : Type 0} {P Q : A → Type 0} (r : Result A E) → ((a : A) → P a → Q a) → IfOk r P → IfOk r Q
if_ok_more (Ok a) f p = f a p
if_ok_more (Err e) f p = tt

-- ---- premises
without_missing : (p : Tm) (ps us : List Tm) → without p (missing ps us) ≡ missing (p ∷ ps) us
without_missing p ps [] = refl
without_missing p ps (u ∷ us) = go (tm_eq p u) (has ps u) refl (without_missing p ps us)
  where
    go : (a b : Bool) → tm_eq p u ≡ a → without p (missing ps us) ≡ missing (p ∷ ps) us → without p (cond b (missing ps us) (u ∷ missing ps us)) ≡ cond (a || b) (missing (p ∷ ps) us) (u ∷ missing (p ∷ ps) us)
    go true true e h = h
    go true false e h = ap (λ c. cond c (without p (missing ps us)) (u ∷ without p (missing ps us))) e ∙ h
    go false true e h = h
    go false false e h = ap (λ c. cond c (without p (missing ps us)) (u ∷ without p (missing ps us))) e ∙ ap (λ r. u ∷ r) h

pub discharged_none : (th : Theorem) → behind_premises [] th ≡ th
discharged_none th = λ i. record { hyps = missing_none th.hyps i; prop = th.prop; base = th.base }

pub discharged_recorded : (p q : Tm) (ps : List Tm) (th : Theorem) (log l : Replay) → log ≡ replay_of (ImpliesIntr q l) → q ≡ p → has_type p prop ≡ true → IsRecorded (behind_premises ps th) l → IsRecorded (behind_premises (p ∷ ps) th) log
discharged_recorded p q ps th log l e s w r =
    implies_introduced_recorded
    p q (behind_premises ps th) (behind_premises (p ∷ ps) th) log l e s r
    (ap (λ b. cond b (Some (record { hyps = without p (missing ps th.hyps); prop = imp p (implies ps th.prop); base = th.base })) None) w
    ∙ ap (λ r. Some (record { hyps = r; prop = imp p (implies ps th.prop); base = th.base })) (without_missing p ps th.hyps))

-- ---- premises as hypotheses
pub joined_known : (us : List Tm) (p : Tm) → has us p ≡ true → joined us (p ∷ []) ≡ us
joined_known us p e = ap (λ b. us ++ cond b [] (p ∷ [])) e ∙ append-nil us

pub joined_new : (us : List Tm) (p : Tm) → has us p ≡ false → joined us (p ∷ []) ≡ us ++ p ∷ []
joined_new us p e = ap (λ b. us ++ cond b [] (p ∷ [])) e

-- a premise of a derived proposition is a proposition
premise_typed : (th : Theorem) (a b p : Tm) → IsDerived th → imp_parts th.prop ≡ Some (a, b) → tm_eq a p ≡ true → IsProposition p
premise_typed th a b p d e t =
    let whole : IsProposition th.prop = sym (type_at_bare [] th.prop) ∙ derived_proposition d.derivation.tree in
    let made : IsProposition (imp a b) = subst (λ x. IsProposition x) (imp_made th.prop (a, b) e) whole in
    let left : IsProposition a = type_of_typed (imp_both (typed_of_type [] (imp a b) prop made)).0 in
    sym (type_at_bare [] p) ∙ ap (type_at []) (sym ((tm_decides a p).0 t)) ∙ type_at_bare [] a ∙ left

pub undischarged_none : (th out : Theorem) (log : Replay) → IsRecorded th log → undischarged [] th ≡ Some out → IsRecorded out log
undischarged_none th out log r h = let e : th ≡ out = cc (h) in subst (λ x. IsRecorded x log) e r

pub undischarged_more : (p q : Tm) (ps : List Tm) (th out : Theorem) (log assumption step result : Replay) → assumption ≡ replay_of (Assume q) → q ≡ p → step ≡ replay_of (ImpliesElim log assumption)
    → ((mid last : Theorem) → IsRecorded mid step → undischarged ps mid ≡ Some last → IsRecorded last result) → IsRecorded th log → undischarged (p ∷ ps) th ≡ Some out → IsRecorded out result
undischarged_more p q ps th out log assumption step result ea sa es rest r h =
    let c = bind_some (conclusion_behind (p ∷ ps) th.prop) (λ (q : Tm). Some (record { hyps = with_premises th.hyps (p ∷ ps); prop = q; base = th.base })) h in
    let i = bind_some (imp_parts th.prop) (λ (x : Tm × Tm). cond (tm_eq x.0 p) (conclusion_behind ps x.1) None) c.1 in
    let t = cond_some (tm_eq i.0.0 p) (conclusion_behind ps i.0.1) i.2 in
    let w : has_type p prop ≡ true = proposition_typed p (premise_typed th i.0.0 i.0.1 p r.derived i.1 t.0) in
    let mid : Theorem = record { hyps = joined th.hyps (p ∷ []); prop = i.0.1; base = joined_bases th.base [] } in
    let first = assumed_recorded p q _ assumption ea sa (assumes p th w) in
    let eliminated : implies_eliminated th (record { hyps = p ∷ []; prop = p; base = [] }) ≡ Some mid =
    ap (λ o. option_and_then (λ (x : Tm × Tm). cond (tm_eq x.0 p) (Some (record { hyps = joined th.hyps (p ∷ []); prop = x.1; base = joined_bases th.base [] })) None) o) i.1 ∙ ap (λ b. cond b (Some mid) None) t.0 in
    let second = implies_eliminated_recorded th _ mid step log assumption es r first eliminated in
    rest mid out second
    (ap (λ o. option_and_then (λ (x : Tm). Some (record { hyps = with_premises (joined th.hyps (p ∷ [])) ps; prop = x; base = joined_bases th.base [] })) o) t.1
    ∙ ap (λ B. Some (record { hyps = with_premises (joined th.hyps (p ∷ [])) ps; prop = c.0; base = B })) (append-nil th.base)
    ∙ c.2)
