-- The answer Yes of unification is right.
use Rattle.std.proofs.Common.{◌≡◌, ℕ, List, [], ◌∷◌, map, Bool, true, false, cond, Option, Some, None, unwrap_or, refl, sym, ap, ◌∙◌, subst}
use Rattle.isa_terms.specs.Types.{Ty}
use Rattle.isa_terms.specs.Terms.{Tm, Const, Free, Unknown, Bound, Abs, App, bare}
use Rattle.isa_terms.specs.Norm.{norm}
use Rattle.isa_terms.specs.Instance.{Instance, find_term, inst_ty, inst_tm}
use Rattle.isa_terms.specs.declared.inst.TypeEntry.{TypeEntry}
use Rattle.isa_terms.specs.declared.inst.TermEntry.{TermEntry}
use Rattle.isa_terms.specs.Conversion.{Conv, CSym}
use Rattle.isa_terms.specs.Instances.{IsFollowed}
use Rattle.isa_terms.proofs.Conv.{right_typed}
use Rattle.isa_terms.proofs.Unique.{conv_norm}
use Rattle.isa_terms.proofs.Composing.{Covers}
use Rattle.isa_terms.proofs.Valuations.{Values, val, AreFit, val_conv, val_norm, values_of, values_fit}
use Rattle.isa_unify.specs.declared.equation.Equation.{Equation}
use Rattle.isa_unify.specs.declared.progress.Answer.TheVariants.{Yes, No}
use Rattle.isa_unify.specs.TypeUnification.{entries_under, unify_typs}
use Rattle.isa_unify.specs.Unification.{asked_types, asked_terms, all_types, clashes, unified, start, answer_at, unify, retyped_equation, retyped_state}
use Rattle.isa_unify.specs.UnifyLaw.{HasUnknowns, AreGiven, MakesEqual, GoesThrough, IsMostGeneralFor, YesIsRight}
use Rattle.isa_unify.proofs.TypesUnify.{types_most_general}
use Rattle.isa_unify.proofs.Unknowns.{key}
use Rattle.isa_unify.proofs.Adequacy.{unified_reached}
use Rattle.isa_unify.proofs.Meaning.{EachHolds}
use Rattle.isa_unify.proofs.Changing.{Sig, AllSided, TermsTyped}
use Rattle.isa_unify.proofs.Outcomes.{Factor, Outcome, TermsUnder, retyped_outcome, retyped_sig}
use Rattle.isa_unify.proofs.General.{AnswerView, answered, given_sided, given_known, solution_holds, start_ready}
use Rattle.isa_unify.proofs.Asked.{HasTypes, AreThemselves, TermsThemselves, TypesIn, TypesInEach, CoversEach, asks_each, asks_terms, asked_themselves, under_ty, found_under, under_kept, asked_conv, all_entries_for, all_values, all_covered, found_in, entries_value, values_kept}

module _ (A : List TypeEntry) (F fs : List TermEntry) (by_types : List TypeEntry) (by : Values) (fit : AreFit by_types by) (selves : AreThemselves A) (terms_selves : TermsThemselves A F) (under : TermsUnder by_types by F fs) (typed : TermsTyped fs) where
  abbrev Types : List TypeEntry
  Types = entries_under by_types A

  -- the sides are equal under the answer
  pub equal_each : (es : List Equation) → AllSided es → TypesInEach A es → CoversEach F es → EachHolds by_types by es → MakesEqual (record { types = Types; terms = fs }) es
  equal_each [] s i c h = tt
  equal_each (e ∷ es) s i c h =
      let left = asked_conv by_types by fit A F fs selves terms_selves under typed s.0.left i.0.0 c.0.0 in
      let right = asked_conv by_types by fit A F fs selves terms_selves under typed s.0.right i.0.1 c.0.1 in
      (sym (conv_norm left) ∙ conv_norm h.0.equal ∙ conv_norm right, equal_each es s.1 i.1 c.1 h.1)

  module _ (typ : Sig) (n : ℕ) (r : Instance) (f : Factor typ n r.types (values_of r.types r.terms) by_types by) where
    abbrev Rest : List TermEntry
    Rest = all_entries_for f.rest fs

    types_followed : (T : Ty) → HasTypes A T → inst_ty r.types T ≡ inst_ty f.rest_types (inst_ty Types T)
    types_followed T h = sym (ap (inst_ty f.rest_types) (under_ty by_types A selves T h) ∙ f.types T)

    pub followed : (t : Tm) → TypesIn A t → Covers F t → HasUnknowns typ n t → IsFollowed r.types r.terms Types fs f.rest_types Rest t
    followed (Const x T) i c u = types_followed T i
    followed (Free x T) i c u = types_followed T i
    followed (Bound k) i c u = tt
    followed (Abs x T b) i c u = (types_followed T i.0, followed b i.1 c u)
    followed (App g a) i c u = (followed g i.0 c.0 u.0, followed a i.1 c.1 u.1)
    followed (Unknown x j T) i c u =
        let d = unwrap_or (find_term x j T fs) (Unknown x j (inst_ty Types T)) in
        let conv : Conv [] (inst_ty by_types T) (by x j T) d = found_under by_types by fit A F fs terms_selves under typed x j T c (Unknown x j (inst_ty Types T)) in
        let first : bare (norm (inst_tm r.types r.terms (Unknown x j T))) ≡ bare (norm (val f.rest_types f.rest (by x j T))) = conv_norm (f.terms (key x j T) u) in
        let second : bare (norm (val f.rest_types f.rest (by x j T))) ≡ bare (norm (val f.rest_types f.rest d)) = conv_norm (val_conv f.rest_types f.rest f.fit conv) in
        let third : bare (norm (val f.rest_types f.rest d)) ≡ bare (norm (val f.rest_types f.rest (norm d))) = conv_norm (CSym (val_norm f.rest_types f.rest f.fit (right_typed conv))) in
        let covered : Covers Rest (norm d) = found_in by_types by Rest F fs under (all_covered f.rest fs) x j T c (Unknown x j (inst_ty Types T)) in
        let fourth : inst_tm f.rest_types Rest (norm d) ≡ val f.rest_types f.rest (norm d) = entries_value f.rest_types f.rest Rest (all_values f.rest fs) (norm d) covered in
        (types_followed T i, first ∙ second ∙ third ∙ ap (λ t. bare (norm t)) (sym fourth))

    pub followed_each : (es : List Equation) → AreGiven typ n es → TypesInEach A es → CoversEach F es → GoesThrough r (record { types = Types; terms = fs }) (record { types = f.rest_types; terms = Rest }) es
    followed_each [] g i c = tt
    followed_each (e ∷ es) g i c = ((followed e.left i.0.0 c.0.0 g.0.left_unknowns, followed e.right i.0.1 c.0.1 g.0.right_unknowns), followed_each es g.1 i.1 c.1)

most_general : (typ : Sig) (n : ℕ) (es : List Equation) → AreGiven typ n es → (s : List TypeEntry) → unify_typs (all_types es) ≡ Some s → (ts : List TypeEntry) (fs : List TermEntry) → Outcome (retyped_sig s typ) (retyped_state s (start es n)) ts fs → IsMostGeneralFor es (record { types = ts; terms = fs })
most_general typ n es g s e ts fs o =
    let sided = given_sided typ n es g in
    let mg = types_most_general (all_types es) s e in
    let p = retyped_outcome typ (start es n) sided (given_known typ n es g) s ts fs o in
    let A = asked_types [] es in
    let F = asked_terms [] es in
    let asks = asks_each [] es in
    let selves : AreThemselves A = asks.selves tt in
    let terms_selves : TermsThemselves A F = asked_themselves A [] es asks.has tt in
    let covers = (asks_terms [] es).has in
    subst (λ us. IsMostGeneralFor es (record { types = us; terms = fs })) (sym p.types) (record {
      keeps = under_kept p.by_types p.by p.fit A F fs selves terms_selves p.terms p.terms_typed;
      equal = equal_each A F fs p.by_types p.by p.fit selves terms_selves p.terms p.terms_typed es sided asks.has covers p.solves;
      general = λ r k m.
          let h = solution_holds typ n r k es g m in
          let f = p.factor r.types (values_of r.types r.terms) (values_fit r.types r.terms k) (λ T. mg.general r.types h.1 T) h.0 in
          record {
            rest = record { types = f.rest_types; terms = all_entries_for f.rest fs };
            keeps = values_kept f.rest_types f.rest f.fit (all_entries_for f.rest fs) (all_values f.rest fs);
            through = followed_each A F fs p.by_types p.by p.fit selves terms_selves p.terms p.terms_typed typ n r f es g asks.has covers;
          };
    })

pub yes_is_right : YesIsRight
unfolding unify
yes_is_right typ n es g ts fs m e = go (unify_typs (all_types es)) refl e
  where
    at : (s : List TypeEntry) → unify_typs (all_types es) ≡ Some s → (b : Bool) → cond b No (unified (retyped_state s (start es n))) ≡ Yes ts fs m → IsMostGeneralFor es (record { types = ts; terms = fs })
    at s p true q = absurd (cc)
    at s p false q =
        let mg = types_most_general (all_types es) s p in
        let o : Outcome (retyped_sig s typ) (retyped_state s (start es n)) ts fs =
        subst (AnswerView (retyped_sig s typ) (retyped_state s (start es n))) q (answered (unified_reached (retyped_state s (start es n))).1 (retyped_sig s typ) (start_ready typ n es g s mg.unifies)) in
        most_general typ n es g s p ts fs o

    go : (o : Option (List TypeEntry)) → unify_typs (all_types es) ≡ o → answer_at es n o ≡ Yes ts fs m → IsMostGeneralFor es (record { types = ts; terms = fs })
    go None p q = absurd (cc)
    go (Some s) p q = at s p (clashes (map (retyped_equation s) es)) q
