-- The form of a subgoal: `!!`s, then `==>`s, then a conclusion that is neither.
-- Source: hereditary Harrop formulas (The Isabelle/Isar Implementation Manual, "Object-level rules"); that a subgoal in the form stays as it is, names included, is this project's.
use Rattle.std.specs.Prelude.{◌≡◌, List, [], ◌∷◌, ◌++◌, map, Bool, true, ◌||◌, if◌then◌else◌, Some, None, is_some, not, codes}
use Rattle.isa_terms.specs.Types.{Ty}
use Rattle.isa_terms.specs.Terms.{Tm, Bound, Abs, App}
use Rattle.isa_terms.specs.Replace.{raise}
use Rattle.isa_terms.specs.Norm.{norm}
use Rattle.isa_terms.specs.Normal.{IsNormal}
use Rattle.isa_kernel.specs.Logic.{all, IsProposition}
use Rattle.isa_kernel.specs.Forms.{imp_parts, quantifier_parts}
use Rattle.isa_subgoal.specs.Premises.{implies, conclusion}

-- whether it is `!!` over a predicate
abbrev pub is_quantified : Tm → Bool
is_quantified t = is_some (quantifier_parts t)

-- whether a normal proposition has the form; `!!` over a predicate that is no abstraction has it, since what the predicate gives at a variable has no `!!` behind a `==>`
abbrev pub is_in_form : Tm → Bool
is_in_form (App f (Abs x T b)) = if is_quantified (App f (Abs x T b)) then is_in_form b else not (is_quantified (conclusion (App f (Abs x T b))))
is_in_form (App f a) = is_quantified (App f a) || not (is_quantified (conclusion (App f a)))
is_in_form t = true

-- `!!x. P x`
abbrev pub over_name : Ty → Tm → Tm
over_name T P = all (codes "x") T (App (raise 1 0 P) (Bound 0))

-- the same, and where `P x` is `!!` over a predicate Q, `!!x. !!x. Q x`
abbrev pub over_names : Ty → Tm → Tm
over_names T P = all (codes "x") T (elim (quantifier_parts (App (raise 1 0 P) (Bound 0))) [ None ↦ App (raise 1 0 P) (Bound 0) | Some q ↦ over_name q.0 q.1 ])

-- behind its `!!`s and `==>`s, a `!!` over a predicate that is no abstraction gets a parameter that is named x
abbrev pub spelled : Tm → Tm
spelled (App f (Abs x T b)) = elim (quantifier_parts (App f (Abs x T b))) [ None ↦ App f (Abs x T b) | Some q ↦ App f (Abs x T (spelled b)) ]
spelled (App f a) = elim (imp_parts (App f a)) [ None ↦ elim (quantifier_parts (App f a)) [ None ↦ App f a | Some q ↦ over_names q.0 q.1 ] | Some p ↦ App f (spelled a) ]
spelled t = t

-- the `!!`s in their order, then the premises hs and those of t, then the conclusion
abbrev pub gathered : List Tm → Tm → Tm
gathered hs (App f (Abs x T b)) = elim (quantifier_parts (App f (Abs x T b))) [ None ↦ implies hs (App f (Abs x T b)) | Some q ↦ App f (Abs x T (gathered (map (raise 1 0) hs) b)) ]
gathered hs (App f a) = elim (imp_parts (App f a)) [ None ↦ implies hs (App f a) | Some p ↦ gathered (hs ++ p.0 ∷ []) a ]
gathered hs t = implies hs t

-- the subgoal in the form, before it is normalised
abbrev pub moved : Tm → Tm
moved t = gathered [] (spelled t)

-- the subgoal in the form; one that has it stays as it is
abbrev pub shaped : Tm → Tm
shaped t = if is_in_form t then t else norm (moved t)

-- a shaped normal proposition is in the form
abbrev pub ShapedIsInForm : Type 0
ShapedIsInForm = (t : Tm) → IsProposition t → IsNormal t → is_in_form (shaped t) ≡ true

-- one in the form stays as it is
abbrev pub FormStays : Type 0
FormStays = (t : Tm) → is_in_form t ≡ true → shaped t ≡ t
