-- The subgoals of a canonical state are in the form.
use Rattle.std.proofs.Common.{◌≡◌, ℕ, ◌+◌, List, [], ◌∷◌, map, Bool, true, false, cond, refl, ap, ◌∙◌, sym, subst}
use Rattle.isa_terms.specs.Types.{Ty, TyCon, TyFixed, TyUnknown}
use Rattle.isa_terms.specs.Terms.{Tm, Const, Free, Unknown, Bound, Abs, App}
use Rattle.isa_terms.specs.Normal.{IsNormal}
use Rattle.isa_terms.specs.Instance.{Instance, instance_of, set_type, set_term, same_type_unknown, same_unknown}
use Rattle.isa_terms.specs.Unknowns.{unknowns_of, type_unknowns_of}
use Rattle.isa_terms.specs.declared.inst.TypeEntry.{TypeEntry}
use Rattle.isa_terms.specs.declared.inst.TermEntry.{TermEntry}
use Rattle.isa_goal.specs.Goals.{Goals, IsStanding}
use Rattle.isa_goal.specs.Names.{next_type_number, next_number, type_entries, entries, set_types, set_terms, free_names, fixed_names, terms_of, type_naming, term_naming, naming, normalised, reshaped, canon}
use Rattle.isa_subgoal.specs.Shape.{is_in_form, shaped}
use Rattle.isa_terms.specs.Instances.{Each}
use Rattle.isa_goal.specs.Follows.{IsNormalState}
use Rattle.isa_goal.specs.Canonical.{IsFormedState}
use Rattle.isa_subgoal.proofs.Deriving.{ArePropositions, derived_propositions}
use Rattle.isa_goal.proofs.Chaining.{instance_proposition, normalised_normal}
use Rattle.isa_subgoal.proofs.InForm.{shaped_in_form}
use Rattle.isa_subgoal.proofs.Shaping.{shaped_normal}
use Rattle.isa_goal.proofs.Unknowns.{IsTypeUnknown, IsUnknown, RenamesTypes, RenamesTerms, instance_renamed, form_renamed}

-- ---- a state's naming renames
entries_rename_types : (names : List (List ℕ)) (n : ℕ) (us : List Ty) → RenamesTypes (type_entries names n us)
unfolding type_entries
entries_rename_types names n [] = tt
entries_rename_types names n (TyUnknown x i ∷ us) = (tt, entries_rename_types names (next_type_number names n + 1) us)
entries_rename_types names n (TyCon x Ts ∷ us) = entries_rename_types names n us
entries_rename_types names n (TyFixed x ∷ us) = entries_rename_types names n us

entries_rename_terms : (es : List TypeEntry) (names : List (List ℕ)) (n : ℕ) (us : List Tm) → RenamesTerms (entries es names n us)
unfolding entries
entries_rename_terms es names n [] = tt
entries_rename_terms es names n (Unknown x i T ∷ us) = (tt, entries_rename_terms es names (next_number names n + 1) us)
entries_rename_terms es names n (Const x T ∷ us) = entries_rename_terms es names n us
entries_rename_terms es names n (Free x T ∷ us) = entries_rename_terms es names n us
entries_rename_terms es names n (Bound i ∷ us) = entries_rename_terms es names n us
entries_rename_terms es names n (Abs x T b ∷ us) = entries_rename_terms es names n us
entries_rename_terms es names n (App f a ∷ us) = entries_rename_terms es names n us

set_renames_types : (e : TypeEntry) (es : List TypeEntry) → IsTypeUnknown e.typ → RenamesTypes es → RenamesTypes (set_type e es)
set_renames_types e [] h k = (h, tt)
set_renames_types e (d ∷ ds) h k = go (same_type_unknown e d) (set_renames_types e ds h k.1)
  where
    go : (b : Bool) → RenamesTypes (set_type e ds) → RenamesTypes (cond b (e ∷ ds) (d ∷ set_type e ds))
    go true r = (h, k.1)
    go false r = (k.0, r)

set_renames_terms : (f : TermEntry) (fs : List TermEntry) → IsUnknown f.term → RenamesTerms fs → RenamesTerms (set_term f fs)
set_renames_terms f [] h k = (h, tt)
set_renames_terms f (g ∷ gs) h k = go (same_unknown f g) (set_renames_terms f gs h k.1)
  where
    go : (b : Bool) → RenamesTerms (set_term f gs) → RenamesTerms (cond b (f ∷ gs) (g ∷ set_term f gs))
    go true r = (h, k.1)
    go false r = (k.0, r)

sets_rename_types : (ds es : List TypeEntry) → RenamesTypes ds → RenamesTypes es → RenamesTypes (set_types ds es)
sets_rename_types [] es h k = k
sets_rename_types (d ∷ ds) es h k = sets_rename_types ds (set_type d es) h.1 (set_renames_types d es h.0 k)

sets_rename_terms : (gs fs : List TermEntry) → RenamesTerms gs → RenamesTerms fs → RenamesTerms (set_terms gs fs)
sets_rename_terms [] fs h k = k
sets_rename_terms (g ∷ gs) fs h k = sets_rename_terms gs (set_term g fs) h.1 (set_renames_terms g fs h.0 k)

pub naming_renames : (s : Goals) → RenamesTypes (type_naming s) × RenamesTerms (term_naming s)
naming_renames s = (
  sets_rename_types (type_entries (fixed_names s.goal) 1 (type_unknowns_of (terms_of s))) [] (entries_rename_types (fixed_names s.goal) 1 _) tt,
  sets_rename_terms (entries (type_naming s) (free_names s.goal) 1 (unknowns_of (terms_of s))) [] (entries_rename_terms (type_naming s) (free_names s.goal) 1 _) tt,
)

-- ---- the subgoals
abbrev IsFormed : Tm → Type 0
IsFormed t = is_in_form t ≡ true

-- a normal term in the form is in it under a state's naming
pub named_form : (s : Goals) (t : Tm) → IsNormal t → is_in_form t ≡ true → is_in_form (instance_of (naming s) t) ≡ true
named_form s t n e =
    let r = naming_renames s in
    ap is_in_form (instance_renamed (type_naming s) (term_naming s) r.0 r.1 t n) ∙ form_renamed (type_naming s) (term_naming s) r.0 r.1 t ∙ e

subgoals_formed : (s : Goals) (ts : List Tm) → ArePropositions ts → Each IsNormal ts → Each IsFormed (map (instance_of (naming s)) (map shaped ts))
subgoals_formed s [] w n = tt
subgoals_formed s (t ∷ ts) w n = (named_form s (shaped t) (shaped_normal t w.0 n.0) (shaped_in_form t w.0 n.0), subgoals_formed s ts w.1 n.1)

abbrev empty : Instance
empty = record { types = []; terms = [] }

pub normals_propositions : (ts : List Tm) → ArePropositions ts → ArePropositions (map (instance_of empty) ts)
normals_propositions [] w = tt
normals_propositions (t ∷ ts) w = (instance_proposition empty t refl w.0, normals_propositions ts w.1)

pub canon_formed : (s t : Goals) → IsStanding s → t ≡ canon s → IsFormedState t
canon_formed s t d e =
    let p = derived_propositions s.subgoals s.goal d.derivation in
    let n : IsNormalState (normalised s) = normalised_normal s (normalised s) d refl in
    subst (λ x. IsFormedState x) (sym e) (record { subgoals = subgoals_formed (reshaped (normalised s)) (map (instance_of empty) s.subgoals) (normals_propositions s.subgoals p.0) n.subgoals })
