-- Free variables that are named `:` and digits.
-- Source: the free variables that stand for the variables of binders that are gone through, as Isabelle's `Name.bound`, which are named by a colon and a number, so that no text can name them.
use Rattle.std.specs.Prelude.{◌≡◌, List, [], ◌∷◌, Bool, false, ◌||◌}
use Rattle.isa_terms.specs.Terms.{Tm, Const, Free, Unknown, Bound, Abs, App}
use Rattle.isa_terms.specs.Order.{is_counted}
use Rattle.isa_terms.specs.Instances.{Each}
use Rattle.isa_terms.specs.declared.inst.TermEntry.{TermEntry}
use Rattle.isa_kernel.specs.Theorem.{Theorem}
use Rattle.isa_goal.specs.Goals.{Goals}

-- whether a free variable of the term is named `:` and digits
abbrev pub has_counted : Tm → Bool
has_counted (Free x T) = is_counted x
has_counted (Abs x T b) = has_counted b
has_counted (App f a) = has_counted f || has_counted a
has_counted _ = false

-- whether one of the terms that an instance gives has such a free variable
abbrev pub entries_have_counted : List TermEntry → Bool
entries_have_counted [] = false
entries_have_counted (f ∷ fs) = has_counted f.term || entries_have_counted fs

-- whether the proposition of one of the rules has one
abbrev pub rules_have_counted : List Theorem → Bool
rules_have_counted [] = false
rules_have_counted (th ∷ ths) = has_counted th.prop || rules_have_counted ths

-- a state that has no such free variable
pub record IsUncountedState (s : Goals) : Type 0 where
  pub subgoals : Each (λ t. has_counted t ≡ false) s.subgoals
  pub goal : has_counted s.goal ≡ false
