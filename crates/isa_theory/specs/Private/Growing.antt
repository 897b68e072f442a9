-- A context that has grown, and can be cut back.
use Rattle.std.specs.Prelude.{◌≡◌, ◌≢◌, List, ◌++◌, length, Result, Ok, Err}
use Rattle.isa_outer.specs.declared.refusal.Kind.{Kind}
use Rattle.isa_outer.specs.declared.refusal.Kind.TheVariants as kind
use Rattle.isa_syntax.specs.Growing.{mark_of, Grows as SyntaxGrows}
use Rattle.isa_theory.specs.declared.context.Mark.{Mark}
use Rattle.isa_theory.specs.Contexts.{ContextSeen}

-- more stands behind the first list
pub record Goes {A : Type 0} (old new : List A) : Type 0 where
  pub more : List A
  pub is : new ≡ old ++ more

-- more was declared behind what there was, and facts got roles
pub record Grows (old new : ContextSeen) : Type 0 where
  pub theory : Goes old.theory new.theory
  pub syntax : SyntaxGrows old.syntax new.syntax
  pub facts : Goes old.facts new.facts
  pub declarations : Goes old.declarations new.declarations
  pub options : new.options ≡ old.options
  pub lemmas : new.lemmas ≡ old.lemmas

-- the mark tells how much there was, and the roles
pub record IsMark (m : Mark) (c : ContextSeen) : Type 0 where
  pub theory : m.theory ≡ length c.theory
  pub syntax : m.syntax ≡ mark_of c.syntax
  pub facts : m.facts ≡ length c.facts
  pub declarations : m.declarations ≡ length c.declarations
  pub logic : m.logic.value ≡ c.logic

-- where it was refused, nothing but that happened
abbrev pub GrowsIfRefused : {A : Type 0} → Result A Kind → ContextSeen → ContextSeen → Type 0
GrowsIfRefused (Ok a) old new = Unit {0}
GrowsIfRefused (Err k) old new = Grows old new

-- the context that is left is one that may come, or the refusal is, want of memory aside
abbrev pub MayBecome : {A : Type 0} → Result A Kind → ContextSeen → (Result ContextSeen Kind → Type 0) → Type 0
MayBecome (Ok a) now wanted = wanted (Ok now)
MayBecome (Err k) now wanted = k ≢ kind.Memory → wanted (Err k)

-- the same, where just one may come
abbrev pub Becomes : {A : Type 0} → Result A Kind → ContextSeen → Result ContextSeen Kind → Type 0
Becomes r now wanted = MayBecome r now (λ w. wanted ≡ w)
