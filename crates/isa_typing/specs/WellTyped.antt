-- What is known of a principal term: it is well typed and normal, and its variables have one type each.
use Rattle.std.specs.Prelude.{◌≡◌, ℕ, List}
use Rattle.isa_terms.specs.Types.{Ty}
use Rattle.isa_terms.specs.Terms.{Tm, Const, Free, Unknown, Bound, Abs, App}
use Rattle.isa_terms.specs.Typing.{HasType}
use Rattle.isa_terms.specs.Normal.{IsNormal}
use Rattle.isa_raw.specs.RawTerms.{Raw, RawTyped}
use Rattle.isa_typing.specs.Scopes.{Declared}
use Rattle.isa_typing.specs.Typings.{Variables}
use Rattle.isa_typing.specs.Principal.{IsPrincipal}

-- the free variables and the unknowns of the term have these types, and the unknowns the number 0
abbrev pub HaveTypes : Variables → Tm → Type 0
HaveTypes v (Free x T) = T ≡ v.free x
HaveTypes v (Unknown x i T) = (i ≡ 0) × (T ≡ v.unknown x)
HaveTypes v (Abs x T b) = HaveTypes v b
HaveTypes v (App f a) = HaveTypes v f × HaveTypes v a
HaveTypes v (Const x T) = Unit {0}
HaveTypes v (Bound i) = Unit {0}

-- a principal term is well typed, without loose bound variables, and in normal form
abbrev pub PrincipalTermsAreTyped : Type 0
PrincipalTermsAreTyped = (declared : Declared) (u : Raw) (t : Tm) → IsPrincipal declared u t → (T : Ty) × (HasType t T × IsNormal t)

-- that of an annotated term has the type of the annotation
abbrev pub AnnotationsHold : Type 0
AnnotationsHold = (declared : Declared) (u : Raw) (T : Ty) (t : Tm) → IsPrincipal declared (RawTyped u T) t → HasType t T

-- each free variable and each unknown has one type in it, and unknowns the number 0
abbrev pub VariablesHaveOneType : Type 0
VariablesHaveOneType = (declared : Declared) (u : Raw) (t : Tm) → IsPrincipal declared u t → (v : Variables) × HaveTypes v t
