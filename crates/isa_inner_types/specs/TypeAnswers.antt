-- What the code's answers say.
use Rattle.std.specs.Prelude.{◌≡◌, ℕ, List, [], ◌∷◌, Option}
use Rattle.isa_terms.specs.Types.{Ty}
use Rattle.isa_inner_types.specs.declared.token.TextToken.{TextToken}
use Rattle.isa_inner_types.specs.declared.token.TextToken.TheVariants as token
use Rattle.isa_inner_types.specs.declared.token.TypeRefusal.{TypeRefusal}
use Rattle.isa_inner_types.specs.declared.reading.Fail.{Fail}
use Rattle.isa_inner_types.specs.declared.reading.Fail.TheVariants as fail
use Rattle.isa_inner_types.specs.TypeReading.{Outcome, Refused, Step, Runs}

-- a refusal has this property, and the tokens from its place on
abbrev pub IfRefused : Fail → (TypeRefusal → List TextToken → Type 0) → Type 0
IfRefused fail.Memory P = Unit {0}
IfRefused (fail.Refused why at) P = P why at.now

-- the refusal is the one that comes of the step
abbrev pub FailsBy : Fail → Step → Type 0
FailsBy f s = IfRefused f (λ why at. Runs s (Refused why at))

-- what comes of the later step comes of the first
abbrev pub Leads : Step → Step → Type 0
Leads s later = (o : Outcome) → Runs later o → Runs s o

-- it is this refusal of these tokens
abbrev pub IsRefusal : Fail → TypeRefusal → List TextToken → Type 0
IsRefusal fail.Memory w ts = ⊥
IsRefusal (fail.Refused why at) w ts = (why ≡ w) × (at.now ≡ ts)

-- no name comes next
abbrev pub IsNoName : List TextToken → Type 0
IsNoName [] = Unit {0}
IsNoName (token.Name c n ∷ ts) = ⊥
IsNoName (t ∷ ts) = Unit {0}

-- something else than a comma comes next, or nothing
abbrev pub IsNoComma : List TextToken → Type 0
IsNoComma [] = Unit {0}
IsNoComma (token.Comma ∷ ts) = ⊥
IsNoComma (t ∷ ts) = Unit {0}

-- something else than a closing parenthesis comes next, or nothing
abbrev pub IsNoClose : List TextToken → Type 0
IsNoClose [] = Unit {0}
IsNoClose (token.Close ∷ ts) = ⊥
IsNoClose (t ∷ ts) = Unit {0}

-- something else than a closing bracket comes next, or nothing
abbrev pub IsNoCloseList : List TextToken → Type 0
IsNoCloseList [] = Unit {0}
IsNoCloseList (token.CloseList ∷ ts) = ⊥
IsNoCloseList (t ∷ ts) = Unit {0}

-- something else than an arrow comes next, or nothing
abbrev pub IsNoArrow : List TextToken → Type 0
IsNoArrow [] = Unit {0}
IsNoArrow (token.Arrow ∷ ts) = ⊥
IsNoArrow (t ∷ ts) = Unit {0}

-- none or several types
abbrev pub IsNoSingle : List Ty → Type 0
IsNoSingle [] = Unit {0}
IsNoSingle (T ∷ []) = ⊥
IsNoSingle (T ∷ S ∷ Ts) = Unit {0}
