-- The laws that principal types rest on.
use Rattle.std.specs.Prelude.{List, []}
use Rattle.isa_terms.specs.Terms.{Tm}
use Rattle.isa_terms.specs.Norm.{norm}
use Rattle.isa_terms.specs.Instance.{inst_tm}
use Rattle.isa_terms.specs.declared.inst.TypeEntry.{TypeEntry}
use Rattle.isa_unify.specs.TypeUnification.{Unifies, IsMostGeneral}
use Rattle.isa_raw.specs.RawTerms.{Raw}
use Rattle.isa_typing.specs.Scopes.{Declared}
use Rattle.isa_typing.specs.TextNames.{names_in}
use Rattle.isa_typing.specs.Inference.{term_of, equations_of}
use Rattle.isa_typing.specs.Naming.{IsNamed}
use Rattle.isa_typing.specs.Principal.{IsPrincipal, HasNoTyping}

-- the term under a most general unifier of its equations, its open types named, is the most general typing of the text
abbrev pub UnifiersArePrincipal : Type 0
UnifiersArePrincipal =
    (declared : Declared) (u : Raw) (q : List TypeEntry) (p : Tm) → IsMostGeneral (equations_of declared u) q → IsNamed (names_in declared u) (inst_tm q [] (term_of declared u)) p → IsPrincipal declared u (norm p)

-- a text whose equations have no unifier has no typing
abbrev pub NoUnifierNoTyping : Type 0
NoUnifierNoTyping = (declared : Declared) (u : Raw) → ((q : List TypeEntry) → Unifies q (equations_of declared u) → ⊥) → HasNoTyping declared u
