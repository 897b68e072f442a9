-- What contracts see of a context.
-- Source: theory contexts of the Isabelle/Isar Reference Manual, chapter "Specifications".
use Rattle.std.specs.Prelude.{refl, ℕ, Bool, List, [], Option, Some, None}
use Rattle.std.specs.Map.{lookup}
use Rattle.isa_terms.specs.Equal.{name_eq}
use Rattle.std.specs.Coded.{Coded, code_by, coded×, coded_list, coded_option, coded_ℕ, coded_bool}
use Rattle.isa_kernel.specs.Theorem.{Theorem, theorem_code}
use Rattle.isa_kernel.specs.DeclarationCodes.{coded_declaration}
use Rattle.isa_outer.specs.declared.command.Attribute.{Attribute}
use Rattle.isa_outer.specs.contracts.command.Attribute as attribute_row
use Rattle.isa_syntax.specs.contracts.syntax.Syntax as syntax_row
use Rattle.isa_kernel.specs.Logics.{no_roles}
use Rattle.isa_kernel.specs.declared.declarations.Declaration.{Declaration}
use Rattle.isa_kernel.specs.declared.logic.Logic.{Logic}
use Rattle.isa_syntax.specs.Syntaxes.{SyntaxSeen, pure_syntax}
use Rattle.isa_theory.specs.declared.declared.Declared.{Declared}
use Rattle.isa_theory.specs.declared.options.Options.{Options}
use Rattle.isa_theory.specs.Options.{default_options}

pub record ContextSeen : Type 0 where
  -- the types, constants and axioms
  pub theory : List Declaration
  -- what texts are read under: types, constants, notations and the judgment
  pub syntax : SyntaxSeen
  -- the facts in their order, each a list of theorems under a name
  pub facts : List (List ℕ × List Theorem)
  -- the theorems with attributes in the order of their declarations, and the facts with a role
  pub declarations : List Declared
  pub logic : Logic
  -- what the options are set to
  pub options : Options
  -- the lemmas closed so far, with and without a name, each cited by its place
  pub lemmas : List Theorem

abbrev theorems_code : Coded (List Theorem)
theorems_code = coded_list theorem_code

abbrev declared_code : Coded Declared
declared_code = code_by (Attribute × Theorem) (coded× attribute_row.the_row.coded theorem_code) (λ d. (d.attribute, d.thm)) (λ p. record { attribute = p.0; thm = p.1 }) (λ _. refl)

abbrev role_code : Coded (Option Theorem)
role_code = coded_option theorem_code

abbrev logic_code : Coded Logic
logic_code = code_by (List Theorem × (List Theorem × (List Theorem × (List Theorem × (Option Theorem × (Option Theorem × (Option Theorem × (Option Theorem × (Option Theorem × (Option Theorem × (Option Theorem × Option Theorem)))))))))))
    (coded× theorems_code (coded× theorems_code (coded× theorems_code (coded× theorems_code (coded× role_code (coded× role_code (coded× role_code (coded× role_code (coded× role_code (coded× role_code (coded× role_code role_code)))))))))))
    (λ l. (l.close, (l.close_asm, (l.atomize, (l.meta, (l.swap, (l.classical, (l.not_elim, (l.mp, (l.subst, (l.sym, (l.iff_d1, l.iff_d2))))))))))))
    (λ p. record { close = p.0; close_asm = p.1.0; atomize = p.1.1.0; meta = p.1.1.1.0; swap = p.1.1.1.1.0; classical = p.1.1.1.1.1.0; not_elim = p.1.1.1.1.1.1.0; mp = p.1.1.1.1.1.1.1.0; subst = p.1.1.1.1.1.1.1.1.0; sym = p.1.1.1.1.1.1.1.1.1.0; iff_d1 = p.1.1.1.1.1.1.1.1.1.1.0; iff_d2 = p.1.1.1.1.1.1.1.1.1.1.1 })
    (λ _. refl)

abbrev options_code : Coded Options
options_code = code_by (ℕ × (ℕ × (ℕ × Bool))) (coded× coded_ℕ (coded× coded_ℕ (coded× coded_ℕ coded_bool)))
    (λ o. (o.simp_depth_limit, (o.blast_depth_limit, (o.step_budget, o.show_types)))) (λ p. record { simp_depth_limit = p.0; blast_depth_limit = p.1.0; step_budget = p.1.1.0; show_types = p.1.1.1 }) (λ _. refl)

abbrev facts_code : Coded (List (List ℕ × List Theorem))
facts_code = coded_list (coded× (coded_list coded_ℕ) theorems_code)

abbrev pub context_code : Coded ContextSeen
context_code = code_by (List Declaration × (SyntaxSeen × (List (List ℕ × List Theorem) × (List Declared × (Logic × (Options × List Theorem))))))
    (coded× (coded_list coded_declaration) (coded× syntax_row.the_row.coded (coded× facts_code (coded× (coded_list declared_code) (coded× logic_code (coded× options_code theorems_code))))))
    (λ c. (c.theory, (c.syntax, (c.facts, (c.declarations, (c.logic, (c.options, c.lemmas)))))))
    (λ p. record { theory = p.0; syntax = p.1.0; facts = p.1.1.0; declarations = p.1.1.1.0; logic = p.1.1.1.1.0; options = p.1.1.1.1.1.0; lemmas = p.1.1.1.1.1.1 })
    (λ _. refl)

-- where nothing is declared yet
abbrev pub empty_context : ContextSeen
empty_context = record { theory = []; syntax = pure_syntax; facts = []; declarations = []; logic = no_roles; options = default_options; lemmas = [] }

-- the theorems of that name
abbrev pub fact_of : ContextSeen → List ℕ → Option (List Theorem)
fact_of c x = lookup (name_eq x) c.facts

-- the name of the judgment, the empty one where none is declared
abbrev pub name_or_none : Option (List ℕ) → List ℕ
name_or_none None = []
name_or_none (Some j) = j

abbrev pub judgment_name : ContextSeen → List ℕ
judgment_name c = name_or_none c.syntax.signature.judgment
