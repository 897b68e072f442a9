-- How a term is made of its parts. A constant with notation is applied to its operands, and a binder's constant to the
-- abstraction of its body; the judgment is applied to what stands for a proposition and is none.
-- Source: the syntax of Isabelle/Pure (The Isabelle/Isar Reference Manual, "Inner syntax", "The Pure syntax"); `PROP t` is t as a proposition.
use Rattle.std.specs.Prelude.{ℕ, ◌+◌, Bool, true, false, max, List, [], ◌∷◌, length, Option, codes}
use Rattle.isa_terms.specs.Types.{Ty, TyCon, NoTys}
use Rattle.isa_inner.specs.declared.token.InfixSign.{InfixSign}
use Rattle.isa_inner.specs.declared.token.InfixSign.TheVariants as infix_sign
use Rattle.isa_inner.specs.declared.token.PrefixSign.{PrefixSign}
use Rattle.isa_inner.specs.declared.token.PrefixSign.TheVariants as prefix_sign
use Rattle.isa_inner.specs.declared.token.BinderSign.{BinderSign}
use Rattle.isa_inner.specs.declared.token.BinderSign.TheVariants as binder_sign
use Rattle.isa_inner.specs.Priorities.{infix_own, prefix_own, binder_own, operators}
use Rattle.isa_raw.specs.RawTerms.{Raw, RawName, RawUnknown, RawConst, RawTyped, RawAbs, RawApp}
use Rattle.isa_inner_text.specs.Signatures.{SignatureSeen}
use Rattle.isa_inner_text.specs.declared.part.Part.{Part}
use Rattle.isa_inner_text.specs.declared.part.Variable.{Variable}
use Rattle.isa_inner_text.specs.Signature.{constant}

abbrev pub prop : Ty
prop = TyCon (codes "prop") NoTys

-- a name or an unknown
abbrev pub closed : Raw → Part
closed t = record { term = t; priority = 1000; height = 0; is_function = true; is_proposition = false }

-- (t)
abbrev pub parenthesised : Part → Part
parenthesised p = record { term = p.term; priority = 1000; height = p.height + 1; is_function = true; is_proposition = p.is_proposition }

-- f a
abbrev pub applied : Part → Part → Part
applied f a = record { term = RawApp f.term a.term; priority = 999; height = max f.height a.height; is_function = true; is_proposition = false }

-- t :: T, where the type has this height
abbrev pub annotated : Part → Ty → ℕ → Part
annotated p T h = record { term = RawTyped p.term T; priority = 3; height = max p.height h + 1; is_function = false; is_proposition = false }

abbrev pub infix_constant : SignatureSeen → InfixSign → List ℕ
infix_constant sig infix_sign.Implies = codes "Pure.imp"
infix_constant sig infix_sign.Equals = codes "Pure.eq"
infix_constant sig (infix_sign.Declared c f p) = constant sig c

abbrev pub is_pure_infix : InfixSign → Bool
is_pure_infix infix_sign.Implies = true
is_pure_infix infix_sign.Equals = true
is_pure_infix (infix_sign.Declared c f p) = false

abbrev pub between : SignatureSeen → InfixSign → Raw → Raw → Raw
between sig s l r = RawApp (RawApp (RawConst (infix_constant sig s)) l) r

-- A ==> B, a == b, or a declared infix
abbrev pub joined : SignatureSeen → InfixSign → Part → Part → Part
joined sig s l r = record { term = between sig s l.term r.term; priority = infix_own s; height = max l.height r.height + 1; is_function = false; is_proposition = is_pure_infix s }

abbrev pub prefix_term : SignatureSeen → PrefixSign → Raw → Raw
prefix_term sig prefix_sign.Prop t = RawTyped t prop
prefix_term sig (prefix_sign.Declared c p) t = RawApp (RawConst (constant sig c)) t

abbrev pub is_pure_prefix : PrefixSign → Bool
is_pure_prefix prefix_sign.Prop = true
is_pure_prefix (prefix_sign.Declared c p) = false

-- PROP t, or a declared prefix
abbrev pub prefixed : SignatureSeen → PrefixSign → Part → Part
prefixed sig s p = record { term = prefix_term sig s p.term; priority = prefix_own s; height = p.height + 1; is_function = false; is_proposition = is_pure_prefix s }

abbrev pub binder_term : SignatureSeen → BinderSign → Raw → Raw
binder_term sig binder_sign.Every t = RawApp (RawConst (codes "Pure.all")) t
binder_term sig binder_sign.Lambda t = t
binder_term sig (binder_sign.Declared c p) t = RawApp (RawConst (constant sig c)) t

abbrev pub is_pure_binder : BinderSign → Bool
is_pure_binder binder_sign.Every = true
is_pure_binder binder_sign.Lambda = false
is_pure_binder (binder_sign.Declared c p) = false

-- the body under each of the variables, the last one innermost
abbrev pub under : SignatureSeen → BinderSign → List Variable → Raw → Raw
under sig s [] t = t
under sig s (v ∷ vs) t = binder_term sig s (RawAbs v.name v.typ (under sig s vs t))

-- !!x y. A, %x y. t, or a declared binder; h is the height of the variables' types
abbrev pub bound : SignatureSeen → BinderSign → List Variable → ℕ → Part → Part
bound sig s vs h p = record { term = under sig s vs p.term; priority = binder_own s; height = max h (p.height + (operators s + length vs)); is_function = false; is_proposition = is_pure_binder s }

-- the premises in order, and what they imply
abbrev pub implied : SignatureSeen → List Raw → Raw → Raw
implied sig [] c = c
implied sig (a ∷ as_) c = between sig infix_sign.Implies a (implied sig as_ c)

-- [| A; B |] ==> C; h is the height of the premises
abbrev pub bracketed : SignatureSeen → List Raw → ℕ → Part → Part
bracketed sig premises h c = record { term = implied sig premises c.term; priority = 1; height = max h (c.height + 1); is_function = false; is_proposition = true }

-- the judgment of a term that stands for a proposition
abbrev pub judged : List ℕ → Part → Part
judged J p = record { term = RawApp (RawConst J) p.term; priority = p.priority; height = p.height; is_function = p.is_function; is_proposition = true }
