-- The fixed signs and their spellings. `\<Rightarrow>`, `\<Longrightarrow>`, `\<And>`, `\<equiv>`, `\<lambda>`, `\<lbrakk>`
-- and `\<rbrakk>` stand for `=>`, `==>`, `!!`, `==`, `%`, `[|` and `|]`.
-- Source: the syntax of Isabelle/Pure (The Isabelle/Isar Reference Manual, "Inner syntax", "The Pure syntax").
use Rattle.std.specs.Prelude.{ℕ, List, [], ◌∷◌, codes}
use Rattle.indexmap.specs.IndexMap.{insert_entry}
use Rattle.isa_terms.specs.Equal.{name_eq}
use Rattle.isa_inner.specs.declared.token.Mark.TheVariants as mark
use Rattle.isa_inner.specs.declared.token.InfixSign.TheVariants as infix_sign
use Rattle.isa_inner.specs.declared.token.PrefixSign.TheVariants as prefix_sign
use Rattle.isa_inner.specs.declared.token.BinderSign.TheVariants as binder_sign
use Rattle.isa_inner.specs.declared.token.Token.TheVariants as token
use Rattle.isa_inner_tokens.specs.declared.sign.TypeMark.TheVariants as type_mark
use Rattle.isa_inner_tokens.specs.declared.sign.Sign.{Sign}
use Rattle.isa_inner_tokens.specs.declared.sign.Sign.TheVariants as sign

abbrev pub Spellings : Type 0
Spellings = List (List ℕ × Sign)

-- a table with these spellings declared one after the other
abbrev pub declared : Spellings → Spellings → Spellings
declared [] table = table
declared (s ∷ ss) table = declared ss (insert_entry name_eq table s.0 s.1)

abbrev pub mark_signs : Spellings
mark_signs =
    (codes "(", sign.Term (token.Mark mark.Open)) ∷ (codes ")", sign.Term (token.Mark mark.Close)) ∷ (codes ".", sign.Term (token.Mark mark.Dot))
    ∷ (codes "::", sign.Term (token.Mark mark.Colons)) ∷ (codes ";", sign.Term (token.Mark mark.Semicolon))
    ∷ (codes "[|", sign.Term (token.Mark mark.OpenPremises)) ∷ (codes "|]", sign.Term (token.Mark mark.ClosePremises)) ∷ []

abbrev pub operator_signs : Spellings
operator_signs =
    (codes "==>", sign.Term (token.Infix infix_sign.Implies)) ∷ (codes "==", sign.Term (token.Infix infix_sign.Equals)) ∷ (codes "PROP", sign.Term (token.Prefix prefix_sign.Prop))
    ∷ (codes "!!", sign.Term (token.Binder binder_sign.Every)) ∷ (codes "%", sign.Term (token.Binder binder_sign.Lambda)) ∷ []

abbrev pub type_signs : Spellings
type_signs =
    (codes "=>", sign.Type type_mark.Arrow) ∷ (codes "[", sign.Type type_mark.OpenList) ∷ (codes "]", sign.Type type_mark.CloseList) ∷ (codes ",", sign.Type type_mark.Comma) ∷ []

-- the symbols of operators and arrows, each a `\` in front of the rest
abbrev pub arrow_signs : Spellings
arrow_signs =
    (92 ∷ codes "<Rightarrow>", sign.Type type_mark.Arrow) ∷ (92 ∷ codes "<Longrightarrow>", sign.Term (token.Infix infix_sign.Implies))
    ∷ (92 ∷ codes "<equiv>", sign.Term (token.Infix infix_sign.Equals)) ∷ []

-- the symbols of binders and brackets
abbrev pub symbol_signs : Spellings
symbol_signs =
    (92 ∷ codes "<And>", sign.Term (token.Binder binder_sign.Every)) ∷ (92 ∷ codes "<lambda>", sign.Term (token.Binder binder_sign.Lambda))
    ∷ (92 ∷ codes "<lbrakk>", sign.Term (token.Mark mark.OpenPremises)) ∷ (92 ∷ codes "<rbrakk>", sign.Term (token.Mark mark.ClosePremises)) ∷ []
