-- The definition on some lines.
use Rattle.std.specs.Prelude.{◌≡◌, codes, List, [], ◌∷◌}
use Rattle.isa_tokens.specs.declared.token.Token.{Token}
use Rattle.isa_tokens.specs.declared.token.Lexeme.{Lexeme}
use Rattle.isa_tokens.specs.declared.token.Lexeme.TheVariants as lexeme
use Rattle.isa_outer.specs.declared.refusal.Kind.TheVariants as kind
use Rattle.isa_outer.specs.declared.refusal.Sort.TheVariants as sort
use Rattle.isa_outer.specs.declared.command.Attribute.TheVariants as attr
use Rattle.isa_outer.specs.Forms.{read, Got, Refuses}
use Rattle.isa_outer.specs.Grammar.{attributes}

abbrev pub on_line_1 : Lexeme → Token
on_line_1 lexeme = record { lexeme = lexeme; line = 1 }

abbrev pub end : List Token
end = on_line_1 lexeme.End ∷ []

abbrev pub Samples : Type 0
Samples =
    (read attributes (on_line_1 (lexeme.Sign 91) ∷ on_line_1 (lexeme.Name (codes "simp")) ∷ on_line_1 (lexeme.Sign 93) ∷ end) ≡ Got (attr.Simp ∷ []) end)
    × (read attributes (on_line_1 (lexeme.Sign 91) ∷ on_line_1 (lexeme.Sign 93) ∷ end) ≡ Refuses (kind.Expected (codes "simp")))
    × (read attributes (on_line_1 (lexeme.Sign 91) ∷ on_line_1 (lexeme.Name (codes "foo")) ∷ end) ≡ Refuses (kind.Unknown sort.Attribute (codes "foo")))
