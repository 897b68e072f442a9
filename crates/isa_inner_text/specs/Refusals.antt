-- The words for what a text needs next.
-- Source: this project's own.
use Rattle.std.specs.Prelude.{ℕ, List, codes}
use Rattle.isa_inner.specs.declared.token.Mark.{Mark}
use Rattle.isa_inner.specs.declared.token.Mark.TheVariants as mark
use Rattle.isa_inner_text.specs.declared.refusal.Expected.{Expected}
use Rattle.isa_inner_text.specs.declared.refusal.Expected.TheVariants as expected

abbrev pub mark_word : Mark → List ℕ
mark_word mark.Open = codes "("
mark_word mark.Close = codes ")"
mark_word mark.Dot = codes "."
mark_word mark.Colons = codes "::"
mark_word mark.OpenPremises = codes "[|"
mark_word mark.Semicolon = codes ";"
mark_word mark.ClosePremises = codes "|]"

abbrev pub expected_word : Expected → List ℕ
expected_word expected.Proposition = codes "proposition"
expected_word expected.Term = codes "term"
expected_word expected.Name = codes "name"
expected_word expected.Type = codes "type"
expected_word expected.EndOfText = codes "end of text"
expected_word (expected.Mark m) = mark_word m
expected_word expected.Implies = codes "==>"
expected_word expected.CloseList = codes "]"
expected_word expected.Arrow = codes "=>"
