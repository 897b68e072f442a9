-- The printed texts of refusals.
-- Source: this project's own.
use Rattle.std.specs.Prelude.{ℕ, List, [], ◌++◌, codes}
use Rattle.isa_outer.specs.declared.refusal.Sort.{Sort}
use Rattle.isa_outer.specs.declared.refusal.Sort.TheVariants as sort
use Rattle.isa_outer.specs.declared.refusal.Kind.{Kind}
use Rattle.isa_outer.specs.declared.refusal.Kind.TheVariants as kind

abbrev pub sort_text : Sort → List ℕ
sort_text sort.Command = codes "command"
sort_text sort.Type = codes "type"
sort_text sort.Constant = codes "constant"
sort_text sort.Fact = codes "fact"
sort_text sort.Method = codes "method"
sort_text sort.Attribute = codes "attribute"
sort_text sort.Option = codes "option"
sort_text sort.Role = codes "role"
sort_text sort.Symbol = codes "symbol"
sort_text sort.Wrapper = codes "wrapper"
sort_text sort.Judgment = codes "judgment"

-- want of memory is never printed
abbrev pub text_of : Kind → List ℕ
text_of kind.Byte = codes "byte not allowed"
text_of kind.OpenComment = codes "comment not closed"
text_of kind.OpenText = codes "text not closed"
text_of kind.Deep = codes "nested deeper than 500"
text_of kind.Number = codes "number out of range"
text_of (kind.Expected what) = codes "expected " ++ what
text_of (kind.Unknown s name) = codes "unknown " ++ sort_text s ++ codes " " ++ name
text_of (kind.Duplicate s name) = codes "duplicate " ++ sort_text s ++ codes " " ++ name
text_of (kind.Token token) = codes "symbol " ++ token ++ codes " is taken"
text_of (kind.Arity name) = codes "wrong number of arguments of " ++ name
text_of kind.Types = codes "types do not agree"
text_of kind.Judgment = codes "no judgment declared"
text_of (kind.Schematic name) = codes "unknown ?" ++ name ++ codes " in a lemma"
text_of kind.NotEquation = codes "no equation"
text_of kind.NotPattern = codes "left side is no pattern"
text_of (kind.ExtraVar name) = codes "unknown ?" ++ name ++ codes " is not on the left side"
text_of kind.NotSplit = codes "no split rule"
text_of kind.NotElim = codes "no elimination rule"
text_of (kind.Role name) = codes "wrong form for " ++ name
text_of kind.InProof = codes "proof is open"
text_of kind.NoProof = codes "no proof is open"
text_of kind.OpenProof = codes "proof not closed"
text_of kind.NotBuilt = codes "not built yet"
text_of kind.Memory = []
