-- The text that parts make.
use Rattle.std.specs.Prelude.{ℕ, List, ◌++◌}
use Rattle.isa_outer.specs.declared.refusal_text.Parts.{Parts}

abbrev pub text_of_parts : Parts → List ℕ
text_of_parts p = p.before.now ++ p.sort.now ++ p.name.now ++ p.after.now
