use Rattle.std.proofs.Common.{sym, ◌∙◌}
use Rattle.isa_outer.proofs.HeadBegins.{claset_begins, auto_begins}
use Rattle.isa_outer.proofs.facts.begins_head.Goals as goal

pub returns-in-Claset : goal.returns-in-Claset
returns-in-Claset c = rw c.in-Claset.is (c.begins_claset_word.ensures ∙ sym (claset_begins c.args.tokens.now))

pub returns-in-Auto : goal.returns-in-Auto
returns-in-Auto c = rw c.in-Auto.is (c.begins_auto_word.ensures ∙ sym (auto_begins c.args.tokens.now))
