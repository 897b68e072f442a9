use Rattle.std.proofs.Common.{sym, ◌∙◌}
use Rattle.isa_outer.specs.Private.Heads.{stops_in}
use Rattle.isa_outer.proofs.HeadBegins.{modifier_begins}
use Rattle.isa_outer.proofs.methods.begins_modifier.Goals as goal

pub returns : goal.returns
returns c = c.begins_head.ensures ∙ sym (modifier_begins c.args.heads (stops_in c.args.inside) c.args.tokens.now)
