use Rattle.std.proofs.Common.{rules}
use Rattle.isa_cert.proofs.Reading.{within_some, within_none}
use Rattle.isa_cert.proofs.reader.value_within.Goals as goal

pub returns-clause-some : goal.returns-clause-some
returns-clause-some c = within_some c.args.word.now c.args.limit c.is_plain.result c.value_from.result c.is_plain.ensures (search rules) c.value_from.ensures.some

pub returns-clause-none : goal.returns-clause-none
returns-clause-none c = within_none c.args.word.now c.args.limit c.is_plain.result c.value_from.result c.is_plain.ensures (search rules) c.value_from.ensures.none
