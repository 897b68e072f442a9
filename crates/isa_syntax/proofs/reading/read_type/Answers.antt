use Rattle.isa_syntax.proofs.Telling.{refused_type}
use Rattle.isa_syntax.proofs.reading.read_type.Goals as goal

pub returns-in-Err : goal.returns-in-Err
returns-in-Err c = refused_type c.args.syntax.now c.args.schematic c.args.text.now c.signature.result.now c.in-Err.refusal c.kind_of.result c.signature.ensures c.kind_of.ensures c.in-Err.ensures
