use Rattle.std.proofs.Common.{rules}
use Rattle.isa_cert.proofs.Reading.{past_limit}
use Rattle.isa_cert.proofs.reader.+value_from.Goals as goal

pub returns-in-None-clause-none : goal.returns-in-None-clause-none
returns-in-None-clause-none t c = λ n f. past_limit c.args.value c.args.limit n c.args.digits.now _ _ c.in-Some.ensures.cases.0 (search rules) c.in-None.ensures.none f
