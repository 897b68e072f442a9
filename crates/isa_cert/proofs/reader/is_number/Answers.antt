use Rattle.std.proofs.Common.{rules}
use Rattle.isa_cert.proofs.Reading.{number_told}
use Rattle.isa_cert.proofs.reader.is_number.Goals as goal

pub returns : goal.returns
returns c = number_told c.args.word.now c.is_plain.result c.are_digits.result c.is_plain.ensures (search rules) (c.are_digits.ensures 0)
