use Rattle.std.proofs.Common.{◌+◌, ◌-◌, length, take, drop, arith, rules}
use Rattle.std.proofs.lemmas.Grind.{common_steps}
use Rattle.isa_cert.proofs.Cutting.{first_part, one_part}
use Rattle.isa_cert.proofs.words.split.Goals as goal

pub returns-then-b-byte-clause-first : goal.returns-then-b-byte-clause-first
returns-then-b-byte-clause-first c =
    first_part
    c.args.byte
    c.args.text.now
    c.loop-i.i
    (take (length c.args.text.now - (c.loop-i.i + 1)) (drop (c.loop-i.i + 1) c.args.text.now))
    (omega arith)
    c.loop-i.invariant
    (search rules)
    (grind (arith, common_steps))

pub returns-clause-one : goal.returns-clause-one
returns-clause-one c = one_part c.args.byte c.args.text.now c.loop-i.i (omega arith) c.loop-i.invariant
