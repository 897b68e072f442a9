use Rattle.std.proofs.Common.{rules, length}
use Rattle.isa_cert.proofs.CertLines.{told_empty, told_nonempty, empty_text, no_line, behind_text}
use Rattle.isa_cert.proofs.checking.check_text.Goals as goal

pub returns-then-is_empty : goal.returns-then-is_empty
returns-then-is_empty c = empty_text c.args.text.now c.new.result (told_empty (length c.args.text.now) c.is_empty.result c.is_empty.ensures (search rules)) c.new.ensures

pub returns-in-None : goal.returns-in-None
returns-in-None c = no_line c.args.text.now (told_nonempty (length c.args.text.now) c.is_empty.result c.is_empty.ensures (search rules)) c.in-None.ensures.one

pub returns-in-Some : goal.returns-in-Some
returns-in-Some c = behind_text c.args.text.now c.in-Some.header.now c.in-Some.lines.now c.check_behind.result (told_nonempty (length c.args.text.now) c.is_empty.result c.is_empty.ensures (search rules)) c.in-Some.ensures.first c.check_behind.ensures
