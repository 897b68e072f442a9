use Rattle.std.proofs.Common.{rules}
use Rattle.isa_cert.proofs.CertLines.{behind_other, behind_refused, behind_taken, passed_on_cert}
use Rattle.isa_cert.proofs.checking.check_behind.Goals as goal

pub returns-then-not-is_word : goal.returns-then-not-is_word
returns-then-not-is_word c = behind_other c.args.header.now c.args.lines.now (search rules)

pub returns-in_err-table : goal.returns-in_err-table
returns-in_err-table c = passed_on_cert _ _ _ c.from_residual.ensures.1 (behind_refused _ c.args.header.now c.args.lines.now (search rules) c.in_err-table.ensures)

pub returns : goal.returns
returns c = behind_taken c.args.header.now c.args.lines.now c.in_ok-table.table c.as_slice.result.now _ (search rules) c.in_ok-table.ensures c.as_slice.ensures c.in_ok-certs.ensures
