use Rattle.std.proofs.Common.{rules, arith}
use Rattle.std.proofs.lemmas.Grind.{common_steps}
use Rattle.isa_check.proofs.Reading.{words_file, words_memory}
use Rattle.isa_check.proofs.top.run_words.Goals as goal

pub returns-in_err-reading : goal.returns-in_err-reading
returns-in_err-reading g c = words_memory c.args.words.now c.in-Some.word.now c.in-Some.rest.now _ _ _ _ _ c.in-Some.ensures.cases.0 (grind (arith, common_steps)) c.from_residual.ensures.1 c.in_err-reading.ensures.0

pub returns : goal.returns
returns g c = words_file c.args.words.now c.in-Some.word.now c.in-Some.rest.now c.as_str-name.result.now _ _ _ c.run_reading.result _ _ c.in-Some.ensures.cases.0 (grind (arith, common_steps)) c.as_str-name.ensures.value c.in_ok-reading.ensures c.run_reading.ensures
