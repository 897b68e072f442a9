use Rattle.std.proofs.Common.{◌≡◌, true, false, take, arith}
use Rattle.std.proofs.lemmas.Grind.{common_steps}
use Rattle.isa_inner_tokens.specs.Bytes.{is_blank}
use Rattle.isa_inner_tokens.proofs.CuttingSteps.{blank_step, next_word, symbol_end, end_of}
use Rattle.isa_inner_tokens.proofs.cutting.words.Goals as goal

pub loop-first-preserved-then-is_blank : goal.loop-first-preserved-then-is_blank
loop-first-preserved-then-is_blank c =
    let blank : is_blank c.in-Some.first.now ≡ true = cc in
    blank_step c.args.signs.now c.in-Some.first.now c.loop-first.rest.now c.in-Some.after.now c.args.text.now c.loop-first.words.items c.loop-first.invariant c.in-Some.ensures.cases.0 blank

pub loop-first-preserved : goal.loop-first-preserved
loop-first-preserved c =
    let blank : is_blank c.in-Some.first.now ≡ false = cc in
    next_word c.args.signs.now c.in-Some-2.count c.in-Some-2.word c.in-Some.first.now c.loop-first.rest.now c.in-Some.after.now c.args.text.now c.loop-first.words.items _ c.in_ok-count.field-0 c.loop-first.invariant c.in-Some.ensures.cases.0 blank c.in_ok-count.ensures.found c.in-Some-2.is c.in_ok-push-2.ensures.items

pub returns-in_default-2 : goal.returns-in_default-2
returns-in_default-2 c =
    let blank : is_blank c.in-Some.first.now ≡ false = cc in
    let e : c.in_ok-symbol.symbol ≡ take c.symbol_length.result c.loop-first.rest.now = grind (arith, common_steps, c.in_ok-symbol.ensures) in
    symbol_end c.args.signs.now c.in-Some.first.now c.loop-first.rest.now c.in-Some.after.now c.args.text.now c.loop-first.words.items _ c.in_ok-symbol.symbol c.in_ok-count.field-0 c.symbol_length.result c.loop-first.invariant c.in-Some.ensures.cases.0 blank c.in_ok-count.ensures.found c.in_default-2.is c.symbol_length.ensures.length e c.in_ok-push.ensures.items

pub returns : goal.returns
returns c = end_of c.args.signs.now c.loop-first.rest.now c.args.text.now c.loop-first.words.items c.loop-first.invariant c.in_default.ensures.cases
