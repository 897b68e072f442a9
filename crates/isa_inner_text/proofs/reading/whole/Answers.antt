use Rattle.std.proofs.Common.{refl}
use Rattle.isa_inner.specs.declared.token.Wanted.TheVariants as wanted
use Rattle.isa_inner_text.specs.Reading.{at_end}
use Rattle.isa_inner_text.proofs.Steps.{exit, fails_inside, fails_later, fails_complete, leads_inside, text_complete, text_read, text_refused}
use Rattle.isa_inner_text.proofs.reading.whole.Goals as goal

pub returns-in_err-part : goal.returns-in_err-part
returns-in_err-part c = exit _ _ _ _ c.from_residual.ensures.1 (fails_inside _ _ _ _ _ (text_complete c.args.sig.now) refl c.in_err-part.ensures.read)

pub returns-in_err-part-2 : goal.returns-in_err-part-2
returns-in_err-part-2 c =
    exit _ _ _ _ c.from_residual-in_err-part-2.ensures.1
    (fails_later _ _ _ _ (leads_inside _ _ _ _ (text_complete c.args.sig.now) _ _ refl c.in_ok-part.ensures.read) (fails_complete c.args.sig.now _ wanted.Proposition wanted.Proposition _ (λ q. at_end q c.in_ok-part.rest.now) refl c.in_err-part-2.ensures.done))

pub returns-in-None : goal.returns-in-None
returns-in-None c = text_read _ _ _ _ _ c.in-None.ensures.none c.in_ok-part.ensures.read c.in_ok-part-2.ensures.done

pub returns-in-Some : goal.returns-in-Some
returns-in-Some c = text_refused _ _ _ _ _ _ _ _ c.in-Some.ensures.first c.refused.ensures c.in_ok-part.ensures.read c.in_ok-part-2.ensures.done
