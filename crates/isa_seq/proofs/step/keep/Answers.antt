use Rattle.std.proofs.Common.{slice_set, sym, ◌∙◌, ap}
use Rattle.std.proofs.lemmas.List.{get_or_default, set-set}
use Rattle.isa_seq.proofs.step.keep.Goals as goal

pub returns-in_ok-offer-in-Best : goal.returns-in_ok-offer-in-Best
returns-in_ok-offer-in-Best g c = λ f tac i queue here is. record {
  tac = c.in-Best.body;
  number = c.in-Best.number;
  queue = c.in-Best.queue;
  after = c.offer.new.queue;
  is = here ∙ get_or_default c.args.frames.now.items c.args.at f c.index_mut.result.now c.requires ∙ sym c.index_mut.ensures.value ∙ sym c.replace.ensures.value ∙ c.in-Best.is;
  added = c.in_ok-offer-in-Best.ensures;
  written = set-set c.args.frames.now.items c.args.at c.replace.new.dest c.replace-gap.new.dest ∙ ap (slice_set c.args.frames.now.items c.args.at) c.replace-gap.ensures.after;
}
