use Rattle.std.proofs.Common.{◌≡◌, [], ◌∷◌, ◌++◌, length, take, refl, sym, ◌∙◌, ap, arith}
use Rattle.std.proofs.lemmas.List.{append-nil, nil_from_length}
use Rattle.std.proofs.lemmas.Bool.Decides.{nat_tests}
use Rattle.isa_seq.specs.declared.frame.Frame.TheVariants.{Call, Each, Suspended}
use Rattle.isa_seq.proofs.Flight.{take-below}
use Rattle.isa_seq.proofs.step.branch.Goals as goal

pub returns-then-is_empty : goal.returns-then-is_empty
returns-then-is_empty g c =
    let empty : length c.in_ok-above.above.items ≡ 0 = grind (arith, nat_tests, c.is_empty.ensures, c.if-is_empty.true) in
    record {
      kept = [];
      keeps = sym c.in_ok-above.ensures.tail ∙ nil_from_length c.in_ok-above.above.items empty;
      pushed = c.in_ok-push.ensures.items ∙ ap (λ z. z ++ Call c.args.todo c.args.state ∷ [])
          (c.truncate.ensures.items ∙ ap (take c.args.at) c.in_ok-above.ensures.items ∙ take-below c.args.at c.args.frames.now.items ∙ sym (append-nil (take c.args.at c.args.frames.now.items)));
    }

pub returns : goal.returns
returns g c = record {
  kept = Suspended c.append.new.self ∷ [];
  keeps = (
    c.append.new.self,
    c.in_ok-again.field-0,
    c.in_ok-again.ensures,
    c.in_ok-append.ensures.items ∙ ap (λ z. z ++ c.in_ok-above.above.items) (c.in_ok-push-2.ensures.items ∙ ap (λ z. z ++ Each c.in_ok-again.field-0 ∷ []) c.new-source.ensures.items)
        ∙ ap (λ z. Each c.in_ok-again.field-0 ∷ z) c.in_ok-above.ensures.tail,
    refl,
    refl,
  );
  pushed = c.in_ok-push-4.ensures.items ∙ ap (λ z. z ++ Call c.args.todo c.args.state ∷ [])
      (c.in_ok-push-3.ensures.items ∙ ap (λ z. z ++ Suspended c.append.new.self ∷ []) (c.truncate.ensures.items ∙ ap (take c.args.at) c.in_ok-above.ensures.items ∙ take-below c.args.at c.args.frames.now.items));
}
