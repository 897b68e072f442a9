use Rattle.std.proofs.Common.{◌≡◌, ℕ, ◌<◌, [], ◌∷◌, ◌++◌, length, true, false, sym, ap, ◌∙◌, subst, append_assoc, arith, length-append}
use Rattle.isa_terms.specs.Generalize.{is_named}
use Rattle.isa_typing.specs.NewNames.{variable_name, AreFirstFree}
use Rattle.isa_typing.proofs.FirstFree.{one_more_name, still_passed}
use Rattle.isa_typing.proofs.naming.new_names.Goals as goal

pub loop-i-preserved : goal.loop-i-preserved
loop-i-preserved c =
    let slice : c.as_slice.result.now ≡ c.loop-i.taken = c.as_slice.ensures in
    let free : is_named c.loop-i.taken c.in_ok-number.name ≡ false = subst (λ z. is_named z c.in_ok-number.name ≡ false) slice c.in_ok-number.ensures.is_free in
    let first : (k : ℕ) → k < c.in_ok-number.number → is_named c.loop-i.taken (variable_name k) ≡ true = subst (λ z. (k : ℕ) → k < c.in_ok-number.number → is_named z (variable_name k) ≡ true) slice c.in_ok-number.ensures.is_first in
    let pushed : c.push.new.self ≡ c.loop-i.taken ++ c.in_ok-number.name ∷ [] = c.in_ok-push.ensures.ok ∙ ap (λ z. c.loop-i.taken ++ z ∷ []) c.in_ok-copy.ensures in
    let named : c.push-in-loop-i.new.self ≡ c.loop-i.names ++ c.in_ok-number.name ∷ [] = c.in_ok-push-2.ensures.ok in
    let longer : length c.push-in-loop-i.new.self ≡ length (c.loop-i.names ++ c.in_ok-number.name ∷ []) = ap length named in
    record {
      new = subst (AreFirstFree c.args.taken) (sym named) (one_more_name c.args.taken c.loop-i.taken c.loop-i.names c.in_ok-number.name c.in_ok-number.number c.loop-i.invariant.new c.loop-i.invariant.taken c.in_ok-number.ensures.name free first);
      taken = pushed ∙ (ap (λ z. z ++ c.in_ok-number.name ∷ []) c.loop-i.invariant.taken ∙ (append_assoc c.args.taken c.loop-i.names (c.in_ok-number.name ∷ []) ∙ ap (λ z. c.args.taken ++ z) (sym named)));
      count = omega (arith, longer, length-append c.loop-i.names (c.in_ok-number.name ∷ []), c.loop-i.invariant.count);
      passed = subst (λ z. (k : ℕ) → k < c.in_ok-number.number → is_named z (variable_name k) ≡ true) (sym pushed) (still_passed c.loop-i.taken c.in_ok-number.name c.in_ok-number.number first);
    }
