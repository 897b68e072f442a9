use Rattle.std.proofs.Common.{◌≡◌, true, false, ◌∙◌}
use Rattle.isa_inner.specs.declared.token.Mark.TheVariants as mark
use Rattle.isa_inner_text.specs.Reading.{starts}
use Rattle.isa_inner_text.proofs.Steps.{exit, refuses, refuses_two, fails_equal, fails_later, leads_equal, leads_both, v_close, v_type, v_colons, v_name, v_plain, v_alone, variable_open, variable_plain, plain_alone}
use Rattle.isa_inner_text.proofs.reading.one_variable.Goals as goal

pub returns-in_err-name-clause-read : goal.returns-in_err-name-clause-read
returns-in_err-name-clause-read c =
    let e : starts mark.Open c.args.tokens.now ≡ true = cc in
    exit _ _ _ _ c.from_residual.ensures.1
    (λ sig go. fails_equal sig _ _ _ (variable_open c.args.depth c.args.first c.args.tokens.now _ go e c.behind_first.ensures) (refuses_two sig _ _ (v_name c.args.depth go) c.in_err-name.ensures.found))

pub returns-in_err-later-clause-read : goal.returns-in_err-later-clause-read
returns-in_err-later-clause-read c =
    let e : starts mark.Open c.args.tokens.now ≡ true = cc in
    exit _ _ _ _ c.from_residual-in_err-later.ensures.1
    (λ sig go. fails_equal sig _ _ _ (variable_open c.args.depth c.args.first c.args.tokens.now _ go e c.behind_first.ensures ∙ c.in_ok-name.ensures.found (v_name c.args.depth go))
    (refuses sig _ _ (v_colons c.args.depth go c.in_ok-name.name) c.in_err-later.ensures.found))

pub returns-in_err-typ-clause-read : goal.returns-in_err-typ-clause-read
returns-in_err-typ-clause-read c =
    let e : starts mark.Open c.args.tokens.now ≡ true = cc in
    exit _ _ _ _ c.from_residual-in_err-typ.ensures.1
    (λ sig go. fails_equal sig _ _ _ (variable_open c.args.depth c.args.first c.args.tokens.now _ go e c.behind_first.ensures ∙ c.in_ok-name.ensures.found (v_name c.args.depth go) ∙ c.in_ok-later.ensures.found (v_colons c.args.depth go c.in_ok-name.name))
    (c.in_err-typ.ensures.read sig (v_type go c.in_ok-name.name)))

pub returns-in_err-end-clause-read : goal.returns-in_err-end-clause-read
returns-in_err-end-clause-read c =
    let e : starts mark.Open c.args.tokens.now ≡ true = cc in
    exit _ _ _ _ c.from_residual-in_err-end.ensures.1
    (λ sig go. fails_later sig _ _ _
    (leads_both sig _ _ _ (leads_equal sig _ _ (variable_open c.args.depth c.args.first c.args.tokens.now _ go e c.behind_first.ensures ∙ c.in_ok-name.ensures.found (v_name c.args.depth go) ∙ c.in_ok-later.ensures.found (v_colons c.args.depth go c.in_ok-name.name)))
    (c.in_ok-typ.ensures.read sig (v_type go c.in_ok-name.name)))
    (refuses sig _ _ (v_close go c.in_ok-name.name c.in_ok-typ.typ c.in_ok-typ.height) c.in_err-end.ensures.found))

pub returns-then-starts-clause-read : goal.returns-then-starts-clause-read
returns-then-starts-clause-read c sig go =
    let e : starts mark.Open c.args.tokens.now ≡ true = cc in
    leads_both sig _ _ _ (leads_equal sig _ _ (variable_open c.args.depth c.args.first c.args.tokens.now _ go e c.behind_first.ensures ∙ c.in_ok-name.ensures.found (v_name c.args.depth go) ∙ c.in_ok-later.ensures.found (v_colons c.args.depth go c.in_ok-name.name)))
    (leads_both sig _ _ _ (c.in_ok-typ.ensures.read sig (v_type go c.in_ok-name.name)) (leads_equal sig _ _ (c.in_ok-end.ensures.found (v_close go c.in_ok-name.name c.in_ok-typ.typ c.in_ok-typ.height))))

pub returns-in_err-name-2-clause-read : goal.returns-in_err-name-2-clause-read
returns-in_err-name-2-clause-read c =
    let e : starts mark.Open c.args.tokens.now ≡ false = cc in
    exit _ _ _ _ c.from_residual-in_err-name-2.ensures.1
    (λ sig go. fails_equal sig _ _ _ (variable_plain c.args.depth c.args.first c.args.tokens.now go e) (refuses_two sig _ _ (v_plain c.args.depth c.args.first go) c.in_err-name-2.ensures.found))
