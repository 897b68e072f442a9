use Rattle.std.proofs.Common.{◌≡◌, ◌∷◌, [], ◌++◌, List, ap, refl, sym, ◌∙◌, length, arith}
use Rattle.isa_inner_types.specs.declared.token.TextToken.TheVariants as token
use Rattle.isa_inner_types.specs.TypeReading.{Whole, Behind, Arguments, Domains, behind, closed, arguments, range, domains, front, ends}
use Rattle.isa_inner_types.proofs.TypeSteps.{exit, refusal_of, fails_later, refuses, fails_inside, leads_inside, leads_equal, leads_both, leads_place, later_result, whole_deep, whole_front, front_other, front_named, front_at, front_nothing, behind_end, to_function, behind_arrow, behind_deep, behind_name, behind_named, first_argument, first_domain, next_argument, next_domain, to_functions, closed_name, closed_refused, closed_single, arguments_refused, arguments_comma, arguments_close, domains_refused, domains_comma, domains_close, range_refused, range_arrow, variable_leads, unknown_leads, one_of, named_refuses, named_leads, single_leads, none_refuses, front_leads}
use Rattle.isa_inner_types.proofs.reading.+typing.Goals as goal

pub read_type-returns-then-depth-gt-LIMIT-clause-read : goal.read_type-returns-then-depth-gt-LIMIT-clause-read
read_type-returns-then-depth-gt-LIMIT-clause-read t c = leads_equal _ _ (whole_deep c.args.depth c.args.tokens.now c.if-depth-gt-LIMIT.true) _ (ends _)

pub front-returns-in_default-clause-read : goal.front-returns-in_default-clause-read
front-returns-in_default-clause-read t c = refusal_of _ _ _ _ c.refused.ensures (front_nothing c.args.depth c.args.tokens.now (grind arith))

pub front-returns-in_err-typ-in-Name-clause-read : goal.front-returns-in_err-typ-in-Name-clause-read
front-returns-in_err-typ-in-Name-clause-read t c =
    exit _ _ _ _ c.from_residual-in_err-typ-in-Name.ensures.1
    (fails_later _ _ _ (leads_equal _ _ (front_named c.args.depth c.args.tokens.now _ _ _ _ c.in-Some.ensures.cases.0 c.in-Name.is))
    (none_refuses _ c.in-Name.name c.in-Name.arity c.new-in-Name.result c.args.tokens.now (behind_name c.args.depth 0 c.in-Some.after.now) c.new-in-Name.ensures c.in_err-typ-in-Name.ensures))

pub front-returns-in_err-argument-in-Open-clause-read : goal.front-returns-in_err-argument-in-Open-clause-read
front-returns-in_err-argument-in-Open-clause-read t c =
    exit _ _ _ _ c.from_residual-in_err-argument-in-Open.ensures.1
    (fails_inside _ _ _ _ (first_argument c.args.depth) (front_at c.args.depth c.args.tokens.now _ token.Open _ c.in-Some.ensures.cases.0 c.in-Open.is) c.in_err-argument-in-Open.ensures.read)

pub front-returns-in_err-domain-in-OpenList-clause-read : goal.front-returns-in_err-domain-in-OpenList-clause-read
front-returns-in_err-domain-in-OpenList-clause-read t c =
    exit _ _ _ _ c.from_residual-in_err-domain-in-OpenList.ensures.1
    (fails_inside _ _ _ _ (first_domain c.args.depth) (front_at c.args.depth c.args.tokens.now _ token.OpenList _ c.in-Some.ensures.cases.0 c.in-OpenList.is) c.in_err-domain-in-OpenList.ensures.read)

pub front-returns-in_ok-typ-in-Variable-clause-read : goal.front-returns-in_ok-typ-in-Variable-clause-read
front-returns-in_ok-typ-in-Variable-clause-read t c =
    later_result _ _ _ _ (variable_leads c.args.depth c.args.tokens.now _ _ _ _ _ c.in-Some.ensures.cases.0 c.in-Variable.is c.in_ok-typ-in-Variable.ensures c.in_ok-copy-in-Variable.ensures) c.behind.ensures.read

pub front-returns-in_ok-typ-in-Unknown-clause-read : goal.front-returns-in_ok-typ-in-Unknown-clause-read
front-returns-in_ok-typ-in-Unknown-clause-read t c =
    later_result _ _ _ _ (unknown_leads c.args.depth c.args.tokens.now _ _ _ _ _ c.in-Some.ensures.cases.0 c.in-Unknown.is c.in_ok-typ-in-Unknown.ensures c.in_ok-copy-in-Unknown.ensures) c.behind-in-Unknown.ensures.read

pub front-returns-in_ok-typ-in-Name-clause-read : goal.front-returns-in_ok-typ-in-Name-clause-read
front-returns-in_ok-typ-in-Name-clause-read t c =
    later_result _ _ _ _
    (front_leads c.args.depth c.args.tokens.now _ c.in-Name.name c.in-Name.arity c.in-Some.after.now c.new-in-Name.result c.in_ok-typ-in-Name.typ c.in-Some.ensures.cases.0 c.in-Name.is c.new-in-Name.ensures c.in_ok-typ-in-Name.ensures)
    c.behind-in-Name.ensures.read

pub front-returns-in_ok-argument-in-Open-clause-read : goal.front-returns-in_ok-argument-in-Open-clause-read
front-returns-in_ok-argument-in-Open-clause-read t c =
    later_result _ _ _ _
    (leads_both _ _ _ (leads_inside _ _ _ (first_argument c.args.depth) _ _ _ (front_at c.args.depth c.args.tokens.now _ token.Open _ c.in-Some.ensures.cases.0 c.in-Open.is) c.in_ok-argument-in-Open.ensures.read)
    (leads_place _ (Arguments c.args.depth (c.in_ok-argument-in-Open.argument ∷ []) _) c.in_ok-argument-in-Open.later.now refl))
    c.arguments.ensures.read

pub front-returns-in_ok-domain-in-OpenList-clause-read : goal.front-returns-in_ok-domain-in-OpenList-clause-read
front-returns-in_ok-domain-in-OpenList-clause-read t c =
    later_result _ _ _ _
    (leads_both _ _ _ (leads_inside _ _ _ (first_domain c.args.depth) _ _ _ (front_at c.args.depth c.args.tokens.now _ token.OpenList _ c.in-Some.ensures.cases.0 c.in-OpenList.is) c.in_ok-domain-in-OpenList.ensures.read)
    (leads_place _ (Domains c.args.depth (c.in_ok-domain-in-OpenList.domain ∷ []) _) c.in_ok-domain-in-OpenList.later.now refl))
    c.domains.ensures.read

pub front-returns-in_default-first-clause-read : goal.front-returns-in_default-first-clause-read
front-returns-in_default-first-clause-read t c =
    refusal_of _ _ _ _ c.refused-in_default-first.ensures
    (front_other c.args.depth c.args.tokens.now _ _ c.in-Some.ensures.cases.0 c.in_default-first.not-Variable c.in_default-first.not-Unknown c.in_default-first.not-Name c.in_default-first.not-Open c.in_default-first.not-OpenList)

pub behind-returns-in_err-typ-clause-read : goal.behind-returns-in_err-typ-clause-read
behind-returns-in_err-typ-clause-read t c =
    exit _ _ _ _ c.from_residual-in_err-typ.ensures.1
    (fails_later _ _ _ c.loop-name.invariant.0
    (fails_later _ _ _ (leads_equal _ _ (behind_named c.args.depth c.loop-name.typ c.args.height c.loop-name.rest.now c.in-Some.name.now c.in-Some.arity _ c.in-Some.ensures.found))
    (named_refuses _ c.in-Some.name.now c.in-Some.arity _ c.loop-name.typ c.loop-name.rest.now (behind_name c.args.depth c.args.height c.in-Some.after.now) (one_of _ _ _ c.in_ok-push.ensures.ok c.new-args.ensures) c.in_err-typ.ensures)))

pub behind-loop-name-preserved : goal.behind-loop-name-preserved
behind-loop-name-preserved t c = (
  leads_both _ _ _ c.loop-name.invariant.0
      (named_leads c.args.depth c.loop-name.typ c.args.height c.loop-name.rest.now c.in-Some.name.now c.in-Some.arity c.in-Some.after.now _ c.in_ok-typ.typ c.in-Some.ensures.found (one_of _ _ _ c.in_ok-push.ensures.ok c.new-args.ensures) c.in_ok-typ.ensures),
  omega (arith, c.loop-name.invariant.1, ap length c.in-Some.ensures.found),
)

pub to_range-returns-in_default-clause-read : goal.to_range-returns-in_default-clause-read
to_range-returns-in_default-clause-read t c = leads_equal _ _ (behind_end c.args.depth c.args.domain c.args.height c.args.tokens.now c.requires.no_name c.in_default.ensures.none) _ (ends _)

pub to_range-returns-then-depth-height-ge-LIMIT-clause-read : goal.to_range-returns-then-depth-height-ge-LIMIT-clause-read
to_range-returns-then-depth-height-ge-LIMIT-clause-read t c =
    leads_equal _ _ (behind_deep c.args.depth c.args.domain c.args.height c.args.tokens.now _ c.in-Some.ensures.found c.if-depth-height-ge-LIMIT.true) _ (ends _)

pub to_range-returns-in_err-range-clause-read : goal.to_range-returns-in_err-range-clause-read
to_range-returns-in_err-range-clause-read t c =
    exit _ _ _ _ c.from_residual.ensures.1
    (fails_inside _ _ _ _ (to_function c.args.domain c.args.height) (behind_arrow c.args.depth c.args.domain c.args.height c.args.tokens.now _ c.in-Some.ensures.found c.if-depth-height-ge-LIMIT.false) c.in_err-range.ensures.read)

pub to_range-returns-clause-read : goal.to_range-returns-clause-read
to_range-returns-clause-read t c =
    rw (c.in_ok-whole.ensures, c.max.ensures)
    (leads_inside _ _ _ (to_function c.args.domain c.args.height) _ _ _ (behind_arrow c.args.depth c.args.domain c.args.height c.args.tokens.now _ c.in-Some.ensures.found c.if-depth-height-ge-LIMIT.false) c.in_ok-range.ensures.read _ (ends _))

pub arguments-returns-in_err-argument-clause-read : goal.arguments-returns-in_err-argument-clause-read
arguments-returns-in_err-argument-clause-read t c =
    exit _ _ _ _ c.from_residual-in_err-argument.ensures.1
    (fails_later _ _ _ c.loop-after.invariant.0
    (fails_inside _ _ _ _ (next_argument c.args.depth c.loop-after.args c.loop-after.highest) (arguments_comma c.args.depth c.loop-after.args c.loop-after.highest c.loop-after.rest.now _ c.in-Some.ensures.found) c.in_err-argument.ensures.read))

pub arguments-loop-after-preserved : goal.arguments-loop-after-preserved
arguments-loop-after-preserved t c = (
  leads_both _ _ _ c.loop-after.invariant.0
      (rw (c.in_ok-push-2.ensures.ok, c.max-highest.ensures)
      (leads_both _ _ _ (leads_inside _ _ _ (next_argument c.args.depth c.loop-after.args c.loop-after.highest) _ _ _ (arguments_comma c.args.depth c.loop-after.args c.loop-after.highest c.loop-after.rest.now _ c.in-Some.ensures.found) c.in_ok-argument.ensures.read)
      (leads_place _ (Arguments c.args.depth (c.loop-after.args ++ c.in_ok-argument.argument ∷ []) _) c.in_ok-argument.later.now refl))),
  omega (arith, c.in_ok-argument.ensures.shorter, c.loop-after.invariant.1, ap length c.in-Some.ensures.found),
  omega (arith, c.in_ok-argument.ensures.shallow, c.loop-after.invariant.2, c.max-highest.ensures),
)

pub arguments-returns-in_default-behind_close-clause-read : goal.arguments-returns-in_default-behind_close-clause-read
arguments-returns-in_default-behind_close-clause-read t c =
    fails_later _ _ _ c.loop-after.invariant.0
    (refusal_of _ _ _ _ c.refused.ensures (arguments_refused c.args.depth c.loop-after.args c.loop-after.highest c.loop-after.rest.now c.in_default.ensures.none c.in_default-behind_close.ensures.none))

pub arguments-returns-clause-read : goal.arguments-returns-clause-read
arguments-returns-clause-read t c =
    later_result _ _ _ _ (leads_both _ _ _ c.loop-after.invariant.0 (leads_equal _ _ (arguments_close c.args.depth c.loop-after.args c.loop-after.highest c.loop-after.rest.now _ c.in-Some-behind_close.ensures.found))) c.closed.ensures.read

pub closed-returns-in-Some-clause-read : goal.closed-returns-in-Some-clause-read
closed-returns-in-Some-clause-read t c =
    later_result _ _ _ _ (single_leads c.args.depth c.args.args _ _ c.args.height c.args.tokens.now c.in-Some.ensures.found c.in_ok-copy.ensures) c.behind.ensures.read

pub closed-returns-in_default-name_next-clause-read : goal.closed-returns-in_default-name_next-clause-read
closed-returns-in_default-name_next-clause-read t c =
    refusal_of _ _ _ _ c.refused.ensures (closed_refused c.args.depth c.args.args c.args.height c.args.tokens.now c.in_default.ensures.none c.in_default-name_next.ensures.none)

pub closed-returns-in_err-typ-clause-read : goal.closed-returns-in_err-typ-clause-read
closed-returns-in_err-typ-clause-read t c =
    exit _ _ _ _ c.from_residual-in_err-typ.ensures.1
    (fails_later _ _ _ (leads_equal _ _ (closed_name c.args.depth c.args.args c.args.height c.args.tokens.now c.in-Some-name_next.name.now c.in-Some-name_next.arity _ c.in_default.ensures.none c.in-Some-name_next.ensures.found))
    (refuses _ _ (behind_name c.args.depth c.args.height c.in-Some-name_next.after.now) c.in_err-typ.ensures))

pub closed-returns-clause-read : goal.closed-returns-clause-read
closed-returns-clause-read t c =
    later_result _ _ _ _
    (leads_both _ _ _ (leads_equal _ _ (closed_name c.args.depth c.args.args c.args.height c.args.tokens.now c.in-Some-name_next.name.now c.in-Some-name_next.arity _ c.in_default.ensures.none c.in-Some-name_next.ensures.found ∙ c.in_ok-typ.ensures (behind_name c.args.depth c.args.height c.in-Some-name_next.after.now)))
    (leads_place _ (Behind c.args.depth c.in_ok-typ.typ c.args.height) c.in-Some-name_next.after.now refl))
    c.behind-2.ensures.read

pub domains-returns-in_err-domain-clause-read : goal.domains-returns-in_err-domain-clause-read
domains-returns-in_err-domain-clause-read t c =
    exit _ _ _ _ c.from_residual-in_err-domain.ensures.1
    (fails_later _ _ _ c.loop-after.invariant.0
    (fails_inside _ _ _ _ (next_domain c.args.depth c.loop-after.types.items c.loop-after.highest) (domains_comma c.args.depth c.loop-after.types.items c.loop-after.highest c.loop-after.rest.now _ c.in-Some.ensures.found) c.in_err-domain.ensures.read))

pub domains-loop-after-preserved : goal.domains-loop-after-preserved
domains-loop-after-preserved t c = (
  leads_both _ _ _ c.loop-after.invariant.0
      (rw (c.in_ok-push-2.ensures.items, c.max-highest.ensures)
      (leads_both _ _ _ (leads_inside _ _ _ (next_domain c.args.depth c.loop-after.types.items c.loop-after.highest) _ _ _ (domains_comma c.args.depth c.loop-after.types.items c.loop-after.highest c.loop-after.rest.now _ c.in-Some.ensures.found) c.in_ok-domain.ensures.read)
      (leads_place _ (Domains c.args.depth (c.loop-after.types.items ++ c.in_ok-domain.domain ∷ []) _) c.in_ok-domain.later.now refl))),
  omega (arith, c.in_ok-domain.ensures.shorter, c.loop-after.invariant.1, ap length c.in-Some.ensures.found),
  omega (arith, c.in_ok-domain.ensures.shallow, c.loop-after.invariant.2, c.max-highest.ensures),
)

pub domains-returns-in_default-behind_close_list-clause-read : goal.domains-returns-in_default-behind_close_list-clause-read
domains-returns-in_default-behind_close_list-clause-read t c =
    fails_later _ _ _ c.loop-after.invariant.0
    (refusal_of _ _ _ _ c.refused.ensures (domains_refused c.args.depth c.loop-after.types.items c.loop-after.highest c.loop-after.rest.now c.in_default.ensures.none c.in_default-behind_close_list.ensures.none))

pub range-returns-in_default-clause-read : goal.range-returns-in_default-clause-read
range-returns-in_default-clause-read t c =
    refusal_of _ _ _ _ c.refused.ensures (range_refused c.args.depth c.args.types.items c.args.height c.args.tokens.now c.in_default.ensures.none)

pub range-returns-in_err-range-clause-read : goal.range-returns-in_err-range-clause-read
range-returns-in_err-range-clause-read t c =
    exit _ _ _ _ c.from_residual.ensures.1
    (fails_inside _ _ _ _ (to_functions c.args.types.items c.args.height) (range_arrow c.args.depth c.args.types.items c.args.height c.args.tokens.now _ c.in-Some.ensures.found) c.in_err-range.ensures.read)

pub range-returns-clause-read : goal.range-returns-clause-read
range-returns-clause-read t c =
    rw (c.in_ok-whole.ensures, c.max.ensures)
    (leads_inside _ _ _ (to_functions c.args.types.items c.args.height) _ _ _ (range_arrow c.args.depth c.args.types.items c.args.height c.args.tokens.now _ c.in-Some.ensures.found) c.in_ok-range.ensures.read _ (ends _))
