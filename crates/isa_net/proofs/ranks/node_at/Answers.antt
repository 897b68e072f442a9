use Rattle.std.proofs.Common.{◌≡◌, ◌+◌, ◌<◌, ◌≤◌, [], ◌∷◌, length, drop, get_or, None, Some, sym, ap, ◌∙◌, arith}
use Rattle.std.proofs.lemmas.List.{drop_more, drop_all}
use Rattle.isa_net.proofs.Growing.{reach_on, reach_off, reach_end}
use Rattle.isa_net.proofs.ranks.node_at.Goals as goal

pub returns-in-None : goal.returns-in-None
returns-in-None c =
    let i = c.loop-symbol.symbol-index in
    let word = c.args.word.now in
    let s = c.symbol-item.result in
    let lt : i < length word = omega arith in
    let e : drop i word ≡ s ∷ drop (i + 1) word = drop_more word i s lt ∙ ap (λ x. x ∷ drop (i + 1) word) (sym c.symbol-item.is) in
    sym (c.loop-symbol.invariant ∙ reach_off c.args.nodes.now c.loop-symbol.at s (drop (i + 1) word) (drop i word) e (sym c.in-None.ensures))

pub loop-symbol-preserved : goal.loop-symbol-preserved
loop-symbol-preserved c =
    let i = c.loop-symbol.symbol-index in
    let word = c.args.word.now in
    let s = c.symbol-item.result in
    let lt : i < length word = omega arith in
    let e : drop i word ≡ s ∷ drop (i + 1) word = drop_more word i s lt ∙ ap (λ x. x ∷ drop (i + 1) word) (sym c.symbol-item.is) in
    c.loop-symbol.invariant ∙ reach_on c.args.nodes.now c.loop-symbol.at c.in-Some.next s (drop (i + 1) word) (drop i word) e (sym c.in-Some.ensures)

pub returns-in-None-get : goal.returns-in-None-get
returns-in-None-get c =
    let i = c.loop-symbol.symbol-index in
    let word = c.args.word.now in
    let l : length word ≤ i = omega arith in
    sym (c.loop-symbol.invariant ∙ reach_end c.args.nodes.now c.loop-symbol.at (drop i word) None (drop_all i word l) (sym c.in-None-get.ensures))

pub returns-in-Some-get : goal.returns-in-Some-get
returns-in-Some-get c =
    let i = c.loop-symbol.symbol-index in
    let word = c.args.word.now in
    let l : length word ≤ i = omega arith in
    sym (c.loop-symbol.invariant ∙ reach_end c.args.nodes.now c.loop-symbol.at (drop i word) (Some _) (drop_all i word l) (sym c.in-Some-get.ensures))
