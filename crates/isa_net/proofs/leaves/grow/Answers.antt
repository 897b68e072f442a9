use Rattle.std.proofs.Common.{◌≡◌, ◌+◌, ◌<◌, ◌++◌, [], ◌∷◌, length, take, drop, sym, ap, ◌∙◌, arith}
use Rattle.std.proofs.lemmas.List.{take_more, take-append-drop}
use Rattle.isa_net.specs.Inside.Reach.{reach}
use Rattle.isa_net.proofs.Growing.{at_once}
use Rattle.isa_net.proofs.Indexed.{ends_there}
use Rattle.isa_net.proofs.Descending.{tree_descended, reach_descended, index_descended, keeps_more, alike_index}
use Rattle.isa_net.proofs.leaves.grow.Goals as goal

pub loop-symbol-init : goal.loop-symbol-init
loop-symbol-init c = record { tree = c.requires; here = at_once c.args.nodes.now c.args.root c.requires.stands; index = λ deep word_at l x. x }

pub descend-requires : goal.descend-requires
descend-requires c = ends_there c.loop-symbol.nodes c.args.root (take c.loop-symbol.symbol-index c.args.word.now) c.loop-symbol.at c.loop-symbol.invariant.here

pub loop-symbol-preserved : goal.loop-symbol-preserved
loop-symbol-preserved c =
    let i = c.loop-symbol.symbol-index in
    let word = c.args.word.now in
    let s = c.symbol-item.result in
    let d = c.in_ok-at.ensures.ok in
    let v = c.loop-symbol.invariant in
    let lt : i < length word = omega arith in
    let e : take (i + 1) word ≡ take i word ++ s ∷ [] = take_more word i s lt ∙ ap (λ x. take i word ++ x ∷ []) (sym c.symbol-item.is) in
    let p : word ≡ (take i word ++ s ∷ []) ++ drop (i + 1) word = sym (take-append-drop (i + 1) word) ∙ ap (λ x. x ++ drop (i + 1) word) e in
    record {
      tree = tree_descended c.loop-symbol.nodes c.descend.new.nodes c.args.root c.loop-symbol.at c.in_ok-at.at s v.tree d;
      here = ap (λ x. reach c.descend.new.nodes c.args.root x) e ∙ reach_descended c.loop-symbol.nodes c.descend.new.nodes c.args.root c.loop-symbol.at c.in_ok-at.at s (take i word) v.tree v.here d;
      index = keeps_more c.args.nodes.now c.loop-symbol.nodes c.descend.new.nodes c.args.root word v.index (index_descended c.loop-symbol.nodes c.descend.new.nodes c.args.root c.loop-symbol.at c.in_ok-at.at s (take i word) (drop (i + 1) word) word v.here d p);
    }

pub returns-in_err-at-clause-index : goal.returns-in_err-at-clause-index
returns-in_err-at-clause-index c =
    keeps_more c.args.nodes.now c.loop-symbol.nodes c.descend.new.nodes c.args.root c.args.word.now c.loop-symbol.invariant.index (alike_index c.loop-symbol.nodes c.descend.new.nodes c.in_err-at.ensures.err c.args.root c.args.word.now)
