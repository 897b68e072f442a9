use Rattle.std.proofs.Common.{sym, ◌∙◌, ◌-◌, length, take, drop}
use Rattle.isa_net.specs.Inside.Index.{Prunes}
use Rattle.isa_net.proofs.Reached.{back}
use Rattle.isa_net.proofs.Idling.{prunes_end, prunes_cut, prunes_busy, prunes_leaf, empty_word, word_split}
use Rattle.isa_net.proofs.pruning.+prune.Goals as goal

pub returns-in_default : goal.returns-in_default
returns-in_default t c = prunes_end c.args.nodes.now c.args.at c.args.word.now c.is_idle.result (empty_word c.args.word.now c.in_default.len_below) c.is_idle.ensures

pub returns-in_default-edge_at : goal.returns-in_default-edge_at
returns-in_default-edge_at t c =
    let e = word_split c.args.word.now c.symbol-item.result c.in-len1-up.len_at_least c.symbol-item.is in
    prunes_cut c.args.nodes.now c.args.at c.symbol-item.result c.args.word.now (take (length c.args.word.now - 1) (drop 1 c.args.word.now)) c.is_idle-in_default-edge_at.result e (sym c.edge_at.ensures ∙ c.in_default-edge_at.is) c.is_idle-in_default-edge_at.ensures

pub returns-then-not-prune : goal.returns-then-not-prune
returns-then-not-prune t c =
    let rest = take (length c.args.word.now - 1) (drop 1 c.args.word.now) in
    let e = word_split c.args.word.now c.symbol-item.result c.in-len1-up.len_at_least c.symbol-item.is in
    prunes_busy c.args.nodes.now c.prune.new.nodes c.args.at c.in-Some.next c.symbol-item.result c.args.word.now rest e (sym c.edge_at.ensures ∙ c.in-Some.is) (back (λ b. Prunes c.args.nodes.now c.prune.new.nodes c.in-Some.next rest b) _ _ (sym c.if-not-prune.true) c.prune.ensures)

pub returns : goal.returns
returns t c =
    let rest = take (length c.args.word.now - 1) (drop 1 c.args.word.now) in
    let e = word_split c.args.word.now c.symbol-item.result c.in-len1-up.len_at_least c.symbol-item.is in
    prunes_leaf c.args.nodes.now c.prune.new.nodes c.drop_leaf.new.nodes c.args.at c.in-Some.next c.symbol-item.result c.args.word.now rest c.is_idle-2.result e (sym c.edge_at.ensures ∙ c.in-Some.is) (back (λ b. Prunes c.args.nodes.now c.prune.new.nodes c.in-Some.next rest b) _ _ (sym c.if-not-prune.false) c.prune.ensures) c.drop_leaf.ensures c.is_idle-2.ensures
