use Rattle.std.proofs.Common.{◌≡◌, ◌≤◌, ◌∙◌, sym, arith}
use Rattle.isa_net.specs.Nets.{agreeing_prefixes}
use Rattle.isa_net.specs.Inside.Holding.{Holds, word_in}
use Rattle.isa_net.proofs.Netting.{unchanged_holds, are_candidates, few_steps, missed_clash, all_there}
use Rattle.isa_net.proofs.net.Net.look_up.Goals as goal

pub returns-clause-candidates : goal.returns-clause-candidates
returns-clause-candidates g c =
    let e : c.self.inside.entries.entries ≡ c.args.self.now = cc in
    let h : Holds c.self.inside.tree (word_in c.args.self.now) = unchanged_holds c.self.inside.tree c.self.inside.entries.entries c.args.self.now (sym e) c.self.invariant in
    c.new.ensures ∙ are_candidates c.args.mode c.args.t.now c.args.self.now c.self.inside.tree c.in_ok-found.found.ranks.items c.in_ok-in_order.field-0.items c.recall_order.ensures h c.in_ok-found.ensures.given c.in_ok-in_order.ensures.rising c.in_ok-in_order.ensures.same

pub returns-clause-steps : goal.returns-clause-steps
returns-clause-steps g c =
    let e : c.self.inside.entries.entries ≡ c.args.self.now = cc in
    let h : Holds c.self.inside.tree (word_in c.args.self.now) = unchanged_holds c.self.inside.tree c.self.inside.entries.entries c.args.self.now (sym e) c.self.invariant in
    let q : c.in_ok-found.found.visited ≤ agreeing_prefixes c.args.mode c.args.t.now c.args.self.now = few_steps c.args.mode c.args.t.now c.args.self.now c.self.inside.tree c.in_ok-found.found.visited h c.in_ok-found.ensures.visited in
    let s = c.saturating_add-steps.ensures in
    (omega (arith, s), omega (arith, q, s))

pub returns-clause-missed : goal.returns-clause-missed
returns-clause-missed g c =
    let e : c.self.inside.entries.entries ≡ c.args.self.now = cc in
    let h : Holds c.self.inside.tree (word_in c.args.self.now) = unchanged_holds c.self.inside.tree c.self.inside.entries.entries c.args.self.now (sym e) c.self.invariant in
    missed_clash c.args.mode c.args.t.now c.args.self.now c.new.result (c.new.ensures ∙ are_candidates c.args.mode c.args.t.now c.args.self.now c.self.inside.tree c.in_ok-found.found.ranks.items c.in_ok-in_order.field-0.items c.recall_order.ensures h c.in_ok-found.ensures.given c.in_ok-in_order.ensures.rising c.in_ok-in_order.ensures.same)

pub returns-clause-there : goal.returns-clause-there
returns-clause-there g c =
    let e : c.self.inside.entries.entries ≡ c.args.self.now = cc in
    let h : Holds c.self.inside.tree (word_in c.args.self.now) = unchanged_holds c.self.inside.tree c.self.inside.entries.entries c.args.self.now (sym e) c.self.invariant in
    all_there c.args.mode c.args.t.now c.args.self.now c.new.result c.recall_order.ensures (c.new.ensures ∙ are_candidates c.args.mode c.args.t.now c.args.self.now c.self.inside.tree c.in_ok-found.found.ranks.items c.in_ok-in_order.field-0.items c.recall_order.ensures h c.in_ok-found.ensures.given c.in_ok-in_order.ensures.rising c.in_ok-in_order.ensures.same)
