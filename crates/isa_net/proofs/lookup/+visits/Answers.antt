use Rattle.std.proofs.Common.{arith, ◌≡◌, ◌+◌, ◌≤◌, ◌++◌, length, [], ◌∷◌, refl, sym, ap, ◌∙◌, cond}
use Rattle.std.specs.Map.Iter.{deref_pair}
use Rattle.std.proofs.lemmas.Map.Iter.{rest_more, rest_all}
use Rattle.isa_net.specs.Symbols.{is_star, arity}
use Rattle.isa_net.specs.declared.symbol.Symbol.TheVariants.{Star}
use Rattle.isa_net.specs.Words.{Along, Over, symbol_of, alongs, overs}
use Rattle.isa_net.specs.Inside.Lists.{items_in, item_of, rest_of, last_args}
use Rattle.isa_net.specs.Inside.Reach.{target}
use Rattle.isa_net.specs.Inside.Trails.{trail, along_edges, along_all, along_own, if_leads, ranks_at}
use Rattle.isa_net.proofs.Visits.{trail_past, edges_over, edges_two, after_passed}
use Rattle.isa_net.proofs.Turns.{on_ok, found_nothing, trail_stops, trail_alone, trail_over, trail_along, found_by, counted_by, all_found, all_counted, both_found, both_counted, same_found, same_counted, two_found, two_counted, star_found, star_counted}
use Rattle.isa_net.proofs.lookup.+visits.Goals as goal

pub visit-returns-then-left-eq0-clause-found : goal.visit-returns-then-left-eq0-clause-found
visit-returns-then-left-eq0-clause-found t c =
    let e : c.args.left ≡ 0 = omega arith in
    found_nothing c.args.look.now.nodes.now _ _ (trail_stops c.args.look.now.mode c.args.look.now.nodes.now c.args.left c.args.at _ e)

pub visit-returns-in_default-clause-found : goal.visit-returns-in_default-clause-found
visit-returns-in_default-clause-found t c =
    found_nothing c.args.look.now.nodes.now _ _ (trail_past c.args.look.now.mode c.args.look.now.nodes.now c.args.left c.args.at _ (sym c.in_default.ensures))

pub visit-returns-in_default-front_of-clause-found : goal.visit-returns-in_default-front_of-clause-found
visit-returns-in_default-front_of-clause-found t c =
    let nodes = c.args.look.now.nodes.now in
    let q = trail_alone c.args.look.now.mode nodes c.args.left c.args.at (items_in c.args.items.now) c.in-Some.node.now c.if-left-eq0.false c.in-Some.ensures c.in_default-front_of.ensures in
    let w = c.in_ok-extend_from_slice.ensures.items in
    found_by nodes c.args.at c.in-Some.node.now [] _ _ _ _ _ c.in-Some.ensures w c.as_slice.ensures.value q (found_nothing nodes _ [] refl)

pub visit-returns-in_default-front_of-clause-visited : goal.visit-returns-in_default-front_of-clause-visited
visit-returns-in_default-front_of-clause-visited t c =
    let q = trail_alone c.args.look.now.mode c.args.look.now.nodes.now c.args.left c.args.at (items_in c.args.items.now) c.in-Some.node.now c.if-left-eq0.false c.in-Some.ensures c.in_default-front_of.ensures in
    let m : c.saturating_add-found.result ≤ c.args.found.now.visited + 1 = omega (arith, c.saturating_add-found.ensures) in
    counted_by c.args.at [] _ c.args.found.now.visited c.saturating_add-found.result c.saturating_add-found.result m q (omega arith)

pub visit-returns-in-None-clause-found : goal.visit-returns-in-None-clause-found
visit-returns-in-None-clause-found t c =
    let nodes = c.args.look.now.nodes.now in
    let front = c.in-Some-front_of.front in
    let e : Over ∷ rest_of front ≡ items_in c.args.items.now = ap (λ o. item_of o ∷ rest_of front) (sym c.in-None.is) ∙ c.in-Some-front_of.ensures in
    let q = trail_over c.args.look.now.mode nodes c.args.left c.args.at (items_in c.args.items.now) c.in-Some.node.now (rest_of front) c.if-left-eq0.false c.in-Some.ensures e in
    let w = c.in_ok-extend_from_slice.ensures.items in
    on_ok _ _ _ (found_by nodes c.args.at c.in-Some.node.now _ _ _ _ _ _ c.in-Some.ensures w c.as_slice.ensures.value q) c.visit_all.ensures.found

pub visit-returns-in-None-clause-visited : goal.visit-returns-in-None-clause-visited
visit-returns-in-None-clause-visited t c =
    let front = c.in-Some-front_of.front in
    let e : Over ∷ rest_of front ≡ items_in c.args.items.now = ap (λ o. item_of o ∷ rest_of front) (sym c.in-None.is) ∙ c.in-Some-front_of.ensures in
    let q = trail_over c.args.look.now.mode c.args.look.now.nodes.now c.args.left c.args.at (items_in c.args.items.now) c.in-Some.node.now (rest_of front) c.if-left-eq0.false c.in-Some.ensures e in
    let m : c.saturating_add-found.result ≤ c.args.found.now.visited + 1 = omega (arith, c.saturating_add-found.ensures) in
    on_ok _ _ _ (counted_by c.args.at _ _ c.args.found.now.visited c.saturating_add-found.result c.visit_all.new.found.visited m q) c.visit_all.ensures.visited

pub visit-returns-in-Some-item-clause-found : goal.visit-returns-in-Some-item-clause-found
visit-returns-in-Some-item-clause-found t c =
    let nodes = c.args.look.now.nodes.now in
    let front = c.in-Some-front_of.front in
    let e : Along c.in-Some-item.t.now ∷ rest_of front ≡ items_in c.args.items.now = ap (λ o. item_of o ∷ rest_of front) (sym c.in-Some-item.is) ∙ c.in-Some-front_of.ensures in
    let q = trail_along c.args.look.now.mode nodes c.args.left c.args.at (items_in c.args.items.now) c.in-Some.node.now c.in-Some-item.t.now (rest_of front) c.if-left-eq0.false c.in-Some.ensures e in
    let w = c.in_ok-extend_from_slice.ensures.items in
    on_ok _ _ _ (found_by nodes c.args.at c.in-Some.node.now _ _ _ _ _ _ c.in-Some.ensures w c.as_slice.ensures.value q) c.visit_along.ensures.found

pub visit-returns-in-Some-item-clause-visited : goal.visit-returns-in-Some-item-clause-visited
visit-returns-in-Some-item-clause-visited t c =
    let front = c.in-Some-front_of.front in
    let e : Along c.in-Some-item.t.now ∷ rest_of front ≡ items_in c.args.items.now = ap (λ o. item_of o ∷ rest_of front) (sym c.in-Some-item.is) ∙ c.in-Some-front_of.ensures in
    let q = trail_along c.args.look.now.mode c.args.look.now.nodes.now c.args.left c.args.at (items_in c.args.items.now) c.in-Some.node.now c.in-Some-item.t.now (rest_of front) c.if-left-eq0.false c.in-Some.ensures e in
    let m : c.saturating_add-found.result ≤ c.args.found.now.visited + 1 = omega (arith, c.saturating_add-found.ensures) in
    on_ok _ _ _ (counted_by c.args.at _ _ c.args.found.now.visited c.saturating_add-found.result c.visit_along.new.found.visited m q) c.visit_along.ensures.visited

pub visit_all-loop-symbol-preserved : goal.visit_all-loop-symbol-preserved
visit_all-loop-symbol-preserved t c =
    let go = trail c.args.look.now.mode c.args.look.now.nodes.now c.args.left in
    let h = rest_more deref_pair c.loop-symbol.symbol-iterator c.next.new.self c.next.result (c.in-Some.symbol, c.in-Some.next) c.in-Some.is c.next.ensures.steps in
    let k : c.arity.result ≡ arity c.in-Some.symbol.now = c.arity.ensures in
    let same = ap (λ n. ranks_at c.args.look.now.nodes.now (go c.in-Some.next.now (overs n ++ items_in c.args.rest.now))) k in
    let long = ap (λ n. length (go c.in-Some.next.now (overs n ++ items_in c.args.rest.now))) k in
    record {
      found = all_found c.args.look.now.nodes.now go (items_in c.args.rest.now) _ _ _ _ _ _ h (c.in_ok-visit.ensures.found ∙ ap (λ v. c.loop-symbol.found.ranks.items ++ v) same) c.loop-symbol.invariant.found;
      visited = all_counted go (items_in c.args.rest.now) _ _ _ _ _ _ h (omega (arith, c.in_ok-visit.ensures.visited, long)) c.loop-symbol.invariant.visited;
    }

pub visit_along-returns-then-passes-clause-found : goal.visit_along-returns-then-passes-clause-found
visit_along-returns-then-passes-clause-found t c =
    let p = sym c.passes.ensures ∙ c.if-passes.true in
    let go = trail c.args.look.now.mode c.args.look.now.nodes.now c.args.left in
    let e = edges_over c.args.look.now.mode (Along c.args.t.now) go (items_in c.args.rest.now) (λ s. after_passed c.args.look.now.mode c.args.t.now s p) c.args.edges.now.entries in
    on_ok _ _ _ (same_found c.args.look.now.nodes.now _ _ c.args.found.now.ranks.items c.visit_all.new.found.ranks.items e) c.visit_all.ensures.found

pub visit_along-returns-then-passes-clause-visited : goal.visit_along-returns-then-passes-clause-visited
visit_along-returns-then-passes-clause-visited t c =
    let p = sym c.passes.ensures ∙ c.if-passes.true in
    let go = trail c.args.look.now.mode c.args.look.now.nodes.now c.args.left in
    let e = edges_over c.args.look.now.mode (Along c.args.t.now) go (items_in c.args.rest.now) (λ s. after_passed c.args.look.now.mode c.args.t.now s p) c.args.edges.now.entries in
    on_ok _ _ _ (same_counted _ _ c.args.found.now.visited c.visit_all.new.found.visited e) c.visit_all.ensures.visited

pub visit_along-returns-else-passes-clause-found : goal.visit_along-returns-else-passes-clause-found
visit_along-returns-else-passes-clause-found t c =
    let p = sym c.passes.ensures ∙ c.if-passes.false in
    let go = trail c.args.look.now.mode c.args.look.now.nodes.now c.args.left in
    let e = edges_two c.args.look.now.mode c.args.t.now go (items_in c.args.rest.now) p c.args.edges.now.entries c.recall_order.ensures in
    on_ok _ _ _ (same_found c.args.look.now.nodes.now _ _ c.args.found.now.ranks.items c.visit_two.new.found.ranks.items e) c.visit_two.ensures.found

pub visit_along-returns-else-passes-clause-visited : goal.visit_along-returns-else-passes-clause-visited
visit_along-returns-else-passes-clause-visited t c =
    let p = sym c.passes.ensures ∙ c.if-passes.false in
    let go = trail c.args.look.now.mode c.args.look.now.nodes.now c.args.left in
    let e = edges_two c.args.look.now.mode c.args.t.now go (items_in c.args.rest.now) p c.args.edges.now.entries c.recall_order.ensures in
    on_ok _ _ _ (same_counted _ _ c.args.found.now.visited c.visit_two.new.found.visited e) c.visit_two.ensures.visited

pub visit_two-returns-then-is_star-clause-found : goal.visit_two-returns-then-is_star-clause-found
visit_two-returns-then-is_star-clause-found t c =
    let go = trail c.args.look.now.mode c.args.look.now.nodes.now c.args.left in
    let star = sym c.is_star.ensures ∙ c.if-is_star.true in
    star_found c.args.look.now.nodes.now go c.args.t.now (items_in c.args.rest.now) c.args.edges.now.entries c.in_ok-symbol.symbol c.in_ok-symbol.ensures star _ _ c.in_ok-visit_one.ensures.found

pub visit_two-returns-then-is_star-clause-visited : goal.visit_two-returns-then-is_star-clause-visited
visit_two-returns-then-is_star-clause-visited t c =
    let go = trail c.args.look.now.mode c.args.look.now.nodes.now c.args.left in
    let star = sym c.is_star.ensures ∙ c.if-is_star.true in
    star_counted go c.args.t.now (items_in c.args.rest.now) c.args.edges.now.entries c.in_ok-symbol.symbol c.in_ok-symbol.ensures star _ _ c.in_ok-visit_one.ensures.visited

pub visit_two-returns-clause-found : goal.visit_two-returns-clause-found
visit_two-returns-clause-found t c =
    let go = trail c.args.look.now.mode c.args.look.now.nodes.now c.args.left in
    let own = sym c.is_star.ensures ∙ c.if-is_star.false in
    on_ok _ _ _ (two_found c.args.look.now.nodes.now go c.args.t.now (items_in c.args.rest.now) c.args.edges.now.entries c.in_ok-symbol.symbol c.arity.result c.in_ok-symbol.ensures own c.arity.ensures c.args.found.now.ranks.items c.visit_one.new.found.ranks.items c.visit_one-2.new.found.ranks.items c.in_ok-visit_one.ensures.found) c.visit_one-2.ensures.found

pub visit_two-returns-clause-visited : goal.visit_two-returns-clause-visited
visit_two-returns-clause-visited t c =
    let go = trail c.args.look.now.mode c.args.look.now.nodes.now c.args.left in
    let own = sym c.is_star.ensures ∙ c.if-is_star.false in
    on_ok _ _ _ (two_counted go c.args.t.now (items_in c.args.rest.now) c.args.edges.now.entries c.in_ok-symbol.symbol c.arity.result c.in_ok-symbol.ensures own c.arity.ensures c.args.found.now.visited c.visit_one.new.found.visited c.visit_one-2.new.found.visited c.in_ok-visit_one.ensures.visited) c.visit_one-2.ensures.visited
