use Rattle.std.proofs.Common.{◌≡◌, List, [], ◌∷◌, sym, ◌∙◌, ap, subst}
use Rattle.isa_seq.specs.Meaning.{AreSound}
use Rattle.isa_seq.specs.Results.{primitives}
use Rattle.isa_seq.proofs.Moves.{IfOk-map}
use Rattle.isa_seq_states.specs.Introductions.{rule_primitives}
use Rattle.isa_seq.specs.Tactics.{trace}
use Rattle.isa_seq.specs.declared.tac.TacNode.{TacNode}
use Rattle.isa_kernel.specs.Theorem.{Theorem, AreDerived}
use Rattle.isa_seq_states.proofs.Answered.{answered, rules_sound, searched}
use Rattle.isa_seq_states.proofs.searching.depth_first.Goals as goal

pub returns-clause-follows : goal.returns-clause-follows
returns-clause-follows c =
    let t = c.in_ok-search.search.node.value in
    let given = c.in_ok-machine.ensures.given in
    let derived : AreDerived c.args.rules = subst (λ (rules : List Theorem). AreDerived rules) c.as_slice.ensures c.are_derived.ensures in
    let used : primitives t ≡ c.args.rules ∷ [] = ap primitives c.in_ok-search.ensures ∙ ap primitives c.in_ok-introduction.ensures in
    IfOk-map c.ask.result _ _
    (c.ask.ensures.leads t c.args.state.now (record { seen = given.seen; passed = given.passed }) (record {
      state = record { standing = c.is_standing.ensures; normal = c.is_normal.ensures };
      all = subst (λ ps. AreSound rule_primitives ps) (sym used) (λ p m. rules_sound c.args.rules p derived m);
    }))
    (λ a h. answered t c.args.rules c.args.state.now a used h)

pub returns-clause-answer : goal.returns-clause-answer
unfolding trace
returns-clause-answer c =
    let t = c.in_ok-search.search.node.value in
    let u = c.in_ok-introduction.introduction.node.value in
    let same = ap (λ (n : TacNode (List Theorem)). trace rule_primitives n c.args.state.now 1) c.in_ok-search.ensures in
    IfOk-map c.ask.result _ _
    (c.ask.ensures.place (trace rule_primitives t c.args.state.now 1) 0 c.in_ok-machine.ensures.given)
    (λ a h. searched c.args.rules c.args.state.now c.args.budget u t a same c.in_ok-introduction.ensures h.answers)
