use Rattle.std.proofs.Common.{◌≡◌, sym}
use Rattle.isa_net.specs.Inside.Holding.{Holds, Extends, word_in}
use Rattle.isa_net.proofs.Reached.{back}
use Rattle.isa_net.proofs.Netting.{shrinks_by, none_in, empty_is}
use Rattle.isa_net.proofs.net.Net.remove.Goals as goal

pub invariant_of-self-2 : goal.invariant_of-self-2
invariant_of-self-2 g c =
    let x = c.remove-2.ensures (word_in c.self.inside.entries.entries) (word_in c.remove.new.self.entries) c.self.invariant (back (λ w. Extends (word_in c.remove.new.self.entries) (word_in c.self.inside.entries.entries) c.args.rank w) _ _ c.word.ensures (shrinks_by c.self.inside.entries c.remove.new.self c.args.rank c.in_ok-held.held c.in_ok-held.ensures.value c.remove.ensures.updates)) in
    let m = c.is_empty.ensures in
    c.clear_if.ensures (word_in c.remove.new.self.entries) (λ t. none_in c.remove.new.self.entries (empty_is c.remove.new.self.entries (m.0 t))) x
