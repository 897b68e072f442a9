use Rattle.std.proofs.Common.{◌≡◌, drop, ap, add-one}
use Rattle.std.specs.Prelude.{IsSome}
use Rattle.isa_net.specs.Nets.{AreThere, entry_at}
use Rattle.isa_net.proofs.Reached.{back}
use Rattle.isa_net.proofs.Netting.{drop_all}
use Rattle.isa_net.proofs.cursor.Cursor.next.Goals as goal

pub returns-clause-left : goal.returns-clause-left
returns-clause-left g c =
    let e : drop c.self.inside.next c.self.inside.ranks.items ≡ c.args.self.now = cc in
    let a : AreThere c.args.net.now (drop c.self.inside.next c.self.inside.ranks.items) = back (λ rs. AreThere c.args.net.now rs) _ _ e c.requires in
    back (λ rs. AreThere c.args.net.now rs) _ _ (ap (λ m. drop m c.self.inside.ranks.items) (add-one c.self.inside.next)) (drop_all (λ r. IsSome (entry_at c.args.net.now r)) c.self.inside.ranks.items c.self.inside.next a)
