use Rattle.std.proofs.Common.{◌≡◌, Option, None, sym, ap, ◌∙◌}
use Rattle.std.specs.Prelude.{option_map}
use Rattle.std.specs.BTreeMap.{get}
use Rattle.isa_net.specs.Words.{word}
use Rattle.isa_net.specs.Nets.{rank_cmp}
use Rattle.isa_net.specs.Inside.Holding.{Holds, Extends, word_in}
use Rattle.isa_net.proofs.Reached.{back}
use Rattle.isa_net.proofs.Netting.{extends_by, added, extends_added, unchanged_holds}
use Rattle.isa_net.proofs.net.Net.insert.Goals as goal

pub invariant_of-self-in-Ok-insert : goal.invariant_of-self-in-Ok-insert
invariant_of-self-in-Ok-insert g c =
    let e : c.self.inside.entries.entries ≡ c.args.self.now = cc in
    let free : get rank_cmp c.self.inside.entries c.args.rank ≡ None = rw e c.requires in
    c.in-Ok.ensures.ok (word_in c.self.inside.entries.entries) (word_in c.insert-in-Ok.new.self.entries) c.self.invariant (back (λ w. Extends (word_in c.self.inside.entries.entries) (word_in c.insert-in-Ok.new.self.entries) c.args.rank w) _ _ c.word.ensures (extends_by c.self.inside.entries c.insert-in-Ok.new.self c.args.rank c.in_ok-held.held free c.in-Ok-insert.ensures.updates))

pub invariant_of-self-in-Err-insert : goal.invariant_of-self-in-Err-insert
invariant_of-self-in-Err-insert g c =
    let e : c.self.inside.entries.entries ≡ c.args.self.now = cc in
    let free : get rank_cmp c.self.inside.entries c.args.rank ≡ None = rw e c.requires in
    let gone : word_in c.self.inside.entries.entries c.args.rank ≡ None = ap (λ (o : Option _). option_map (λ e. word e.key) o) free in
    let r = c.in-Err-insert.ensures.value_returned in
    let rank : c.in-Err-insert.failed.value.0 ≡ c.args.rank = ap (λ v. v.0) r in
    let spelled : c.word-in-Err-insert.result.now ≡ c.word.result.now = c.word-in-Err-insert.ensures ∙ ap (λ v. word v.1.key) r ∙ sym c.word.ensures in
    let old = word_in c.self.inside.entries.entries in
    let more = added old c.args.rank c.word.result.now in
    let x = extends_added old c.args.rank c.word.result.now gone in
    let y = back (λ w. Extends old more c.args.rank w) _ _ spelled x in
    let z = back (λ q. Extends old more q c.word-in-Err-insert.result.now) _ _ rank y in
    let h = c.remove.ensures more old (c.in-Ok.ensures.ok old more c.self.invariant x) z in
    unchanged_holds c.remove.new.self c.self.inside.entries.entries c.insert-in-Ok.new.self.entries c.in-Err-insert.ensures.err h
