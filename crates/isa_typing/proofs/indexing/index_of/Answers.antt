use Rattle.std.proofs.Common.{◌≡◌, ◌+◌, [], ◌∷◌, ◌++◌, take, sym, ap, ◌∙◌, subst}
use Rattle.std.proofs.lemmas.List.{take_more}
use Rattle.isa_typing.specs.Found.{found_in}
use Rattle.isa_typing.specs.Indexes.{IndexesEntries}
use Rattle.isa_typing.proofs.Indexed.{first_put}
use Rattle.isa_typing.proofs.indexing.index_of.Goals as goal

pub loop-entry-preserved : goal.loop-entry-preserved
loop-entry-preserved c =
    let i = c.loop-entry.entry-index in
    let all = c.args.entries.now in
    let e = c.entry-item.result in
    let more : take (i + 1) all ≡ take i all ++ e ∷ [] = take_more all i e c.loop-entry-test.true ∙ ap (λ z. take i all ++ z ∷ []) (sym c.entry-item.is) in
    subst (IndexesEntries (found_in c.put_first.new.index.entries)) (sym more) (first_put (found_in c.loop-entry.index.entries) (found_in c.put_first.new.index.entries) (take i all) e c.loop-entry.invariant c.in_ok-put_first.ensures)
