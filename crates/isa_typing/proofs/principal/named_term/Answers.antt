use Rattle.std.proofs.Common.{◌≡◌, length, ◌∙◌, subst}
use Rattle.isa_typing.specs.Found.{found_in}
use Rattle.isa_typing.specs.Indexes.{IndexesEntries}
use Rattle.isa_typing.specs.Naming.{entries_for}
use Rattle.isa_typing.proofs.Meant.{named_parts}
use Rattle.isa_typing.proofs.principal.named_term.Goals as goal

pub returns : goal.returns
returns c =
    let Us = c.in_ok-unknowns.unknowns in
    let names = c.in_ok-names.names in
    let es = c.in_ok-entries.entries.items in
    let F = found_in c.in_ok-index.index.entries in
    let all : length names ≡ length Us = c.in_ok-names.ensures.count ∙ c.len.ensures in
    let made : es ≡ entries_for Us names = c.in_ok-entries.ensures ∙ (λ i. entries_for (c.as_slice.ensures i) (c.as_slice-2.ensures i)) in
    named_parts c.args.taken c.args.solved c.in_ok-named.named c.in_ok-term.term Us names es F c.in_ok-unknowns.ensures c.in_ok-names.ensures.new all made (subst (IndexesEntries F) c.as_slice-3.ensures.value c.in_ok-index.ensures) c.in_ok-named.ensures c.in_ok-term.ensures
