use Rattle.isa_terms.proofs.Ordered.{tm_total, tm_ties, tm_tied}
use Rattle.isa_terms.proofs.laws.term_order_is_total.Goals as goal

pub returns : goal.returns
returns c = record { total = tm_total; tells_apart = λ t u. (tm_ties t u, tm_tied t u) }
