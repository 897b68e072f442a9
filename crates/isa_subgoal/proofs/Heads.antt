-- A node that is no abstraction.
use Rattle.std.proofs.Common.{◌≡◌, ℕ, List, refl, subst}
use Rattle.isa_terms.specs.Types.{Ty}
use Rattle.isa_terms.specs.Terms.{Tm}
use Rattle.isa_terms.specs.Normal.{IsHead}
use Rattle.isa_terms.specs.TermLayers.{term_of}
use Rattle.isa_terms.specs.declared.term.TermNode.{TermNode}
use Rattle.isa_terms.specs.declared.term.TermNode.TheVariants.{Const, Free, Unknown, Bound, Abs, App}

pub head_of : (n : TermNode) (a : Tm) → term_of n ≡ a → ((x : List ℕ) (T : Ty) (b : Tm) → n ≡ Abs x T b → ⊥) → IsHead a
head_of (Const x T) a e h = subst IsHead e tt
head_of (Free x T) a e h = subst IsHead e tt
head_of (Unknown x i T) a e h = subst IsHead e tt
head_of (Bound i) a e h = subst IsHead e tt
head_of (App f c) a e h = subst IsHead e tt
head_of (Abs x T b) a e h = absurd (h x T b refl)
