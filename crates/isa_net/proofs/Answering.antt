-- What a look-up answers.
use Rattle.std.proofs.Common.{◌≡◌, ℕ, ◌+◌, ◌≤◌, Bool, List, [], ◌∷◌, length, sym, arith}
use Rattle.slab.specs.Slab.{Slab}
use Rattle.isa_terms.specs.Terms.{Tm}
use Rattle.isa_net.specs.declared.rank.Rank.{Rank}
use Rattle.isa_net.specs.declared.node.Node.{Node}
use Rattle.isa_net.specs.Words.{Along}
use Rattle.isa_net.specs.Inside.Trails.{trail, ranks_at}
use Rattle.isa_net.specs.Inside.Index.{In, AreGiven, AreCounted}
use Rattle.isa_net.proofs.Reached.{back}
use Rattle.isa_net.proofs.Indexed.{found_agrees, agreed_found}
use Rattle.isa_net.proofs.Counting.{visits_bounded}
use Rattle.isa_net.specs.declared.mode.Mode.{Mode}

pub are_given : (mode : Mode) (nodes : Slab Node) (root deep : ℕ) (t : Tm) (rs : List Rank) → rs ≡ ranks_at nodes (trail mode nodes deep root (Along t ∷ [])) → AreGiven mode nodes root deep t rs
are_given mode nodes root deep t rs e word_at pending x r = (
  λ h. (let a = found_agrees mode nodes root deep word_at pending x (Along t ∷ []) r (back (λ v. In r v) _ _ (sym e) h) in (a.word, (a.has, a.agrees))),
  λ g. back (λ v. In r v) _ _ e (agreed_found mode nodes root deep word_at pending x (Along t ∷ []) r (record { word = g.0; has = g.1.0; agrees = g.1.1 })),
)

pub are_counted : (mode : Mode) (nodes : Slab Node) (root deep : ℕ) (t : Tm) (before after : ℕ) → after ≤ before + length (trail mode nodes deep root (Along t ∷ [])) → AreCounted mode nodes root deep t before after
are_counted mode nodes root deep t before after h word_at ws x all = let b = visits_bounded mode nodes root deep word_at x ws all (Along t ∷ []) in omega (arith, b, h)
