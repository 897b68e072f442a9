-- A theorem whose binders get other names keeps its hypotheses and its base.
use Rattle.std.proofs.Common.{◌≡◌, List, [], ◌∷◌, cond, Some, None, refl, sym, ap}
use Rattle.isa_terms.specs.Terms.{Tm, bare}
use Rattle.isa_terms.specs.Equal.{tm_eq}
use Rattle.isa_terms.proofs.Bare.{tm_decides}
use Rattle.isa_terms.proofs.Functions.{cond_some}
use Rattle.isa_kernel.specs.declared.base.BaseEntry.{BaseEntry}
use Rattle.isa_kernel.specs.Axioms.{joined_bases}
use Rattle.isa_kernel.specs.Theorem.{Theorem}
use Rattle.isa_kernel.specs.Derived.{renamed}

pub bases_none : (B : List BaseEntry) → joined_bases [] B ≡ B
bases_none [] = refl
bases_none (e ∷ es) = ap (λ xs. e ∷ xs) (bases_none es)

pub renamed_is : (p : Tm) (th x : Theorem) → renamed p th ≡ Some x → x ≡ record { hyps = th.hyps; prop = p; base = th.base }
renamed_is p th x e =
    let c = cond_some (tm_eq p th.prop) _ e in
    let q : record { hyps = th.hyps; prop = p; base = th.base } ≡ x = cc (c.1) in
    sym q

-- to a proposition that equals its own but for the names of binders
pub renamed_same : (w p : Tm) (H : List Tm) (B : List BaseEntry) → bare w ≡ bare p → renamed w (record { hyps = H; prop = p; base = B }) ≡ Some (record { hyps = H; prop = w; base = B })
renamed_same w p H B e = ap (λ b. cond b (Some (record { hyps = H; prop = w; base = B })) None) ((tm_decides w p).1 e)
