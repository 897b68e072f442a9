-- The inference that brings a theorem into normal form.
use Rattle.std.specs.Prelude.{not}
use Rattle.std.proofs.Common.{◌≡◌, List, [], ◌∷◌, ◌&&◌, Some, refl, sym, ap, ◌∙◌}
use Rattle.isa_terms.specs.Terms.{Tm}
use Rattle.isa_terms.specs.Norm.{norm}
use Rattle.isa_terms.specs.Normal.{IsNormal}
use Rattle.isa_terms.specs.Instance.{inst_tm, instance_of, in_tms}
use Rattle.isa_terms.proofs.NormalForms.{norm_same}
use Rattle.isa_terms.proofs.Functions.{cond_some}
use Rattle.isa_kernel.specs.Theorem.{Theorem}
use Rattle.isa_kernel.specs.Inferences.{keeps, instantiated}
use Rattle.isa_subgoal.proofs.Instancing.{empty_tm}
use Rattle.isa_simprules.specs.Roles.{normal}

pub normal_stays : (th : Theorem) → IsNormal th.prop → th ≡ normal th
normal_stays th h = λ i. record { hyps = th.hyps; prop = sym (norm_same th.prop h) i; base = th.base }

pub normal_made : (th made : Theorem) → instantiated (record { types = []; terms = [] }) th ≡ Some made → made ≡ normal th
normal_made th made e =
    let c = cond_some (keeps [] [] && not (in_tms [] [] th.hyps)) _ e in
    let q : record { hyps = th.hyps; prop = instance_of (record { types = []; terms = [] }) th.prop; base = th.base } ≡ made = cc (c.1) in
    sym q ∙ ap (λ t. record { hyps = th.hyps; prop = norm t; base = th.base }) (empty_tm th.prop)
