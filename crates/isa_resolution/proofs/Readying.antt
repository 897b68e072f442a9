-- The inference that brings a rule into normal form.
use Rattle.std.proofs.Common.{◌≡◌, [], Some, refl, sym, ap, ◌∙◌}
use Rattle.isa_terms.specs.Norm.{norm}
use Rattle.isa_kernel.specs.Theorem.{Theorem}
use Rattle.isa_kernel.specs.Inferences.{instantiated}
use Rattle.isa_subgoal.proofs.Instancing.{empty_tm, instantiated_is}
use Rattle.isa_resolution.specs.Ready.{normal}

pub normal_is : (th : Theorem) → th.hyps ≡ [] → instantiated (record { types = []; terms = [] }) th ≡ Some (normal th)
normal_is th h = (λ i. instantiated (record { types = []; terms = [] }) (record { hyps = h i; prop = th.prop; base = th.base })) ∙ instantiated_is (record { types = []; terms = [] }) th.prop th.base refl ∙ ap (λ t. Some (record { hyps = []; prop = norm t; base = th.base })) (empty_tm th.prop)
