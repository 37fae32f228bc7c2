-- solver/mod.rs: soft constraint coefficients, and the step context. Definitions only. Assumes nothing.
use Rattle.std.specs.Prelude.{Bool, false, cond, Float, pos}
use Rattle.math_functions.specs.Float.{◌⊕◌, ◌⊗◌, ◌⊘◌, eq, zero, one, two, pi}
use Rattle.solver.specs.declared.Softness.{Softness}
use Rattle.solver.specs.declared.StepContext.{StepContext}

abbrev pub softness : Float → Float → Float → Softness
softness bias_rate mass_scale impulse_scale = record { bias_rate = bias_rate; mass_scale = mass_scale; impulse_scale = impulse_scale }

abbrev pub no_softness : Softness
no_softness = softness zero zero zero

-- document 01's `make_soft`: zeros for hertz 0.0
unfoldable pub make_soft : Float → Float → Float → Softness
make_soft hertz zeta h =
    let omega = two ⊗ pi ⊗ hertz in
    let a1 = two ⊗ zeta ⊕ h ⊗ omega in
    let a2 = h ⊗ omega ⊗ a1 in
    let a3 = one ⊘ (one ⊕ a2) in
    cond (eq hertz zero) no_softness (softness (omega ⊘ a1) (a2 ⊗ a3) a3)

-- the Rust's default of StepContext, but for the sub-step, its inverse and the switch of warm starting: of a context the stages read no more
abbrev pub context_with : Float → Float → Bool → StepContext
context_with h inv_h enable_warm_starting =
    record {
      dt = zero;
      inv_dt = zero;
      h = h;
      inv_h = inv_h;
      sub_step_count = pos 0;
      contact_softness = no_softness;
      static_softness = no_softness;
      restitution_threshold = zero;
      max_linear_velocity = zero;
      contact_speed = zero;
      enable_warm_starting = enable_warm_starting;
    }

abbrev pub default_context : StepContext
default_context = context_with zero zero false
