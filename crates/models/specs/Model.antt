-- The models' step. Definitions only. Assumes nothing.
use Rattle.std.specs.Prelude.{true, pos}
use Rattle.solver.specs.declared.StepContext.{StepContext}
use Rattle.math_functions.specs.Float.{one}
use Rattle.math_functions.specs.Constants.{decimal}
use Rattle.solver.specs.Solver.{no_softness}

-- STEP: 1/64 s in four sub-steps
abbrev pub step : StepContext
step =
    record {
      dt = decimal 15625 6;
      inv_dt = decimal 64 0;
      h = decimal 390625 8;
      inv_h = decimal 256 0;
      sub_step_count = pos 4;
      contact_softness = no_softness;
      static_softness = no_softness;
      restitution_threshold = one;
      max_linear_velocity = decimal 400 0;
      contact_speed = decimal 3 0;
      enable_warm_starting = true;
    }
