-- The figures of the captions' false sentences are what the definitions give. Assumes nothing.
use Rattle.std.proofs.Common.{refl}
use lib.Ieee.{is_nan}
use Rattle.stop_code.specs.StopCode as Stops
use Rattle.scene.specs.Plain as Plain
use Rattle.scene.specs.Chain.{chain}
use Rattle.examples.specs.Captions.{Shown}
use Rattle.examples.proofs.Computed.{computed}

-- the checker computes each
pub shown : Shown
unfolding computed is_nan Plain.cause Plain.early_cause Plain.verdict Plain.step Plain.same_float Plain.same_velocities Plain.is_still Plain.plain_run chain
    Stops.is_pushing Stops.is_at_lower Stops.is_at_upper Stops.sum_stops Stops.revolute_stops Stops.spherical_stops Stops.stops_of Stops.stop_code
shown =
    record {
      pushes_early = refl;
      code_early = refl;
      beyond = (refl, refl);
      code_beyond = refl;
      at_stop = (refl, refl);
      code_at_stop = refl;
      code_left = refl;
      found_half_round = refl;
      code_found = refl;
      push_kept = refl;
      code_prepared = refl;
      pulls_midway = refl;
      pushes_at_the_end = refl;
      zero_push = (refl, refl);
      no_speed = refl;
      one_order = (refl, refl);
      other_order = (refl, refl);
      refused = (refl, refl);
      not_begun = refl;
      nan_accepted = refl;
      nan_speeds = (refl, refl);
      still_pushed = refl;
      kept_speeds = (refl, refl);
      stored_impulse = refl;
      flies_on = refl;
      still_flying = (refl, refl);
      gone = (refl, refl);
      still_and_back = refl;
      come_back = (refl, refl);
      minus_zero = refl;
      plus_zero = refl;
      zero_not_still = (refl, refl);
      still_nan = (refl, refl);
      empty_refused = (refl, refl);
      long_step = refl;
      short_step = refl;
      rest_accepted = refl;
      rest_unchanged = refl;
    }
