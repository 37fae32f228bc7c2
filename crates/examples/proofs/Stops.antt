-- The stop codes of specs/Stops.antt are what the definition gives: the checker computes each. Assumes nothing.
use Rattle.std.proofs.Common.{refl}
use lib.Ieee as Ieee
use Rattle.stop_code.specs.StopCode as Stops
use Rattle.examples.specs.Stops.{HingeStops, BallStops, OtherStops}

pub hinge_stops : HingeStops
unfolding Ieee.of_bits Ieee.neg Ieee.lt Ieee.eq Ieee.le Stops.is_pushing Stops.is_at_lower Stops.is_at_upper Stops.sum_stops Stops.revolute_stops Stops.stops_of
    Stops.stop_code
hinge_stops =
    record {
      lower = refl;
      lower_beyond = refl;
      upper = refl;
      upper_beyond = refl;
      at_lower = refl;
      at_upper = refl;
      between = refl;
      before_lower = refl;
      before_upper = refl;
      other_pushes = refl;
      switched_off = refl;
      fixed = refl;
      nan_impulse = refl;
      nan_twist = refl;
    }

pub ball_stops : BallStops
unfolding Ieee.of_bits Ieee.neg Ieee.lt Ieee.eq Ieee.le Stops.is_pushing Stops.is_at_lower Stops.is_at_upper Stops.sum_stops Stops.spherical_stops
    Stops.stops_of Stops.stop_code
ball_stops =
    record {
      lower = refl;
      upper = refl;
      cone = refl;
      upper_and_cone = refl;
      between = refl;
      before_cone = refl;
      twist_is_no_swing = refl;
      swing_is_no_twist = refl;
      cone_off = refl;
      twist_off = refl;
      both_off = refl;
      fixed = refl;
      nan_impulse = refl;
      nan_twist = refl;
      nan_swing = refl;
    }

pub other_stops : OtherStops
unfolding Stops.stops_of Stops.stop_code
other_stops = record { weld = refl; other = refl }
