-- The marks of specs/Marks.antt are what the definitions give: the checker computes each. Assumes nothing.
use Rattle.std.proofs.Common.{refl}
use Rattle.math_functions.specs.Matrix as Matrix
use Rattle.spherical.specs.Spherical as S
use Rattle.direct.specs.Direct as Direct
use Rattle.examples.specs.Marks.{ShownMarks}
use Rattle.examples.proofs.Computed.{computed}

pub shown_marks : ShownMarks
unfolding computed Matrix.invert_matrix_mark Matrix.solve2_mark Matrix.solve3_mark S.rotation_mass_mark Direct.cause Direct.direct_call
shown_marks =
    record {
      rest_solved = refl;
      rest_impulse = refl;
      flat_fell_back = refl;
      flat_impulse = refl;
      flat_speeds = (refl, refl);
      pushed_fell_back = refl;
      pushed_impulse = refl;
      let_go_fell_back = refl;
      let_go_impulse = refl;
      unmoved_solved = refl;
      unmoved_speeds = (refl, refl);
      apart_solved = refl;
      apart_by_two = refl;
      apart_speeds = (refl, refl);
      light_solved = refl;
      light_impulse = refl;
      light_speeds = (refl, refl);
      fixed_hinge = refl;
      fixed_hinge_speed = refl;
      free_hinge = refl;
      slim_hinge = refl;
      slim_hinge_speed = refl;
      ball_turns = refl;
      ball_fixed = refl;
      weld_turns = refl;
      weld_fixed = refl;
      no_inertia = refl;
      works_all_the_same = (refl, refl);
      work_impulse = refl;
    }
