-- The claims of specs/Claims.antt, proved, each under its statement's name in small letters, and what a number of rows is at most. Assumes nothing.
use mathlib.Core.Path.{◌≡◌, refl}
use mathlib.Core.Bool.{Bool, true, false, not}
use Prim.Native.Nat.{ℕ, ◌+◌, ◌≤◌}
use native.Mathlib.Omega.{arith}
use Rattle.records.specs.declared.joint.JointUnion.{JointUnion}
use Rattle.records.specs.declared.joint.JointUnion.TheVariants.{Revolute, Spherical, Weld, Other}
use Rattle.constraint.specs.Angular.{is_worked}
use Rattle.row_count.specs.Rows.{rows_if, sum_rows}
use Rattle.row_count.specs.Revolute as R
use Rattle.row_count.specs.Spherical as S
use Rattle.row_count.specs.Weld as W
use Rattle.row_count.specs.RowCount.{rows_of_case}
use Rattle.row_count.specs.Claims.{count_if_on, Between, RowsNamed, RowsBounded}

pub if_at_most : (worked : Bool) (n : ℕ) → rows_if worked n ≤ n
unfolding rows_if
if_at_most true n = omega arith
if_at_most false n = omega arith

pub of_at_most : (worked : Bool) (n : ℕ) {r : ℕ} → r ≡ rows_if worked n → r ≤ n
of_at_most worked n e = rw e (if_at_most worked n)

sum_between : (spring motor limits perp_or_cone : Bool) → Between (sum_rows spring motor limits perp_or_cone) 6
unfolding sum_rows
sum_between spring motor limits perp_or_cone =
    let a = if_at_most spring 1 in
    let b = if_at_most motor 1 in
    let c = if_at_most limits 2 in
    let d = if_at_most perp_or_cone 1 in
    record { at_least = omega arith; at_most = omega (arith, a, b, c, d) }

-- where a row's switch is `switch` and rotation is not fixed, or is
free_row : (switch : Bool) (n : ℕ) → rows_if (is_worked switch false) n ≡ count_if_on switch n
unfolding rows_if is_worked
free_row true n = refl
free_row false n = refl

fixed_row : (switch : Bool) (n : ℕ) → rows_if (is_worked switch true) n ≡ 0
unfolding rows_if is_worked
fixed_row true n = refl
fixed_row false n = refl

free_rows : (spring motor limits : Bool) (perp_or_cone : Bool) {n : ℕ} → rows_if perp_or_cone 1 ≡ n
    → sum_rows (is_worked spring false) (is_worked motor false) (is_worked limits false) perp_or_cone
    ≡ count_if_on spring 1 + count_if_on motor 1 + count_if_on limits 2 + n + 1
unfolding sum_rows
free_rows spring motor limits perp_or_cone e = rw (free_row spring 1, free_row motor 1, free_row limits 2, e)

fixed_rows : (spring motor limits : Bool) (perp_or_cone : Bool) → rows_if perp_or_cone 1 ≡ 0
    → sum_rows (is_worked spring true) (is_worked motor true) (is_worked limits true) perp_or_cone ≡ 1
unfolding sum_rows
fixed_rows spring motor limits perp_or_cone e = rw (fixed_row spring 1, fixed_row motor 1, fixed_row limits 2, e)

pub rows_named : RowsNamed
unfolding rows_of_case R.count_rows S.count_rows W.count_rows rows_if
rows_named joint =
    record {
      revolute = λ r is. record {
        free = λ e. rw (is, e) (free_rows r.enable_spring r.enable_motor r.enable_limit true refl);
        fixed = λ e. rw (is, e) (fixed_rows r.enable_spring r.enable_motor r.enable_limit false refl);
      };
      spherical = λ r is. record {
        free = λ e. rw (is, e)
            (free_rows r.enable_spring r.enable_motor r.enable_twist_limit (is_worked r.enable_cone_limit false)
            (free_row r.enable_cone_limit 1));
        fixed = λ e. rw (is, e)
            (fixed_rows r.enable_spring r.enable_motor r.enable_twist_limit (is_worked r.enable_cone_limit true)
            (fixed_row r.enable_cone_limit 1));
      };
      weld = λ w is. record { free = λ e. rw (is, e); fixed = λ e. rw (is, e) };
      empty = λ is. rw is;
    }

-- ---- at most and at least

in_at_most : (fixed_rotation : Bool) (u : JointUnion) → rows_of_case fixed_rotation u ≤ 6
unfolding rows_of_case R.count_rows S.count_rows W.count_rows
in_at_most fixed_rotation (Revolute r) = (sum_between _ _ _ _).at_most
in_at_most fixed_rotation (Spherical r) = (sum_between _ _ _ _).at_most
in_at_most fixed_rotation (Weld w) = omega (arith, if_at_most (not fixed_rotation) 1)
in_at_most fixed_rotation Other = omega arith

pub rows_bounded : RowsBounded
unfolding rows_of_case R.count_rows S.count_rows W.count_rows
rows_bounded joint =
    let fixed_rotation = joint.base.fixed_rotation in
    record {
      revolute = λ r is. rw is (sum_between _ _ _ _);
      spherical = λ r is. rw is (sum_between _ _ _ _);
      weld = λ w is. rw is (record { at_least = omega arith; at_most = omega (arith, if_at_most (not fixed_rotation) 1) });
      any = in_at_most fixed_rotation joint.union_;
    }
