-- Which case a joint is, the two angles of its limits, a joint after a solve, and a joint that is not in use. Definitions only. Assumes nothing.
use Rattle.std.specs.Prelude.{◌≡◌, Bool, true, false, ℕ, Float, Result, Ok, Err, Option, None, Some}
use Rattle.std.specs.Float.{nan}
use Rattle.records.specs.declared.joint.RevoluteJoint.{RevoluteJoint}
use Rattle.records.specs.declared.joint.SphericalJoint.{SphericalJoint}
use Rattle.records.specs.declared.joint.WeldJoint.{WeldJoint}
use Rattle.records.specs.declared.joint.JointBase.{JointBase}
use Rattle.records.specs.declared.joint.JointUnion.{JointUnion}
use Rattle.records.specs.declared.joint.JointUnion.TheVariants.{Revolute, Spherical, Weld, Other}
use Rattle.records.specs.declared.joint.LimitAngles.{LimitAngles}
use Rattle.records.specs.declared.joint.JointSim.{JointSim}
use Rattle.records.specs.declared.refusal.WrongKind.{WrongKind}
use Rattle.records.specs.Base.{default_base}

-- which case a joint is
abbrev pub case_of : JointUnion → ℕ
case_of (Revolute r) = 0
case_of (Spherical r) = 1
case_of (Weld r) = 2
case_of Other = 3

-- the record of a kind, where the joint is of that kind (the Rust panics where it is not)
abbrev pub as_revolute : JointUnion → Option RevoluteJoint
as_revolute (Revolute r) = Some r
as_revolute (Spherical r) = None
as_revolute (Weld r) = None
as_revolute Other = None

abbrev pub as_spherical : JointUnion → Option SphericalJoint
as_spherical (Revolute r) = None
as_spherical (Spherical r) = Some r
as_spherical (Weld r) = None
as_spherical Other = None

abbrev pub as_weld : JointUnion → Option WeldJoint
as_weld (Revolute r) = None
as_weld (Spherical r) = None
as_weld (Weld r) = Some r
as_weld Other = None

-- what is done with the record of a kind, and what is answered where the joint is of another
abbrev pub of_kind : {K A : Type 0} → Option K → A → (K → A) → A
of_kind None other done = other
of_kind (Some joint) other done = done joint

-- what a joint's case is opened as: the record of the kind, or a refusal where the case is another
abbrev pub Opened : {K : Type 0} → Option K → Result K WrongKind → Type 0
Opened found (Ok joint) = found ≡ Some joint
Opened found (Err w) = found ≡ None

abbrev pub is_some : {K : Type 0} → Option K → Bool
is_some None = false
is_some (Some r) = true

-- is the joint of that kind?
abbrev pub is_revolute : JointUnion → Bool
is_revolute u = is_some (as_revolute u)

abbrev pub is_spherical : JointUnion → Bool
is_spherical u = is_some (as_spherical u)

abbrev pub is_weld : JointUnion → Bool
is_weld u = is_some (as_weld u)

-- the case is not one of the three
abbrev pub is_other : JointUnion → Bool
is_other (Revolute r) = false
is_other (Spherical r) = false
is_other (Weld r) = false
is_other Other = true

-- ---- C-11's two angles: 'the joint record gains two angles, twist and swing, beside the Rust's fields'

abbrev pub limit_angles : Float → Float → LimitAngles
limit_angles twist swing = record { twist = twist; swing = swing }

-- what prepare stores, and a solve that works no limit row, and what a joint that is not in use holds
abbrev pub no_angles : LimitAngles
no_angles = limit_angles nan nan

-- ---- a joint, put together here and nowhere else

abbrev pub joint_sim : JointBase → JointUnion → LimitAngles → JointSim
joint_sim base union angles = record { base = base; union_ = union; angles = angles }

-- the joint once a solve has left this record of its kind and stored these angles: all else stays as it was. (A warm start leaves the joint whole.)
abbrev pub after_solve : JointSim → JointUnion → LimitAngles → JointSim
after_solve joint union angles = joint_sim joint.base union angles

-- the Rust's default, with the empty case; C-11: 'an unused joint holds NaN'
abbrev pub unused_joint : JointSim
unused_joint = joint_sim default_base Other no_angles
