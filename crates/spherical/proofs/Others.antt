-- A union that is at no joint of the case is of another case, as a `let .. else` has it. Assumes nothing.
use Rattle.std.proofs.Common.{◌≡◌, refl, false}
use Rattle.records.specs.declared.joint.SphericalJoint.{SphericalJoint}
use Rattle.records.specs.declared.joint.JointUnion.{JointUnion}
use Rattle.records.specs.declared.joint.JointUnion.TheVariants.{Revolute, Spherical, Weld, Other}
use Rattle.records.specs.Joint.{is_spherical}

pub not_spherical : (u : JointUnion) → ((j : SphericalJoint) → u ≡ Spherical j → ⊥) → is_spherical u ≡ false
not_spherical (Revolute r) h = refl
not_spherical (Spherical j) h = absurd (h j refl)
not_spherical (Weld w) h = refl
not_spherical Other h = refl
