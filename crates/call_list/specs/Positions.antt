-- Where a call's joint and its two bodies stand in the arrays of the run's loop. Definitions only. Assumes nothing.
use Rattle.std.specs.Prelude.{cond, List, [], ◌∷◌, ◌++◌, ℕ, eqb, ltb, ℤ, pos, negsuc}
use Rattle.records.specs.declared.body.BodyState.{BodyState}
use Rattle.records.specs.declared.joint.JointUnion.{JointUnion}
use Rattle.records.specs.declared.joint.JointUnion.TheVariants.{Revolute, Spherical, Weld, Other}
use Rattle.records.specs.Body.{identity_body_state}
use Rattle.joint.specs.Index.{index_a, index_b}
use Rattle.call_list.specs.declared.positions.Positions.{Positions}
use Rattle.call_list.specs.declared.positions.Work.{Work}
use Rattle.call_list.specs.declared.positions.Work.TheVariants.{RevoluteWarmStart, SphericalWarmStart, WeldWarmStart}
use Rattle.call_list.specs.declared.positions.Work.TheVariants.{RevoluteSolve, SphericalSolve, WeldSolve, Nothing}

-- a position among 32 bodies, or that of the identity state after them
abbrev pub body_position : ℤ → ℕ
body_position (pos n) = cond (ltb n 32) n 32
body_position (negsuc n) = 32

abbrev pub positions_of : JointUnion → Positions
positions_of union = record { at_a = body_position (index_a union); at_b = body_position (index_b union) }

-- the work past the last slot is none, where there is no joint
abbrev pub in_slot : ℕ → Work → Work
in_slot slot work = cond (ltb slot 32) work Nothing

-- which stage of which kind a call works
unfoldable pub work_of : ℕ → JointUnion → ℕ → Work
work_of slot (Revolute j) stage = in_slot slot (cond (eqb stage 0) RevoluteWarmStart RevoluteSolve)
work_of slot (Spherical j) stage = in_slot slot (cond (eqb stage 0) SphericalWarmStart SphericalSolve)
work_of slot (Weld j) stage = in_slot slot (cond (eqb stage 0) WeldWarmStart WeldSolve)
work_of slot Other stage = Nothing

-- a slot's position among 32 joints: 0 for one past them, whose calls work no joint
unfoldable pub joint_position : ℕ → ℕ
joint_position slot = cond (ltb slot 32) slot 0

-- the bodies, and the identity state after them
unfoldable pub with_identity : List BodyState → List BodyState
with_identity bodies = bodies ++ (identity_body_state ∷ [])
