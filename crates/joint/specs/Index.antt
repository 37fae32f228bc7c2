-- The bodies that a joint names by its two indices, and document 01's tests of these. Definitions only. Assumes nothing.
use Rattle.std.specs.Prelude.{Bool, true, false, cond, ℕ, zero, suc, leb, ℤ, pos, negsuc}
use Rattle.records.specs.declared.joint.JointUnion.{JointUnion}
use Rattle.records.specs.declared.joint.JointUnion.TheVariants.{Revolute, Spherical, Weld, Other}
use Rattle.records.specs.Body.{null_index}
use Rattle.joint.specs.declared.index.Indices.{Indices}

-- a joint's two indices, which stand in its kind's record; the empty case has none
abbrev pub index_a : JointUnion → ℤ
index_a (Revolute r) = r.index_a
index_a (Spherical r) = r.index_a
index_a (Weld r) = r.index_a
index_a Other = null_index

abbrev pub index_b : JointUnion → ℤ
index_b (Revolute r) = r.index_b
index_b (Spherical r) = r.index_b
index_b (Weld r) = r.index_b
index_b Other = null_index

abbrev pub indices_of : JointUnion → Indices
indices_of union = record { a = index_a union; b = index_b union }

-- 'index below -1, or at or above the body count'
abbrev pub bad_index : ℕ → ℤ → Bool
bad_index body_count (pos n) = leb body_count n
bad_index body_count (negsuc zero) = false
bad_index body_count (negsuc (suc n)) = true

-- the tests 2 and 3: the first cause that holds, or 0
abbrev pub index_cause : ℕ → JointUnion → ℕ
index_cause body_count union = cond (bad_index body_count (index_a union)) 2 (cond (bad_index body_count (index_b union)) 3 0)
