-- The code has a union's case by its tag. Assumes nothing.
use mathlib.Core.Path.{◌≡◌, refl, ◌∙◌}
use mathlib.Core.Bool.{false, not}
use mathlib.Core.List.{List, [], ◌∷◌}
use Prim.Native.Nat.{ℕ}
use native.Mathlib.Omega.{arith}
use lib.Dec.{T, eqb}
use borrow.Author.Tests.{ne_eqb}
use mir.Val.{has_key}
use types.Run.{OneOf, miss}
use denote.Enum.Declared.{tag_of}
use Rattle.records.specs.contracts.joint.JointUnion.{the_type}
use Rattle.records.specs.declared.joint.JointUnion.{JointUnion}
use Rattle.records.specs.declared.joint.JointUnion.TheVariants.{Revolute, Spherical, Weld, Other}
use Rattle.records.specs.Joint.{case_of, is_revolute, is_spherical, is_weld}

-- a union's tag is the number of its case
pub tag_is : (u : JointUnion) → tag_of the_type u ≡ case_of u
tag_is (Revolute r) = refl
tag_is (Spherical r) = refl
tag_is (Weld r) = refl
tag_is Other = refl

-- a union whose tag is one of `keys` is not of a case that is none of them
pub not_of : (keys : List ℕ) (k : ℕ) (u : JointUnion) → T (not (has_key keys k)) → OneOf keys (tag_of the_type u) → eqb (case_of u) k ≡ false
not_of keys k u out h = ne_eqb (case_of u) k (λ e. miss keys k out (rw (← e, ← tag_is u) h))

-- a union with the tag of the empty case is the empty case
pub tag_other : (u : JointUnion) → tag_of the_type u ≡ 3 → u ≡ Other
tag_other (Revolute r) e = absurd (omega arith)
tag_other (Spherical r) e = absurd (omega arith)
tag_other (Weld r) e = absurd (omega arith)
tag_other Other e = refl

pub revolute_case : (u : JointUnion) → is_revolute u ≡ eqb (case_of u) 0
revolute_case (Revolute r) = refl
revolute_case (Spherical r) = refl
revolute_case (Weld r) = refl
revolute_case Other = refl

pub not_revolute : (u : JointUnion) → OneOf (1 ∷ 2 ∷ 3 ∷ []) (tag_of the_type u) → is_revolute u ≡ false
not_revolute u h = revolute_case u ∙ not_of (1 ∷ 2 ∷ 3 ∷ []) 0 u tt h

pub spherical_case : (u : JointUnion) → is_spherical u ≡ eqb (case_of u) 1
spherical_case (Revolute r) = refl
spherical_case (Spherical r) = refl
spherical_case (Weld r) = refl
spherical_case Other = refl

pub not_spherical : (u : JointUnion) → OneOf (0 ∷ 2 ∷ 3 ∷ []) (tag_of the_type u) → is_spherical u ≡ false
not_spherical u h = spherical_case u ∙ not_of (0 ∷ 2 ∷ 3 ∷ []) 1 u tt h

pub weld_case : (u : JointUnion) → is_weld u ≡ eqb (case_of u) 2
weld_case (Revolute r) = refl
weld_case (Spherical r) = refl
weld_case (Weld r) = refl
weld_case Other = refl

pub not_weld : (u : JointUnion) → OneOf (0 ∷ 1 ∷ 3 ∷ []) (tag_of the_type u) → is_weld u ≡ false
not_weld u h = weld_case u ∙ not_of (0 ∷ 1 ∷ 3 ∷ []) 2 u tt h
