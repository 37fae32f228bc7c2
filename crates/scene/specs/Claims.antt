-- What holds of every run of a call list on a scene, in document 01's words, and of still in C-20's. Statements only: each is proved in proofs/Proved.antt,
-- under the same name in small letters. Assumes nothing.
--
-- They are about the plain run. The program's run is the function `run_list` of the crate `call_list`, and its contract is that it answers the plain run,
-- number, place, still and the whole scene, for every scene and every list of bytes:
--
--     run_answer scene (run_list scene list) ≡ plain_run scene list
--
-- So each statement about `plain_run` is one about `run_list`.
use Rattle.std.specs.Prelude.{◌≡◌, ◌⊎◌, ◌≢◌, ◌↔◌, Bool, true, false, List, [], ◌∷◌, ◌++◌, ℕ, ◌+◌, ◌%◌, ◌^◌, ◌≤◌, ◌<◌, T, Float, ℤ, pos, negsuc, length}
use Rattle.std.specs.Float.{nan, binary32}
use Rattle.std.specs.Float.Ieee.{nan_bits}
use Rattle.math_functions.specs.declared.types.Vec3.{Vec3}
use Rattle.math_functions.specs.Float.{lit, two}
use Rattle.records.specs.declared.body.BodyState.{BodyState}
use Rattle.records.specs.declared.joint.JointSim.{JointSim}
use Rattle.records.specs.declared.joint.JointUnion.{JointUnion}
use Rattle.records.specs.declared.joint.JointUnion.TheVariants.{Revolute, Spherical, Weld, Other}
use Rattle.records.specs.Joint.{case_of, no_angles, joint_sim}
use Rattle.records.specs.Revolute as R
use Rattle.records.specs.Spherical as S
use Rattle.records.specs.Weld as W
use Rattle.constraint.specs.Claims.{NonNegative}
use Rattle.joint.specs.Index.{index_a, index_b}
use Rattle.scene.specs.declared.Scene.{Scene}
use Rattle.scene.specs.Scene.{joint_at, body_at, Dynamic, Names, ShareDynamic}
use Rattle.scene.specs.Calls.{Call, calls, Listed, SolveListed, only_of, only_of_two}
use Rattle.scene.specs.Plain.{Accepted, run_calls, plain_run}
use Rattle.scene.specs.Chain.{four, chain, first_then_second, second_then_first}

-- ==== Numbers and places

-- document 01's causes, by their numbers
abbrev pub Cause6 : Scene → Type 0
Cause6 s = (32 < s.body_count) ⊎ (32 < s.joint_count)

abbrev pub Cause7 : List ℕ → Type 0
Cause7 l = (length l % 2 ≡ 1) ⊎ (8192 < length l)

abbrev pub Cause4 : Scene → Call → Type 0
Cause4 s c = s.joint_count ≤ c.slot

abbrev pub Cause5 : Call → Type 0
Cause5 c = 2 < c.stage

abbrev pub Cause1 : Scene → Call → Type 0
Cause1 s c = (joint_at s c.slot).union_ ≡ Other

-- below -1, or at or above the count
abbrev pub OutOf : ℕ → ℤ → Type 0
OutOf count (pos n) = count ≤ n
OutOf count (negsuc n) = n ≢ 0

abbrev pub Cause2 : Scene → Call → Type 0
Cause2 s c = OutOf s.body_count (index_a (joint_at s c.slot).union_)

abbrev pub Cause3 : Scene → Call → Type 0
Cause3 s c = OutOf s.body_count (index_b (joint_at s c.slot).union_)

-- a test of a run: the number and the place that it answers, and its cause
pub record Test : Type 1 where
  pub number : ℕ
  pub place : ℕ
  pub cause : Type 0

abbrev pub test : ℕ → ℕ → Type 0 → Test
test number place cause = record { number = number; place = place; cause = cause }

-- the tests of the calls, in their order: of each call 4, 5, 1, 2, 3, at its position
abbrev pub call_tests : Scene → ℕ → List Call → List Test
call_tests s place [] = []
call_tests s place (c ∷ l) =
    test 4 place (Cause4 s c)
    ∷ test 5 place (Cause5 c)
    ∷ test 1 place (Cause1 s c)
    ∷ test 2 place (Cause2 s c)
    ∷ test 3 place (Cause3 s c)
    ∷ call_tests s (place + 1) l

-- the tests of a run, in their order: 6, 7, then the calls from the first on
abbrev pub tests : Scene → List ℕ → List Test
tests s l = test 6 0 (Cause6 s) ∷ test 7 0 (Cause7 l) ∷ call_tests s 0 (calls l)

-- no cause holds
abbrev pub NoCause : List Test → Type 0
NoCause [] = Unit {0}
NoCause (t ∷ ts) = ¬ t.cause × NoCause ts

-- the first test whose cause holds has this number and this place
abbrev pub FirstCause : List Test → ℕ → ℕ → Type 0
FirstCause [] number place = ⊥
FirstCause (t ∷ ts) number place =
    (t.cause × (number ≡ t.number) × (place ≡ t.place)) ⊎ (¬ t.cause × FirstCause ts number place)

-- A number other than 0 stands, with its place, exactly when its cause is the first that holds.
abbrev pub Numbers : Type 0
Numbers = (s : Scene) (l : List ℕ) (number place : ℕ) → number ≢ 0
    → (((plain_run s l).number ≡ number) × ((plain_run s l).place ≡ place)) ↔ FirstCause (tests s l) number place

-- Number 0 stands exactly when no cause holds, and its place is 0.
abbrev pub Acceptance : Type 0
Acceptance = (s : Scene) (l : List ℕ) → (((plain_run s l).number ≡ 0) ↔ NoCause (tests s l)) × ((plain_run s l).number ≡ 0 → (plain_run s l).place ≡ 0)

-- A list is accepted exactly where its run answers 0.
abbrev pub AcceptedIsZero : Type 0
AcceptedIsZero = (s : Scene) (l : List ℕ) → Accepted s l ↔ ((plain_run s l).number ≡ 0)

-- a number of 0 to 7; place 0 where no call is refused (0, 6, 7), and else the position of one of so many calls (1 to 5)
pub record InRange (call_count number place : ℕ) : Type 0 where
  pub number_bound : number ≤ 7
  pub place_zero : (number ≡ 0) ⊎ (6 ≤ number) → place ≡ 0
  pub place_bound : number ≢ 0 → number ≤ 5 → place < call_count

-- No number but 0 to 7 is answered, and no place but 0 and the calls' positions.
abbrev pub Range : Type 0
Range = (s : Scene) (l : List ℕ) → InRange (length (calls l)) (plain_run s l).number (plain_run s l).place

-- A refused run is not still and returns the scene unaltered.
abbrev pub Refusal : Type 0
Refusal = (s : Scene) (l : List ℕ) → (plain_run s l).number ≢ 0 → ((plain_run s l).still ≡ false) × ((plain_run s l).scene ≡ s)

-- No call can be refused midway: wherever an accepted list is cut, no cause of the next call holds in the scene that the calls before it left.
abbrev pub Midway : Type 0
Midway = (s : Scene) (l : List ℕ) → Accepted s l → (before : List Call) (c : Call) (after : List Call) → calls l ≡ before ++ (c ∷ after)
    → NoCause (call_tests (run_calls before s) (length before) (c ∷ []))

-- ==== Two lists, one after the other

-- 'Each call gets what the one before it left': of calls put together the second part is worked on what the first part left.
abbrev pub Chained : Type 0
Chained = (s : Scene) (a b : List Call) → run_calls (a ++ b) s ≡ run_calls b (run_calls a s)

-- two lists put together into one, which is accepted exactly where it is not too long, the first is accepted, and so is the second in the scene that the first
-- left; and then its scene is that of the second run
pub record OneAfterOther (s : Scene) (l₁ l₂ : List ℕ) : Type 0 where
  pub accepted : Accepted s (l₁ ++ l₂) ↔ ((length l₁ + length l₂ ≤ 8192) × Accepted s l₁ × Accepted (plain_run s l₁).scene l₂)
  pub scene : Accepted s (l₁ ++ l₂) → (plain_run s (l₁ ++ l₂)).scene ≡ (plain_run (plain_run s l₁).scene l₂).scene

-- So it is of every two lists, where the first is of even length, so that no call is cut in two.
abbrev pub ChainedLists : Type 0
ChainedLists = (s : Scene) (l₁ l₂ : List ℕ) → length l₁ % 2 ≡ 0 → OneAfterOther s l₁ l₂

-- ==== Still

abbrev pub both_velocities : BodyState → Vec3 × Vec3
both_velocities b = (b.linear_velocity, b.angular_velocity)

-- An accepted run is still exactly when every counted body has after it the velocities that it had before: -0 and +0 differ, and any two NaNs are the same.
abbrev pub Stillness : Type 0
Stillness = (s : Scene) (l : List ℕ) → Accepted s l
    → ((plain_run s l).still ≡ true) ↔ ((n : ℕ) → n < s.body_count → both_velocities (body_at (plain_run s l).scene n) ≡ both_velocities (body_at s n))

-- C-20: 'compares bits, with all NaNs equal to one another'. That is what ≡ says of the floats of two 32-bit patterns: the patterns are the same, or both are
-- a NaN's.
abbrev pub SameBits : Type 0
SameBits = (a b : ℕ) → a < 2 ^ 32 → b < 2 ^ 32 → (lit a ≡ lit b) ↔ ((a ≡ b) ⊎ (T (nan_bits binary32 a) × T (nan_bits binary32 b)))

-- An accepted run is still exactly when it leaves the state of every body as it was, counted or not: of a counted body only the velocities can change, and an
-- accepted list's joints name no other body.
abbrev pub StillKeepsBodies : Type 0
StillKeepsBodies = (s : Scene) (l : List ℕ) → Accepted s l → ((plain_run s l).still ≡ true) ↔ ((plain_run s l).scene.bodies ≡ s.bodies)

-- With no bodies an accepted run is still.
abbrev pub NoBodies : Type 0
NoBodies = (s : Scene) (l : List ℕ) → Accepted s l → s.body_count ≡ 0 → (plain_run s l).still ≡ true

-- The empty list is accepted exactly where 6 does not hold; it alters nothing, and where it is accepted it is still, whatever the velocities.
pub record OfEmpty (s : Scene) : Type 0 where
  pub accepted : ((plain_run s []).number ≡ 0) ↔ ¬ (Cause6 s)
  pub unaltered : (plain_run s []).scene ≡ s
  pub still : ¬ (Cause6 s) → (plain_run s []).still ≡ true

abbrev pub EmptyList : Type 0
EmptyList = (s : Scene) → OfEmpty s

-- ==== Order

-- Two accepted lists whose calls read the same when only one joint's are kept, whichever joint, and when only those of two joints that share a dynamic body are
-- kept, whichever two, give the same answer: number, place, still and the whole scene. Which joints share a dynamic body is read off the scene at the start.
-- Nothing more is asked of joints that share only a body that is not dynamic, or none (-1), of a joint with both indices on one body, or of joints that are
-- not listed.
abbrev pub Order : Type 0
Order = (s : Scene) (l₁ l₂ : List ℕ) → Accepted s l₁ → Accepted s l₂
    → ((j : ℕ) → only_of j (calls l₁) ≡ only_of j (calls l₂))
    → ((j k : ℕ) → j ≢ k → ShareDynamic s j k → only_of_two j k (calls l₁) ≡ only_of_two j k (calls l₂))
    → plain_run s l₁ ≡ plain_run s l₂

-- The same, asked of the counted slots alone.
abbrev pub OrderCounted : Type 0
OrderCounted = (s : Scene) (l₁ l₂ : List ℕ) → Accepted s l₁ → Accepted s l₂
    → ((j : ℕ) → j < s.joint_count → only_of j (calls l₁) ≡ only_of j (calls l₂))
    → ((j k : ℕ) → j < s.joint_count → k < s.joint_count → j ≢ k → ShareDynamic s j k → only_of_two j k (calls l₁) ≡ only_of_two j k (calls l₂))
    → plain_run s l₁ ≡ plain_run s l₂

-- ==== What may change

-- of a body only linear and angular velocity change
pub record OnlyVelocities (before after : BodyState) : Type 0 where
  pub delta_position : after.delta_position ≡ before.delta_position
  pub delta_rotation : after.delta_rotation ≡ before.delta_rotation
  pub flags : after.flags ≡ before.flags

-- a kind's record with what a solve writes set to zero: the impulses, and revolute's two perpendicular axes. Left are the settings, the switches among them,
-- the indices and what prepare made
abbrev pub record_settings : JointUnion → JointUnion
record_settings (Revolute r) = Revolute (R.with_written r R.nothing_written)
record_settings (Spherical r) = Spherical (S.with_written r S.nothing_written)
record_settings (Weld r) = Weld (W.with_written r W.nothing_written)
record_settings Other = Other

-- a joint with all that a solve writes taken out: what its kind's record has of it, and C-11's two angles
abbrev pub settings_of : JointSim → JointSim
settings_of joint = joint_sim joint.base (record_settings joint.union_) no_angles

-- of a joint nothing changes but what a solve writes: impulses, revolute's two perpendicular axes, and the two angles
pub record OnlyImpulses (before after : JointSim) : Type 0 where
  pub base : after.base ≡ before.base
  pub case : case_of after.union_ ≡ case_of before.union_
  pub index_a_lem : index_a after.union_ ≡ index_a before.union_
  pub index_b_lem : index_b after.union_ ≡ index_b before.union_
  pub settings : settings_of after ≡ settings_of before

-- `t` is `s` but for velocities of dynamic bodies that a listed joint names, and for what a solve writes of listed joints, the two angles with it
pub record OnlyChanges (s : Scene) (l : List Call) (t : Scene) : Type 0 where
  pub body_count : t.body_count ≡ s.body_count
  pub joint_count : t.joint_count ≡ s.joint_count
  pub context : t.context ≡ s.context
  pub as_many_bodies : length t.bodies ≡ length s.bodies
  pub as_many_joints : length t.joints ≡ length s.joints
  pub bodies : (n : ℕ) → OnlyVelocities (body_at s n) (body_at t n)
  pub joints : (j : ℕ) → OnlyImpulses (joint_at s j) (joint_at t j)
  -- a body that is not dynamic, or that no listed joint names, is kept whole
  pub body_kept : (n : ℕ) → ((j : ℕ) → Listed j l → Names s j n → ¬ (Dynamic s n)) → body_at t n ≡ body_at s n
  -- and so is a joint that is not listed, or only for warm starts
  pub joint_kept : (j : ℕ) → ¬ (SolveListed j l) → joint_at t j ≡ joint_at s j

-- Whatever the list, a run changes nothing else.
abbrev pub Changes : Type 0
Changes = (s : Scene) (l : List ℕ) → OnlyChanges s (calls l) (plain_run s l).scene

-- Nor does any list of calls, and so none that stands before a cut of an accepted list: 'kinds, indices, counts and flags stay as fed'.
abbrev pub ChangesMidway : Type 0
ChangesMidway = (s : Scene) (before : List Call) → OnlyChanges s before (run_calls before s)

-- ==== Limits

-- a joint's limits: their switches and impulses
pub record JointLimits : Type 0 where
  pub limit_on : Bool
  pub lower : Float
  pub upper : Float
  pub cone_on : Bool
  pub swing : Float

-- 'limits are revolute's limit and spherical's twist limit, each with a lower and an upper impulse, and spherical's cone, with the swing impulse'. A limit that
-- a joint does not have is off, and its impulses are no numbers
abbrev pub no_limits : JointLimits
no_limits = record { limit_on = false; lower = nan; upper = nan; cone_on = false; swing = nan }

abbrev pub limits_of : JointUnion → JointLimits
limits_of (Revolute r) = record { limit_on = r.enable_limit; lower = r.lower_impulse; upper = r.upper_impulse; cone_on = false; swing = nan }
limits_of (Spherical r) =
    record {
      limit_on = r.enable_twist_limit;
      lower = r.lower_twist_impulse;
      upper = r.upper_twist_impulse;
      cone_on = r.enable_cone_limit;
      swing = r.swing_impulse;
    }
limits_of (Weld r) = no_limits
limits_of Other = no_limits

-- of each limit that was enabled at the start, the impulses at the end are zero or positive, and no NaN
pub record LimitsNonNegative (start end : JointUnion) : Type 0 where
  pub lower : (limits_of start).limit_on ≡ true → NonNegative (limits_of end).lower
  pub upper : (limits_of start).limit_on ≡ true → NonNegative (limits_of end).upper
  pub swing : (limits_of start).cone_on ≡ true → NonNegative (limits_of end).swing

-- After every solve of an accepted list: wherever the list is cut after a solve, that solve's joint, if its rotation is not fixed, has its enabled limits'
-- impulses zero or positive, never a NaN. (The switches themselves stay, by Changes.)
abbrev pub LimitsAfterSolve : Type 0
LimitsAfterSolve = (s : Scene) (l : List ℕ) → Accepted s l → (before : List Call) (c : Call) (after : List Call) → calls l ≡ before ++ (c ∷ after)
    → c.stage ≢ 0 → (joint_at s c.slot).base.fixed_rotation ≡ false
    → LimitsNonNegative (joint_at s c.slot).union_ (joint_at (run_calls (before ++ (c ∷ [])) s) c.slot).union_

-- And from then on: after any calls each joint of which a solve stands among them, and whose rotation is not fixed, has them so.
abbrev pub LimitsMidway : Type 0
LimitsMidway = (s : Scene) (before : List Call) (j : ℕ) → SolveListed j before → (joint_at s j).base.fixed_rotation ≡ false
    → LimitsNonNegative (joint_at s j).union_ (joint_at (run_calls before s) j).union_

-- And so at the end of every accepted list: each joint of which a solve stands in it.
abbrev pub Limits : Type 0
Limits = (s : Scene) (l : List ℕ) → Accepted s l → (j : ℕ) → SolveListed j (calls l) → (joint_at s j).base.fixed_rotation ≡ false
    → LimitsNonNegative (joint_at s j).union_ (joint_at (plain_run s l).scene j).union_

-- ==== Two examples

-- the velocity of a body along x once a list has run on the chain of Chain.antt
abbrev pub end_x : ℕ → List ℕ → ℕ → Float
end_x flags l n = (body_at (plain_run (chain flags) l).scene n).linear_velocity.x

-- Two joints that share a dynamic body, solved in both orders: both lists are accepted and read the same at every one joint, and they end differently. So the
-- second hypothesis of Order is needed.
pub record Differ : Type 0 where
  pub accepted_one : Accepted (chain 0x1000) first_then_second
  pub accepted_other : Accepted (chain 0x1000) second_then_first
  pub shared : ShareDynamic (chain 0x1000) 0 1
  pub each_alike : (j : ℕ) → only_of j (calls first_then_second) ≡ only_of j (calls second_then_first)
  pub one_ends : end_x 0x1000 first_then_second 0 ≡ two
  pub other_ends : end_x 0x1000 second_then_first 0 ≡ four
  pub not_alike : plain_run (chain 0x1000) first_then_second ≢ plain_run (chain 0x1000) second_then_first

-- The same joints with a body between them that is not dynamic: both orders end alike, and both ends of the chain have moved.
pub record Agree : Type 0 where
  pub accepted_one : Accepted (chain 0) first_then_second
  pub accepted_other : Accepted (chain 0) second_then_first
  pub shared : Names (chain 0) 0 1 × Names (chain 0) 1 1
  pub not_dynamic : ¬ (Dynamic (chain 0) 1)
  pub first_moved : end_x 0 first_then_second 0 ≡ two
  pub last_moved : end_x 0 first_then_second 2 ≡ four
  pub alike : plain_run (chain 0) first_then_second ≡ plain_run (chain 0) second_then_first
