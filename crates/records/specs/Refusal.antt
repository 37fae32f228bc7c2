-- Document 01's numbers of the causes for which a call is refused. Definitions only. Assumes nothing.
use Rattle.std.specs.Prelude.{◌≡◌, ℕ, Result, Ok, Err, ⊤}
use Rattle.records.specs.declared.refusal.WrongKind.{WrongKind}
use Rattle.records.specs.declared.refusal.Cause.{Cause}
use Rattle.records.specs.declared.refusal.Cause.TheVariants.{Kind, FirstIndex, SecondIndex, Slot, Stage, Count, Length}
use Rattle.records.specs.declared.refusal.Refusal.{Refusal}

-- 'joint's case is not the kind called, or not one of the three', 'first body index below -1, or at or above the body count', 'second body index likewise',
-- 'slot at or above the joint count', 'stage above 2', 'body or joint count above 32', 'list of odd length, or above 8,192 bytes'
abbrev pub number_of : Cause → ℕ
number_of Kind = 1
number_of FirstIndex = 2
number_of SecondIndex = 3
number_of Slot = 4
number_of Stage = 5
number_of Count = 6
number_of Length = 7

-- of what is tested: 0 where no cause holds
abbrev pub tested : Result ⊤ Cause → ℕ
tested (Ok u) = 0
tested (Err cause) = number_of cause

abbrev pub refusal : Cause → ℕ → Refusal
refusal cause place = record { cause = cause; place = place }

-- a wrong kind is the first cause
abbrev pub AsCause : WrongKind → Cause → Type 0
AsCause w cause = cause ≡ Kind

-- 'place 0'
abbrev pub AtPlace0 : Cause → Refusal → Type 0
AtPlace0 cause r = r ≡ refusal cause 0
