-- A cause has a number other than 0. Assumes nothing.
use Rattle.std.proofs.Common.{arith}
use mathlib.Core.Logic.{◌≢◌}
use Rattle.records.specs.declared.refusal.Cause.{Cause}
use Rattle.records.specs.declared.refusal.Cause.TheVariants.{Kind, FirstIndex, SecondIndex, Slot, Stage, Count, Length}
use Rattle.records.specs.Refusal.{number_of}

pub caused : (cause : Cause) → number_of cause ≢ 0
caused Kind = λ e. omega arith
caused FirstIndex = λ e. omega arith
caused SecondIndex = λ e. omega arith
caused Slot = λ e. omega arith
caused Stage = λ e. omega arith
caused Count = λ e. omega arith
caused Length = λ e. omega arith
