-- The mask picks bit 12. Assumes nothing.
use Rattle.std.proofs.Common.{◌≡◌, refl, ℕ, zero, suc, ◌/◌, ◌%◌, ◌*◌, ◌<◌, arith}
use mathlib.Core.Bool.{not}
use lib.Dec.{eqb}
use lib.Bits.{and_high}
use Rattle.records.specs.Body.{is_dynamic}
use Rattle.records.proofs.body.is_dynamic.Goals as goal

bit : (d : ℕ) → d < 2 → not (eqb (d * 0x1000) 0) ≡ eqb d 1
bit zero h = refl
bit (suc zero) h = refl
bit (suc (suc d)) h = absurd (omega arith)

pub returns : goal.returns
unfolding is_dynamic
returns c = let flags = c.args.state.flags in rw (and_high flags 1 12) (bit (flags / 0x1000 % 2) (omega arith))
