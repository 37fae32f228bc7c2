-- `sqrt::sqrt` meets its contract (`SpecialBits.antt`, and what `Unpacked::root` ensures). Assumes nothing.
use Rattle.std.proofs.Common.{ℕ, T, sym, ap, ◌∙◌, subst, arith}
use lib.Ieee.{binary32, of_bits}
use lib.Ieee.Bits.{of_bits-to_bits}
use Rattle.sqrt.specs.Sqrt.{sqrt}
use Rattle.sqrt.proofs.SpecialBits.{at_nan, at_own_root, at_negative}
use Rattle.sqrt.proofs.sqrt.Goals as goal

pub returns-then-is_nan : goal.returns-then-is_nan
returns-then-is_nan c = at_nan c.args.x (sym c.is_nan.ensures.value ∙ c.if-is_nan.true)

pub returns-in-0 : goal.returns-in-0
returns-in-0 c = at_own_root c.args.x (subst T (sym c.well_formed.0.1) tt) c.in-0.is

pub returns-then-b-lt-LEAST_NORMAL : goal.returns-then-b-lt-LEAST_NORMAL
returns-then-b-lt-LEAST_NORMAL c =
    c.root-then-b-lt-LEAST_NORMAL.ensures
    ∙ ap (λ (b : ℕ). sqrt (of_bits binary32 b)) c.subnormal.ensures
    ∙ ap sqrt (of_bits-to_bits binary32 c.args.x (subst T (sym c.well_formed.0.1) tt))

pub returns-then-b-lt-INFINITY : goal.returns-then-b-lt-INFINITY
returns-then-b-lt-INFINITY c =
    c.root.ensures
    ∙ ap (λ (b : ℕ). sqrt (of_bits binary32 b)) c.normal-number.ensures
    ∙ ap sqrt (of_bits-to_bits binary32 c.args.x (subst T (sym c.well_formed.0.1) tt))

pub returns-in_default : goal.returns-in_default
returns-in_default c = at_negative c.args.x (subst T (sym c.well_formed.0.1) tt) (grind arith) (grind arith)
