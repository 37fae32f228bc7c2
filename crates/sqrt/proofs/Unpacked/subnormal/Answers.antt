-- `sqrt::Unpacked::subnormal` meets its contract (`Unpacking.antt`). Assumes nothing.
use Rattle.std.proofs.Common.{◌≡◌, ◌+◌, ◌-◌, subst, arith}
use Rattle.sqrt.specs.Steps.{Unpacks}
use Rattle.sqrt.proofs.Unpacking.{few_digits, subnormal_unpacks}
use Rattle.sqrt.proofs.Unpacked.subnormal.Goals as goal

pub overflow_sub-digits : goal.overflow_sub-digits
overflow_sub-digits c = few_digits c.args.bits c.ilog2-digits.result c.requires.1 c.ilog2-digits.ensures.power_le

pub invariant_of-result : goal.invariant_of-result
invariant_of-result c =
    let l = c.ilog2-digits in
    let e : l.result + 1 ≡ c.from-2.result + 102 - 102 = omega (arith, c.from-2.ensures) in
    record {
      positive = (omega arith, omega arith);
      biased = omega arith;
      unpacks =
          subst (Unpacks c.args.bits c.from.result) e
          (subnormal_unpacks c.args.bits l.result c.from.result c.requires.1 l.ensures.power_le l.ensures.next_power_gt c.from.ensures);
    }
