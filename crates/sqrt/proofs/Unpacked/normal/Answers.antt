-- `sqrt::Unpacked::normal` meets its contract (`Unpacking.antt`). Assumes nothing.
use Rattle.std.proofs.Common.{ℕ, ◌≡◌, ◌+◌, ◌-◌, ◌/◌, ◌%◌, ◌^◌, subst, sym, arith}
use Rattle.sqrt.specs.Steps.{Unpacks}
use Rattle.sqrt.proofs.Unpacking.{normal_unpacks}
use Rattle.sqrt.proofs.Unpacked.normal.Goals as goal

pub invariant_of-result : goal.invariant_of-result
invariant_of-result c =
    let b = c.args.bits in
    let e : b / 2 ^ 23 + 23 ≡ c.from-b.result / 2 ^ 23 + 23 + 102 - 102 = omega (arith, c.from-b.ensures) in
    record {
      positive = (omega arith, omega arith);
      biased = omega arith;
      unpacks =
          subst (λ (x : ℕ). Unpacks b (2 ^ 23 + x % 2 ^ 23) (c.from-b.result / 2 ^ 23 + 23 + 102 - 102)) (sym c.from-b.ensures)
          (subst (Unpacks b (2 ^ 23 + b % 2 ^ 23)) e (normal_unpacks b c.requires.0 c.requires.1));
    }
