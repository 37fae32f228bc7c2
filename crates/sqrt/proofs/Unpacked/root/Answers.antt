-- `sqrt::Unpacked::root` meets its contract (`RootBits.antt`). Assumes nothing.
use Rattle.std.proofs.Common.{◌+◌, ◌*◌, ◌/◌, ◌^◌, arith}
use Rattle.std.proofs.lemmas.Float.{not_nan_f32_bits}
use Rattle.sqrt.proofs.RootBits.{scaled_range, root_bits_is}
use Rattle.sqrt.proofs.Unpacked.root.Goals as goal

pub nearest_root-r-requires : goal.nearest_root-r-requires
nearest_root-r-requires c =
    let s = c.args.self in
    let g = scaled_range s.significand s.exponent c.scaled_significand.result s.unpacks.least s.unpacks.most c.scaled_significand.ensures in
    (omega arith, omega arith)

pub float_from_bits-result : goal.float_from_bits-result
float_from_bits-result c =
    let s = c.args.self in
    let h =
    root_bits_is s.bits s.significand s.exponent c.scaled_significand.result c.nearest_root-r.result s.positive.0 s.positive.1 s.biased s.unpacks
    c.scaled_significand.ensures c.nearest_root-r.ensures in
    not_nan_f32_bits (s.exponent / 2 * 2 ^ 23 + c.nearest_root-r.result) (omega (arith, h.1))

pub returns : goal.returns
returns c =
    let s = c.args.self in
    (root_bits_is s.bits s.significand s.exponent c.scaled_significand.result c.nearest_root-r.result s.positive.0 s.positive.1 s.biased s.unpacks
    c.scaled_significand.ensures c.nearest_root-r.ensures).0
