-- A NaN has one pattern.
use Rattle.std.proofs.Common.{ap, sym, rules, ◌∙◌}
use lib.Ieee.{binary32, to_bits}
use Rattle.sqrt.proofs.Nans.{a_nan}
use Rattle.bench_wall.specs.Sum.{add_word, add_float}
use Rattle.bench_wall.proofs.sum.add_float.Goals as goal

pub returns-then-is_nan : goal.returns-then-is_nan
unfolding add_float to_bits
returns-then-is_nan c =
    c.add_word.ensures ∙ sym (ap (λ y. add_word c.args.sum (to_bits binary32 y)) (a_nan c.args.x (search rules)))
