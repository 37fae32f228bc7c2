-- One name for what the checker opens to see that a literal is the float nearest to its decimal. Assumes nothing.
use Rattle.std.specs.Float.Ieee as Ieee

unfoldable pub literals : Unit {0}
unfolding Ieee.round Ieee.of_bits Ieee.neg
literals = tt
