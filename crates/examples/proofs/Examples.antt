-- Every row of the table of document 01's sixteen examples holds. Assumes nothing.
use Rattle.std.proofs.Common.{Bool, true, ◌&&◌, T, List, [], ◌∷◌}
use lib.Ieee.Fits.{and_l, and_r}
use Rattle.scene.specs.Calls.{Every}
use Rattle.direct.specs.Direct as Direct
use Rattle.examples.specs.Examples.{Example, Holds, example13, example14, example15, example16, table, Sixteen}
use Rattle.examples.proofs.Same.{same_floats, same_floats_lem}
use Rattle.examples.proofs.Computed.{computed}

abbrev all_same : List Example → Bool
all_same [] = true
all_same (e ∷ es) = same_floats e.gives e.must && all_same es

-- the test decides the rows
all_hold : (es : List Example) → T (all_same es) → Every Holds es
all_hold [] h = tt
all_hold (e ∷ es) h =
    let same = same_floats e.gives e.must in
    (same_floats_lem e.gives e.must (and_l same (all_same es) h), all_hold es (and_r same (all_same es) h))

-- the theorem of the sixteen: the checker computes the test
pub sixteen : Sixteen
unfolding table example13 example14 example15 example16 computed Direct.cause Direct.direct_call
sixteen = all_hold table tt
