-- C-15's mark: whether a leaf solved its matrix or fell back to zeros. Definitions only. Assumes nothing.
use Rattle.std.specs.Prelude.{◌≡◌, Bool, true, false, cond, Option, Some, None}
use Rattle.math_functions.specs.declared.mark.Mark.{Mark}
use Rattle.math_functions.specs.declared.mark.Mark.TheVariants.{Solved, FellBack}
use Rattle.math_functions.specs.declared.mark.Marked.{Marked}

-- What the paper calls each case, of a row or a mass. `worked`: the row is worked, the mass inverted; `passes`: the determinant passes the leaf's test, so that
-- it does not fall back. None: 'a row not worked and a mass not inverted have none'; Solved: 'solved'; FellBack: 'fell back' to zeros
abbrev pub Says : Option Mark → Bool → Bool → Type 0
Says None worked passes = worked ≡ false
Says (Some Solved) worked passes = (worked ≡ true) × (passes ≡ true)
Says (Some FellBack) worked passes = (worked ≡ true) × (passes ≡ false)

-- the mark of a leaf, which is worked
abbrev pub leaf_mark : Bool → Mark
leaf_mark passes = cond passes Solved FellBack

-- the mark of which that is said, and of no other (`MarkSaid` in Claims.antt)
abbrev pub mark_of : Bool → Bool → Option Mark
mark_of worked passes = cond worked (Some (leaf_mark passes)) None

-- what a row that is not worked has, and a mass that is not inverted
abbrev pub no_mark : Option Mark
no_mark = mark_of false false

-- what a leaf answers, its value and its mark
abbrev pub marked : {T : Type 0} → T → Mark → Marked T
marked value mark = record { value = value; mark = mark }
