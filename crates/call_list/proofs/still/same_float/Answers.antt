-- `still::same_float` equals its definition: what is no NaN has a pattern. Assumes nothing.
use Rattle.std.proofs.Common.{◌≡◌, false, sym, ap, ◌∙◌, refl, subst, T}
use mathlib.Core.Bool.{false≢true}
use lib.Ieee.{Float, nan, inf, fin, is_nan}
use Rattle.sqrt.proofs.Nans.{a_nan}
use Rattle.scene.specs.Plain.{same_float}
use Rattle.scene.proofs.Still.{same_written}
use Rattle.call_list.proofs.still.same_float.Goals as goal

nan_first : (y : Float) → is_nan y ≡ same_float nan y
unfolding same_float
nan_first y = refl

nan_last : (x : Float) → is_nan x ≡ false → false ≡ same_float x nan
unfolding same_float is_nan
nan_last nan h = absurd (false≢true (sym h))
nan_last (inf s) h = refl
nan_last (fin s m e) h = refl

pub returns-then-is_nan : goal.returns-then-is_nan
returns-then-is_nan c =
    let x = a_nan c.args.x (sym c.is_nan.ensures.value ∙ c.if-is_nan.true) in
    c.is_nan-then-is_nan.ensures.value ∙ nan_first c.args.y ∙ ap (λ z. same_float z c.args.y) (sym x)

pub returns-then-is_nan-2 : goal.returns-then-is_nan-2
returns-then-is_nan-2 c =
    let y = a_nan c.args.y (sym c.is_nan-2.ensures.value ∙ c.if-is_nan-2.true) in
    nan_last c.args.x (sym c.is_nan.ensures.value ∙ c.if-is_nan.false) ∙ ap (same_float c.args.x) (sym y)

-- owning an `f32` tells that the format holds it
pub returns : goal.returns
returns c = same_written c.args.x c.args.y (subst T (sym c.well_formed.0.1) tt) (subst T (sym c.well_formed.1.0.1) tt)
