-- math_functions/scalar.rs: absolute value, minimum, maximum, clamp, arctangent. Definitions only. Assumes nothing.
use Rattle.std.specs.Prelude.{cond, ◌&&◌}
use Rattle.std.specs.Prelude.{Float}
use Rattle.math_functions.specs.Float.{◌⊕◌, ◌⊖◌, ◌⊗◌, ◌⊘◌, neg, lt, gt, eq, lit, zero}

unfoldable pub abs_float : Float → Float
abs_float a = cond (lt a zero) (neg a) a

unfoldable pub min_float : Float → Float → Float
min_float a b = cond (lt a b) a b

-- document 01's `max_float`: a if a > b, else b, so a NaN at a is dropped
unfoldable pub max_float : Float → Float → Float
max_float a b = cond (gt a b) a b

-- the lower bound is tested first, and a NaN passes through
unfoldable pub clamp_float : Float → Float → Float → Float
clamp_float a lower upper = cond (lt a lower) lower (cond (lt upper a) upper a)

-- The coefficients of the arctangent's polynomial, by the power that each goes with: 0.33213072, 0.18681418, 0.094097948, 0.024840285
abbrev pub atan3 : Float
atan3 = lit 0x3eaa_0d0a

abbrev pub atan5 : Float
atan5 = lit 0x3e3f_4c37

abbrev pub atan7 : Float
atan7 = lit 0x3dc0_b66d

abbrev pub atan9 : Float
atan9 = lit 0x3ccb_7dda

-- 1.57079637
abbrev pub half_pi : Float
half_pi = lit 0x3fc9_0fdb

-- 3.14159274
abbrev pub atan_pi : Float
atan_pi = lit 0x4049_0fdb

-- Minimax polynomial approximation to atan(a) on [0, 1]
unfoldable pub atan_unit : Float → Float
atan_unit a =
    let s = a ⊗ a in
    let c = s ⊗ a in
    let q = s ⊗ s in
    let r = atan9 ⊗ q ⊕ atan5 in
    let t = neg atan7 ⊗ q ⊖ atan3 in
    let r = r ⊗ s ⊕ t in
    r ⊗ c ⊕ a

unfoldable pub atan2 : Float → Float → Float
atan2 y x =
    cond (eq x zero && eq y zero) zero
    (let ax = abs_float x in
    let ay = abs_float y in
    let mx = max_float ay ax in
    let mn = min_float ay ax in
    let r = atan_unit (mn ⊘ mx) in
    let r = cond (gt ay ax) (half_pi ⊖ r) r in
    let r = cond (lt x zero) (atan_pi ⊖ r) r in
    cond (lt y zero) (neg r) r)
