-- A test of two lists of floats that computes, and the law that it decides equality: bit for bit, with one NaN. Assumes nothing.
use Rattle.std.proofs.Common.{◌≡◌, Bool, true, false, ◌&&◌, T, eqb, List, [], ◌∷◌, ℤ, pos, negsuc, refl, ap, eqb→eq}
use mathlib.Core.Bool.{beq}
use lib.Ieee.{Float, nan, inf, fin}
use lib.Ieee.Fits.{and_l, and_r}

abbrev pub same_int : ℤ → ℤ → Bool
same_int (pos a) (pos b) = eqb a b
same_int (pos a) (negsuc b) = false
same_int (negsuc a) (pos b) = false
same_int (negsuc a) (negsuc b) = eqb a b

abbrev pub same_float : Float → Float → Bool
same_float nan nan = true
same_float nan (inf t) = false
same_float nan (fin t n d) = false
same_float (inf s) nan = false
same_float (inf s) (inf t) = beq s t
same_float (inf s) (fin t n d) = false
same_float (fin s m e) nan = false
same_float (fin s m e) (inf t) = false
same_float (fin s m e) (fin t n d) = beq s t && eqb m n && same_int e d

abbrev pub same_floats : List Float → List Float → Bool
same_floats [] [] = true
same_floats [] (y ∷ ys) = false
same_floats (x ∷ xs) [] = false
same_floats (x ∷ xs) (y ∷ ys) = same_float x y && same_floats xs ys

same_bool_lem : (s t : Bool) → T (beq s t) → s ≡ t
same_bool_lem true true h = refl
same_bool_lem true false h = absurd h
same_bool_lem false true h = absurd h
same_bool_lem false false h = refl

same_int_lem : (a b : ℤ) → T (same_int a b) → a ≡ b
same_int_lem (pos a) (pos b) h = ap pos (eqb→eq a b h)
same_int_lem (pos a) (negsuc b) h = absurd h
same_int_lem (negsuc a) (pos b) h = absurd h
same_int_lem (negsuc a) (negsuc b) h = ap negsuc (eqb→eq a b h)

same_float_lem : (x y : Float) → T (same_float x y) → x ≡ y
same_float_lem nan nan h = refl
same_float_lem nan (inf t) h = absurd h
same_float_lem nan (fin t n d) h = absurd h
same_float_lem (inf s) nan h = absurd h
same_float_lem (inf s) (inf t) h = ap inf (same_bool_lem s t h)
same_float_lem (inf s) (fin t n d) h = absurd h
same_float_lem (fin s m e) nan h = absurd h
same_float_lem (fin s m e) (inf t) h = absurd h
same_float_lem (fin s m e) (fin t n d) h =
    let p = same_bool_lem s t (and_l (beq s t) (eqb m n) (and_l (beq s t && eqb m n) (same_int e d) h)) in
    let q = eqb→eq m n (and_r (beq s t) (eqb m n) (and_l (beq s t && eqb m n) (same_int e d) h)) in
    let r = same_int_lem e d (and_r (beq s t && eqb m n) (same_int e d) h) in
    cc

pub same_floats_lem : (xs ys : List Float) → T (same_floats xs ys) → xs ≡ ys
same_floats_lem [] [] h = refl
same_floats_lem [] (y ∷ ys) h = absurd h
same_floats_lem (x ∷ xs) [] h = absurd h
same_floats_lem (x ∷ xs) (y ∷ ys) h =
    let p = same_float_lem x y (and_l (same_float x y) (same_floats xs ys) h) in
    let q = same_floats_lem xs ys (and_r (same_float x y) (same_floats xs ys) h) in
    cc
