-- The finite values of binary32 as whole numbers: each is so many times the smallest one, 2 ^ -149. Assumes nothing.
use Rattle.std.proofs.Common.{◌≡◌, ℕ, zero, suc, ◌+◌, ◌-◌, ◌*◌, ◌/◌, ◌%◌, ◌^◌, ◌<◌, ◌≤◌, Bool, true, false, cond, ◌&&◌, T, eqb, ltb, leb, ℤ, pos}
use Rattle.std.proofs.Common.{negsuc, sym, refl, ap, ◌∙◌, subst, true≢false, le_trans, le_of_eq, lt_of_lt_of_le, le_of_suc-le-suc, lt_irrefl}
use Rattle.std.proofs.Common.{zero-lt-suc, mul_assoc, div-lt_iff_lt-mul, mul-lt-mul_of_pos_right, mul-pos, lt_of_not-le, zero-mul, mul-one}
use Rattle.std.proofs.Common.{mul_right_comm, div-one, mul-div_cancel, lit<, eqb→eq, ltb→lt, leb→le, pow_pos, pow_mono, pow-add}
use native.Mathlib.Nat.{zero-div}
use lib.Pow.{pow-lt}
use lib.Ieee.{Float, nan, inf, fin, binary32, up, down, size, fits, to_bits, of_bits}
use lib.Ieee.Bits.{of_bits-to_bits}
use lib.Ieee.Digits.{back}
use lib.Ieee.Exact.{HasValue}
use lib.Ieee.Fits.{down_pos, and_l, and_r}
use Rattle.sqrt.specs.Nearest.{in_units, unsigned}

pub value_units : (v : Float) (s : Bool) (a : ℕ) → HasValue v s a (2 ^ 149) → in_units v ≡ a
value_units nan s a h = absurd h
value_units (inf t) s a h = absurd h
value_units (fin t m e) s a h = ap (λ (x : ℕ). x / down e) h.1 ∙ mul-div_cancel a (down_pos e)

pub value_unsigned : (v : Float) (a : ℕ) → HasValue v false a (2 ^ 149) → T (unsigned v)
value_unsigned nan a h = absurd h
value_unsigned (inf t) a h = absurd h
value_unsigned (fin true m e) a h = absurd (true≢false h.0)
value_unsigned (fin false m e) a h = tt

-- a finite value that fits is m * 2 ^ j units
place : (e : ℤ) → down e ≤ 2 ^ 149 → (j : ℕ) × ((m : ℕ) → m * up e * 2 ^ 149 / down e ≡ m * 2 ^ j)
place (pos a) h = (a + 149, λ m. div-one (m * 2 ^ a * 2 ^ 149) ∙ mul_assoc m (2 ^ a) (2 ^ 149) ∙ ap (λ (x : ℕ). m * x) (sym (pow-add 2 a 149)))
place (negsuc a) h =
    let l : suc a ≤ 149 =
    le_of_suc-le-suc (lt_of_not-le (λ (g : 150 ≤ suc a).
    lt_irrefl (2 ^ 149) (lt_of_lt_of_le (pow-lt {i = 149} {j = 150} (lit< tt)) (le_trans (pow_mono g) h)))) in (
      149 - suc a,
      λ m.
          ap (λ (x : ℕ). x * 2 ^ 149 / 2 ^ suc a) (mul-one m)
          ∙ ap (λ (x : ℕ). m * x / 2 ^ suc a) (ap (λ (x : ℕ). 2 ^ x) (sym (back 149 (suc a) l)) ∙ pow-add 2 (149 - suc a) (suc a))
          ∙ ap (λ (x : ℕ). x / 2 ^ suc a) (sym (mul_assoc m (2 ^ (149 - suc a)) (2 ^ suc a)))
          ∙ mul-div_cancel (m * 2 ^ (149 - suc a)) (pow_pos (suc a)),
    )

-- what `fits` says of a number that is not 0: its odd part, and how many units it is
pub record Digits (m : ℕ) (e : ℤ) : Type 0 where
  pub odd : m % 2 ≡ 1
  pub few : m < 2 ^ 24
  pub small : m * up e < 2 ^ 128 * down e
  pub shift : ℕ
  pub is : m * up e * 2 ^ 149 / down e ≡ m * 2 ^ shift

pub digits : (s : Bool) (m : ℕ) (e : ℤ) → T (fits binary32 (fin s (suc m) e)) → Digits (suc m) e
unfolding fits
digits s m e h =
    let A = eqb (suc m % 2) 1 in
    let B = ltb (suc m) (2 ^ 24) in
    let C = leb (down e) (2 ^ 149) in
    let D = ltb (suc m * up e) (2 ^ 128 * down e) in
    let abc = and_l (A && B && C) D h in
    let p = place e (leb→le (down e) (2 ^ 149) (and_r (A && B) C abc)) in
    record {
      odd = eqb→eq (suc m % 2) 1 (and_l A B (and_l (A && B) C abc));
      few = ltb→lt (suc m) (2 ^ 24) (and_r A B (and_l (A && B) C abc));
      small = ltb→lt (suc m * up e) (2 ^ 128 * down e) (and_r (A && B && C) D h);
      shift = p.0;
      is = p.1 (suc m);
    }

pub zero_units : (s : Bool) (e : ℤ) → in_units (fin s 0 e) ≡ 0
zero_units s e = ap (λ (x : ℕ). x * 2 ^ 149 / down e) (zero-mul (up e)) ∙ zero-div (down e)

-- zero has digits too, but no odd part
pub few_digits : (s : Bool) (m : ℕ) (e : ℤ) → T (fits binary32 (fin s m e)) → (d j : ℕ) × (d < 2 ^ 24) × (in_units (fin s m e) ≡ d * 2 ^ j)
few_digits s zero e h = (0, 0, lit< tt, zero_units s e)
few_digits s (suc m) e h = let d = digits s m e h in (suc m, d.shift, d.few, d.is)

pub units_lt : (s : Bool) (m : ℕ) (e : ℤ) → T (fits binary32 (fin s (suc m) e)) → in_units (fin s (suc m) e) < 2 ^ 277
units_lt s m e h =
    (div-lt_iff_lt-mul (down_pos e)).1
    (lt_of_lt_of_le (mul-lt-mul_of_pos_right (digits s m e h).small (pow_pos 149)) (le_of_eq (mul_right_comm (2 ^ 128) (down e) (2 ^ 149))))

pub units_pos : (s : Bool) (m : ℕ) (e : ℤ) → T (fits binary32 (fin s (suc m) e)) → 0 < in_units (fin s (suc m) e)
units_pos s m e h = let d = digits s m e h in subst (λ (x : ℕ). 0 < x) (sym d.is) (mul-pos (zero-lt-suc m) (pow_pos d.shift))

-- the pattern of a finite value, by how many units it is
abbrev pub pattern_of : Bool → ℕ → ℕ
pattern_of s n = cond s 0x8000_0000 0 + (size n - 24) * 2 ^ 23 + n / 2 ^ (size n - 24)

pub to_bits_units : (s : Bool) (m : ℕ) (e : ℤ) → to_bits binary32 (fin s m e) ≡ pattern_of s (in_units (fin s m e))
unfolding to_bits
to_bits_units s m e = refl

-- two values that fit and are as many units are the same
pub same_units : (x y : Float) → T (fits binary32 x) → T (fits binary32 y) → T (unsigned x) → T (unsigned y) → in_units x ≡ in_units y → x ≡ y
same_units nan y hx hy ux uy h = absurd ux
same_units (inf _) y hx hy ux uy h = absurd ux
same_units (fin true m e) y hx hy ux uy h = absurd ux
same_units (fin false m e) nan hx hy ux uy h = absurd uy
same_units (fin false m e) (inf _) hx hy ux uy h = absurd uy
same_units (fin false m e) (fin true d g) hx hy ux uy h = absurd uy
same_units (fin false m e) (fin false d g) hx hy ux uy h =
    sym (of_bits-to_bits binary32 (fin false m e) hx)
    ∙ ap (of_bits binary32) (to_bits_units false m e ∙ ap (pattern_of false) h ∙ sym (to_bits_units false d g))
    ∙ of_bits-to_bits binary32 (fin false d g) hy
