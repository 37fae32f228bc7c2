-- Unpacking a pattern: a normal number's fields, and a subnormal number's digits shifted up. Assumes nothing.
use Rattle.std.proofs.Common.{◌≡◌, ℕ, zero, suc, ◌+◌, ◌-◌, ◌*◌, ◌/◌, ◌%◌, ◌^◌, ◌<◌, ◌≤◌, sym, ap, ◌∙◌, subst, mul_assoc, mul_comm, arith, pow-add}
use Rattle.std.proofs.Common.{pow_pos, pow_mono, lit<, lit≤, le_trans, le_of_eq, lt_trans, lt_of_lt_of_le, lt_of_not-le, lt_irrefl}
use Rattle.std.proofs.Common.{mul-le-mul_right, mul-lt-mul_of_pos_right, mod-eq_of_lt}
use Rattle.sqrt.specs.Steps.{Unpacks}
use Rattle.sqrt.proofs.Patterns.{units_in, bits_units}

-- a number below 2 ^ 23 has at most 23 digits
pub few_digits : (b l : ℕ) → b < 2 ^ 23 → 2 ^ l ≤ b → l + 1 ≤ 24
few_digits b l h lo =
    let few : l < 24 = lt_of_not-le (λ (g : 24 ≤ l). lt_irrefl (2 ^ 24) (omega (arith, pow_mono {i = 24} {j = l} g, h, lo))) in
    omega arith

-- the digits of a subnormal number, shifted up until they are 24
pub subnormal_unpacks : (b l m : ℕ) → b < 2 ^ 23 → 2 ^ l ≤ b → b < 2 * 2 ^ l → m ≡ b * 2 ^ (24 - (l + 1)) % 2 ^ 32 → Unpacks b m (l + 1)
subnormal_unpacks b l m h lo hi is =
    let few : l + 1 ≤ 24 = few_digits b l h lo in
    let p : ℕ = 2 ^ (24 - (l + 1)) in
    let twice : 2 ^ (l + 1) ≡ 2 * 2 ^ l = pow-add 2 l 1 ∙ mul_comm (2 ^ l) 2 in
    let whole : 2 ^ (l + 1) * p ≡ 2 ^ 24 = sym (pow-add 2 (l + 1) (24 - (l + 1))) ∙ ap (λ (x : ℕ). 2 ^ x) (places l few) in
    let least : 2 ^ 23 ≤ b * p = half (2 ^ l * p) (b * p) (sym (mul_assoc 2 (2 ^ l) p) ∙ ap (λ (x : ℕ). x * p) (sym twice) ∙ whole) (mul-le-mul_right p lo) in
    let most : b * p < 2 ^ 24 =
    lt_of_lt_of_le (mul-lt-mul_of_pos_right hi (pow_pos (24 - (l + 1)))) (le_of_eq (ap (λ (x : ℕ). x * p) (sym twice) ∙ whole)) in
    let same : m ≡ b * p = is ∙ mod-eq_of_lt (lt_trans most (lit< tt)) in
    let units = bits_units b (below b h) ∙ ap (λ (x : ℕ). units_in x (b % 2 ^ 23)) (field b h) ∙ mod-eq_of_lt h in
    record {
      least = subst (λ (x : ℕ). 2 ^ 23 ≤ x) (sym same) least;
      most = subst (λ (x : ℕ). x < 2 ^ 24) (sym same) most;
      exponent = le_trans few (lit≤ tt);
      value =
          ap (λ (x : ℕ). x * 2 ^ (l + 1)) same
          ∙ mul_assoc b p (2 ^ (l + 1))
          ∙ ap (λ (x : ℕ). b * x) (mul_comm p (2 ^ (l + 1)) ∙ whole)
          ∙ ap (λ (x : ℕ). x * 2 ^ 24) (sym units);
    }
  where
    places : (l : ℕ) → l + 1 ≤ 24 → l + 1 + (24 - (l + 1)) ≡ 24
    places l h = omega arith

    half : (x y : ℕ) → 2 * x ≡ 2 ^ 24 → x ≤ y → 2 ^ 23 ≤ y
    half x y e h = omega arith

    below : (b : ℕ) → b < 2 ^ 23 → b < 0x7f80_0000
    below b h = omega arith

    field : (b : ℕ) → b < 2 ^ 23 → b / 2 ^ 23 ≡ 0
    field b h = omega arith

-- the digits of a normal number, with the leading one
normal_value : (x t : ℕ) → 0 < x → (2 ^ 23 + t) * 2 ^ (x + 23) ≡ units_in x t * 2 ^ 24
normal_value zero t h = omega arith
normal_value (suc x) t h =
    ap (λ (y : ℕ). (2 ^ 23 + t) * 2 ^ y) (over x)
    ∙ ap (λ (y : ℕ). (2 ^ 23 + t) * y) (pow-add 2 x 24)
    ∙ sym (mul_assoc (2 ^ 23 + t) (2 ^ x) (2 ^ 24))
  where
    over : (x : ℕ) → suc x + 23 ≡ x + 24
    over x = omega arith

pub normal_unpacks : (b : ℕ) → 2 ^ 23 ≤ b → b < 0x7f80_0000 → Unpacks b (2 ^ 23 + b % 2 ^ 23) (b / 2 ^ 23 + 23)
normal_unpacks b lo hi = record {
  least = omega arith;
  most = omega arith;
  exponent = omega arith;
  value = normal_value (b / 2 ^ 23) (b % 2 ^ 23) (omega arith) ∙ ap (λ (x : ℕ). x * 2 ^ 24) (sym (bits_units b hi));
}
