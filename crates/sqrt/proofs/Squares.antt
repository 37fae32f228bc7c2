-- Squares of whole numbers, which `omega` takes as unknowns. Assumes nothing.
use Rattle.std.proofs.Common.{◌≡◌, ℕ, suc, ◌+◌, ◌*◌, ◌<◌, ◌≤◌, lt_of_le_of_lt, lt_irrefl}
use Rattle.std.proofs.Common.{mul-le-mul, lt_of_not-le}
use Rattle.std.proofs.Common.{arith}
use Rattle.std.proofs.lemmas.Nat.{mul-lt}

-- of two squares the larger has the larger root
pub root_lt : (r c : ℕ) → r * r < c * c → r < c
root_lt r c h = lt_of_not-le (λ (k : c ≤ r). lt_irrefl (c * c) (lt_of_le_of_lt (mul-le-mul k k) h))

pub square_lt : (x y : ℕ) → x < y → x * x < y * y
square_lt x y h = mul-lt x x y y h h

-- a square of a product is a product of squares
pub square_mul : (x p : ℕ) → x * p * (x * p) ≡ x * x * (p * p)
square_mul x p = grind arith

pub square_next : (r : ℕ) → suc r * suc r ≡ r * r + (r + r + 1)
square_next r = grind arith

pub square_double : (r : ℕ) → 2 * r * (2 * r) ≡ 4 * (r * r)
square_double r = square_mul 2 r

pub square_odd : (q : ℕ) → (2 * q + 1) * (2 * q + 1) ≡ 4 * (q * q + q) + 1
square_odd q = grind arith
