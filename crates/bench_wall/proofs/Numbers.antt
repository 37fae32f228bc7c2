-- The number of a text of digits, by what the library says of its `parse`. Assumes nothing.
use Rattle.std.proofs.Common.{◌≡◌, refl, subst, ℕ, ◌<◌, ◌≤◌, ◌^◌, Bool, true, false, List, length, rules, arith, Some, None, Ok, Err}
use mathlib.Core.Bool.{cond, ◌&&◌}
use lib.Dec.{ltb}
use borrow.Author.Tests.{ltb-true, lt-ltb, le-ltb}
use Rattle.std.specs.Char.{is_ascii_digit}
use Rattle.std.specs.List.{list_all}
use Rattle.std.specs.Option.{unwrap_or}
use Rattle.std.specs.Prelude.{Result}
use Rattle.std.specs.Result.{OkIff}
use Rattle.std.specs.Str.{IsUtf8}
use Rattle.std.specs.Str.Parse.{digits_value, ParsesUnsigned}
use Rattle.std.proofs.lemmas.Str.{IsUtf8-from_ascii}
use Rattle.std.proofs.lemmas.Fmt.{IsAscii-from_digits}
use Rattle.std.proofs.lemmas.Str.Parse.{IsNumeralModel, numerals_by_value, parse_digits}
use Rattle.bench_wall.specs.Arguments.{number}

own : IsNumeralModel (λ ds. list_all is_ascii_digit ds ≡ true) (digits_value 10)
own = numerals_by_value _ (search rules)

module _ (text : List ℕ) where
  pub other_text : list_all is_ascii_digit text ≡ false → None ≡ number text
  unfolding number
  other_text e = rw e refl

  module _ (e : list_all is_ascii_digit text ≡ true) where
    pub is_utf8 : IsUtf8 text
    is_utf8 = IsUtf8-from_ascii text (IsAscii-from_digits text (own.to text e))

    module _ {E : Type 0} (digits : List ℕ) (same : digits ≡ text) (r : Result ℕ E) (p : ParsesUnsigned 32 10 digits r) where
      read : OkIff r ((0 < length text) × (digits_value 10 text < 2 ^ 32)) (digits_value 10 text)
      read = parse_digits own 32 text r (subst (λ ds. ParsesUnsigned 32 10 ds r) same p) e

      parsed : (n : ℕ) → r ≡ Ok n → cond (ltb n 1000000000) (Some n) None ≡ number text
      unfolding number
      parsed n h =
          let q = subst (λ r. OkIff r ((0 < length text) × (digits_value 10 text < 2 ^ 32)) (digits_value 10 text)) h read in
          rw (e, lt-ltb 0 (length text) q.0.0, ← q.1) refl

      pub small : (n : ℕ) → r ≡ Ok n → n < 1000000000 → Some n ≡ number text
      small n h l = subst (λ t. cond t (Some n) None ≡ number text) (lt-ltb n 1000000000 l) (parsed n h)

      pub large : (n : ℕ) → r ≡ Ok n → 1000000000 ≤ n → None ≡ number text
      large n h l = subst (λ t. cond t (Some n) None ≡ number text) (le-ltb n 1000000000 l) (parsed n h)

      pub not_parsed : (x : E) → r ≡ Err x → None ≡ number text
      unfolding number
      not_parsed x h = rw e (by (ltb 0 (length text)) (ltb (digits_value 10 text) 1000000000) refl refl)
        where
          none : (0 < length text) × (digits_value 10 text < 2 ^ 32) → ⊥
          none = subst (λ r. OkIff r ((0 < length text) × (digits_value 10 text < 2 ^ 32)) (digits_value 10 text)) h read

          by : (a b : Bool) → ltb 0 (length text) ≡ a → ltb (digits_value 10 text) 1000000000 ≡ b → None ≡ cond (a && b) (Some (digits_value 10 text)) None
          by true true ea eb = absurd (none (ltb-true 0 (length text) ea, omega (arith, ltb-true (digits_value 10 text) 1000000000 eb)))
          by true false ea eb = refl
          by false b ea eb = refl

  pub number_small : unwrap_or (number text) 0 < 1000000000
  unfolding number
  number_small = by (list_all is_ascii_digit text) (ltb 0 (length text)) (ltb (digits_value 10 text) 1000000000) refl
    where
      by : (a b c : Bool) → ltb (digits_value 10 text) 1000000000 ≡ c → unwrap_or (cond (a && (b && c)) (Some (digits_value 10 text)) None) 0 < 1000000000
      by true true true e = ltb-true (digits_value 10 text) 1000000000 e
      by true true false e = omega arith
      by true false c e = omega arith
      by false b c e = omega arith
