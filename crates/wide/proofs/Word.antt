-- What fits a word, by bounds. Assumes nothing.
use Rattle.std.proofs.Common.{ℕ, ◌*◌, ◌^◌, ◌≤◌, T, ltb, lt_of_le_of_lt, mul-le-mul, ltb→lt, w64, Fits}

-- A product whose factors have bounds with a product below a word's fits a word.
pub product_fits : (a b A B : ℕ) → T (ltb (A * B) (2 ^ 64)) → a ≤ A → b ≤ B → Fits w64 (a * b)
product_fits a b A B t p q = record { fits = lt_of_le_of_lt (mul-le-mul p q) (ltb→lt (A * B) (2 ^ 64) t) }
