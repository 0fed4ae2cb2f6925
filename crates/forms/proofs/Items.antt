-- The items of a line over a text and a place: which byte stands there, how far the line goes on, and what its digits say. Assumes nothing.
use mathlib.Core.Path.{◌≡◌, refl, sym, ◌∙◌}
use mathlib.Core.Bool.{Bool, true, false, cond}
use mathlib.Core.List.{List, [], ◌∷◌}
use mathlib.Core.Logic.{◌⊎◌, inl, inr}
use Prim.Native.Nat.{ℕ, suc, ◌+◌, ◌*◌, ◌-◌, ◌≤◌, ◌<◌}
use native.Mathlib.Numerals.{add-one}
use native.Mathlib.Omega.{arith}
use borrow.Author.Tests.{le-leb, lt-leb, eq-eqb, ne_eqb, eqb-true}
use lib.Dec.{leb, eqb}
use Rattle.std.proofs.lemmas.List.{take_all}
use lib.ListN.{take, length, get_or, drop, length-drop, drop_of_length-le}
use lib.Seq.{drop-cons}
use Rattle.paper_sheets.specs.Sheet.{is_digit, digit_count, value_from, starts_with, line_length}
use Rattle.paper.proofs.Tests.{and_both, and_fails, clash}
use Rattle.forms.specs.Reads.{IsInLine}

-- Before the end of a text a byte stands at a place, and the bytes after it are those from the next place on.
pub drop_here : (text : List ℕ) (at : ℕ) → at < length text → drop at text ≡ get_or text at 0 ∷ drop (at + 1) text
drop_here text at within = rw (add-one, drop-cons text at 0)

-- What is lent on of a text from a place on.
pub rest_all : (text : List ℕ) (at : ℕ) → take (length text - at) (drop at text) ≡ drop at text
rest_all text at = take_all _ _ (omega (arith, length-drop at text))

-- A byte stands at a place where the bytes from there on start with it.
pub starts_here : (b : ℕ) (text : List ℕ) (at : ℕ) → at < length text → starts_with b (drop at text) ≡ eqb (get_or text at 0) b
unfolding starts_with
starts_here b text at within = rw (drop_here text at within)

pub starts_some : (b : ℕ) (text : List ℕ) → starts_with b text ≡ true → 0 < length text
unfolding starts_with
starts_some b [] e = absurd (clash false e refl)
starts_some b (c ∷ cs) e = omega arith

pub starts_within : (b : ℕ) (text : List ℕ) (at : ℕ) → starts_with b (drop at text) ≡ true → at < length text
starts_within b text at e = omega (arith, rw length-drop at (starts_some b (drop at text) e))

pub starts_byte : (b : ℕ) (text : List ℕ) (at : ℕ) → starts_with b (drop at text) ≡ true → get_or text at 0 ≡ b
starts_byte b text at e = eqb-true (get_or text at 0) b (sym (starts_here b text at (starts_within b text at e)) ∙ e)

-- How far a line goes on from a place.
module _ (text : List ℕ) (at : ℕ) (within : at < length text) where
  pub line_ends : get_or text at 0 ≡ 10 → line_length (drop at text) ≡ 0
  unfolding line_length
  line_ends e = rw (drop_here text at within, eq-eqb (get_or text at 0) 10 e)

  pub line_further : ¬ (get_or text at 0 ≡ 10) → line_length (drop at text) ≡ suc (line_length (drop (at + 1) text))
  unfolding line_length
  line_further other = rw (drop_here text at within, ne_eqb (get_or text at 0) 10 other)

pub in_line_here : (text : List ℕ) (from : ℕ) → from ≤ length text → IsInLine text from from
in_line_here text from within = record { after = omega arith; within = within; same_line = omega arith }

pub in_line_further : (text : List ℕ) (from at : ℕ) → IsInLine text from at → at < length text → ¬ (get_or text at 0 ≡ 10) → IsInLine text from (at + 1)
in_line_further text from at line within other =
    record {
      after = omega arith;
      within = omega arith;
      same_line = omega (arith, line_further text at within other);
    }

-- Past a byte that is no LF the line goes on.
pub in_line_past : (b : ℕ) (text : List ℕ) (from : ℕ) → starts_with b (drop from text) ≡ true → ¬ (b ≡ 10) → IsInLine text from (from + 1)
in_line_past b text from e other =
    let within : from < length text = starts_within b text from e in
    in_line_further text from from (in_line_here text from (omega arith)) within
    (λ feed. other (sym (starts_byte b text from e) ∙ feed))

-- The digits at a place.
is_digit_lem : (b : ℕ) → 48 ≤ b → b ≤ 57 → is_digit b ≡ true
unfolding is_digit
is_digit_lem b low high = and_both _ _ (le-leb 48 b low) (le-leb b 57 high)

is_no_digit : (b : ℕ) → (b < 48) ⊎ (57 < b) → is_digit b ≡ false
unfolding is_digit
is_no_digit b (inl low) = rw (lt-leb 48 b low)
is_no_digit b (inr high) = and_fails (leb 48 b) (leb b 57) (lt-leb b 57 high)

pub digits_past : (text : List ℕ) (at : ℕ) → length text ≤ at → digit_count (drop at text) ≡ 0
unfolding digit_count
digits_past text at past = rw (drop_of_length-le text past)

module _ (text : List ℕ) (at : ℕ) (within : at < length text) where
  pub digits_end : (get_or text at 0 < 48) ⊎ (57 < get_or text at 0) → digit_count (drop at text) ≡ 0
  unfolding digit_count
  digits_end other = rw (drop_here text at within, is_no_digit (get_or text at 0) other)

  pub digits_further : 48 ≤ get_or text at 0 → get_or text at 0 ≤ 57 → digit_count (drop at text) ≡ suc (digit_count (drop (at + 1) text))
  unfolding digit_count
  digits_further low high = rw (drop_here text at within, is_digit_lem (get_or text at 0) low high)

  pub value_further : 48 ≤ get_or text at 0 → get_or text at 0 ≤ 57 → (v : ℕ) → value_from v (drop at text) ≡ value_from (v * 10 + (get_or text at 0 - 48)) (drop (at + 1) text)
  unfolding value_from
  value_further low high v = rw (drop_here text at within, is_digit_lem (get_or text at 0) low high)

-- Where no digit is left, the value is that of the digits before.
none_left : (t : Bool) (n v w : ℕ) → cond t (suc n) 0 ≡ 0 → cond t w v ≡ v
none_left true n v w e = absurd (omega arith)
none_left false n v w e = refl

pub value_end : (v : ℕ) (text : List ℕ) → digit_count text ≡ 0 → value_from v text ≡ v
unfolding value_from digit_count
value_end v [] e = refl
value_end v (b ∷ bs) e = none_left (is_digit b) (digit_count bs) v _ e
