-- `forms::read_number` meets its contract, by how many digits the text starts with. Assumes nothing.
use Rattle.std.specs.Prelude.{Some, Ok, Err}
use mathlib.Core.Path.{◌≡◌, refl, sym, ◌∙◌}
use mathlib.Core.Bool.{true, false}
use mathlib.Core.List.{List}
use mathlib.Core.Logic.{◌⊎◌, inl, inr, ⊎_elim}
use Prim.Native.Nat.{ℕ, ◌≤◌}
use native.Mathlib.Omega.{arith}
use borrow.Author.Tests.{le-leb, lt-leb, eq-eqb, ne_eqb}
use lib.Dec.{eqb}
use lib.ListN.{drop}
use Rattle.paper_sheets.specs.Sheet.{number, digit_count, starts_with, is_number, read_item}
use Rattle.paper.proofs.Tests.{or_right}
use Rattle.forms.specs.declared.Digits.{Digits}
use Rattle.forms.specs.Reads.{ReadsDigits, ReadsItem}
use Rattle.forms.proofs.Items.{value_end}
use Rattle.forms.proofs.read_number.Goals as goal

module _ (text : List ℕ) where
  -- Whether a text starts with a number.
  none : digit_count text ≡ 0 → is_number text ≡ false
  unfolding is_number
  none e = rw e

  long : 19 ≤ digit_count text → is_number text ≡ false
  unfolding is_number
  long many = rw (le-leb 1 (digit_count text) (omega arith), lt-leb (digit_count text) 18 many)

  module _ (low : 1 ≤ digit_count text) (high : digit_count text ≤ 18) where
    leading : ¬ (digit_count text ≡ 1) → starts_with 48 text ≡ true → is_number text ≡ false
    unfolding is_number
    leading several zero = rw (le-leb 1 (digit_count text) low, le-leb (digit_count text) 18 high, ne_eqb (digit_count text) 1 several, zero)

    numbered : (digit_count text ≡ 1) ⊎ (starts_with 48 text ≡ false) → is_number text ≡ true
    unfolding is_number
    numbered (inl one) = rw (le-leb 1 (digit_count text) low, le-leb (digit_count text) 18 high, eq-eqb (digit_count text) 1 one)
    numbered (inr other) = rw (le-leb 1 (digit_count text) low, le-leb (digit_count text) 18 high, other) (or_right (eqb (digit_count text) 1) true refl)

  -- What the digits that are read say of a number, by the tests that the code makes.
  module _ (d : Digits) (digits : ReadsDigits text d) where
    refused : is_number text ≡ false → ReadsItem text number (Err d.count)
    unfolding read_item
    refused e = record { in_line = digits.in_line; reads = λ ns. rw e; keeps = tt }

    module _ (some : ¬ (d.count ≡ 0)) (few : ¬ (d.count ≡ 19)) where
      over : digit_count (drop d.count text) ≡ 0
      over = digits.all (omega arith)

      counted : digit_count text ≡ d.count
      counted = omega (arith, over)

      refused_leading : ¬ (d.count ≡ 1) → starts_with 48 text ≡ true → ReadsItem text number (Err d.count)
      refused_leading several zero = refused (leading (omega (arith, counted)) (omega (arith, counted)) (λ one. several (sym counted ∙ one)) zero)

      accepted : (d.count ≡ 1) ⊎ (starts_with 48 text ≡ false) → ReadsItem text number (Ok (record { value = Some d.value; length = d.count }))
      unfolding read_item
      accepted fine =
          let good : is_number text ≡ true = numbered (omega (arith, counted)) (omega (arith, counted)) (⊎_elim (λ one. inl (counted ∙ one)) inr fine) in
          let value = sym digits.value ∙ value_end d.value (drop d.count text) over in
          record { in_line = digits.in_line; reads = λ ns. rw (good, value, counted); keeps = refl }

pub returns-then-count-eq0 : goal.returns-then-count-eq0
returns-then-count-eq0 c =
    let d = c.read_digits-value.result in
    let digits = c.read_digits-value.ensures in
    let text = c.args.text.now in
    let which : (d.count ≡ 0) ⊎ (d.count ≡ 19) = grind arith in
    refused text d digits (⊎_elim (λ e. none text (omega (arith, digits.all (omega arith)))) (λ e. long text (omega arith)) which)

pub returns-then-stands : goal.returns-then-stands
returns-then-stands c =
    let d = c.read_digits-value in
    refused_leading _ d.result d.ensures (omega arith) (omega arith) (omega arith) (sym c.stands.ensures ∙ c.if-stands.true)

pub returns : goal.returns
returns c =
    let d = c.read_digits-value in
    accepted _ d.result d.ensures (omega arith) (omega arith) (grind arith)
