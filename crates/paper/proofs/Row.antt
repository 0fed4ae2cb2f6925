-- What a range says of a number, the table of ranges of each word of a row, and a row in range of its parameters. Assumes nothing.
use mathlib.Core.Path.{◌≡◌, refl, ap, ◌∙◌}
use mathlib.Core.Bool.{Bool, true, false, ◌&&◌}
use mathlib.Core.List.{List, [], ◌∷◌}
use mathlib.Core.Logic.{◌↔◌}
use Prim.Native.Nat.{ℕ, zero, suc, ◌+◌, ◌≤◌, ◌<◌, ◌%◌, suc-le-suc}
use native.Mathlib.Nat.{le_of_suc-le-suc, not-suc-le-zero, add_comm}
use native.Mathlib.Omega.{arith}
use borrow.Author.Tests.{leb-true, le-leb, lt-leb, eqb-true}
use lib.Dec.{leb, eqb, lit<}
use lib.ListN.{length, get_or, take, drop}
use lib.Seq.{get_or-take, get_or-drop}
use Rattle.paper.specs.Row.{Interval, ◌up_to◌, is_in, are_in, ranges, range_at, parameter_ranges, word, width, alpha, parameter_count, least_margin, greatest_margin, least_concentration, greatest_concentration, preliminary, last_change, last_day, step, parameters_of, is_paired, parameters_in_range, row_in_range}
use Rattle.paper.specs.Promises.Ranges.{IsFrom}
use Rattle.paper.proofs.Tests.{clash, not_passed, and_left, and_right, and_both}

-- A number in a range is between its ends, and one between its ends is in it.
pub in_from : (r : Interval) (n : ℕ) → is_in r n ≡ true → r.from ≤ n
unfolding is_in
in_from r n e = leb-true r.from n (and_left (leb r.from n) (leb n r.to) e)

pub in_to : (r : Interval) (n : ℕ) → is_in r n ≡ true → n ≤ r.to
unfolding is_in
in_to r n e = leb-true n r.to (and_right (leb r.from n) (leb n r.to) e)

pub in_both : (r : Interval) (n : ℕ) → r.from ≤ n → n ≤ r.to → is_in r n ≡ true
unfolding is_in
in_both r n p q = and_both (leb r.from n) (leb n r.to) (le-leb r.from n p) (le-leb n r.to q)

pub range_says : (range : Interval) (n : ℕ) → (is_in range n ≡ true) ↔ IsFrom range.from range.to n
range_says range n =
    (λ e. record { not_below = in_from range n e; not_above = in_to range n e }, λ r. in_both range n r.not_below r.not_above)

-- A number below a range is not in it; of one that is not below, its end decides.
pub in_below : (r : Interval) (n : ℕ) → n < r.from → is_in r n ≡ false
unfolding is_in
in_below r n l = ap (λ (b : Bool). b && leb n r.to) (lt-leb r.from n l)

pub in_rest : (r : Interval) (n : ℕ) → r.from ≤ n → is_in r n ≡ leb n r.to
unfolding is_in
in_rest r n l = ap (λ (b : Bool). b && leb n r.to) (le-leb r.from n l)

-- Numbers in range are as many as the ranges, and each is in its own.
pub are_long : (rs : List Interval) (ns : List ℕ) → are_in rs ns ≡ true → length ns ≡ length rs
unfolding are_in
are_long [] [] e = refl
are_long [] (n ∷ ns) e = absurd (clash false e refl)
are_long (r ∷ rs) [] e = absurd (clash false e refl)
are_long (r ∷ rs) (n ∷ ns) e = ap suc (are_long rs ns (and_right (is_in r n) (are_in rs ns) e))

pub are_at : (rs : List Interval) (ns : List ℕ) (d : Interval) → are_in rs ns ≡ true → (k : ℕ) → k < length rs → is_in (get_or rs k d) (get_or ns k 0) ≡ true
unfolding are_in
are_at [] [] d e k h = absurd (not-suc-le-zero h)
are_at [] (n ∷ ns) d e k h = absurd (not-suc-le-zero h)
are_at (r ∷ rs) [] d e k h = absurd (clash false e refl)
are_at (r ∷ rs) (n ∷ ns) d e zero h = and_left (is_in r n) (are_in rs ns) e
are_at (r ∷ rs) (n ∷ ns) d e (suc k) h = are_at rs ns d (and_right (is_in r n) (are_in rs ns) e) k (le_of_suc-le-suc h)

-- As many numbers as ranges, each in its own, are in range; where one is not in its own, they are not.
pub are_all : (rs : List Interval) (ns : List ℕ) (d : Interval) → length ns ≡ length rs → ((k : ℕ) → k < length rs → is_in (get_or rs k d) (get_or ns k 0) ≡ true) → are_in rs ns ≡ true
unfolding are_in
are_all [] [] d e each = refl
are_all [] (n ∷ ns) d e each = absurd (omega arith)
are_all (r ∷ rs) [] d e each = absurd (omega arith)
are_all (r ∷ rs) (n ∷ ns) d e each =
    and_both (is_in r n) (are_in rs ns) (each 0 (omega arith)) (are_all rs ns d (omega arith) (λ k l. each (suc k) (suc-le-suc l)))

pub are_not : (rs : List Interval) (ns : List ℕ) (d : Interval) (k : ℕ) → k < length rs → is_in (get_or rs k d) (get_or ns k 0) ≡ false → are_in rs ns ≡ false
are_not rs ns d k l e = go (are_in rs ns) refl
  where
    go : (b : Bool) → are_in rs ns ≡ b → b ≡ false
    go false f = refl
    go true f = absurd (clash _ (are_at rs ns d f k l) e)

-- Where they are not as many as the ranges, they are not in range.
pub are_not_long : (rs : List Interval) (ns : List ℕ) → ¬ (length ns ≡ length rs) → are_in rs ns ≡ false
are_not_long rs ns n = not_passed (are_in rs ns) (λ e. n (are_long rs ns e))

-- The range of a parameter is that of its place in a row.
pub parameter_range : (k : ℕ) → k < parameter_count → get_or parameter_ranges k (0 up_to 0) ≡ range_at (k + 1)
parameter_range k l =
    get_or-take parameter_count (drop alpha ranges) k (0 up_to 0) l ∙ get_or-drop alpha ranges k (0 up_to 0) ∙ ap range_at (add_comm 1 k)

-- A parameter of a row is the row's word at its place.
pub parameter_word : (row : List ℕ) (k : ℕ) → k < parameter_count → get_or (parameters_of row) k 0 ≡ get_or row (alpha + k) 0
unfolding parameters_of
parameter_word row k l = get_or-take parameter_count (drop alpha row) k 0 l ∙ get_or-drop alpha row k 0

-- The pairings of a row's parameters, by the row's words.
pub row_paired : (row : List ℕ) → is_paired (parameters_of row) ≡ (leb (word row least_margin) (word row greatest_margin) && leb (word row least_concentration) (word row greatest_concentration))
unfolding is_paired
row_paired row =
    simp (parameter_word row 8 (lit< tt), parameter_word row 9 (lit< tt), parameter_word row 10 (lit< tt), parameter_word row 11 (lit< tt))

-- A row in range by its words.
pub row_tested : (row : List ℕ) → row_in_range row ≡ (are_in ranges row && (leb (word row least_margin) (word row greatest_margin) && leb (word row least_concentration) (word row greatest_concentration)) && leb (word row last_change) (word row last_day) && eqb (word row preliminary % word row step) 0)
unfolding row_in_range
row_tested row = ap (λ (b : Bool). are_in ranges row && b && leb (word row last_change) (word row last_day) && eqb (word row preliminary % word row step) 0) (row_paired row)

-- Numbers in range stay so where as many ranges and numbers are left out in front, or kept.
pub are_drop : (k : ℕ) (rs : List Interval) (ns : List ℕ) → are_in rs ns ≡ true → are_in (drop k rs) (drop k ns) ≡ true
unfolding are_in
are_drop zero rs ns e = e
are_drop (suc k) [] [] e = e
are_drop (suc k) [] (n ∷ ns) e = absurd (clash false e refl)
are_drop (suc k) (r ∷ rs) [] e = absurd (clash false e refl)
are_drop (suc k) (r ∷ rs) (n ∷ ns) e = are_drop k rs ns (and_right (is_in r n) (are_in rs ns) e)

pub are_take : (k : ℕ) (rs : List Interval) (ns : List ℕ) → are_in rs ns ≡ true → are_in (take k rs) (take k ns) ≡ true
unfolding are_in
are_take zero rs ns e = refl
are_take (suc k) [] [] e = e
are_take (suc k) [] (n ∷ ns) e = absurd (clash false e refl)
are_take (suc k) (r ∷ rs) [] e = absurd (clash false e refl)
are_take (suc k) (r ∷ rs) (n ∷ ns) e =
    and_both (is_in r n) (are_in (take k rs) (take k ns)) (and_left (is_in r n) (are_in rs ns) e)
    (are_take k rs ns (and_right (is_in r n) (are_in rs ns) e))

module _ (row : List ℕ) (sound : row_in_range row ≡ true) where
  -- Its tests but the last, and of these the first two.
  ordered : (are_in ranges row && is_paired (parameters_of row) && leb (word row last_change) (word row last_day)) ≡ true
  unfolding row_in_range
  ordered = and_left _ (eqb (word row preliminary % word row step) 0) sound

  paired : (are_in ranges row && is_paired (parameters_of row)) ≡ true
  paired = and_left _ (leb (word row last_change) (word row last_day)) ordered

  pub row_are : are_in ranges row ≡ true
  row_are = and_left (are_in ranges row) (is_paired (parameters_of row)) paired

  -- A row in range has its width.
  pub row_long : length row ≡ width
  row_long = are_long ranges row row_are

  -- Each of its words is in the range that the table gives for its place.
  pub row_word : (place : ℕ) → place < width → is_in (range_at place) (word row place) ≡ true
  row_word place h = are_at ranges row (0 up_to 0) row_are place h

  pub row_from : (place : ℕ) → place < width → (range_at place).from ≤ word row place
  row_from place h = in_from (range_at place) (word row place) (row_word place h)

  pub row_to : (place : ℕ) → place < width → word row place ≤ (range_at place).to
  row_to place h = in_to (range_at place) (word row place) (row_word place h)

  -- Its parameters are in range.
  pub row_parameters : parameters_in_range (parameters_of row) ≡ true
  unfolding parameters_in_range parameters_of
  row_parameters =
      and_both (are_in parameter_ranges (parameters_of row)) (is_paired (parameters_of row))
      (are_take parameter_count (drop alpha ranges) (drop alpha row) (are_drop alpha ranges row row_are))
      (and_right (are_in ranges row) (is_paired (parameters_of row)) paired)

  -- The day of its last change is not after its last day.
  pub row_change : word row last_change ≤ word row last_day
  row_change =
      leb-true (word row last_change) (word row last_day)
      (and_right (are_in ranges row && is_paired (parameters_of row)) (leb (word row last_change) (word row last_day)) ordered)

  -- Its preliminary is a multiple of h.
  pub row_multiple : word row preliminary % word row step ≡ 0
  unfolding row_in_range
  row_multiple =
      eqb-true (word row preliminary % word row step) 0
      (and_right (are_in ranges row && is_paired (parameters_of row) && leb (word row last_change) (word row last_day)) (eqb (word row preliminary % word row step) 0) sound)

-- What is asked of the words of a row in range: that they are there, and within their ends.
pub ruleset row_words = (row_long, row_from, row_to)
