-- The laws of a number's digits: how many it has, what they are read back as, and that a text that starts with a number starts with that number's digits. Assumes nothing.
use mathlib.Core.Path.{◌≡◌, refl, sym, ap, subst, ◌∙◌}
use mathlib.Core.Logic.{⊎_elim}
use mathlib.Core.Bool.{Bool, true, false, cond, not, ◌&&◌, ◌||◌}
use mathlib.Core.List.{List, [], ◌∷◌, ◌++◌, append_assoc, append-nil}
use Prim.Native.Nat.{ℕ, zero, suc, ◌+◌, ◌*◌, ◌-◌, ◌/◌, ◌%◌, ◌^◌, ◌≤◌, ◌<◌}
use native.Mathlib.Nat.{le_refl, le_antisymm, lt_of_not-le, pow-suc, pow-le-pow_right, mul_assoc, mul_comm, one-mul, add-mul, div-lt_iff_lt-mul, div-add-mod', mod-lt, one-le-pow, mul-le-mul_right, lt_of_lt_of_le}
use native.Mathlib.Numerals.{sub-one}
use native.Mathlib.Omega.{arith}
use borrow.Author.Tests.{leb-true, le-leb, ltb-true, ltb-false, lt-ltb, eqb-true, eqb-false, eq-eqb, not-true}
use lib.Dec.{leb, ltb, eqb, lit<}
use lib.ListN.{length, drop, get_or, length-append}
use lib.Seq.{drop_at}
use Rattle.paper_sheets.specs.Sheet.{digit_zero, most_digits, digits, places, decimal, is_digit, digit_count, value_from, starts_with, is_number, read_item}
use Rattle.paper_sheets.specs.Written.{AreShort}
use Rattle.paper.specs.Each.{Each}
use Rattle.paper_sheets.specs.Promises.Sheet.{DecimalMeans, ReadBack}
use Rattle.paper.proofs.Tests.{clash, not_passed, and_left, and_right, and_both, or_cases, or_left, or_right}
use Rattle.paper.proofs.Least.{least_passes, least_below, least_least}

-- A digit is a byte from 48 to 57.
pub digit_from : (b : ℕ) → is_digit b ≡ true → digit_zero ≤ b
unfolding is_digit
digit_from b e = leb-true digit_zero b (and_left (leb digit_zero b) (leb b 57) e)

pub digit_to : (b : ℕ) → is_digit b ≡ true → b ≤ 57
unfolding is_digit
digit_to b e = leb-true b 57 (and_right (leb digit_zero b) (leb b 57) e)

pub digit_between : (b : ℕ) → digit_zero ≤ b → b ≤ 57 → is_digit b ≡ true
unfolding is_digit
digit_between b l h = and_both (leb digit_zero b) (leb b 57) (le-leb digit_zero b l) (le-leb b 57 h)

pub last_digit : (n : ℕ) → is_digit (digit_zero + n % 10) ≡ true
last_digit n = digit_between (digit_zero + n % 10) (omega arith) (omega arith)

-- The count and the value of a text that starts with a digit, and of one that does not.
pub count_digit : (b : ℕ) (bs : List ℕ) → is_digit b ≡ true → digit_count (b ∷ bs) ≡ suc (digit_count bs)
unfolding digit_count
count_digit b bs e = ap (λ (t : Bool). cond t (suc (digit_count bs)) 0) e

pub value_digit : (v b : ℕ) (bs : List ℕ) → is_digit b ≡ true → value_from v (b ∷ bs) ≡ value_from (v * 10 + (b - digit_zero)) bs
unfolding value_from
value_digit v b bs e = ap (λ (t : Bool). cond t (value_from (v * 10 + (b - digit_zero)) bs) v) e

pub count_none : (text : List ℕ) → is_digit (get_or text 0 0) ≡ false → digit_count text ≡ 0
unfolding digit_count
count_none [] e = refl
count_none (b ∷ bs) e = ap (λ (t : Bool). cond t (suc (digit_count bs)) 0) e

pub value_none : (v : ℕ) (text : List ℕ) → is_digit (get_or text 0 0) ≡ false → value_from v text ≡ v
unfolding value_from
value_none v [] e = refl
value_none v (b ∷ bs) e = ap (λ (t : Bool). cond t (value_from (v * 10 + (b - digit_zero)) bs) v) e

-- A text with digits starts with one, so with no byte that is none.
pub starts_with_lem : (b : ℕ) (text : List ℕ) → starts_with b text ≡ true → get_or text 0 0 ≡ b
unfolding starts_with
starts_with_lem b [] e = absurd (clash false e refl)
starts_with_lem b (c ∷ cs) e = eqb-true c b e

pub starts_with_digit : (b : ℕ) (text : List ℕ) → 1 ≤ digit_count text → is_digit b ≡ false → starts_with b text ≡ false
starts_with_digit b text some e =
    not_passed (starts_with b text) (λ f. absurd (omega (arith, count_none text (rw (starts_with_lem b text f) e))))

-- Each of a number's digits is a digit.
pub each_append : {A : Type 0} (P : A → Type 0) (xs ys : List A) → Each P xs → Each P ys → Each P (xs ++ ys)
each_append P [] ys p q = q
each_append P (x ∷ xs) ys p q = (p.0, each_append P xs ys p.1 q)

pub digits_each : (k n : ℕ) → Each (λ b. is_digit b ≡ true) (digits k n)
unfolding digits
digits_each zero n = tt
digits_each (suc k) n = each_append (λ b. is_digit b ≡ true) (digits k (n / 10)) _ (digits_each k (n / 10)) (last_digit n, tt)

-- The digits of a number before a text: as many as are asked, and their value is the number.
pub digits_length : (k n : ℕ) → length (digits k n) ≡ k
unfolding digits
digits_length zero n = refl
digits_length (suc k) n = rw length-append (omega (arith, digits_length k (n / 10)))

pub digits_count : (k n : ℕ) (rest : List ℕ) → digit_count (digits k n ++ rest) ≡ k + digit_count rest
unfolding digits
digits_count zero n rest = omega arith
digits_count (suc k) n rest =
    let d = digit_zero + n % 10 in
    ap digit_count (append_assoc (digits k (n / 10)) (d ∷ []) rest)
    ∙ (digits_count k (n / 10) (d ∷ rest) ∙ omega (arith, count_digit d rest (last_digit n)))

pub digits_value : (k n v : ℕ) (rest : List ℕ) → n < 10 ^ k → value_from v (digits k n ++ rest) ≡ value_from (v * 10 ^ k + n) rest
unfolding digits
digits_value zero n v rest h = ap (λ (m : ℕ). value_from m rest) (omega arith)
digits_value (suc k) n v rest h =
    let d = digit_zero + n % 10 in
    let shorter : n < 10 ^ k * 10 = rw (← pow-suc 10 k) h in
    ap (value_from v) (append_assoc (digits k (n / 10)) (d ∷ []) rest)
    ∙ (digits_value k (n / 10) v (d ∷ rest) (omega arith)
    ∙ (value_digit (v * 10 ^ k + n / 10) d rest (last_digit n)
    ∙ ap (λ (m : ℕ). value_from m rest) (rw (pow-suc, ← mul_assoc) (omega arith))))

-- A search for the places of a number ends: no number has more digits than its size.
size_fits : (n : ℕ) → n < 10 ^ n
size_fits zero = lit< tt
size_fits (suc n) = rw pow-suc (omega (arith, size_fits n))

-- The places of a number are the only count, not 0, under which the number fits, and under no smaller one.
pub places_positive : (n : ℕ) → 1 ≤ places n
unfolding places
places_positive n = omega arith

pub below_places : (n : ℕ) → n < 10 ^ places n
unfolding places
below_places n =
    ltb-true n _
    (least_passes (λ (k : ℕ). ltb n (10 ^ suc k)) n n (le_refl n)
    (lt-ltb n (10 ^ suc n) (rw pow-suc (omega (arith, size_fits n)))))

pub places_least : (n k : ℕ) → 1 ≤ k → n < 10 ^ k → places n ≤ k
unfolding places
places_least n zero p h = absurd (omega arith)
places_least n (suc k) p h =
    omega (arith, least_least (λ (i : ℕ). ltb n (10 ^ suc i)) n k (lt-ltb n (10 ^ suc k) h))

pub places_above : (n k : ℕ) → 1 ≤ k → k < places n → 10 ^ k ≤ n
unfolding places
places_above n zero p h = absurd (omega arith)
places_above n (suc k) p h =
    ltb-false n (10 ^ suc k) (least_below (λ (i : ℕ). ltb n (10 ^ suc i)) n k (omega arith))

pub places_only : (n k : ℕ) → 1 ≤ k → n < 10 ^ k → (1 < k → 10 ^ (k - 1) ≤ n) → places n ≡ k
places_only n k p h above =
    le_antisymm (places_least n k p h)
    (omega (
      arith,
      lt_of_not-le (λ (l : places n < k).
          let under : 10 ^ places n ≤ 10 ^ (k - 1) = pow-le-pow_right (lit< tt) (omega arith) in
          omega (arith, below_places n, above (omega (arith, places_positive n)))),
    ))

pub places_20 : (n : ℕ) → n < 18446744073709551616 → places n ≤ 20
places_20 n h = places_least n 20 (omega arith) (omega arith)

pub places_18 : (n : ℕ) → n < 10 ^ most_digits → places n ≤ most_digits
places_18 n h = places_least n most_digits (omega arith) h

-- The first of the digits of a number that fits them, and the digits of what is left.
pub digits_head : (k e m : ℕ) → e ≤ 9 → m < 10 ^ k → digits (suc k) (e * 10 ^ k + m) ≡ (digit_zero + e) ∷ digits k m
unfolding digits
digits_head zero e m p h = ap (λ (n : ℕ). (digit_zero + n) ∷ []) (omega arith)
digits_head (suc k) e m p h =
    let shorter : m < 10 ^ k * 10 = rw (← pow-suc 10 k) h in
    let whole : e * 10 ^ suc k + m ≡ e * 10 ^ k * 10 + m = rw (pow-suc, ← mul_assoc) in
    let front : (e * 10 ^ suc k + m) / 10 ≡ e * 10 ^ k + m / 10 = omega arith in
    let back : (e * 10 ^ suc k + m) % 10 ≡ m % 10 = omega arith in
    (λ i. digits (suc k) (front i) ++ (digit_zero + back i) ∷ [])
    ∙ ap (λ (ds : List ℕ). ds ++ (digit_zero + m % 10) ∷ []) (digits_head k e (m / 10) p (omega arith))

-- The number as text: as long as its places, before what is no digit its value and its count are read back, and it starts with 0 only if it is 0.
pub decimal_length : (n : ℕ) → length (decimal n) ≡ places n
unfolding decimal
decimal_length n = digits_length (places n) n

pub decimal_some : (n : ℕ) (rest : List ℕ) → 1 ≤ digit_count (decimal n ++ rest)
unfolding decimal
decimal_some n rest = omega (arith, digits_count (places n) n rest, places_positive n)

pub decimal_count : (n : ℕ) (rest : List ℕ) → is_digit (get_or rest 0 0) ≡ false → digit_count (decimal n ++ rest) ≡ places n
unfolding decimal
decimal_count n rest e = omega (arith, digits_count (places n) n rest, count_none rest e)

pub decimal_value : (n : ℕ) (rest : List ℕ) → is_digit (get_or rest 0 0) ≡ false → value_from 0 (decimal n ++ rest) ≡ n
unfolding decimal
decimal_value n rest e =
    digits_value (places n) n 0 rest (below_places n) ∙ value_none (0 * 10 ^ places n + n) rest e ∙ omega arith

pub decimal_drop : (n : ℕ) (rest : List ℕ) → is_digit (get_or rest 0 0) ≡ false → drop (digit_count (decimal n ++ rest)) (decimal n ++ rest) ≡ rest
decimal_drop n rest e = drop_at (decimal n) rest _ (decimal_length n ∙ sym (decimal_count n rest e))

-- A number's text starts with 0 only if the number is 0.
digits_first : (k n : ℕ) → n < 10 ^ suc k → digits (suc k) n ≡ (digit_zero + n / 10 ^ k) ∷ digits k (n % 10 ^ k)
digits_first k n h =
    let some : 0 < 10 ^ k = one-le-pow k 10 (lit< tt) in
    let high : n / 10 ^ k < 10 = (div-lt_iff_lt-mul some).1 (omega (arith, pow-suc 10 k)) in
    ap (digits (suc k)) (sym (div-add-mod' n (10 ^ k)))
    ∙ digits_head k (n / 10 ^ k) (n % 10 ^ k) (omega arith) (mod-lt n some)

pub decimal_zero : (n : ℕ) (rest : List ℕ) → starts_with digit_zero (decimal n ++ rest) ≡ true → n ≡ 0
unfolding decimal starts_with
decimal_zero n rest e = go (places n) refl
  where
    last : (k : ℕ) → places n ≡ suc k → n < 10 ^ k → n ≡ 0
    last zero p h = omega arith
    last (suc k) p h = absurd (omega (arith, places_above n (suc k) (omega arith) (omega arith)))

    go : (k : ℕ) → places n ≡ k → n ≡ 0
    go zero p = absurd (omega (arith, places_positive n))
    go (suc k) p =
        let below : n < 10 ^ suc k = rw (← p) (below_places n) in
        let first : eqb (digit_zero + n / 10 ^ k) digit_zero ≡ true
        = rw (p, digits_first k n below) at e in
        last k p (rw one-mul at ((div-lt_iff_lt-mul {k = 10 ^ k} {x = n} {y = 1} (one-le-pow k 10 (lit< tt))).0 (omega (arith, eqb-true (digit_zero + n / 10 ^ k) digit_zero first))))

-- A text before its first byte that is no digit is the digits of its value, as many as it has.
by_digits : (P : List ℕ → Type 0) → ((text : List ℕ) → is_digit (get_or text 0 0) ≡ false → P text) → ((b : ℕ) (bs : List ℕ) → is_digit b ≡ true → P bs → P (b ∷ bs)) → (text : List ℕ) → P text
unfolding is_digit
by_digits P none next [] = none [] refl
by_digits P none next (b ∷ bs) = go (is_digit b) refl (by_digits P none next bs)
  where
    go : (t : Bool) → is_digit b ≡ t → P bs → P (b ∷ bs)
    go true e h = next b bs e h
    go false e h = none (b ∷ bs) e

shifted : (v d p : ℕ) → (v * 10 + d) * p ≡ v * (p * 10) + d * p
shifted v d p = simp (add-mul, mul_assoc, mul_comm 10 p)

pub text_value : (text : List ℕ) (v : ℕ) → value_from v text ≡ v * 10 ^ digit_count text + value_from 0 text
text_value =
    by_digits (λ text. (v : ℕ) → value_from v text ≡ v * 10 ^ digit_count text + value_from 0 text)
    (λ text e v. rw (count_none text e, value_none v text e, value_none 0 text e) (omega arith))
    (λ b bs e ih v. rw (count_digit b bs e, value_digit v b bs e, value_digit 0 b bs e, pow-suc, ih (v * 10 + (b - digit_zero)), ih (0 * 10 + (b - digit_zero)), shifted v) (omega arith))

value_first : (b : ℕ) (bs : List ℕ) → is_digit b ≡ true → value_from 0 (b ∷ bs) ≡ (b - digit_zero) * 10 ^ digit_count bs + value_from 0 bs
value_first b bs e =
    value_digit 0 b bs e ∙ text_value bs (0 * 10 + (b - digit_zero)) ∙ ap (λ (d : ℕ). d * 10 ^ digit_count bs + value_from 0 bs) (omega arith)

pub text_below : (text : List ℕ) → value_from 0 text < 10 ^ digit_count text
text_below =
    by_digits (λ text. value_from 0 text < 10 ^ digit_count text)
    (λ text e. rw (count_none text e, value_none 0 text e) (omega arith))
    (λ b bs e ih.
    let d : b - digit_zero ≤ 9 = omega (arith, digit_to b e) in
    rw (count_digit b bs e, value_first b bs e, pow-suc) (omega (arith, mul-le-mul_right (10 ^ digit_count bs) d)))

pub text_digits : (text : List ℕ) → text ≡ digits (digit_count text) (value_from 0 text) ++ drop (digit_count text) text
unfolding digits
text_digits =
    by_digits (λ text. text ≡ digits (digit_count text) (value_from 0 text) ++ drop (digit_count text) text)
    (λ text e. rw (count_none text e))
    (λ b bs e ih.
    let same : b ≡ digit_zero + (b - digit_zero) = omega (arith, digit_from b e) in
    rw (count_digit b bs e, value_first b bs e, digits_head (digit_count bs) (b - digit_zero) (value_from 0 bs) (omega (arith, digit_to b e)) (text_below bs))
    (λ i. same i ∷ ih i))

pub text_rest : (text : List ℕ) → is_digit (get_or (drop (digit_count text) text) 0 0) ≡ false
text_rest =
    by_digits (λ text. is_digit (get_or (drop (digit_count text) text) 0 0) ≡ false)
    (λ text e. rw (count_none text e) e)
    (λ b bs e ih. rw (count_digit b bs e) ih)

text_above : (text : List ℕ) → 1 ≤ digit_count text → starts_with digit_zero text ≡ false → 10 ^ (digit_count text - 1) ≤ value_from 0 text
unfolding starts_with
text_above =
    by_digits (λ text. 1 ≤ digit_count text → starts_with digit_zero text ≡ false → 10 ^ (digit_count text - 1) ≤ value_from 0 text)
    (λ text e some. absurd (omega (arith, count_none text e)))
    (λ b bs e ih some f.
    let high : 1 ≤ b - digit_zero = omega (arith, digit_from b e, eqb-false b digit_zero f) in
    rw (count_digit b bs e, sub-one, value_first b bs e) (omega (arith, mul-le-mul_right (10 ^ digit_count bs) high)))

-- A text that starts with a number: its count, its value, and that it starts with the number's own text.
module _ (text : List ℕ) (is : is_number text ≡ true) where
  enough : Bool
  enough = leb 1 (digit_count text)

  few : Bool
  few = leb (digit_count text) most_digits

  plain : Bool
  plain = eqb (digit_count text) 1 || not (starts_with digit_zero text)

  pub number_some : 1 ≤ digit_count text
  unfolding is_number enough few plain
  number_some = leb-true 1 (digit_count text) (and_left enough few (and_left (enough && few) plain is))

  pub number_few : digit_count text ≤ most_digits
  unfolding is_number enough few plain
  number_few = leb-true (digit_count text) most_digits (and_right enough few (and_left (enough && few) plain is))

  pub number_places : places (value_from 0 text) ≡ digit_count text
  unfolding is_number enough few plain
  number_places =
      places_only (value_from 0 text) (digit_count text) number_some (text_below text)
      (λ more.
      ⊎_elim (λ one. absurd (omega (arith, eqb-true (digit_count text) 1 one)))
      (λ e. text_above text number_some (not-true (starts_with digit_zero text) e))
      (or_cases (eqb (digit_count text) 1) (not (starts_with digit_zero text)) (and_right (enough && few) plain is)))

  pub number_below : value_from 0 text < 10 ^ most_digits
  number_below = lt_of_lt_of_le (text_below text) (pow-le-pow_right (lit< tt) number_few)

  pub number_text : text ≡ decimal (value_from 0 text) ++ drop (digit_count text) text
  unfolding decimal
  number_text = rw number_places (text_digits text)

-- The text of a number, before what is no digit, starts with a number, and the number is read back.
pub decimal_number : (n : ℕ) (rest : List ℕ) → n < 10 ^ most_digits → is_digit (get_or rest 0 0) ≡ false → is_number (decimal n ++ rest) ≡ true
unfolding is_number
decimal_number n rest h e =
    let text = decimal n ++ rest in
    let count : digit_count text ≡ places n = decimal_count n rest e in
    and_both (leb 1 (digit_count text) && leb (digit_count text) most_digits) _
    (and_both (leb 1 (digit_count text)) _
    (le-leb 1 (digit_count text) (omega (arith, places_positive n)))
    (le-leb (digit_count text) most_digits (omega (arith, places_18 n h))))
    (go (starts_with digit_zero text) refl)
  where
    go : (t : Bool) → starts_with digit_zero (decimal n ++ rest) ≡ t → (eqb (digit_count (decimal n ++ rest)) 1 || not t) ≡ true
    go false f = or_right (eqb (digit_count (decimal n ++ rest)) 1) true refl
    go true f =
        let none : n ≡ 0 = decimal_zero n rest f in
        or_left (eqb (digit_count (decimal n ++ rest)) 1) false (eq-eqb (digit_count (decimal n ++ rest)) 1 (omega (arith, decimal_count n rest e, places_positive n, places_least n 1 (omega arith) (omega arith))))

pub decimal_means : DecimalMeans
decimal_means n = subst (λ (text : List ℕ). value_from 0 text ≡ n) (append-nil (decimal n)) (decimal_value n [] (unfold is_digit in refl))

pub read_back : ReadBack
unfolding read_item
read_back n ns rest h e = rw (decimal_number n rest h e, decimal_value n rest e, decimal_drop n rest e)

-- A number among short ones is short.
pub short_at : (ns : List ℕ) (i : ℕ) → AreShort ns → get_or ns i 0 < 10 ^ most_digits
short_at [] i h = lit< tt
short_at (n ∷ ns) zero h = h.0
short_at (n ∷ ns) (suc i) h = short_at ns i h.1
