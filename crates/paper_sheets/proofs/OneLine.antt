-- What is found of a line is the same whatever follows its LF. Assumes nothing.
use mathlib.Core.Path.{◌≡◌, refl, sym, ap, subst}
use mathlib.Core.Bool.{Bool, true, false, cond}
use mathlib.Core.List.{List, [], ◌∷◌, ◌++◌}
use Prim.Native.Nat.{ℕ, zero, suc, ◌+◌, ◌*◌, ◌-◌, ◌≤◌, zero-le, suc-le-suc}
use borrow.Author.Tests.{eqb-true}
use lib.Dec.{eqb}
use lib.ListN.{length, drop}
use lib.Seq.{drop-append-le}
use Rattle.paper_sheets.specs.Sheet.{line_feed, blank, minus, digit_zero, is_digit, digit_count, value_from, starts_with, is_number, Item, number, space, sign, Reading, stopped, at, onward, read_byte, read_item, read_items, read_line}
use Rattle.paper.specs.Each.{Each}

-- Bytes with no LF. Every text is such bytes, or such bytes before an LF.
abbrev pub Free : List ℕ → Type 0
Free bytes = Each (λ b. eqb b line_feed ≡ false) bytes

pub by_line : (P : List ℕ → Type 0) → ((l : List ℕ) → Free l → P l) → ((l rest : List ℕ) → Free l → P (l ++ line_feed ∷ rest)) → (text : List ℕ) → P text
by_line P unended ended [] = unended [] tt
by_line P unended ended (b ∷ bs) =
    go (eqb b line_feed) refl
    (λ e. by_line (λ text. P (b ∷ text)) (λ l free. unended (b ∷ l) (e, free)) (λ l rest free. ended (b ∷ l) rest (e, free)) bs)
  where
    go : (t : Bool) → eqb b line_feed ≡ t → (eqb b line_feed ≡ false → P (b ∷ bs)) → P (b ∷ bs)
    go true e on = subst (λ (b : ℕ). P (b ∷ bs)) (sym (eqb-true b line_feed e)) (ended [] bs tt)
    go false e on = on e

drop_free : (n : ℕ) (l : List ℕ) → Free l → Free (drop n l)
drop_free zero l free = free
drop_free (suc n) [] free = free
drop_free (suc n) (b ∷ bs) free = drop_free n bs free.1

-- What is left of such bytes has no LF.
abbrev left : Reading → List ℕ
left stopped = []
left (at ns text) = text

cond_free : (t : Bool) (r s : Reading) → Free (left r) → Free (left s) → Free (left (cond t r s))
cond_free true r s p q = p
cond_free false r s p q = q

item_free : (item : Item) (ns l : List ℕ) → Free l → Free (left (read_item item ns l))
unfolding read_item read_byte
item_free number ns l free = cond_free (is_number l) _ _ (drop_free (digit_count l) l free) tt
item_free space ns l free = cond_free (starts_with blank l) _ _ (drop_free 1 l free) tt
item_free sign ns l free =
    cond_free (starts_with minus l) _ _ (cond_free (starts_with digit_zero (drop 1 l)) _ _ tt (drop_free 1 l free)) free

items_free : (items : List Item) (ns l : List ℕ) → Free l → Free (left (read_items items ns l))
unfolding read_items
items_free [] ns l free = free
items_free (item ∷ items) ns l free = go (read_item item ns l) (item_free item ns l free) (items_free items)
  where
    go : (r : Reading) → Free (left r) → ((ns l : List ℕ) → Free l → Free (left (read_items items ns l))) → Free (left (onward (read_items items) r))
    go stopped p ih = tt
    go (at ns l) p ih = ih ns l p

-- Items are read alike before any LF.
abbrev extend : Reading → List ℕ → Reading
extend stopped text = stopped
extend (at ns l) text = at ns (l ++ text)

cond_extend : (t : Bool) (ns l text : List ℕ) → cond t (at ns (l ++ text)) stopped ≡ extend (cond t (at ns l) stopped) text
cond_extend true ns l text = refl
cond_extend false ns l text = refl

count_within : (l : List ℕ) → digit_count l ≤ length l
unfolding digit_count
count_within [] = zero-le
count_within (b ∷ bs) = go (is_digit b) (count_within bs)
  where
    go : (t : Bool) → digit_count bs ≤ length bs → cond t (suc (digit_count bs)) 0 ≤ suc (length bs)
    go true h = suc-le-suc h
    go false h = zero-le

module _ (rest : List ℕ) where
  count_before : (l : List ℕ) → digit_count (l ++ line_feed ∷ rest) ≡ digit_count l
  unfolding digit_count is_digit
  count_before [] = refl
  count_before (b ∷ bs) = ap (λ (n : ℕ). cond (is_digit b) (suc n) 0) (count_before bs)

  pub value_before : (l : List ℕ) (v : ℕ) → value_from v (l ++ line_feed ∷ rest) ≡ value_from v l
  unfolding value_from is_digit
  value_before [] v = refl
  value_before (b ∷ bs) v = ap (λ (n : ℕ). cond (is_digit b) n v) (value_before bs (v * 10 + (b - digit_zero)))

  starts_before : (b : ℕ) → eqb line_feed b ≡ false → (l : List ℕ) → starts_with b (l ++ line_feed ∷ rest) ≡ starts_with b l
  unfolding starts_with
  starts_before b e [] = e
  starts_before b e (c ∷ cs) = refl

  number_before : (l : List ℕ) → is_number (l ++ line_feed ∷ rest) ≡ is_number l
  unfolding is_number
  number_before l = rw (count_before l, starts_before digit_zero refl l)

  item_before : (item : Item) (ns l : List ℕ) → read_item item ns (l ++ line_feed ∷ rest) ≡ extend (read_item item ns l) (line_feed ∷ rest)
  unfolding read_item read_byte starts_with
  item_before number ns l =
      rw (number_before l, value_before l 0, count_before l, drop-append-le (digit_count l) l (line_feed ∷ rest) (count_within l)) (cond_extend (is_number l) _ _ _)
  item_before space ns [] = refl
  item_before space ns (b ∷ bs) = cond_extend (eqb b blank) ns bs (line_feed ∷ rest)
  item_before sign ns [] = refl
  item_before sign ns (b ∷ bs) = rw (starts_before digit_zero refl bs) (go (eqb b minus) (starts_with digit_zero bs))
    where
      go : (s t : Bool) → cond s (cond t stopped (at (ns ++ 1 ∷ []) (bs ++ line_feed ∷ rest))) (at (ns ++ 0 ∷ []) (b ∷ bs ++ line_feed ∷ rest)) ≡ extend (cond s (cond t stopped (at (ns ++ 1 ∷ []) bs)) (at (ns ++ 0 ∷ []) (b ∷ bs))) (line_feed ∷ rest)
      go true true = refl
      go true false = refl
      go false t = refl

  items_before : (items : List Item) (ns l : List ℕ) → read_items items ns (l ++ line_feed ∷ rest) ≡ extend (read_items items ns l) (line_feed ∷ rest)
  unfolding read_items
  items_before [] ns l = refl
  items_before (item ∷ items) ns l = rw (item_before item ns l) (go (read_item item ns l) (items_before items))
    where
      go : (r : Reading) → ((ns l : List ℕ) → read_items items ns (l ++ line_feed ∷ rest) ≡ extend (read_items items ns l) (line_feed ∷ rest)) → onward (read_items items) (extend r (line_feed ∷ rest)) ≡ extend (onward (read_items items) r) (line_feed ∷ rest)
      go stopped ih = refl
      go (at ns l) ih = ih ns l

-- Items that leave nothing of a line are the line, and the numbers that they keep.
abbrev pub is_whole : Reading → Bool
is_whole stopped = false
is_whole (at ns []) = true
is_whole (at ns (b ∷ bs)) = false

abbrev pub numbers : Reading → List ℕ
numbers stopped = []
numbers (at ns text) = ns

pub line_unended : (form : List Item) (ns l : List ℕ) → Free l → read_line form ns l ≡ stopped
unfolding read_line read_byte starts_with
line_unended form ns l free = go (read_items form ns l) (items_free form ns l free)
  where
    go : (r : Reading) → Free (left r) → onward (read_byte line_feed) r ≡ stopped
    go stopped p = refl
    go (at ns []) p = refl
    go (at ns (b ∷ bs)) p = rw p.0

pub line_ended : (form : List Item) (ns l rest : List ℕ) → Free l → read_line form ns (l ++ line_feed ∷ rest) ≡ cond (is_whole (read_items form ns l)) (at (numbers (read_items form ns l)) rest) stopped
unfolding read_line read_byte starts_with
line_ended form ns l rest free = rw (items_before rest form ns l) (go (read_items form ns l) (items_free form ns l free))
  where
    go : (r : Reading) → Free (left r) → onward (read_byte line_feed) (extend r (line_feed ∷ rest)) ≡ cond (is_whole r) (at (numbers r) rest) stopped
    go stopped p = refl
    go (at ns []) p = refl
    go (at ns (b ∷ bs)) p = rw p.0
