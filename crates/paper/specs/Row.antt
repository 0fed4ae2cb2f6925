-- A row of the book: the place of each word by name, the range of each word, and what it is for a row to be in range.
use Rattle.std.specs.Prelude.{ℕ, ◌-◌, ◌%◌, Bool, true, false, ◌&&◌, List, [], ◌∷◌, leb, eqb, get_or, take, drop}

-- The places of a row's words, and how many there are.
abbrev pub instrument : ℕ
instrument = 0

abbrev pub alpha : ℕ
alpha = 1

abbrev pub upper_weight : ℕ
upper_weight = 2

abbrev pub lower_weight : ℕ
lower_weight = 3

abbrev pub step : ℕ
step = 4

abbrev pub no_fall : ℕ
no_fall = 5

abbrev pub horizon : ℕ
horizon = 6

abbrev pub long_horizon : ℕ
long_horizon = 7

abbrev pub add_on : ℕ
add_on = 8

abbrev pub least_margin : ℕ
least_margin = 9

abbrev pub greatest_margin : ℕ
greatest_margin = 10

abbrev pub least_concentration : ℕ
least_concentration = 11

abbrev pub greatest_concentration : ℕ
greatest_concentration = 12

abbrev pub monitored : ℕ
monitored = 13

abbrev pub variance : ℕ
variance = 14

abbrev pub preliminary : ℕ
preliminary = 15

abbrev pub margin : ℕ
margin = 16

abbrev pub concentration : ℕ
concentration = 17

abbrev pub last_change : ℕ
last_change = 18

abbrev pub last_day : ℕ
last_day = 19

abbrev pub newer : ℕ
newer = 20

abbrev pub older : ℕ
older = 21

abbrev pub halted : ℕ
halted = 22

abbrev pub width : ℕ
width = 23

-- The parameters are the words from alpha to M.
abbrev pub parameter_count : ℕ
parameter_count = 13

-- A range, both ends counted.
pub record Interval : Type 0 where
  pub from : ℕ
  pub to : ℕ

infix 20 ◌up_to◌
abbrev pub ◌up_to◌ : ℕ → ℕ → Interval
a up_to b = record { from = a; to = b }

-- The ranges that stand more than once.
abbrev pub instruments : Interval
instruments = 1 up_to 999999999

abbrev pub weights : Interval
weights = 1 up_to 10000

abbrev pub millionths : Interval
millionths = 0 up_to 1000000

abbrev pub day_numbers : Interval
day_numbers = 0 up_to 999999

abbrev pub prices : Interval
prices = 1 up_to 1000000000

abbrev pub switches : Interval
switches = 0 up_to 1

-- The table of ranges, a line a word, in the order of a row's words.
abbrev pub ranges : List Interval
ranges =
    instruments  -- instrument
    ∷ (1000 up_to 4000)  -- alpha, thousandths
    ∷ weights  -- upper weight, ten-thousandths
    ∷ weights  -- lower weight, ten-thousandths
    ∷ (1000 up_to 100000)  -- step h, millionths
    ∷ (0 up_to 250)  -- no-fall period n, calendar days
    ∷ (1 up_to 10)  -- horizon T, days
    ∷ (1 up_to 60)  -- concentration horizon L, days
    ∷ millionths  -- liquidity add-on R
    ∷ millionths  -- least margin
    ∷ millionths  -- greatest margin
    ∷ millionths  -- least concentration
    ∷ millionths  -- greatest concentration
    ∷ switches  -- monitored M
    ∷ (0 up_to 1000000000000)  -- variance V, square millionths
    ∷ (0 up_to 4100000)  -- preliminary rate, millionths
    ∷ millionths  -- published margin
    ∷ millionths  -- published concentration
    ∷ day_numbers  -- day of the last change
    ∷ day_numbers  -- last day
    ∷ prices  -- newer price
    ∷ prices  -- older price
    ∷ switches  -- halted
    ∷ []

-- The range of the word at a place.
abbrev pub range_at : ℕ → Interval
range_at place = get_or ranges place (0 up_to 0)

-- The ranges of the parameters: the same table from alpha on.
abbrev pub parameter_ranges : List Interval
parameter_ranges = take parameter_count (drop alpha ranges)

-- A number is in a range.
unfoldable pub is_in : Interval → ℕ → Bool
is_in range n = leb range.from n && leb n range.to

-- Numbers are in range, each in its own, as many as there are ranges.
unfoldable pub are_in : List Interval → List ℕ → Bool
are_in [] [] = true
are_in [] (n ∷ ns) = false
are_in (range ∷ rs) [] = false
are_in (range ∷ rs) (n ∷ ns) = is_in range n && are_in rs ns

-- The word of a row at a place.
abbrev pub word : List ℕ → ℕ → ℕ
word row place = get_or row place 0

-- The parameters of a row, and the one that stands in the row at a place.
unfoldable pub parameters_of : List ℕ → List ℕ
parameters_of row = take parameter_count (drop alpha row)

abbrev pub parameter : List ℕ → ℕ → ℕ
parameter ps place = get_or ps (place - alpha) 0

-- The pairings: least not above greatest, for the margin and for the concentration.
unfoldable pub is_paired : List ℕ → Bool
is_paired ps =
    leb (parameter ps least_margin) (parameter ps greatest_margin)
    && leb (parameter ps least_concentration) (parameter ps greatest_concentration)

-- The thirteen parameters are in range.
unfoldable pub parameters_in_range : List ℕ → Bool
parameters_in_range ps = are_in parameter_ranges ps && is_paired ps

-- A row is in range: each word in its own, the pairings, the day of the last change not after the last day, and the preliminary a multiple of h.
unfoldable pub row_in_range : List ℕ → Bool
row_in_range row =
    are_in ranges row && is_paired (parameters_of row) && leb (word row last_change) (word row last_day) && eqb (word row preliminary % word row step) 0

-- A row is halted: it takes no day and gives no corridor.
unfoldable pub is_halted : List ℕ → Bool
is_halted row = eqb (word row halted) 1
