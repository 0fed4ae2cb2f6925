-- The cases worked by hand, P1 to P10, as one table. Each line says which case it is.
use Rattle.std.specs.Prelude.{ℕ, ◌≡◌, false, List, [], ◌∷◌, T, ℤ, pos, neg_ℤ}
use Rattle.paper.specs.Refusal.{Refusal}
use Rattle.paper.specs.Row.{weights, is_in}
use Rattle.paper.specs.Rates.{Day, Newer, Older, refused, move_from, move, next_variance, is_shock, candidate, candidate_on, published_margin}
use Rattle.paper.specs.Rates.{published_concentration, state_of, move_on, day_on}
use Rattle.paper.specs.Row.{parameters_of}
use Rattle.paper.specs.Corridor.{Terms, empty, between, corridor_on}
use Rattle.paper.specs.Calls.{day_number, day_figures, day_row, ticks_number}

-- The row that the example sheet opens, for this instrument, with this upper weight and these kept prices; the sheet's own is instrument 7.
abbrev pub sheet_row_of : ℕ → ℕ → ℕ → ℕ → List ℕ
sheet_row_of instrument upper newer older =
    instrument
    ∷ 2500
    ∷ upper
    ∷ 500
    ∷ 10000
    ∷ 2
    ∷ 2
    ∷ 8
    ∷ 0
    ∷ 50000
    ∷ 1000000
    ∷ 0
    ∷ 1000000
    ∷ 1
    ∷ 400000000
    ∷ 50000
    ∷ 50000
    ∷ 100000
    ∷ 95
    ∷ 100
    ∷ newer
    ∷ older
    ∷ 0
    ∷ []

abbrev pub sheet_row : ℕ → ℕ → ℕ → List ℕ
sheet_row = sheet_row_of 7

-- A day: its instrument, number, price, m and j; and one of instrument 7.
abbrev pub day_of : ℕ → ℕ → ℕ → ℕ → ℕ → Day
day_of instrument number price m j = record { instrument = instrument; day = number; price = price; m = m; j = j }

abbrev pub day_at : ℕ → ℕ → ℕ → ℕ → Day
day_at = day_of 7

-- The row that a day leaves.
abbrev pub row_after : List ℕ → Day → List ℕ
row_after row d = day_row row (day_on row d)

-- The sheet's row after its days 101 and 102, and then after day 103 at 103,000 with m 0.
abbrev pub after102 : List ℕ
after102 = row_after (row_after (sheet_row 2000 100000 100000) (day_at 101 103000 0 0)) (day_at 102 103000 6 0)

abbrev pub after103 : List ℕ
after103 = row_after after102 (day_at 103 103000 0 0)

-- The terms of a corridor with Shift 500 over x 2,000.
abbrev pub terms_at : ℕ → ℤ → ℤ → ℕ → ℕ → ℕ → Terms
terms_at k lower upper rise fall tick =
    record {
      k = k;
      lower = lower;
      upper = upper;
      shift = 500;
      x = 2000;
      rise = rise;
      fall = fall;
      tick = tick;
    }

pub record Worked : Type 0 where
  -- P1: from 300,000 to 300,001 is a move of 4.
  pub p1 : move_from 300000 300001 ≡ 4
  -- P2: from 100 to 200 is 1,000,000, accepted; to 201, refusal 7.
  pub p2_move : (move_on (sheet_row 2000 100 100) (day_at 101 200 0 0)).size ≡ 1000000
  pub p2_accepted : day_number (day_on (sheet_row 2000 100 100) (day_at 101 200 0 0)) ≡ 0
  pub p2_refused : day_on (sheet_row 2000 100 100) (day_at 101 201 0 0) ≡ refused Refusal.Move
  pub p2_number : day_number (day_on (sheet_row 2000 100 100) (day_at 101 201 0 0)) ≡ 7
  -- P3: V 1, D 0, lower weight 500: V stays 1, whatever the upper weight.
  pub p3 : (upper : ℕ) → T (is_in weights upper) → next_variance upper 500 1 0 ≡ 1
  -- P4: V 400,000,000, D 20,000: V unchanged under any weight.
  pub p4 : (upper lower : ℕ) → T (is_in weights upper) → T (is_in weights lower) → next_variance upper lower 400000000 20000 ≡ 400000000
  -- P5: the sheet, then day 103 at 103,000, m 0: V 551,000,000, candidate 60,000, preliminary kept at 70,000 (one day of two).
  pub p5 : day_figures (day_on after102 (day_at 103 103000 0 0)) ≡ 70000 ∷ 140000 ∷ 70000 ∷ 551000000 ∷ 1 ∷ 1 ∷ []
  pub p5_candidate : candidate_on (parameters_of after102) (state_of after102) 0 (move_on after102 (day_at 103 103000 0 0)).size 551000000 ≡ 60000
  -- P6: day 104 the same: V 523,450,000, preliminary 60,000.
  pub p6 : day_figures (day_on after103 (day_at 104 103000 0 0)) ≡ 60000 ∷ 120000 ∷ 60000 ∷ 523450000 ∷ 0 ∷ 1 ∷ []
  -- P7: preliminary 50,000, R 10,000, T 2, m 1, L 8, h 10,000, least rates 0, greatest 1,000,000: margin 80,000, concentration 150,000.
  pub p7_margin : published_margin 1 10000 2 10000 0 1000000 50000 1 ≡ 80000
  pub p7_concentration : published_concentration 1 10000 2 8 10000 0 1000000 50000 1 ≡ 150000
  -- P8: V 400,000,000, alpha 2,500, upper weight 500, D 61,000, published margin 50,000, h 10,000:
  -- candidate 70,000 with j 1, 60,000 with j 2, whatever the lower weight.
  pub p8_shock : (lower : ℕ) → candidate 10000 2500 (next_variance 500 lower 400000000 61000) 61000 (is_shock 50000 1 61000) ≡ 70000
  pub p8_calm : (lower : ℕ) → candidate 10000 2500 (next_variance 500 lower 400000000 61000) 61000 (is_shock 50000 2 61000) ≡ 60000
  pub p8_shock_day : day_figures (day_on (sheet_row 500 100000 100000) (day_at 101 106100 0 1)) ≡ 70000 ∷ 140000 ∷ 70000 ∷ 566050000 ∷ 0 ∷ 1 ∷ []
  pub p8_calm_day : day_figures (day_on (sheet_row 500 100000 100000) (day_at 101 106100 0 2)) ≡ 60000 ∷ 120000 ∷ 60000 ∷ 566050000 ∷ 0 ∷ 1 ∷ []
  -- P9: P 100,000, MR 60,000, Shift 500, x 2,000, repo 0, rise 50,000, fall 20,000, tick 1,000, M 1: 98,000 to 103,000.
  pub p9 : corridor_on 100000 60000 1 (terms_at 73 (pos 0) (pos 0) 50000 20000 1000) ≡ between 98000 103000
  -- P10: P 100, rise 0, fall 0, M 0, tick 1,000: refusal 8; tick 100: 100 to 100. Whatever the margin, k and the repo rates.
  pub p10_empty : (margin k : ℕ) (lower upper : ℤ) → corridor_on 100 margin 0 (terms_at k lower upper 0 0 1000) ≡ empty
  pub p10_number : (margin k : ℕ) (lower upper : ℤ) → ticks_number (corridor_on 100 margin 0 (terms_at k lower upper 0 0 1000)) ≡ 8
  pub p10_one : (margin k : ℕ) (lower upper : ℤ) → corridor_on 100 margin 0 (terms_at k lower upper 0 0 100) ≡ between 100 100

-- Cases in which what P1 to P10 leave open decides, worked apart.
pub record Edges : Type 0 where
  -- A move of one millionth more than a whole is refused.
  pub past_whole : (move_on (sheet_row 2000 1000000 1000000) (day_at 101 2000001 0 0)).size ≡ 1000001
  pub past_whole_refused : day_on (sheet_row 2000 1000000 1000000) (day_at 101 2000001 0 0) ≡ refused Refusal.Move
  -- The root of V is not rounded by itself: that of 576,000,001 is a little above 24,000, so 60,000 is below the need.
  pub root_unrounded : candidate 10000 2500 576000001 0 false ≡ 70000
  -- The spread and the repo factors decide both bounds: 100,000 times 0.97 times 0.9, and times 1.03 times 1.1.
  pub repo_decides : corridor_on 100000 60000 1 (terms_at 365 (neg_ℤ (pos 1000)) (pos 1000) 1000000 1000000 100) ≡ between 87300 113300
  -- s is above 1: the lower product is negative and bounds nothing, so the least positive tick is the lowest.
  pub negative_product :
      corridor_on 1000 1000000 1 (record { k = 0; lower = pos 0; upper = pos 0; shift = 1000; x = 1000; rise = 1000000; fall = 1000000; tick = 10 })
      ≡ between 10 2000

-- Which price gives the move, of the newer, the older and today's.
pub record WhichPrice : Type 0 where
  -- Both: two prices alike, and a rise and a fall by half.
  pub alike : move 100000 100000 103000 ≡ record { size = 30000; from = Newer }
  pub rise_and_fall : move 50 150 75 ≡ record { size = 500000; from = Newer }
  -- One alone, and by one millionth.
  pub newer_alone : move 100000 103000 103000 ≡ record { size = 30000; from = Newer }
  pub older_alone : move 103000 100000 103000 ≡ record { size = 30000; from = Older }
  pub newer_by_one : move 999998 999999 1000000 ≡ record { size = 3; from = Newer }
  pub older_by_one : move 999999 999998 1000000 ≡ record { size = 3; from = Older }
  -- Both once rounded up: 1.999996 and 1.000001 millionths are 2, whichever price has the more.
  pub newer_has_more : move 1000002 999999 1000000 ≡ record { size = 2; from = Newer }
  pub older_has_more : move 999999 1000002 1000000 ≡ record { size = 2; from = Newer }
  -- None on a refused day: one that is stale, and one that is too far from the older price alone.
  pub stale : day_figures (day_on (sheet_row 2000 103000 100000) (day_at 100 103000 0 0)) ≡ 0 ∷ 0 ∷ 0 ∷ 0 ∷ 0 ∷ 0 ∷ []
  pub too_far : day_figures (day_on (sheet_row 2000 200 100) (day_at 101 201 0 0)) ≡ 0 ∷ 0 ∷ 0 ∷ 0 ∷ 0 ∷ 0 ∷ []

-- A row whose words all differ and all matter: R is not 0, the margin's least and greatest are not the concentration's, and T and L are not n.
abbrev pub distinct_row : ℕ → ℕ → ℕ → ℕ → List ℕ
distinct_row M variance preliminary last_change =
    11
    ∷ 2600
    ∷ 1500
    ∷ 700
    ∷ 5000
    ∷ 4
    ∷ 3
    ∷ 7
    ∷ 12000
    ∷ 60000
    ∷ 240000
    ∷ 90000
    ∷ 310000
    ∷ M
    ∷ variance
    ∷ preliminary
    ∷ 120000
    ∷ 200000
    ∷ last_change
    ∷ 300
    ∷ 50000
    ∷ 48000
    ∷ 0
    ∷ []

-- Its days, each a figure or a row that some exchange of two words would change. The moves are 62,500 and 41,667, both from the older price.
pub record DistinctDays : Type 0 where
  -- A rise to 100,000: the upper weight, and rates that no least and no greatest bounds.
  pub rises : day_figures (day_on (distinct_row 1 900000000 85000 298) (day_of 11 301 51000 2 1)) ≡ 145000 ∷ 220000 ∷ 100000 ∷ 1350937500 ∷ 0 ∷ 2 ∷ []
  -- The row that it leaves.
  pub leaves :
      row_after (distinct_row 1 900000000 85000 298) (day_of 11 301 51000 2 1)
      ≡ 11 ∷ 2600 ∷ 1500 ∷ 700 ∷ 5000 ∷ 4 ∷ 3 ∷ 7 ∷ 12000 ∷ 60000 ∷ 240000 ∷ 90000 ∷ 310000 ∷ 1
      ∷ 1350937500 ∷ 100000 ∷ 145000 ∷ 220000 ∷ 301 ∷ 301 ∷ 51000 ∷ 50000 ∷ 0 ∷ []
  -- Thirty days ahead: each rate at its own greatest.
  pub greatest : day_figures (day_on (distinct_row 1 900000000 85000 298) (day_of 11 301 51000 30 1)) ≡ 240000 ∷ 310000 ∷ 100000 ∷ 1350937500 ∷ 0 ∷ 2 ∷ []
  -- A low need: each rate at its own least.
  pub least : day_figures (day_on (distinct_row 1 1 0 298) (day_of 11 301 50000 0 1)) ≡ 60000 ∷ 90000 ∷ 45000 ∷ 260420835 ∷ 0 ∷ 2 ∷ []
  -- Not monitored.
  pub unmonitored : day_figures (day_on (distinct_row 0 900000000 85000 298) (day_of 11 301 51000 2 1)) ≡ 60000 ∷ 90000 ∷ 100000 ∷ 1350937500 ∷ 0 ∷ 2 ∷ []
  -- A variance above the move's square: the lower weight.
  pub by_lower_weight : day_figures (day_on (distinct_row 1 9000000000 85000 298) (day_of 11 301 51000 2 1)) ≡ 240000 ∷ 310000 ∷ 245000 ∷ 8643437500 ∷ 0 ∷ 2 ∷ []
  -- A fall that waits, three days of four, and one that has waited.
  pub waits : day_figures (day_on (distinct_row 1 1 150000 298) (day_of 11 301 50000 2 1)) ≡ 210000 ∷ 310000 ∷ 150000 ∷ 260420835 ∷ 3 ∷ 2 ∷ []
  pub falls : day_figures (day_on (distinct_row 1 1 150000 297) (day_of 11 301 50000 2 1)) ≡ 200000 ∷ 305000 ∷ 145000 ∷ 260420835 ∷ 0 ∷ 2 ∷ []
