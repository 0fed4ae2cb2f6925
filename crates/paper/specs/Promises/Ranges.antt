-- What it is for values to be in range: each quantity by its name, both ends as the methodology prints them.
use Rattle.std.specs.Prelude.{ℕ, ◌*◌, ◌≤◌, ◌≡◌, true, List, ◌↔◌, pos, ◌-ℤ◌, length}
use Rattle.paper.specs.Row as Row
use Rattle.paper.specs.Row.{word, parameters_of, parameters_in_range, row_in_range}
use Rattle.paper.specs.Rates.{Day, day_in_range}
use Rattle.paper.specs.Corridor.{Terms, terms_in_range}
use Rattle.paper.specs.Bond.{Bond, bond_in_range}
use Rattle.paper.specs.Values.{Parameters, parameter_words, Values, words}

-- A number is from one end to the other, both counted.
pub record IsFrom (low high n : ℕ) : Type 0 where
  pub not_below : low ≤ n
  pub not_above : n ≤ high

-- The thirteen parameters are in range, and least is not above greatest, twice.
pub record AreParameters (p : Parameters) : Type 0 where
  pub alpha : IsFrom 1000 4000 p.alpha
  pub upper : IsFrom 1 10000 p.upper
  pub lower : IsFrom 1 10000 p.lower
  pub h : IsFrom 1000 100000 p.h
  pub n : IsFrom 0 250 p.n
  pub T : IsFrom 1 10 p.T
  pub L : IsFrom 1 60 p.L
  pub R : IsFrom 0 1000000 p.R
  pub least_margin : IsFrom 0 1000000 p.least_margin
  pub greatest_margin : IsFrom 0 1000000 p.greatest_margin
  pub least_concentration : IsFrom 0 1000000 p.least_concentration
  pub greatest_concentration : IsFrom 0 1000000 p.greatest_concentration
  pub M : IsFrom 0 1 p.M
  pub margins : p.least_margin ≤ p.greatest_margin
  pub concentrations : p.least_concentration ≤ p.greatest_concentration

-- The values of a row are in range, the day of the last change is not after the last day, and the preliminary is a multiple of h.
pub record AreValues (v : Values) : Type 0 where
  pub instrument : IsFrom 1 999999999 v.instrument
  pub parameters : AreParameters v.parameters
  pub variance : IsFrom 0 1000000000000 v.variance
  pub preliminary : IsFrom 0 4100000 v.preliminary
  pub margin : IsFrom 0 1000000 v.margin
  pub concentration : IsFrom 0 1000000 v.concentration
  pub last_change : IsFrom 0 999999 v.last_change
  pub last_day : IsFrom 0 999999 v.last_day
  pub newer : IsFrom 1 1000000000 v.newer
  pub older : IsFrom 1 1000000000 v.older
  pub halted : IsFrom 0 1 v.halted
  pub change : v.last_change ≤ v.last_day
  pub steps : ℕ
  pub multiple : v.preliminary ≡ v.parameters.h * steps

-- A list is the words of values in range; or the words of parameters in range.
pub record IsRow (row : List ℕ) : Type 0 where
  pub values : Values
  pub in_order : row ≡ words values
  pub in_range : AreValues values

pub record IsParameters (ps : List ℕ) : Type 0 where
  pub values : Parameters
  pub in_order : ps ≡ parameter_words values
  pub in_range : AreParameters values

-- A day's five values.
pub record IsDay (d : Day) : Type 0 where
  pub instrument : IsFrom 1 999999999 d.instrument
  pub day : IsFrom 0 999999 d.day
  pub price : IsFrom 1 1000000000 d.price
  pub m : IsFrom 0 30 d.m
  pub j : IsFrom 0 30 d.j

-- A corridor's terms. Each repo rate is some number less 10,000, from -10,000 to 50,000, the lower not above the upper.
pub record AreTerms (t : Terms) : Type 0 where
  pub k : IsFrom 0 365 t.k
  pub shift : IsFrom 0 1000 t.shift
  pub x : IsFrom 1 10000 t.x
  pub rise : IsFrom 0 1000000 t.rise
  pub fall : IsFrom 0 1000000 t.fall
  pub tick : IsFrom 1 1000000 t.tick
  pub low : ℕ
  pub high : ℕ
  pub lower : t.lower ≡ pos low -ℤ pos 10000
  pub upper : t.upper ≡ pos high -ℤ pos 10000
  pub ordered : low ≤ high
  pub high_end : high ≤ 60000

-- A bond's face value, carry and accrued interest.
pub record IsBond (b : Bond) : Type 0 where
  pub face : IsFrom 1 1000000000 b.face
  pub carry : IsFrom 0 1000000000 b.carry
  pub accrued : IsFrom 0 1000000000 b.accrued

-- The tests of the definitions pass exactly then.
pub record RangesMean : Type 0 where
  pub row : (row : List ℕ) → (row_in_range row ≡ true) ↔ IsRow row
  pub parameters : (ps : List ℕ) → (parameters_in_range ps ≡ true) ↔ IsParameters ps
  pub day : (d : Day) → (day_in_range d ≡ true) ↔ IsDay d
  pub terms : (t : Terms) → (terms_in_range t ≡ true) ↔ AreTerms t
  pub bond : (b : Bond) → (bond_in_range b ≡ true) ↔ IsBond b

-- Each place of `Row` is that of the value of its name, and a row is as wide as there are values.
pub record NamesMean : Type 0 where
  pub instrument : (v : Values) → word (words v) Row.instrument ≡ v.instrument
  pub alpha : (v : Values) → word (words v) Row.alpha ≡ v.parameters.alpha
  pub upper : (v : Values) → word (words v) Row.upper_weight ≡ v.parameters.upper
  pub lower : (v : Values) → word (words v) Row.lower_weight ≡ v.parameters.lower
  pub h : (v : Values) → word (words v) Row.step ≡ v.parameters.h
  pub n : (v : Values) → word (words v) Row.no_fall ≡ v.parameters.n
  pub T : (v : Values) → word (words v) Row.horizon ≡ v.parameters.T
  pub L : (v : Values) → word (words v) Row.long_horizon ≡ v.parameters.L
  pub R : (v : Values) → word (words v) Row.add_on ≡ v.parameters.R
  pub least_margin : (v : Values) → word (words v) Row.least_margin ≡ v.parameters.least_margin
  pub greatest_margin : (v : Values) → word (words v) Row.greatest_margin ≡ v.parameters.greatest_margin
  pub least_concentration : (v : Values) → word (words v) Row.least_concentration ≡ v.parameters.least_concentration
  pub greatest_concentration : (v : Values) → word (words v) Row.greatest_concentration ≡ v.parameters.greatest_concentration
  pub M : (v : Values) → word (words v) Row.monitored ≡ v.parameters.M
  pub variance : (v : Values) → word (words v) Row.variance ≡ v.variance
  pub preliminary : (v : Values) → word (words v) Row.preliminary ≡ v.preliminary
  pub margin : (v : Values) → word (words v) Row.margin ≡ v.margin
  pub concentration : (v : Values) → word (words v) Row.concentration ≡ v.concentration
  pub last_change : (v : Values) → word (words v) Row.last_change ≡ v.last_change
  pub last_day : (v : Values) → word (words v) Row.last_day ≡ v.last_day
  pub newer : (v : Values) → word (words v) Row.newer ≡ v.newer
  pub older : (v : Values) → word (words v) Row.older ≡ v.older
  pub halted : (v : Values) → word (words v) Row.halted ≡ v.halted
  pub width : (v : Values) → length (words v) ≡ Row.width
  pub parameters : (v : Values) → parameters_of (words v) ≡ parameter_words v.parameters
