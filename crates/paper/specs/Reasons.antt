-- Why a day has its figures: which weight the variance took, whether it is a shock day, which way the preliminary went, and what set the published
-- margin. They are read off what the rules met and what they gave; what each says of the rules themselves is stated in `Promises/Reasons`.
use Rattle.std.specs.Prelude.{ℕ, ◌*◌, Bool, cond, List, [], ◌∷◌, ltb, eqb}
use Rattle.paper.specs.Row as Row
use Rattle.paper.specs.Row.{word}
use Rattle.paper.specs.Rates.{ceil_div, exceeds, is_shock, Day, Figures, move_on}

-- The weight of the variance, the way of the preliminary, and what set the margin: no monitoring, the greatest rate, the least rate, or the
-- preliminary with its add-on.
pub data Weight : Type 0 where
  Upper Lower : Weight

pub data Branch : Type 0 where
  Rise Fall Kept : Branch

pub data SetBy : Type 0 where
  NotMonitored Greatest Least Preliminary : SetBy

pub record Reasons : Type 0 where
  pub weight : Weight
  pub shock : Bool
  pub branch : Branch
  pub margin : SetBy

-- The numbers under which they are handed out, in that order.
abbrev pub weight_number : Weight → ℕ
weight_number Upper = 1
weight_number Lower = 2

abbrev pub shock_number : Bool → ℕ
shock_number shock = cond shock 1 0

abbrev pub branch_number : Branch → ℕ
branch_number Rise = 1
branch_number Fall = 2
branch_number Kept = 3

abbrev pub set_by_number : SetBy → ℕ
set_by_number NotMonitored = 1
set_by_number Greatest = 2
set_by_number Least = 3
set_by_number Preliminary = 4

abbrev pub reason_list : Reasons → List ℕ
reason_list r = weight_number r.weight ∷ shock_number r.shock ∷ branch_number r.branch ∷ set_by_number r.margin ∷ []

-- The upper weight if D squared exceeds V, else the lower one.
unfoldable pub weight_for : ℕ → ℕ → Weight
weight_for v D = cond (exceeds D v) Upper Lower

-- A rise if the preliminary is above the old one, a fall if it is below; else the old one was kept.
unfoldable pub branch_of : ℕ → ℕ → Branch
branch_of old preliminary = cond (ltb old preliminary) Rise (cond (ltb preliminary old) Fall Kept)

-- With M 1 the greatest if it equals the figure, else the least if rounded up to a multiple of h it does, else the preliminary.
unfoldable pub set_by : ℕ → ℕ → ℕ → ℕ → ℕ → SetBy
set_by M h least greatest figure =
    let bounded = cond (eqb figure (h * ceil_div least h)) Least Preliminary in
    cond (eqb M 1) (cond (eqb figure greatest) Greatest bounded) NotMonitored

-- The reasons by the row that a day meets, its j, its D and its figures. The shock day is told by the margin that the row keeps from the day before.
unfoldable pub reasons_on : List ℕ → ℕ → ℕ → Figures → Reasons
reasons_on row j D f =
    record {
      weight = weight_for (word row Row.variance) D;
      shock = is_shock (word row Row.margin) j D;
      branch = branch_of (word row Row.preliminary) f.preliminary;
      margin = set_by (word row Row.monitored) (word row Row.step) (word row Row.least_margin) (word row Row.greatest_margin) f.margin;
    }

-- Those of a day on a row that gives these figures.
abbrev pub reasons_of : List ℕ → Day → Figures → Reasons
reasons_of row d f = reasons_on row d.j (move_on row d).size f
