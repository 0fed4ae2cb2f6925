-- The values of a row by name, in their order. The promises speak by these names, and hold the places that `Row` gives to them.
use Rattle.std.specs.Prelude.{ℕ, List, [], ◌∷◌}

-- The thirteen parameters.
pub record Parameters : Type 0 where
  pub alpha : ℕ
  pub upper : ℕ
  pub lower : ℕ
  pub h : ℕ
  pub n : ℕ
  pub T : ℕ
  pub L : ℕ
  pub R : ℕ
  pub least_margin : ℕ
  pub greatest_margin : ℕ
  pub least_concentration : ℕ
  pub greatest_concentration : ℕ
  pub M : ℕ

-- They in their order, and other words after them.
abbrev pub parameters_then : Parameters → List ℕ → List ℕ
parameters_then p rest =
    p.alpha
    ∷ p.upper
    ∷ p.lower
    ∷ p.h
    ∷ p.n
    ∷ p.T
    ∷ p.L
    ∷ p.R
    ∷ p.least_margin
    ∷ p.greatest_margin
    ∷ p.least_concentration
    ∷ p.greatest_concentration
    ∷ p.M
    ∷ rest

abbrev pub parameter_words : Parameters → List ℕ
parameter_words p = parameters_then p []

-- The values of a row.
pub record Values : Type 0 where
  pub instrument : ℕ
  pub parameters : Parameters
  pub variance : ℕ
  pub preliminary : ℕ
  pub margin : ℕ
  pub concentration : ℕ
  pub last_change : ℕ
  pub last_day : ℕ
  pub newer : ℕ
  pub older : ℕ
  pub halted : ℕ

-- They in their order: a row's words.
abbrev pub words : Values → List ℕ
words v =
    v.instrument
    ∷ parameters_then v.parameters
    (v.variance
    ∷ v.preliminary
    ∷ v.margin
    ∷ v.concentration
    ∷ v.last_change
    ∷ v.last_day
    ∷ v.newer
    ∷ v.older
    ∷ v.halted
    ∷ [])
