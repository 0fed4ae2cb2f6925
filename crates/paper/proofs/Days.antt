-- A day on a row: what an accepted one says, and which words it leaves and writes. Assumes nothing.
use mathlib.Core.Path.{◌≡◌, refl, sym, ap, subst⁻¹, ◌∙◌}
use mathlib.Core.Bool.{Bool, true, false, cond}
use mathlib.Core.List.{List, [], ◌∷◌}
use Prim.Native.Nat.{ℕ, ◌+◌, ◌-◌, ◌≤◌, ◌<◌}
use native.Mathlib.Omega.{arith}
use borrow.Author.Tests.{leb-false, ltb-false}
use lib.Dec.{leb, ltb}
use lib.ListN.{length, get_or, take, drop}
use lib.Seq.{length-sets}
use Rattle.paper.specs.Refusal.{Refusal}
use Rattle.paper.specs.Row as Row
use Rattle.paper.specs.Row.{word, parameters_of}
use Rattle.paper.specs.Rates.{Day, Figures, refused, accepted, greatest_move, move_on, figures_on, state_of, figures_of, written_words, next_row, day_on}
use Rattle.paper.proofs.Limits.{days_limit}
use Rattle.paper.proofs.Stores.{sets_below, sets_at}

-- The days since change are no more than today's number.
figures_since : (row : List ℕ) (d : Day) → (figures_of row d).days ≤ d.day
unfolding figures_of figures_on
figures_since row d =
    let few : (figures_of row d).days ≤ d.day - (state_of row).last_change = days_limit _ _ _ _ _ in
    omega arith

-- What an accepted day says: it is later than the last day, its move is accepted, its figures and its row are the definition's,
-- and its days since change are no more than today's number.
pub record IsAccepted (row : List ℕ) (d : Day) (f : Figures) (next : List ℕ) : Type 0 where
  pub later : word row Row.last_day < d.day
  pub small : (move_on row d).size ≤ greatest_move
  pub figures : f ≡ figures_of row d
  pub leaves : next ≡ next_row row (figures_of row d) d
  pub since : f.days ≤ d.day

pub day_accepted : (row : List ℕ) (d : Day) (f : Figures) (next : List ℕ) → day_on row d ≡ accepted f next → IsAccepted row d f next
unfolding day_on
day_accepted row d f next e = go (leb d.day (word row Row.last_day)) (ltb greatest_move (move_on row d).size) refl refl e
  where
    go : (stale moved : Bool) → leb d.day (word row Row.last_day) ≡ stale → ltb greatest_move (move_on row d).size ≡ moved
        → cond stale (refused Refusal.Stale) (cond moved (refused Refusal.Move) (accepted (figures_of row d) (next_row row (figures_of row d) d))) ≡ accepted f next
        → IsAccepted row d f next
    go true moved p q r = absurd (never r)
      where
        never : refused Refusal.Stale ≡ accepted f next → ⊥
        never r = let z : ◌≡◌ {A = ℕ} 0 1 = cc in omega arith
    go false true p q r = absurd (never r)
      where
        never : refused Refusal.Move ≡ accepted f next → ⊥
        never r = let z : ◌≡◌ {A = ℕ} 0 1 = cc in omega arith
    go false false p q r =
        record {
          later = leb-false d.day (word row Row.last_day) p;
          small = ltb-false greatest_move (move_on row d).size q;
          figures = cc;
          leaves = cc;
          since = let same : f ≡ figures_of row d = cc in subst⁻¹ (λ (f : Figures). f.days ≤ d.day) same (figures_since row d);
        }

-- The parameters stand before the variance, which a day leaves.
parameters_front : (row : List ℕ) → parameters_of row ≡ drop Row.alpha (take Row.variance row)
unfolding parameters_of
parameters_front [] = refl
parameters_front (n ∷ ns) = refl

module _ (row : List ℕ) (f : Figures) (d : Day) where
  pub next_long : length (next_row row f d) ≡ length row
  unfolding next_row
  next_long = length-sets row Row.variance (written_words row f d)

  pub next_parameters : parameters_of (next_row row f d) ≡ parameters_of row
  unfolding next_row
  next_parameters =
      parameters_front (next_row row f d)
      ∙ ap (drop Row.alpha) (sets_below row Row.variance (written_words row f d) Row.variance (omega arith))
      ∙ sym (parameters_front row)

  -- The words from the variance on are those written, in their order.
  pub next_word : (k : ℕ) → length row ≡ Row.width → k < 8 → word (next_row row f d) (Row.variance + k) ≡ get_or (written_words row f d) k 0
  unfolding next_row
  next_word k long h = sets_at row Row.variance (written_words row f d) k (omega arith) h
