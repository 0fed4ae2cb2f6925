-- There are lists of calls as demand 3 speaks of: one is gone through call by call, each by the row that the calls before it left. Assumes nothing.
use mathlib.Core.Path.{◌≡◌, refl, ap, subst⁻¹, ◌∙◌}
use mathlib.Core.List.{List, [], ◌∷◌}
use Prim.Native.Nat.{ℕ, ◌<◌}
use native.Mathlib.Omega.{arith}
use borrow.Author.Tests.{eq-eqb, ne_eqb}
use lib.Dec.{lit≤, lit<}
use lib.IntN.{pos}
use lib.ListN.{length}
use lib.Seq.{sets}
use Rattle.paper.specs.Row as Row
use Rattle.paper.specs.Row.{word, parameters_of}
use Rattle.paper.specs.Rates.{Day, move_on, day_on}
use Rattle.paper.specs.Calls.{halt, day, why, corridor, bond, day_row, answer, after}
use Rattle.paper.specs.Promises.Worked.{day_of, terms_at}
use Rattle.paper.specs.Promises.Alive.{greatest_instrument, three_book}
use Rattle.paper.specs.Promises.Bonds.{bond_of}
use Rattle.paper.specs.Promises.AnyCalls.{moves_with, moves_after, IsOpenWith, StaysOpenWith, some_calls, HistoryExists}
use Rattle.paper.proofs.Computing.{computing}
use Rattle.paper.proofs.Standing.{number_by, Stands, row_open, number_by_lem, refused_stands, day_stands, halt_stands, other_stands, why_leaves, corridor_leaves, bond_leaves}
use Rattle.paper.proofs.Alive.{last_row, row101, row102, last_stands}

-- The parameters that the instrument has all along.
abbrev ps : List ℕ
ps = 2500 ∷ 2000 ∷ 500 ∷ 10000 ∷ 2 ∷ 2 ∷ 8 ∷ 0 ∷ 50000 ∷ 1000000 ∷ 0 ∷ 1000000 ∷ 1 ∷ []

pub open_with : {ps : List ℕ} (book : List ℕ) (i : ℕ) (row : List ℕ) → 0 < length row → parameters_of row ≡ ps → Stands book i row → IsOpenWith i ps book
open_with book i row some same s = record { open_here = row_open book i row some s; parameters = ap parameters_of s.is_row ∙ same }

-- The moves with a day of its own, accepted and refused, by its row.
module _ (book row : List ℕ) (d : Day) (moves : List ℕ) (some : 0 < length row) (s : Stands book d.instrument row) where
  pub one_move : (D : ℕ) → number_by row (day d) ≡ 0 → (move_on row d).size ≡ D → moves_with d.instrument book (day d) moves ≡ D ∷ moves
  unfolding answer
  one_move D e m = rw (eq-eqb d.instrument d.instrument refl, number_by_lem book row some (day d) tt s, e, s.is_row, m)

  pub no_move : ¬ (number_by row (day d) ≡ 0) → moves_with d.instrument book (day d) moves ≡ moves
  unfolding answer
  no_move n = rw (eq-eqb d.instrument d.instrument refl, number_by_lem book row some (day d) tt s, ne_eqb _ 0 n)

-- The days, the row while it is halted, and the books before each call after the first.
abbrev own_day : Day
own_day = day_of greatest_instrument 101 103000 0 0

abbrev halted_day : Day
halted_day = day_of greatest_instrument 102 150000 0 0

abbrev next_day : Day
next_day = day_of greatest_instrument 102 103000 6 0

abbrev kept_row : List ℕ
kept_row = row101 greatest_instrument

abbrev halted_row : List ℕ
halted_row = sets kept_row Row.halted (1 ∷ [])

abbrev book₁ : List ℕ
book₁ = after three_book (day own_day)

abbrev book₂ : List ℕ
book₂ = after book₁ (halt greatest_instrument 1)

abbrev book₃ : List ℕ
book₃ = after book₂ (day (day_of 11 301 51000 2 1))

abbrev book₄ : List ℕ
book₄ = after book₃ (day halted_day)

abbrev book₅ : List ℕ
book₅ = after book₄ (halt greatest_instrument 0)

abbrev book₆ : List ℕ
book₆ = after book₅ (day own_day)

abbrev book₇ : List ℕ
book₇ = after book₆ (corridor greatest_instrument (terms_at 73 (pos 0) (pos 0) 50000 20000 1000))

abbrev book₈ : List ℕ
book₈ = after book₇ (bond greatest_instrument (terms_at 73 (pos 0) (pos 0) 50000 20000 1000) (bond_of 100000 0 500))

abbrev book₉ : List ℕ
book₉ = after book₈ (why next_day)

abbrev book₁₀ : List ℕ
book₁₀ = after book₉ (day next_day)

-- What is computed: the days on the rows that they meet, and the halt and its end.
record OnRows : Type 0 where
  own : (number_by last_row (day own_day) ≡ 0) × (day_row last_row (day_on last_row own_day) ≡ kept_row)
  halts : number_by kept_row (halt greatest_instrument 1) ≡ 0
  halted : number_by halted_row (day halted_day) ≡ 12
  ends : number_by halted_row (halt greatest_instrument 0) ≡ 0
  again : number_by kept_row (day own_day) ≡ 6
  next : (number_by kept_row (day next_day) ≡ 0) × (day_row kept_row (day_on kept_row next_day) ≡ row102 greatest_instrument)
  own_move : (move_on last_row own_day).size ≡ 30000
  next_move : (move_on kept_row next_day).size ≡ 30000
  started : parameters_of last_row ≡ ps
  kept : parameters_of kept_row ≡ ps
  kept_halted : parameters_of halted_row ≡ ps
  kept_next : parameters_of (row102 greatest_instrument) ≡ ps

on_rows : OnRows
unfolding computing number_by
on_rows =
    record {
      own = (refl, refl);
      halts = refl;
      halted = refl;
      ends = refl;
      again = refl;
      next = (refl, refl);
      own_move = refl;
      next_move = refl;
      started = refl;
      kept = refl;
      kept_halted = refl;
      kept_next = refl;
    }

-- The instrument stands after each call.
stands₁ : Stands book₁ greatest_instrument kept_row
stands₁ = day_stands three_book last_row (lit< tt) own_day kept_row last_stands on_rows.own

stands₂ : Stands book₂ greatest_instrument halted_row
stands₂ = halt_stands book₁ kept_row (lit< tt) greatest_instrument 1 stands₁ on_rows.halts

stands₃ : Stands book₃ greatest_instrument halted_row
stands₃ = other_stands book₂ halted_row greatest_instrument (day (day_of 11 301 51000 2 1)) (lit< tt) (λ e. omega arith) stands₂

stands₄ : Stands book₄ greatest_instrument halted_row
stands₄ = refused_stands book₃ halted_row (lit< tt) (day halted_day) tt stands₃ (λ e. omega (arith, on_rows.halted))

stands₅ : Stands book₅ greatest_instrument kept_row
stands₅ = halt_stands book₄ halted_row (lit< tt) greatest_instrument 0 stands₄ on_rows.ends

stands₆ : Stands book₆ greatest_instrument kept_row
stands₆ = refused_stands book₅ kept_row (lit< tt) (day own_day) tt stands₅ (λ e. omega (arith, on_rows.again))

stands₇ : Stands book₇ greatest_instrument kept_row
stands₇ = subst⁻¹ (λ (book : List ℕ). Stands book greatest_instrument kept_row) (corridor_leaves book₆ greatest_instrument _) stands₆

stands₈ : Stands book₈ greatest_instrument kept_row
stands₈ = subst⁻¹ (λ (book : List ℕ). Stands book greatest_instrument kept_row) (bond_leaves book₇ greatest_instrument _ _) stands₇

stands₉ : Stands book₉ greatest_instrument kept_row
stands₉ = subst⁻¹ (λ (book : List ℕ). Stands book greatest_instrument kept_row) (why_leaves book₈ next_day) stands₈

stands₁₀ : Stands book₁₀ greatest_instrument (row102 greatest_instrument)
stands₁₀ = day_stands book₉ kept_row (lit< tt) next_day (row102 greatest_instrument) stands₉ on_rows.next

some_stay : StaysOpenWith greatest_instrument ps three_book some_calls
some_stay = (
  open_with book₁ greatest_instrument _ (lit< tt) on_rows.kept stands₁,
  (
    open_with book₂ greatest_instrument _ (lit< tt) on_rows.kept_halted stands₂,
    (
      open_with book₃ greatest_instrument _ (lit< tt) on_rows.kept_halted stands₃,
      (
        open_with book₄ greatest_instrument _ (lit< tt) on_rows.kept_halted stands₄,
        (
          open_with book₅ greatest_instrument _ (lit< tt) on_rows.kept stands₅,
          (
            open_with book₆ greatest_instrument _ (lit< tt) on_rows.kept stands₆,
            (
              open_with book₇ greatest_instrument _ (lit< tt) on_rows.kept stands₇,
              (
                open_with book₈ greatest_instrument _ (lit< tt) on_rows.kept stands₈,
                (
                  open_with book₉ greatest_instrument _ (lit< tt) on_rows.kept stands₉,
                  (open_with book₁₀ greatest_instrument _ (lit< tt) on_rows.kept_next stands₁₀, tt),
                ),
              ),
            ),
          ),
        ),
      ),
    ),
  ),
)

-- Another's day, a halt, a corridor and an asking add no move, and neither does a day that is refused.
some_moves : moves_after greatest_instrument three_book some_calls [] ≡ 30000 ∷ 30000 ∷ []
some_moves =
    let g = greatest_instrument in
    ap (λ (moves : List ℕ). moves_with g book₉ (day next_day) (moves_with g book₅ (day own_day) (moves_with g book₃ (day halted_day) moves)))
    (one_move three_book last_row own_day [] (lit< tt) last_stands 30000 on_rows.own.0 on_rows.own_move)
    ∙ ap (λ (moves : List ℕ). moves_with g book₉ (day next_day) (moves_with g book₅ (day own_day) moves))
    (no_move book₃ halted_row halted_day (30000 ∷ []) (lit< tt) stands₃ (λ e. omega (arith, on_rows.halted)))
    ∙ ap (moves_with g book₉ (day next_day)) (no_move book₅ kept_row own_day (30000 ∷ []) (lit< tt) stands₅ (λ e. omega (arith, on_rows.again)))
    ∙ one_move book₉ kept_row next_day (30000 ∷ []) (lit< tt) stands₉ 30000 on_rows.next.0 on_rows.next_move

pub history_exists : HistoryExists
history_exists =
    record {
      history =
          record {
            instrument = record { not_below = lit≤ tt; not_above = lit≤ tt };
            sound = last_stands.sound;
            open_here = row_open three_book greatest_instrument last_row (lit< tt) last_stands;
            stays = subst⁻¹ (λ (ps : List ℕ). StaysOpenWith greatest_instrument ps three_book some_calls) (ap parameters_of last_stands.is_row ∙ on_rows.started) some_stay;
          };
      moves = some_moves;
      variance = ap (λ (row : List ℕ). word row Row.variance) stands₁₀.is_row;
    }
