-- The refusals in their order: each link of a call's chain is one check, whose test fails exactly when its condition holds. Assumes nothing.
use mathlib.Core.Path.{◌≡◌, refl, sym, ap, ◌∙◌}
use mathlib.Core.Bool.{Bool, true, false, cond, not, ◌&&◌}
use mathlib.Core.List.{List, [], ◌∷◌}
use mathlib.Core.Logic.{◌↔◌}
use Prim.Native.Nat.{ℕ, ◌+◌, ◌*◌, ◌/◌, ◌%◌, ◌≤◌, ◌<◌}
use native.Mathlib.Nat.{div-add-mod, add-zero, mul-mod_right, not-le_of_lt}
use native.Mathlib.Omega.{arith}
use borrow.Author.Tests.{leb-true, leb-false, ltb-true, ltb-false, eqb-true, eq-eqb, not-true, not-false}
use lib.Dec.{leb, ltb, eqb}
use Rattle.paper.specs.Refusal.{Refusal, number}
use Rattle.paper.specs.Row as Row
use Rattle.paper.specs.Row.{instruments, switches, is_in, word, parameter, parameters_in_range, row_in_range, is_halted}
use Rattle.paper.specs.Rates.{Day, refused, accepted, greatest_move, day_in_range, move_on, figures_of, next_row, day_on}
use Rattle.paper.specs.Corridor.{Ticks, empty, between, terms_in_range, is_within, corridor_on}
use Rattle.paper.specs.Bond.{bond_in_range, is_bond_within, bond_on}
use Rattle.paper.specs.Book.{rows, row_for, is_open, free_place, is_sound}
use Rattle.paper.specs.Calls.{opening, closing, parameters, halt, day, why, corridor, bond, unless, day_number, ticks_number, ticks_in, corridor_for, bond_for, number_of_day, number_of_ticks, number_of, answer}
use Rattle.paper.specs.Promises.Found.{AreTicks}
use Rattle.paper.specs.Promises.Book.{IsFree, IsOpen}
use Rattle.paper.specs.Promises.Ends.{IsInstrument, IsMultiple, Check, ◌when◌, day_checks, tick_checks, Give, none, this, not_this, RefusesInOrder}
use Rattle.paper.proofs.Tests.{clash, and_right, both_say}
use Rattle.paper.proofs.Row.{range_says}
use Rattle.paper.proofs.Ranges.{ranges_mean}
use Rattle.paper.proofs.Found.{corridor_found}
use Rattle.paper.proofs.Bonds.{bond_found}
use Rattle.paper.proofs.Book.{free_first, open_says, open_tells}
use Rattle.paper.proofs.Sound.{sound_means}

-- A link: the check's condition holds exactly where the test fails, and where it passes the checks after it give the rest.
pub link : (cs : List Check) (passes : Bool) (r : Refusal) (C : Type 0) (next : ℕ) → (passes ≡ false → C) → (passes ≡ true → ¬ C) → (passes ≡ true → Give cs next) → Give ((number r when C) ∷ cs) (unless passes r next)
link cs true r C next fails passes rest = not_this (passes refl) (rest refl)
link cs false r C next fails passes rest = this (fails refl)

-- The same where the condition denies what the test says.
pub deny : (cs : List Check) (passes : Bool) (r : Refusal) (A : Type 0) (next : ℕ) → (passes ≡ true) ↔ A → (passes ≡ true → Give cs next) → Give ((number r when ¬ A) ∷ cs) (unless passes r next)
deny cs passes r A next says rest =
    link cs passes r (¬ A) next (λ e a. clash passes (says.1 a) e) (λ e n. n (says.0 e)) rest

-- What the tests of a call say.
instrument_says : (i : ℕ) → (is_in instruments i ≡ true) ↔ IsInstrument i
instrument_says = range_says instruments

open_says_both : (book : List ℕ) (i : ℕ) → (is_open book i ≡ true) ↔ IsOpen book i
open_says_both book i = (open_says book i, open_tells book i)

multiple_says : (h n : ℕ) → (eqb (n % h) 0 ≡ true) ↔ IsMultiple h n
multiple_says h n = (
  λ e. (n / h, sym (div-add-mod n h) ∙ ap (λ (rest : ℕ). h * (n / h) + rest) (eqb-true (n % h) 0 e) ∙ add-zero (h * (n / h))),
  λ m. eq-eqb (n % h) 0 (ap (λ (n : ℕ). n % h) m.1 ∙ mul-mod_right h m.0),
)

free_says_full : (book : List ℕ) → ltb (free_place book) rows ≡ false → (k : ℕ) → k < 64 → ¬ IsFree book k
free_says_full book e k l free = (free_first book).none_before k (omega (arith, ltb-false (free_place book) rows e)) free

-- Halted, and what comes after it.
give_halted : (cs : List Check) (row : List ℕ) (next : ℕ) → Give cs next → Give ((12 when (word row Row.halted ≡ 1)) ∷ cs) (unless (not (is_halted row)) Refusal.Halted next)
unfolding is_halted
give_halted cs row next rest =
    link cs (not (eqb (word row Row.halted) 1)) Refusal.Halted _ next (λ e. eqb-true _ 1 (not-false _ e))
    (λ e h. clash _ (eq-eqb (word row Row.halted) 1 h) (not-true _ e)) (λ e. rest)

give_day : (row : List ℕ) (d : Day) → Give ((6 when (d.day ≤ word row Row.last_day)) ∷ (7 when (1000000 < (move_on row d).size)) ∷ []) (day_number (day_on row d))
unfolding day_on
give_day row d = go (leb d.day (word row Row.last_day)) (ltb greatest_move (move_on row d).size) refl refl
  where
    go : (stale moved : Bool) → leb d.day (word row Row.last_day) ≡ stale → ltb greatest_move (move_on row d).size ≡ moved
        → Give ((6 when (d.day ≤ word row Row.last_day)) ∷ (7 when (1000000 < (move_on row d).size)) ∷ [])
        (day_number (cond stale (refused Refusal.Stale) (cond moved (refused Refusal.Move) (accepted (figures_of row d) (next_row row (figures_of row d) d)))))
    go true moved p q = this (leb-true d.day (word row Row.last_day) p)
    go false true p q = not_this (not-le_of_lt (leb-false d.day (word row Row.last_day) p)) (this (ltb-true greatest_move (move_on row d).size q))
    go false false p q =
        not_this (not-le_of_lt (leb-false d.day (word row Row.last_day) p))
        (not_this (λ (l : 1000000 < (move_on row d).size). omega (arith, ltb-false greatest_move (move_on row d).size q)) none)

-- A day's checks, given or asked about.
give_any_day : (book : List ℕ) (d : Day) → Give (day_checks book d) (number_of_day book d)
give_any_day book d =
    deny _ (is_sound book) Refusal.Book _ _ (sound_means book) (λ sound.
    deny _ (day_in_range d) Refusal.Range _ _ (ranges_mean.day d) (λ range.
    deny _ (is_open book d.instrument) Refusal.Unknown _ _ (open_says_both book d.instrument) (λ known.
    give_halted _ (row_for book d.instrument) _ (give_day (row_for book d.instrument) d))))

give_ticks : (within : ℕ → Bool) (tick : ℕ) (ticks : Ticks) → AreTicks within tick ticks → Give ((8 when ((n : ℕ) → 0 < n → within (tick * n) ≡ false)) ∷ []) (ticks_number ticks)
give_ticks within tick empty outside = this outside
give_ticks within tick (between lowest highest) found =
    not_this (λ (outside : (n : ℕ) → 0 < n → within (tick * n) ≡ false). clash (within lowest) found.0.inside (ap within found.0.multiple ∙ outside found.0.count found.0.positive))
    none

-- A corridor's checks, by what the test of its values says, and by the ticks that its rule finds.
give_any_ticks :
    (book : List ℕ) (i : ℕ) (range : Bool) (InRange : Type 0) (tick : ℕ) (within : ℕ → ℕ → ℕ → ℕ → Bool) (rule : ℕ → ℕ → ℕ → Ticks) → (range ≡ true) ↔ InRange
    → (InRange → (P margin M : ℕ) → AreTicks (within P margin M) tick (rule P margin M))
    → Give (tick_checks book i InRange tick within) (number_of_ticks book i range (ticks_in (row_for book i) rule))
give_any_ticks book i range InRange tick within rule says found =
    deny _ (is_sound book) Refusal.Book _ _ (sound_means book) (λ sound.
    deny _ (is_in instruments i && range) Refusal.Range _ _ (both_say _ _ _ _ (instrument_says i) says) (λ in_range.
    deny _ (is_open book i) Refusal.Unknown _ _ (open_says_both book i) (λ known.
    let row = row_for book i in
    give_halted _ row _
    (give_ticks (within (word row Row.newer) (word row Row.margin) (word row Row.monitored)) tick (ticks_in row rule)
    (found (says.0 (and_right (is_in instruments i) range in_range)) _ _ _)))))

pub refuses_in_order : RefusesInOrder
unfolding answer number_of corridor_for bond_for
refuses_in_order book (opening row) =
    deny _ (is_sound book) Refusal.Book _ _ (sound_means book) (λ sound.
    deny _ (row_in_range row) Refusal.Range _ _ (ranges_mean.row row) (λ range.
    link _ (not (is_open book (word row Row.instrument))) Refusal.Known _ _
    (λ e. open_says book (word row Row.instrument) (not-false _ e))
    (λ e o. clash _ (open_tells book (word row Row.instrument) o) (not-true _ e)) (λ known.
    link _ (ltb (free_place book) rows) Refusal.Full _ _ (free_says_full book)
    (λ e full. full (free_place book) (ltb-true _ _ e) ((free_first book).holds (ltb-true (free_place book) rows e)))
    (λ free. none))))
refuses_in_order book (closing i) =
    deny _ (is_sound book) Refusal.Book _ _ (sound_means book) (λ sound.
    deny _ (is_in instruments i) Refusal.Range _ _ (instrument_says i) (λ range.
    deny _ (is_open book i) Refusal.Unknown _ _ (open_says_both book i) (λ known. none)))
refuses_in_order book (parameters i ps) =
    deny _ (is_sound book) Refusal.Book _ _ (sound_means book) (λ sound.
    deny _ (is_in instruments i && parameters_in_range ps) Refusal.Range _ _ (both_say _ _ _ _ (instrument_says i) (ranges_mean.parameters ps)) (λ range.
    deny _ (is_open book i) Refusal.Unknown _ _ (open_says_both book i) (λ known.
    deny _ (eqb (word (row_for book i) Row.preliminary % parameter ps Row.step) 0) Refusal.Step _ _ (multiple_says _ _) (λ step. none))))
refuses_in_order book (halt i value) =
    deny _ (is_sound book) Refusal.Book _ _ (sound_means book) (λ sound.
    deny _ (is_in instruments i && is_in switches value) Refusal.Range _ _ (both_say _ _ _ _ (instrument_says i) (range_says switches value)) (λ range.
    deny _ (is_open book i) Refusal.Unknown _ _ (open_says_both book i) (λ known. none)))
refuses_in_order book (day d) = give_any_day book d
refuses_in_order book (why d) = give_any_day book d
refuses_in_order book (corridor i t) =
    give_any_ticks book i (terms_in_range t) _ t.tick (λ P margin M. is_within P margin M t) (λ P margin M. corridor_on P margin M t) (ranges_mean.terms t)
    (λ r P margin M. corridor_found P margin M t r.tick.not_below)
refuses_in_order book (bond i t b) =
    give_any_ticks book i (terms_in_range t && bond_in_range b) _ t.tick (λ P margin M. is_bond_within P margin M t b) (λ P margin M. bond_on P margin M t b)
    (both_say _ _ _ _ (ranges_mean.terms t) (ranges_mean.bond b)) (λ r P margin M. bond_found P margin M t b r.0.tick.not_below r.1.face.not_below)
