-- An opening reads of a book no more than which instruments are open and which rows are free. Assumes nothing.
use mathlib.Core.Path.{◌≡◌, refl, sym, ap, ◌∙◌}
use mathlib.Core.Bool.{Bool, true, false, cond, not}
use mathlib.Core.List.{List, []}
use Prim.Native.Nat.{ℕ, ◌<◌}
use native.Mathlib.Omega.{arith}
use lib.Dec.{ltb, eqb, lit<}
use lib.ListN.{replicate}
use Rattle.paper.specs.Refusal.{Refusal}
use Rattle.paper.specs.Row as Row
use Rattle.paper.specs.Row.{word, row_in_range}
use Rattle.paper.specs.Book.{rows, place_for, is_open, free_place, is_sound}
use Rattle.paper.specs.Calls.{opening, unless, figures_for, number_of, Answer, answer, after}
use Rattle.paper.specs.Promises.Book.{IsFree}
use Rattle.paper.specs.Promises.Calls.{AreAlike, OpensAlike}
use Rattle.paper.proofs.Tests.{same_test}
use Rattle.paper.proofs.Ranges.{row_of}
use Rattle.paper.proofs.Found.{first_same}
use Rattle.paper.proofs.Book.{free_first, open_says, open_tells}
use Rattle.paper.proofs.Sound.{sound_says, holder_place}
use Rattle.paper.proofs.Accepted.{accept_opening}
use Rattle.paper.proofs.Writes.{sound_stays}
use Rattle.paper.proofs.Calls.{call_leaves}

-- Two sound books in which the same instruments are open, and there is room in both or in neither.
module _ (book other row : List ℕ) (sound : is_sound book ≡ true) (sound' : is_sound other ≡ true) (opened : (i : ℕ) → 0 < i → is_open book i ≡ is_open other i) (room : ltb (free_place book) rows ≡ ltb (free_place other) rows) where
  pub opening_number : number_of book (opening row) ≡ number_of other (opening row)
  unfolding number_of
  opening_number = rw (sound, sound', room) (go (row_in_range row) refl)
    where
      go : (t : Bool) → row_in_range row ≡ t
          → unless t Refusal.Range (unless (not (is_open book (word row Row.instrument))) Refusal.Known (unless (ltb (free_place other) rows) Refusal.Full 0))
          ≡ unless t Refusal.Range (unless (not (is_open other (word row Row.instrument))) Refusal.Known (unless (ltb (free_place other) rows) Refusal.Full 0))
      go false e = refl
      go true e =
          let r = row_of row e in
          let named : word row Row.instrument ≡ r.values.instrument = ap (λ (row : List ℕ). word row Row.instrument) r.in_order in
          ap (λ (o : Bool). unless (not o) Refusal.Known (unless (ltb (free_place other) rows) Refusal.Full 0))
          (opened (word row Row.instrument) (omega (arith, r.in_range.instrument.not_below)))

  pub opening_answer : answer book (opening row) ≡ answer other (opening row)
  unfolding answer figures_for
  opening_answer = ap (λ (n : ℕ). let handed : Answer = record { number = n; figures = cond (eqb n 0) [] (replicate 0 0) } in handed) opening_number

module _ (book other : List ℕ) (alike : AreAlike book other) where
  -- The lowest free row is the same, and an instrument is open in both or in neither.
  free_same : free_place book ≡ free_place other
  free_same =
      let f = free_first other in
      first_same 64 (IsFree book) (free_place book) (free_place other) (free_first book)
      (record {
        not_past = f.not_past;
        holds = λ l. (alike.rows (free_place other) l).1 (f.holds l);
        none_before = λ j l free. f.none_before j l ((alike.rows j (omega arith)).0 free);
      })

  open_same : (i : ℕ) → 0 < i → is_open book i ≡ is_open other i
  open_same i positive =
      same_test (is_open book i) (is_open other i)
      (λ e. open_tells other i ((alike.instruments i positive).0 (open_says book i e)))
      (λ e. open_tells book i ((alike.instruments i positive).1 (open_says other i e)))

-- Where an opened instrument stands then.
opened_at : (book row : List ℕ) → is_sound book ≡ true → number_of book (opening row) ≡ 0 → place_for (after book (opening row)) (word row Row.instrument) ≡ free_place book
unfolding answer
opened_at book row sound e =
    let o = accept_opening book row e in
    let named : word row Row.instrument ≡ o.range.values.instrument = ap (λ (row : List ℕ). word row Row.instrument) o.range.in_order in
    holder_place (after book (opening row)) (sound_says _ (sound_stays book (opening row) sound)) (word row Row.instrument) (omega (arith, o.range.in_range.instrument.not_below)) (free_place book) o.free
    ((call_leaves book (opening row) e).0.each 0 (lit< tt))

pub opens_alike : OpensAlike
unfolding answer
opens_alike book other row sound sound' alike = (
  opening_answer book other row sound sound' (open_same book other alike) (ap (λ (k : ℕ). ltb k rows) free),
  λ e. (
    opened_at book row sound e ∙ free ∙ sym (opened_at other row sound' (sym number ∙ e)),
    (call_leaves book (opening row) e).1 ∙ sym (call_leaves other (opening row) (sym number ∙ e)).1,
  ),
)
  where
    free : free_place book ≡ free_place other
    free = free_same book other alike

    number : number_of book (opening row) ≡ number_of other (opening row)
    number = opening_number book other row sound sound' (open_same book other alike) (ap (λ (k : ℕ). ltb k rows) free)
