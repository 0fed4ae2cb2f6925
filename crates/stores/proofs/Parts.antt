-- A part of a list that is lent on for writing, put back, is the list with that part written. Assumes nothing.
use mathlib.Core.Path.{◌≡◌, sym, ap, ◌∙◌}
use mathlib.Core.List.{List, ◌++◌, append_assoc}
use Prim.Native.Nat.{ℕ, ◌+◌, ◌≤◌}
use native.Mathlib.Omega.{arith}
use borrow.Rule.Slice.PartMut.{put_mid}
use lib.ListN.{length, take, drop}
use lib.Seq.{sets, sets-eq, drop-drop}

pub put_sets : (at n : ℕ) (xs ys : List ℕ) → length ys ≡ n → at + n ≤ length xs → put_mid at n xs ys ≡ sets xs at ys
put_sets at n xs ys long within =
    let past : at + n ≡ at + length ys = omega arith in
    ap (λ (rest : List ℕ). take at xs ++ (ys ++ rest)) (drop-drop n at xs ∙ ap (λ (k : ℕ). drop k xs) past)
    ∙ sym (append_assoc (take at xs) ys (drop (at + length ys) xs)) ∙ sym (sets-eq ys xs at (omega arith))
