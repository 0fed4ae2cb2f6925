-- A run of stores in a list: what it stored stands there, and every other place is as it was. Assumes nothing.
use mathlib.Core.Path.{◌≡◌, refl, sym, ap, ◌∙◌}
use mathlib.Core.List.{List, [], ◌∷◌}
use Prim.Native.Nat.{ℕ, zero, suc, ◌+◌, ◌≤◌, ◌<◌}
use native.Mathlib.Nat.{ne_of_lt, add-zero, add-suc, suc-add, not-suc-le-zero, le_of_suc-le-suc}
use native.Mathlib.Omega.{arith}
use lib.ListN.{length, get_or, set, take, length-set}
use lib.Seq.{sets, get_or-set_same, get_or-set_other, take-set-le}

-- What stands below the stores, at them, and past them.
pub sets_below : (l : List ℕ) (i : ℕ) (vs : List ℕ) (n : ℕ) → n ≤ i → take n (sets l i vs) ≡ take n l
sets_below l i [] n h = refl
sets_below l i (v ∷ vs) n h = sets_below (set l i v) (suc i) vs n (omega arith) ∙ take-set-le n l i v h

pub sets_under : (l : List ℕ) (i : ℕ) (vs : List ℕ) (k : ℕ) → k < i → get_or (sets l i vs) k 0 ≡ get_or l k 0
sets_under l i [] k h = refl
sets_under l i (v ∷ vs) k h = sets_under (set l i v) (suc i) vs k (omega arith) ∙ get_or-set_other l i k v 0 (ne_of_lt h)

pub sets_at : (l : List ℕ) (i : ℕ) (vs : List ℕ) (k : ℕ) → i + length vs ≤ length l → k < length vs → get_or (sets l i vs) (i + k) 0 ≡ get_or vs k 0
sets_at l i [] k h p = absurd (not-suc-le-zero p)
sets_at l i (v ∷ vs) zero h p =
    ap (λ (n : ℕ). get_or (sets (set l i v) (suc i) vs) n 0) (add-zero i) ∙ sets_under (set l i v) (suc i) vs i (omega arith)
    ∙ get_or-set_same l i v 0 (omega arith)
sets_at l i (v ∷ vs) (suc k) h p =
    ap (λ (n : ℕ). get_or (sets (set l i v) (suc i) vs) n 0) (add-suc i k ∙ sym (suc-add i k))
    ∙ sets_at (set l i v) (suc i) vs k (omega (arith, length-set l i v)) (le_of_suc-le-suc p)

pub sets_over : (l : List ℕ) (i : ℕ) (vs : List ℕ) (k : ℕ) → i + length vs ≤ k → get_or (sets l i vs) k 0 ≡ get_or l k 0
sets_over l i [] k h = refl
sets_over l i (v ∷ vs) k h = sets_over (set l i v) (suc i) vs k (omega arith) ∙ get_or-set_other l i k v 0 (λ e. omega arith)
