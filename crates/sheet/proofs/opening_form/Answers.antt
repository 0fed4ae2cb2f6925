use mathlib.Core.Path.{◌≡◌, refl, ap, ◌∙◌}
use mathlib.Core.List.{List, ◌∷◌}
use Prim.Native.Nat.{ℕ, zero, suc, ◌+◌, ◌*◌, ◌-◌, ◌<◌}
use native.Mathlib.Omega.{arith}
use lib.ListN.{set}
use Rattle.paper.specs.Row.{width}
use Rattle.forms.specs.Reads.{form_of}
use Rattle.sheet.proofs.opening_form.Invariants.{evens}
use Rattle.sheet.proofs.opening_form.Goals as goal

-- One more.
evens_next : (k n : ℕ) → 2 * k < n → set (evens k n) (2 * k) 110 ≡ evens (suc k) n
unfolding evens
evens_next zero zero l = absurd (omega arith)
evens_next zero (suc zero) l = refl
evens_next zero (suc (suc n)) l = refl
evens_next (suc k) zero l = absurd (omega arith)
evens_next (suc k) (suc zero) l = absurd (omega arith)
evens_next (suc k) (suc (suc n)) l =
    let place : 2 * suc k ≡ suc (suc (2 * k)) = omega arith in
    ap (λ (at : ℕ). set (110 ∷ 32 ∷ evens k n) at 110) place ∙ ap (λ (rest : List ℕ). 110 ∷ 32 ∷ rest) (evens_next k n (omega arith))

pub loop-i-init : goal.loop-i-init
unfolding evens
loop-i-init c = refl

pub loop-i-preserved : goal.loop-i-preserved
loop-i-preserved c =
    let at = c.loop-i in
    let next : evens (suc at.i) (2 * width - 1) ≡ evens (at.i + 1) (2 * width - 1) = ap (λ (k : ℕ). evens k (2 * width - 1)) (omega arith) in
    ap (λ (form : List ℕ). set form (2 * at.i) 110) at.invariant ∙ evens_next at.i (2 * width - 1) (omega arith) ∙ next

pub returns : goal.returns
unfolding evens
returns c =
    let at = c.loop-i in
    let all : at.i ≡ width = omega arith in
    ap form_of (at.invariant ∙ ap (λ (k : ℕ). evens k (2 * width - 1)) all)
