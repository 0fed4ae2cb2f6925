-- What a test that passed or failed says of its parts. Assumes nothing.
use mathlib.Core.Path.{◌≡◌, refl, sym}
use mathlib.Core.Bool.{Bool, true, false, ◌&&◌, ◌||◌, true≢false}
use mathlib.Core.Logic.{◌⊎◌, inl, inr, ◌↔◌}
use lib.Dec.{T}

pub passed : (b : Bool) → T b → b ≡ true
passed true t = refl
passed false t = absurd t

pub clash : (b : Bool) → b ≡ true → b ≡ false → ⊥
clash true p q = true≢false q
clash false p q = true≢false (sym p)

pub not_passed : (b : Bool) → ¬ (b ≡ true) → b ≡ false
not_passed true n = absurd (n refl)
not_passed false n = refl

pub and_left : (a b : Bool) → a && b ≡ true → a ≡ true
and_left true b e = refl
and_left false b e = e

pub and_right : (a b : Bool) → a && b ≡ true → b ≡ true
and_right true b e = e
and_right false b e = absurd (clash false e refl)

pub and_both : (a b : Bool) → a ≡ true → b ≡ true → a && b ≡ true
and_both true b p q = q
and_both false b p q = p

pub and_fails : (a b : Bool) → b ≡ false → a && b ≡ false
and_fails true b p = p
and_fails false b p = refl

pub and_true : (a : Bool) → a && true ≡ a
and_true true = refl
and_true false = refl

pub and_cases : (a b : Bool) → a && b ≡ false → (a ≡ false) ⊎ (b ≡ false)
and_cases true b e = inr e
and_cases false b e = inl refl

pub or_cases : (a b : Bool) → a || b ≡ true → (a ≡ true) ⊎ (b ≡ true)
or_cases true b e = inl refl
or_cases false b e = inr e

pub or_left : (a b : Bool) → a ≡ true → a || b ≡ true
or_left true b p = refl
or_left false b p = absurd (clash false p refl)

pub or_right : (a b : Bool) → b ≡ true → a || b ≡ true
or_right true b p = refl
or_right false b p = p

-- Two tests together say both, where each says its own.
pub both_say : (a b : Bool) (A B : Type 0) → (a ≡ true) ↔ A → (b ≡ true) ↔ B → (a && b ≡ true) ↔ (A × B)
both_say a b A B p q =
    (λ e. (p.0 (and_left a b e), q.0 (and_right a b e)), λ both. and_both a b (p.1 both.0) (q.1 both.1))

-- Two tests each of which passes where the other does.
pub same_test : (a b : Bool) → (a ≡ true → b ≡ true) → (b ≡ true → a ≡ true) → a ≡ b
same_test true b there back = sym (there refl)
same_test false true there back = back refl
same_test false false there back = refl
