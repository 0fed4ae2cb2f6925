-- What a rate is compared with, by the kind of sum.
use Rattle.std.specs.Prelude.{ℕ, ◌*◌, ◌-◌, Bool, ◌&&◌, leb}
use Rattle.paper.specs.Rates.{square}

-- A rate less the add-on, squared and times T, is not below the need.
abbrev pub covers_margin_sum : ℕ → ℕ → ℕ → ℕ → Bool
covers_margin_sum need add_on horizon X = leb add_on X && leb need (square (X - add_on) * horizon)

-- A rate's square times that of T is not below A + B, and the square of what is left not below 4AB.
abbrev pub covers_concentration_sum : ℕ → ℕ → ℕ → ℕ → Bool
covers_concentration_sum parts cross scale X =
    leb parts (square X * scale) && leb cross (square (square X * scale - parts))
