-- What is said of each element of a list.
use Rattle.std.specs.Prelude.{List, [], ◌∷◌}

abbrev pub Each : {A : Type 0} → (A → Type 0) → List A → Type 0
Each fact [] = Unit {0}
Each fact (x ∷ xs) = fact x × Each fact xs
