-- One outcome: the promises of two-word numbers fix each word. A word is below 2^64.
use Rattle.std.specs.Prelude.{◌≡◌, ℕ, ◌+◌, ◌*◌, ◌<◌}
use Rattle.wide.specs.declared.Wide.{Wide}
use Rattle.wide.specs.declared.Column.{Column}
use Rattle.wide.specs.declared.Difference.{Difference}
use Rattle.wide.specs.Value.{word, value, column_value}

pub record IsWide (w : Wide) : Type 0 where
  pub high : w.high < word
  pub low : w.low < word

pub record WordsSettled : Type 0 where
  pub product : (r s : Wide) → IsWide r → IsWide s → value r ≡ value s → r ≡ s
  pub add_words : (r s : Column) → r.word < word → s.word < word → column_value r ≡ column_value s → r ≡ s
  pub sub_words :
      (a b : ℕ) (r s : Column) → r.word < word → s.word < word → r.word + b ≡ a + r.over * word → s.word + b ≡ a + s.over * word
      → r ≡ s
  pub subtract :
      (a b : ℕ) (r s : Difference) → IsWide r.limbs → IsWide s.limbs
      → value r.limbs + b ≡ a + r.borrow * (word * word) → value s.limbs + b ≡ a + s.borrow * (word * word) → r ≡ s
