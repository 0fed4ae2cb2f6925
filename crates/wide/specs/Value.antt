-- The number that a pair of words stands for.
use Rattle.std.specs.Prelude.{ℕ, ◌+◌, ◌*◌, ◌^◌}
use Rattle.wide.specs.declared.Wide.{Wide}
use Rattle.wide.specs.declared.Column.{Column}

-- How many numbers a word has.
abbrev pub word : ℕ
word = 2 ^ 64

-- A two-word number.
abbrev pub value : Wide → ℕ
value w = w.high * word + w.low

-- A column of a sum, its carry counted.
abbrev pub column_value : Column → ℕ
column_value c = c.over * word + c.word
