use mathlib.Core.Path.{◌≡◌, sym, ap, ◌∙◌}
use Prim.Native.Nat.{ℕ, ◌+◌, ◌≤◌, ◌<◌}
use native.Mathlib.Omega.{arith}
use lib.ListN.{length, get_or, take, drop}
use Rattle.std.proofs.lemmas.List.{length-take-le, length-drop}
use lib.Seq.{get_or-take, get_or-drop}
use Rattle.paper.specs.Row.{Interval, ◌up_to◌, ranges, range_at, is_in, width}
use Rattle.paper.proofs.Row.{are_all, are_not}
use Rattle.row.proofs.words_in_range.Goals as goal

-- The range of a word among those from a place on.
range_of_word : (from n k : ℕ) → k < n → get_or (take n (drop from ranges)) k (0 up_to 0) ≡ range_at (from + k)
range_of_word from n k l = get_or-take n (drop from ranges) k (0 up_to 0) l ∙ get_or-drop from ranges k (0 up_to 0)

long : (from n : ℕ) → from + n ≤ width → length (take n (drop from ranges)) ≡ n
long from n l = length-take-le n (drop from ranges) (omega (arith, length-drop from ranges))

pub returns-then-not-word_in_range : goal.returns-then-not-word_in_range
returns-then-not-word_in_range c =
    let ns = c.args.words.now in
    let k = c.loop-i.i in
    let from = c.args.from in
    sym (are_not (take (length ns) (drop from ranges)) ns (0 up_to 0) k (omega (arith, long from (length ns) c.requires))
    (ap (λ (r : Interval). is_in r (get_or ns k 0)) (range_of_word from (length ns) k (omega arith)) ∙ sym c.word_in_range.ensures ∙ c.if-not-word_in_range.true))

pub returns : goal.returns
returns c =
    let ns = c.args.words.now in
    let from = c.args.from in
    let all = long from (length ns) c.requires in
    sym (are_all (take (length ns) (drop from ranges)) ns (0 up_to 0) (sym all)
    (λ k l. ap (λ (r : Interval). is_in r (get_or ns k 0)) (range_of_word from (length ns) k (omega (arith, all))) ∙ c.loop-i.invariant k (omega (arith, all))))
