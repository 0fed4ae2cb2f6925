-- A number has one quotient and one rest by a width, so its words are fixed. Assumes nothing.
use Rattle.std.proofs.Common.{◌≡◌, ℕ, suc, ◌+◌, ◌*◌, ◌<◌, ◌≤◌, sym, ap, mul-le-mul_right, suc-mul, arith}
use native.Mathlib.Decide.{dec_le}
use Rattle.wide.specs.declared.Wide.{Wide}
use Rattle.wide.specs.Value.{word, value}
use Rattle.wide.specs.Settled.{IsWide, WordsSettled}

-- Two quotients of which neither number is past the next are the same, and so are the rests.
not_less : (W q r q' r' : ℕ) → r < W → q * W + r ≡ q' * W + r' → q < q' → ⊥
not_less W q r q' r' h e l = omega (arith, mul-le-mul_right W l, suc-mul q W)

quotient_one : (W q r q' r' : ℕ) → r < W → r' < W → q * W + r ≡ q' * W + r' → q ≡ q'
quotient_one W q r q' r' h h' e = go (dec_le (suc q) q') (dec_le (suc q') q)
  where
    go : Dec (suc q ≤ q') → Dec (suc q' ≤ q) → q ≡ q'
    go (yes l) m = absurd (not_less W q r q' r' h e l)
    go (no n) (yes m) = absurd (not_less W q' r' q r h' (sym e) m)
    go (no n) (no m) = omega (arith, n, m)

rest_one : (W q r q' r' : ℕ) → r < W → r' < W → q * W + r ≡ q' * W + r' → r ≡ r'
rest_one W q r q' r' h h' e = omega (arith, ap (λ (q : ℕ). q * W) (quotient_one W q r q' r' h h' e))

-- What is owed on the other side: r + b is a and so many widths more.
owed : (W a b q r q' r' : ℕ) → r + b ≡ a + q * W → r' + b ≡ a + q' * W → q' * W + r ≡ q * W + r'
owed W a b q r q' r' e f = omega arith

wide_one : (r s : Wide) → IsWide r → IsWide s → value r ≡ value s → r ≡ s
wide_one r s f g e = (λ i.
    record {
      high = quotient_one word r.high r.low s.high s.low f.low g.low e i;
      low = rest_one word r.high r.low s.high s.low f.low g.low e i;
    })

-- Two words are below the square of a word.
square_above : (W q r : ℕ) → q < W → r < W → q * W + r < W * W
square_above W q r h l = omega (arith, mul-le-mul_right W h, suc-mul q W)

wide_below : (w : Wide) → IsWide w → value w < word * word
wide_below w f = square_above word w.high w.low f.high f.low

pub words_settled : WordsSettled
words_settled =
    record {
      product = wide_one;
      add_words = λ r s f g e i.
          record {
            word = rest_one word r.over r.word s.over s.word f g e i;
            over = quotient_one word r.over r.word s.over s.word f g e i;
          };
      sub_words = λ a b r s f g d e i.
          let o = owed word a b r.over r.word s.over s.word d e in
          record {
            word = rest_one word s.over r.word r.over s.word f g o i;
            over = sym (quotient_one word s.over r.word r.over s.word f g o) i;
          };
      subtract = λ a b r s f g d e i.
          let o = owed (word * word) a b r.borrow (value r.limbs) s.borrow (value s.limbs) d e in
          let m = wide_below r.limbs f in
          let n = wide_below s.limbs g in
          record {
            limbs = wide_one r.limbs s.limbs f g (rest_one (word * word) s.borrow _ r.borrow _ m n o) i;
            borrow = sym (quotient_one (word * word) s.borrow _ r.borrow _ m n o) i;
          };
    }
