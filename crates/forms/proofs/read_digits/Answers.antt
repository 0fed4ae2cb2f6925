use Rattle.std.proofs.Common.{◌≡◌, ℕ, suc, ◌+◌, ◌*◌, ◌^◌, ◌<◌, length, add-one, sym, ◌∙◌, arith}
use native.Mathlib.Nat.{pow-suc, pow-le-pow_right}
use lib.Dec.{lit<}
use Rattle.forms.proofs.Items.{in_line_further, digits_past, digits_end, digits_further, value_further}
use Rattle.forms.proofs.read_digits.Goals as goal
use Rattle.forms.proofs.read_digits.Goals.{then-not-is_ascii_digit-via-then-not-is_ascii_digit, then-not-is_ascii_digit-via-else-not-is_ascii_digit+then-count-eq-MOST_READ}

-- While there are fewer than 19 digits, the value has at most 18.
short : (v k : ℕ) → k < 19 → v < 10 ^ k → v < 10 ^ 18
short v k few small = omega (arith, pow-le-pow_right {n = 10} (lit< tt) {i = k} {j = 18} (omega arith))

-- One digit more.
room : (v d k : ℕ) → v < 10 ^ k → d < 10 → v * 10 + d < 10 ^ suc k
room v d k small digit = omega (arith, pow-suc 10 k)

pub returns-then-not-is_ascii_digit : goal.returns-then-not-is_ascii_digit
returns-then-not-is_ascii_digit c =
    let a = c.args in
    let up = c.loop-count.invariant in
    record {
      in_line = up.in_line;
      value = up.value;
      count = up.count;
      most = up.most;
      all = λ l. elim c.then-not-is_ascii_digit.branch [
        | then-not-is_ascii_digit-via-then-not-is_ascii_digit w ↦ digits_end a.text.now c.loop-count.count c.loop-count-test.true w.if-not-is_ascii_digit.ensures.cases
        | then-not-is_ascii_digit-via-else-not-is_ascii_digit+then-count-eq-MOST_READ w ↦ absurd (omega arith)
      ];
    }

pub overflow_mul-value : goal.overflow_mul-value
overflow_mul-value c = omega (arith, short c.loop-count.value c.loop-count.count (omega arith) c.loop-count.invariant.small)

pub overflow_add-value : goal.overflow_add-value
overflow_add-value c = omega (arith, short c.loop-count.value c.loop-count.count (omega arith) c.loop-count.invariant.small)

pub loop-count-preserved : goal.loop-count-preserved
loop-count-preserved c =
    let at = c.loop-count in
    let up = at.invariant in
    let text = c.args.text.now in
    let within = c.loop-count-test.true in
    let digit = c.if-not-is_ascii_digit.ensures.cases in
    record {
      in_line = in_line_further text 0 at.count up.in_line within (λ feed. omega (arith, digit.0));
      value = rw c.from.ensures (sym (value_further text at.count within digit.0 digit.1 at.value) ∙ up.value);
      count = omega (arith, digits_further text at.count within digit.0 digit.1);
      most = omega arith;
      small = rw add-one (room at.value c.from.result at.count up.small (omega (arith, digit.1)));
    }

pub returns : goal.returns
returns c =
    let text = c.args.text.now in
    let up = c.loop-count.invariant in
    let last : c.loop-count.count ≡ length text = omega arith in
    rw (← last) (record {
      in_line = up.in_line;
      value = up.value;
      count = up.count;
      most = up.most;
      all = λ l. digits_past text c.loop-count.count c.loop-count-test.false;
    })
