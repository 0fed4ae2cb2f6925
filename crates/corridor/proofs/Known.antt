-- What is known of a price, terms and a bond in range: the sizes of all that the corridor is worked out of. Assumes nothing.
use Prim.Native.Nat.{ℕ, ◌+◌, ◌*◌, ◌-◌, ◌/◌, ◌≤◌, ◌<◌}
use mathlib.Core.Path.{◌≡◌}
use mathlib.Core.Bool.{true}
use native.Mathlib.Nat.{mul-le-mul, mul-le-mul_right, mul_comm, mul-div-le, div-le_self}
use native.Mathlib.Omega.{arith}
use Rattle.paper.specs.Corridor.{Terms, terms_in_range}
use Rattle.paper.specs.Bond.{Bond, bond_in_range}
use Rattle.paper.proofs.Ranges.{bond_of_lem}
use Rattle.corridor.proofs.Ranged.{TermsFit, terms_fit}
use Rattle.corridor.proofs.Edges.{from_price, end_price, in_order}

pub record Known (price : ℕ) (t : Terms) (b : Bond) : Type 0 where
  pub fits : TermsFit t
  pub face : 0 < b.face
  -- P (1 - fall) and P (1 + rise), times a whole.
  pub fallen : price * (1000000 - t.fall) ≤ 1000000000000000
  pub risen : price * (1000000 + t.rise) ≤ 2000000000000000
  -- Where the prices begin is not after where they end, which is one past the last price that is not above P (1 + rise).
  pub order : from_price price t b ≤ end_price price t b
  pub last : end_price price t b ≤ 2000000000000001
  pub amount : (q : ℕ) → q ≤ end_price price t b → q * b.face ≤ 2001000000000000
  -- What is taken, times a whole.
  pub taken : (b.carry + b.accrued) * 1000000 ≤ 2000000000000000

pub known : (price : ℕ) (t : Terms) (b : Bond) → price ≤ 1000000000 → terms_in_range t ≡ true → bond_in_range b ≡ true → Known price t b
known price t b low terms bond =
    let f = terms_fit t terms in
    let s = bond_of_lem b bond in
    let risen : price * (1000000 + t.rise) ≤ 2000000000000000 = mul-le-mul {n₂ = 1000000000} {m₂ = 2000000} low (omega (arith, f.rise)) in
    let quotient = price * (1000000 + t.rise) / b.face in
    record {
      fits = f;
      face = s.face.not_below;
      fallen = mul-le-mul {n₂ = 1000000000} {m₂ = 1000000} low (omega arith);
      risen = risen;
      order = in_order price 0 0 t b f.fall s.face.not_below;
      last = omega (arith, risen, div-le_self (price * (1000000 + t.rise)) b.face);
      amount =
          λ q l.
          omega (arith, risen, s.face.not_above, mul-le-mul_right b.face l, mul_comm quotient b.face, mul-div-le (price * (1000000 + t.rise)) b.face);
      taken = omega (arith, s.carry.not_above, s.accrued.not_above);
    }
