use mathlib.Core.Path.{refl, sym, ap, ◌∙◌}
use mathlib.Core.List.{map}
use Prim.Native.Nat.{ℕ}
use native.Mathlib.Omega.{arith}
use Rattle.std.proofs.Common.{rules}
use lib.ListN.{length, length-append}
use Rattle.paper_sheets.specs.Sheet.{cut}
use Rattle.rows.proofs.Acting.{Comes, acts_none, acts_as, acts_row, room_as, room_row, rest_is, next_within, calls_wide, rows_passed}
use Rattle.rows.proofs.act_rows.Goals as goal

pub loop-row-init : goal.loop-row-init
unfolding cut
loop-row-init g c = record {
  wide = search rules;
  left = search rules;
  within = omega arith;
  taken = record { same = refl; acts = acts_none _ _ _ c.requires.sound (omega (arith, c.requires.room.holds)) };
}

pub act-requires-clause-room : goal.act-requires-clause-room
act-requires-clause-room g c =
    let turn = c.loop-row.invariant in
    let step = c.in-Some.ensures.steps.1 in
    let comes : Comes _ (length c.loop-row.yielded) c.args.rows.now c.in-Some.row.now _ = record { left = sym turn.left ∙ step.0; wide = step.1 ∙ turn.wide } in
    room_row g.R.Rows.section.call g.met.R.Rows.some comes turn.taken.acts (room_as (calls_wide g.R.Rows.section _ _ g.met.R.Rows.wide) c.requires.room)

pub loop-row-preserved : goal.loop-row-preserved
loop-row-preserved g c =
    let turn = c.loop-row.invariant in
    let step = c.in-Some.ensures.steps.1 in
    let comes : Comes _ (length c.loop-row.yielded) c.args.rows.now c.in-Some.row.now _ = record { left = sym turn.left ∙ step.0; wide = step.1 ∙ turn.wide } in
    rw (length-append)
    (record {
      wide = c.in-Some.ensures.steps.0 ∙ turn.wide;
      left = rest_is g.R.Rows.section.call g.met.R.Rows.some comes;
      within = next_within g.R.Rows.section.call g.met.R.Rows.some comes;
      taken = record { same = c.act.ensures.same ∙ turn.taken.same; acts = acts_row g.R.Rows.section.call g.met.R.Rows.some comes turn.taken.acts c.act.ensures.acts };
    })

pub returns : goal.returns
returns g c =
    let turn = c.loop-row.invariant in
    let passed = rows_passed g.R.Rows.WIDTH (length c.loop-row.yielded) c.args.rows.now _ turn.left turn.within (omega (arith, c.in-None.ensures.steps.1.0, turn.wide)) in
    record { same = turn.taken.same; acts = acts_as (ap (λ (n : ℕ). map g.R.Rows.section.call (cut g.R.Rows.WIDTH n c.args.rows.now)) (sym passed) ∙ sym (calls_wide g.R.Rows.section _ _ g.met.R.Rows.wide)) turn.taken.acts }
