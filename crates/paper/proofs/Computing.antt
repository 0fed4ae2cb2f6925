-- The definitions by which a worked case computes: `unfolding computing` opens them all. Assumes nothing.
use Rattle.paper.specs.Least.{least_from, least, greatest, least_multiple}
use Rattle.paper.specs.Row.{is_in, are_in, parameters_of, is_paired, parameters_in_range, row_in_range, is_halted}
use Rattle.paper.specs.Rates.{ceil_div, move_from, move, weight, next_variance, is_shock, covers_need, candidate, rises, falls, next_preliminary, next_days, covers_margin, margin_bound, rounded_up, published, published_margin, roots_within, covers_concentration, concentration_bound, published_concentration, candidate_on, figures_on, state_of, next_row, move_on, figures_of, day_in_range, day_on}
use Rattle.paper.specs.Reasons.{weight_for, branch_of, set_by, reasons_on}
use Rattle.paper.specs.Corridor.{is_repo, repos_in_range, terms_in_range, spread_up, spread_down, factor, scaled, under_rise, over_fall, under_spread, over_spread, is_within, reach, is_tick_within, ticks_within, corridor_on}
use Rattle.paper.specs.Bond.{bond_in_range, bond_under_rise, bond_over_fall, bond_under_spread, bond_over_spread, is_bond_within, bond_reach, bond_on}
use Rattle.paper.specs.Book.{row_at, with_row, is_zeros, place_for, row_for, is_open, free_place, all_below, is_row_sound, is_sound}
use Rattle.paper.specs.Exact.{exact_weight, exact_next, exact_variance, covers_exact_need, exact_candidate}
use Rattle.paper.specs.Calls.{corridor_for, bond_for, number_of, figures_for, changed, answer, after}

unfoldable pub computing : Unit {0}
unfolding least_from least greatest least_multiple is_in are_in parameters_of is_paired parameters_in_range row_in_range is_halted ceil_div move_from move weight next_variance is_shock covers_need candidate rises falls next_preliminary next_days covers_margin margin_bound rounded_up published published_margin roots_within covers_concentration concentration_bound published_concentration candidate_on figures_on state_of next_row move_on figures_of day_in_range day_on weight_for branch_of set_by reasons_on is_repo repos_in_range terms_in_range spread_up spread_down factor scaled under_rise over_fall under_spread over_spread is_within reach is_tick_within ticks_within corridor_on bond_in_range bond_under_rise bond_over_fall bond_under_spread bond_over_spread is_bond_within bond_reach bond_on row_at with_row is_zeros place_for row_for is_open free_place all_below is_row_sound is_sound exact_weight exact_next exact_variance covers_exact_need exact_candidate corridor_for bond_for number_of figures_for changed answer after
computing = tt
