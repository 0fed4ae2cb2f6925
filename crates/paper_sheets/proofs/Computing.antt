-- The definitions by which a sheet's text is made, once the calls' answers are known: `unfolding sheet_computing` opens them all. Assumes nothing.
use Rattle.paper.specs.Least.{least_from, least}
use Rattle.paper_sheets.specs.Sheet.{digits, places, decimal, is_digit, digit_count, value_from, starts_with, is_number, read_byte, read_item, read_items, read_line, read_rows, read_section, read_nothing, read_sections, read_sheet, line_length, finding, cut, calls_of, asks, fields_text, line_text, answer_line, text_of}

unfoldable pub sheet_computing : Unit {0}
unfolding least_from least digits places decimal is_digit digit_count value_from starts_with is_number read_byte read_item read_items read_line read_rows read_section read_nothing read_sections read_sheet line_length finding cut calls_of asks fields_text line_text answer_line text_of
sheet_computing = tt
