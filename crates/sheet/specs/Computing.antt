-- To compute with a sheet and its bytes: `unfolding sheet_computing` opens all that reading and writing go through.
use Rattle.formats.specs.Reading.{run, ◌>>=◌}
use Rattle.formats.specs.Formats.{byte, word, presence, pair, converted, testing, passes_all, tested, keyed, row_reading, row_bytes, row_valid, row}
use Rattle.formats.specs.Formats.{count, counted, whole}
use Rattle.formats.specs.Fields.{optional_bytes, optional_valid, flag, flags, fields_reading, fields_bytes, fields_valid, fields, map_byte, with_map}
use Rattle.parts.specs.Precedences.{names_items, above}
use Rattle.parts.specs.Parts.{number, byte_number, measure, measures, may_turn, item_fields, item, precedence, lags_zero, lag_row, lag_list}
use Rattle.sheet.specs.Sheet.{list_of, item_list, precedence_list, yard_number, walkway, sheet_fields, sheet}

unfoldable pub sheet_computing : Unit {0}
unfolding run ◌>>=◌ byte word presence pair converted testing passes_all tested keyed
    row_reading row_bytes row_valid row count counted whole
    optional_bytes optional_valid flag flags fields_reading fields_bytes fields_valid fields map_byte with_map
    names_items above number byte_number measure measures may_turn item_fields item precedence lags_zero lag_row lag_list
    list_of item_list precedence_list yard_number walkway sheet_fields sheet
sheet_computing = tt
