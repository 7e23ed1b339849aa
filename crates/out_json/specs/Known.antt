-- What is known of cuts, as it stands in the program.
use Rattle.std.specs.Prelude.{ℕ, ℤ, List, map, Option, option_map, Vec}
use Rattle.std.specs.Borrow.{Bor}
use Rattle.std.specs.Global.{Global}
use Rattle.out_json.specs.JsonReports as known
use Rattle.out_json.specs.declared.places.ProcessAt.{ProcessAt}

abbrev pub value_view : Bor (List ℕ) × ℤ → List ℕ × ℤ
value_view (name, value) = (name.now, value)

abbrev pub line_view : Bor (List ℕ) × ℕ → List ℕ × ℕ
line_view (file, line) = (file.now, line)

abbrev pub process_view : ProcessAt → known.ProcessAt
process_view at = record {
  process = at.process.now;
  recorded = option_map line_view at.recorded;
  values = map value_view at.values.items;
}

abbrev pub known_view : Option (Vec ProcessAt Global) → Option (List known.ProcessAt)
known_view found = option_map (λ (at : Vec ProcessAt Global). map process_view at.items) found
