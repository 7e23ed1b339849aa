-- What the names of the program stand for.
use Rattle.std.specs.Prelude.{List, map, string_bytes}
use Rattle.def_format.specs.Names.{ProcessNames as Entry}
use Rattle.pd_pred.specs.declared.names.ProcessNames.{ProcessNames}

-- a process's names as bytes
abbrev pub entry_view : ProcessNames → Entry
entry_view process = record { name = string_bytes process.name; vars = map string_bytes process.vars.items }

abbrev pub entries_view : List ProcessNames → List Entry
entries_view processes = map entry_view processes
