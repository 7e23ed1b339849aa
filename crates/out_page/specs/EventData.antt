-- What stands in a page for the processes, their variables, their events and the messages.
use Rattle.std.specs.Prelude.{ℕ, ℤ, List, ◌++◌, codes, decimal, flat_map}
use Rattle.std.specs.Fmt.{signed_decimal}
use Rattle.def_model.specs.Events.{Event, Kind, Local, Send, Receive, Place}
use Rattle.def_format.specs.Names.{ProcessNames}
use Rattle.out_page.specs.JsonTexts.{listed, quoted}

-- a process's name, and the names of its variables
abbrev pub process_text : ProcessNames → List ℕ
process_text process =
    codes "{\"name\":" ++ quoted process.name ++ codes ",\"vars\":[" ++ listed quoted process.vars ++ codes "]}"

-- The value of a variable has 64 bits, more than a number of JavaScript holds exactly: it is a text.
abbrev pub value_text : ℤ → List ℕ
value_text value = codes "\"" ++ signed_decimal value ++ codes "\""

-- What an event does: 0 if it is local, the message's id if it sends one, 1 if it receives one.
abbrev pub kind_text : Kind → List ℕ
kind_text Local = codes "0"
kind_text (Send id) = quoted id
kind_text (Receive id) = codes "1"

-- a variable that an event sets, counted from 0, and the value
abbrev pub setting_text : ℕ × ℤ → List ℕ
setting_text (var, value) = codes "," ++ decimal var ++ codes "," ++ value_text value

abbrev pub event_text : Event → List ℕ
event_text event = codes "[" ++ kind_text event.kind ++ flat_map setting_text event.sets ++ codes "]"

-- the events of a process, each at the place of its number: place 0 is no event's
abbrev pub events_text : List Event → List ℕ
events_text events = codes "[0" ++ flat_map (λ event. codes "," ++ event_text event) events ++ codes "]"

abbrev pub place_text : Place → List ℕ
place_text place = decimal place.process ++ codes "," ++ decimal place.number

-- a message, by the process and the number of the send and of the receipt
abbrev pub message_text : Place × Place → List ℕ
message_text (send, receipt) = codes "[" ++ place_text send ++ codes "," ++ place_text receipt ++ codes "]"
