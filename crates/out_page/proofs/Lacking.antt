-- The data of a page holds no `<`.
use Rattle.std.proofs.Common.{◌≡◌, ℕ, ◌/◌, ◌%◌, Bool, true, false, List, [], ◌∷◌, ◌++◌, refl, ap, ◌∙◌, arith}
use Rattle.std.specs.Prelude.{◌==◌, ◌&&◌, ◌||◌, not, nat_le, if◌then◌else◌, codes, decimal, flat_map, ℤ, unwrap_or, Option, Some, None}
use Rattle.std.specs.List.{AllByRecursion}
use Rattle.std.specs.Fmt.{signed_decimal}
use Rattle.std.proofs.lemmas.Bool.Decides.{nat_tests}
use Rattle.std.proofs.lemmas.List.Folds.{list_all-append}
use Rattle.def_model.specs.Events.{Computation, Event, Kind, Local, Send, Receive, Place}
use Rattle.def_model.specs.Predicates.{Predicate, Always, Never, Compare, Not, And, Or, Comparison, Equals, Differs, IsLess, IsAtMost, IsGreater, IsAtLeast, Sign, Plus, Minus, Term, Number, Variable, Times}
use Rattle.def_format.specs.Documents.{Document, NamedPredicate}
use Rattle.def_format.specs.Names.{ProcessNames, process_named}
use Rattle.def_format.specs.Reports.{Answer, Possibly, Definitely, NamedPlace}
use Rattle.out_page.specs.AnswerData.{Answered, Cyclic, Outcome, answer_text, definitely_text, named_place_text, outcome_text, possibly_text, process_number, unknown_text}
use Rattle.out_page.specs.EventData.{event_text, events_text, kind_text, message_text, place_text, process_text, setting_text, value_text}
use Rattle.out_page.specs.JsonTexts.{array, escaped_byte, hex_digit, lacks_less, listed, quoted}
use Rattle.out_page.specs.Pages.{data_text, refusal_data, truth_text}
use Rattle.out_page.specs.ExtraData.{Extras, link_text, predicate_number, wish_text}
use Rattle.out_page.specs.SourceData.{Source, source_text}
use Rattle.out_page.specs.PredicateData.{comparison_word, joined, predicate_text, sign_text, term_fields, term_text}
use Rattle.out_page.specs.Written.{extras_text, limits_text, named_text, report_text, run_text, session_text, sources_text}
use Rattle.out_page.proofs.WrittenData.{data_is}
use Rattle.out_page.proofs.Numerals.{decimal_lacks, signed_lacks}

-- ---- parts

abbrev pub Lacks : List ℕ → Type 0
Lacks text = lacks_less text ≡ true

append_lacks : (a b : List ℕ) → Lacks a → Lacks b → Lacks (a ++ b)
append_lacks a b h k =
    list_all-append (λ byte. not (byte == 60)) a b ∙ ap (λ first. first && lacks_less b) h ∙ k

-- parts after a first one
abbrev chain : List ℕ → List (List ℕ) → List ℕ
chain first [] = first
chain first (part ∷ parts) = chain (first ++ part) parts

chain_lacks : (first : List ℕ) (parts : List (List ℕ)) → Lacks first → AllByRecursion Lacks parts
    → Lacks (chain first parts)
chain_lacks first [] h k = h
chain_lacks first (part ∷ parts) h k = chain_lacks (first ++ part) parts (append_lacks first part h k.0) k.1

each_lacks : {A : Type 0} (text : A → List ℕ) → ((x : A) → Lacks (text x)) → (xs : List A)
    → Lacks (flat_map text xs)
each_lacks text h [] = refl
each_lacks text h (x ∷ xs) = append_lacks (text x) (flat_map text xs) (h x) (each_lacks text h xs)

listed_lacks : {A : Type 0} (text : A → List ℕ) → ((x : A) → Lacks (text x)) → (xs : List A)
    → Lacks (listed text xs)
listed_lacks text h [] = refl
listed_lacks text h (x ∷ xs) =
    append_lacks (text x) (flat_map (λ y. codes "," ++ text y) xs) (h x)
    (each_lacks (λ y. codes "," ++ text y) h xs)

-- ---- texts

hex_lacks : (digit : ℕ) → not (hex_digit digit == 60) ≡ true
hex_lacks digit = grind (arith, nat_tests)

abbrev by_number : ℕ → List ℕ
by_number byte = codes "\\u00" ++ hex_digit (byte / 16) ∷ hex_digit (byte % 16) ∷ []

number_lacks : (byte : ℕ) → Lacks (by_number byte)
number_lacks byte = rw (hex_lacks (byte / 16), hex_lacks (byte % 16)) refl

chosen_lacks : (a b c d e f g : Bool) (byte : ℕ) → not (byte == 60) ≡ not d
    → Lacks (if a || b || c || d || e || f || g then by_number byte else byte ∷ [])
chosen_lacks true b c d e f g byte is = number_lacks byte
chosen_lacks false true c d e f g byte is = number_lacks byte
chosen_lacks false false true d e f g byte is = number_lacks byte
chosen_lacks false false false true e f g byte is = number_lacks byte
chosen_lacks false false false false true f g byte is = number_lacks byte
chosen_lacks false false false false false true g byte is = number_lacks byte
chosen_lacks false false false false false false true byte is = number_lacks byte
chosen_lacks false false false false false false false byte is = rw is refl

byte_lacks : (byte : ℕ) → Lacks (escaped_byte byte)
byte_lacks byte =
    chosen_lacks (nat_le byte 31) (byte == 34) (byte == 38) (byte == 60) (byte == 62) (byte == 92) (byte == 127) byte
    refl

quoted_lacks : (text : List ℕ) → Lacks (quoted text)
quoted_lacks text =
    chain_lacks (codes "\"") (flat_map escaped_byte text ∷ codes "\"" ∷ []) refl
    (each_lacks escaped_byte byte_lacks text, (refl, tt))

-- ---- predicates

sign_lacks : (sign : Sign) → Lacks (sign_text sign)
sign_lacks Plus = refl
sign_lacks Minus = refl

fields_lack : (term : Term) → Lacks (term_fields term)
unfolding term_fields
fields_lack (Number n) =
    chain_lacks (codes ",\"") (decimal n ∷ codes "\"" ∷ []) refl (decimal_lacks n, (refl, tt))
fields_lack (Variable process var) =
    chain_lacks (codes ",") (decimal process ∷ codes "," ∷ decimal var ∷ []) refl
    (decimal_lacks process, (refl, (decimal_lacks var, tt)))
fields_lack (Times factor process var) =
    chain_lacks (codes ",\"") (decimal factor ∷ codes "\"," ∷ decimal process ∷ codes "," ∷ decimal var ∷ []) refl
    (decimal_lacks factor, (refl, (decimal_lacks process, (refl, (decimal_lacks var, tt)))))

term_lacks : (signed : Sign × Term) → Lacks (term_text signed)
term_lacks (sign, term) =
    chain_lacks (codes "[") (sign_text sign ∷ term_fields term ∷ codes "]" ∷ []) refl
    (sign_lacks sign, (fields_lack term, (refl, tt)))

word_lacks : (comparison : Comparison) → Lacks (comparison_word comparison)
word_lacks Equals = refl
word_lacks Differs = refl
word_lacks IsLess = refl
word_lacks IsAtMost = refl
word_lacks IsGreater = refl
word_lacks IsAtLeast = refl

array_lacks : {A : Type 0} (text : A → List ℕ) → ((x : A) → Lacks (text x)) → (xs : List A)
    → Lacks (array text xs)
array_lacks text h xs =
    chain_lacks (codes "[") (listed text xs ∷ codes "]" ∷ []) refl (listed_lacks text h xs, (refl, tt))

joined_lacks : (word left right : List ℕ) → Lacks word → Lacks left → Lacks right → Lacks (joined word left right)
joined_lacks word left right h k l =
    chain_lacks (codes "[\"") (word ∷ codes "\"," ∷ left ∷ codes "," ∷ right ∷ codes "]" ∷ []) refl
    (h, (refl, (k, (refl, (l, (refl, tt))))))

predicate_lacks : (predicate : Predicate) → Lacks (predicate_text predicate)
predicate_lacks Always = refl
predicate_lacks Never = refl
predicate_lacks (Compare left comparison right) =
    joined_lacks (comparison_word comparison) (array term_text left) (array term_text right) (word_lacks comparison)
    (array_lacks term_text term_lacks left) (array_lacks term_text term_lacks right)
predicate_lacks (Not inner) =
    chain_lacks (codes "[\"not\",") (predicate_text inner ∷ codes "]" ∷ []) refl (predicate_lacks inner, (refl, tt))
predicate_lacks (And left right) =
    joined_lacks (codes "and") (predicate_text left) (predicate_text right) refl (predicate_lacks left)
    (predicate_lacks right)
predicate_lacks (Or left right) =
    joined_lacks (codes "or") (predicate_text left) (predicate_text right) refl (predicate_lacks left)
    (predicate_lacks right)

-- ---- processes, events and messages

process_lacks : (process : ProcessNames) → Lacks (process_text process)
process_lacks process =
    chain_lacks (codes "{\"name\":")
    (quoted process.name ∷ codes ",\"vars\":[" ∷ listed quoted process.vars ∷ codes "]}" ∷ []) refl
    (quoted_lacks process.name, (refl, (listed_lacks quoted quoted_lacks process.vars, (refl, tt))))

value_lacks : (value : ℤ) → Lacks (value_text value)
value_lacks value =
    chain_lacks (codes "\"") (signed_decimal value ∷ codes "\"" ∷ []) refl (signed_lacks value, (refl, tt))

kind_lacks : (kind : Kind) → Lacks (kind_text kind)
kind_lacks Local = refl
kind_lacks (Send id) = quoted_lacks id
kind_lacks (Receive id) = refl

setting_lacks : (setting : ℕ × ℤ) → Lacks (setting_text setting)
setting_lacks (var, value) =
    chain_lacks (codes ",") (decimal var ∷ codes "," ∷ value_text value ∷ []) refl
    (decimal_lacks var, (refl, (value_lacks value, tt)))

event_lacks : (event : Event) → Lacks (event_text event)
event_lacks event =
    chain_lacks (codes "[") (kind_text event.kind ∷ flat_map setting_text event.sets ∷ codes "]" ∷ []) refl
    (kind_lacks event.kind, (each_lacks setting_text setting_lacks event.sets, (refl, tt)))

events_lack : (events : List Event) → Lacks (events_text events)
events_lack events =
    chain_lacks (codes "[0") (flat_map (λ event. codes "," ++ event_text event) events ∷ codes "]" ∷ []) refl
    (each_lacks (λ event. codes "," ++ event_text event) event_lacks events, (refl, tt))

place_lacks : (place : Place) → Lacks (place_text place)
place_lacks place =
    chain_lacks (decimal place.process) (codes "," ∷ decimal place.number ∷ []) (decimal_lacks place.process)
    (refl, (decimal_lacks place.number, tt))

message_lacks : (message : Place × Place) → Lacks (message_text message)
message_lacks (send, receipt) =
    chain_lacks (codes "[") (place_text send ∷ codes "," ∷ place_text receipt ∷ codes "]" ∷ []) refl
    (place_lacks send, (refl, (place_lacks receipt, (refl, tt))))

-- ---- answers

unknown_lacks : (level : ℕ) → Lacks (unknown_text level)
unfolding unknown_text
unknown_lacks level =
    chain_lacks (codes "[\"unknown\",") (decimal level ∷ codes "]" ∷ []) refl (decimal_lacks level, (refl, tt))

possibly_lacks : (possibly : Possibly) → Lacks (possibly_text possibly)
possibly_lacks (Possibly.Yes counts) =
    chain_lacks (codes "[\"yes\",[") (listed decimal counts ∷ codes "]]" ∷ []) refl
    (listed_lacks decimal decimal_lacks counts, (refl, tt))
possibly_lacks Possibly.No = refl
possibly_lacks (Possibly.Unknown level) = unknown_lacks level

number_is : (names : List ProcessNames) (name : List ℕ) → Lacks (process_number names name)
number_is names name = decimal_lacks (unwrap_or (process_named names name) 0)

definitely_lacks : (names : List ProcessNames) (definitely : Definitely) → Lacks (definitely_text names definitely)
definitely_lacks names (Definitely.Yes level) =
    chain_lacks (codes "[\"yes\",") (decimal level ∷ codes "]" ∷ []) refl (decimal_lacks level, (refl, tt))
definitely_lacks names (Definitely.No path) =
    chain_lacks (codes "[\"no\",[")
    (listed (process_number names) path ∷ codes "]]" ∷ []) refl
    (listed_lacks (process_number names) (number_is names) path, (refl, tt))
definitely_lacks names (Definitely.Unknown level) = unknown_lacks level

answer_lacks : (names : List ProcessNames) (answer : Answer) → Lacks (answer_text names answer)
unfolding answer_text
answer_lacks names answer =
    chain_lacks (codes "{\"name\":")
    (quoted answer.name ∷ codes ",\"possibly\":" ∷ possibly_text answer.possibly ∷ codes ",\"definitely\":"
    ∷ definitely_text names answer.definitely ∷ codes "}" ∷ []) refl (
      quoted_lacks answer.name,
      (
        refl,
        (
          possibly_lacks answer.possibly,
          (
            refl,
            (definitely_lacks names answer.definitely, (refl, tt)),
          ),
        ),
      ),
    )

named_place_lacks : (names : List ProcessNames) (place : NamedPlace) → Lacks (named_place_text names place)
named_place_lacks names place =
    chain_lacks (codes "[")
    (process_number names place.name ∷ codes "," ∷ decimal place.number ∷ codes "]" ∷ []) refl
    (number_is names place.name, (refl, (decimal_lacks place.number, (refl, tt))))

outcome_lacks : (names : List ProcessNames) (outcome : Outcome) → Lacks (outcome_text names outcome)
outcome_lacks names (Answered answers) =
    chain_lacks (codes "\"answers\":[") (listed (answer_text names) answers ∷ codes "]" ∷ []) refl
    (listed_lacks (answer_text names) (answer_lacks names) answers, (refl, tt))
outcome_lacks names (Cyclic places) =
    chain_lacks (codes "\"cycle\":[") (listed (named_place_text names) places ∷ codes "]" ∷ []) refl
    (listed_lacks (named_place_text names) (named_place_lacks names) places, (refl, tt))

-- ---- the data

truth_lacks : (truth : Bool) → Lacks (truth_text truth)
truth_lacks true = refl
truth_lacks false = refl

limits_lack : (document : Document) → Lacks (limits_text document)
unfolding limits_text
limits_lack document =
    chain_lacks (codes "{\"format\":1,\n\"width\":")
    (decimal document.width ∷ codes ",\n\"beyond_width\":" ∷ truth_text document.beyond_width ∷ []) refl
    (decimal_lacks document.width, (refl, (truth_lacks document.beyond_width, tt)))

session_lacks : (document : Document) → Lacks (session_text document)
unfolding session_text
session_lacks document =
    chain_lacks (codes ",\n\"processes\":[")
    (listed process_text document.names ∷ codes "],\n\"initial\":[" ∷ listed (array value_text) document.initial
    ∷ codes "]"
    ∷ []) refl (
      listed_lacks process_text process_lacks document.names,
      (
        refl,
        (listed_lacks (array value_text) (array_lacks value_text value_lacks) document.initial, (refl, tt)),
      ),
    )

source_lacks : (source : Source) → Lacks (source_text source)
unfolding source_text
source_lacks source =
    chain_lacks (codes "[") (quoted source.name ∷ codes ",[" ∷ listed decimal source.lines ∷ codes "]]" ∷ []) refl
    (quoted_lacks source.name, (refl, (listed_lacks decimal decimal_lacks source.lines, (refl, tt))))

sources_lack : (sources : List Source) → Lacks (sources_text sources)
unfolding sources_text
sources_lack sources =
    chain_lacks (codes ",\n\"sources\":[") (listed source_text sources ∷ codes "]" ∷ []) refl
    (listed_lacks source_text source_lacks sources, (refl, tt))

run_lacks : (events : Computation) (messages : List (Place × Place)) → Lacks (run_text events messages)
unfolding run_text
run_lacks events messages =
    chain_lacks (codes ",\n\"events\":[")
    (listed events_text events ∷ codes "],\n\"messages\":[" ∷ listed message_text messages ∷ codes "]" ∷ []) refl (
      listed_lacks events_text events_lack events,
      (
        refl,
        (listed_lacks message_text message_lacks messages, (refl, tt)),
      ),
    )

report_lacks : (document : Document) (outcome : Outcome) → Lacks (report_text document outcome)
unfolding report_text
report_lacks document outcome =
    chain_lacks (codes ",\n\"predicates\":[")
    (listed named_text document.predicates ∷ codes "],\n" ∷ outcome_text document.names outcome ∷ []) refl (
      listed_lacks named_text (λ named. predicate_lacks named.predicate) document.predicates,
      (
        refl,
        (outcome_lacks document.names outcome, tt),
      ),
    )

-- ---- beside the session

wish_lacks : (predicates : List NamedPredicate) (wish : List ℕ × List ℕ) → Lacks (wish_text predicates wish)
unfolding wish_text
wish_lacks predicates (word, name) =
    let number = predicate_number predicates name in
    chain_lacks (codes "[") (quoted word ∷ codes "," ∷ decimal number ∷ codes "]" ∷ []) refl
    (quoted_lacks word, (refl, (decimal_lacks number, (refl, tt))))

link_lacks : (link : Option (List ℕ)) → Lacks (link_text link)
link_lacks None = refl
link_lacks (Some pattern) = quoted_lacks pattern

extras_lack : (document : Document) (extras : Extras) → Lacks (extras_text document extras)
unfolding extras_text
extras_lack document extras =
    chain_lacks (codes ",\n\"wishes\":[")
    (listed (wish_text document.predicates) extras.wishes ∷ codes "],\n\"notes\":[" ∷ listed quoted extras.notes
    ∷ codes "],\n\"link\":" ∷ link_text extras.link ∷ []) refl (
      listed_lacks (wish_text document.predicates) (wish_lacks document.predicates) extras.wishes,
      (
        refl,
        (listed_lacks quoted quoted_lacks extras.notes, (refl, (link_lacks extras.link, tt))),
      ),
    )

pub data_lacks : (document : Document) (extras : Extras) (sources : List Source) (events : Computation)
    (messages : List (Place × Place)) (outcome : Outcome)
    → Lacks (data_text document extras sources events messages outcome)
data_lacks document extras sources events messages outcome =
    rw (data_is document extras sources events messages outcome) (chain_lacks (limits_text document)
    (extras_text document extras ∷ session_text document ∷ sources_text sources ∷ run_text events messages
    ∷ report_text document outcome ∷ codes "}\n" ∷ []) (limits_lack document) (
      extras_lack document extras,
      (
        session_lacks document,
        (
          sources_lack sources,
          (run_lacks events messages, (report_lacks document outcome, (refl, tt))),
        ),
      ),
    ))

pub refusal_lacks : (report explanation : List ℕ) → Lacks (refusal_data report explanation)
unfolding refusal_data
refusal_lacks report explanation =
    chain_lacks (codes "{\"format\":1,\"refusal\":[")
    (quoted report ∷ codes "," ∷ quoted explanation ∷ codes "]}\n" ∷ []) refl
    (quoted_lacks report, (refl, (quoted_lacks explanation, (refl, tt))))
