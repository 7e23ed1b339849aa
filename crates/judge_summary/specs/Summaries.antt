-- What a line of answers or summaries adds to a summary.
use Rattle.std.specs.Prelude.{ℕ, ◌==◌, ◌&&◌, Bool, if◌then◌else◌, List, [], ◌∷◌, ◌++◌, codes, decimal, Option, Some, None, option_map, option_and_then, Result, Ok, Err}
use Rattle.serde_json.specs.Data.{Data, object, Items, no_items, item, Members, no_members, member}
use Rattle.serde_json.specs.Find.{as_array, as_number, as_object, as_str, as_u64, get_member}
use Rattle.serde_json.specs.Written.{compact_text}
use Rattle.def_format.specs.Lines.{is_blank, line_feed}
use Rattle.def_format.specs.Lists.{first_some, is_one_of}
use Rattle.def_format.specs.Records.{json_value}
use Rattle.judge_summary.specs.Counts.{Counts, add_all, fits, members_of}
use Rattle.judge_summary.specs.declared.fault.LineFault.{LineFault}
use Rattle.judge_summary.specs.declared.fault.LineFault.TheVariants.{Overflow, Shape}

-- How often each thing was counted, and how often each id stands at a run that failed.
pub record Summary : Type 0 where
  pub counts : Counts
  pub failing : Counts

abbrev pub no_summary : Summary
no_summary = record { counts = []; failing = [] }

-- the counts of two summaries together
abbrev pub merged : Summary → Summary → Summary
merged summary other =
    record { counts = add_all other.counts summary.counts; failing = add_all other.failing summary.failing }

-- what a line adds
pub record Change : Type 0 where
  pub counts : Counts
  pub failing : Counts

abbrev pub change : Counts → Counts → Change
change counts failing = record { counts = counts; failing = failing }

abbrev pub once : List ℕ → List ℕ × ℕ
once text = (text, 1)

-- two lists, one after the other, if both are there
abbrev pub joined : {A : Type 0} → Option (List A) → Option (List A) → Option (List A)
joined None later = None
joined (Some xs) later = option_map (λ ys. xs ++ ys) later

-- ---- a summary

-- the whole number from 0 to 2^64 - 1 that a value is, if it is one
abbrev pub whole : Data → Option ℕ
whole value = option_and_then as_u64 (as_number value)

-- the number that a value is, under this name
abbrev pub number_in : List ℕ → Data → Option Counts
number_in name value = option_map (λ n. (name, n) ∷ []) (whole value)

-- the numbers of an object, each under its name, if each is a whole number
abbrev pub numbers_of : Members → Option Counts
numbers_of no_members = Some []
numbers_of (member name value others) = joined (number_in name value) (numbers_of others)

abbrev pub object_at : List ℕ → Members → Option Members
object_at name fields = option_and_then as_object (get_member name fields)

abbrev pub numbers_at : List ℕ → Members → Option Counts
numbers_at name fields = option_and_then numbers_of (object_at name fields)

abbrev pub summary_change : Members → Option Change
summary_change fields =
    option_and_then (λ counts. option_map (change counts) (numbers_at (codes "failing") fields))
    (numbers_at (codes "counts") fields)

-- ---- an error

-- the id of a run that failed, if it has one: a text
abbrev pub failing_id : Option Data → Option Counts
failing_id None = Some []
failing_id (Some value) = option_map (λ id. once id ∷ []) (as_str value)

abbrev pub failing_in : Members → Option Counts
failing_in fields = failing_id (get_member (codes "id") fields)

abbrev pub error_counts : Counts
error_counts = once (codes "runs") ∷ once (codes "errors") ∷ []

abbrev pub error_change : Members → Option Change
error_change fields =
    option_and_then (λ text. option_map (change error_counts) (failing_in fields))
    (option_and_then as_str (get_member (codes "error") fields))

-- ---- an answer

abbrev pub is_answer : List ℕ → Bool
is_answer = is_one_of (codes "yes" ∷ codes "no" ∷ codes "unknown" ∷ [])

-- the answer at this field of a predicate: yes, no or unknown
abbrev pub answer_at : List ℕ → Members → Option (List ℕ)
answer_at name fields =
    option_and_then (λ word. if is_answer word then Some word else None)
    (option_and_then as_str (option_and_then (get_member (codes "answer")) (object_at name fields)))

-- both answers for a predicate of this name
abbrev pub answer_counts : List ℕ → (possibly definitely : List ℕ) → Counts
answer_counts name possibly definitely =
    once (name ++ codes " possibly " ++ possibly) ∷ once (name ++ codes " definitely " ++ definitely) ∷ []

abbrev pub predicate_counts : Data → Option Counts
predicate_counts value =
    option_and_then (λ fields. option_and_then (λ name. option_and_then (λ possibly.
    option_map (λ definitely. answer_counts name possibly definitely) (answer_at (codes "definitely") fields))
    (answer_at (codes "possibly") fields)) (option_and_then as_str (get_member (codes "name") fields)))
    (as_object value)

abbrev pub all_predicate_counts : Items → Option Counts
all_predicate_counts no_items = Some []
all_predicate_counts (item value others) = joined (predicate_counts value) (all_predicate_counts others)

-- the predicates of a report, if it has any
abbrev pub predicates_in : Members → Option Items
predicates_in fields =
    option_and_then as_array (option_and_then (get_member (codes "predicates")) (object_at (codes "report") fields))

abbrev pub predicates_counts : Option Items → Option Counts
predicates_counts None = Some []
predicates_counts (Some predicates) = all_predicate_counts predicates

-- a run with this exit status, its answers, and its id, if it failed
abbrev pub run_change : (status : ℕ) → (answers failing : Counts) → Change
run_change status answers failing =
    change (answers ++ once (codes "runs") ∷ once (codes "status " ++ decimal status) ∷ [])
    (if status == 0 then [] else failing)

abbrev pub answer_change : Members → Option Change
answer_change fields =
    option_and_then (λ status. option_and_then (λ answers. option_map (run_change status answers) (failing_in fields))
    (predicates_counts (predicates_in fields))) (option_and_then whole (get_member (codes "status") fields))

-- ---- a line

-- a summary, or else an error, or else an answer
abbrev pub fields_change : Members → Option Change
fields_change fields = first_some (summary_change fields) (first_some (error_change fields) (answer_change fields))

-- what a line adds that isn't blank
abbrev pub line_change : List ℕ → Option Change
line_change line = option_and_then fields_change (option_and_then as_object (json_value line))

abbrev pub with_change : Summary → Change → Summary
with_change summary added = record {
  counts = add_all added.counts summary.counts;
  failing = add_all added.failing summary.failing;
}

-- the summary, unless a sum is over the limit
abbrev pub unless_over : Summary → Result Summary LineFault
unless_over summary = if fits summary.counts && fits summary.failing then Ok summary else Err Overflow

abbrev pub after_change : Summary → Option Change → Result Summary LineFault
after_change summary None = Err Shape
after_change summary (Some added) = unless_over (with_change summary added)

-- the summary after a line, or the line's fault; a blank line adds nothing
abbrev pub after_line : Summary → List ℕ → Result Summary LineFault
after_line summary line = if is_blank line then Ok summary else after_change summary (line_change line)

-- what comes of a summary that is there, or the fault
abbrev pub if_ok : (Summary → Result Summary LineFault) → Result Summary LineFault → Result Summary LineFault
if_ok following (Ok summary) = following summary
if_ok following (Err fault) = Err fault

-- the summary after lines, one after another, or the fault of the first that has one
abbrev pub after_all : Summary → List (List ℕ) → Result Summary LineFault
after_all summary [] = Ok summary
after_all summary (line ∷ lines) = if_ok (λ next. after_all next lines) (after_line summary line)

-- ---- its text

abbrev pub summary_data : Summary → Data
summary_data summary =
    object (member (codes "counts") (object (members_of summary.counts)) (member (codes "failing") (object
    (members_of summary.failing)) no_members))

-- one JSON object without spaces, in one line
unfoldable pub summary_line : Summary → List ℕ
summary_line summary = compact_text (summary_data summary)

abbrev pub summary_text : Summary → List ℕ
summary_text summary = summary_line summary ++ line_feed ∷ []
