-- The entries that an input gave so far are its first ones.
use Rattle.std.proofs.Common.{◌≡◌, ℕ, Bool, true, false, true≢false, List, [], ◌∷◌, ◌++◌, map, refl, sym, ap, ◌∙◌, subst, append-nil, append_assoc}
use Rattle.std.specs.Prelude.{IfSome, Option, Some, None}
use Rattle.std.specs.Io.KnownBytes.{Consumes}
use Rattle.std.proofs.lemmas.List.{map-append}
use Rattle.def_format.specs.Bundles.{whole_lines}
use Rattle.def_format.specs.Lines.{all_lines, as_line, ended_lines, unended_line}
use Rattle.def_format.proofs.LineFacts.{ended_lines-append, unended-append}
use Rattle.def_judgement.specs.Writes.{IsWholeInput, Source}
use Rattle.read_items.specs.GivenItems.{AreItems, HasItemsBy}
use Rattle.read_items.specs.Items.{all_items, items_of_lines, with_line_feed}
use Rattle.read_items.proofs.WholeLines.{by_feeds}
use Rattle.read_lines.specs.GivenLines.{AreLines, HasLines, HasLinesBy, State}
use Rattle.app_batch.specs.Entries.{HasEntries, entries_in}

-- ---- lines

-- bytes that end with a line, and more
lines_of_more : (taken more : List ℕ) → unended_line taken ≡ []
    → all_lines (taken ++ more) ≡ ended_lines taken ++ all_lines more
lines_of_more taken more ends =
    rw (ended_lines-append taken more, unended-append taken more, ends)
    (append_assoc (ended_lines taken) (ended_lines more) (as_line (unended_line more)))

first_of_part : (bytes left : Option (List ℕ)) (taken rest : List ℕ) (lines : List (List ℕ))
    → Consumes bytes left (taken ++ rest) → ended_lines taken ≡ lines → unended_line taken ≡ []
    → IfSome bytes (λ all. (others : List (List ℕ)) × (all_lines all ≡ lines ++ others))
first_of_part None left taken rest lines consumed are ends = tt
first_of_part (Some all) None taken rest lines consumed are ends = absurd consumed
first_of_part (Some all) (Some others) taken rest lines consumed are ends = (
  all_lines (rest ++ others),
  ap all_lines (consumed ∙ append_assoc taken rest others)
      ∙ lines_of_more taken (rest ++ others) ends ∙ ap (λ l. l ++ all_lines (rest ++ others)) are,
)

first_of_all : (parts : List ℕ → List (List ℕ)) (bytes : Option (List ℕ)) (given : List ℕ) (found : List (List ℕ))
    → IfSome bytes (λ left. given ≡ left) → parts given ≡ found
    → IfSome bytes (λ all. (others : List (List ℕ)) × (parts all ≡ found ++ others))
first_of_all parts None given found is are = tt
first_of_all parts (Some all) given found is are =
    ([], ap parts (sym is) ∙ are ∙ sym (append-nil found))

first_lines_by : (ended : Bool) (input : Source) (lines : List (List ℕ)) (left : Source) (held : List ℕ)
    → HasLinesBy ended input lines left held
    → IfSome input.bytes (λ all. (others : List (List ℕ)) × (all_lines all ≡ lines ++ others))
first_lines_by false input lines left held has =
    first_of_part input.bytes left.bytes has.taken ([] ++ held) lines
    (subst (Consumes input.bytes left.bytes) (append_assoc has.taken [] held) has.consumed) has.are_lines has.are_ended
first_lines_by true input lines left held has =
    first_of_all all_lines input.bytes has.bytes lines has.is_given.all has.are_lines

-- ---- items

items_of_part : (bytes left : Option (List ℕ)) (taken rest : List ℕ) (lines items : List (List ℕ))
    → Consumes bytes left (taken ++ rest) → ended_lines taken ≡ lines → unended_line taken ≡ []
    → ((others : List (List ℕ)) → items_of_lines (map with_line_feed lines ++ others) ≡ items ++ items_of_lines others)
    → IfSome bytes (λ all. (others : List (List ℕ)) × (all_items all ≡ items ++ others))
items_of_part None left taken rest lines items consumed are ends so_far = tt
items_of_part (Some all) None taken rest lines items consumed are ends so_far = absurd consumed
items_of_part (Some all) (Some others) taken rest lines items consumed are ends so_far =
    let more = rest ++ others in
    let lines_after = map with_line_feed (ended_lines more) ++ as_line (unended_line more) in
    let whole : whole_lines (taken ++ more) ≡ map with_line_feed lines ++ lines_after =
    by_feeds (taken ++ more)
    ∙ rw (ended_lines-append taken more, unended-append taken more, ends, are)
    (ap (λ l. l ++ as_line (unended_line more)) (map-append with_line_feed lines (ended_lines more))
    ∙ append_assoc (map with_line_feed lines) (map with_line_feed (ended_lines more)) (as_line
    (unended_line more))) in (
      items_of_lines lines_after,
      ap all_items (consumed ∙ append_assoc taken rest others) ∙ ap items_of_lines whole ∙ so_far lines_after,
    )

first_items_by : (ended : Bool) (input : Source) (items : List (List ℕ)) (left : Source) (held : List ℕ)
    → HasItemsBy ended input items left held
    → IfSome input.bytes (λ all. (others : List (List ℕ)) × (all_items all ≡ items ++ others))
first_items_by false input items left held has =
    let part = has.has_lines in
    items_of_part input.bytes left.bytes part.taken ([] ++ held) has.lines items
    (subst (Consumes input.bytes left.bytes) (append_assoc part.taken [] held) part.consumed) part.are_lines
    part.are_ended has.are_items
first_items_by true input items left held has =
    first_of_all all_items input.bytes has.bytes items has.is_given.all has.are_items

-- ---- entries

-- these are the first entries of the input, as far as its bytes are known
abbrev pub AreFirst : (in_bundles : Bool) (input : Source) (entries : List (List ℕ)) → Type 0
AreFirst in_bundles input entries =
    IfSome input.bytes (λ bytes. (rest : List (List ℕ)) × (entries_in in_bundles bytes ≡ entries ++ rest))

pub are_first : (in_bundles : Bool) (input : Source) (entries : List (List ℕ)) (state : State)
    → HasEntries in_bundles input entries state → AreFirst in_bundles input entries
are_first false input entries state has = first_lines_by state.ended input entries state.left state.held has
are_first true input entries state has = first_items_by state.ended input entries state.left state.held has

-- these are the entries of all bytes of the input
pub record AreEntries (in_bundles : Bool) (input : Source) (entries : List (List ℕ)) : Type 0 where
  pub bytes : List ℕ
  pub is_given : IsWholeInput input bytes
  pub are_entries : entries_in in_bundles bytes ≡ entries

lines_by : (ended : Bool) (input : Source) (lines : List (List ℕ)) (left : Source) (held : List ℕ) → ended ≡ true
    → HasLinesBy ended input lines left held → AreLines input lines
lines_by false input lines left held over has = absurd (true≢false (sym over))
lines_by true input lines left held over has = has

items_by : (ended : Bool) (input : Source) (items : List (List ℕ)) (left : Source) (held : List ℕ) → ended ≡ true
    → HasItemsBy ended input items left held → AreItems input items
items_by false input items left held over has = absurd (true≢false (sym over))
items_by true input items left held over has = has

-- at the end they are all
pub are_all : (in_bundles : Bool) (input : Source) (entries : List (List ℕ)) (state : State) → state.ended ≡ true
    → HasEntries in_bundles input entries state → AreEntries in_bundles input entries
are_all false input entries state over has =
    let all = lines_by state.ended input entries state.left state.held over has in
    record { bytes = all.bytes; is_given = all.is_given; are_entries = all.are_lines }
are_all true input entries state over has =
    let all = items_by state.ended input entries state.left state.held over has in
    record { bytes = all.bytes; is_given = all.is_given; are_entries = all.are_items }

-- ---- nothing is given yet

no_whole_line : (ended : List (List ℕ)) (rest : List ℕ) → ended ++ as_line rest ≡ []
    → map with_line_feed ended ++ as_line rest ≡ []
no_whole_line [] rest none = none
no_whole_line (line ∷ ended) rest none = absurd (cc)

no_item_by : (ended : Bool) (input left : Source) (held : List ℕ) → HasLinesBy ended input [] left held
    → HasItemsBy ended input [] left held
no_item_by false input left held has = record { lines = []; has_lines = has; are_items = λ others. refl }
no_item_by true input left held has = record {
  bytes = has.bytes;
  is_given = has.is_given;
  are_items = ap items_of_lines (by_feeds has.bytes
      ∙ no_whole_line (ended_lines has.bytes) (unended_line has.bytes) has.are_lines);
}

-- a source that gave no line gave no entry
pub none_given : (in_bundles : Bool) (input : Source) (state : State) → HasLines input [] state
    → HasEntries in_bundles input [] state
none_given false input state has = has
none_given true input state has = no_item_by state.ended input state.left state.held has
