-- What a line, and the end, do to an item that goes on.
use Rattle.std.proofs.Common.{◌≡◌, ◌<◌, ◌≤◌, ℕ, Bool, true, false, true≢false, not, List, [], ◌∷◌, ◌++◌, length, map, Option, Some, None, refl, sym, ap, subst, ◌∙◌, append-nil, append_assoc, arith}
use Rattle.std.specs.Prelude.{Err, IfNone, IfSome, IsErrAnd, Ok, Result}
use Rattle.std.proofs.lemmas.List.{map-append}
use Rattle.def_format.specs.Bundles.{onto_part}
use Rattle.def_format.specs.Lines.{as_line, ended_lines, has_line_feed, unended_line}
use Rattle.def_judgement.specs.Writes.{Source}
use Rattle.pd_gather.specs.declared.read_fault.ReadFault.{ReadFault}
use Rattle.pd_gather.specs.declared.read_fault.ReadFault.TheVariants.{Read}
use Rattle.read_lines.specs.GivenLines as lines
use Rattle.read_lines.specs.GivenLines.{EndsIn, HasLines, HasLinesBy, HasPart, State}
use Rattle.read_lines.specs.declared.line.Line.{Line}
use Rattle.read_items.specs.Items.{all_items, is_divider, items_of_lines, whole_line, with_line_feed}
use Rattle.read_items.specs.GivenItems.{AreItems, BreaksOff, Gives, HasItemPart, HasItems, HasItemsBy, HasNext, IsItem, onto_item}
use Rattle.read_items.specs.Steps.{IsKept, TakesLine}
use Rattle.read_items.specs.declared.kept.Kept.{Kept}
use Rattle.read_items.proofs.WholeLines.{by_feeds, rest_without}

-- ---- bytes onto an item

item_alone : (part : List ℕ) → onto_item part [] ≡ as_line part
item_alone [] = refl
item_alone (byte ∷ part) = refl

item_ends : (part : List ℕ) (items : List (List ℕ)) → onto_item part ([] ∷ items) ≡ part ∷ items
item_ends [] items = refl
item_ends (byte ∷ part) items = ap (λ item. item ∷ items) (append-nil (byte ∷ part))

onto_both : (part line : List ℕ) (items : List (List ℕ)) → 0 < length line
    → onto_item part (onto_part line items) ≡ onto_item (part ++ line) items
onto_both [] [] items some = absurd (omega arith)
onto_both [] (x ∷ line) items some = refl
onto_both (byte ∷ part) line [] some = refl
onto_both (byte ∷ part) line (next ∷ items) some =
    ap (λ item. item ∷ items) (sym (append_assoc (byte ∷ part) line next))

at_most_one : (part : List ℕ) (items : List (List ℕ)) → length items ≤ 1 → length (onto_item part items) ≤ 1
at_most_one [] items few = few
at_most_one (byte ∷ part) [] few = omega arith
at_most_one (byte ∷ part) (next ∷ items) few = few

-- ---- lines

by_divider : (line : List ℕ) (others : List (List ℕ)) → is_divider line ≡ true
    → items_of_lines (line ∷ others) ≡ [] ∷ items_of_lines others
by_divider line others is = rw is refl

by_other : (line : List ℕ) (others : List (List ℕ)) → is_divider line ≡ false
    → items_of_lines (line ∷ others) ≡ onto_part line (items_of_lines others)
by_other line others other = rw other refl

one_line : (line : List ℕ) → length (items_of_lines (as_line line)) ≤ 1
one_line [] = omega arith
one_line (byte ∷ line) = go (is_divider (byte ∷ line)) refl
  where
    go : (b : Bool) → is_divider (byte ∷ line) ≡ b → length (items_of_lines ((byte ∷ line) ∷ [])) ≤ 1
    go true e = subst (λ (items : List (List ℕ)). length items ≤ 1) (sym (by_divider (byte ∷ line) [] e)) (omega arith)
    go false e = subst (λ (items : List (List ℕ)). length items ≤ 1) (sym (by_other (byte ∷ line) [] e)) (omega arith)

some_bytes : (line : List ℕ) → 0 < length (with_line_feed line)
some_bytes [] = omega arith
some_bytes (x ∷ line) = omega arith

more_lines : (given others : List (List ℕ)) (line : List ℕ)
    → map with_line_feed (given ++ line ∷ []) ++ others ≡ map with_line_feed given ++ with_line_feed line ∷ others
more_lines given others line =
    ap (λ l. l ++ others) (map-append with_line_feed given (line ∷ []))
    ∙ append_assoc (map with_line_feed given) (with_line_feed line ∷ []) others

-- these lines are the items, and then a part of one
abbrev pub AreSoFar : (given items : List (List ℕ)) (part : List ℕ) → Type 0
AreSoFar given items part =
    (others : List (List ℕ)) → items_of_lines (map with_line_feed given ++ others)
    ≡ items ++ onto_item part (items_of_lines others)

-- a line more, with its LF
divided : (given items : List (List ℕ)) (part line : List ℕ) → AreSoFar given items part
    → is_divider (with_line_feed line) ≡ true → AreSoFar (given ++ line ∷ []) (items ++ part ∷ []) []
divided given items part line are is = λ others.
    ap items_of_lines (more_lines given others line) ∙ are (with_line_feed line ∷ others)
    ∙ ap (λ later. items ++ onto_item part later) (by_divider (with_line_feed line) others is)
    ∙ ap (λ later. items ++ later) (item_ends part (items_of_lines others))
    ∙ sym (append_assoc items (part ∷ []) (items_of_lines others))

undivided : (given items : List (List ℕ)) (part line : List ℕ) → AreSoFar given items part
    → is_divider (with_line_feed line) ≡ false → AreSoFar (given ++ line ∷ []) items (part ++ with_line_feed line)
undivided given items part line are other = λ others.
    ap items_of_lines (more_lines given others line) ∙ are (with_line_feed line ∷ others)
    ∙ ap (λ later. items ++ onto_item part later) (by_other (with_line_feed line) others other)
    ∙ ap (λ later. items ++ later)
    (onto_both part (with_line_feed line) (items_of_lines others) (some_bytes line))

-- the items of all bytes, of which these lines end with an LF
items_by : (given items : List (List ℕ)) (part bytes : List ℕ) → AreSoFar given items part → ended_lines bytes ≡ given
    → all_items bytes ≡ items ++ onto_item part (items_of_lines (as_line (unended_line bytes)))
items_by given items part bytes are ended =
    ap items_of_lines (by_feeds bytes)
    ∙ ap (λ lines. items_of_lines (map with_line_feed lines ++ as_line (unended_line bytes))) ended
    ∙ are (as_line (unended_line bytes))

-- the last line, without an LF
last_divides : (items : List (List ℕ)) (part line : List ℕ) → is_divider line ≡ true
    → items ++ onto_item part (items_of_lines (as_line line)) ≡ items ++ part ∷ []
last_divides items part [] is = absurd (true≢false (sym is))
last_divides items part (byte ∷ line) is =
    ap (λ later. items ++ onto_item part later) (by_divider (byte ∷ line) [] is)
    ∙ ap (λ later. items ++ later) (item_ends part [])

last_goes_on : (items : List (List ℕ)) (part line : List ℕ) → is_divider line ≡ false
    → items ++ onto_item part (items_of_lines (as_line line)) ≡ items ++ as_line (part ++ line)
last_goes_on items part [] other =
    ap (λ later. items ++ later) (item_alone part ∙ ap as_line (sym (append-nil part)))
last_goes_on items part (byte ∷ line) other =
    ap (λ later. items ++ onto_item part later) (by_other (byte ∷ line) [] other)
    ∙ ap (λ later. items ++ later) (onto_both part (byte ∷ line) [] (omega arith) ∙ item_alone (part ++ byte ∷ line))

-- ---- an item that goes on

-- while lines come, or at the end
abbrev pub ItemAt : Bool → (input : Source) → List (List ℕ) → List ℕ → (left : Source) (held : List ℕ) → Type 0
ItemAt false input items part left held = HasItemPart input items part left held
ItemAt true input items part left held = AreItems input (items ++ as_line part)

-- The items that a source gave so far, and then one of which these bytes are kept so far.
pub record IsInItem (input : Source) (items : List (List ℕ)) (kept : Kept) (state : State) : Type 0 where
  pub part : List ℕ
  pub is_kept : IsKept kept part
  pub at : ItemAt state.ended input items part state.left state.held

begins_by : (ended : Bool) (input : Source) (items : List (List ℕ)) (left : Source) (held : List ℕ)
    → HasItemsBy ended input items left held → ItemAt ended input items [] left held
begins_by false input items left held has = has
begins_by true input items left held has = subst (AreItems input) (sym (append-nil items)) has

pub begins : (input : Source) (items : List (List ℕ)) (kept : Kept) (state : State) → HasItems input items state
    → IsKept kept [] → IsInItem input items kept state
begins input items kept state has nothing = record {
  part = [];
  is_kept = nothing;
  at = begins_by state.ended input items state.left state.held has;
}

goes_by : (ended : Bool) (input : Source) (items : List (List ℕ)) (part : List ℕ) (left : Source) (held : List ℕ)
    → ended ≡ false → ItemAt ended input items part left held → HasItemPart input items part left held
goes_by false input items part left held more at = at
goes_by true input items part left held more at = absurd (true≢false more)

ended_by : (ended : Bool) (input : Source) (items : List (List ℕ)) (part : List ℕ) (left : Source) (held : List ℕ)
    → ended ≡ true → ItemAt ended input items part left held → AreItems input (items ++ as_line part)
ended_by false input items part left held over at = absurd (true≢false (sym over))
ended_by true input items part left held over at = at

lines_by : (ended : Bool) (input : Source) (given : List (List ℕ)) (left : Source) (held : List ℕ) → ended ≡ false
    → HasPart input given [] left held → HasLinesBy ended input given left held
lines_by false input given left held more has = has
lines_by true input given left held more has = absurd (true≢false more)

-- the item that goes on, in a source that isn't at its end
pub goes_on : (input : Source) (items : List (List ℕ)) (kept : Kept) (state : State) → state.ended ≡ false
    → (at : IsInItem input items kept state) → HasItemPart input items at.part state.left state.held
goes_on input items kept state more at =
    goes_by state.ended input items at.part state.left state.held more at.at

has_lines_of : (input : Source) (items : List (List ℕ)) (part : List ℕ) (state : State) → state.ended ≡ false
    → (has : HasItemPart input items part state.left state.held) → HasLines input has.lines state
has_lines_of input items part state more has =
    lines_by state.ended input has.lines state.left state.held more has.has_lines

-- ---- no line more

-- all bytes came, and the last of them end no line, or stand in none
all_items_of : (input : Source) (items : List (List ℕ)) (part : List ℕ) (left : Source) (held : List ℕ)
    (has : HasItemPart input items part left held) (rest : List ℕ) → EndsIn input has.lines rest
    → (due : List (List ℕ)) → items ++ onto_item part (items_of_lines (as_line rest)) ≡ due → AreItems input due
all_items_of input items part left held has rest ends due same = record {
  bytes = ends.bytes;
  is_given = ends.is_given;
  are_items = items_by has.lines items part ends.bytes has.are_items ends.are_ended
      ∙ ap (λ line. items ++ onto_item part (items_of_lines (as_line line))) ends.is_rest ∙ same;
}

at_by : (ended : Bool) (input : Source) (items : List (List ℕ)) (part : List ℕ) (left : Source) (held : List ℕ)
    → ended ≡ true → AreItems input (items ++ as_line part) → ItemAt ended input items part left held
at_by false input items part left held over are = absurd (true≢false (sym over))
at_by true input items part left held over are = are

pub no_line : (input : Source) (items : List (List ℕ)) (kept : Kept) (old new : State) → old.ended ≡ false
    → IsInItem input items kept old → lines.Gives None old new → IsInItem input items kept new
no_line input items kept old new more at gives =
    let has = goes_on input items kept old more at in record {
      part = at.part;
      is_kept = at.is_kept;
      at = at_by new.ended input items at.part new.left new.held gives.0
          (all_items_of input items at.part old.left old.held has []
          (gives.2 more input has.lines (has_lines_of input items at.part old more has)) _
          (ap (λ later. items ++ later) (item_alone at.part)));
    }

as_one : (bytes : List ℕ) → 0 < length bytes → as_line bytes ≡ bytes ∷ []
as_one [] some = absurd (omega arith)
as_one (x ∷ bytes) some = refl

items_at_end : (ended : Bool) (input : Source) (items : List (List ℕ)) (left : Source) (held : List ℕ) → ended ≡ true
    → AreItems input items → HasItemsBy ended input items left held
items_at_end false input items left held over are = absurd (true≢false (sym over))
items_at_end true input items left held over are = are

-- the last item, if there are bytes of it
pub last_gives : (found : Option Line) (kept : Kept) (old new : State) → new.ended ≡ true
    → ((input : Source) (items : List (List ℕ)) → HasItems input items old → IsInItem input items kept new)
    → IfNone found ((part : List ℕ) → IsKept kept part → part ≡ [])
    → IfSome found (λ line. (part : List ℕ) → IsKept kept part → IsItem line part × (0 < length part))
    → Gives found old new
last_gives None kept old new over at none some = (
  over,
  λ input items has.
      let here = at input items has in
      subst (AreItems input)
      (ap (λ part. items ++ as_line part) (none here.part here.is_kept) ∙ append-nil items)
      (ended_by new.ended input items here.part new.left new.held over here.at),
)
last_gives (Some line) kept old new over at none some = λ input items has.
    let here = at input items has in
    let is = some here.part here.is_kept in
    record {
      bytes = here.part;
      is_item = is.0;
      has_items = items_at_end new.ended input (items ++ here.part ∷ []) new.left new.held over
          (subst (AreItems input) (ap (λ more. items ++ more) (as_one here.part is.1))
          (ended_by new.ended input items here.part new.left new.held over here.at));
    }

-- ---- a line more

-- how the line ends
abbrev pub LineAt : Bool → (input : Source) → List (List ℕ) → List ℕ → (left : Source) (held : List ℕ) → Type 0
LineAt false input given line left held = HasPart input (given ++ line ∷ []) [] left held
LineAt true input given line left held = EndsIn input given line

line_at : (ended : Bool) (input : Source) (given : List (List ℕ)) (line : List ℕ) (left : Source) (held : List ℕ)
    → HasLinesBy ended input (given ++ line ∷ []) left held → (ended ≡ true → EndsIn input given line)
    → LineAt ended input given line left held
line_at false input given line left held has ends = has
line_at true input given line left held has ends = ends refl

-- a line that divides
divides_by : (ended : Bool) (input : Source) (items : List (List ℕ)) (part line : List ℕ) (before left : Source)
    (held_before held : List ℕ) (has : HasItemPart input items part before held_before)
    → LineAt ended input has.lines line left held → is_divider (whole_line (not ended) line) ≡ true
    → HasItemsBy ended input (items ++ part ∷ []) left held
divides_by false input items part line before left held_before held has at is = record {
  lines = has.lines ++ line ∷ [];
  has_lines = at;
  are_items = divided has.lines items part line has.are_items is;
}
divides_by true input items part line before left held_before held has at is =
    all_items_of input items part before held_before has line at (items ++ part ∷ [])
    (last_divides items part line is)

goes_on_by : (ended : Bool) (input : Source) (items : List (List ℕ)) (part line : List ℕ) (before left : Source)
    (held_before held : List ℕ) (has : HasItemPart input items part before held_before)
    → LineAt ended input has.lines line left held → is_divider (whole_line (not ended) line) ≡ false
    → ItemAt ended input items (part ++ whole_line (not ended) line) left held
goes_on_by false input items part line before left held_before held has at other = record {
  lines = has.lines ++ line ∷ [];
  has_lines = at;
  are_items = undivided has.lines items part line has.are_items other;
}
goes_on_by true input items part line before left held_before held has at other =
    all_items_of input items part before held_before has line at (items ++ as_line (part ++ line))
    (last_goes_on items part line other)

rest_by : (ended : Bool) (input : Source) (given : List (List ℕ)) (line : List ℕ)
    → (ended ≡ true → EndsIn input given line) → not ended ≡ false → has_line_feed line ≡ false
rest_by false input given line ends none = absurd (true≢false none)
rest_by true input given line ends none =
    let is = ends refl in subst (λ (rest : List ℕ). has_line_feed rest ≡ false) is.is_rest (rest_without is.bytes)

-- what the line that came does, with its LF or, at the end, without
takes_line : (ended has_feed divides due : Bool) (input : Source) (given : List (List ℕ)) (bytes : List ℕ)
    (line : Line) (kept kept_new : Kept) → has_feed ≡ not ended → divides ≡ due → lines.IsLine line bytes
    → (ended ≡ true → EndsIn input given bytes)
    → ((bytes : List ℕ) → lines.IsLine line bytes → (has_feed ≡ false → has_line_feed bytes ≡ false)
    → TakesLine divides kept kept_new (whole_line has_feed bytes))
    → TakesLine due kept kept_new (whole_line (not ended) bytes)
takes_line ended has_feed divides due input given bytes line kept kept_new feed is is_line ends takes =
    subst (λ (b : Bool). TakesLine b kept kept_new (whole_line (not ended) bytes)) is
    (subst (λ (b : Bool). TakesLine divides kept kept_new (whole_line b bytes)) feed
    (takes bytes is_line (λ none. rest_by ended input given bytes ends (sym feed ∙ none))))

module _ (input : Source) (items : List (List ℕ)) (kept kept_new : Kept) (line : Line) (old new : State)
    (more : old.ended ≡ false) (at : IsInItem input items kept old) (gives : lines.Gives (Some line) old new)
    (has_feed divides : Bool) (feed : has_feed ≡ not new.ended)
    (takes : (bytes : List ℕ) → lines.IsLine line bytes → (has_feed ≡ false → has_line_feed bytes ≡ false)
    → TakesLine divides kept kept_new (whole_line has_feed bytes)) where
  has : HasItemPart input items at.part old.left old.held
  has = goes_on input items kept old more at

  next : lines.HasNext input has.lines line new
  next = gives input has.lines (has_lines_of input items at.part old more has)

  ends : LineAt new.ended input has.lines next.bytes new.left new.held
  ends = line_at new.ended input has.lines next.bytes new.left new.held next.has_lines next.unended

  -- the line divides items
  pub item_divided : (item : Line) → divides ≡ true → ((part : List ℕ) → IsKept kept_new part → IsItem item part)
      → HasNext input items item new
  item_divided item is is_item =
      let took = takes_line new.ended has_feed divides true input has.lines next.bytes line kept kept_new feed is
      next.is_line next.unended takes in record {
        bytes = at.part;
        is_item = is_item at.part (subst (λ (k : Kept). IsKept k at.part) (sym took.1) at.is_kept);
        has_items = divides_by new.ended input items at.part next.bytes old.left new.left old.held new.held has ends
            took.0;
      }

  -- it is one of the item
  pub item_longer : divides ≡ false → IsInItem input items kept_new new
  item_longer is =
      let took = takes_line new.ended has_feed divides false input has.lines next.bytes line kept kept_new feed is
      next.is_line next.unended takes in record {
        part = at.part ++ whole_line (not new.ended) next.bytes;
        is_kept = took.1 at.part at.is_kept;
        at = goes_on_by new.ended input items at.part next.bytes old.left new.left old.held new.held has ends took.0;
      }

-- ---- a read that fails

last_of : (items : List (List ℕ)) (part : List ℕ) (given : List (List ℕ)) (known : Option (List ℕ))
    → AreSoFar given items part → IfSome known (λ bytes. ended_lines bytes ≡ given)
    → IfSome known (λ bytes. (last : List (List ℕ)) × (all_items bytes ≡ items ++ last) × (length last ≤ 1))
last_of items part given None are ended = tt
last_of items part given (Some bytes) are ended = (
  onto_item part (items_of_lines (as_line (unended_line bytes))),
  items_by given items part bytes are ended,
  at_most_one part (items_of_lines (as_line (unended_line bytes))) (one_line (unended_line bytes)),
)

pub breaks_off : (input : Source) (items : List (List ℕ)) (kept : Kept) (state : State) → state.ended ≡ false
    → IsInItem input items kept state
    → ((input : Source) (given : List (List ℕ)) → HasLines input given state → lines.BreaksOff input given)
    → BreaksOff input items
breaks_off input items kept state more at breaks =
    let has = goes_on input items kept state more at in
    let failed = breaks input has.lines (has_lines_of input items at.part state more has) in
    record {
      may = failed.may;
      all = λ failing. last_of items at.part has.lines input.bytes has.are_items (failed.all failing);
    }

-- a fault that is handed on
pub handed_on : {A : Type 0} (result : Result A ReadFault) (fault : ReadFault) → IsErrAnd result (λ f. f ≡ fault)
    → result ≡ Err Read → ◌≡◌ {A = Result A ReadFault} (Err fault) (Err Read)
handed_on (Ok done) fault is reported = absurd is
handed_on (Err other) fault is reported = ap Err (sym is) ∙ reported
