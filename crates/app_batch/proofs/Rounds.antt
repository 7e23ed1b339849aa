-- What a round has so far.
use Rattle.std.proofs.Common.{◌≡◌, ℕ, suc, ◌+◌, ◌<◌, ◌≤◌, Bool, false, true, true≢false, List, [], ◌∷◌, ◌++◌, length, take, get_or, Ok, refl, sym, ap, subst, ◌∙◌, append-nil, append_assoc, arith}
use Rattle.std.specs.Prelude.{None, Result, Some}
use Rattle.std.specs.List.{AllZip}
use Rattle.std.proofs.Math.Seq.{take-suc}
use Rattle.def_judgement.specs.Writes.{Source}
use Rattle.judge_session.specs.declared.fault.EngineFault.{EngineFault}
use Rattle.app_batch.specs.Answers.{Answer}
use Rattle.app_batch.specs.Batches.{text_of_answers}
use Rattle.app_batch.specs.Entries.{GivesEntry, HasEntries, IsEntry}
use Rattle.app_batch.specs.Rounds.{IsFoundIn, IsMade, IsRound}
use Rattle.app_batch.specs.Views.{answer_view}
use Rattle.app_batch.specs.declared.answer.Answer as made
use Rattle.app_batch.specs.declared.found.Found.{Found}
use Rattle.app_batch.proofs.Progress.{text_on}
use Rattle.read_items.specs.GivenItems.{AreItems, HasItemsBy}
use Rattle.read_lines.specs.GivenLines.{AreLines, HasLinesBy, State}
use Rattle.read_lines.specs.declared.line.Line.{Line}

zip_on : {A B : Type 0} (P : A → B → Type 0) (xs : List A) (ys : List B) (x : A) (y : B) → AllZip P xs ys → P x y
    → AllZip P (xs ++ x ∷ []) (ys ++ y ∷ [])
zip_on P [] [] x y all one = (one, tt)
zip_on P [] (b ∷ ys) x y all one = absurd all
zip_on P (a ∷ xs) [] x y all one = absurd all
zip_on P (a ∷ xs) (b ∷ ys) x y all one = (all.0, zip_on P xs ys x y all.1 one)

take_on : {A : Type 0} (xs : List A) (i : ℕ) (x : A) → i < length xs → x ≡ get_or xs i x
    → take (i + 1) xs ≡ take i xs ++ x ∷ []
take_on xs i x lt at =
    ap (λ n. take n xs) (let next : i + 1 ≡ suc i = omega arith in next)
    ∙ (take-suc xs i x lt ∙ ap (λ y. take i xs ++ y ∷ []) (sym at))

-- ---- the text of a round

-- this is the text of these results' answers, and this is found with them too
pub record HasText (results : List (Result made.Answer EngineFault)) (found : Found) (text : List ℕ)
    (all : Found) : Type 0 where
  pub due : List Answer
  pub are_made : AllZip IsMade results due
  pub is_text : text ≡ text_of_answers due
  pub is_found : (before : List Answer) → IsFoundIn before found → IsFoundIn (before ++ due) all

pub no_text : (found : Found) → HasText [] found [] found
no_text found = record {
  due = [];
  are_made = tt;
  is_text = refl;
  is_found = λ before is. subst (λ (answers : List Answer). IsFoundIn answers found) (sym (append-nil before)) is;
}

pub more_text : (results : List (Result made.Answer EngineFault)) (i : ℕ) (answer : made.Answer)
    (found all then : Found) (text longer line : List ℕ) → i < length results
    → (result : Result made.Answer EngineFault) → result ≡ get_or results i result → result ≡ Ok answer
    → HasText (take i results) found text all → line ≡ answer.line.items → longer ≡ text ++ line
    → ((answers : List Answer) (one : Answer) → one.status ≡ answer.status → IsFoundIn answers all
    → IsFoundIn (answers ++ one ∷ []) then)
    → HasText (take (i + 1) results) found longer then
more_text results i answer found all then text longer line lt result at is has same appended finds = record {
  due = has.due ++ answer_view answer ∷ [];
  are_made = subst (λ (some : List (Result made.Answer EngineFault)). AllZip IsMade some
      (has.due ++ answer_view answer ∷ [])) (sym (take_on results i result lt at))
      (zip_on IsMade (take i results) has.due result (answer_view answer) has.are_made
      (subst (λ (r : Result made.Answer EngineFault). IsMade r (answer_view answer)) (sym is) refl));
  is_text = appended ∙ (ap (λ l. l ++ line) has.is_text ∙ (ap (λ l. text_of_answers has.due ++ l)
      (same ∙ sym (append-nil answer.line.items))
      ∙ sym (text_on has.due (answer_view answer ∷ []))));
  is_found = λ before is. subst (λ (answers : List Answer). IsFoundIn answers then)
      (append_assoc before has.due (answer_view answer ∷ []))
      (finds (before ++ has.due) (answer_view answer) refl (has.is_found before is));
}

-- ---- the entries of a round

-- the entries of a round so far follow on those before
pub record HasRound (in_bundles : Bool) (round : List Line) (input : Source) (before : List (List ℕ)) (state : State) :
    Type 0 where
  pub entries : List (List ℕ)
  pub are_entries : AllZip (IsEntry in_bundles) round entries
  pub has_entries : HasEntries in_bundles input (before ++ entries) state

pub no_round : (in_bundles : Bool) (input : Source) (before : List (List ℕ)) (state : State)
    → HasEntries in_bundles input before state → HasRound in_bundles [] input before state
no_round in_bundles input before state has = record {
  entries = [];
  are_entries = tt;
  has_entries = subst (λ (l : List (List ℕ)). HasEntries in_bundles input l state) (sym (append-nil before)) has;
}

-- the entries that a source gave so far, and then this one
record HasNext (in_bundles : Bool) (input : Source) (given : List (List ℕ)) (line : Line) (state : State) :
    Type 0 where
  pub bytes : List ℕ
  pub is_entry : IsEntry in_bundles line bytes
  pub has_entries : HasEntries in_bundles input (given ++ bytes ∷ []) state

next_by : (in_bundles : Bool) (input : Source) (given : List (List ℕ)) (line : Line) (old new : State)
    → GivesEntry in_bundles (Some line) old new → HasEntries in_bundles input given old
    → HasNext in_bundles input given line new
next_by false input given line old new gives has =
    let next = gives input given has in
    record { bytes = next.bytes; is_entry = next.is_line; has_entries = next.has_lines }
next_by true input given line old new gives has =
    let next = gives input given has in
    record { bytes = next.bytes; is_entry = next.is_item; has_entries = next.has_items }

pub more_round : (in_bundles : Bool) (round longer : List Line) (line : Line) (input : Source)
    (before : List (List ℕ)) (old new : State) → longer ≡ round ++ line ∷ []
    → HasRound in_bundles round input before old → GivesEntry in_bundles (Some line) old new
    → HasRound in_bundles longer input before new
more_round in_bundles round longer line input before old new pushed has gives =
    let next = next_by in_bundles input (before ++ has.entries) line old new gives has.has_entries in
    subst (λ (lines : List Line). HasRound in_bundles lines input before new) (sym pushed) (record {
      entries = has.entries ++ next.bytes ∷ [];
      are_entries =
          zip_on (IsEntry in_bundles) round has.entries line next.bytes has.are_entries next.is_entry;
      has_entries = subst (λ (l : List (List ℕ)). HasEntries in_bundles input l new)
          (append_assoc before has.entries (next.bytes ∷ [])) next.has_entries;
    })

-- a round that has an entry
pub some_round : (in_bundles : Bool) (round : List Line) (input : Source) (before : List (List ℕ)) (state : State)
    → 1 ≤ length round → HasRound in_bundles round input before state → IsRound in_bundles round input before state
some_round in_bundles round input before state some has = record {
  entries = has.entries;
  are_entries = has.are_entries;
  has_entries = has.has_entries;
  at_end = λ none. absurd (let empty : length round ≡ 0 = ap length none in omega (arith, empty, some));
}

ended_by : (in_bundles : Bool) (old new : State) → GivesEntry in_bundles None old new → new.ended ≡ true
ended_by false old new gives = gives.0
ended_by true old new gives = gives.0

same_by : (in_bundles : Bool) (input : Source) (given : List (List ℕ)) (old new : State)
    → GivesEntry in_bundles None old new → HasEntries in_bundles input given old
    → HasEntries in_bundles input given new
same_by false input given old new gives has = lines_at_end new.ended input given new.left new.held gives.0
    (gives.1 input given has)
  where
    lines_at_end : (ended : Bool) (input : Source) (given : List (List ℕ)) (left : Source) (held : List ℕ)
        → ended ≡ true → AreLines input given → HasLinesBy ended input given left held
    lines_at_end false input given left held over are = absurd (true≢false (sym over))
    lines_at_end true input given left held over are = are
same_by true input given old new gives has = items_at_end new.ended input given new.left new.held gives.0
    (gives.1 input given has)
  where
    items_at_end : (ended : Bool) (input : Source) (given : List (List ℕ)) (left : Source) (held : List ℕ)
        → ended ≡ true → AreItems input given → HasItemsBy ended input given left held
    items_at_end false input given left held over are = absurd (true≢false (sym over))
    items_at_end true input given left held over are = are

-- the last round, which may have no entry
pub last_round : (in_bundles : Bool) (round : List Line) (input : Source) (before : List (List ℕ)) (old new : State)
    → HasRound in_bundles round input before old → GivesEntry in_bundles None old new
    → IsRound in_bundles round input before new
last_round in_bundles round input before old new has gives = record {
  entries = has.entries;
  are_entries = has.are_entries;
  has_entries = same_by in_bundles input (before ++ has.entries) old new gives has.has_entries;
  at_end = λ _. ended_by in_bundles old new gives;
}
