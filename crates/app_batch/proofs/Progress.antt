-- What is written of entries, round by round.
use Rattle.std.proofs.Common.{◌≡◌, ◌≢◌, ℕ, suc, ◌+◌, ◌<◌, ◌≤◌, Bool, false, true, List, [], ◌∷◌, ◌++◌, length, take, Option, Some, None, Ok, Err, refl, sym, ap, subst, ◌∙◌, append-nil, length-append, arith, inl, inr}
use Rattle.std.specs.Prelude.{◌⊎◌, IfSome, IsErrAnd, OnErr, Result}
use Rattle.std.specs.List.{AllZip}
use Rattle.std.specs.Io.KnownBytes.{Appends, Keeps}
use Rattle.std.proofs.KnownBytes.{Appends-nil}
use Rattle.std.proofs.lemmas.Bool.{cases_lt}
use Rattle.std.proofs.lemmas.List.{take_all}
use Rattle.std.proofs.lemmas.List.Concat.{flat_map-append}
use Rattle.def_format.specs.Documents.{Options}
use Rattle.def_judgement.specs.Writes.{Source, Whole, Writes}
use Rattle.judge_runs.specs.Wishes.{Condition}
use Rattle.judge_runs.specs.Views.{conclusion_view}
use Rattle.judge_runs.specs.declared.conclusion.Conclusion.{Conclusion}
use Rattle.judge_runs.specs.declared.conclusion.Conclusion.TheVariants.{AllPass, SomeFails, SomeNotJudged}
use Rattle.judge_session.specs.declared.fault.EngineFault.{EngineFault}
use Rattle.judge_session.specs.declared.fault.EngineFault.TheVariants.{BundleLong, Memory, Read, Write}
use Rattle.app_arguments.specs.Statuses.{Failed, WritesUpTo}
use Rattle.app_host.proofs.WrittenSoFar.{appends_kept, appends_on}
use Rattle.app_host.specs.Faults.{failure_view}
use Rattle.app_test.specs.Tests.{ending_of, test_ending}
use Rattle.app_batch.specs.Answers.{Answer, IsAnswer}
use Rattle.app_batch.specs.Batches.{AreAnswers, BatchLeaves, IsTextOfInput, IsTextOfStart, due_of_answers, text_of_answers}
use Rattle.app_batch.specs.Entries.{EntriesBreakOff, HasEntries, IsEntry, entries_in, entry_said}
use Rattle.app_batch.specs.Rounds.{AreResults, HasAnswered, IsFoundIn, IsMade, IsRound, IsRoundCut, IsRoundWritten}
use Rattle.app_batch.specs.Views.{answer_view}
use Rattle.app_batch.specs.declared.answer.Answer as made
use Rattle.app_batch.specs.declared.found.Found.{Found}
use Rattle.app_batch.proofs.Given.{are_all, are_first}
use Rattle.read_lines.specs.GivenLines.{State}
use Rattle.read_lines.specs.declared.line.Line.{Line}

-- ---- entries and their answers

-- more entries, and their answers
pub answers_on : (options : Options) (fail_on : List Condition) (in_bundles : Bool) (number : ℕ) (lines more : List
    (List ℕ))
    (answers others : List Answer) → AreAnswers options fail_on in_bundles number lines answers
    → AreAnswers options fail_on in_bundles (number + length lines) more others
    → AreAnswers options fail_on in_bundles number (lines ++ more) (answers ++ others)
answers_on options fail_on in_bundles number [] more [] others are next =
    subst (λ (n : ℕ). AreAnswers options fail_on in_bundles n more others) (omega arith) next
answers_on options fail_on in_bundles number [] more (answer ∷ answers) others are next = absurd are
answers_on options fail_on in_bundles number (line ∷ lines) more [] others are next = absurd are
answers_on options fail_on in_bundles number (line ∷ lines) more (answer ∷ answers) others are next = (
  are.0,
  answers_on options fail_on in_bundles (suc number) lines more answers others are.1
      (subst (λ (n : ℕ). AreAnswers options fail_on in_bundles n more others)
      (let same : number + suc (length lines) ≡ suc number + length lines = omega arith in same) next),
)

-- the results of a round are its answers
pub answers_of_round : (options : Options) (fail_on : List Condition) (in_bundles : Bool) (first : ℕ)
    (round : List Line)
    (lines : List (List ℕ)) (results : List (Result made.Answer EngineFault)) (due : List Answer)
    → AllZip (IsEntry in_bundles) round lines → AllZip IsMade results due
    → AreResults options fail_on in_bundles first round results
    → AreAnswers options fail_on in_bundles first lines due
answers_of_round options fail_on in_bundles first [] [] [] [] are made right = tt
answers_of_round options fail_on in_bundles first [] [] [] (answer ∷ due) are made right = absurd made
answers_of_round options fail_on in_bundles first [] [] (result ∷ results) due are made right =
    absurd (omega (arith, right.one_each))
answers_of_round options fail_on in_bundles first [] (bytes ∷ lines) results due are made right = absurd are
answers_of_round options fail_on in_bundles first (line ∷ round) [] results due are made right = absurd are
answers_of_round options fail_on in_bundles first (line ∷ round) (bytes ∷ lines) [] due are made right =
    absurd (omega (arith, right.one_each))
answers_of_round options fail_on in_bundles first (line ∷ round) (bytes ∷ lines) (result ∷ results) [] are made right =
    absurd made
answers_of_round options fail_on in_bundles first (line ∷ round) (bytes ∷ lines) (Err fault ∷ results)
    (answer ∷ due) are made
    right = absurd made.0
answers_of_round options fail_on in_bundles first (line ∷ round) (bytes ∷ lines) (Ok one ∷ results)
    (answer ∷ due) are made
    right = (
      subst (IsAnswer options fail_on first (entry_said in_bundles first bytes)) made.0
          (subst (λ (n : ℕ). IsAnswer options fail_on n (entry_said in_bundles n bytes) (answer_view one))
          (let same : first + 0 ≡ first = omega arith in same) (right.right 0 line one refl refl bytes are.0)),
      answers_of_round options fail_on in_bundles (suc first) round lines results due are.1 made.1 (record {
        one_each = omega (arith, right.one_each);
        right = λ place other found at is.
            λ given is_line. subst (λ (n : ℕ). IsAnswer options fail_on n (entry_said in_bundles n given)
            (answer_view found))
            (let same : first + suc place ≡ suc first + place = omega arith in same)
            (right.right (suc place) other found at is given is_line);
      }),
    )

-- ---- what is written

pub text_on : (answers others : List Answer)
    → text_of_answers (answers ++ others) ≡ text_of_answers answers ++ text_of_answers others
text_on answers others = flat_map-append (λ (answer : Answer). answer.line) answers others

-- what is taken after a first part is taken of the other
after_part : (xs ys : List ℕ) (k : ℕ) → take (length xs + k) (xs ++ ys) ≡ xs ++ take k ys
after_part [] ys k = ap (λ n. take n ys) (let none : 0 + k ≡ k = omega arith in none)
after_part (x ∷ xs) ys k =
    ap (λ n. take n (x ∷ xs ++ ys)) (let more : suc (length xs) + k ≡ suc (length xs + k) = omega arith in more)
    ∙ ap (λ l. x ∷ l) (after_part xs ys k)

owed_up_to : (IsOwed : List ℕ → Type 0) (text : List ℕ) (old new : Option (List ℕ)) (taken : ℕ) → IsOwed text
    → Appends old new (take taken text) → WritesUpTo IsOwed old new
owed_up_to IsOwed text old new taken owed written = go (cases_lt taken (length text))
  where
    go : (taken < length text) ⊎ (length text ≤ taken) → WritesUpTo IsOwed old new
    go (inl lt) = inr (text, owed, taken, lt, written)
    go (inr le) =
        inl (text, owed, subst (λ (bytes : List ℕ). Appends old new bytes) (take_all taken text le) written)

zip_length : (in_bundles : Bool) (round : List Line) (lines : List (List ℕ))
    → AllZip (IsEntry in_bundles) round lines → length round ≡ length lines
zip_length in_bundles [] [] are = refl
zip_length in_bundles [] (bytes ∷ lines) are = absurd are
zip_length in_bundles (line ∷ round) [] are = absurd are
zip_length in_bundles (line ∷ round) (bytes ∷ lines) are = ap suc (zip_length in_bundles round lines are.1)

no_lines : (in_bundles : Bool) (round : List Line) (lines : List (List ℕ)) → round ≡ []
    → AllZip (IsEntry in_bundles) round lines → lines ≡ []
no_lines in_bundles [] [] none are = refl
no_lines in_bundles [] (bytes ∷ lines) none are = absurd are
no_lines in_bundles (line ∷ round) lines none are = absurd (cc)

module _ (input : Source) (options : Options) (fail_on : List Condition) (in_bundles : Bool) where
  -- no entry is answered yet
  pub none_answered : (lines : State) (found : Found) (old : Option (List ℕ)) → HasEntries in_bundles input [] lines
      → IsFoundIn [] found → HasAnswered input options fail_on in_bundles lines 0 found old old
  none_answered lines found old has nothing = record {
    given = [];
    has_entries = has;
    counted = refl;
    answers = [];
    are_answers = tt;
    is_found = nothing;
    written = Appends-nil old;
  }

  -- a round more is
  pub more_answered : (before after : State) (number all : ℕ) (found found_then : Found)
      (old middle new : Option (List ℕ)) (round : List Line)
      (so_far : HasAnswered input options fail_on in_bundles before number found old middle)
      → IsRound in_bundles round input so_far.given after
      → IsRoundWritten options fail_on in_bundles number found round all found_then middle new
      → HasAnswered input options fail_on in_bundles after all found_then old new
  more_answered before after number all found found_then old middle new round so_far is written = record {
    given = so_far.given ++ is.entries;
    has_entries = is.has_entries;
    counted = let lengths = zip_length in_bundles round is.entries is.are_entries in
        omega (arith, written.counted, so_far.counted, lengths, length-append so_far.given is.entries);
    answers = so_far.answers ++ written.answers;
    are_answers = answers_on options fail_on in_bundles 1 so_far.given is.entries so_far.answers written.answers
        so_far.are_answers
        (subst (λ (n : ℕ). AreAnswers options fail_on in_bundles n is.entries written.answers)
        (let next : suc number ≡ 1 + length so_far.given = omega (arith, so_far.counted) in next)
        (written.are_answers is.entries is.are_entries));
    is_found = written.is_found so_far.answers so_far.is_found;
    written = subst (λ (text : List ℕ). Appends old new text) (sym (text_on so_far.answers written.answers))
        (appends_on old middle new (text_of_answers so_far.answers) (text_of_answers written.answers) so_far.written
        written.written);
  }

  -- ---- the end

  -- the text of the first entries
  text_of_start : (lines : List (List ℕ)) (state : State) (answers : List Answer)
      → HasEntries in_bundles input lines state
      → AreAnswers options fail_on in_bundles 1 lines answers
      → IsTextOfStart input options fail_on in_bundles (text_of_answers answers)
  text_of_start lines state answers has are = (
    lines,
    are_first in_bundles input lines state has,
    record { answers = answers; are_answers = are; said = tt; is_text = refl },
  )

  -- what is left if nothing more is written
  pub left_so_far : (lines : State) (number : ℕ) (found : Found) (old new : Option (List ℕ))
      → HasAnswered input options fail_on in_bundles lines number found old new
      → WritesUpTo (IsTextOfStart input options fail_on in_bundles) old new
  left_so_far lines number found old new so_far =
      inl (
        text_of_answers so_far.answers,
        text_of_start so_far.given lines so_far.answers so_far.has_entries
            so_far.are_answers,
        so_far.written,
      )

  -- what is left if a prefix of a round is written, or nothing of it
  pub left_cut : (before after : State) (number : ℕ) (found : Found) (old middle new : Option (List ℕ))
      (round : List Line) (so_far : HasAnswered input options fail_on in_bundles before number found old middle)
      → IsRound in_bundles round input so_far.given after
      → Keeps middle new ⊎ IsRoundCut options fail_on in_bundles number round middle new
      → WritesUpTo (IsTextOfStart input options fail_on in_bundles) old new
  left_cut before after number found old middle new round so_far is (inl kept) =
      inl (
        text_of_answers so_far.answers,
        text_of_start so_far.given before so_far.answers so_far.has_entries
            so_far.are_answers,
        appends_kept old middle new (text_of_answers so_far.answers) so_far.written kept,
      )
  left_cut before after number found old middle new round so_far is (inr cut) =
      let answers = so_far.answers ++ cut.answers in
      owed_up_to (IsTextOfStart input options fail_on in_bundles) (text_of_answers answers) old new
      (length (text_of_answers so_far.answers) + cut.count)
      (text_of_start (so_far.given ++ is.entries) after answers is.has_entries
      (answers_on options fail_on in_bundles 1 so_far.given is.entries so_far.answers cut.answers so_far.are_answers
      (subst (λ (n : ℕ). AreAnswers options fail_on in_bundles n is.entries cut.answers)
      (let next : suc number ≡ 1 + length so_far.given = omega (arith, so_far.counted) in next)
      (cut.are_answers is.entries is.are_entries))))
      (subst (λ (text : List ℕ). Appends old new text)
      (sym (ap (take (length (text_of_answers so_far.answers) + cut.count)) (text_on so_far.answers cut.answers)
      ∙ after_part (text_of_answers so_far.answers) (text_of_answers cut.answers) cut.count))
      (appends_on old middle new (text_of_answers so_far.answers) (take cut.count (text_of_answers cut.answers))
      so_far.written cut.written))

  -- all entries are answered
  whole_left : (end : Conclusion) (old new : Option (List ℕ))
      → Writes (IsTextOfInput input options fail_on in_bundles (λ answers. ending_of (conclusion_view end)
      ≡ due_of_answers answers)) Whole old new
      → BatchLeaves input options fail_on in_bundles (test_ending (Ok end)) old new
  whole_left AllPass old new written = written
  whole_left SomeFails old new written = written
  whole_left SomeNotJudged old new written = written

  pub left_whole : (end : Conclusion) (before after : State) (number : ℕ) (found : Found)
      (old new : Option (List ℕ)) (round : List Line)
      (so_far : HasAnswered input options fail_on in_bundles before number found old new) → round ≡ []
      → IsRound in_bundles round input so_far.given after
      → ((answers : List Answer) → IsFoundIn answers found
      → ending_of (conclusion_view end) ≡ due_of_answers answers)
      → BatchLeaves input options fail_on in_bundles (test_ending (Ok end)) old new
  left_whole end before after number found old new round so_far none is due =
      let all = are_all in_bundles input (so_far.given ++ is.entries) after (is.at_end none) is.has_entries in
      let same : so_far.given ++ is.entries ≡ so_far.given =
      ap (λ l. so_far.given ++ l) (no_lines in_bundles round is.entries none is.are_entries)
      ∙ append-nil so_far.given in
      whole_left end old new (
        text_of_answers so_far.answers,
        (
          all.bytes,
          all.is_given,
          record {
            answers = so_far.answers;
            are_answers = subst (λ (lines : List (List ℕ)). AreAnswers options fail_on in_bundles 1 lines
                so_far.answers)
                (sym (all.are_entries ∙ same)) so_far.are_answers;
            said = due so_far.answers so_far.is_found;
            is_text = refl;
          },
        ),
        so_far.written,
      )

  -- a batch that ends early
  pub left_early : (fault : EngineFault) (old new : Option (List ℕ))
      → (fault ≡ Memory) ⊎ (fault ≡ Write) ⊎ (fault ≡ Read) × (input.fails ≢ Some false)
      → WritesUpTo (IsTextOfStart input options fail_on in_bundles) old new
      → BatchLeaves input options fail_on in_bundles (Failed (failure_view fault)) old new
  left_early Memory old new why left = left
  left_early Write old new why left = left
  left_early Read old new (inl memory) left = absurd (cc)
  left_early Read old new (inr (inl write)) left = absurd (cc)
  left_early Read old new (inr (inr read)) left = (read.1, left)
  left_early BundleLong old new (inl memory) left = absurd (cc)
  left_early BundleLong old new (inr (inl write)) left = absurd (cc)
  left_early BundleLong old new (inr (inr read)) left = absurd (let same = read.0 in cc)

-- ---- a round

module _ (options : Options) (fail_on : List Condition) (in_bundles : Bool) (number : ℕ) (found : Found)
    (round : List Line)
    (results same_results : List (Result made.Answer EngineFault)) (text same_text : List ℕ) (found_then : Found)
    (right : AreResults options fail_on in_bundles (number + 1) round results) (is_results : same_results ≡ results)
    (made_text : (due : List Answer) × AllZip IsMade same_results due × (text ≡ text_of_answers due)
    × ((before : List Answer) → IsFoundIn before found → IsFoundIn (before ++ due) found_then))
    (is_text : same_text ≡ text) (old new : Option (List ℕ)) where
  round_answers : (lines : List (List ℕ)) → AllZip (IsEntry in_bundles) round lines
      → AreAnswers options fail_on in_bundles (suc number) lines made_text.0
  round_answers lines are =
      answers_of_round options fail_on in_bundles (suc number) round lines results made_text.0 are
      (subst (λ (some : List (Result made.Answer EngineFault)). AllZip IsMade some made_text.0) is_results made_text.1)
      (subst (λ (first : ℕ). AreResults options fail_on in_bundles first round results)
      (let next : number + 1 ≡ suc number = omega arith in next) right)

  pub round_written : (all : ℕ) → all ≡ number + length round → Appends old new same_text
      → IsRoundWritten options fail_on in_bundles number found round all found_then old new
  round_written all counted written = record {
    answers = made_text.0;
    are_answers = round_answers;
    counted = counted;
    is_found = made_text.3;
    written = subst (λ (bytes : List ℕ). Appends old new bytes) (is_text ∙ made_text.2) written;
  }

  pub round_cut : (count : ℕ) × (count ≤ length same_text) × Appends old new (take count same_text)
      → IsRoundCut options fail_on in_bundles number round old new
  round_cut part = record {
    answers = made_text.0;
    are_answers = round_answers;
    count = part.0;
    within = subst (λ (bytes : List ℕ). part.0 ≤ length bytes) (is_text ∙ made_text.2) part.1;
    written = subst (λ (bytes : List ℕ). Appends old new (take part.0 bytes)) (is_text ∙ made_text.2) part.2;
  }

pub on_err : {A E : Type 0} {P : Type 0} (result : Result A E) → P → OnErr result P
on_err (Ok done) holds = tt
on_err (Err fault) holds = holds

-- ---- a batch that ends with a fault

pub ended_by : (input : Source) (options : Options) (fail_on : List Condition) (in_bundles : Bool) (old new : Option
    (List ℕ))
    (result : Result Conclusion EngineFault) (fault : EngineFault) → IsErrAnd result (λ f. f ≡ fault)
    → BatchLeaves input options fail_on in_bundles (Failed (failure_view fault)) old new
    → BatchLeaves input options fail_on in_bundles (test_ending result) old new
ended_by input options fail_on in_bundles old new (Ok end) fault is left = absurd is
ended_by input options fail_on in_bundles old new (Err other) fault is left =
    subst (λ (f : EngineFault). BatchLeaves input options fail_on in_bundles (Failed (failure_view f)) old new)
    (sym is) left

no_first : (in_bundles : Bool) (bytes : Option (List ℕ))
    → IfSome bytes (λ all. (rest : List (List ℕ)) × (entries_in in_bundles all ≡ [] ++ rest))
no_first in_bundles None = tt
no_first in_bundles (Some all) = (entries_in in_bundles all, refl)

-- nothing is written
pub nothing_left : (input : Source) (options : Options) (fail_on : List Condition) (in_bundles : Bool) (old : Option
    (List ℕ))
    → WritesUpTo (IsTextOfStart input options fail_on in_bundles) old old
nothing_left input options fail_on in_bundles old =
    inl (
      [],
      (
        [],
        no_first in_bundles input.bytes,
        record { answers = []; are_answers = tt; said = tt; is_text = refl },
      ),
      Appends-nil old,
    )

pub no_items : {A : Type 0} (xs : List A) → length xs ≤ 0 → xs ≡ []
no_items [] none = refl
no_items (x ∷ xs) none = absurd (omega (arith, none))

may_fail : (in_bundles : Bool) (input : Source) (given : List (List ℕ)) → EntriesBreakOff in_bundles input given
    → input.fails ≢ Some false
may_fail false input given breaks = breaks.may
may_fail true input given breaks = breaks.may

-- why a round can't be read
pub why_unread : (in_bundles : Bool) (input : Source) (given : List (List ℕ)) (fault : EngineFault)
    → (fault ≡ Read) ⊎ (fault ≡ Memory)
    → (fault ≡ Read → (more : List (List ℕ)) × EntriesBreakOff in_bundles input (given ++ more))
    → (fault ≡ Memory) ⊎ (fault ≡ Write) ⊎ (fault ≡ Read) × (input.fails ≢ Some false)
why_unread in_bundles input given fault (inl read) cause =
    let breaks = cause read in inr (inr (read, may_fail in_bundles input (given ++ breaks.0) breaks.1))
why_unread in_bundles input given fault (inr memory) cause = inl memory

-- why one can't be written
pub why_unwritten : (input : Source) (fault : EngineFault) → (fault ≡ Memory) ⊎ (fault ≡ Write)
    → (fault ≡ Memory) ⊎ (fault ≡ Write) ⊎ (fault ≡ Read) × (input.fails ≢ Some false)
why_unwritten input fault (inl memory) = inl memory
why_unwritten input fault (inr write) = inr (inl write)
