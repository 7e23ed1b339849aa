-- The lines of runs, one run after another.
use Rattle.std.proofs.Common.{◌≡◌, ℕ, suc, ◌+◌, ◌<◌, ◌≤◌, List, [], ◌∷◌, ◌++◌, length, drop, map, take, Option, Ok, Err, refl, sym, ap, subst, ◌∙◌, append_assoc, append-nil, arith, true}
use Rattle.std.specs.Prelude.{Bool, OnErr, OnOk, Result, filter, get_or, min}
use Rattle.std.specs.Io.KnownBytes.{Appends}
use Rattle.std.proofs.KnownBytes.{Appends-nil, Appends-trans}
use Rattle.std.proofs.lemmas.List.{drop_all, drop_more, length-append, map-append, take-append-le, take_all, take_min}
use Rattle.std.proofs.lemmas.List.Concat.{flat_map-append}
use Rattle.std.proofs.lemmas.List.Elements.{filter-append}
use Rattle.judge_runs.specs.Runs.{AllPass, Conclusion, Fail, NotJudged, Pass, Run, SomeFails, SomeNotJudged, Verdict, conclusion, conclusion_of, is_same, line_of, verdict_of_run}
use Rattle.judge_runs.specs.Tallies.{lines_text}
use Rattle.judge_runs.specs.Wishes.{Condition}
use Rattle.judge_runs.specs.declared.outcome.Outcome as outcomes
use Rattle.judge_session.specs.declared.fault.EngineFault.{EngineFault}
use Rattle.app_test.specs.Jobs.{run_of, runs_of}
use Rattle.app_arguments.specs.Formats.{Format, Plain, Json}
use Rattle.app_test.specs.declared.records.Records.{Records}
use Rattle.app_test.specs.TestedRuns.{AreRecords, LeavesRuns, WritesResult, WritesRuns, lines_in}
use Rattle.app_test.specs.Tests.{failing_in, fails_run}

-- ---- prefixes

-- what is taken after a first part is taken of the other
pub after_part : (xs ys : List ℕ) (k : ℕ) → take (length xs + k) (xs ++ ys) ≡ xs ++ take k ys
after_part [] ys k = ap (λ n. take n ys) (let none : 0 + k ≡ k = omega arith in none)
after_part (x ∷ xs) ys k =
    ap (λ n. take n (x ∷ xs ++ ys)) (let more : suc (length xs) + k ≡ suc (length xs + k) = omega arith in more)
    ∙ ap (λ l. x ∷ l) (after_part xs ys k)

pub first_part : (xs ys : List ℕ) → take (length xs) (xs ++ ys) ≡ xs
first_part xs ys =
    take-append-le (length xs) xs ys (omega arith) ∙ take_all (length xs) xs (omega arith)

-- a prefix of a text is one of what goes on with it
pub prefix_on : (xs ys : List ℕ) (k : ℕ) → take (min k (length xs)) (xs ++ ys) ≡ take k xs
prefix_on xs ys k = take-append-le (min k (length xs)) xs ys (omega arith) ∙ take_min k xs

-- ---- whether a run fails

abbrev pub is_failure : Conclusion → Bool
is_failure AllPass = Bool.false
is_failure SomeFails = true
is_failure SomeNotJudged = Bool.false

one_fails : (verdict : Verdict) → is_same Fail verdict ≡ is_failure (conclusion_of (verdict ∷ []))
one_fails Pass = refl
one_fails Fail = refl
one_fails NotJudged = refl

-- what one run comes to by itself says whether it fails
pub fails_alone : (wishes : List Condition) (run : Run) (end : Conclusion) → end ≡ conclusion wishes (run ∷ [])
    → is_failure end ≡ fails_run wishes run
fails_alone wishes run end is = ap is_failure is ∙ sym (one_fails (verdict_of_run wishes run))

-- the folders of those that fail of runs and of more of them
pub failing_on : (wishes : List Condition) (runs more : List Run)
    → failing_in wishes (runs ++ more) ≡ failing_in wishes runs ++ failing_in wishes more
failing_on wishes runs more =
    ap (map (λ (run : Run). run.folder)) (filter-append (fails_run wishes) runs more)
    ∙ map-append (λ (run : Run). run.folder) (filter (fails_run wishes) runs) (filter (fails_run wishes) more)

-- ---- the lines of runs

-- what is due of runs and of more of them before the end
pub lines_on : (format : Format) (wishes : List Condition) (runs more : List Run)
    → lines_in format wishes (runs ++ more) ≡ lines_in format wishes runs ++ lines_in format wishes more
lines_on Plain wishes runs more = flat_map-append (line_of wishes) runs more
lines_on Json wishes runs more = refl

line_alone : (wishes : List Condition) (run : Run) → lines_text wishes (run ∷ []) ≡ line_of wishes run
line_alone wishes run = append-nil (line_of wishes run)

module _ (format : Format) (wishes : List Condition) (is_wanted : Bool) where
  pub none_written : (records : Records) (failing : List (List ℕ)) (old : Option (List ℕ))
      → WritesRuns format wishes is_wanted [] records records failing failing old old
  none_written records failing old = record {
    stands = λ wanted earlier reports stands.
        subst (λ (all : List Run). AreRecords wanted wishes all reports records) (sym (append-nil earlier)) stands;
    written = none format;
    failing = λ _. sym (append-nil failing);
  }
    where
      none : (format : Format) → Appends old old (lines_in format wishes [])
      none Plain = Appends-nil old
      none Json = Appends-nil old

  pub more_written : (runs more : List Run) (first middle last : Records) (before between after : List (List ℕ))
      (old mid new : Option (List ℕ)) → WritesRuns format wishes is_wanted runs first middle before between old mid
      → WritesRuns format wishes is_wanted more middle last between after mid new
      → WritesRuns format wishes is_wanted (runs ++ more) first last before after old new
  more_written runs more first middle last before between after old mid new some others = record {
    stands = λ wanted earlier reports stands.
        subst (λ (all : List Run). AreRecords wanted wishes all reports last) (append_assoc earlier runs more)
        (others.stands wanted (earlier ++ runs) reports (some.stands wanted earlier reports stands));
    written = subst (λ (text : List ℕ). Appends old new text) (sym (lines_on format wishes runs more))
        (Appends-trans old mid new (lines_in format wishes runs) (lines_in format wishes more) some.written
        others.written);
    failing = λ wanted.
        others.failing wanted
        ∙ (ap (λ (all : List (List ℕ)). all ++ failing_in wishes more) (some.failing wanted)
        ∙ (append_assoc before (failing_in wishes runs) (failing_in wishes more)
        ∙ ap (λ (all : List (List ℕ)). before ++ all) (sym (failing_on wishes runs more))));
  }

-- what is due of runs is written, and a prefix of what is due of more runs
pub cut_after : (format : Format) (wishes : List Condition) (runs more : List Run) (old mid new : Option (List ℕ))
    → Appends old mid (lines_in format wishes runs) → LeavesRuns format wishes more mid new
    → LeavesRuns format wishes (runs ++ more) old new
cut_after format wishes runs more old mid new written cut = (
  length (lines_in format wishes runs) + cut.0,
  subst (λ (text : List ℕ). Appends old new text)
      (sym (ap (take (length (lines_in format wishes runs) + cut.0)) (lines_on format wishes runs more)
      ∙ after_part (lines_in format wishes runs) (lines_in format wishes more) cut.0))
      (Appends-trans old mid new (lines_in format wishes runs) (take cut.0 (lines_in format wishes more)) written
      cut.1),
)

-- a prefix of what is due of runs is one of what is due of more
pub cut_before : (format : Format) (wishes : List Condition) (runs more : List Run) (old new : Option (List ℕ))
    → LeavesRuns format wishes runs old new → LeavesRuns format wishes (runs ++ more) old new
cut_before format wishes runs more old new cut = (
  min cut.0 (length (lines_in format wishes runs)),
  subst (λ (text : List ℕ). Appends old new text)
      (sym (ap (take (min cut.0 (length (lines_in format wishes runs)))) (lines_on format wishes runs more)
      ∙ prefix_on (lines_in format wishes runs) (lines_in format wishes more) cut.0)) cut.1,
)

-- no line
pub no_line : (format : Format) (wishes : List Condition) (runs : List Run) (old : Option (List ℕ))
    → LeavesRuns format wishes runs old old
no_line format wishes runs old = (0, Appends-nil old)

-- all of what is due
pub all_lines : (format : Format) (wishes : List Condition) (runs : List Run) (old new : Option (List ℕ))
    → Appends old new (lines_in format wishes runs) → LeavesRuns format wishes runs old new
all_lines format wishes runs old new written = (
  length (lines_in format wishes runs),
  subst (λ (text : List ℕ). Appends old new text)
      (sym (take_all (length (lines_in format wishes runs)) (lines_in format wishes runs) (omega arith))) written,
)

-- ---- the line of one run

module _ (wishes : List Condition) (run : Run) (text : List ℕ) (is_line : text ≡ line_of wishes run)
    (old new : Option (List ℕ)) where
  pub line_cut : (result : Result (Unit {0}) EngineFault)
      → OnErr result ((count : ℕ) × (count ≤ length text) × Appends old new (take count text))
      → OnErr result (LeavesRuns Plain wishes (run ∷ []) old new)
  line_cut (Ok done) part = tt
  line_cut (Err fault) part = (
    part.0,
    subst (λ (bytes : List ℕ). Appends old new (take part.0 bytes)) (is_line ∙ sym (line_alone wishes run)) part.2,
  )

  -- all of it
  pub line_whole : (result : Result (Unit {0}) EngineFault) → OnOk result (Appends old new text)
      → OnOk result (Appends old new (lines_in Plain wishes (run ∷ [])))
  line_whole (Ok done) written =
      subst (λ (bytes : List ℕ). Appends old new bytes) (is_line ∙ sym (line_alone wishes run)) written
  line_whole (Err fault) written = tt

-- ---- results

-- the first of results, and the others
pub runs_of_first : (folder : List ℕ) (folders : List (List ℕ)) (result : Result outcomes.Outcome EngineFault)
    (results : List (Result outcomes.Outcome EngineFault)) → (more : List Run)
    × (runs_of (folder ∷ folders) (result ∷ results) ≡ runs_of (folder ∷ []) (result ∷ []) ++ more)
runs_of_first folder folders (Ok outcome) results = (runs_of folders results, refl)
runs_of_first folder folders (Err fault) results = ([], refl)

-- one that is written is known
pub runs_of_known : (format : Format) (wishes : List Condition) (is_wanted : Bool) (folder : List ℕ)
    (folders : List (List ℕ)) (result : Result outcomes.Outcome EngineFault)
    (results : List (Result outcomes.Outcome EngineFault))
    (first last : Records) (before after : List (List ℕ)) (old new : Option (List ℕ))
    → WritesResult format wishes is_wanted folder result first last before after old new
    → (run : Run) × (runs_of (folder ∷ folders) (result ∷ results) ≡ run ∷ runs_of folders results)
    × WritesRuns format wishes is_wanted (run ∷ []) first last before after old new
runs_of_known format wishes is_wanted folder folders (Ok outcome) results first last before after old new writes =
    (run_of folder outcome, refl, writes)
runs_of_known format wishes is_wanted folder folders (Err fault) results first last before after old new writes =
    absurd writes

-- ---- the loop over results

-- The lines of the first runs are written, of this many results.
pub record AreWritten (format : Format) (wishes : List Condition) (is_wanted : Bool) (folders : List (List ℕ))
    (results : List (Result outcomes.Outcome EngineFault)) (count : ℕ) (first last : Records) (failing : List (List ℕ))
    (old new : Option (List ℕ)) : Type 0 where
  pub runs : List Run
  pub go_on : runs_of folders results ≡ runs ++ runs_of (drop count folders) (drop count results)
  pub one_each : length runs ≡ count
  pub writes : WritesRuns format wishes is_wanted runs first last [] failing old new

module _ (format : Format) (wishes : List Condition) (is_wanted : Bool) (folders : List (List ℕ))
    (results : List (Result outcomes.Outcome EngineFault)) where
  pub begin : (records : Records) (old : Option (List ℕ))
      → AreWritten format wishes is_wanted folders results 0 records records [] old old
  begin records old = record {
    runs = [];
    go_on = refl;
    one_each = refl;
    writes = none_written format wishes is_wanted records [] old;
  }

  module _ (count : ℕ) (few : count < length folders) (fewer : count < length results) (folder : List ℕ)
      (result : Result outcomes.Outcome EngineFault) (is_folder : folder ≡ get_or folders count folder)
      (is_result : result ≡ get_or results count result) where
    -- the runs from here on begin with this one
    from_here : runs_of (drop count folders) (drop count results)
        ≡ runs_of (folder ∷ drop (count + 1) folders) (result ∷ drop (count + 1) results)
    from_here =
        ap (λ (some : List (List ℕ)). runs_of some (drop count results)) (drop_more folders count folder few)
        ∙ (ap (λ (some : List (Result outcomes.Outcome EngineFault)).
        runs_of (get_or folders count folder ∷ drop (count + 1) folders) some)
        (drop_more results count result fewer)
        ∙ (ap (λ (f : List ℕ). runs_of (f ∷ drop (count + 1) folders)
        (get_or results count result ∷ drop (count + 1) results)) (sym is_folder)
        ∙ ap (λ (r : Result outcomes.Outcome EngineFault). runs_of (folder ∷ drop (count + 1) folders)
        (r ∷ drop (count + 1) results)) (sym is_result)))

    pub step : (first middle last : Records) (before after : List (List ℕ)) (old mid new : Option (List ℕ))
        → AreWritten format wishes is_wanted folders results count first middle before old mid
        → WritesResult format wishes is_wanted folder result middle last before after mid new
        → AreWritten format wishes is_wanted folders results (count + 1) first last after old new
    step first middle last before after old mid new some one =
        let known = runs_of_known format wishes is_wanted folder (drop (count + 1) folders) result
        (drop (count + 1) results) middle last before after mid new one in
        record {
          runs = some.runs ++ known.0 ∷ [];
          go_on = some.go_on
              ∙ (ap (λ (more : List Run). some.runs ++ more) (from_here ∙ known.1)
              ∙ sym (append_assoc some.runs (known.0 ∷ [])
              (runs_of (drop (count + 1) folders) (drop (count + 1) results))));
          one_each = length-append some.runs (known.0 ∷ []) ∙ ap (λ n. n + 1) some.one_each;
          writes = more_written format wishes is_wanted some.runs (known.0 ∷ []) first middle last [] before after old
              mid new some.writes known.2;
        }

    pub stop : (first middle : Records) (before : List (List ℕ)) (old mid new : Option (List ℕ))
        → AreWritten format wishes is_wanted folders results count first middle before old mid
        → LeavesRuns format wishes (runs_of (folder ∷ []) (result ∷ [])) mid new
        → LeavesRuns format wishes (runs_of folders results) old new
    stop first middle before old mid new some cut =
        let more = runs_of_first folder (drop (count + 1) folders) result (drop (count + 1) results) in
        subst (λ (all : List Run). LeavesRuns format wishes all old new)
        (sym (some.go_on ∙ (ap (λ (rest : List Run). some.runs ++ rest) (from_here ∙ more.1)
        ∙ sym (append_assoc some.runs (runs_of (folder ∷ []) (result ∷ [])) more.0))))
        (cut_before format wishes (some.runs ++ runs_of (folder ∷ []) (result ∷ [])) more.0 old new
        (cut_after format wishes some.runs (runs_of (folder ∷ []) (result ∷ [])) old mid new some.writes.written cut))

  -- nothing is left
  all_there : (count : ℕ) → length folders ≤ count → (first last : Records) (failing : List (List ℕ))
      (old new : Option (List ℕ))
      → (some : AreWritten format wishes is_wanted folders results count first last failing old new)
      → runs_of folders results ≡ some.runs
  all_there count le first last failing old new some =
      some.go_on
      ∙ (ap (λ (rest : List (List ℕ)). some.runs ++ runs_of rest (drop count results)) (drop_all count folders le)
      ∙ append-nil some.runs)

  pub end_written : (count : ℕ) → length folders ≤ count → (first last : Records) (failing : List (List ℕ))
      (old new : Option (List ℕ)) → AreWritten format wishes is_wanted folders results count first last failing old new
      → WritesRuns format wishes is_wanted (runs_of folders results) first last [] failing old new
  end_written count le first last failing old new some =
      subst (λ (all : List Run). WritesRuns format wishes is_wanted all first last [] failing old new)
      (sym (all_there count le first last failing old new some)) some.writes

  pub end_whole : (count : ℕ) → length folders ≤ count → (first last : Records) (failing : List (List ℕ))
      (old new : Option (List ℕ)) → AreWritten format wishes is_wanted folders results count first last failing old new
      → length (runs_of folders results) ≡ count
  end_whole count le first last failing old new some =
      ap length (all_there count le first last failing old new some) ∙ some.one_each

-- what holds of a fault holds if there is one
pub on_err : {T E P : Type 0} (result : Result T E) → P → OnErr result P
on_err (Ok value) holds = tt
on_err (Err fault) holds = holds

-- a prefix of the text that is due at the end is written
pub end_cut : (text due : List ℕ) → text ≡ due → (old new : Option (List ℕ)) (result : Result (Unit {0}) EngineFault)
    → OnErr result ((count : ℕ) × (count ≤ length text) × Appends old new (take count text))
    → OnErr result ((count : ℕ) × Appends old new (take count due))
end_cut text due is old new (Ok done) part = tt
end_cut text due is old new (Err fault) part =
    (part.0, subst (λ (bytes : List ℕ). Appends old new (take part.0 bytes)) is part.2)
