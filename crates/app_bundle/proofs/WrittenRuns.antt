-- What is written of runs, line by line.
use Rattle.std.proofs.Common.{◌≡◌, ℕ, suc, ◌+◌, ◌<◌, Bool, true, false, ◌&&◌, List, [], ◌∷◌, ◌++◌, flat_map, length, take, map, Option, Ok, Err, refl, sym, ap, subst, ◌∙◌, append-nil, inl, inr, arith}
use Rattle.std.specs.Prelude.{◌⊎◌, ⊤, IsErrAnd, Result}
use Rattle.std.specs.List.{AllZip, list_all, slice_index_or}
use Rattle.std.specs.Io.KnownBytes.{Appends}
use Rattle.std.proofs.KnownBytes.{Appends-nil}
use Rattle.std.proofs.lemmas.List.{map_more, take-map}
use Rattle.std.proofs.lemmas.List.Concat.{flat_map-append}
use Rattle.app_arguments.specs.Statuses.{File, WritesUpTo}
use Rattle.app_host.proofs.FilesRead.{up_to_weaker, zip_on}
use Rattle.app_host.proofs.WrittenSoFar.{appends_on, up_to}
use Rattle.app_host.specs.Faults.{ending_view}
use Rattle.judge_session.specs.declared.fault.EngineFault.{EngineFault}
use Rattle.judge_session.specs.declared.fault.EngineFault.TheVariants.{Memory, Write}
use Rattle.app_bundle.specs.Bundles.{BundleLeaves, IsLineOfRun, IsTextOfRuns, RunLine}

abbrev pub lines_of : List RunLine → List ℕ
lines_of runs = flat_map (λ (run : RunLine). run.line) runs

-- The lines of the runs in these folders are written, and whether each of them could be read.
pub record AreBundled (files : List ℕ → File) (folders : List (List ℕ)) (all : Bool) (old new : Option (List ℕ)) :
    Type 0 where
  pub runs : List RunLine
  pub are_runs : AllZip (IsLineOfRun files) folders runs
  pub all_read : all ≡ list_all (λ (run : RunLine). run.is_session) runs
  pub written : Appends old new (lines_of runs)

-- what is taken after a first part is taken of the other
after_part : (xs ys : List ℕ) (k : ℕ) → take (length xs + k) (xs ++ ys) ≡ xs ++ take k ys
after_part [] ys k = ap (λ n. take n ys) (let none : 0 + k ≡ k = omega arith in none)
after_part (x ∷ xs) ys k =
    ap (λ n. take n (x ∷ xs ++ ys)) (let more : suc (length xs) + k ≡ suc (length xs + k) = omega arith in more)
    ∙ ap (λ l. x ∷ l) (after_part xs ys k)

-- one more of the things that f makes
pub take_next : {A B : Type 0} (f : A → B) (xs : List A) (i : ℕ) (d : A) → i < length xs
    → take (i + 1) (map f xs) ≡ take i (map f xs) ++ f (slice_index_or xs i d) ∷ []
take_next f xs i d lt =
    take-map f (i + 1) xs
    ∙ (map_more f xs i d lt ∙ ap (λ ys. ys ++ f (slice_index_or xs i d) ∷ []) (sym (take-map f i xs)))

-- ---- one more run

-- the lines of runs and of one more
lines_on : (runs : List RunLine) (run : RunLine) → lines_of (runs ++ run ∷ []) ≡ lines_of runs ++ run.line
lines_on runs run =
    flat_map-append (λ (r : RunLine). r.line) runs (run ∷ [])
    ∙ ap (λ l. lines_of runs ++ l) (append-nil run.line)

and_assoc : (a b c : Bool) → a && (b && c) ≡ (a && b) && c
and_assoc true b c = refl
and_assoc false b c = refl

and_true : (a : Bool) → a && true ≡ a
and_true true = refl
and_true false = refl

-- whether all are read, and one more is
all_on : (runs : List RunLine) (run : RunLine)
    → list_all (λ (r : RunLine). r.is_session) (runs ++ run ∷ [])
    ≡ list_all (λ (r : RunLine). r.is_session) runs && run.is_session
all_on [] run = and_true run.is_session
all_on (r ∷ runs) run =
    ap (λ b. r.is_session && b) (all_on runs run)
    ∙ and_assoc r.is_session (list_all (λ (r : RunLine). r.is_session) runs) run.is_session

pub none_bundled : (files : List ℕ → File) (old : Option (List ℕ)) → AreBundled files [] true old old
none_bundled files old = record { runs = []; are_runs = tt; all_read = refl; written = Appends-nil old }

module _ (files : List ℕ → File) (folders : List (List ℕ)) (all : Bool) (old middle new : Option (List ℕ))
    (done : AreBundled files folders all old middle) where
  -- the line of one more run is written
  pub bundled_on : (folder : List ℕ) (run : RunLine) (after : Bool) → IsLineOfRun files folder run
      → after ≡ all && run.is_session → Appends middle new run.line
      → AreBundled files (folders ++ folder ∷ []) after old new
  bundled_on folder run after is same written = record {
    runs = done.runs ++ run ∷ [];
    are_runs = zip_on (IsLineOfRun files) folders done.runs folder run done.are_runs is;
    all_read = same ∙ (ap (λ b. b && run.is_session) done.all_read ∙ sym (all_on done.runs run));
    written = subst (λ (text : List ℕ). Appends old new text) (sym (lines_on done.runs run))
        (appends_on old middle new (lines_of done.runs) run.line done.written written);
  }

  -- a prefix of it is
  pub cut_line : (folder : List ℕ) (run : RunLine) (count : ℕ) → IsLineOfRun files folder run
      → Appends middle new (take count run.line)
      → WritesUpTo (IsTextOfRuns files (λ _. ⊤) (folders ++ folder ∷ [])) old new
  cut_line folder run count is written =
      let runs = done.runs ++ run ∷ [] in
      up_to_weaker (λ text. text ≡ lines_of runs) (IsTextOfRuns files (λ _. ⊤) (folders ++ folder ∷ [])) old new
      (λ text same. record {
        runs = runs;
        are_runs = zip_on (IsLineOfRun files) folders done.runs folder run done.are_runs is;
        said = tt;
        is_text = same;
      })
      (up_to (lines_of runs) old new (length (lines_of done.runs) + count)
      (subst (λ (text : List ℕ). Appends old new text)
      (sym (ap (take (length (lines_of done.runs) + count)) (lines_on done.runs run)
      ∙ after_part (lines_of done.runs) run.line count))
      (appends_on old middle new (lines_of done.runs) (take count run.line) done.written written)))

module _ (files : List ℕ → File) (folders : List (List ℕ)) (old new : Option (List ℕ)) where
  -- before the line of the next run
  pub cut_before : (all : Bool) → AreBundled files folders all old new
      → WritesUpTo (IsTextOfRuns files (λ _. ⊤) folders) old new
  cut_before all done = inl (
    lines_of done.runs,
    record { runs = done.runs; are_runs = done.are_runs; said = tt; is_text = refl },
    done.written,
  )

  -- all lines are written
  pub bundled : (all : Bool) → AreBundled files folders all old new
      → BundleLeaves files folders (ending_view (Ok all)) old new
  bundled true done = (
    lines_of done.runs,
    record { runs = done.runs; are_runs = done.are_runs; said = rw (sym done.all_read) refl; is_text = refl },
    done.written,
  )
  bundled false done = (
    lines_of done.runs,
    record { runs = done.runs; are_runs = done.are_runs; said = rw (sym done.all_read) refl; is_text = refl },
    done.written,
  )

  -- a fault leaves the text of the first runs, or a prefix of it
  pub broken_off : (result : Result Bool EngineFault) (fault : EngineFault)
      → IsErrAnd result (λ (e : EngineFault). e ≡ fault) → (fault ≡ Memory) ⊎ (fault ≡ Write) → (count : ℕ)
      → WritesUpTo (IsTextOfRuns files (λ _. ⊤) (take count folders)) old new
      → BundleLeaves files folders (ending_view result) old new
  broken_off (Ok all) fault is ends count left = absurd is
  broken_off (Err e) fault is (inl memory) count left =
      subst (λ (f : EngineFault). BundleLeaves files folders (ending_view (Err f)) old new) (sym (is ∙ memory))
      (count, left)
  broken_off (Err e) fault is (inr write) count left =
      subst (λ (f : EngineFault). BundleLeaves files folders (ending_view (Err f)) old new) (sym (is ∙ write))
      (count, left)

  -- the output fails in the line of the run at this place
  pub cut_by : (result : Result Bool EngineFault) (fault : EngineFault)
      → IsErrAnd result (λ (e : EngineFault). e ≡ fault) → fault ≡ Write → (i : ℕ) (some : List (List ℕ))
      → take (i + 1) folders ≡ some → WritesUpTo (IsTextOfRuns files (λ _. ⊤) some) old new
      → BundleLeaves files folders (ending_view result) old new
  cut_by result fault is write i some next left =
      broken_off result fault is (inr write) (i + 1)
      (subst (λ (l : List (List ℕ)). WritesUpTo (IsTextOfRuns files (λ _. ⊤) l) old new) (sym next) left)
