-- What is left if a file can't be opened or read, or memory runs out before: nothing, whatever the document is.
use Rattle.std.proofs.Common.{◌≡◌, ◌⊎◌, ℕ, suc, zero, List, [], ◌∷◌, map, Option, None, Some, Ok, Err, refl, inl, inr, true, false, arith}
use Rattle.std.specs.Prelude.{All, Bool, IsErrAnd, Result}
use Rattle.std.specs.Io.KnownBytes.{Keeps}
use Rattle.judge_runs.specs.Wishes.{Condition}
use Rattle.def_format.specs.Documents.{Inquiry, Options}
use Rattle.app_arguments.specs.Statuses.{Ending, File, IsLongReport, LeavesOf}
use Rattle.def_judgement.specs.Writes.{Source}
use Rattle.judge_session.specs.declared.fault.EngineFault.{EngineFault}
use Rattle.judge_session.specs.declared.fault.EngineFault.TheVariants.{BundleLong, Memory, Read, Write}
use Rattle.app_host.specs.FileSources.{Knows}
use Rattle.app_host.proofs.FilesRead.{of_known_bytes, of_known_fate}
use Rattle.app_host.specs.Faults.{ending_view, judgement_ending}

pub keeps_same : (bytes : Option (List ℕ)) → Keeps bytes bytes
keeps_same None = tt
keeps_same (Some bytes) = refl

-- ---- why a file can't be opened or read

-- the fault that is passed on is the one that was given
pub same_fault : {A B : Type 0} (result : Result A EngineFault) (fault reported : EngineFault)
    → IsErrAnd result (λ e. e ≡ fault) → result ≡ Err reported
    → ◌≡◌ {A = Result B EngineFault} (Err fault) (Err reported)
same_fault (Ok x) fault reported is e = absurd is
same_fault (Err f) fault reported is e = cc

-- the files of these names can surely be opened
pub all_open : {N : Type 0} (files : List ℕ → File) (name_of : N → List ℕ) (names : List N)
    → All (λ (file : File). file.opens ≡ true) (map files (map name_of names))
    → All (λ name. (files (name_of name)).opens ≡ true) names
all_open files name_of [] all = λ i d lt. absurd (omega (arith, lt))
all_open files name_of (n ∷ names) all =
    go (all_open files name_of names (λ i d lt. all (suc i) d (omega (arith, lt))))
  where
    go : All (λ name. (files (name_of name)).opens ≡ true) names
        → All (λ name. (files (name_of name)).opens ≡ true) (n ∷ names)
    go rest zero d lt = all 0 (files (name_of n)) (omega arith)
    go rest (suc i) d lt = rest i d (omega (arith, lt))

-- A report that can't be read is too long, or a read of its file may fail.
pub unread_report : (report : File) (left : Source) (Opens Reads : Type 0)
    → (Reads → report.source.fails ≡ Some false) → Knows report.source left
    → (left.fails ≡ Some false → IsLongReport left) → (Opens → Reads → ⊥) ⊎ IsLongReport report.source
unread_report report left Opens Reads surely knows long = go report.source.fails refl
  where
    go : (fails : Option Bool) → report.source.fails ≡ fails → (Opens → Reads → ⊥) ⊎ IsLongReport report.source
    go None same = inl (λ opened read. let never = surely read in absurd (cc))
    go (Some true) same = inl (λ opened read. let never = surely read in absurd (cc))
    go (Some false) same =
        inr (of_known_bytes report.source left _ knows (long (of_known_fate report.source left false knows same)))

-- ---- what is left

-- a fault of reading
abbrev pub IsReadFault : EngineFault → Type 0
IsReadFault fault = (fault ≡ Memory) ⊎ (fault ≡ Read)

module _ (options : Options) (document : File) (IsUnread : Type 0)
    (P : Inquiry → Ending → (old new : Option (List ℕ)) → Type 0) (old : Option (List ℕ)) where
  pub unread_judgement : (fail_on : List Condition) (fault : EngineFault) → IsReadFault fault
      → (fault ≡ Read → IsUnread) → LeavesOf options document IsUnread P (judgement_ending fail_on (Err fault)) old old
  unread_judgement fail_on Memory is unread = keeps_same old
  unread_judgement fail_on Read is unread = (unread refl, keeps_same old)
  unread_judgement fail_on Write (inl is) unread = absurd (cc)
  unread_judgement fail_on Write (inr is) unread = absurd (cc)
  unread_judgement fail_on BundleLong (inl is) unread = absurd (cc)
  unread_judgement fail_on BundleLong (inr is) unread = absurd (cc)

  pub unread_check : (fault : EngineFault) → IsReadFault fault → (fault ≡ Read → IsUnread)
      → LeavesOf options document IsUnread P (ending_view (Err fault)) old old
  unread_check Memory is unread = keeps_same old
  unread_check Read is unread = (unread refl, keeps_same old)
  unread_check Write (inl is) unread = absurd (cc)
  unread_check Write (inr is) unread = absurd (cc)
  unread_check BundleLong (inl is) unread = absurd (cc)
  unread_check BundleLong (inr is) unread = absurd (cc)
