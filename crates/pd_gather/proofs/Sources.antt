-- What a source gave, from what is known of it and from how its reads went.
use Rattle.std.proofs.Common.{◌≡◌, ℕ, List, [], ◌++◌, true, refl, ◌∙◌, subst, append-nil, inr}
use Rattle.std.specs.Prelude.{◌≢◌, IfSome, Option, Some, None}
use Rattle.std.specs.Io.KnownBytes.{Consumes, IsAtEnd}
use Rattle.std.proofs.KnownBytes.{Consumes-all, Consumes-trans, Consumes-whole}
use Rattle.def_format.specs.Names.{ProcessNames}
use Rattle.def_format.specs.Readings.{Open, Ended, Failed}
use Rattle.def_judgement.specs.Judgements.{ended_stream}
use Rattle.def_judgement.specs.Writes.{FailsAfter, IsGivenBy, Source}
use Rattle.pd_gather.specs.ReadStreams.{IsOwnEnd}

-- ---- its bytes

prefix_of : (input left : Option (List ℕ)) (bytes : List ℕ) → Consumes input left bytes
    → IfSome input (λ all. (rest : List ℕ) × (all ≡ bytes ++ rest))
prefix_of None left bytes p = tt
prefix_of (Some all) None bytes p = absurd p
prefix_of (Some all) (Some rest) bytes p = (rest, p)

-- its end consumes nothing
pub consumes_none : (input old new : Source) (bytes : List ℕ) → Consumes input.bytes old.bytes bytes
    → Consumes old.bytes new.bytes [] → Consumes input.bytes new.bytes bytes
consumes_none input old new bytes p none =
    subst (λ (given : List ℕ). Consumes input.bytes new.bytes given) (append-nil bytes)
    (Consumes-trans input.bytes old.bytes new.bytes bytes [] p none)

-- what it gave to its end
pub ended_given : (input old new : Source) (bytes : List ℕ) → Consumes input.bytes old.bytes bytes
    → Consumes input.bytes new.bytes bytes → IsAtEnd new.bytes → IsGivenBy input.bytes (ended_stream bytes)
ended_given input old new bytes p all at_end = record {
  stopped = λ (e : Ended ≡ Open). cc;
  prefix = prefix_of input.bytes old.bytes bytes p;
  whole = λ ended. Consumes-all input.bytes new.bytes bytes [] bytes all at_end refl;
}

-- what it gave before a read failed, or before it wasn't read on
pub failed_given : (input left : Source) (bytes : List ℕ) → Consumes input.bytes left.bytes bytes
    → IsGivenBy input.bytes (record { ending = Failed; bytes = bytes })
failed_given input left bytes p = record {
  stopped = λ (e : Failed ≡ Open). cc;
  prefix = prefix_of input.bytes left.bytes bytes p;
  whole = λ (ended : Failed ≡ Ended). cc;
}

-- ---- whether a read of it fails

ends_here : (known : Option (List ℕ)) → IfSome known (λ rest. rest ≡ []) → IsAtEnd known
ends_here None none = tt
ends_here (Some rest) none = none

-- a failed read of a source that gave these bytes before, of which this holds
pub failed_after : (input left : Source) (bytes : List ℕ) (IsAll : List ℕ → Type 0) → left.fails ≡ input.fails
    → Consumes input.bytes left.bytes bytes → IsAll bytes → FailsAfter left (λ rest. rest ≡ [])
    → FailsAfter input IsAll
failed_after input left bytes IsAll same p holds failed = record {
  may = λ e. failed.may (same ∙ e);
  all = λ e.
      Consumes-whole input.bytes left.bytes bytes IsAll p (ends_here left.bytes (failed.all (same ∙ e))) holds;
}

-- how a stream ended that may go on
pub open_end : (names : List ProcessNames) (input : Source) (bytes : List ℕ)
    → IsOwnEnd names input (record { ending = Open; bytes = bytes })
open_end names input bytes = record { ends = λ (e : Open ≡ Ended). cc; fails = λ (e : Open ≡ Failed). cc }

-- one with its source's end
pub ended_end : (names : List ProcessNames) (input left : Source) (bytes : List ℕ) → left.fails ≡ input.fails
    → left.fails ≢ Some true → IsOwnEnd names input (ended_stream bytes)
ended_end names input left bytes same no_failure =
    record { ends = λ ended e. no_failure (same ∙ e); fails = λ (e : Ended ≡ Failed). cc }

-- one with a failed read of its source
pub failed_end : (names : List ProcessNames) (input left : Source) (bytes : List ℕ) → left.fails ≡ input.fails
    → Consumes input.bytes left.bytes bytes → FailsAfter left (λ rest. rest ≡ [])
    → IsOwnEnd names input (record { ending = Failed; bytes = bytes })
failed_end names input left bytes same p failed = record {
  ends = λ (e : Failed ≡ Ended). cc;
  fails = λ e. inr (failed_after input left bytes (λ all. bytes ≡ all) same p refl failed);
}
