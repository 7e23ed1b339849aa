-- The numbers in a session's fault.
use Rattle.std.proofs.Common.{◌≡◌, ℕ, suc, ◌+◌, ◌<◌, Bool, true, false, cond, List, [], ◌∷◌, ◌++◌, length, refl, ap, ◌∙◌, arith, length-append, Some, None, Option, Ok, Err, Result}
use Rattle.std.specs.Prelude.{nat_lt}
use Rattle.def_format.specs.Names.{ProcessNames}
use Rattle.def_format.specs.Readings.{Trace}
use Rattle.def_format.specs.Sessions.{SessionFault, TooManyStreams, Stream, Taken, Absent, StreamResult, has_joined, stream_fault, fault_or, first_stream_fault, trace_of, traces_from, session_within}

-- a stream reported is one of this many, and a process reported is one of this many
abbrev pub IsCounted : ℕ → ℕ → SessionFault → Type 0
IsCounted streams processes TooManyStreams = Unit {0}
IsCounted streams processes (Stream stream fault) = stream < streams
IsCounted streams processes (Taken stream line) = stream < streams
IsCounted streams processes (Absent process) = process < processes

counted_here : (before : List StreamResult) (here : StreamResult) (n processes : ℕ) (fault : SessionFault)
    → length before < n → stream_fault before here ≡ Some fault → IsCounted n processes fault
counted_here before (Err reported) n processes (Stream stream other) lt e = let s : length before ≡ stream =
    cc in omega arith
counted_here before (Err reported) n processes TooManyStreams lt e = tt
counted_here before (Err reported) n processes (Taken stream line) lt e = absurd (cc)
counted_here before (Err reported) n processes (Absent process) lt e = absurd (cc)
counted_here before (Ok trace) n processes fault lt e = go (has_joined trace.process before) fault e
  where
    go : (b : Bool) (fault : SessionFault) → cond b (Some (Taken (length before) trace.join_line)) None ≡ Some fault
        → IsCounted n processes fault
    go true (Taken stream line) h = let s : length before ≡ stream = cc in omega arith
    go true TooManyStreams h = tt
    go true (Stream stream other) h = absurd (cc)
    go true (Absent process) h = absurd (cc)
    go false fault h = absurd (cc)

counted_streams : (before later : List StreamResult) (processes : ℕ) (fault : SessionFault)
    → first_stream_fault before later ≡ Some fault → IsCounted (length before + length later) processes fault
counted_streams before [] processes fault e = absurd (cc)
counted_streams before (first ∷ later) processes fault e =
    go (counted_streams (before ++ first ∷ []) later processes fault) (stream_fault before first) refl e
  where
    go : (first_stream_fault (before ++ first ∷ []) later ≡ Some fault
        → IsCounted (length (before ++ first ∷ []) + length later) processes fault) → (o : Option SessionFault)
        → stream_fault before first ≡ o → fault_or o (first_stream_fault (before ++ first ∷ []) later) ≡ Some fault
        → IsCounted (length before + length (first ∷ later)) processes fault
    go ih None at h = move (ih h)
      where
        move : IsCounted (length (before ++ first ∷ []) + length later) processes fault
            → IsCounted (length before + length (first ∷ later)) processes fault
        move w =
            let same : length (before ++ first ∷ []) + length later ≡ length before + length (first ∷ later) =
            omega (arith, length-append before (first ∷ [])) in
            rw same at w
    go ih (Some reported) at h =
        counted_here before first (length before + length (first ∷ later)) processes fault (omega arith) (at ∙ h)

counted_absent : (p : ℕ) (names : List ProcessNames) (outcomes : List StreamResult) (streams : ℕ) (fault : SessionFault)
    → traces_from p names outcomes ≡ Err fault → IsCounted streams (p + length names) fault
counted_absent p [] outcomes streams fault e = absurd (cc)
counted_absent p (name ∷ names) outcomes streams fault e =
    go (counted_absent (suc p) names outcomes streams fault) (trace_of p outcomes) (traces_from (suc p) names outcomes)
    refl refl
  where
    go : (traces_from (suc p) names outcomes ≡ Err fault → IsCounted streams (suc p + length names) fault)
        → (o : Option Trace) (r : Result (List Trace) SessionFault) → trace_of p outcomes ≡ o
        → traces_from (suc p) names outcomes ≡ r → IsCounted streams (p + length (name ∷ names)) fault
    go ih None r at from = none fault (rw at at e)
      where
        none : (fault : SessionFault) → ◌≡◌ {A = Result (List Trace) SessionFault} (Err (Absent p)) (Err fault)
            → IsCounted streams (p + length (name ∷ names)) fault
        none (Absent q) h = let s : p ≡ q = cc in omega arith
        none TooManyStreams h = tt
        none (Stream stream reported) h = absurd (cc)
        none (Taken stream line) h = absurd (cc)
    go ih (Some trace) (Ok traces) at from = absurd (let h = rw (at, from) at e in cc)
    go ih (Some trace) (Err reported) at from =
        let h = rw (at, from) at e in
        let same : reported ≡ fault = cc in
        move (ih (from ∙ ap Err same))
      where
        move : IsCounted streams (suc p + length names) fault → IsCounted streams (p + length (name ∷ names)) fault
        move w = let same : suc p + length names ≡ p + length (name ∷ names) = omega arith in rw same at w

pub counted : (most : ℕ) (names : List ProcessNames) (streams : ℕ) (outcomes : List StreamResult)
    (fault : SessionFault) → session_within most names streams outcomes ≡ Err fault
    → IsCounted (length outcomes) (length names) fault
counted most names streams outcomes fault e =
    go (nat_lt most streams) (first_stream_fault [] outcomes) refl refl
  where
    go : (b : Bool) (o : Option SessionFault) → nat_lt most streams ≡ b
        → first_stream_fault [] outcomes ≡ o → IsCounted (length outcomes) (length names) fault
    go true o many at = many_reported fault (rw many at e)
      where
        many_reported : (fault : SessionFault)
            → ◌≡◌ {A = Result (List Trace) SessionFault} (Err TooManyStreams) (Err fault)
            → IsCounted (length outcomes) (length names) fault
        many_reported TooManyStreams h = tt
        many_reported (Stream stream reported) h = absurd (cc)
        many_reported (Taken stream line) h = absurd (cc)
        many_reported (Absent process) h = absurd (cc)
    go false (Some reported) few at =
        let h = rw (few, at) at e in
        let same : reported ≡ fault = cc in
        let all : IsCounted (0 + length outcomes) (length names) fault =
        counted_streams [] outcomes (length names) fault (at ∙ ap Some same) in
        let zero : 0 + length outcomes ≡ length outcomes = omega arith in
        rw zero at all
    go false None few at =
        let h = rw (few, at) at e in
        let all : IsCounted (length outcomes) (0 + length names) fault =
        counted_absent 0 names outcomes (length outcomes) fault h in
        let zero : 0 + length names ≡ length names = omega arith in
        rw zero at all
