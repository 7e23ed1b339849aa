-- The numbers in a session's fault are small, and the traces of a session fit its names.
use Rattle.std.proofs.Common.{◌≡◌, ℕ, suc, ◌+◌, ◌<◌, ◌≤◌, Bool, true, false, cond, List, [], ◌∷◌, ◌++◌, length, refl, ap, subst, ◌∙◌, arith, length-append, Some, None, Option, Ok, Err, Result}
use Rattle.std.specs.Prelude.{nat_lt, ◌==◌}
use Rattle.std.specs.List.{AllByRecursion}
use Rattle.std.proofs.lemmas.Bool.Decides.{nat_tests}
use Rattle.def_format.specs.Limits.{stream_count_limit}
use Rattle.def_format.specs.Names.{ProcessNames}
use Rattle.def_format.specs.ReadingLaws.{FitsSession}
use Rattle.def_format.specs.Readings.{Trace}
use Rattle.def_format.specs.Sessions.{SessionFault, TooManyStreams, Stream, Taken, Absent, StreamResult, has_joined, stream_fault, fault_or, first_stream_fault, trace_of, traces_from, session}
use Rattle.def_format.proofs.FaultLines.{last_line}

-- a trace that fits, and no late line
abbrev pub ResultFits : List ProcessNames → StreamResult → Type 0
ResultFits names (Ok trace) = FitsSession names trace × (trace.join_line ≤ last_line)
ResultFits names (Err fault) = fault.line ≤ last_line

-- a stream reported is one of this many, a line isn't late, and a process reported is one of this many
abbrev pub FaultFits : ℕ → ℕ → SessionFault → Type 0
FaultFits streams processes TooManyStreams = Unit {0}
FaultFits streams processes (Stream stream fault) = (stream < streams) × (fault.line ≤ last_line)
FaultFits streams processes (Taken stream line) = (stream < streams) × (line ≤ last_line)
FaultFits streams processes (Absent process) = process < processes

-- ---- the fault of a stream

fault_here : (names : List ProcessNames) (before : List StreamResult) (here : StreamResult) (n processes : ℕ)
    (fault : SessionFault) → ResultFits names here → length before < n → stream_fault before here ≡ Some fault
    → FaultFits n processes fault
fault_here names before (Err reported) n processes fault fits lt e =
    let same : Stream (length before) reported ≡ fault = cc in subst (FaultFits n processes) same (lt, fits)
fault_here names before (Ok trace) n processes fault fits lt e = go (has_joined trace.process before) e
  where
    go : (b : Bool) → cond b (Some (Taken (length before) trace.join_line)) None ≡ Some fault
        → FaultFits n processes fault
    go true h =
        let same : Taken (length before) trace.join_line ≡ fault = cc in
        subst (FaultFits n processes) same (lt, fits.1)
    go false h = absurd (cc)

fault_of_streams : (names : List ProcessNames) (before later : List StreamResult) (n processes : ℕ)
    (fault : SessionFault) → AllByRecursion (ResultFits names) later → length before + length later ≤ n
    → first_stream_fault before later ≡ Some fault → FaultFits n processes fault
fault_of_streams names before [] n processes fault all le e = absurd (cc)
fault_of_streams names before (first ∷ later) n processes fault all le e =
    go (fault_of_streams names (before ++ first ∷ []) later n processes fault all.1) (stream_fault before first) refl e
  where
    go : (length (before ++ first ∷ []) + length later ≤ n
        → first_stream_fault (before ++ first ∷ []) later ≡ Some fault → FaultFits n processes fault)
        → (o : Option SessionFault) → stream_fault before first ≡ o
        → fault_or o (first_stream_fault (before ++ first ∷ []) later) ≡ Some fault → FaultFits n processes fault
    go more None at h =
        let l : length (before ++ first ∷ []) ≡ length before + 1 = length-append before (first ∷ []) in
        more (omega arith) h
    go more (Some reported) at h =
        fault_here names before first n processes fault all.0 (omega arith) (at ∙ h)

fault_of_processes : (p : ℕ) (names : List ProcessNames) (outcomes : List StreamResult) (streams n : ℕ)
    (fault : SessionFault) → p + length names ≤ n → traces_from p names outcomes ≡ Err fault
    → FaultFits streams n fault
fault_of_processes p [] outcomes streams n fault le e = absurd (cc)
fault_of_processes p (name ∷ names) outcomes streams n fault le e =
    go (fault_of_processes (suc p) names outcomes streams n fault (omega arith)) (trace_of p outcomes)
    (traces_from (suc p) names outcomes) refl refl
  where
    go : (traces_from (suc p) names outcomes ≡ Err fault → FaultFits streams n fault)
        → (o : Option Trace) (r : Result (List Trace) SessionFault) → trace_of p outcomes ≡ o
        → traces_from (suc p) names outcomes ≡ r → FaultFits streams n fault
    go more None r at from =
        let h : ◌≡◌ {A = Result (List Trace) SessionFault} (Err (Absent p)) (Err fault) = rw at at e in
        let same : Absent p ≡ fault = cc in
        let lt : p < n = omega arith in
        subst (FaultFits streams n) same lt
    go more (Some trace) (Ok traces) at from = absurd (let h = rw (at, from) at e in cc)
    go more (Some trace) (Err reported) at from =
        let h = rw (at, from) at e in
        let same : reported ≡ fault = cc in
        more (from ∙ ap Err same)

-- the numbers in the fault of a session of as many streams as there are results
pub session_fault_fits : (names : List ProcessNames) (streams : ℕ) (outcomes : List StreamResult) (fault : SessionFault)
    → AllByRecursion (ResultFits names) outcomes → session names streams outcomes ≡ Err fault
    → FaultFits (length outcomes) (length names) fault
session_fault_fits names streams outcomes fault all e =
    go (nat_lt stream_count_limit streams) (first_stream_fault [] outcomes) refl refl
  where
    go : (b : Bool) (o : Option SessionFault) → nat_lt stream_count_limit streams ≡ b
        → first_stream_fault [] outcomes ≡ o → FaultFits (length outcomes) (length names) fault
    go true o many at =
        let h : ◌≡◌ {A = Result (List Trace) SessionFault} (Err TooManyStreams) (Err fault) = rw many at e in
        let same : TooManyStreams ≡ fault = cc in
        subst (FaultFits (length outcomes) (length names)) same tt
    go false (Some reported) few at =
        let h = rw (few, at) at e in
        let same : reported ≡ fault = cc in
        fault_of_streams names [] outcomes (length outcomes) (length names) fault all (omega arith) (at ∙ ap Some same)
    go false None few at =
        let h = rw (few, at) at e in
        fault_of_processes 0 names outcomes (length outcomes) (length names) fault (omega arith) h

-- ---- the traces

trace_fits : (names : List ProcessNames) (process : ℕ) (outcomes : List StreamResult) (trace : Trace)
    → AllByRecursion (ResultFits names) outcomes → trace_of process outcomes ≡ Some trace → FitsSession names trace
trace_fits names process [] trace all e = absurd (cc)
trace_fits names process (Err fault ∷ outcomes) trace all e = trace_fits names process outcomes trace all.1 e
trace_fits names process (Ok first ∷ outcomes) trace all e =
    go (first.process == process) (trace_fits names process outcomes trace all.1) e
  where
    go : (b : Bool) → (trace_of process outcomes ≡ Some trace → FitsSession names trace)
        → cond b (Some first) (trace_of process outcomes) ≡ Some trace → FitsSession names trace
    go true more h = let same : first ≡ trace = cc in subst (FitsSession names) same all.0.0
    go false more h = more h

traces_fit_from : (names : List ProcessNames) (p : ℕ) (others : List ProcessNames) (outcomes : List StreamResult)
    (traces : List Trace) → AllByRecursion (ResultFits names) outcomes → traces_from p others outcomes ≡ Ok traces
    → (length traces ≡ length others) × AllByRecursion (FitsSession names) traces
traces_fit_from names p [] outcomes traces all e =
    let same : [] ≡ traces = cc in
    subst (λ (t : List Trace). (length t ≡ 0) × AllByRecursion (FitsSession names) t) same (refl, tt)
traces_fit_from names p (name ∷ others) outcomes traces all e =
    go (λ (t : List Trace). traces_fit_from names (suc p) others outcomes t all) (trace_of p outcomes)
    (traces_from (suc p) others outcomes) refl refl
  where
    go : ((t : List Trace) → traces_from (suc p) others outcomes ≡ Ok t
        → (length t ≡ length others) × AllByRecursion (FitsSession names) t)
        → (o : Option Trace) (r : Result (List Trace) SessionFault) → trace_of p outcomes ≡ o
        → traces_from (suc p) others outcomes ≡ r
        → (length traces ≡ suc (length others)) × AllByRecursion (FitsSession names) traces
    go more None r at from = absurd (let h = rw at at e in cc)
    go more (Some trace) (Err reported) at from = absurd (let h = rw (at, from) at e in cc)
    go more (Some trace) (Ok later) at from =
        let h = rw (at, from) at e in
        let same : trace ∷ later ≡ traces = cc in
        let rest = more later from in
        subst (λ (t : List Trace). (length t ≡ suc (length others)) × AllByRecursion (FitsSession names) t) same
        (ap suc rest.0, (trace_fits names p outcomes trace all at, rest.1))

-- a session has a trace for each process, and each fits
pub session_traces_fit : (names : List ProcessNames) (streams : ℕ) (outcomes : List StreamResult) (traces : List Trace)
    → AllByRecursion (ResultFits names) outcomes → session names streams outcomes ≡ Ok traces
    → (length traces ≡ length names) × AllByRecursion (FitsSession names) traces
session_traces_fit names streams outcomes traces all e =
    go (nat_lt stream_count_limit streams) (first_stream_fault [] outcomes) refl refl
  where
    go : (b : Bool) (o : Option SessionFault) → nat_lt stream_count_limit streams ≡ b
        → first_stream_fault [] outcomes ≡ o
        → (length traces ≡ length names) × AllByRecursion (FitsSession names) traces
    go true o many at = absurd (let h = rw many at e in cc)
    go false (Some reported) few at = absurd (let h = rw (few, at) at e in cc)
    go false None few at = traces_fit_from names 0 names outcomes traces all (rw (few, at) at e)

-- at most as many streams as may be, unless the session is refused for it
pub few_streams : (names : List ProcessNames) (streams : ℕ) (outcomes : List StreamResult) (fault : SessionFault)
    → session names streams outcomes ≡ Err fault → (fault ≡ TooManyStreams → ⊥) → streams ≤ stream_count_limit
few_streams names streams outcomes fault e other = go (nat_lt stream_count_limit streams) refl
  where
    go : (b : Bool) → nat_lt stream_count_limit streams ≡ b → streams ≤ stream_count_limit
    go true many =
        let h : ◌≡◌ {A = Result (List Trace) SessionFault} (Err TooManyStreams) (Err fault) = rw many at e in
        let same : fault ≡ TooManyStreams = cc in
        absurd (other same)
    go false few = grind (arith, nat_tests)
