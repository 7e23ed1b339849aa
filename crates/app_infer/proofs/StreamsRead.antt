-- What was read of the files of streams.
use Rattle.std.proofs.Common.{◌≡◌, ◌≢◌, ◌+◌, ◌<◌, ◌≤◌, ℕ, true, List, [], ◌∷◌, ◌++◌, length, length-take, map, take, refl, sym, ap, subst, ◌∙◌, lt-ltb, arith, None, Some, Option, Ok, Err, inl, inr}
use Rattle.std.specs.Global.{Global}
use Rattle.std.specs.Prelude.{◌⊎◌, codes, IfOk, IfSome, Result, Vec, vec_len}
use Rattle.std.specs.List.{AllZip, slice_index_or}
use Rattle.std.proofs.lemmas.Bool.{cases_lt}
use Rattle.std.proofs.lemmas.List.{get_or-map, length-map, map_more, take-map, take_all}
use Rattle.app_arguments.specs.Statuses.{File}
use Rattle.app_host.specs.FileSources.{Knows}
use Rattle.app_host.proofs.FilesRead.{of_known_fate, zip_on}
use Rattle.def_format.specs.Limits.{stream_byte_limit}
use Rattle.def_judgement.specs.Writes.{Source}
use Rattle.judge_infer.specs.Inferred.{stream_process, worded}
use Rattle.judge_infer.specs.Streams.{Found, Process, process_of_stream}
use Rattle.judge_infer.proofs.StreamSteps.{stream_same}
use Rattle.judge_session.specs.declared.fault.EngineFault.{EngineFault}
use Rattle.app_infer.specs.Inferences.{IsRefusedFor, IsStreamOf, of_stream, refused_line}
use Rattle.app_infer.specs.Outcomes.{IsSaidIn}

-- all streams that are too long say the same
long_said : (bytes : List ℕ) → stream_byte_limit < length bytes
    → process_of_stream bytes ≡ Err (codes ": it has more than 16,777,216 bytes")
unfolding process_of_stream
long_said bytes long = rw (lt-ltb stream_byte_limit (length bytes) long) refl

-- of a source that has all these bytes left
known_said : (file left : Source) (known read : List ℕ) → file.bytes ≡ Some known → Knows file left
    → read ≡ take (stream_byte_limit + 1) known
    → (length read ≤ stream_byte_limit → left.fails ≢ Some true) → IsStreamOf file (process_of_stream read)
known_said file left known read is knows first end = go (cases_lt stream_byte_limit (length known))
  where
    count : length read ≡ length (take (stream_byte_limit + 1) known)
    count = ap length first

    all : IfSome file.bytes (λ bytes. known ≡ bytes)
    all = subst (λ (b : Option (List ℕ)). IfSome b (λ bytes. known ≡ bytes)) (sym is) refl

    go : (stream_byte_limit < length known) ⊎ (length known ≤ stream_byte_limit)
        → IsStreamOf file (process_of_stream read)
    go (inl long) = record {
      bytes = known;
      all = all;
      ended = λ _. long;
      says = long_said known long
          ∙ sym (long_said read (omega (arith, count, length-take (stream_byte_limit + 1) known)));
    }
    go (inr short) =
        let same : read ≡ known = first ∙ take_all (stream_byte_limit + 1) known (omega arith) in
        record {
          bytes = known;
          all = all;
          ended = λ fails. absurd (end (subst (λ (l : List ℕ). length l ≤ stream_byte_limit) (sym same) short)
              (of_known_fate file left true knows fails));
          says = ap process_of_stream (sym same);
        }

-- of a source of whose bytes nothing is known
unknown_said : (file left : Source) (read : List ℕ) → file.bytes ≡ None → Knows file left
    → (length read ≤ stream_byte_limit → left.fails ≢ Some true) → IsStreamOf file (process_of_stream read)
unknown_said file left read is knows end = record {
  bytes = read;
  all = subst (λ (b : Option (List ℕ)). IfSome b (λ bytes. read ≡ bytes)) (sym is) tt;
  ended = λ fails. go fails (cases_lt stream_byte_limit (length read));
  says = refl;
}
  where
    go : file.fails ≡ Some true → (stream_byte_limit < length read) ⊎ (length read ≤ stream_byte_limit)
        → stream_byte_limit < length read
    go fails (inl long) = long
    go fails (inr short) = absurd (end short (of_known_fate file left true knows fails))

-- the first bytes of a stream, up to one more than its limit, say what all of them do
pub read_said : (file left : Source) (read : List ℕ) → Knows file left
    → IfSome left.bytes (λ input. read ≡ take (stream_byte_limit + 1) input)
    → (length read ≤ stream_byte_limit → left.fails ≢ Some true) → IsStreamOf file (process_of_stream read)
read_said file left read knows prefix end = go file.bytes refl
  where
    go : (b : Option (List ℕ)) → file.bytes ≡ b → IsStreamOf file (process_of_stream read)
    go None is = unknown_said file left read is knows end
    go (Some known) is =
        let left_is : left.bytes ≡ Some known =
        subst (λ (b : Option (List ℕ)). IfSome b (λ bytes. left.bytes ≡ Some bytes)) is knows.bytes in
        known_said file left known read is knows
        (subst (λ (b : Option (List ℕ)). IfSome b (λ input. read ≡ take (stream_byte_limit + 1) input)) left_is prefix)
        end

-- what it says is this
pub says : (source : Source) (due is : Found) → IsStreamOf source due → due ≡ is → IsStreamOf source is
says source due is of same = record { bytes = of.bytes; all = of.all; ended = of.ended; says = of.says ∙ same }

-- one stream more
pub said_on : {N : Type 0} (files : List ℕ → File) (name_of : N → List ℕ) (names : List N)
    (processes more : List Process) (i : ℕ) (d : N) → i < length names
    → AllZip (IsSaidIn files) (map name_of (take i names)) processes
    → (process : Process) × IsSaidIn files (name_of (slice_index_or names i d)) process
    × (more ≡ processes ++ process ∷ []) → AllZip (IsSaidIn files) (map name_of (take (i + 1) names)) more
said_on files name_of names processes more i d lt all one =
    subst (λ (ps : List Process). AllZip (IsSaidIn files) (map name_of (take (i + 1) names)) ps) (sym one.2)
    (subst (λ xs. AllZip (IsSaidIn files) xs (processes ++ one.0 ∷ [])) (sym (map_more name_of names i d lt))
    (zip_on (IsSaidIn files) _ _ _ _ all one.1))

-- a stream is refused, and those before it are not
pub refused_at : {N : Type 0} (files : List ℕ → File) (name_of : N → List ℕ) (names : List N)
    (processes : List Process) (i : ℕ) (d : N) (why : List ℕ) → i < length names
    → AllZip (IsSaidIn files) (map name_of (take i names)) processes
    → IsStreamOf (files (name_of (slice_index_or names i d))).source (Err why)
    → IsRefusedFor files (map name_of names) (refused_line (slice_index_or (map name_of names) i [] ++ why))
refused_at files name_of names processes i d why lt all one =
    let here : slice_index_or (map name_of names) i [] ≡ name_of (slice_index_or names i d) =
    get_or-map name_of names i d [] lt in
    of_stream i processes why (omega (arith, lt, length-map names name_of))
    (subst (λ xs. AllZip (IsSaidIn files) xs processes) (sym (take-map name_of i names)) all)
    (subst (λ name. IsStreamOf (files name).source (Err why)) (sym here) one) refl

pub read_result : (file left : Source) (result : Result (Vec ℕ Global) EngineFault) → Knows file left
    → IfOk result (λ bytes. IfSome left.bytes (λ input. bytes.items ≡ take (stream_byte_limit + 1) input))
    → IfOk result (λ bytes. vec_len bytes ≤ stream_byte_limit → left.fails ≢ Some true)
    → IfOk result (λ bytes. IsStreamOf file (worded (stream_process bytes.items)))
read_result file left (Ok bytes) knows prefix end =
    says file (process_of_stream bytes.items) (worded (stream_process bytes.items))
    (read_said file left bytes.items knows prefix (λ short. end (omega (arith, bytes.ok.0, short))))
    (stream_same bytes.items)
read_result file left (Err fault) knows prefix end = tt
