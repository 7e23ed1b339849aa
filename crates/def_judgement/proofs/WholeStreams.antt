-- What sources gave of which no read fails, and what stands for streams that nobody reads.
use Rattle.std.proofs.Common.{◌≡◌, ℕ, Bool, true, false, List, [], ◌∷◌, refl, sym, ap, ◌∙◌, subst, append-nil, Option, Some, None}
use Rattle.std.specs.Prelude.{IfSome}
use Rattle.std.specs.List.{AllZip}
use Rattle.def_format.specs.Readings.{Ending, Open, Ended, Failed}
use Rattle.def_judgement.specs.Judgements.{RawStream, ended_stream, ended_streams}
use Rattle.def_judgement.specs.Writes.{IsGivenAs, IsGivenBy, IsKnownAs, Source, whole_source}

-- a source that is known whole gave all its bytes, to its end
pub known_given : (source : Source) (bytes : List ℕ) (given : RawStream) → IsKnownAs source bytes
    → IsGivenAs source given → given ≡ ended_stream bytes
known_given source bytes given known is =
    let here : IsGivenAs (whole_source bytes) given = subst (λ (s : Source). IsGivenAs s given) known is in
    let ended : given.ending ≡ Ended = here.ends refl in
    let whole : given.bytes ≡ bytes = here.given_by.whole ended in
    λ i. record { ending = ended i; bytes = whole i }

-- what is known whole is given whole
pub given_whole : (inputs : List Source) (known : List (List ℕ)) (streams : List RawStream)
    → AllZip IsKnownAs inputs known → AllZip IsGivenAs inputs streams → streams ≡ ended_streams known
given_whole [] [] [] are given = refl
given_whole [] [] (s ∷ streams) are given = absurd given
given_whole [] (b ∷ known) streams are given = absurd are
given_whole (x ∷ inputs) [] streams are given = absurd are
given_whole (x ∷ inputs) (b ∷ known) [] are given = absurd given
given_whole (x ∷ inputs) (b ∷ known) (s ∷ streams) are given =
    ap (λ (first : RawStream). first ∷ streams) (known_given x b s are.0 given.0)
    ∙ ap (λ (later : List RawStream). ended_stream b ∷ later) (given_whole inputs known streams are.1 given.1)

-- ---- all that a source has left

-- the bytes that are known, or else these
abbrev pub all_of : Option (List ℕ) → List ℕ → List ℕ
all_of None bytes = bytes
all_of (Some known) bytes = known

-- where the bytes are known, these are they
pub all_given : (input : Option (List ℕ)) (bytes : List ℕ)
    → IfSome input (λ known. all_of input bytes ≡ known)
all_given None bytes = tt
all_given (Some known) bytes = refl

pub all_given_by : (input : Option (List ℕ)) (bytes : List ℕ) (ending : Ending) → (ending ≡ Open → ⊥)
    → IsGivenBy input (record { ending = ending; bytes = all_of input bytes })
all_given_by None bytes ending stopped = record { stopped = stopped; prefix = tt; whole = λ ended. tt }
all_given_by (Some known) bytes ending stopped =
    record { stopped = stopped; prefix = ([], sym (append-nil known)); whole = λ ended. refl }

-- ---- streams that nobody reads

-- how the stream of a source ends of which these bytes are known, and this of its reads
pub left_ending : Option (List ℕ) → Option Bool → Ending
left_ending bytes (Some true) = Failed
left_ending bytes (Some false) = Ended
left_ending (Some bytes) None = Ended
left_ending None None = Failed

-- what stands for a stream that isn't read: all that its source has left, if that is known
pub left_unread : Source → RawStream
left_unread source =
    record { ending = left_ending source.bytes source.fails; bytes = all_of source.bytes [] }

left_stopped : (bytes : Option (List ℕ)) (fails : Option Bool) → left_ending bytes fails ≡ Open → ⊥
unfolding left_ending
left_stopped bytes (Some true) e = cc
left_stopped bytes (Some false) e = cc
left_stopped (Some bytes) None e = cc
left_stopped None None e = cc

left_ends : (bytes : Option (List ℕ)) (fails : Option Bool) → fails ≡ Some false → left_ending bytes fails ≡ Ended
unfolding left_ending
left_ends bytes (Some true) e = cc
left_ends bytes (Some false) e = refl
left_ends bytes None e = cc

left_fails : (bytes : Option (List ℕ)) (fails : Option Bool) → fails ≡ Some true → left_ending bytes fails ≡ Failed
unfolding left_ending
left_fails bytes (Some true) e = refl
left_fails bytes (Some false) e = cc
left_fails bytes None e = cc

unread_given : (source : Source) → IsGivenAs source (left_unread source)
unfolding left_unread
unread_given source = record {
  given_by = all_given_by source.bytes [] (left_ending source.bytes source.fails)
      (left_stopped source.bytes source.fails);
  ends = left_ends source.bytes source.fails;
  fails = left_fails source.bytes source.fails;
  fails_after = λ e. all_given source.bytes [];
}

pub all_left_unread : List Source → List RawStream
all_left_unread [] = []
all_left_unread (source ∷ sources) = left_unread source ∷ all_left_unread sources

pub all_unread_given : (inputs : List Source) → AllZip IsGivenAs inputs (all_left_unread inputs)
unfolding all_left_unread
all_unread_given [] = tt
all_unread_given (input ∷ inputs) = (unread_given input, all_unread_given inputs)
