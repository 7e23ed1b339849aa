-- What is read of the parts of a bundle.
use Rattle.std.specs.Prelude.{◌≡◌, ◌<◌, ◌≤◌, ℕ, Bool, List, [], ◌∷◌, ◌++◌, length}
use Rattle.def_format.specs.Limits.{document_byte_limit}
use Rattle.def_format.specs.Names.{ProcessNames}
use Rattle.def_format.specs.Readings.{Ended}
use Rattle.def_format.specs.Sessions.{StreamResult}
use Rattle.pd_gather.specs.ReadStreams.{ComesTo}
use Rattle.def_judgement.specs.Judgements.{IsResultOf, ended_streams}
use Rattle.def_judgement.specs.Writes.{Source}
use Rattle.read_bundle.specs.Steps.{AreParts, Goes, HasCut, HasParts, State}
use Rattle.read_bundle.specs.declared.next.Next.{Next}

-- The part goes on, or has ended, from where another part had begun; and this holds of its bytes before the last step.
pub record AtStep (P : List ℕ → Type 0) (begin left : Source) (first state : State) (next : Next) : Type 0
  where
    pub part : List ℕ
    pub holds_so_far : P part
    pub goes : (input : Source) (closed : List (List ℕ)) → HasCut input begin closed [] first
        → Goes next input left closed part state

-- a part of which this holds was read, after which another one begins or not
pub record HasReadPart (P : List ℕ → Type 0) (begin left : Source) (first state : State) (begins : Bool) :
    Type 0 where
  pub part : List ℕ
  pub right : P part
  pub goes : (input : Source) (closed : List (List ℕ)) → HasCut input begin closed [] first
      → HasParts begins input left (closed ++ part ∷ []) state

-- the bytes that are kept of a document: all, or more than a document may have
pub record IsKept (kept part : List ℕ) : Type 0 where
  pub same : length kept ≤ document_byte_limit → kept ≡ part
  pub long : document_byte_limit < length kept → document_byte_limit < length part

-- the result is that of these bytes to their end
abbrev pub IsResultOfPart : List ProcessNames → StreamResult → List ℕ → Type 0
IsResultOfPart names result part = IsResultOf names (record { ending = Ended; bytes = part }) result

-- the other parts of the bundle, which come to this many streams with these results
pub record AreStreams (names : List ProcessNames) (count : ℕ) (results : List StreamResult) (input : Source)
    (closed : List (List ℕ)) : Type 0 where
  pub streams : List (List ℕ)
  pub comes : ComesTo names (ended_streams streams) count results
  pub are_parts : AreParts input (closed ++ streams)

-- all other parts were read
abbrev pub HasReadStreams : List ProcessNames → (begin : Source) → State → Bool → ℕ → List StreamResult
    → Type 0
HasReadStreams names begin first begins count results =
    (input : Source) (closed : List (List ℕ)) → HasParts begins input begin closed first
    → AreStreams names count results input closed
