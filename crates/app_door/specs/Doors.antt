-- Who is let in by what it sends first, and which processes have a stream.
use Rattle.std.specs.Prelude.{◌≡◌, ◌⊎◌, ℕ, List, [], ◌∷◌, ◌++◌, Option, Some, None, Vec, Contains, drop, option_map, false, slice_index_or, true}
use Rattle.std.specs.Io.KnownBytes.{Consumes, IsAtEnd}
use Rattle.std.specs.Global.{Global}
use Rattle.app_text.specs.Lines.{without_cr}
use Rattle.def_format.specs.Lines.{all_lines, has_line_feed, line_feed}
use Rattle.def_format.specs.Names.{ProcessNames}
use Rattle.def_format.specs.Readings.{Open, reading}
use Rattle.def_format.specs.ReadingLaws.{process_of}
use Rattle.app_door.specs.declared.place_connection.PlaceConnection.{PlaceConnection}

-- the process that a stream has joined of which these bytes have come, counted from 0, if it has joined one
abbrev pub joined_by : List ProcessNames → List ℕ → Option ℕ
joined_by names bytes = process_of (reading names Open bytes).joined

-- whether a line is the token, with a carriage return at its end or without
abbrev pub IsToken : List ℕ → List ℕ → Type 0
IsToken token line = (line ≡ token) ⊎ (without_cr line ≡ token)

-- whether bytes begin with a line that is the token, after which these come
abbrev pub IsAfterToken : (token start bytes : List ℕ) → Type 0
IsAfterToken token start bytes = (line : List ℕ) × (bytes ≡ line ++ line_feed ∷ start) × (has_line_feed line ≡ false)
    × IsToken token line

-- whether a stream that begins so has begun in these bytes: after the token, if there is one
abbrev pub IsStart : Option (List ℕ) → (start bytes : List ℕ) → Type 0
IsStart None start bytes = start ≡ bytes
IsStart (Some token) start bytes = IsAfterToken token start bytes

-- The token that is read of a file is the first line of what is read of it, without a carriage return at its end; and
-- that line is whole, or the file has ended.
pub record IsTokenRead (before after : Option (List ℕ)) (token : List ℕ) : Type 0 where
  pub bytes : List ℕ
  pub are_read : Consumes before after bytes
  pub is_first : token ≡ without_cr (slice_index_or (all_lines bytes) 0 [])
  pub is_whole : (has_line_feed bytes ≡ true) ⊎ IsAtEnd after

abbrev pub token_view : Option (Vec ℕ Global) → Option (List ℕ)
token_view token = option_map (λ (bytes : Vec ℕ Global). bytes.items) token

abbrev pub bytes_of : Option (Vec ℕ Global) → List ℕ
bytes_of None = []
bytes_of (Some taken) = taken.items

-- all that has come of a connection since it was accepted
abbrev pub received : {S : Type 0} → PlaceConnection S → List ℕ
received connection = bytes_of connection.taken

-- what of it wasn't read yet
abbrev pub unread : {S : Type 0} → PlaceConnection S → List ℕ
unread connection = drop connection.read (bytes_of connection.taken)

-- A connection is the stream of this process if what it has sent begins with the token, if there is one, and then joins
-- the process; and nothing but what comes after the token is read later.
pub record IsStreamOf {S : Type 0} (names : List ProcessNames) (token : Option (List ℕ)) (process : ℕ)
    (connection : PlaceConnection S) : Type 0 where
  pub started : IsStart token (unread connection) (received connection)
  pub joins : joined_by names (unread connection) ≡ Some process

-- It is let in if that process isn't among those that have a stream before, and is the one more that has one after.
pub record IsLetIn {S : Type 0} (names : List ProcessNames) (token : Option (List ℕ)) (before after : List ℕ)
    (connection : PlaceConnection S) : Type 0 where
  pub process : ℕ
  pub is_stream : IsStreamOf names token process connection
  pub is_first : ¬ (Contains before process)
  pub has_stream : after ≡ before ++ process ∷ []
