-- What is asked as `NAME=TEXT`.
use Rattle.std.specs.Prelude.{◌≡◌, ℕ, true, false, List, codes, Option, MatchOption}
use Rattle.std.specs.Borrow.{Bor}
use Rattle.serde_json.specs.Data.{Data, string, object, no_members, member}
use Rattle.def_format.specs.Documents.{asked_name, asked_text, has_own_name}

-- a predicate of this name and this text, as a document has it
abbrev pub named_text : List ℕ → List ℕ → Data
named_text name text =
    object (member (codes "name") (string name) (member (codes "text") (string text) no_members))

-- what is asked is given apart exactly if it has a name of its own, whatever its number
abbrev pub IsOwnName : List ℕ → Option (Bor (List ℕ) × Bor (List ℕ)) → Type 0
IsOwnName asked found =
    MatchOption found (has_own_name asked ≡ false) (λ parts. (has_own_name asked ≡ true)
    × ((number : ℕ) → asked_name number asked ≡ parts.0.now)
    × (asked_text asked ≡ parts.1.now))
