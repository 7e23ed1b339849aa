-- Names, and the processes and variables of a session.
use Rattle.std.specs.Prelude.{◌≢◌, ℕ, Bool, false, not, ◌&&◌, ◌||◌, ◌==◌, nat_le, List, [], ◌∷◌, length, All, AllPairs, codes, Option, None, Some, option_map, position, slice_get, unwrap_or}
use Rattle.std.specs.Str.{bytes_eq}
use Rattle.std.specs.List.{list_all}
use Rattle.def_format.specs.Lists.{is_one_of}
use Rattle.def_format.specs.Limits.{name_byte_limit}

abbrev pub is_digit : ℕ → Bool
is_digit byte = nat_le 48 byte && nat_le byte 57

-- a letter or `_`
abbrev pub is_letter : ℕ → Bool
is_letter byte = nat_le 97 byte && nat_le byte 122 || (nat_le 65 byte && nat_le byte 90) || byte == 95

abbrev pub is_in_word : ℕ → Bool
is_in_word byte = is_letter byte || is_digit byte

-- a word begins with a letter, and goes on with letters and digits
abbrev pub is_word : List ℕ → Bool
is_word [] = false
is_word (byte ∷ rest) = is_letter byte && list_all is_in_word rest

-- the words that are never names
abbrev pub is_keyword : List ℕ → Bool
is_keyword word = is_one_of (codes "and" ∷ codes "or" ∷ codes "not" ∷ codes "true" ∷ codes "false" ∷ []) word

abbrev pub is_name : List ℕ → Bool
is_name bytes = is_word bytes && nat_le (length bytes) name_byte_limit && not (is_keyword bytes)

-- a process and its variables, which stand in byte order
pub record ProcessNames : Type 0 where
  pub name : List ℕ
  pub vars : List (List ℕ)

-- no two processes have one name, and no two variables of a process
pub record AreDistinct (names : List ProcessNames) : Type 0 where
  pub processes : AllPairs (λ (x y : ProcessNames). x.name ≢ y.name) names
  pub variables : All (λ (process : ProcessNames). AllPairs (λ (x y : List ℕ). x ≢ y) process.vars) names

-- the number of the process of this name, from 0
abbrev pub process_named : List ProcessNames → List ℕ → Option ℕ
process_named names name = position (λ (process : ProcessNames). bytes_eq process.name name) names

abbrev pub vars_or_none : Option ProcessNames → List (List ℕ)
vars_or_none None = []
vars_or_none (Some process) = process.vars

abbrev pub vars_of : List ProcessNames → ℕ → List (List ℕ)
vars_of names process = vars_or_none (slice_get names process)

-- the number of the process's variable of this name, from 0
abbrev pub var_named : List ProcessNames → ℕ → List ℕ → Option ℕ
var_named names process name = position (λ var. bytes_eq var name) (vars_of names process)

-- the name of a process, given by its number
abbrev pub name_of_process : List ProcessNames → ℕ → List ℕ
name_of_process names p = unwrap_or (option_map (λ (process : ProcessNames). process.name) (slice_get names p)) []
