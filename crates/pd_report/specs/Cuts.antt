-- Bytes that are cut at one of them.
use Rattle.std.specs.Prelude.{◌≡◌, ◌==◌, ℕ, List, ◌∷◌, ◌++◌, not, true}
use Rattle.std.specs.List.{list_all}

-- the byte doesn't stand in these
abbrev pub Lacks : ℕ → List ℕ → Type 0
Lacks at bytes = list_all (λ byte. not (byte == at)) bytes ≡ true

-- the bytes are cut at the first such byte
abbrev pub IsCut : ℕ → (bytes before after : List ℕ) → Type 0
IsCut at bytes before after = Lacks at before × (bytes ≡ before ++ at ∷ after)
