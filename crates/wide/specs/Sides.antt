-- A test that is an `or` of two.
use Rattle.std.specs.Prelude.{◌≡◌, ℕ, Bool, ◌||◌, List}

-- a cut satisfies the third test exactly if it satisfies the first or the second
abbrev pub IsEither : (one two test : List ℕ → Bool) → Type 0
IsEither one two test = (cut : List ℕ) → test cut ≡ (one cut || two cut)
