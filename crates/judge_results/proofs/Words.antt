-- The first of words.
use Rattle.std.proofs.Common.{◌≡◌, ℕ, List, [], ◌∷◌, take, sym, ap}
use Rattle.judge_results.specs.Results.{first_word}

pub first_of : (words : List (List ℕ)) (word : List ℕ) → take 1 words ≡ word ∷ [] → word ≡ first_word words
first_of [] word is = sym (ap first_word is)
first_of (first ∷ words) word is = sym (ap first_word is)
