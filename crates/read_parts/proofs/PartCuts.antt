-- Lines and parts of bytes, one after another.
use Rattle.std.proofs.Common.{◌≡◌, ℕ, zero, suc, ◌+◌, ◌<◌, ◌≤◌, true, false, List, [], ◌∷◌, length, length-drop, get_or, take, drop, refl, sym, ap, ◌∙◌, append-nil, arith}
use Rattle.std.specs.Prelude.{◌==◌}
use Rattle.std.proofs.lemmas.List.{drop-drop, drop_all, take_all}
use Rattle.std.proofs.Math.Seq.{take-add, take-length}
use Rattle.def_format.specs.Bundles.{before_first, is_separator, onto_part, parts_of, parts_of_lines, whole_lines}
use Rattle.def_format.proofs.BundleParts.{onto_none, onto_twice}
use Rattle.def_format.proofs.FeedPlaces.{not_true}
use Rattle.read_parts.specs.Cuts.{IsFirstLine, IsFirstPart}

-- ---- the first line

-- an LF at this place, and none before it
pub ended_first : (xs : List ℕ) (k : ℕ) → k < length xs → ((j : ℕ) → j < k → (get_or xs j 0 == 10) ≡ true → ⊥)
    → (get_or xs k 0 == 10) ≡ true → whole_lines xs ≡ take (suc k) xs ∷ whole_lines (drop (suc k) xs)
ended_first [] k within none here = absurd (omega arith)
ended_first (x ∷ xs) zero within none here = rw here refl
ended_first (x ∷ xs) (suc k) within none here =
    rw (not_true (x == 10) (λ e. none 0 (omega arith) e))
    (ap (before_first x) (ended_first xs k (omega arith) (λ j below e. none (suc j) (omega arith) e) here))

-- no LF
pub unended_first : (x : ℕ) (xs : List ℕ) → ((j : ℕ) → j < length (x ∷ xs) → (get_or (x ∷ xs) j 0 == 10) ≡ true → ⊥)
    → whole_lines (x ∷ xs) ≡ (x ∷ xs) ∷ []
unended_first x [] none = rw (not_true (x == 10) (λ e. none 0 (omega arith) e)) refl
unended_first x (y ∷ xs) none =
    rw (not_true (x == 10) (λ e. none 0 (omega arith) e))
    (ap (before_first x) (unended_first y xs (λ j below e. none (suc j) (omega arith) e)))

pub one_line : (xs : List ℕ) → 0 < length xs → ((j : ℕ) → j < length xs → (get_or xs j 0 == 10) ≡ true → ⊥)
    → whole_lines xs ≡ take (length xs) xs ∷ whole_lines (drop (length xs) xs)
one_line [] some none = absurd (omega arith)
one_line (x ∷ xs) some none =
    rw (take-length (x ∷ xs), drop_all (length (x ∷ xs)) (x ∷ xs) (omega arith)) (unended_first x xs none)

-- ---- the first part

-- the lines so far are bytes of the first part
abbrev pub GoesOn : List ℕ → ℕ → Type 0
GoesOn bytes at = parts_of bytes ≡ onto_part (take at bytes) (parts_of (drop at bytes))

pub begins : (bytes : List ℕ) → GoesOn bytes 0
begins bytes = sym (onto_none (whole_lines bytes))

pub line_within : (bytes : List ℕ) (at count : ℕ) → at < length bytes → IsFirstLine (drop at bytes) count
    → at + count ≤ length bytes
line_within bytes at count below first = omega (arith, length-drop at bytes, first.within)

by_line : (line : List ℕ) (others : List (List ℕ)) → is_separator line ≡ false
    → parts_of_lines (line ∷ others) ≡ onto_part line (parts_of_lines others)
by_line line others other = rw other refl

by_separator : (line : List ℕ) (others : List (List ℕ)) → is_separator line ≡ true
    → parts_of_lines (line ∷ others) ≡ [] ∷ parts_of_lines others
by_separator line others is = rw is refl

-- a line that separates nothing is one of the part
pub line_on : (bytes : List ℕ) (at count : ℕ) → GoesOn bytes at → IsFirstLine (drop at bytes) count
    → is_separator (take count (drop at bytes)) ≡ false → GoesOn bytes (at + count)
line_on bytes at count goes first other =
    rw (take-add at count bytes, ← drop-drop count at bytes) (goes
    ∙ ap (λ lines. onto_part (take at bytes) (parts_of_lines lines)) first.lines
    ∙ ap (onto_part (take at bytes))
    (by_line (take count (drop at bytes)) (whole_lines (drop count (drop at bytes))) other)
    ∙ sym (onto_twice (take at bytes) (take count (drop at bytes)) (parts_of (drop count (drop at bytes)))))

-- a separator ends the part
pub ends_part : (bytes : List ℕ) (at count : ℕ) → at < length bytes → GoesOn bytes at
    → IsFirstLine (drop at bytes) count → is_separator (take count (drop at bytes)) ≡ true
    → IsFirstPart bytes at (at + count)
ends_part bytes at count below goes first is = record {
  before = omega (arith, first.some);
  within = line_within bytes at count below first;
  parts = rw (← drop-drop count at bytes) (goes
      ∙ ap (λ lines. onto_part (take at bytes) (parts_of_lines lines)) first.lines
      ∙ ap (onto_part (take at bytes))
      (by_separator (take count (drop at bytes)) (whole_lines (drop count (drop at bytes))) is)
      ∙ ap (λ part. part ∷ parts_of (drop count (drop at bytes))) (append-nil (take at bytes)));
}

-- no line is left
pub one_part : (bytes : List ℕ) (at : ℕ) → length bytes ≤ at → GoesOn bytes at → parts_of bytes ≡ bytes ∷ []
one_part bytes at all goes =
    goes ∙ rw (take_all at bytes all, drop_all at bytes all) (ap (λ part. part ∷ []) (append-nil bytes))
