-- Parts of bytes that come in pieces.
use Rattle.std.proofs.Common.{◌≡◌, ℕ, zero, suc, ◌+◌, ◌<◌, ◌≤◌, Bool, true, false, List, [], ◌∷◌, ◌++◌, length, length-drop, get_or, take, drop, refl, sym, ap, ◌∙◌, arith}
use Rattle.std.specs.Prelude.{◌==◌}
use Rattle.std.specs.Bool.{OnFalse}
use Rattle.std.specs.List.{list_any}
use Rattle.std.proofs.lemmas.List.{drop-drop, take-append-drop, take_all}
use Rattle.std.proofs.Math.Seq.{take-add}
use Rattle.def_format.specs.Bundles.{before_first, is_separator, onto_part, parts_of, parts_of_lines, whole_lines}
use Rattle.def_format.proofs.BundleParts.{onto_none, onto_nothing, onto_twice}
use Rattle.read_bundle.specs.Cutting.{EndsLine, IsCut, IsInLine, IsNoSeparator, IsRun, line_marks, parts_from, parts_in_line, parts_of_line}
use Rattle.read_bundle.specs.declared.cutter.Cutting.TheVariants.{Part}
use Rattle.read_bundle.specs.declared.cutter.Cutter.{Cutter}
use Rattle.read_bundle.specs.declared.cutter.Cutter.TheVariants.{Held, Inside}

not_true : (b : Bool) → (b ≡ true → ⊥) → b ≡ false
not_true true h = absurd (h refl)
not_true false h = refl

-- ---- bytes onto a part

pub onto_none_line : (lines : List (List ℕ)) → onto_part [] (parts_of_line lines) ≡ parts_of_line lines
onto_none_line [] = refl
onto_none_line (line ∷ lines) = onto_nothing line (parts_of_lines lines)

-- ---- bytes of one line

before_line : (byte : ℕ) (lines : List (List ℕ))
    → parts_of_line (before_first byte lines) ≡ onto_part (byte ∷ []) (parts_of_line lines)
before_line byte [] = refl
before_line byte (line ∷ lines) = onto_twice (byte ∷ []) line (parts_of_lines lines)

-- a byte of a line
pub byte_in_line : (byte : ℕ) (rest : List ℕ) → (byte == 10) ≡ false
    → parts_in_line (byte ∷ rest) ≡ onto_part (byte ∷ []) (parts_in_line rest)
byte_in_line byte rest other = rw other (before_line byte (whole_lines rest))

-- the byte that ends a line
pub feed_in_line : (byte : ℕ) (rest : List ℕ) → (byte == 10) ≡ true
    → parts_in_line (byte ∷ rest) ≡ onto_part (byte ∷ []) (parts_of rest)
feed_in_line byte rest feed = rw feed refl

pub in_line : (xs : List ℕ) → ((j : ℕ) → j < length xs → (get_or xs j 0 == 10) ≡ true → ⊥) → (rest : List ℕ)
    → parts_in_line (xs ++ rest) ≡ onto_part xs (parts_in_line rest)
in_line [] none rest = sym (onto_none_line (whole_lines rest))
in_line (x ∷ xs) none rest =
    byte_in_line x (xs ++ rest) (not_true (x == 10) (λ e. none 0 (omega arith) e))
    ∙ ap (onto_part (x ∷ [])) (in_line xs (λ j below e. none (suc j) (omega arith) e) rest)
    ∙ sym (onto_twice (x ∷ []) xs (parts_in_line rest))

pub ends_line : (xs : List ℕ) (k : ℕ) → k < length xs → ((j : ℕ) → j < k → (get_or xs j 0 == 10) ≡ true → ⊥)
    → (get_or xs k 0 == 10) ≡ true → (rest : List ℕ)
    → parts_in_line (xs ++ rest) ≡ onto_part (take (suc k) xs) (parts_of (drop (suc k) xs ++ rest))
ends_line [] k within none here rest = absurd (omega arith)
ends_line (x ∷ xs) zero within none here rest = feed_in_line x (xs ++ rest) here
ends_line (x ∷ xs) (suc k) within none here rest =
    byte_in_line x (xs ++ rest) (not_true (x == 10) (λ e. none 0 (omega arith) e))
    ∙ ap (onto_part (x ∷ [])) (ends_line xs k (omega arith) (λ j below e. none (suc j) (omega arith) e) here rest)
    ∙ sym (onto_twice (x ∷ []) (take (suc k) xs) (parts_of (drop (suc k) xs ++ rest)))

-- ---- lines that are no separators

-- the first line, if there are bytes
first_line : (byte : ℕ) (rest : List ℕ) → (byte == 10) ≡ false
    → (line : List ℕ) × (others : List (List ℕ)) × (whole_lines (byte ∷ rest) ≡ (byte ∷ line) ∷ others)
first_line byte rest other = go (whole_lines rest) refl where
  go : (lines : List (List ℕ)) → whole_lines rest ≡ lines
      → (line : List ℕ) × (others : List (List ℕ)) × (whole_lines (byte ∷ rest) ≡ (byte ∷ line) ∷ others)
  go [] e = ([], [], rw (other, e) refl)
  go (line ∷ others) e = (line, others, rw (other, e) refl)

-- the parts of lines of which the first is no separator
no_separator : (bytes line : List ℕ) (others : List (List ℕ)) → whole_lines bytes ≡ line ∷ others
    → is_separator line ≡ false → parts_of bytes ≡ parts_in_line bytes
no_separator bytes line others first other = rw (first, other) refl

-- ---- the run of a piece in a line

-- how the parts of a piece in a line go on after some bytes of it
abbrev pub GoesOn : List ℕ → ℕ → Type 0
GoesOn piece at =
    (rest : List ℕ) → parts_in_line (piece ++ rest) ≡ onto_part (take at piece) (parts_in_line (drop at piece ++ rest))

pub begins : (piece rest : List ℕ) → parts_in_line (piece ++ rest) ≡ onto_part [] (parts_in_line (piece ++ rest))
begins piece rest = sym (onto_none_line (whole_lines (piece ++ rest)))

-- the line that goes on there ends
pub next_line : (piece : List ℕ) (at end : ℕ) → GoesOn piece at → EndsLine (drop at piece) end → (rest : List ℕ)
    → parts_in_line (piece ++ rest) ≡ onto_part (take (at + end) piece) (parts_of (drop (at + end) piece ++ rest))
next_line piece at end goes ends rest =
    rw (take-add at end piece, ← drop-drop end at piece) (
    goes rest ∙ ap (onto_part (take at piece)) (ends.parts rest)
    ∙ sym (onto_twice (take at piece) (take end (drop at piece)) (parts_of (drop end (drop at piece) ++ rest))))

-- the line that begins after it is no separator
pub next_run : (piece : List ℕ) (at end : ℕ) → GoesOn piece at → EndsLine (drop at piece) end
    → IsNoSeparator (drop (at + end) piece) → GoesOn piece (at + end)
next_run piece at end goes ends other = λ rest.
    next_line piece at end goes ends rest ∙ ap (onto_part (take (at + end) piece)) (other rest)

pub end_within : (piece : List ℕ) (at end : ℕ) → at < length piece → EndsLine (drop at piece) end
    → at + end ≤ length piece
end_within piece at end below ends = omega (arith, length-drop at piece, ends.within)

-- the line goes on to the end of the piece
pub last_line : (piece : List ℕ) (at : ℕ) → GoesOn piece at → IsInLine (drop at piece) → (rest : List ℕ)
    → parts_in_line (piece ++ rest) ≡ onto_part piece (parts_in_line rest)
last_line piece at goes line rest =
    goes rest ∙ ap (onto_part (take at piece)) (line rest)
    ∙ sym (onto_twice (take at piece) (drop at piece) (parts_in_line rest))
    ∙ ap (λ all. onto_part all (parts_in_line rest)) (take-append-drop at piece)

-- ---- bytes that were held back, and a byte that makes them no separator

in_line_of : (xs : List ℕ) → list_any (λ byte. byte == 10) xs ≡ false → (rest : List ℕ)
    → parts_in_line (xs ++ rest) ≡ onto_part xs (parts_in_line rest)
in_line_of [] none rest = sym (onto_none_line (whole_lines rest))
in_line_of (x ∷ xs) none rest = go (x == 10) refl (λ later. in_line_of xs later rest) where
  go : (b : Bool) → (x == 10) ≡ b
      → (list_any (λ byte. byte == 10) xs ≡ false → parts_in_line (xs ++ rest) ≡ onto_part xs (parts_in_line rest))
      → parts_in_line ((x ∷ xs) ++ rest) ≡ onto_part (x ∷ xs) (parts_in_line rest)
  go true e ih = let no = rw e at none in absurd (cc)
  go false e ih = byte_in_line x (xs ++ rest) e ∙ ap (onto_part (x ∷ [])) (ih (rw e at none))
      ∙ sym (onto_twice (x ∷ []) xs (parts_in_line rest))

-- the parts after bytes that were held back, if they begin no separator
abbrev pub AreNoSeparator : ℕ → ℕ → Type 0
AreNoSeparator held byte =
    (rest : List ℕ) → parts_of (take held line_marks ++ byte ∷ rest)
    ≡ onto_part (take held line_marks) (parts_in_line (byte ∷ rest))

pub no_mark_0 : (byte : ℕ) → (byte == 45) ≡ false → AreNoSeparator 0 byte
no_mark_0 byte other rest = go (byte == 10) refl where
  go : (b : Bool) → (byte == 10) ≡ b → parts_of (byte ∷ rest) ≡ onto_part [] (parts_in_line (byte ∷ rest))
  go true e = no_separator (byte ∷ rest) (byte ∷ []) (whole_lines rest) (rw e refl) (rw other refl)
      ∙ in_line_of [] refl (byte ∷ rest)
  go false e =
      let first = first_line byte rest e in
      no_separator (byte ∷ rest) (byte ∷ first.0) first.1 first.2 (rw other refl) ∙ in_line_of [] refl (byte ∷ rest)

pub no_mark_1 : (byte : ℕ) → (byte == 45) ≡ false → AreNoSeparator 1 byte
no_mark_1 byte other rest = go (byte == 10) refl where
  go : (b : Bool) → (byte == 10) ≡ b
      → parts_of (45 ∷ byte ∷ rest) ≡ onto_part (45 ∷ []) (parts_in_line (byte ∷ rest))
  go true e = no_separator (45 ∷ byte ∷ rest) (45 ∷ byte ∷ []) (whole_lines rest) (rw e refl) (rw other refl)
      ∙ in_line_of (45 ∷ []) refl (byte ∷ rest)
  go false e =
      let first = first_line byte rest e in
      no_separator (45 ∷ byte ∷ rest) (45 ∷ byte ∷ first.0) first.1 (ap (before_first 45) first.2) (rw other refl)
      ∙ in_line_of (45 ∷ []) refl (byte ∷ rest)

pub no_mark_2 : (byte : ℕ) → (byte == 45) ≡ false → AreNoSeparator 2 byte
no_mark_2 byte other rest = go (byte == 10) refl where
  go : (b : Bool) → (byte == 10) ≡ b
      → parts_of (45 ∷ 45 ∷ byte ∷ rest) ≡ onto_part (45 ∷ 45 ∷ []) (parts_in_line (byte ∷ rest))
  go true e = no_separator (45 ∷ 45 ∷ byte ∷ rest) (45 ∷ 45 ∷ byte ∷ []) (whole_lines rest) (rw e refl) (rw other refl)
      ∙ in_line_of (45 ∷ 45 ∷ []) refl (byte ∷ rest)
  go false e =
      let first = first_line byte rest e in
      no_separator (45 ∷ 45 ∷ byte ∷ rest) (45 ∷ 45 ∷ byte ∷ first.0) first.1
      (ap (λ lines. before_first 45 (before_first 45 lines)) first.2) (rw other refl)
      ∙ in_line_of (45 ∷ 45 ∷ []) refl (byte ∷ rest)

pub no_mark_3 : (byte : ℕ) → (byte == 13) ≡ false → (byte == 10) ≡ false → AreNoSeparator 3 byte
no_mark_3 byte other e rest =
    let first = first_line byte rest e in
    no_separator (45 ∷ 45 ∷ 45 ∷ byte ∷ rest) (45 ∷ 45 ∷ 45 ∷ byte ∷ first.0) first.1
    (ap (λ lines. before_first 45 (before_first 45 (before_first 45 lines))) first.2) (rw (other, e) refl)
    ∙ in_line_of (45 ∷ 45 ∷ 45 ∷ []) refl (byte ∷ rest)

no_mark : (byte : ℕ) → (byte == 10) ≡ false → (rest : List ℕ)
    → parts_of (line_marks ++ byte ∷ rest) ≡ onto_part line_marks (parts_in_line (byte ∷ rest))
no_mark byte e rest =
    let first = first_line byte rest e in
    no_separator (line_marks ++ byte ∷ rest) (line_marks ++ byte ∷ first.0) first.1
    (ap (λ lines. before_first 45 (before_first 45 (before_first 45 (before_first 13 lines)))) first.2) (rw e refl)
    ∙ in_line_of line_marks refl (byte ∷ rest)

pub no_mark_4 : (held byte : ℕ) → 4 ≤ held → (byte == 10) ≡ false → AreNoSeparator held byte
no_mark_4 held byte many e rest = rw (take_all held line_marks many) (no_mark byte e rest)

pub no_dash : (byte : ℕ) → (byte == 45) ≡ false → (held : ℕ) → held < 3 → AreNoSeparator held byte
no_dash byte other zero few = no_mark_0 byte other
no_dash byte other (suc zero) few = no_mark_1 byte other
no_dash byte other (suc (suc zero)) few = no_mark_2 byte other
no_dash byte other (suc (suc (suc k))) few = absurd (omega arith)

pub unless_dash : (held byte : ℕ) → held < 3 → (b : Bool) → (byte == 45) ≡ b
    → OnFalse b ((3 ≤ held → byte ≡ 10 → ⊥) → AreNoSeparator held byte)
unless_dash held byte few true e = tt
unless_dash held byte few false e = λ none. no_dash byte e held few

-- a piece of which the first byte makes what was held back no separator
pub cut_line : (piece : List ℕ) (held count : ℕ) (after : Cutter) → 0 < length piece
    → AreNoSeparator held (get_or piece 0 0) → IsRun piece count after
    → IsCut (Held held) after piece (Part held count)
cut_line [] held count after some other run = absurd (omega arith)
cut_line (byte ∷ bytes) held count after some other run = record {
  some = run.some;
  within = run.within;
  parts = λ rest. other (bytes ++ rest) ∙ ap (onto_part (take held line_marks)) (run.parts rest)
      ∙ sym (onto_twice (take held line_marks) (take count (byte ∷ bytes))
      (parts_from after (drop count (byte ∷ bytes) ++ rest)));
}

-- there is a part wherever the next byte stands
pub onto_none_from : (cutter : Cutter) (bytes : List ℕ)
    → onto_part [] (parts_from cutter bytes) ≡ parts_from cutter bytes
onto_none_from (Held count) bytes = onto_none (whole_lines (take count line_marks ++ bytes))
onto_none_from Inside bytes = onto_none_line (whole_lines bytes)
