-- The lines of bytes, each with its LF, are those that an LF ends, and the rest.
use Rattle.std.proofs.Common.{◌≡◌, ℕ, Bool, true, false, List, [], ◌∷◌, ◌++◌, map, refl, ap, ◌∙◌}
use Rattle.std.specs.Prelude.{◌==◌}
use Rattle.std.proofs.lemmas.Bool.{eqb-true}
use Rattle.def_format.specs.Bundles.{before_first, whole_lines}
use Rattle.def_format.specs.Lines.{as_line, ended_lines, has_line_feed, line_feed, unended_line}
use Rattle.def_format.proofs.LineFacts.{no_ended_lines, unended-no_feed}
use Rattle.read_items.specs.Items.{with_line_feed}

some_ended : (bytes : List ℕ) → has_line_feed bytes ≡ true → (first : List ℕ) × (others : List (List ℕ))
    × (ended_lines bytes ≡ first ∷ others)
some_ended [] has = absurd (cc)
some_ended (x ∷ rest) has = go (some_ended rest) (x == line_feed) refl
  where
    go : (has_line_feed rest ≡ true → (first : List ℕ) × (others : List (List ℕ)) × (ended_lines rest ≡ first ∷ others))
        → (b : Bool) → (x == line_feed) ≡ b → (first : List ℕ) × (others : List (List ℕ))
        × (ended_lines (x ∷ rest) ≡ first ∷ others)
    go ih true e = ([], ended_lines rest, rw e refl)
    go ih false e =
        let found = ih (rw e at has) in
        (x ∷ found.0, found.1, rw (e, found.2) refl)

-- the rest holds no LF
pub rest_without : (bytes : List ℕ) → has_line_feed (unended_line bytes) ≡ false
rest_without [] = refl
rest_without (x ∷ rest) = go (rest_without rest) (has_line_feed (x ∷ rest)) refl
  where
    go : has_line_feed (unended_line rest) ≡ false → (h : Bool) → has_line_feed (x ∷ rest) ≡ h
        → has_line_feed (unended_line (x ∷ rest)) ≡ false
    go ih true e = rw e ih
    go ih false e = rw e e

before_line : (byte : ℕ) (rest : List ℕ) → before_first byte (as_line rest) ≡ (byte ∷ rest) ∷ []
before_line byte [] = refl
before_line byte (x ∷ rest) = refl

pub by_feeds : (bytes : List ℕ)
    → whole_lines bytes ≡ map with_line_feed (ended_lines bytes) ++ as_line (unended_line bytes)
by_feeds [] = refl
by_feeds (x ∷ rest) = go (by_feeds rest) (x == line_feed) (has_line_feed rest) refl refl
  where
    go : whole_lines rest ≡ map with_line_feed (ended_lines rest) ++ as_line (unended_line rest) → (b h : Bool)
        → (x == line_feed) ≡ b → has_line_feed rest ≡ h
        → whole_lines (x ∷ rest) ≡ map with_line_feed (ended_lines (x ∷ rest)) ++ as_line (unended_line (x ∷ rest))
    go ih true h e f =
        let feed : x ≡ 10 = eqb-true x 10 e in
        rw e (ap (λ lines. (x ∷ []) ∷ lines) ih ∙ ap (λ (byte : ℕ). (byte ∷ []) ∷ (map with_line_feed (ended_lines rest)
        ++ as_line (unended_line rest))) feed)
    go ih false true e f =
        let found = some_ended rest f in
        let lines : whole_lines rest ≡ with_line_feed found.0 ∷ (map with_line_feed found.1
        ++ as_line (unended_line rest)) =
        ih ∙ ap (λ ended. map with_line_feed ended ++ as_line (unended_line rest)) found.2 in
        rw (e, f, found.2) (ap (before_first x) lines)
    go ih false false e f =
        let lines : whole_lines rest ≡ as_line rest =
        ih ∙ rw (no_ended_lines rest f, unended-no_feed rest f) refl in
        rw (e, f, no_ended_lines rest f) (ap (before_first x) lines ∙ before_line x rest)
