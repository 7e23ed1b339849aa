-- How a bundle is cut into its parts, line by line.
use Rattle.std.proofs.Common.{◌≡◌, ℕ, suc, ◌+◌, ◌-◌, ◌<◌, ◌≤◌, true, false, List, [], ◌∷◌, ◌++◌, length, take, drop, map, string_bytes, refl, sym, ◌∙◌, ap, length-append, length-drop, arith}
use Rattle.std.specs.Prelude.{◌==◌}
use Rattle.std.proofs.lemmas.List.{append-nil, map-append, drop-drop, drop_at, take_at, take_all, take_rest}
use Rattle.std.proofs.Math.Seq.{append_snoc, take-add}
use Rattle.def_format.specs.Bundles.{is_separator, onto_part, parts_of, parts_of_lines, whole_lines}
use Rattle.def_format.specs.Lines.{has_line_feed}
use Rattle.def_format.proofs.LineFacts.{or_false}
use Rattle.def_format.proofs.BundleParts.{onto_none, onto_twice}
use Rattle.app_ends.specs.Parts.{ArePartsOf, IsLineLength, IsPart, lines_before, part_name, part_names}
use Rattle.app_ends.specs.declared.seen_parts.Part.{Part}

-- ---- the first line

-- a line that a line feed ends
whole_lines-cut : (first after : List ℕ) → has_line_feed first ≡ false
    → whole_lines (first ++ 10 ∷ after) ≡ (first ++ 10 ∷ []) ∷ whole_lines after
whole_lines-cut [] after h = refl
whole_lines-cut (x ∷ first) after h =
    let both = or_false (x == 10) (has_line_feed first) h in
    rw (both.0, whole_lines-cut first after both.1) refl

-- the last line, which no line feed ends
whole_lines-last : (x : ℕ) (bytes : List ℕ) → has_line_feed (x ∷ bytes) ≡ false
    → whole_lines (x ∷ bytes) ≡ (x ∷ bytes) ∷ []
whole_lines-last x [] h = let both = or_false (x == 10) false h in rw both.0 refl
whole_lines-last x (y ∷ bytes) h =
    let both = or_false (x == 10) (has_line_feed (y ∷ bytes)) h in
    rw (both.0, whole_lines-last y bytes both.1) refl

pub length_with_feed : (bytes first after : List ℕ) → (bytes ≡ first ++ 10 ∷ after) × (has_line_feed first ≡ false)
    → IsLineLength bytes (length bytes - length after)
length_with_feed bytes first after cut =
    let long : length bytes ≡ length first + suc (length after) =
    ap length cut.0 ∙ length-append first (10 ∷ after) in
    let count : length (first ++ 10 ∷ []) ≡ length bytes - length after =
    length-append first (10 ∷ []) ∙ omega (arith, long) in
    let whole : bytes ≡ (first ++ 10 ∷ []) ++ after = cut.0 ∙ sym (append_snoc first 10 after) in
    let lines : whole_lines bytes ≡ (first ++ 10 ∷ []) ∷ whole_lines after =
    ap whole_lines cut.0 ∙ whole_lines-cut first after cut.1 in
    let taken : take (length bytes - length after) bytes ≡ first ++ 10 ∷ [] =
    ap (take (length bytes - length after)) whole ∙ take_at (first ++ 10 ∷ []) after _ count in
    let left : drop (length bytes - length after) bytes ≡ after =
    ap (drop (length bytes - length after)) whole ∙ drop_at (first ++ 10 ∷ []) after _ count in
    record {
      some = omega (arith, long);
      fits = omega (arith, long);
      cut = rw (taken, left) lines;
    }

pub length_without_feed : (bytes : List ℕ) → 0 < length bytes → has_line_feed bytes ≡ false
    → IsLineLength bytes (length bytes)
length_without_feed [] some h = absurd (omega (arith, some))
length_without_feed (x ∷ bytes) some h =
    let taken : take (length (x ∷ bytes)) (x ∷ bytes) ≡ x ∷ bytes =
    take_all (length (x ∷ bytes)) (x ∷ bytes) (omega arith) in
    let left : drop (length (x ∷ bytes)) (x ∷ bytes) ≡ [] =
    ap (drop (length (x ∷ bytes))) (sym (append-nil (x ∷ bytes))) ∙ drop_at (x ∷ bytes) [] _ refl in
    record { some = some; fits = omega arith; cut = rw (taken, left) (whole_lines-last x bytes h) }

-- ---- the parts so far

-- the bytes between two places
abbrev pub between : List ℕ → ℕ → ℕ → List ℕ
between bundle start at = take (at - start) (drop start bundle)

abbrev pub bytes_of : List Part → List (List ℕ)
bytes_of parts = map (λ (part : Part). part.bytes.now) parts

abbrev pub befores_of : List Part → List ℕ
befores_of parts = map (λ (part : Part). part.before) parts

abbrev pub names_of : List Part → List (List ℕ)
names_of parts = map (λ (part : Part). string_bytes part.name) parts

-- these parts are cut off, the next one begins at a place after this many lines, and the next line at another
pub record AreCut (bundle : List ℕ) (parts : List Part) (start before at lines : ℕ) : Type 0 where
  pub ordered : start ≤ at
  pub within : at ≤ length bundle
  pub few : lines ≤ at
  pub bytes : parts_of bundle ≡ bytes_of parts ++ onto_part (between bundle start at) (parts_of (drop at bundle))
  pub befores : 0 ∷ lines_before 0 (whole_lines bundle)
      ≡ befores_of parts ++ before ∷ lines_before lines (whole_lines (drop at bundle))
  pub names : names_of parts ≡ part_names (length parts)

pub none_cut : (bundle : List ℕ) → AreCut bundle [] 0 0 0 0
none_cut bundle = record {
  ordered = omega arith;
  within = omega arith;
  few = omega arith;
  bytes = sym (onto_none (whole_lines bundle));
  befores = refl;
  names = refl;
}

-- the line at the place
pub record IsNextLine (bundle : List ℕ) (at end : ℕ) : Type 0 where
  pub some : at < end
  pub fits : end ≤ length bundle
  pub lines : whole_lines (drop at bundle) ≡ between bundle at end ∷ whole_lines (drop end bundle)

pub next_line : (bundle : List ℕ) (at count : ℕ) → at ≤ length bundle
    → IsLineLength (between bundle at (length bundle)) count → IsNextLine bundle at (at + count)
next_line bundle at count within line_of_rest =
    let line : IsLineLength (drop at bundle) count = rw (take_rest bundle at) at line_of_rest in
    let taken : between bundle at (at + count) ≡ take count (drop at bundle) =
    ap (λ n. take n (drop at bundle)) (omega arith) in
    record {
      some = omega (arith, line.some);
      fits = omega (arith, line.fits, length-drop at bundle, within);
      lines = rw (taken, sym (drop-drop count at bundle)) line.cut;
    }

-- a line that divides nothing
pub line_passed : (bundle : List ℕ) (parts : List Part) (start before at end lines : ℕ)
    → AreCut bundle parts start before at lines → IsNextLine bundle at end
    → is_separator (between bundle at end) ≡ false → AreCut bundle parts start before end (lines + 1)
line_passed bundle parts start before at end lines cut next plain =
    let begun : List ℕ = between bundle start at in
    let line : List ℕ = between bundle at end in
    let others : List ℕ = drop end bundle in
    let joined : begun ++ line ≡ between bundle start end =
    ap (λ (rest : List ℕ). begun ++ take (end - at) rest)
    (ap (λ n. drop n bundle) (omega (arith, cut.ordered)) ∙ sym (drop-drop (at - start) start bundle))
    ∙ sym (take-add (at - start) (end - at) (drop start bundle))
    ∙ ap (λ n. take n (drop start bundle)) (omega (arith, cut.ordered, next.some)) in
    let parts_are : parts_of (drop at bundle) ≡ onto_part line (parts_of others) =
    ap parts_of_lines next.lines ∙ rw plain refl in
    let lines_are : lines_before lines (whole_lines (drop at bundle))
    ≡ lines_before (suc lines) (whole_lines others) =
    ap (lines_before lines) next.lines ∙ rw plain refl in
    record {
      ordered = omega (arith, cut.ordered, next.some);
      within = next.fits;
      few = omega (arith, cut.few, next.some);
      bytes = cut.bytes ∙ ap (λ (found : List (List ℕ)). bytes_of parts ++ found)
          (ap (onto_part begun) parts_are ∙ sym (onto_twice begun line (parts_of others))
          ∙ ap (λ part. onto_part part (parts_of others)) joined);
      befores = cut.befores ∙ ap (λ (found : List ℕ). befores_of parts ++ before ∷ found)
          (lines_are ∙ ap (λ n. lines_before n (whole_lines others)) (omega arith));
      names = cut.names;
    }

names_grow : (parts : List Part) (part : Part) → names_of parts ≡ part_names (length parts)
    → string_bytes part.name ≡ part_name (length parts)
    → names_of (parts ++ part ∷ []) ≡ part_names (length (parts ++ part ∷ []))
names_grow parts part names name =
    map-append (λ (p : Part). string_bytes p.name) parts (part ∷ [])
    ∙ rw (names, name) refl
    ∙ ap part_names (let long : suc (length parts) ≡ length (parts ++ part ∷ []) =
    omega (arith, length-append parts (part ∷ [])) in long)

-- a line that divides two parts
pub line_divides : (bundle : List ℕ) (parts : List Part) (part : Part) (start before at end lines : ℕ)
    → AreCut bundle parts start before at lines → IsNextLine bundle at end
    → is_separator (between bundle at end) ≡ true
    → IsPart (length parts) (between bundle start at) before part
    → AreCut bundle (parts ++ part ∷ []) end (lines + 1) end (lines + 1)
line_divides bundle parts part start before at end lines cut next divides is =
    let begun : List ℕ = between bundle start at in
    let others : List ℕ = drop end bundle in
    let parts_are : parts_of (drop at bundle) ≡ [] ∷ parts_of others =
    ap parts_of_lines next.lines ∙ rw divides refl in
    let lines_are : lines_before lines (whole_lines (drop at bundle))
    ≡ suc lines ∷ lines_before (suc lines) (whole_lines others) =
    ap (lines_before lines) next.lines ∙ rw divides refl in
    let no_bytes : end - end ≡ 0 = omega arith in
    let none : between bundle end end ≡ [] = ap (λ n. take n (drop end bundle)) no_bytes in
    record {
      ordered = omega arith;
      within = next.fits;
      few = omega (arith, cut.few, next.some);
      bytes = cut.bytes
          ∙ ap (λ (found : List (List ℕ)). bytes_of parts ++ onto_part begun found) parts_are
          ∙ ap (λ (first : List ℕ). bytes_of parts ++ first ∷ parts_of others) (append-nil begun ∙ sym is.has_bytes)
          ∙ sym (append_snoc (bytes_of parts) part.bytes.now (parts_of others))
          ∙ ap (λ (found : List (List ℕ)). found ++ parts_of others)
          (sym (map-append (λ (p : Part). p.bytes.now) parts (part ∷ [])))
          ∙ ap (λ (found : List (List ℕ)). bytes_of (parts ++ part ∷ []) ++ found)
          (sym (ap (λ first. onto_part first (parts_of others)) none ∙ onto_none (whole_lines others)));
      befores = cut.befores
          ∙ ap (λ (found : List ℕ). befores_of parts ++ before ∷ found) lines_are
          ∙ ap (λ n. befores_of parts ++ n ∷ suc lines ∷ lines_before (suc lines) (whole_lines others))
          (sym is.comes_after)
          ∙ sym (append_snoc (befores_of parts) part.before (suc lines ∷ lines_before (suc lines) (whole_lines others)))
          ∙ ap (λ (found : List ℕ). found ++ suc lines ∷ lines_before (suc lines) (whole_lines others))
          (sym (map-append (λ (p : Part). p.before) parts (part ∷ [])))
          ∙ ap (λ n. befores_of (parts ++ part ∷ []) ++ n ∷ lines_before n (whole_lines others)) (omega arith);
      names = names_grow parts part cut.names is.name;
    }

-- the last part, at the bundle's end
pub parts_end : (bundle : List ℕ) (parts : List Part) (part : Part) (start before at lines : ℕ)
    → AreCut bundle parts start before at lines → length bundle ≤ at
    → IsPart (length parts) (between bundle start (length bundle)) before part
    → ArePartsOf bundle (parts ++ part ∷ [])
parts_end bundle parts part start before at lines cut past is =
    let here : at ≡ length bundle = omega (arith, past, cut.within) in
    let none : drop at bundle ≡ [] =
    ap (λ n. drop n bundle) here ∙ ap (drop (length bundle)) (sym (append-nil bundle)) ∙ drop_at bundle [] _ refl in
    let begun : between bundle start at ≡ part.bytes.now =
    ap (between bundle start) here ∙ sym is.has_bytes in
    record {
      bytes = map-append (λ (p : Part). p.bytes.now) parts (part ∷ [])
          ∙ ap (λ (found : List (List ℕ)). bytes_of parts ++ found)
          (ap (λ (last : List ℕ). last ∷ [])
          (sym (append-nil part.bytes.now) ∙ sym (ap (λ (xs : List ℕ). xs ++ []) begun))
          ∙ sym (ap (λ rest. onto_part (between bundle start at) (parts_of rest)) none))
          ∙ sym cut.bytes;
      before = map-append (λ (p : Part). p.before) parts (part ∷ [])
          ∙ ap (λ n. befores_of parts ++ n ∷ []) is.comes_after
          ∙ sym (cut.befores ∙ ap (λ rest. befores_of parts ++ before ∷ lines_before lines (whole_lines rest)) none);
      names = names_grow parts part cut.names is.name;
    }
