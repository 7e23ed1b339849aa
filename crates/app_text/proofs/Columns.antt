-- How shown bytes and their columns go on with one byte more.
use Rattle.std.proofs.Common.{◌≡◌, ℕ, ◌+◌, ◌<◌, List, [], ◌++◌, length, get_or, take, drop, replicate, sym, ap, ◌∙◌, append_assoc, length-append}
use Rattle.std.proofs.lemmas.List.{take_more, drop_more, flat_map_more, replicate-append-replicate}
use Rattle.std.specs.Prelude.{Option, Some, MatchOption}
use Rattle.app_text.specs.Shown.{shown_byte, shown, columns}
use Rattle.app_text.specs.Window.{ShowsPlace, ShowsStart}

pub shown_more : (xs : List ℕ) (i : ℕ) → i < length xs
    → shown (take (i + 1) xs) ≡ shown (take i xs) ++ shown_byte (get_or xs i 0)
shown_more xs i below =
    ap shown (take_more xs i 0 below) ∙ sym (flat_map_more shown_byte [] (take i xs) (get_or xs i 0))

pub columns_more : (xs : List ℕ) (i : ℕ) → i < length xs
    → columns (take (i + 1) xs) ≡ columns (take i xs) + length (shown_byte (get_or xs i 0))
columns_more xs i below =
    ap length (shown_more xs i below) ∙ length-append (shown (take i xs)) (shown_byte (get_or xs i 0))

pub columns_before : (xs : List ℕ) (i : ℕ) → i < length xs
    → columns (drop i xs) ≡ length (shown_byte (get_or xs i 0)) + columns (drop (i + 1) xs)
columns_before xs i below =
    ap columns (drop_more xs i 0 below) ∙ length-append (shown_byte (get_or xs i 0)) (shown (drop (i + 1) xs))

-- ---- texts that are put one after another

pub bytes_go_on : (initial out new : List ℕ) (xs : List ℕ) (i : ℕ) → i < length xs
    → out ≡ initial ++ shown (take i xs) → new ≡ out ++ shown_byte (get_or xs i 0)
    → new ≡ initial ++ shown (take (i + 1) xs)
bytes_go_on initial out new xs i below eo en =
    en ∙ ap (λ ys. ys ++ shown_byte (get_or xs i 0)) eo
    ∙ append_assoc initial (shown (take i xs)) (shown_byte (get_or xs i 0))
    ∙ ap (λ ys. initial ++ ys) (sym (shown_more xs i below))

pub spaces_go_on : (initial out new : List ℕ) (xs : List ℕ) (i : ℕ) → i < length xs
    → out ≡ initial ++ replicate (columns (take i xs)) 32
    → new ≡ out ++ replicate (length (shown_byte (get_or xs i 0))) 32
    → new ≡ initial ++ replicate (columns (take (i + 1) xs)) 32
spaces_go_on initial out new xs i below eo en =
    let width = length (shown_byte (get_or xs i 0)) in
    en ∙ ap (λ ys. ys ++ replicate width 32) eo
    ∙ append_assoc initial (replicate (columns (take i xs)) 32) (replicate width 32)
    ∙ ap (λ ys. initial ++ ys) (replicate-append-replicate (columns (take i xs)) width 32
    ∙ ap (λ n. replicate n 32) (sym (columns_more xs i below)))

pub two_parts : (o o1 o2 p1 p2 : List ℕ) → o1 ≡ o ++ p1 → o2 ≡ o1 ++ p2 → o2 ≡ o ++ (p1 ++ p2)
two_parts o o1 o2 p1 p2 e1 e2 = rw (e2, e1) (append_assoc o p1 p2)

pub three_parts : (o o1 o2 o3 p1 p2 p3 : List ℕ) → o1 ≡ o ++ p1 → o2 ≡ o1 ++ p2 → o3 ≡ o2 ++ p3
    → o3 ≡ o ++ (p1 ++ p2 ++ p3)
three_parts o o1 o2 o3 p1 p2 p3 e1 e2 e3 = two_parts o o2 o3 (p1 ++ p2) p3 (two_parts o o1 o2 p1 p2 e1 e2) e3

pub four_parts : (o o1 o2 o3 o4 p1 p2 p3 p4 : List ℕ) → o1 ≡ o ++ p1 → o2 ≡ o1 ++ p2 → o3 ≡ o2 ++ p3 → o4 ≡ o3 ++ p4
    → o4 ≡ o ++ (p1 ++ p2 ++ p3 ++ p4)
four_parts o o1 o2 o3 o4 p1 p2 p3 p4 e1 e2 e3 e4 =
    two_parts o o3 o4 (p1 ++ p2 ++ p3) p4 (three_parts o o1 o2 o3 p1 p2 p3 e1 e2 e3) e4

pub six_parts : (o o1 o2 o3 o4 o5 o6 p1 p2 p3 p4 p5 p6 : List ℕ) → o1 ≡ o ++ p1 → o2 ≡ o1 ++ p2 → o3 ≡ o2 ++ p3
    → o4 ≡ o3 ++ p4 → o5 ≡ o4 ++ p5 → o6 ≡ o5 ++ p6 → o6 ≡ o ++ (p1 ++ p2 ++ p3 ++ p4 ++ p5 ++ p6)
six_parts o o1 o2 o3 o4 o5 o6 p1 p2 p3 p4 p5 p6 e1 e2 e3 e4 e5 e6 =
    two_parts o o5 o6 (p1 ++ p2 ++ p3 ++ p4 ++ p5) p6
    (two_parts o o4 o5 (p1 ++ p2 ++ p3 ++ p4) p5 (four_parts o o1 o2 o3 o4 p1 p2 p3 p4 e1 e2 e3 e4) e5) e6

pub shown_there : (line before after old new : List ℕ) (at : ℕ) (place : Option ℕ) → place ≡ Some at
    → before ≡ take at line → after ≡ drop at line
    → (text : List ℕ) × ShowsPlace before after text × (new ≡ old ++ text)
    → (text : List ℕ) × MatchOption place (ShowsStart line text) (λ p. ShowsPlace (take p line) (drop p line) text)
    × (new ≡ old ++ text)
shown_there line before after old new at place ep eb ea found =
    rw ep (found.0, rw (← eb, ← ea) found.1, found.2)
