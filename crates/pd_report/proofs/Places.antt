-- Names at places among others, as further names are put after these.
use Rattle.std.proofs.Common.{◌≡◌, ℕ, zero, suc, ◌+◌, ◌<◌, List, [], ◌∷◌, ◌++◌, length, length-append, get_or, min, take, refl, sym, ap, ◌∙◌, Some, arith}
use Rattle.std.specs.Prelude.{position, string_bytes}
use Rattle.std.specs.Str.{bytes_eq}
use Rattle.std.specs.declared.alloc.Global.{Global}
use Rattle.std.specs.declared.string.String.{String}
use Rattle.std.proofs.Math.Nat.{min-le_left, min-le_right}
use Rattle.std.proofs.Math.Seq.{get_or-append_seam}
use Rattle.std.proofs.lemmas.List.{get_or-map, get_or-take, get_or_append_left, length-map, length-take, map-append}
use Rattle.std.proofs.lemmas.List.Elements.{All-head, All-tail, All-weaker}
use Rattle.std.proofs.lemmas.List.Quantifiers.{position-Some}
use Rattle.std.proofs.lemmas.Slice.Eq.{bytes_eq-Decides}
use Rattle.pd_report.specs.Steps.{name_at, names_at, names_view, AreBelow, GoesOn}

-- ---- names that stay

names_stay : (old more : List (List ℕ)) (steps : List ℕ) → AreBelow (length old) steps
    → names_at (old ++ more) steps ≡ names_at old steps
names_stay old more [] below = refl
names_stay old more (step ∷ steps) below =
    let here : name_at (old ++ more) step ≡ name_at old step =
    get_or_append_left old more [] step (All-head (λ s. s < length old) step steps below) in
    let others : names_at (old ++ more) steps ≡ names_at old steps =
    names_stay old more steps (All-tail (λ s. s < length old) step steps below) in
    ap (λ (name : List ℕ). name ∷ names_at (old ++ more) steps) here
    ∙ ap (λ (names : List (List ℕ)). name_at old step ∷ names) others

still_named : (old new : List (String Global)) (steps : List ℕ) → GoesOn old new → AreBelow (length old) steps
    → names_at (names_view new) steps ≡ names_at (names_view old) steps
still_named old new steps goes below =
    ap (λ (names : List (String Global)). names_at (names_view names) steps) goes.1
    ∙ ap (λ (names : List (List ℕ)). names_at names steps) (map-append string_bytes old goes.0)
    ∙ names_stay (names_view old) (names_view goes.0) steps
    (All-weaker (λ s. s < length old) (λ s. s < length (names_view old))
    (λ s lt. let count : length (names_view old) ≡ length old = length-map old string_bytes in omega arith) steps below)

-- one event more
pub one_more_named : (old new : List (String Global)) (steps : List ℕ) (step : ℕ) (name : List ℕ) → GoesOn old new
    → AreBelow (length old) steps → name_at (names_view new) step ≡ name
    → names_at (names_view new) (steps ++ step ∷ []) ≡ names_at (names_view old) steps ++ name ∷ []
one_more_named old new steps step name goes below is =
    map-append (name_at (names_view new)) steps (step ∷ [])
    ∙ ap (λ (names : List (List ℕ)). names ++ name_at (names_view new) step ∷ []) (still_named old new steps goes below)
    ∙ ap (λ (last : List ℕ). names_at (names_view old) steps ++ last ∷ []) is

-- the name at a place, as it is kept
pub named : (names : List (String Global)) (step : ℕ) (d : String Global) → step < length names
    → string_bytes (get_or names step d) ≡ name_at (names_view names) step
named names step d lt = sym (get_or-map string_bytes names step d [] lt)

-- ---- a name's place

-- a name that is known is at its place
pub known_at : (names : List (String Global)) (first : ℕ) (name : List ℕ) (step : ℕ)
    → position (λ known. bytes_eq (string_bytes known) name) (take first names) ≡ Some step
    → (step < length names) × (name_at (names_view names) step ≡ name)
known_at [] zero name step found = absurd (cc)
known_at [] (suc first) name step found = absurd (cc)
known_at (x ∷ names) first name step found =
    let at = position-Some (λ known. bytes_eq (string_bytes known) name) (take first (x ∷ names)) step x found in
    let count : length (take first (x ∷ names)) ≡ min first (length (x ∷ names)) = length-take first (x ∷ names) in
    let lt : step < length (x ∷ names) =
    omega (arith, at.0, count, min-le_right first (length (x ∷ names))) in
    let early : step < first = omega (arith, at.0, count, min-le_left first (length (x ∷ names))) in
    let is : string_bytes (get_or (take first (x ∷ names)) step x) ≡ name =
    (bytes_eq-Decides (string_bytes (get_or (take first (x ∷ names)) step x)) name).0 at.1 in (
      lt,
      get_or-map string_bytes (x ∷ names) step x [] lt
          ∙ ap string_bytes (sym (get_or-take first (x ∷ names) step x early)) ∙ is,
    )

-- a name that was put after the others is the last one
pub last_at : (old new : List (String Global)) (text : String Global) (name : List ℕ) (step : ℕ)
    → new ≡ old ++ text ∷ [] → string_bytes text ≡ name → step ≡ length old
    → (step < length new) × (name_at (names_view new) step ≡ name)
last_at old new text name step pushed is last =
    let count : length new ≡ length old + 1 = ap length pushed ∙ length-append old (text ∷ []) in
    let lt : step < length new = omega arith in (
      lt,
      get_or-map string_bytes new step text [] lt
          ∙ ap string_bytes (ap (λ (names : List (String Global)). get_or names step text) pushed
          ∙ ap (λ (k : ℕ). get_or (old ++ text ∷ []) k text) last ∙ get_or-append_seam old text [] text)
          ∙ is,
    )
