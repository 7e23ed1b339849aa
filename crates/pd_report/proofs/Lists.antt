-- Lists of texts with a comma between each two.
use Rattle.std.proofs.Common.{◌≡◌, ℕ, ◌<◌, List, [], ◌∷◌, ◌++◌, map, length, None, Some, Option, Ok, Err, Result, refl, sym, ap, ◌∙◌, append_assoc, arith}
use Rattle.std.specs.Prelude.{◌==◌, IfOk, IsErr}
use Rattle.std.specs.List.{AllByRecursion}
use Rattle.std.proofs.lemmas.List.{length-map, map-append}
use Rattle.std.proofs.lemmas.List.Splits.{length-slice_split}
use Rattle.def_format.specs.Reports.{with_commas}
use Rattle.def_format.proofs.OneReport.{Lacks}
use Rattle.pd_report.specs.Reading.{pieces, IsFoundAs, IsReadAs, IsTextOf}
use Rattle.pd_report.proofs.Pieces.{pieces_of_joined, joined_of_pieces}

pub map_same : {A : Type 0} (xs : List A) → map (λ x. x) xs ≡ xs
map_same [] = refl
map_same (x ∷ xs) = ap (λ z. x ∷ z) (map_same xs)

pub all_push : {V : Type 0} (P : V → Type 0) (vs : List V) (v : V) → AllByRecursion P vs → P v
    → AllByRecursion P (vs ++ v ∷ [])
all_push P [] v h k = (k, tt)
all_push P (w ∷ vs) v h k = (h.0, all_push P vs v h.1 k)

-- if one part is no text of a lawful value, the parts are no texts of such values
pub one_is_none : {V : Type 0} (text : V → List ℕ) (P : V → Type 0) (before : List (List ℕ)) (part : List ℕ)
    (after : List (List ℕ)) → ((v : V) → P v → ¬ (part ≡ text v))
    → (vs : List V) → AllByRecursion P vs → ¬ (before ++ part ∷ after ≡ map text vs)
one_is_none text P [] part after none [] h e = cc
one_is_none text P [] part after none (v ∷ vs) h e = none v h.0 (let first : part ≡ text v = cc in cc)
one_is_none text P (x ∷ before) part after none [] h e = cc
one_is_none text P (x ∷ before) part after none (v ∷ vs) h e =
    one_is_none text P before part after none vs h.1 (cc)

pub listed_some : {V : Type 0} (texts : List V → List (List ℕ)) (P : List V → Type 0) (count : (vs : List V)
    → length (texts vs) ≡ length vs) (bytes : List ℕ) (parts : List (List ℕ)) → parts ≡ pieces 44 bytes
    → (vs : List V) → P vs → parts ≡ texts vs → ((0 < length vs) × P vs) × (bytes ≡ with_commas (texts vs))
listed_some texts P count bytes parts cut vs h e =
    let some : 0 < length (pieces 44 bytes) = omega (arith, length-slice_split (λ b. b == 44) bytes) in
    ((omega (arith, some, count vs, ap length (sym cut ∙ e)), h), joined_of_pieces 44 bytes (texts vs) (sym cut ∙ e))

pub listed_none : {V : Type 0} (texts : List V → List (List ℕ)) (P : List V → Type 0) (count : (vs : List V)
    → length (texts vs) ≡ length vs) (lacks : (vs : List V) → P vs → AllByRecursion (Lacks 44) (texts vs))
    (bytes : List ℕ) (parts : List (List ℕ)) → parts ≡ pieces 44 bytes
    → ((vs : List V) → P vs → ¬ (parts ≡ texts vs)) → (vs : List V) → (0 < length vs) × P vs
    → ¬ (bytes ≡ with_commas (texts vs))
listed_none texts P count lacks bytes parts cut none vs h e =
    none vs h.1 (cut ∙ go (texts vs) (count vs) (lacks vs h.1) e)
  where
    go : (ws : List (List ℕ)) → length ws ≡ length vs → AllByRecursion (Lacks 44) ws → bytes ≡ with_commas ws
        → pieces 44 bytes ≡ ws
    go [] n l e = absurd (omega (arith, h.0))
    go (w ∷ ws) n l e = pieces_of_joined 44 bytes w ws l e

-- one part more is read
pub read_more : {V : Type 0} (text : V → List ℕ) (parts left after : List (List ℕ)) (part : List ℕ) (vs : List V)
    (v : V) → parts ≡ map text vs ++ left → left ≡ part ∷ after → part ≡ text v
    → parts ≡ map text (vs ++ v ∷ []) ++ after
read_more text parts left after part vs v so_far next e =
    so_far
    ∙ ap (λ ws. map text vs ++ ws) (next ∙ ap (λ w. w ∷ after) e)
    ∙ sym (append_assoc (map text vs) (text v ∷ []) after)
    ∙ ap (λ ws. ws ++ after) (sym (map-append text vs (v ∷ [])))

-- some lawful values have the parts before those that are left for their texts
abbrev pub AreTexts : {V : Type 0} → (V → List ℕ) → (V → Type 0) → (parts left : List (List ℕ)) → Type 0
AreTexts {V = V} text P parts left = (vs : List V) × AllByRecursion P vs × (parts ≡ map text vs ++ left)

pub found_listed : {X V : Type 0} (view : X → List V) (texts : List V → List (List ℕ)) (P : List V
    → Type 0) (count : (vs : List V) → length (texts vs) ≡ length vs) (lacks : (vs : List V) → P vs
    → AllByRecursion (Lacks 44) (texts vs)) (bytes : List ℕ) (parts : List (List ℕ)) → parts ≡ pieces 44 bytes
    → (found : Option X) → IsFoundAs view texts P parts found
    → IsFoundAs view (λ vs. with_commas (texts vs)) (λ vs. (0 < length vs) × P vs) bytes found
found_listed view texts P count lacks bytes parts cut None h = listed_none texts P count lacks bytes parts cut h
found_listed view texts P count lacks bytes parts cut (Some x) h =
    listed_some texts P count bytes parts cut (view x) h.0 h.1

-- what is found of a value that is there is read
pub read_there : {X V T E : Type 0} (view : X → V) (text : V → T) (P : V → Type 0) (reported : T)
    (result : Result (Option X) E) → IfOk result (IsFoundAs view text P reported) → IsTextOf text P reported
    → IsReadAs view text P reported result
read_there view text P reported (Ok found) is_found there = is_found
read_there view text P reported (Err e) is_found there = there

-- an allocation may be refused for a value that is there
pub refused_there : {X V T E : Type 0} (view : X → V) (text : V → T) (P : V → Type 0) (reported : T)
    (result : Result (Option X) E) → IsErr result → IsTextOf text P reported → IsReadAs view text P reported result
refused_there view text P reported (Ok found) refused there = absurd (cc)
refused_there view text P reported (Err e) refused there = there

-- values, of the words between commas
pub texts_listed : {V : Type 0} (text : V → List ℕ) (P : V → Type 0) (bytes : List ℕ) (parts : List (List ℕ))
    → parts ≡ pieces 44 bytes → IsTextOf (map text) (AllByRecursion P) parts
    → IsTextOf (λ vs. with_commas (map text vs)) (λ vs. (0 < length vs) × AllByRecursion P vs) bytes
texts_listed text P bytes parts cut there =
    let listed = listed_some (map text) (AllByRecursion P) (λ vs. length-map vs text) bytes parts cut there.0 there.1
    there.2 in
    (there.0, listed.0, listed.1)
