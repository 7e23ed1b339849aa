-- One step of an observation.
use Rattle.std.proofs.Common.{◌≡◌, ℕ, suc, ◌+◌, ◌<◌, ◌≤◌, List, ◌∷◌, ◌++◌, length, get_or, drop, sym, ap, ◌∙◌, inl, inr, ◌⊎◌, arith}
use Rattle.std.proofs.Math.Seq.{drop-cons}
use Rattle.std.proofs.lemmas.Bool.{cases_lt, cases_eq}
use Rattle.std.proofs.lemmas.List.{append_assoc, get_or_past}
use Rattle.def_model.specs.Cuts.{one_more}
use Rattle.def_model.specs.Events.{Place, place}
use Rattle.def_model.proofs.Counts.{length_more, more_same, more_other}
use Rattle.out_picture.specs.Pictures.{step_shapes, steps_shapes}
use Rattle.out_picture.specs.Shapes.{Seen}
use Rattle.out_picture.specs.declared.window.Window.{Window}

-- a count is one more at most
pub more_small : (counts : List ℕ) (p n : ℕ) → ((q : ℕ) → get_or counts q 0 ≤ n) → (q : ℕ)
    → get_or (one_more counts p) q 0 ≤ n + 1
more_small counts p n small q = go (cases_eq q p) (cases_lt p (length counts))
  where
    go : (q ≡ p) ⊎ (q ≡ p → ⊥) → (p < length counts) ⊎ (length counts ≤ p) → get_or (one_more counts p) q 0 ≤ n + 1
    go (inr other) any =
        let same : get_or (one_more counts p) q 0 ≡ get_or counts q 0 = more_other counts p q other in
        let s : get_or counts q 0 ≤ n = small q in
        omega arith
    go (inl here) (inl within) =
        rw here (let more : get_or (one_more counts p) p 0 ≡ get_or counts p 0 + 1 = more_same counts p within in
        let s : get_or counts p 0 ≤ n = small p in omega arith)
    go (inl here) (inr past) =
        let l : length (one_more counts p) ≡ length counts = length_more counts p in
        let z : get_or (one_more counts p) q 0 ≡ 0 = get_or_past (one_more counts p) q 0 (omega arith) in
        omega arith

-- what is there and what is to come stay the whole
pub step_more : (window : Window) (columns : Place → ℕ) (whole shapes after : List Seen) (counts path : List ℕ)
    (step number : ℕ) → step < length path → number ≡ get_or counts (get_or path step 0) 0
    → after ≡ shapes ++ step_shapes window columns (step + 1) (place (get_or path step 0) (number + 1))
    → shapes ++ steps_shapes window columns counts (step + 1) (drop step path) ≡ whole
    → after ++ steps_shapes window columns (one_more counts (get_or path step 0)) (step + 1 + 1) (drop (step + 1) path)
    ≡ whole
step_more window columns whole shapes after counts path step number within read added rest =
    let here : List Seen =
    step_shapes window columns (step + 1) (place (get_or path step 0) (get_or counts (get_or path step 0) 0 + 1)) in
    let later : List Seen =
    steps_shapes window columns (one_more counts (get_or path step 0)) (step + 1 + 1) (drop (step + 1) path) in
    ap (λ (xs : List Seen). xs ++ later) added_here ∙ (append_assoc shapes here later
    ∙ (ap (λ (xs : List Seen). shapes ++ xs) (sym cut_off) ∙ rest))
  where
    added_here : after ≡ shapes ++ step_shapes window columns (step + 1)
        (place (get_or path step 0) (get_or counts (get_or path step 0) 0 + 1))
    added_here =
        added
        ∙ ap (λ (n : ℕ). shapes ++ step_shapes window columns (step + 1) (place (get_or path step 0) (n + 1))) read

    first : drop step path ≡ get_or path step 0 ∷ drop (step + 1) path
    first =
        let next : suc step ≡ step + 1 = omega arith in
        drop-cons path step 0 within ∙ ap (λ (n : ℕ). get_or path step 0 ∷ drop n path) next

    cut_off : steps_shapes window columns counts (step + 1) (drop step path)
        ≡ step_shapes window columns (step + 1) (place (get_or path step 0) (get_or counts (get_or path step 0) 0 + 1))
        ++ steps_shapes window columns (one_more counts (get_or path step 0)) (step + 1 + 1) (drop (step + 1) path)
    cut_off = ap (λ (xs : List ℕ). steps_shapes window columns counts (step + 1) xs) first
