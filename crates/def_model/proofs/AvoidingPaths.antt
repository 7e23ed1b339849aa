-- A path step by step: what the cut here and the rest of the path have to do with the whole.
use Rattle.std.proofs.Common.{◌≡◌, ◌↔◌, ℕ, suc, ◌+◌, ◌<◌, ◌≤◌, Bool, false, IsTrue, List, [], ◌∷◌, length, get_or, replicate, sum, Some, All, refl, sym, ap, ◌∙◌, inl, inr, ◌⊎◌, arith}
use Rattle.std.proofs.lemmas.Bool.{cases_lt, false≢true}
use Rattle.std.proofs.lemmas.List.{ext_get_or, set_past}
use Rattle.std.proofs.lemmas.List.Elements.{All-cons, All-nil}
use Rattle.std.proofs.lemmas.Option.{same_Some}
use Rattle.def_model.specs.Events.{Computation, Linked, first_of, last_of, event_count}
use Rattle.def_model.specs.Cuts.{IsConsistent, AddsEvent, one_more, empty_cut, full_cut}
use Rattle.def_model.specs.Answers.{cuts_along}
use Rattle.def_model.proofs.Counts.{sum_step, length_full, full_at}
use Rattle.def_model.specs.Paths.{IsAvoidingCut, AvoidsFrom}

-- a step that adds an event is one of a process that is there
added_is_there : (cut : List ℕ) (p : ℕ) → AddsEvent cut (one_more cut p) → p < length cut
added_is_there cut p adds = go (cases_lt p (length cut))
  where
    go : (p < length cut) ⊎ (length cut ≤ p) → p < length cut
    go (inl lt) = lt
    go (inr past) =
        let same : one_more cut p ≡ cut = set_past cut p (get_or cut p 0 + 1) past in
        let more : sum (one_more cut p) ≡ sum cut + 1 = sum_step cut (one_more cut p) adds in
        let none : sum (one_more cut p) ≡ sum cut = ap sum same in
        absurd (omega arith)

-- the path's cuts have a first one
first_along : (cut : List ℕ) (path : List ℕ) → first_of (cuts_along cut path) ≡ Some cut
first_along cut [] = refl
first_along cut (p ∷ path) = refl

-- the last of the cuts stays the last with one more before them
last_along : (first cut : List ℕ) (path : List ℕ) → last_of (first ∷ cuts_along cut path)
    ≡ last_of (cuts_along cut path)
last_along first cut [] = refl
last_along first cut (p ∷ path) = refl

linked_along : (first cut : List ℕ) (path : List ℕ) → Linked AddsEvent (first ∷ cuts_along cut path)
    ↔ (AddsEvent first cut × Linked AddsEvent (cuts_along cut path))
linked_along first cut [] = (λ h. h, λ h. h)
linked_along first cut (p ∷ path) = (λ h. h, λ h. h)

-- the first element and the rest
all_here : {A : Type 0} (P : A → Type 0) (x : A) (xs : List A) → All P (x ∷ xs) → P x
all_here P x xs all = all 0 x (omega arith)

all_rest : {A : Type 0} (P : A → Type 0) (x : A) (xs : List A) → All P (x ∷ xs) → All P xs
all_rest P x xs all = λ i d lt. all (suc i) d (omega arith)

-- The path is good where its first cut is.
pub avoids_here : (c : Computation) (test : List ℕ → Bool) (cut path : List ℕ) → AvoidsFrom c test cut path
    → IsAvoidingCut c test cut
avoids_here c test cut [] (walk, fails) =
    (all_here (IsConsistent c) cut [] walk.consistent, all_here (λ x. test x ≡ false) cut [] fails)
avoids_here c test cut (p ∷ path) (walk, fails) = (
  all_here (IsConsistent c) cut (cuts_along (one_more cut p) path) walk.consistent,
  all_here (λ x. test x ≡ false) cut (cuts_along (one_more cut p) path) fails,
)

-- At a good cut the path goes on: one step and the rest.
pub avoids_on : (c : Computation) (test : List ℕ → Bool) (cut : List ℕ) (p : ℕ) (path : List ℕ)
    → IsAvoidingCut c test cut → AvoidsFrom c test cut (p ∷ path)
    ↔ ((p < length cut) × AvoidsFrom c test (one_more cut p) path)
avoids_on c test cut p path (ok, fail) = (to, from)
  where
    to : AvoidsFrom c test cut (p ∷ path) → (p < length cut) × AvoidsFrom c test (one_more cut p) path
    to (walk, fails) =
        let linked : AddsEvent cut (one_more cut p) × Linked AddsEvent (cuts_along (one_more cut p) path) =
        (linked_along cut (one_more cut p) path).0 walk.steps in (
          added_is_there cut p linked.0,
          (
            record {
              begins = first_along (one_more cut p) path;
              ends = sym (last_along cut (one_more cut p) path) ∙ walk.ends;
              steps = linked.1;
              consistent = all_rest (IsConsistent c) cut (cuts_along (one_more cut p) path) walk.consistent;
            },
            all_rest (λ x. test x ≡ false) cut (cuts_along (one_more cut p) path) fails,
          ),
        )

    from : (p < length cut) × AvoidsFrom c test (one_more cut p) path → AvoidsFrom c test cut (p ∷ path)
    from (lt, (walk, fails)) = (
      record {
        begins = refl;
        ends = last_along cut (one_more cut p) path ∙ walk.ends;
        steps = (linked_along cut (one_more cut p) path).1 ((p, lt, refl), walk.steps);
        consistent = All-cons (IsConsistent c) cut (cuts_along (one_more cut p) path) ok walk.consistent;
      },
      All-cons (λ x. test x ≡ false) cut (cuts_along (one_more cut p) path) fail fails,
    )

-- At a good cut the path may end exactly where the cut is full.
pub avoids_ended : (c : Computation) (test : List ℕ → Bool) (cut : List ℕ) → IsAvoidingCut c test cut
    → AvoidsFrom c test cut [] ↔ (cut ≡ full_cut c)
avoids_ended c test cut (ok, fail) = (to, from)
  where
    to : AvoidsFrom c test cut [] → cut ≡ full_cut c
    to (walk, fails) = same_Some cut (full_cut c) walk.ends

    from : cut ≡ full_cut c → AvoidsFrom c test cut []
    from full = (
      record {
        begins = refl;
        ends = ap Some full;
        steps = tt;
        consistent = All-cons (IsConsistent c) cut [] ok (All-nil (IsConsistent c));
      },
      All-cons (λ x. test x ≡ false) cut [] fail (All-nil (λ x. test x ≡ false)),
    )

-- No event counted is the empty cut.
pub zeros_are_empty : (c : Computation) → replicate (length c) 0 ≡ empty_cut c
zeros_are_empty [] = refl
zeros_are_empty (events ∷ c) = ap (λ (xs : List ℕ). 0 ∷ xs) (zeros_are_empty c)

pub full_from_counts : (c : Computation) (counts : List ℕ) → length counts ≡ length c
    → ((k : ℕ) → k < length counts → get_or counts k 0 ≡ event_count c k) → counts ≡ full_cut c
full_from_counts c counts count each =
    ext_get_or 0 counts (full_cut c) (count ∙ sym (length_full c)) (λ k lt. each k lt ∙ sym (full_at c k))

-- What is said of the whole path is that it avoids from the cut here on. If the cut here or the next step isn't good,
-- the whole isn't.
pub refused_here : (c : Computation) (test : List ℕ → Bool) (cut path : List ℕ) (whole : Type 0) (good : Bool)
    → (whole ↔ AvoidsFrom c test cut path) → (IsTrue good ↔ IsAvoidingCut c test cut) → good ≡ false → IsTrue false
    ↔ whole
refused_here c test cut path whole good rest exact fail =
    (λ h. absurd (false≢true h), λ w. absurd (false≢true (sym fail ∙ exact.1 (avoids_here c test cut path (rest.0 w)))))

pub refused_step : (c : Computation) (test : List ℕ → Bool) (cut : List ℕ) (p : ℕ) (path : List ℕ) (whole : Type 0)
    (good : Bool) → (whole ↔ AvoidsFrom c test cut (p ∷ path)) → IsAvoidingCut c test cut
    → (IsTrue good ↔ ((p < length cut) × IsAvoidingCut c test (one_more cut p))) → good ≡ false → IsTrue false ↔ whole
refused_step c test cut p path whole good rest here exact fail = (λ h. absurd (false≢true h), none)
  where
    none : whole → IsTrue false
    none w =
        let on : (p < length cut) × AvoidsFrom c test (one_more cut p) path =
        (avoids_on c test cut p path here).0 (rest.0 w) in
        absurd (false≢true (sym fail ∙ exact.1 (on.0, avoids_here c test (one_more cut p) path on.1)))

-- A good step leaves the rest of the path.
pub rest_after : (c : Computation) (test : List ℕ → Bool) (cut : List ℕ) (p : ℕ) (path : List ℕ) (whole : Type 0)
    → (whole ↔ AvoidsFrom c test cut (p ∷ path)) → IsAvoidingCut c test cut → p < length cut
    → whole ↔ AvoidsFrom c test (one_more cut p) path
rest_after c test cut p path whole rest here lt =
    let on : AvoidsFrom c test cut (p ∷ path) ↔ ((p < length cut) × AvoidsFrom c test (one_more cut p) path) =
    avoids_on c test cut p path here in
    (λ w. (on.0 (rest.0 w)).1, λ a. rest.1 (on.1 (lt, a)))

pub ended_full : (c : Computation) (test : List ℕ → Bool) (cut : List ℕ) (whole : Type 0) (full : Bool)
    → (whole ↔ AvoidsFrom c test cut []) → IsAvoidingCut c test cut → (IsTrue full ↔ (cut ≡ full_cut c)) → IsTrue full
    ↔ whole
ended_full c test cut whole full rest here exact =
    let ended : AvoidsFrom c test cut [] ↔ (cut ≡ full_cut c) = avoids_ended c test cut here in
    (λ h. rest.1 (ended.1 (exact.0 h)), λ w. exact.1 (ended.0 (rest.0 w)))
