-- Runs, as one event comes after another.
use Rattle.std.proofs.Common.{◌≡◌, ℕ, ◌+◌, ◌<◌, List, ◌∷◌, ◌++◌, length, map, drop, drop-cons, get_or, sym, ap, ap₂, ◌∙◌, add-one}
use Rattle.serde_json.specs.Data.{Data}
use Rattle.pd_report.specs.Steps.{name_at, names_at}
use Rattle.out_json.specs.JsonReports.{run_data, runs_from}

first_left : (xs : List ℕ) (i : ℕ) → i < length xs → drop i xs ≡ get_or xs i 0 ∷ drop (i + 1) xs
first_left xs i lt = rw (add-one, drop-cons xs i 0)

pub next_event : (names : List (List ℕ)) (before after all : List Data) (last next : List ℕ) (count longer : ℕ)
    (others : List ℕ) (place i : ℕ) → i < length others → last ≡ name_at names place
    → next ≡ name_at names (get_or others i 0)
    → ((rest : List (List ℕ)) → after ++ map run_data (runs_from next longer rest)
    ≡ before ++ map run_data (runs_from last count (next ∷ rest)))
    → before ++ map run_data (runs_from (name_at names place) count (names_at names (drop i others))) ≡ all
    → after ++ map run_data (runs_from (name_at names (get_or others i 0)) longer
    (names_at names (drop (i + 1) others))) ≡ all
next_event names before after all last next count longer others place i lt last_is next_is step whole =
    let rest = names_at names (drop (i + 1) others) in
    ap (λ (name : List ℕ). after ++ map run_data (runs_from name longer rest)) (sym next_is)
    ∙ step rest
    ∙ ap₂ (λ (name other : List ℕ). before ++ map run_data (runs_from name count (other ∷ rest))) last_is next_is
    ∙ ap (λ (left : List ℕ). before ++ map run_data (runs_from (name_at names place) count (names_at names left)))
    (sym (first_left others i lt))
    ∙ whole
