-- The processes of a printed path are there.
use Rattle.std.proofs.Common.{◌≡◌, ℕ, ◌<◌, ◌≤◌, ◌⊎◌, inl, inr, Bool, List, [], ◌∷◌, ◌++◌, length, get_or, reverse, sym, ◌∙◌, subst, arith, All}
use Rattle.std.proofs.lemmas.Bool.{cases_lt}
use Rattle.std.proofs.lemmas.List.{get_or_past, length-map, length-set, reverse-append}
use Rattle.std.proofs.lemmas.List.Elements.{All-cons}
use Rattle.def_model.specs.Events.{Computation, Event}
use Rattle.def_model.specs.Cuts.{full_cut, one_less}
use Rattle.def_model.specs.Answers.{DefinitelyNo, DefinitelyYes, IsUndoing, IsPrintedPath, IsDefinitelyAnswer, IsExactDefinitely}
use Rattle.def_model.specs.Predicates.{Predicate, Recorded, test_of}
use Rattle.def_format.specs.Documents.{Document}
use Rattle.def_judgement.specs.Judgements.{AnswersDefinitely, definitely_back, definitely_beyond, definitely_late, definitely_within}
use Rattle.walk_back.specs.Answers.{definitely_answer_view}
use Rattle.walk_back.specs.declared.definitely_answer.DefinitelyAnswer.{DefinitelyAnswer}
use Rattle.walk_back.specs.declared.definitely_answer.DefinitelyAnswer.TheVariants.{Yes, No, Unknown}
use Rattle.pd_engine.specs.Paths.{HasProcessesBelow}
use Rattle.judge_session.proofs.RefusedPlaces.{all_ahead, all_after}

-- a process with a count is there
counted_process : (cut : List ℕ) (p : ℕ) → 0 < get_or cut p 0 → p < length cut
counted_process cut p some = go (cases_lt p (length cut))
  where
    go : (p < length cut) ⊎ (length cut ≤ p) → p < length cut
    go (inl lt) = lt
    go (inr le) = let none : get_or cut p 0 ≡ 0 = get_or_past cut p 0 le in absurd (omega (arith, some, none))

undone_processes : (c : Computation) (test : List ℕ → Bool) (n : ℕ) (cut path : List ℕ) → length cut ≡ n
    → IsUndoing c test cut path → All (λ p. p < n) path
undone_processes c test n cut [] e undone = λ k d below. absurd (omega arith)
undone_processes c test n cut (p ∷ rest) e undone =
    let lt : p < length cut = counted_process cut p undone.0.0 in
    All-cons (λ p. p < n) p rest (omega (arith, lt, e))
    (undone_processes c test n (one_less cut p) rest (length-set cut p _ ∙ e) undone.2)

all_reversed : (P : ℕ → Type 0) (xs : List ℕ) → All P (reverse xs) → All P xs
all_reversed P [] all = all
all_reversed P (x ∷ xs) all =
    let turned : All P (reverse xs ++ x ∷ []) = subst (All P) (reverse-append (x ∷ []) xs) all in
    All-cons P x xs (all_after P (reverse xs) (x ∷ []) turned 0 x (omega arith))
    (all_reversed P xs (all_ahead P (reverse xs) (x ∷ []) turned))

path_processes : (c : Computation) (test : List ℕ → Bool) (path : List ℕ) → IsPrintedPath c test path
    → All (λ p. p < length c) path
path_processes c test path printed =
    all_reversed (λ p. p < length c) path
    (undone_processes c test (length c) (full_cut c) (reverse path)
    (length-map c (λ (events : List Event). length events)) printed.1)

-- a path that is printed is of such processes, whichever width it is for
exactly_reported : (c : Computation) (test : List ℕ → Bool) (n : ℕ) (answer : DefinitelyAnswer) → length c ≡ n
    → IsExactDefinitely c test (definitely_answer_view answer) → HasProcessesBelow n answer
exactly_reported c test n (Yes level) e right = tt
exactly_reported c test n (No path) e right =
    subst (λ m. All (λ p. p < m) path.items) e (path_processes c test path.items right.1)
exactly_reported c test n (Unknown level) e right = tt

within_reported : (c : Computation) (test : List ℕ → Bool) (width n : ℕ) (answer : DefinitelyAnswer) → length c ≡ n
    → IsDefinitelyAnswer c test width (definitely_answer_view answer) → HasProcessesBelow n answer
within_reported c test width n (Yes level) e right = tt
within_reported c test width n (No path) e right =
    subst (λ m. All (λ p. p < m) path.items) e (path_processes c test path.items right.2)
within_reported c test width n (Unknown level) e right = tt

-- so is one that is found back, and a yes prints none
printed_reported : (c : Computation) (test : List ℕ → Bool) (n : ℕ) (answer : DefinitelyAnswer) (path : List ℕ)
    → length c ≡ n → IsPrintedPath c test path → definitely_answer_view answer ≡ DefinitelyNo path
    → HasProcessesBelow n answer
printed_reported c test n (Yes level) path e printed is = tt
printed_reported c test n (No own) path e printed is =
    let same : own.items ≡ path = cc in
    subst (λ m. All (λ p. p < m) own.items) e
    (path_processes c test own.items (subst (IsPrintedPath c test) (sym same) printed))
printed_reported c test n (Unknown level) path e printed is = tt

yes_reported : (n : ℕ) (answer : DefinitelyAnswer) (level : ℕ) → definitely_answer_view answer ≡ DefinitelyYes level
    → HasProcessesBelow n answer
yes_reported n (Yes own) level is = tt
yes_reported n (No path) level is = absurd (cc)
yes_reported n (Unknown own) level is = tt

pub answer_reported : (document : Document) (r : Recorded) (predicate : Predicate) (n : ℕ) (answer : DefinitelyAnswer)
    → length r.events ≡ n → AnswersDefinitely document r predicate (definitely_answer_view answer)
    → HasProcessesBelow n answer
answer_reported document r predicate n answer e (definitely_beyond asked decided exact) =
    exactly_reported r.events (test_of r predicate) n answer e exact
answer_reported document r predicate n answer e (definitely_back asked undecided path found is) =
    printed_reported r.events (test_of r predicate) n answer path e found.printed is
answer_reported document r predicate n answer e
    (definitely_late asked undecided none unknown wide level late is) =
    yes_reported n answer level is
answer_reported document r predicate n answer e (definitely_within undecided nothing right) =
    within_reported r.events (test_of r predicate) document.width n answer e right
