-- The cut of the first mark, or no cut if there is none.
use Rattle.std.proofs.Common.{◌≡◌, ℕ, ◌<◌, Bool, false, List, [], length, get_or, map, sym, ap, ◌∙◌, arith}
use Rattle.std.proofs.lemmas.List.{get_or-map, length-map}
use Rattle.std.proofs.lemmas.Option.{get_or_from_slice_get}
use Rattle.def_model.specs.Predicates.{test_of}
use Rattle.pd_pred.specs.Views.{predicate_view}
use Rattle.walk_back.proofs.by_lists.first_marked.Goals as goal

-- the mark at a place is that of the cut there
mark_at : (test : List ℕ → Bool) (cuts : List (List ℕ)) (marks : List Bool) (i : ℕ) (m : Bool) (cut : List ℕ)
    → marks ≡ map test cuts → i < length cuts → test (get_or cuts i cut) ≡ get_or marks i m
mark_at test cuts marks i m cut e lt =
    sym (ap (λ (l : List Bool). get_or l i m) e ∙ get_or-map test cuts i cut m lt)

-- as many marks as cuts
one_each : (test : List ℕ → Bool) (cuts : List (List ℕ)) (marks : List Bool) → marks ≡ map test cuts
    → length marks ≡ length cuts
one_each test cuts marks e = ap (λ (l : List Bool). length l) e ∙ length-map cuts test

pub returns-then-marks-i-clause-found : goal.returns-then-marks-i-clause-found
returns-then-marks-i-clause-found c =
    let test = test_of c.args._computation.now (predicate_view c.args._pred.now) in
    let cuts = c.args.level.now.cuts in
    let marks = c.args.marks.now in
    let many : length marks ≡ length cuts = one_each test cuts marks c.requires in
    let within : c.loop-i.i < length cuts = omega (arith, c.loop-i-test.true, many) in
    let here : get_or cuts c.loop-i.i [] ≡ c.cut.result =
    get_or_from_slice_get cuts c.loop-i.i c.cut.result [] c.cut.ensures in (
      c.loop-i.i,
      within,
      here,
      ap test (sym here) ∙ mark_at test cuts marks c.loop-i.i false [] c.requires within ∙ c.if-marks-i.true,
      λ j lt. mark_at test cuts marks j false [] c.requires (omega arith) ∙ c.loop-i.invariant j lt,
    )

pub returns-clause-none : goal.returns-clause-none
returns-clause-none c = λ k d lt.
    let test = test_of c.args._computation.now (predicate_view c.args._pred.now) in
    let cuts = c.args.level.now.cuts in
    let marks = c.args.marks.now in
    let many : length marks ≡ length cuts = one_each test cuts marks c.requires in
    mark_at test cuts marks k false d c.requires lt
    ∙ c.loop-i.invariant k (omega (arith, c.loop-i-test.false, many))
