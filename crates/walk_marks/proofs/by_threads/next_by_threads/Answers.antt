-- The words at the spots are those of the runs.
use Rattle.std.proofs.Common.{◌≡◌, ◌+◌, ◌*◌, ◌<◌, ◌≤◌, ℕ, suc, List, length, get_or, sym, subst, ap, ◌∙◌, arith}
use Rattle.walk_marks.specs.RunPlaces.{run_at}
use Rattle.walk_marks.specs.Marks.{Marking, HasWords, IsShaped, IsMarking, bits_in, last_word, start_of}
use Rattle.walk_marks.specs.Spots.{AreSpots, IsWordOf, spot_at}
use Rattle.walk_marks.specs.declared.spots.Spot.{Spot}
use Rattle.walk_marks.proofs.PushedWords.{run_some, marking_of_words, start_below}
use Rattle.walk_marks.proofs.ByThreads.{words_at_spots}
use Rattle.walk_marks.proofs.by_threads.next_by_threads.Goals as goal

pub spots-requires : goal.spots-requires
spots-requires g c = run_some (g.T.RunTest.events c.args.test.now) c.args.level.now c.requires.level

pub returns-in-Some : goal.returns-in-Some
returns-in-Some g c =
    subst (λ (m : Marking). IsMarking (g.T.RunTest.events c.args.test.now) (g.T.RunTest.test c.args.test.now)
    c.args.level.now m) (sym c.new.ensures)
    (marking_of_words (g.T.RunTest.events c.args.test.now) (g.T.RunTest.test c.args.test.now) c.args.level.now
    marks c.requires.level shape (c.in-Some.ensures ∙ ap bits_in c.deref-2.ensures.value) has)
  where
    marks : Marking
    marks = record { first = c.in_ok-first.first.items; words = c.in_ok-words.words.items; count = c.in-Some.count }

    spots : AreSpots c.args.level.now.runs c.in_ok-first.first.items c.in_ok-first.spots.items
    spots = c.in_ok-first.ensures

    many : length c.in_ok-words.words.items ≡ length c.in_ok-first.spots.items
    many = c.in_ok-words.ensures.one_each ∙ ap (length {A = Spot}) c.deref.ensures.value

    has : (i : ℕ) → i < length c.args.level.now.runs
        → HasWords (g.T.RunTest.events c.args.test.now) (g.T.RunTest.test c.args.test.now) c.args.level.now.number
        (run_at c.args.level.now.runs i) c.in_ok-words.words.items (start_of c.args.level.now.runs i)
    has i lt =
        words_at_spots (g.T.RunTest.events c.args.test.now) (g.T.RunTest.test c.args.test.now)
        c.args.level.now.number (run_at c.args.level.now.runs i) c.in_ok-words.words.items
        (start_of c.args.level.now.runs i)
        (run_some (g.T.RunTest.events c.args.test.now) c.args.level.now c.requires.level i lt)
        (λ q le.
        let room : start_of c.args.level.now.runs i + suc (last_word (run_at c.args.level.now.runs i))
        ≤ start_of c.args.level.now.runs (length c.args.level.now.runs) =
        start_below c.args.level.now.runs i (length c.args.level.now.runs) lt (omega arith) in
        let within : start_of c.args.level.now.runs i + q < length c.deref.result.now =
        omega (arith, spots.ends, ap (length {A = Spot}) c.deref.ensures.value) in
        let is : spot_at c.deref.result.now (start_of c.args.level.now.runs i + q)
        ≡ record { run = i; x = (run_at c.args.level.now.runs i).lo + 64 * q } =
        ap (λ (ss : List Spot). spot_at ss (start_of c.args.level.now.runs i + q)) c.deref.ensures.value
        ∙ spots.spots_of i lt q le in
        subst (λ (s : Spot). IsWordOf (g.T.RunTest.events c.args.test.now) (g.T.RunTest.test c.args.test.now)
        c.args.level.now s (get_or c.in_ok-words.words.items (start_of c.args.level.now.runs i + q) 0)) is
        (c.in_ok-words.ensures.words (start_of c.args.level.now.runs i + q) within))

    shape : IsShaped c.args.level.now.runs marks
    shape = record {
      some = run_some (g.T.RunTest.events c.args.test.now) c.args.level.now c.requires.level;
      one_each = spots.one_each;
      starts = spots.starts;
      ends = many ∙ spots.ends;
      beyond = λ i d lt. (has i lt).beyond d;
    }
