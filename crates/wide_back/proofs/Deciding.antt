-- What the search comes to.
use Rattle.std.proofs.Common.{◌≡◌, ◌≢◌, ◌+◌, ◌<◌, ◌≤◌, inr, ℕ, true, false, List, [], ◌∷◌, length, get_or, reverse, sum, refl, sym, ap, ◌∙◌, subst, Contains, arith}
use Rattle.std.proofs.lemmas.Bool.{false≢true}
use Rattle.std.proofs.lemmas.List.{reverse-reverse}
use Rattle.std.proofs.lemmas.List.Elements.{Contains-get_or}
use Rattle.def_model.specs.Answers.{IsPrintedPath, IsUndoing, LexBelow}
use Rattle.def_model.specs.Cuts.{IsConsistent, empty_cut, full_cut, total}
use Rattle.def_model.specs.Events.{IsEvent}
use Rattle.def_model.specs.Observations.{Definitely, IsAvoiding}
use Rattle.def_model.specs.Order.{HasNoCycle}
use Rattle.def_model.specs.Predicates.{Predicate, Recorded, test_of}
use Rattle.def_model.proofs.AvoidingCuts.{avoiding_fails}
use Rattle.def_model.proofs.Counts.{empty_from_sum, full_at, in_range, length_full}
use Rattle.def_model.proofs.Paths.{avoiding_level, free_level_decides}
use Rattle.def_model.proofs.Steps.{full_from_sum}
use Rattle.def_model.proofs.Chains.{events_of_happens}
use Rattle.def_wide.specs.DeadEnds.{AreApart, AreDead, AreDeadBefore, AreOver, EndsBack, IsDeadEnd, IsFoundBack, named_counts}
use Rattle.wide_back.specs.Searches.{AreDeadEnds, AreTried, IsAdded, IsAt, IsReachedBefore, IsTried, IsWayTo}
use Rattle.wide_back.proofs.Closing.{dead_fails, ends_more}
use Rattle.wide_back.proofs.Coming.{leads_dead, leads_open, lower_dead, stuck_fails, way_before, way_found, way_leads, way_more, way_next, way_open, way_sum, way_tried}
use Rattle.wide_back.proofs.Counting.{added_first, apart_within}

module _ (r : Recorded) (predicate : Predicate) where
  -- if all that P holds of are in the list, no more are than it is long
  not_over : (w : ℕ) (P : List ℕ → Type 0) (dead : List (List ℕ)) → length dead ≤ w
      → ((counts : List ℕ) → P counts → Contains dead counts) → ¬ AreOver w P
  not_over w P dead few within over =
      let le : length over.each ≤ length dead =
      apart_within over.each dead over.apart (λ i lt. within (get_or over.each i []) (over.just i [] lt)) in
      let more : w < length over.each = over.over in
      absurd (omega arith)

  -- ---- the search begins

  -- the full cut is consistent
  full_consistent : IsConsistent r.events (full_cut r.events)
  full_consistent =
      record {
        fits = record { one_each = length_full r.events; within = λ p. rw full_at (omega arith) };
        closed = λ e f before there.
            let is : IsEvent r.events e = (events_of_happens r.events e f before).0 in (is.0, rw full_at (is.1));
      }

  pub begun : (dead : List (List ℕ)) (undone cut : List ℕ) → dead ≡ [] → undone ≡ [] → cut ≡ full_cut r.events
      → test_of r predicate cut ≡ false → AreDeadEnds r predicate dead × IsAt r predicate dead undone cut 0
  begun dead undone cut none empty full fails = (
    record {
      closed = λ other p open_other there. absurd (nothing (named_counts predicate other) there);
      some = λ other ok there. absurd (nothing (named_counts predicate other) there);
      reached = λ counts there. absurd (nothing counts there);
    },
    record {
      way = subst (λ (ps : List ℕ). IsWayTo r predicate dead (full_cut r.events) ps cut 0) (sym empty) (
        (full_consistent, subst (λ (x : List ℕ). test_of r predicate x ≡ false) full fails),
        λ q lt. absurd (omega arith),
        sym full,
      );
      fresh = nothing (named_counts predicate cut);
    },
  )
    where
      nothing : (counts : List ℕ) → ¬ Contains dead counts
      nothing counts there =
          let w : Contains [] counts = subst (λ (xs : List (List ℕ)). Contains xs counts) none there in
          let lt : w.0 < length {A = List ℕ} [] = w.1 in
          absurd (omega arith)

  -- where no process that there is needs a look, none does
  pub all_tried : (dead : List (List ℕ)) (cut : List ℕ) → AreTried r predicate dead cut (length cut) → (p : ℕ)
      → IsTried r predicate dead cut p
  all_tried dead cut tried p leaves = tried p (in_range cut p leaves.0) leaves

  -- ---- found

  pub found : (dead : List (List ℕ)) (undone cut : List ℕ) (next limit : ℕ) → AreDeadEnds r predicate dead
      → IsAt r predicate dead undone cut next → length undone ≡ total r.events → length dead ≤ limit
      → (path : List ℕ) → path ≡ reverse undone → IsFoundBack r predicate limit path
  found dead undone cut next limit ends at all few path is =
      record {
        printed = (
          ways.0,
          subst (λ (ps : List ℕ). IsUndoing r.events (test_of r predicate) (full_cut r.events) ps) (sym back) ways.1,
        );
        few = not_over limit (AreDeadBefore r predicate path) dead few within;
      }
    where
      back : reverse path ≡ undone
      back = ap reverse is ∙ reverse-reverse undone

      empty : cut ≡ empty_cut r.events
      empty =
          let split : total r.events ≡ length undone + sum cut =
          way_sum r predicate dead (full_cut r.events) undone cut next at.way in
          empty_from_sum r.events cut
          (way_open r predicate dead (full_cut r.events) undone cut next at.way).0.fits.one_each (omega arith)

      ways : IsAvoiding r.events (test_of r predicate) (total r.events) (full_cut r.events)
          × IsUndoing r.events (test_of r predicate) (full_cut r.events) undone
      ways = way_found r predicate dead ends (full_cut r.events) undone cut next at.way empty

      within : (counts : List ℕ) → AreDeadBefore r predicate path counts → Contains dead counts
      within counts (other, end, below) =
          subst (λ (xs : List ℕ). Contains dead xs) (sym end.seen)
          (lower_dead r predicate dead ends (full_cut r.events) undone cut next at.way other end.cut end.reached
          (subst (λ (ps : List ℕ). LexBelow other ps) back below))

  -- ---- passed

  -- if the full cut doesn't avoid, every observation passes
  full_passes : ¬ IsAvoiding r.events (test_of r predicate) (total r.events) (full_cut r.events)
      → Definitely r.events (test_of r predicate)
  full_passes fails =
      free_level_decides r.events (test_of r predicate) (total r.events) (omega arith) (λ cut a.
      fails (subst (λ (x : List ℕ). IsAvoiding r.events (test_of r predicate) (total r.events) x)
      (full_from_sum r.events cut (avoiding_level r.events (test_of r predicate) (total r.events) cut a).0
      (avoiding_level r.events (test_of r predicate) (total r.events) cut a).1) a))

  pub passed_at_once : (limit : ℕ) → test_of r predicate (full_cut r.events) ≡ true → EndsBack r predicate limit
  passed_at_once limit holds =
      record {
        passed = full_passes (λ a. false≢true (sym (avoiding_fails r.events (test_of r predicate) (total r.events)
            (full_cut r.events) a) ∙ holds));
        few = not_over limit (AreDead r predicate) [] (omega arith) (λ counts dead. absurd (none counts dead));
      }
    where
      none : (counts : List ℕ) → ¬ AreDead r predicate counts
      none counts (undone, end) =
          false≢true (sym (leads_open r predicate (full_cut r.events) undone end.cut end.reached).1 ∙ holds)

  pub passed : (dead : List (List ℕ)) (limit : ℕ) → AreDeadEnds r predicate dead
      → Contains dead (named_counts predicate (full_cut r.events)) → length dead ≤ limit
      → EndsBack r predicate limit
  passed dead limit ends there few =
      record {
        passed = full_passes (dead_fails r predicate dead ends (full_cut r.events) there);
        few = not_over limit (AreDead r predicate) dead few within;
      }
    where
      within : (counts : List ℕ) → AreDead r predicate counts → Contains dead counts
      within counts (undone, end) =
          subst (λ (xs : List ℕ). Contains dead xs) (sym end.seen)
          (leads_dead r predicate dead ends (full_cut r.events) undone end.cut end.reached there)

  -- ---- one more dead end

  -- the search is at a cut of which each process is tried
  module _ (acyclic : HasNoCycle r.events) (dead : List (List ℕ)) (undone cut : List ℕ)
      (ends : AreDeadEnds r predicate dead) (at : IsAt r predicate dead undone cut (length cut))
      (more : length undone ≢ total r.events) where
    tried : (p : ℕ) → IsTried r predicate dead cut p
    tried =
        all_tried dead cut (way_tried r predicate dead (full_cut r.events) undone cut (length cut) at.way)

    some : 0 < sum cut
    some =
        let split : total r.events ≡ length undone + sum cut =
        way_sum r predicate dead (full_cut r.events) undone cut (length cut) at.way in omega arith

    here : IsReachedBefore r predicate (named_counts predicate cut)
    here = record {
      undone = undone;
      cut = cut;
      reached = way_leads r predicate dead (full_cut r.events) undone cut (length cut) at.way;
      seen = refl;
      before = λ path printed.
          way_before r predicate dead ends (full_cut r.events) undone cut (length cut) at.way
          (stuck_fails r predicate dead ends cut tried some) printed.0 (reverse path) printed.1;
    }

    pub stuck_ends : (new : List (List ℕ)) → IsAdded dead (named_counts predicate cut) new
        → AreDeadEnds r predicate new
    stuck_ends new added =
        ends_more r predicate acyclic dead cut
        (way_open r predicate dead (full_cut r.events) undone cut (length cut) at.way) tried at.fresh new added ends
        some here

    pub stuck_way : (new : List (List ℕ)) → IsAdded dead (named_counts predicate cut) new
        → IsWayTo r predicate new (full_cut r.events) undone cut 0
    stuck_way new added =
        way_next r predicate new (full_cut r.events) undone cut (length cut) 0
        (way_more r predicate dead new (λ counts there. (added counts).1 (inr there)) (full_cut r.events) undone cut
        (length cut) at.way) (λ q lt. absurd (omega arith))

    -- ---- undecided

    pub undecided : (limit : ℕ) → AreApart dead → limit ≤ length dead
        → ((path : List ℕ) → ¬ IsFoundBack r predicate limit path) × (¬ EndsBack r predicate limit)
    undecided limit apart over =
        (λ path found. found.few (over_before path found.printed), λ passed. passed.few over_all)
      where
        new : List (List ℕ)
        new = named_counts predicate cut ∷ dead

        all : AreDeadEnds r predicate new
        all = stuck_ends new (added_first dead (named_counts predicate cut))

        end_of : (counts : List ℕ) → (before : IsReachedBefore r predicate counts) → Contains new counts
            → IsDeadEnd r predicate before.undone counts
        end_of counts before there =
            record {
              cut = before.cut;
              reached = before.reached;
              dead = dead_fails r predicate new all before.cut
                  (subst (λ (xs : List ℕ). Contains new xs) before.seen there);
              seen = before.seen;
            }

        each : (i : ℕ) (d : List ℕ) → i < length new → Contains new (get_or new i d)
        each i d lt = Contains-get_or new i d lt

        over_before : (path : List ℕ) → IsPrintedPath r.events (test_of r predicate) path
            → AreOver limit (AreDeadBefore r predicate path)
        over_before path printed =
            record {
              each = new;
              apart = (at.fresh, apart);
              just = λ i d lt.
                  let before : IsReachedBefore r predicate (get_or new i d) =
                  all.reached (get_or new i d) (each i d lt) in
                  (before.undone, end_of (get_or new i d) before (each i d lt), before.before path printed);
              over = omega arith;
            }

        over_all : AreOver limit (AreDead r predicate)
        over_all =
            record {
              each = new;
              apart = (at.fresh, apart);
              just = λ i d lt.
                  let before : IsReachedBefore r predicate (get_or new i d) =
                  all.reached (get_or new i d) (each i d lt) in
                  (before.undone, end_of (get_or new i d) before (each i d lt));
              over = omega arith;
            }
