-- How the search comes back to a cut, and what it has found when it is there.
use Rattle.std.proofs.Common.{◌≡◌, ◌+◌, ◌-◌, ◌<◌, ◌≤◌, ◌⊎◌, inl, inr, ℕ, List, [], ◌∷◌, ◌++◌, length, get_or, sum, sym, ap, ◌∙◌, subst, Contains, below_more, arith}
use Rattle.std.proofs.lemmas.Bool.{cases_lt}
use Rattle.def_model.specs.Answers.{IsUndoing, LeavesAvoiding, LexBelow}
use Rattle.def_model.specs.Cuts.{empty_cut, full_cut, one_less, one_more}
use Rattle.def_model.specs.Events.{event_count}
use Rattle.def_model.specs.Observations.{IsAvoiding}
use Rattle.def_model.specs.Predicates.{Predicate, Recorded, test_of}
use Rattle.def_model.proofs.AvoidingCuts.{avoiding_more}
use Rattle.def_model.proofs.Counts.{in_range, length_less, less_same, empty_at, more_less, sum_empty, sum_less}
use Rattle.def_model.proofs.Walks.{avoiding_from_reached}
use Rattle.def_model.proofs.WalkSteps.{some_undone}
use Rattle.def_wide.specs.DeadEnds.{IsOpen, LeadsBack, named_counts}
use Rattle.wide_back.specs.Searches.{AreDeadEnds, AreTried, IsAt, IsStep, IsTried, IsWayTo, LeavesOpen, seen_without}
use Rattle.wide_back.proofs.Closing.{dead_fails, leaves_open}

-- a way back begins at an open cut
pub leads_open : (r : Recorded) (predicate : Predicate) (from undone cut : List ℕ)
    → LeadsBack r.events (test_of r predicate) from undone cut → IsOpen r.events (test_of r predicate) from
leads_open r predicate from [] cut leads = leads.0
leads_open r predicate from (p ∷ undone) cut leads = leads.0

module _ (r : Recorded) (predicate : Predicate) (dead : List (List ℕ)) where
  -- ---- where it is

  pub way_open : (from undone cut : List ℕ) (next : ℕ) → IsWayTo r predicate dead from undone cut next
      → IsOpen r.events (test_of r predicate) cut
  way_open from [] cut next way = subst (λ (x : List ℕ). IsOpen r.events (test_of r predicate) x) way.2 way.0
  way_open from (p ∷ undone) cut next way = way_open (one_less from p) undone cut next way.3

  pub way_tried : (from undone cut : List ℕ) (next : ℕ) → IsWayTo r predicate dead from undone cut next
      → AreTried r predicate dead cut next
  way_tried from [] cut next way = subst (λ (x : List ℕ). AreTried r predicate dead x next) way.2 way.1
  way_tried from (p ∷ undone) cut next way = way_tried (one_less from p) undone cut next way.3

  pub way_sum : (from undone cut : List ℕ) (next : ℕ) → IsWayTo r predicate dead from undone cut next
      → sum from ≡ length undone + sum cut
  way_sum from [] cut next way = let same : sum from ≡ sum cut = ap sum way.2 in omega arith
  way_sum from (p ∷ undone) cut next way =
      let rest : sum (one_less from p) ≡ length undone + sum cut = way_sum (one_less from p) undone cut next way.3 in
      let one : sum (one_less from p) + 1 ≡ sum from = sum_less from p way.2 in
      omega arith

  pub way_leads : (from undone cut : List ℕ) (next : ℕ) → IsWayTo r predicate dead from undone cut next
      → LeadsBack r.events (test_of r predicate) from undone cut
  way_leads from [] cut next way = (way.0, way.2)
  way_leads from (p ∷ undone) cut next way = (way.0, way.2, way_leads (one_less from p) undone cut next way.3)

  -- ---- one step down, and one back up

  pub way_push : (from undone cut : List ℕ) (next p : ℕ) → IsWayTo r predicate dead from undone cut next
      → AreTried r predicate dead cut p → LeavesOpen r predicate cut p
      → IsWayTo r predicate dead from (undone ++ p ∷ []) (one_less cut p) 0
  way_push from [] cut next p way tried leaves = (
    way.0,
    subst (λ (x : List ℕ). AreTried r predicate dead x p) (sym way.2) tried,
    subst (λ (x : List ℕ). 0 < get_or x p 0) (sym way.2) leaves.0,
    (
      subst (λ (x : List ℕ). IsOpen r.events (test_of r predicate) (one_less x p)) (sym way.2) leaves.1,
      λ q lt. absurd (omega arith),
      ap (λ (x : List ℕ). one_less x p) way.2,
    ),
  )
  way_push from (q ∷ undone) cut next p way tried leaves = (
    way.0,
    way.1,
    way.2,
    way_push (one_less from q) undone cut next p way.3 tried leaves,
  )

  pub way_room : (from undone cut : List ℕ) (next p : ℕ) → IsWayTo r predicate dead from (undone ++ p ∷ []) cut next
      → (p < length cut) × (get_or cut p 0 < event_count r.events p)
  way_room from [] cut next p way =
      let there : p < length from = in_range from p way.2 in
      let count : length cut ≡ length from = ap length (sym way.3.2) ∙ length_less from p in
      let fewer : get_or cut p 0 + 1 ≡ get_or from p 0 =
      ap (λ (x : List ℕ). get_or x p 0 + 1) (sym way.3.2) ∙ less_same from p way.2 in
      let within : get_or from p 0 ≤ event_count r.events p = way.0.0.fits.within p in
      (omega arith, omega arith)
  way_room from (q ∷ undone) cut next p way = way_room (one_less from q) undone cut next p way.3

  pub way_pop : (from undone cut : List ℕ) (next p : ℕ) → IsWayTo r predicate dead from (undone ++ p ∷ []) cut next
      → Contains dead (named_counts predicate cut) → IsWayTo r predicate dead from undone (one_more cut p) (p + 1)
  way_pop from [] cut next p way there = (
    way.0,
    below_more (IsTried r predicate dead from) p way.1
        (λ leaves. subst (λ (x : List ℕ). Contains dead (named_counts predicate x)) (sym way.3.2) there),
    sym (more_less from p way.2) ∙ ap (λ (x : List ℕ). one_more x p) way.3.2,
  )
  way_pop from (q ∷ undone) cut next p way there = (
    way.0,
    way.1,
    way.2,
    way_pop (one_less from q) undone cut next p way.3 there,
  )

  -- the same by what was undone before
  pub split_room : (from before undone cut : List ℕ) (next p : ℕ) → before ≡ undone ++ p ∷ []
      → IsWayTo r predicate dead from before cut next
      → (p < length cut) × (get_or cut p 0 < event_count r.events p)
  split_room from before undone cut next p split way =
      way_room from undone cut next p
      (subst (λ (ps : List ℕ). IsWayTo r predicate dead from ps cut next) split way)

  pub split_pop : (from before undone cut new : List ℕ) (next p : ℕ) → before ≡ undone ++ p ∷ []
      → new ≡ one_more cut p → IsWayTo r predicate dead from before cut next
      → Contains dead (named_counts predicate cut) → IsWayTo r predicate dead from undone new (p + 1)
  split_pop from before undone cut new next p split is way there =
      subst (λ (x : List ℕ). IsWayTo r predicate dead from undone x (p + 1)) (sym is)
      (way_pop from undone cut next p
      (subst (λ (ps : List ℕ). IsWayTo r predicate dead from ps cut next) split way) there)

  -- with other processes that need no look at the last cut
  pub way_next : (from undone cut : List ℕ) (next after : ℕ) → IsWayTo r predicate dead from undone cut next
      → AreTried r predicate dead cut after → IsWayTo r predicate dead from undone cut after
  way_next from [] cut next after way tried = (
    way.0,
    subst (λ (x : List ℕ). AreTried r predicate dead x after) (sym way.2) tried,
    way.2,
  )
  way_next from (q ∷ undone) cut next after way tried = (
    way.0,
    way.1,
    way.2,
    way_next (one_less from q) undone cut next after way.3 tried,
  )

  -- the same of where the search is
  pub at_next : (undone cut : List ℕ) (next after : ℕ) → IsAt r predicate dead undone cut next
      → AreTried r predicate dead cut after → IsAt r predicate dead undone cut after
  at_next undone cut next after at tried = record {
    way = way_next (full_cut r.events) undone cut next after at.way tried;
    fresh = at.fresh;
  }

  pub at_push : (undone cut : List ℕ) (next p : ℕ) → IsAt r predicate dead undone cut next
      → IsStep r predicate dead cut p → AreTried r predicate dead cut p
      → IsAt r predicate dead (undone ++ p ∷ []) (one_less cut p) 0
  at_push undone cut next p at step tried = record {
    way = way_push (full_cut r.events) undone cut next p at.way tried step.leaves;
    fresh = step.fresh;
  }

  -- with more dead ends
  pub way_more : (new : List (List ℕ)) → ((counts : List ℕ) → Contains dead counts → Contains new counts)
      → (from undone cut : List ℕ) (next : ℕ) → IsWayTo r predicate dead from undone cut next
      → IsWayTo r predicate new from undone cut next
  way_more new keeps from [] cut next way = (
    way.0,
    λ q lt leaves. keeps (seen_without predicate from q) (way.1 q lt leaves),
    way.2,
  )
  way_more new keeps from (p ∷ undone) cut next way = (
    way.0,
    λ q lt leaves. keeps (seen_without predicate from q) (way.1 q lt leaves),
    way.2,
    way_more new keeps (one_less from p) undone cut next way.3,
  )

  -- ---- what it has found

  module _ (ends : AreDeadEnds r predicate dead) where
    -- a process that was passed over leaves no avoiding cut
    tried_fails : (cut : List ℕ) (p : ℕ) → IsTried r predicate dead cut p
        → ¬ LeavesAvoiding r.events (test_of r predicate) cut p
    tried_fails cut p tried leaves =
        dead_fails r predicate dead ends (one_less cut p) (tried (leaves_open r predicate cut p leaves)) leaves.1

    -- where all are passed over, the cut doesn't avoid
    pub stuck_fails : (cut : List ℕ) → ((p : ℕ) → IsTried r predicate dead cut p) → 0 < sum cut
        → ¬ IsAvoiding r.events (test_of r predicate) (sum cut) cut
    stuck_fails cut tried some a =
        let up : sum cut ≡ sum cut - 1 + 1 = omega arith in
        let w : (p : ℕ) × (p < length cut) × LeavesAvoiding r.events (test_of r predicate) cut p =
        some_undone r.events (test_of r predicate) (sum cut - 1) cut
        (subst (λ (n : ℕ). IsAvoiding r.events (test_of r predicate) n cut) up a) in
        tried_fails cut w.0 (tried w.0) w.2

    -- a cut that doesn't avoid is come to before a path is found
    pub way_before : (from undone cut : List ℕ) (next : ℕ) → IsWayTo r predicate dead from undone cut next
        → ¬ IsAvoiding r.events (test_of r predicate) (sum cut) cut
        → IsAvoiding r.events (test_of r predicate) (sum from) from → (path : List ℕ)
        → IsUndoing r.events (test_of r predicate) from path → LexBelow undone path
    way_before from [] cut next way fails avoids path undoing =
        fails (subst (λ (x : List ℕ). IsAvoiding r.events (test_of r predicate) (sum x) x) way.2 avoids)
    way_before from (p ∷ undone) cut next way fails avoids [] empty =
        let none : get_or from p 0 ≡ 0 =
        ap (λ (x : List ℕ). get_or x p 0) empty ∙ empty_at r.events p in
        let has : 0 < get_or from p 0 = way.2 in
        absurd (omega arith)
    way_before from (p ∷ undone) cut next way fails avoids (q ∷ path) undoing =
        go (cases_lt p q) (cases_lt q p)
        (λ a rest. way_before (one_less from p) undone cut next way.3 fails a path rest)
      where
        go : (p < q) ⊎ (q ≤ p) → (q < p) ⊎ (p ≤ q)
            → (IsAvoiding r.events (test_of r predicate) (sum (one_less from p)) (one_less from p)
            → IsUndoing r.events (test_of r predicate) (one_less from p) path → LexBelow undone path)
            → LexBelow (p ∷ undone) (q ∷ path)
        go (inl less) other below = inl less
        go (inr le) (inl less) below = absurd (tried_fails from q (way.1 q less) undoing.0)
        go (inr le) (inr ge) below =
            let same : q ≡ p = omega arith in
            let leaves : LeavesAvoiding r.events (test_of r predicate) from p =
            subst (λ (n : ℕ). LeavesAvoiding r.events (test_of r predicate) from n) same undoing.0 in
            let rest : IsUndoing r.events (test_of r predicate) (one_less from p) path =
            subst (λ (n : ℕ). IsUndoing r.events (test_of r predicate) (one_less from n) path) same undoing.2 in
            inr (sym same, below leaves.1 rest)

    -- at the empty cut a path is found
    pub way_found : (from undone cut : List ℕ) (next : ℕ) → IsWayTo r predicate dead from undone cut next
        → cut ≡ empty_cut r.events → IsAvoiding r.events (test_of r predicate) (sum from) from
        × IsUndoing r.events (test_of r predicate) from undone
    way_found from [] cut next way empty =
        let same : from ≡ empty_cut r.events = way.2 ∙ empty in
        let none : sum from ≡ 0 = ap sum same ∙ sum_empty r.events in (
          subst (λ (n : ℕ). IsAvoiding r.events (test_of r predicate) n from) (sym none)
              (avoiding_from_reached r.events (test_of r predicate) 0 from (way.0.0, way.0.1, same)),
          same,
        )
    way_found from (p ∷ undone) cut next way empty =
        let rest : IsAvoiding r.events (test_of r predicate) (sum (one_less from p)) (one_less from p)
        × IsUndoing r.events (test_of r predicate) (one_less from p) undone =
        way_found (one_less from p) undone cut next way.3 empty in (
          avoiding_more r.events (test_of r predicate) from p way.0.0 way.0.1 (way.2, rest.0),
          ((way.2, rest.0), λ q lt. tried_fails from q (way.1 q lt), rest.1),
        )

    -- from a dead end each way back leads to one
    pub leads_dead : (from undone cut : List ℕ) → LeadsBack r.events (test_of r predicate) from undone cut
        → Contains dead (named_counts predicate from) → Contains dead (named_counts predicate cut)
    leads_dead from [] cut leads there =
        subst (λ (x : List ℕ). Contains dead (named_counts predicate x)) leads.1 there
    leads_dead from (p ∷ undone) cut leads there =
        leads_dead (one_less from p) undone cut leads.2
        (ends.closed from p leads.0 there (leads.1, leads_open r predicate (one_less from p) undone cut leads.2))

    -- so does each that undoes a lesser process first
    pub lower_dead : (from undone cut : List ℕ) (next : ℕ) → IsWayTo r predicate dead from undone cut next
        → (other low : List ℕ) → LeadsBack r.events (test_of r predicate) from other low → LexBelow other undone
        → Contains dead (named_counts predicate low)
    lower_dead from undone cut next way [] low leads below = absurd below
    lower_dead from [] cut next way (q ∷ other) low leads below = absurd below
    lower_dead from (p ∷ undone) cut next way (q ∷ other) low leads below =
        go below (λ rest lower. lower_dead (one_less from p) undone cut next way.3 other low rest lower)
      where
        go : (q < p) ⊎ ((q ≡ p) × LexBelow other undone)
            → (LeadsBack r.events (test_of r predicate) (one_less from p) other low → LexBelow other undone
            → Contains dead (named_counts predicate low)) → Contains dead (named_counts predicate low)
        go (inl less) deeper =
            leads_dead (one_less from q) other low leads.2
            (way.1 q less (leads.1, leads_open r predicate (one_less from q) other low leads.2))
        go (inr (same, rest)) deeper =
            deeper
            (subst (λ (n : ℕ). LeadsBack r.events (test_of r predicate) (one_less from n) other low) same leads.2) rest
