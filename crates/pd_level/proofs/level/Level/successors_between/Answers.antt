-- The keys that are made are those of the cuts between.
use Rattle.std.proofs.Common.{◌≡◌, Bool, ℕ, ◌<◌, ◌≤◌, List, length, refl, ap, sym, subst, arith}
use Rattle.std.specs.Prelude.{All}
use Rattle.def_format.specs.Limits.{event_limit}
use Rattle.def_model.specs.Events.{Computation, event_count}
use Rattle.def_model.specs.Answers.{IsListOf}
use Rattle.def_model.specs.Cuts.{IsConsistent}
use Rattle.walk_keys.specs.Keys.{AreKeys}
use Rattle.pd_level.specs.MoreCuts.{AreCuts, IsMoreBySome}
use Rattle.pd_level.specs.Levels.{FitsKind, HasRoom, Levelled, cuts_of, is_single, numbers}
use Rattle.pd_level.specs.declared.keys.Keys.{Keys}
use Rattle.pd_level.specs.declared.keys.Keys.TheVariants as kind
use Rattle.pd_level.proofs.Levels.{IsNextBetween, are_cuts, length-cuts, next_keys, next_list, process_count, some_keys}
use Rattle.pd_level.proofs.level.Level.successors_between.Goals as goal
use Rattle.pd_level.proofs.level.Level.successors_between.Goals.{in-Single+in_ok-more_by_any-in-Single, in-Pairs+in_ok-more_by_any-in-Pairs}

-- the list of the keys, by the number of processes and the view of the level
of_view : (c : Computation) (n m from to : ℕ) (keys next : List ℕ) (level : Levelled)
    → ((q : ℕ) → event_count c q ≤ event_limit)
    → cuts_of n keys ≡ level.cuts → All (IsConsistent c) level.cuts → AreKeys n keys
    → (0 < from → from < length level.cuts) → IsMoreBySome c keys from to 0 (length c) next → m ≡ length c
    → IsListOf (IsNextBetween c level.cuts from to) (cuts_of m next)
of_view c n m from to keys next level small same all own bound more many =
    subst (λ (k : ℕ). IsListOf (IsNextBetween c level.cuts from to) (cuts_of k next)) (sym many)
    (subst (λ (cuts : List (List ℕ)). IsListOf (IsNextBetween c cuts from to) (cuts_of (length c) next)) same
    (next_list c n keys next from to small (subst (λ (cuts : List (List ℕ)). All (IsConsistent c) cuts) (sym same) all)
    own (λ some. let lt = bound some in omega (arith, ap length same, length-cuts n keys)) more))

-- the keys of the level are those of its cuts
all_cuts : (c : Computation) (n number : ℕ) (inside : Keys) (level : Levelled)
    → record { number = number; cuts = cuts_of n (numbers inside) } ≡ level → All (IsConsistent c) level.cuts
    → All (IsConsistent c) (cuts_of n (numbers inside))
all_cuts c n number inside level view all =
    subst (λ (l : Levelled). All (IsConsistent c) l.cuts) (sym view) all

-- if there is a key, it has room for the counts of all processes
room_for : (c : Computation) (n : ℕ) (inside : Keys) → All (IsConsistent c) (cuts_of n (numbers inside))
    → HasRoom n inside → 0 < length (numbers inside) → FitsKind (length c) (is_single inside)
room_for c n inside all room some =
    subst (λ (k : ℕ). FitsKind k (is_single inside)) (process_count c n (numbers inside) 0 all some) (room some)

pub more_by_any-requires-clause-few : goal.more_by_any-requires-clause-few
more_by_any-requires-clause-few c =
    let events = c.args.computation.now.events in
    let all = all_cuts events c.level.inside.processes c.level.inside.number c.level.inside.keys c.args.level.now
    c.level.view_is c.requires.cuts in
    subst (λ (k : Keys). 0 < length (numbers k) → FitsKind (length events) (is_single k)) c.in-Single.is
    (room_for events c.level.inside.processes c.level.inside.keys all c.level.invariant.1)

pub more_by_any-requires-clause-cuts : goal.more_by_any-requires-clause-cuts
more_by_any-requires-clause-cuts c =
    let events = c.args.computation.now.events in
    let all = all_cuts events c.level.inside.processes c.level.inside.number c.level.inside.keys c.args.level.now
    c.level.view_is c.requires.cuts in
    subst (λ (k : Keys). AreCuts events (numbers k)) c.in-Single.is
    (are_cuts events c.level.inside.processes (numbers c.level.inside.keys) c.level.invariant.0.are_keys all)

pub more_by_any-requires-in-Pairs-clause-cuts : goal.more_by_any-requires-in-Pairs-clause-cuts
more_by_any-requires-in-Pairs-clause-cuts c =
    let events = c.args.computation.now.events in
    let all = all_cuts events c.level.inside.processes c.level.inside.number c.level.inside.keys c.args.level.now
    c.level.view_is c.requires.cuts in
    subst (λ (k : Keys). AreCuts events (numbers k)) c.in-Pairs.is
    (are_cuts events c.level.inside.processes (numbers c.level.inside.keys) c.level.invariant.0.are_keys all)

-- what is made of the level's keys, of their kind
abbrev MadeOf : Computation → ℕ → ℕ → Keys → Keys → Type 0
MadeOf c from to keys made =
    IsMoreBySome c (numbers keys) from to 0 (length c) (numbers made) × (is_single made ≡ is_single keys)

made_single : (c : Computation) (from to : ℕ) (keys made : Keys) (list more : List ℕ) → keys ≡ kind.Single list
    → made ≡ kind.Single more → IsMoreBySome c list from to 0 (length c) more → MadeOf c from to keys made
made_single c from to keys made list more is made_is h =
    subst (λ (k : Keys). MadeOf c from to k made) (sym is)
    (subst (λ (k : Keys). MadeOf c from to (kind.Single list) k) (sym made_is) (h, refl))

made_pairs : (c : Computation) (from to : ℕ) (keys made : Keys) (list more : List ℕ) → keys ≡ kind.Pairs list
    → made ≡ kind.Pairs more → IsMoreBySome c list from to 0 (length c) more → MadeOf c from to keys made
made_pairs c from to keys made list more is made_is h =
    subst (λ (k : Keys). MadeOf c from to k made) (sym is)
    (subst (λ (k : Keys). MadeOf c from to (kind.Pairs list) k) (sym made_is) (h, refl))

-- the keys that are made are of the kind for the processes
made_room : (c : Computation) (n m from to : ℕ) (keys made : Keys) → All (IsConsistent c) (cuts_of n (numbers keys))
    → HasRoom n keys → MadeOf c from to keys made → m ≡ length c → HasRoom m made
made_room c n m from to keys made all room is many some =
    subst (λ (b : Bool). FitsKind m b) (sym is.1)
    (subst (λ (k : ℕ). FitsKind k (is_single keys)) (sym many)
    (room_for c n keys all room (some_keys c (numbers keys) (numbers made) from to is.0 some)))

pub invariant_of-result : goal.invariant_of-result
invariant_of-result c =
    let events = c.args.computation.now.events in
    let keys = c.level.inside.keys in
    let all = all_cuts events c.level.inside.processes c.level.inside.number keys c.args.level.now c.level.view_is
    c.requires.cuts in
    let made : MadeOf events c.args.from c.args.to keys c.match-level.keys =
    elim c.match-level.branch [
      | in-Single+in_ok-more_by_any-in-Single w ↦
          made_single events c.args.from c.args.to keys c.match-level.keys w.in-Single.keys _ w.in-Single.is w.keys-is
          w.in_ok-more_by_any-in-Single.ensures.more
      | in-Pairs+in_ok-more_by_any-in-Pairs w ↦
          made_pairs events c.args.from c.args.to keys c.match-level.keys w.in-Pairs.keys _ w.in-Pairs.is w.keys-is
          w.in_ok-more_by_any-in-Pairs.ensures.more
    ] in (
      record {
        few = omega (arith, c.limits.ensures.few, c.processes.ensures);
        are_keys =
            rw c.processes.ensures (next_keys events (numbers keys) (numbers c.match-level.keys) c.args.from c.args.to
            c.limits.ensures.short made.0);
      },
      made_room events c.level.inside.processes c.processes.result c.args.from c.args.to keys c.match-level.keys all
          c.level.invariant.1 made c.processes.ensures,
    )

pub returns-clause-list : goal.returns-clause-list
returns-clause-list c =
    let events = c.args.computation.now.events in
    let keys = c.level.inside.keys in
    let made : MadeOf events c.args.from c.args.to keys c.match-level.keys =
    elim c.match-level.branch [
      | in-Single+in_ok-more_by_any-in-Single w ↦
          made_single events c.args.from c.args.to keys c.match-level.keys w.in-Single.keys _ w.in-Single.is w.keys-is
          w.in_ok-more_by_any-in-Single.ensures.more
      | in-Pairs+in_ok-more_by_any-in-Pairs w ↦
          made_pairs events c.args.from c.args.to keys c.match-level.keys w.in-Pairs.keys _ w.in-Pairs.is w.keys-is
          w.in_ok-more_by_any-in-Pairs.ensures.more
    ] in
    of_view events c.level.inside.processes c.processes.result c.args.from c.args.to (numbers keys)
    (numbers c.match-level.keys) c.args.level.now c.limits.ensures.short
    (ap (λ (l : Levelled). l.cuts) c.level.view_is) c.requires.cuts c.level.invariant.0.are_keys c.requires.from
    made.0 c.processes.ensures
