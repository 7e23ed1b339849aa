-- The runs of a level and its births, one after another.
use Rattle.std.proofs.Common.{◌≡◌, ℕ, ◌+◌, ◌-◌, ◌^◌, ◌<◌, ◌≤◌, List, [], Contains, length, get_or, refl, sum, sym, ap, ◌∙◌, subst, inl, inr, ◌⊎◌, arith}
use Rattle.std.proofs.lemmas.Bool.{cases_lt, cases_order, false≢true}
use Rattle.std.proofs.lemmas.List.{get_or-map, length-map}
use Rattle.std.proofs.lemmas.List.Elements.{Contains-get_or}
use Rattle.walk_keys.specs.Keys.{count_base, digits}
use Rattle.def_model.specs.Events.{Computation}
use Rattle.def_model.specs.Cuts.{IsConsistent}
use Rattle.walk_runs.specs.Births.{IsYoung}
use Rattle.walk_runs.specs.Kept.{KeyedBirth, KeyedRun, birth_view, births_view, cuts_of}
use Rattle.walk_runs.specs.KeptRuns.{IsBornRun}
use Rattle.walk_runs.specs.Levels.{IsKeptLevel, IsWholeLevel, cut_count, keys_of, prefix_key, runs_view, whole_view}
use Rattle.walk_runs.specs.declared.kept_birth.KeptBirth.{KeptBirth}
use Rattle.walk_runs.proofs.KeyLists.{in_map, key_at}
use Rattle.walk_runs.proofs.Merging.{IsGoing, IsMerging, above_bar, below_bar, bar_of, birth_cut, ended_kept, ended_level, given_by, going_move, merging_move, merging_push, merging_skip, merging_start, no_key, old_run, some_cut, young_birth}
use Rattle.walk_runs.proofs.whole.next_level.Goals as goal
use Rattle.walk_runs.proofs.whole.next_level.Goals.{then-is_above+then-is_below_run+in_ok-push_born, else-is_above, else-is_above-via-then-is_above+else-is_below_run, else-is_above-via-else-is_above}

-- as many births are kept
births_size : {A : Type 0} (number : A → ℕ) (births : List (KeptBirth A))
    → length (cuts_of (births_view number births)) ≡ length births
births_size number births =
    length-map (births_view number births) (λ (birth : KeyedBirth). birth.cut)
    ∙ length-map births (birth_view number)

-- a birth that is read
birth_in : {A : Type 0} (number : A → ℕ) (births : List (KeptBirth A)) (j : ℕ) (birth : KeptBirth A) → j < length births
    → birth ≡ get_or births j birth → Contains (births_view number births) (birth_view number birth)
birth_in {A} number births j birth lt is =
    in_map (birth_view number) births birth
    (subst (λ (b : KeptBirth A). Contains births b) (sym is) (Contains-get_or births j birth lt))

-- its number
birth_read : {A : Type 0} (number : A → ℕ) (births : List (KeptBirth A)) (j : ℕ) (birth : KeptBirth A)
    → j < length births → get_or (cuts_of (births_view number births)) j 0 ≡ number (get_or births j birth).cut
birth_read number births j birth lt =
    let size : length (births_view number births) ≡ length births = length-map births (birth_view number) in
    get_or-map (λ (b : KeyedBirth). b.cut) (births_view number births) j (birth_view number birth) 0 (omega arith)
    ∙ ap (λ (b : KeyedBirth). b.cut) (get_or-map (birth_view number) births j birth (birth_view number birth) lt)

birth_at : {A : Type 0} (number : A → ℕ) (births : List (KeptBirth A)) (j : ℕ) (birth : KeptBirth A)
    → j < length births → birth ≡ get_or births j birth
    → get_or (cuts_of (births_view number births)) j 0 ≡ number birth.cut
birth_at {A} number births j birth lt is =
    birth_read number births j birth lt ∙ ap (λ (b : KeptBirth A). number b.cut) (sym is)

-- an old run that is read
old_at : (olds : List KeyedRun) (i : ℕ) (old : KeyedRun) → i < length olds → old ≡ get_or olds i old
    → Contains olds old
old_at olds i old lt is = subst (λ (r : KeyedRun). Contains olds r) (sym is) (Contains-get_or olds i old lt)

-- a birth that isn't below the run's key, nor above it, has it
met : (n i at number prefix : ℕ) → number ≡ prefix → ¬ ((i < n) × (at < number)) → ¬ (i < n → number < at)
    → (i < n) × (prefix ≡ at)
met n i at number prefix is not_above not_below = go (cases_lt i n) (cases_order number at)
  where
    go : (i < n) ⊎ (n ≤ i) → (number ≡ at) ⊎ ((number < at) ⊎ (at < number)) → (i < n) × (prefix ≡ at)
    go (inr out) other = absurd (not_below (λ in_. absurd (omega arith)))
    go (inl in_) (inl same) = (in_, omega arith)
    go (inl in_) (inr (inl below)) = absurd (not_below (λ _. below))
    go (inl in_) (inr (inr above)) = absurd (not_above (in_, above))

-- the loops' end
at_end : (c : Computation) (k : ℕ) (olds : List KeyedRun) (births : List ℕ) (i j : ℕ) (runs : List KeyedRun)
    (born : List KeyedBirth) (floor : ℕ) → IsGoing c k olds births i j runs born floor → length olds ≤ i
    → length births ≡ j → IsGoing c k olds births (length olds) (length births) runs born floor
at_end c k olds births i j runs born floor g past out =
    let a : i ≤ length olds = g.in_olds in
    let i_is : i ≡ length olds = omega arith in
    subst (λ (m : ℕ). IsGoing c k olds births (length olds) m runs born floor) (sym out)
    (subst (λ (m : ℕ). IsGoing c k olds births m j runs born floor) i_is g)

pub loop-j-init : goal.loop-j-init
loop-j-init g c =
    let number = g.K.Key.number in
    let births : List ℕ = cuts_of (births_view g.K.Key.number c.args.births.now) in
    let given = given_by g.K.Key.room c.args.steps.now c.args.number c.args.olds.now
    (births_view number c.args.births.now) c.limits.ensures.short
    c.limits.ensures.walkable c.requires.kept c.requires.sorted c.requires.level in
    subst (λ (born : List KeyedBirth). IsMerging c.args.steps.now c.args.number c.args.olds.now births 0 0
    c.in_ok-runs.runs.items born 0) (sym c.new-born.ensures)
    (subst (λ (runs : List KeyedRun). IsMerging c.args.steps.now c.args.number c.args.olds.now births 0 0 runs [] 0)
    (sym c.in_ok-runs.ensures.items) (merging_start g.K.Key.room c.args.steps.now c.args.number c.args.olds.now births
    given))

pub bounds-olds-i : goal.bounds-olds-i
bounds-olds-i g c = (c.is_run_below.ensures.0 c.loop-runs-test.true).0

pub push_moved-requires-clause-kept : goal.push_moved-requires-clause-kept
push_moved-requires-clause-kept g c =
    let lt = c.is_run_below.ensures.0 c.loop-runs-test.true in
    record {
      below = (c.requires.kept.kept c.index-olds-i.result
          (old_at c.args.olds.now c.loop-runs.i c.index-olds-i.result lt.0 c.index-olds-i.is)).below;
      level = refl;
    }

pub push_moved-requires-clause-run : goal.push_moved-requires-clause-run
push_moved-requires-clause-run g c =
    let number = g.K.Key.number in
    let births : List ℕ = cuts_of (births_view g.K.Key.number c.args.births.now) in
    let given = given_by g.K.Key.room c.args.steps.now c.args.number c.args.olds.now
    (births_view number c.args.births.now) c.limits.ensures.short
    c.limits.ensures.walkable c.requires.kept c.requires.sorted c.requires.level in
    let lt = c.is_run_below.ensures.0 c.loop-runs-test.true in
    old_run g.K.Key.room c.args.steps.now c.args.number c.args.olds.now births given c.index-olds-i.result
    (old_at c.args.olds.now c.loop-runs.i c.index-olds-i.result lt.0 c.index-olds-i.is)

pub loop-runs-smaller : goal.loop-runs-smaller
loop-runs-smaller g c = let lt = c.is_run_below.ensures.0 c.loop-runs-test.true in omega (arith, lt.0)

pub loop-runs-preserved : goal.loop-runs-preserved
loop-runs-preserved g c =
    let number = g.K.Key.number in
    let births : List ℕ = cuts_of (births_view g.K.Key.number c.args.births.now) in
    let given = given_by g.K.Key.room c.args.steps.now c.args.number c.args.olds.now
    (births_view number c.args.births.now) c.limits.ensures.short
    c.limits.ensures.walkable c.requires.kept c.requires.sorted c.requires.level in
    let lt = c.is_run_below.ensures.0 c.loop-runs-test.true in
    let at : get_or births c.loop-j.j 0 ≡ number c.index-births-j.result.cut =
    birth_at number c.args.births.now c.loop-j.j c.index-births-j.result c.loop-j-test.true c.index-births-j.is in
    let prefix : number c.without_two-prefix.result ≡ prefix_key (get_or births c.loop-j.j 0) =
    c.without_two-prefix.ensures ∙ ap prefix_key
    (sym (birth_read number c.args.births.now c.loop-j.j c.index-births-j.result c.loop-j-test.true)) in
    let key : get_or (keys_of c.args.olds.now) c.loop-runs.i 0 ≡ c.index-olds-i.result.key =
    key_at c.args.olds.now c.loop-runs.i c.index-olds-i.result lt.0 c.index-olds-i.is in
    let below : c.index-olds-i.result.key < prefix_key (get_or births c.loop-j.j 0) = omega (arith, lt.1) in
    merging_move g.K.Key.room c.args.steps.now c.args.number c.args.olds.now births given c.loop-runs.i c.loop-j.j
    c.loop-runs.runs.items c.loop-runs.born (bar_of number c.loop-j.last) c.loop-runs.invariant c.index-olds-i.result
    lt.0 (sym c.index-olds-i.is) key (λ _. below) c.push_moved.new.runs.items c.push_moved.new.born
    c.in_ok-push_moved.ensures

pub push_born-requires-clause-below : goal.push_born-requires-clause-below
push_born-requires-clause-below g c =
    let number = g.K.Key.number in
    let births : List ℕ = cuts_of (births_view g.K.Key.number c.args.births.now) in
    let size : length births ≡ length c.args.births.now = births_size number c.args.births.now in
    let at : get_or births c.loop-j.j 0 ≡ number c.index-births-j-then-is_below_run.result.cut =
    birth_at number c.args.births.now c.loop-j.j c.index-births-j-then-is_below_run.result c.loop-j-test.true
    c.index-births-j-then-is_below_run.is in
    subst (λ (z : ℕ). z < count_base ^ length c.args.steps.now) at
    (c.requires.kept.below (get_or births c.loop-j.j 0) (Contains-get_or births c.loop-j.j 0 (omega arith)))

pub push_born-requires-clause-cut : goal.push_born-requires-clause-cut
push_born-requires-clause-cut g c =
    let number = g.K.Key.number in
    let births : List ℕ = cuts_of (births_view g.K.Key.number c.args.births.now) in
    let given = given_by g.K.Key.room c.args.steps.now c.args.number c.args.olds.now
    (births_view number c.args.births.now) c.limits.ensures.short
    c.limits.ensures.walkable c.requires.kept c.requires.sorted c.requires.level in
    let size : length births ≡ length c.args.births.now = births_size number c.args.births.now in
    let at : get_or births c.loop-j.j 0 ≡ number c.index-births-j-then-is_below_run.result.cut =
    birth_at number c.args.births.now c.loop-j.j c.index-births-j-then-is_below_run.result c.loop-j-test.true
    c.index-births-j-then-is_below_run.is in
    subst (λ (z : ℕ). IsConsistent c.args.steps.now (digits (length c.args.steps.now) z)) at
    (birth_cut g.K.Key.room c.args.steps.now c.args.number c.args.olds.now births given (get_or births c.loop-j.j 0)
    (Contains-get_or births c.loop-j.j 0 (omega arith))).0

pub push_born-requires-clause-latest : goal.push_born-requires-clause-latest
push_born-requires-clause-latest g c =
    c.requires.level.undoable (birth_view g.K.Key.number c.index-births-j-then-is_below_run.result)
    (birth_in g.K.Key.number c.args.births.now c.loop-j.j c.index-births-j-then-is_below_run.result c.loop-j-test.true
    c.index-births-j-then-is_below_run.is)

pub push_born-requires-clause-young : goal.push_born-requires-clause-young
push_born-requires-clause-young g c =
    let number = g.K.Key.number in
    let births : List ℕ = cuts_of (births_view g.K.Key.number c.args.births.now) in
    let given = given_by g.K.Key.room c.args.steps.now c.args.number c.args.olds.now
    (births_view number c.args.births.now) c.limits.ensures.short
    c.limits.ensures.walkable c.requires.kept c.requires.sorted c.requires.level in
    let size : length births ≡ length c.args.births.now = births_size number c.args.births.now in
    let at : get_or births c.loop-j.j 0 ≡ number c.index-births-j.result.cut =
    birth_at number c.args.births.now c.loop-j.j c.index-births-j.result c.loop-j-test.true c.index-births-j.is in
    let again : get_or births c.loop-j.j 0 ≡ number c.index-births-j-then-is_below_run.result.cut =
    birth_at number c.args.births.now c.loop-j.j c.index-births-j-then-is_below_run.result c.loop-j-test.true
    c.index-births-j-then-is_below_run.is in
    let prefix : number c.without_two-prefix.result ≡ prefix_key (get_or births c.loop-j.j 0) =
    c.without_two-prefix.ensures ∙ ap prefix_key
    (sym (birth_read number c.args.births.now c.loop-j.j c.index-births-j.result c.loop-j-test.true)) in
    let before : c.loop-runs.i < length c.args.olds.now
    → prefix_key (get_or births c.loop-j.j 0) < get_or (keys_of c.args.olds.now) c.loop-runs.i 0 =
    (λ in_. let b = c.is_below_run.ensures.0 c.if-is_below_run.true in_ in omega (arith, b)) in
    subst (λ (z : ℕ). IsYoung c.args.steps.now (sum (digits (length c.args.steps.now) z))
    (digits (length c.args.steps.now - 2) (prefix_key z))) again
    (young_birth g.K.Key.room c.args.steps.now c.args.number c.args.olds.now births given (get_or births c.loop-j.j 0)
    (Contains-get_or births c.loop-j.j 0 (omega arith))
    (no_key g.K.Key.room c.args.steps.now c.args.number c.args.olds.now births given c.loop-runs.i c.loop-j.j
    c.loop-runs.runs.items
    c.loop-runs.born c.loop-runs.invariant.floor c.loop-runs.invariant.going (omega arith) before))

pub loop-j-preserved : goal.loop-j-preserved
loop-j-preserved g c =
    let number = g.K.Key.number in
    let births : List ℕ = cuts_of (births_view g.K.Key.number c.args.births.now) in
    let given = given_by g.K.Key.room c.args.steps.now c.args.number c.args.olds.now
    (births_view number c.args.births.now) c.limits.ensures.short
    c.limits.ensures.walkable c.requires.kept c.requires.sorted c.requires.level in
    let size : length births ≡ length c.args.births.now = births_size number c.args.births.now in
    let lt : c.loop-j.j < length births = omega arith in
    let at : get_or births c.loop-j.j 0 ≡ number c.index-births-j.result.cut =
    birth_at number c.args.births.now c.loop-j.j c.index-births-j.result c.loop-j-test.true c.index-births-j.is in
    let prefix : number c.without_two-prefix.result ≡ prefix_key (get_or births c.loop-j.j 0) =
    c.without_two-prefix.ensures ∙ ap prefix_key
    (sym (birth_read number c.args.births.now c.loop-j.j c.index-births-j.result c.loop-j-test.true)) in
    elim c.if-is_above.branch [
      | then-is_above+then-is_below_run+in_ok-push_born w ↦
          let again : get_or births c.loop-j.j 0 ≡ number w.index-births-j-then-is_below_run.result.cut =
          birth_at number c.args.births.now c.loop-j.j w.index-births-j-then-is_below_run.result c.loop-j-test.true
          w.index-births-j-then-is_below_run.is in
          let above : bar_of number c.loop-j.last ≤ number c.without_two-prefix.result =
          above_bar number c.loop-j.last (number c.without_two-prefix.result) (c.is_above.ensures.0 w.if-is_above.true)
          in
          let before : c.loop-runs.i < length c.args.olds.now
          → prefix_key (get_or births c.loop-j.j 0) < get_or (keys_of c.args.olds.now) c.loop-runs.i 0 =
          (λ in_. let b = w.is_below_run.ensures.0 w.if-is_below_run.true in_ in omega (arith, b)) in
          rw (w.runs-is, w.born-is, w.last-is, prefix) (merging_push g.K.Key.room c.args.steps.now c.args.number
          c.args.olds.now births given c.loop-runs.i
          c.loop-j.j c.loop-runs.runs.items c.loop-runs.born (bar_of number c.loop-j.last) c.loop-runs.invariant lt
          (omega arith) before w.push_born.new.runs.items w.push_born.new.born
          (subst (λ (z : ℕ). IsBornRun c.args.steps.now z c.loop-runs.runs.items c.loop-runs.born
          w.push_born.new.runs.items w.push_born.new.born) (sym again) w.in_ok-push_born.ensures))
      | else-is_above w ↦
          let why : (prefix_key (get_or births c.loop-j.j 0) < bar_of number c.loop-j.last)
          ⊎ ((c.loop-runs.i < length c.args.olds.now) × (prefix_key (get_or births c.loop-j.j 0)
          ≡ get_or (keys_of c.args.olds.now) c.loop-runs.i 0)) =
          elim w.else-is_above.branch [
            | else-is_above-via-then-is_above+else-is_below_run v ↦
                inr (met (length c.args.olds.now) c.loop-runs.i (get_or (keys_of c.args.olds.now) c.loop-runs.i 0)
                (number c.without_two-prefix.result) (prefix_key (get_or births c.loop-j.j 0)) prefix
                (λ both. false≢true (sym c.loop-runs-test.false ∙ c.is_run_below.ensures.1 both))
                (λ all. false≢true (sym v.if-is_below_run.false ∙ v.is_below_run.ensures.1 all)))
            | else-is_above-via-else-is_above v ↦
                let low : number c.without_two-prefix.result < bar_of number c.loop-j.last =
                below_bar number c.loop-j.last (number c.without_two-prefix.result)
                (λ some. false≢true (sym v.if-is_above.false ∙ c.is_above.ensures.1 some)) in
                inl (omega arith)
          ] in
          rw (w.runs-is, w.born-is, w.last-is) (merging_skip g.K.Key.room c.args.steps.now c.args.number
          c.args.olds.now births given c.loop-runs.i
          c.loop-j.j c.loop-runs.runs.items c.loop-runs.born (bar_of number c.loop-j.last) c.loop-runs.invariant lt why)
    ]

pub loop-i-init : goal.loop-i-init
loop-i-init g c =
    let number = g.K.Key.number in
    let births : List ℕ = cuts_of (births_view g.K.Key.number c.args.births.now) in
    let size : length births ≡ length c.args.births.now = births_size number c.args.births.now in
    let in_births : c.loop-j.j ≤ length births = c.loop-j.invariant.going.in_births in
    let end : c.loop-j.j ≡ length c.args.births.now = omega (arith, c.loop-j-test.false) in (
      c.loop-j.invariant.floor,
      subst (λ (j : ℕ). IsGoing c.args.steps.now c.args.number c.args.olds.now births c.loop-j.i j c.loop-j.runs.items
          c.loop-j.born c.loop-j.invariant.floor) end c.loop-j.invariant.going,
    )

pub push_moved-requires-in-loop-i-clause-kept : goal.push_moved-requires-in-loop-i-clause-kept
push_moved-requires-in-loop-i-clause-kept g c = record {
  below = (c.requires.kept.kept c.index-olds-i-in-loop-i.result
      (old_at c.args.olds.now c.loop-i.i c.index-olds-i-in-loop-i.result c.loop-i-test.true
      c.index-olds-i-in-loop-i.is)).below;
  level = refl;
}

pub push_moved-requires-in-loop-i-clause-run : goal.push_moved-requires-in-loop-i-clause-run
push_moved-requires-in-loop-i-clause-run g c =
    let number = g.K.Key.number in
    let births : List ℕ = cuts_of (births_view g.K.Key.number c.args.births.now) in
    let given = given_by g.K.Key.room c.args.steps.now c.args.number c.args.olds.now
    (births_view number c.args.births.now) c.limits.ensures.short
    c.limits.ensures.walkable c.requires.kept c.requires.sorted c.requires.level in
    old_run g.K.Key.room c.args.steps.now c.args.number c.args.olds.now births given c.index-olds-i-in-loop-i.result
    (old_at c.args.olds.now c.loop-i.i c.index-olds-i-in-loop-i.result c.loop-i-test.true c.index-olds-i-in-loop-i.is)

pub loop-i-preserved : goal.loop-i-preserved
loop-i-preserved g c =
    let number = g.K.Key.number in
    let births : List ℕ = cuts_of (births_view g.K.Key.number c.args.births.now) in
    let given = given_by g.K.Key.room c.args.steps.now c.args.number c.args.olds.now
    (births_view number c.args.births.now) c.limits.ensures.short
    c.limits.ensures.walkable c.requires.kept c.requires.sorted c.requires.level in
    let size : length births ≡ length c.args.births.now = births_size number c.args.births.now in
    let old : KeyedRun = c.index-olds-i-in-loop-i.result in
    let key : get_or (keys_of c.args.olds.now) c.loop-i.i 0 ≡ c.index-olds-i-in-loop-i.result.key =
    key_at c.args.olds.now c.loop-i.i old c.loop-i-test.true c.index-olds-i-in-loop-i.is in (
      c.index-olds-i-in-loop-i.result.key + 1,
      going_move g.K.Key.room c.args.steps.now c.args.number c.args.olds.now births given c.loop-i.i
          (length c.args.births.now)
          c.loop-i.runs.items c.loop-i.born c.loop-i.invariant.0 c.loop-i.invariant.1 c.index-olds-i-in-loop-i.result
          c.loop-i-test.true (sym c.index-olds-i-in-loop-i.is) key (λ in_. absurd (omega arith))
          c.push_moved-in-loop-i.new.runs.items c.push_moved-in-loop-i.new.born c.in_ok-push_moved-2.ensures,
    )

pub cuts_in-requires : goal.cuts_in-requires
cuts_in-requires g c =
    let number = g.K.Key.number in
    let births : List ℕ = cuts_of (births_view g.K.Key.number c.args.births.now) in
    let given = given_by g.K.Key.room c.args.steps.now c.args.number c.args.olds.now
    (births_view number c.args.births.now) c.limits.ensures.short
    c.limits.ensures.walkable c.requires.kept c.requires.sorted c.requires.level in
    let end = at_end c.args.steps.now c.args.number c.args.olds.now births c.loop-i.i (length c.args.births.now)
    c.loop-i.runs.items c.loop-i.born c.loop-i.invariant.0 c.loop-i.invariant.1 c.loop-i-test.false
    (births_size number c.args.births.now) in
    rw (c.deref.ensures.value) (some_cut g.K.Key.room c.args.steps.now c.args.number c.args.olds.now births given
    c.loop-i.runs.items c.loop-i.born c.loop-i.invariant.0 end)

pub invariant_of-result : goal.invariant_of-result
invariant_of-result g c =
    let number = g.K.Key.number in
    let births : List ℕ = cuts_of (births_view g.K.Key.number c.args.births.now) in
    let given = given_by g.K.Key.room c.args.steps.now c.args.number c.args.olds.now
    (births_view number c.args.births.now) c.limits.ensures.short
    c.limits.ensures.walkable c.requires.kept c.requires.sorted c.requires.level in
    let end = at_end c.args.steps.now c.args.number c.args.olds.now births c.loop-i.i (length c.args.births.now)
    c.loop-i.runs.items c.loop-i.born c.loop-i.invariant.0 c.loop-i.invariant.1 c.loop-i-test.false
    (births_size number c.args.births.now) in
    let e : length c.args.steps.now ≡ c.prefix-others.result + 2 =
    omega (arith, c.prefix-others.ensures, c.limits.ensures.two) in
    let counted : c.cuts_in.result ≡ cut_count (runs_view (c.prefix-others.result + 2 - 2) c.loop-i.runs.items) =
    c.cuts_in.ensures (c.prefix-others.result + 2 - 2)
    ∙ ap (λ (rs : List KeyedRun). cut_count (runs_view (c.prefix-others.result + 2 - 2) rs)) c.deref.ensures.value in
    let kept : IsKeptLevel g.K.Key.room (length c.args.steps.now) (c.args.number + 1) c.loop-i.runs.items
    (cuts_of c.loop-i.born) =
    ended_kept g.K.Key.room c.args.steps.now c.args.number c.args.olds.now births given c.loop-i.runs.items
    c.loop-i.born c.loop-i.invariant.0 end in (
      subst (λ (m : ℕ). IsKeptLevel g.K.Key.room m (c.args.number + 1) c.loop-i.runs.items (cuts_of c.loop-i.born)) e
          kept,
      counted,
      subst g.K.Key.fits e c.requires.fits,
    )

pub returns-clause-level : goal.returns-clause-level
returns-clause-level g c =
    let number = g.K.Key.number in
    let births : List ℕ = cuts_of (births_view g.K.Key.number c.args.births.now) in
    let given = given_by g.K.Key.room c.args.steps.now c.args.number c.args.olds.now
    (births_view number c.args.births.now) c.limits.ensures.short
    c.limits.ensures.walkable c.requires.kept c.requires.sorted c.requires.level in
    let end = at_end c.args.steps.now c.args.number c.args.olds.now births c.loop-i.i (length c.args.births.now)
    c.loop-i.runs.items c.loop-i.born c.loop-i.invariant.0 c.loop-i.invariant.1 c.loop-i-test.false
    (births_size number c.args.births.now) in
    let e : length c.args.steps.now ≡ c.prefix-others.result + 2 =
    omega (arith, c.prefix-others.ensures, c.limits.ensures.two) in
    subst (λ (m : ℕ). IsWholeLevel c.args.steps.now
    (whole_view m (c.args.number + 1) c.loop-i.runs.items c.loop-i.born)) e
    (ended_level g.K.Key.room c.args.steps.now c.args.number c.args.olds.now births given c.loop-i.runs.items
    c.loop-i.born c.loop-i.invariant.0 end)
