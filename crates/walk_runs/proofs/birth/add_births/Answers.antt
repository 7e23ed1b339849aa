-- The births of one cut, one process after another.
use Rattle.std.proofs.Common.{◌≡◌, ◌+◌, ◌-◌, ◌^◌, ◌<◌, ◌≤◌, ℕ, List, length, get_or, sym, ap, ◌∙◌, subst, arith}
use Rattle.def_format.specs.Limits.{event_limit}
use Rattle.walk_keys.specs.Keys.{count_base, digits, key_of}
use Rattle.def_model.specs.Events.{Computation, event_count}
use Rattle.def_model.specs.Cuts.{IsConsistent, one_more}
use Rattle.walk_runs.specs.Collected.{HasOneMore}
use Rattle.walk_runs.specs.Kept.{KeyedCut}
use Rattle.walk_runs.specs.Points.{point_cut}
use Rattle.walk_runs.proofs.CutKeys.{added_key, cut_back, cut_below, room_for_one}
use Rattle.walk_runs.proofs.Growing.{left_out, yet_all, yet_no, yet_none, yet_yes}
use Rattle.walk_runs.proofs.RunSteps.{last_counts}
use Rattle.walk_runs.proofs.UndoneEvents.{added_undoable}
use Rattle.walk_runs.proofs.birth.add_births.Goals as goal
use Rattle.walk_runs.proofs.birth.add_births.Goals.{then-makes+in_ok-push, else-makes}

pub key_of_cut-cut-requires-clause-x : goal.key_of_cut-cut-requires-clause-x
key_of_cut-cut-requires-clause-x g c =
    let w = last_counts c.args.steps.now c.limits.ensures.two c.args.point.now.key c.args.point.now.x c.args.point.now.y
    c.requires.cut in
    let x : c.args.point.now.x ≤ event_count c.args.steps.now (length c.args.steps.now - 2) = w.0 in
    let few : event_count c.args.steps.now (length c.args.steps.now - 2) ≤ event_limit =
    c.limits.ensures.short (length c.args.steps.now - 2) in
    omega arith

pub key_of_cut-cut-requires-clause-y : goal.key_of_cut-cut-requires-clause-y
key_of_cut-cut-requires-clause-y g c =
    let w = last_counts c.args.steps.now c.limits.ensures.two c.args.point.now.key c.args.point.now.x c.args.point.now.y
    c.requires.cut in
    let y : c.args.point.now.y ≤ event_count c.args.steps.now (length c.args.steps.now - 1) = w.1 in
    let few : event_count c.args.steps.now (length c.args.steps.now - 1) ≤ event_limit =
    c.limits.ensures.short (length c.args.steps.now - 1) in
    omega arith

-- the number of the cut, which has a digit for each process
module _ (computation : Computation) (two : 2 ≤ length computation) (small : (q : ℕ)
    → event_count computation q ≤ event_limit)
    (point : KeyedCut) (ok : IsConsistent computation (point_cut (length computation - 2) point)) (prefix number p : ℕ)
    (prefix_is : prefix ≡ length computation - 2) (number_is : number ≡ key_of (point_cut prefix point))
    (within : p < prefix)
  where
    many : prefix + 2 ≡ length computation
    many = omega arith

    number_of : number ≡ key_of (point_cut (length computation - 2) point)
    number_of = number_is ∙ ap (λ (n : ℕ). key_of (point_cut n point)) prefix_is

    number_below : number < count_base ^ (prefix + 2)
    number_below =
        subst (λ (n : ℕ). number < count_base ^ n) (sym many) (subst (λ (k : ℕ). k < count_base ^ length computation)
        (sym number_of) (cut_below computation (point_cut (length computation - 2) point) small ok))

    number_room : IsConsistent computation (one_more (point_cut (length computation - 2) point) p)
        → get_or (digits (prefix + 2) number) p 0 + 1 < count_base
    number_room more =
        let back : digits (prefix + 2) number ≡ point_cut (length computation - 2) point =
        ap (λ (n : ℕ). digits n number) many ∙ ap (digits (length computation)) number_of
        ∙ cut_back computation (point_cut (length computation - 2) point) small ok in
        let one_each : length (point_cut (length computation - 2) point) ≡ length computation = ok.fits.one_each in
        subst (λ (cut : List ℕ). get_or cut p 0 + 1 < count_base) (sym back)
        (room_for_one computation (point_cut (length computation - 2) point) p small more (omega arith))

    number_more : number + count_base ^ (prefix + 2 - 1 - p)
        ≡ key_of (one_more (point_cut (length computation - 2) point) p)
    number_more =
        ap (λ (n : ℕ). number + count_base ^ (n - 1 - p)) many
        ∙ ap (λ (k : ℕ). k + count_base ^ (length computation - 1 - p)) number_of
        ∙ sym (added_key computation (point_cut (length computation - 2) point) p ok (omega arith))

pub one_more-requires-clause-below : goal.one_more-requires-clause-below
one_more-requires-clause-below g c =
    let lt : c.in-Some.p < length c.args.steps.now - 2 =
    c.sought_of-sought.ensures.within c.in-Some.p c.in-Some.ensures.some.1 in
    number_below c.args.steps.now c.limits.ensures.two c.limits.ensures.short c.args.point.now c.requires.cut
    c.prefix-prefix.result (g.K.Key.number c.key_of_cut-cut.result) c.in-Some.p c.prefix-prefix.ensures
    c.key_of_cut-cut.ensures (omega (arith, lt, c.prefix-prefix.ensures))

pub one_more-requires-clause-small : goal.one_more-requires-clause-small
one_more-requires-clause-small g c =
    let lt : c.in-Some.p < length c.args.steps.now - 2 =
    c.sought_of-sought.ensures.within c.in-Some.p c.in-Some.ensures.some.1 in
    number_room c.args.steps.now c.limits.ensures.two c.limits.ensures.short c.args.point.now c.requires.cut
    c.prefix-prefix.result (g.K.Key.number c.key_of_cut-cut.result) c.in-Some.p c.prefix-prefix.ensures
    c.key_of_cut-cut.ensures (omega (arith, lt, c.prefix-prefix.ensures)) (c.makes.ensures.added c.if-makes.true)

pub births-init : goal.births-init
births-init g c = record {
  within = omega arith;
  grows = yet_none c.args.steps.now (point_cut (length c.args.steps.now - 2) c.args.point.now) c.args.by
      (length c.args.steps.now - 2) c.sought_of-sought.result c.args.born.now c.sought_of-sought.ensures.all;
}

pub births-preserved : goal.births-preserved
births-preserved g c =
    let lt : c.in-Some.p < length c.args.steps.now - 2 =
    c.sought_of-sought.ensures.within c.in-Some.p c.in-Some.ensures.some.1 in
    record {
      within = omega arith;
      grows = elim c.if-makes.branch [
        | then-makes+in_ok-push w ↦
            let is : g.K.Key.number w.one_more.result
            ≡ key_of (one_more (point_cut (length c.args.steps.now - 2) c.args.point.now) c.in-Some.p) =
            w.one_more.ensures ∙ number_more c.args.steps.now c.limits.ensures.two c.limits.ensures.short
            c.args.point.now c.requires.cut c.prefix-prefix.result (g.K.Key.number c.key_of_cut-cut.result) c.in-Some.p
            c.prefix-prefix.ensures c.key_of_cut-cut.ensures (omega (arith, lt, c.prefix-prefix.ensures)) in
            rw (w.born-is) (yet_yes c.args.steps.now
            (point_cut (length c.args.steps.now - 2) c.args.point.now) c.args.by (length c.args.steps.now - 2)
            c.sought_of-sought.result c.births.from c.in-Some.p c.args.born.now c.births.born c.births.invariant.grows
            c.in-Some.ensures.some.0 c.in-Some.ensures.some.2 lt (c.makes.ensures.added w.if-makes.true)
            (added_undoable c.args.steps.now (point_cut (length c.args.steps.now - 2) c.args.point.now) c.in-Some.p
            c.requires.cut (omega arith)) w.push.new.self
            (subst (λ (key : ℕ). HasOneMore c.births.born (record { cut = key; by = c.in-Some.p }) w.push.new.self) is
            w.in_ok-push.ensures))
        | else-makes w ↦
            rw (w.born-is) (yet_no c.args.steps.now
            (point_cut (length c.args.steps.now - 2) c.args.point.now) c.args.by (length c.args.steps.now - 2)
            c.sought_of-sought.result c.births.from c.in-Some.p c.args.born.now c.births.born c.births.invariant.grows
            c.in-Some.ensures.some.0 c.in-Some.ensures.some.2
            (λ wanted. left_out c.makes.result w.if-makes.false (c.makes.ensures.all wanted)))
      ];
    }

pub returns : goal.returns
returns g c =
    yet_all c.args.steps.now (point_cut (length c.args.steps.now - 2) c.args.point.now) c.args.by
    (length c.args.steps.now - 2) c.sought_of-sought.result c.births.from c.args.born.now c.births.born
    c.births.invariant.grows c.in_default.ensures.none
