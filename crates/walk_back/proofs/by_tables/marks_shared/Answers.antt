-- Each place has the mark of the cut there.
use Rattle.std.proofs.Common.{◌≡◌, ◌<◌, ◌≤◌, ◌-◌, ◌∙◌, All, length, ap, arith}
use Rattle.std.specs.List.{range_with_len}
use Rattle.rayon.specs.Numbers.{nat_range}
use Rattle.rayon.proofs.ListFacts.{IfOk-then}
use Rattle.rayon.proofs.ToStd.{nat_range-All}
use Rattle.def_model.specs.Cuts.{IsConsistent}
use Rattle.pd_expand.proofs.MarkFacts.{marks_are}
use Rattle.walk_back.specs.CompiledTests.{events_of, meaning_of}
use Rattle.walk_back.proofs.by_tables.marks_shared.Goals as goal

pub collect-requires-clause-ready : goal.collect-requires-clause-ready
collect-requires-clause-ready g c κs within =
    let ends = c.into_par_iter.ensures in
    let cuts = c.args.level.now.cuts in
    let events = events_of c.args.test.now in
    let inside = nat_range-All (λ i. (i < length cuts) × (2 ≤ length events) × All (IsConsistent events) cuts) 0
    (length cuts) (λ i low high. (high, c.requires.two, c.requires.cuts)) in
    rw (c.map.ensures.base, c.map.ensures.f, ends.0, ends.1, c.len.ensures) (λ k d lt. (inside k d lt, λ y p. tt))

pub returns : goal.returns
returns g c =
    let ends = c.into_par_iter.ensures in
    let cuts = c.args.level.now.cuts in
    let whole : length cuts - 0 ≡ length cuts = omega arith in
    IfOk-then c.collect.result _ _ c.collect.ensures (λ v h.
    let chain = rw (c.map.ensures.base, c.map.ensures.f) at h.1 in
    let places = chain.1 ∙ (λ i. nat_range (ends.0 i) ((ends.1 ∙ c.len.ensures) i)) ∙ ap (range_with_len 0) whole in
    h.2 ∙ marks_are (meaning_of c.args.test.now) cuts chain.0 h.0 places chain.2)
