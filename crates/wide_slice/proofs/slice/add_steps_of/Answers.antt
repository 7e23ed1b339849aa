-- What is known of the points of a process.
use Rattle.std.proofs.Common.{◌≡◌, ℕ, ◌<◌, ◌≤◌, Bool, ℤ, List, OnOk, get_or, length, sym, ap, ◌∙◌, subst, arith}
use Rattle.std.specs.Global.{Global}
use Rattle.std.specs.Prelude.{Vec, unsigned_abs}
use Rattle.std.proofs.lemmas.List.{get_or_read}
use Rattle.wide_slice.specs.Parts.{AddsPart, AreAbove, AreInOrder}
use Rattle.wide_slice.specs.Points.{IsAsked, IsRow, count_at, flags_at, row_at}
use Rattle.wide_slice.specs.Values.{value_limit}
use Rattle.wide_slice.specs.declared.points.Point.{Point}
use Rattle.wide_slice.proofs.Rows.{count_within}
use Rattle.wide_slice.proofs.slice.add_steps_of.Goals as goal

moved : {rows other : List (Vec Point Global)} {points : List Point} (p : ℕ) → rows ≡ other → points ≡ row_at rows p
    → points ≡ row_at other p
moved {rows} {other} {points} p same is = is ∙ ap (λ (rs : List (Vec Point Global)). row_at rs p) same

marked : {asked other : List (Vec Bool Global)} {flags : List Bool} (p : ℕ) → asked ≡ other → flags ≡ flags_at asked p
    → flags ≡ flags_at other p
marked {asked} {other} {flags} p same is = is ∙ ap (λ (fs : List (Vec Bool Global)). flags_at fs p) same

pub add_steps-requires-clause-ordered : goal.add_steps-requires-clause-ordered
add_steps-requires-clause-ordered g c =
    subst (λ (points : List Point). AreInOrder points)
    (sym (moved c.args.process c.deref.ensures.value c.row-points.ensures))
    (c.requires.slice.rows.each c.args.process c.requires.there).ordered

pub add_steps-requires-clause-above : goal.add_steps-requires-clause-above
add_steps-requires-clause-above g c =
    let least = c.args.slice.now.least.items in
    let there : c.args.process < length least =
    omega (arith, c.requires.there, c.requires.slice.least.consistent.fits.one_each) in
    subst (λ (s : ℕ × List Point). AreAbove s.0 s.1)
    (λ i. (
      sym (get_or_read least c.args.process c.index-least.result.now there c.index-least.ensures 0) i,
      sym (moved c.args.process c.deref.ensures.value c.row-points.ensures) i,
    ))
    (c.requires.slice.rows.each c.args.process c.requires.there).above

pub add_steps-requires-clause-within : goal.add_steps-requires-clause-within
add_steps-requires-clause-within g c =
    let events = c.args.computation.now.events in
    let good = g.G.GoodCounts.good c.args._wanted.now in
    let p = c.args.process in
    let low = get_or c.args.slice.now.least.items p 0 in
    let rows = c.args.slice.now.rows.items in
    let asked = c.args.slice.now.asked.items in
    let row : IsRow events good p low (row_at rows p) = c.requires.slice.rows.each p c.requires.there in
    let flags : IsAsked events rows p (flags_at asked p) = c.requires.slice.asked.each p c.requires.there in
    subst (λ (s : List Point × List Bool). (k : ℕ) → k < length s.0 → count_at s.0 k < length s.1)
    (λ i. (
      sym (moved c.args.process c.deref.ensures.value c.row-points.ensures) i,
      sym (marked c.args.process c.deref-2.ensures.value c.flags_of-asked.ensures) i,
    ))
    (λ k lt. omega (arith, count_within events good p low (row_at rows p) row k lt, flags.many))

pub add_steps-requires-clause-small : goal.add_steps-requires-clause-small
add_steps-requires-clause-small g c =
    subst (λ (v : ℕ → ℤ). (count : ℕ) → unsigned_abs (v count) ≤ value_limit) (sym c.numbers_of-numbers.ensures)
    (c.requires.values.small c.args.process)

pub returns : goal.returns
returns g c =
    let p = c.args.process in
    let least = c.args.slice.now.least.items in
    let there : p < length least =
    omega (arith, c.requires.there, c.requires.slice.least.consistent.fits.one_each) in
    subst
    (λ (s : List Point × List Bool × (ℕ → ℤ) × ℕ).
    OnOk c.add_steps.result (AddsPart s.0 s.1 s.2 p s.3 c.args.steps.now.items c.add_steps.new.steps.items))
    (λ i. (
      moved c.args.process c.deref.ensures.value c.row-points.ensures i,
      marked c.args.process c.deref-2.ensures.value c.flags_of-asked.ensures i,
      c.numbers_of-numbers.ensures i,
      get_or_read least p c.index-least.result.now there c.index-least.ensures 0 i,
    ))
    c.add_steps.ensures
