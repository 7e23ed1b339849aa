-- The comparison by tables is the comparison of the sums.
use Rattle.std.proofs.Common.{◌≡◌, ◌-◌, ℕ, suc, arith, rules, refl, length, sym, subst, ◌∙◌, to_z, of_z, w64}
use mir.Val.{SFits}
use Rattle.std.proofs.lemmas.Int.{to_z-of_z}
use Rattle.pd_pred.specs.Trees.{terms_view}
use Rattle.walk_tables.specs.Parts.{SpeakBelow}
use Rattle.walk_tables.specs.Tables.{IsTableOf}
use Rattle.walk_tables.specs.Zero.{IsSmall}
use Rattle.walk_tables.proofs.Compiles.{linear_is}
use Rattle.walk_tables.proofs.build.linear_of.Goals as goal

pub returns : goal.returns
returns c =
    let r = c.args.computation.now in
    let left = terms_view c.args.left.now in
    let right = terms_view c.args.right.now in
    let processes : ℕ = c.processes-processes.result in
    let n : ℕ = processes - 2 in
    let all : processes ≡ suc (suc n) = omega (arith, c.requires.some, c.processes-processes.ensures) in
    let few : length r.events ≡ suc (suc n) = sym c.processes-processes.ensures ∙ all in
    let last : processes - 1 ≡ suc n = omega (arith, all) in
    let is_small : IsSmall c.in-Some.constant = c.in-Some.ensures.small in
    let fits : SFits w64 c.in-Some.constant = search rules in
    linear_is r left right c.args.comparison (to_z w64 (of_z w64 c.in-Some.constant)) c.in-Some-2.columns.items
    c.in-Some-3.table c.in-Some-4.table n few
    (subst (λ (k : ℕ). SpeakBelow k left) all (c.if-not-speak_below.ensures refl))
    (subst (λ (k : ℕ). SpeakBelow k right) all (c.if-not-speak_below-2.ensures refl))
    (to_z-of_z w64 c.in-Some.constant fits ∙ c.in-Some.ensures.value)
    (rw c.in-Some-2.is at c.in_ok-columns.ensures.parts)
    (rw c.in-Some-3.is at c.in_ok-table.ensures)
    (subst (λ (k : ℕ). IsTableOf r left right k c.in-Some-4.table) last (rw c.in-Some-4.is at c.in_ok-table-2.ensures))
