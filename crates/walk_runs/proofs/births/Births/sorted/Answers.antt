-- All births, the few and then one list after another, and sorted.
use Rattle.std.proofs.Common.{rules, Vec, take, ◌≡◌, ◌<◌, ◌++◌, List, length, map, sym, ap, ◌∙◌, subst, arith}
use Rattle.std.proofs.lemmas.List.{append_assoc, map-append}
use Rattle.std.proofs.lemmas.List.Sorted.{IsNonDecreasingBy-from_sort_by}
use Rattle.std.specs.Global.{Global}
use Rattle.walk_runs.specs.Collected.{births_in, IsSortedOf}
use Rattle.walk_runs.specs.Kept.{KeyedBirth, birth_view, births_view}
use Rattle.walk_runs.specs.declared.kept_birth.KeptBirth.{KeptBirth}
use Rattle.walk_runs.proofs.Collecting.{births_all, births_more, sorted_of}
use Rattle.walk_runs.proofs.births.Births.sorted.Goals as goal

pub loop-i-preserved : goal.loop-i-preserved
loop-i-preserved g c =
    let view = birth_view g.K.Key.number in
    let few = births_view g.K.Key.number c.self.inside.few.items in
    let so_far = births_in view (take c.loop-i.i c.self.inside.lists.items) in
    let lt : c.loop-i.i < length c.self.inside.lists.items = omega (arith, c.loop-i-test.true) in
    let more = births_more view c.self.inside.lists.items c.loop-i.i c.index-in-loop-i.result.now lt in
    ap (map view) c.in_ok-extend_from_slice-2.ensures.items
    ∙ map-append view c.loop-i.all.items c.deref-in-loop-i.result.now
    ∙ ap (λ (all : List KeyedBirth). all ++ map view c.deref-in-loop-i.result.now) c.loop-i.invariant
    ∙ append_assoc few so_far (map view c.deref-in-loop-i.result.now)
    ∙ ap (λ (list : List (KeptBirth g.row.K.Denot)). few ++ (so_far ++ map view list))
    (c.deref-in-loop-i.ensures.value
    ∙ ap (λ (list : Vec (KeptBirth g.row.K.Denot) Global). list.items) c.index-in-loop-i.ensures)
    ∙ ap (λ (lists : List KeyedBirth). few ++ lists) (sym more)

pub returns : goal.returns
returns g c =
    let number = g.K.Key.number in
    let few = births_view number c.self.inside.few.items in
    let all : births_view number c.loop-i.all.items ≡ c.args.self.now =
    c.loop-i.invariant
    ∙ ap (λ (lists : List KeyedBirth). few ++ lists)
    (births_all (birth_view number) c.self.inside.lists.items c.loop-i.i (omega arith))
    ∙ c.self.view_is in
    subst (λ (xs : List KeyedBirth). IsSortedOf xs (births_view number c.sort_by.new.self.items)) all
    (sorted_of number c.loop-i.all.items c.sort_by.new.self.items c.in_ok-sort_by.ensures.permutation
    (IsNonDecreasingBy-from_sort_by (λ (born : KeptBirth g.row.K.Denot). number born.cut) c.sort_by.new.self.items
    c.in_ok-sort_by.ensures.sorted (λ a r q k. search rules)))
