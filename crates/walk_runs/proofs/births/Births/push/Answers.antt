-- A birth is put among the few, or added to one of the lists.
use Rattle.std.proofs.Common.{◌++◌, List, map, sym, subst}
use Rattle.walk_runs.specs.Collected.{HasOneMore, births_in}
use Rattle.walk_runs.specs.Kept.{KeyedBirth, birth_view}
use Rattle.walk_runs.specs.declared.kept_birth.KeptBirth.{KeptBirth}
use Rattle.walk_runs.proofs.Collecting.{few_more, one_later}
use Rattle.walk_runs.proofs.births.Births.push.Goals as goal

pub returns-then-len-lt-FEW : goal.returns-then-len-lt-FEW
returns-then-len-lt-FEW g c =
    let view = birth_view g.K.Key.number in
    let few = c.self.inside.few.items in
    let lists = births_in view c.self.inside.lists.items in
    subst (λ (old : List KeyedBirth). HasOneMore old (view c.args.birth) (map view c.insert.new.self.items ++ lists))
    c.self.view_is
    (subst (λ (items : List (KeptBirth g.row.K.Denot)).
    HasOneMore (map view few ++ lists) (view c.args.birth) (map view items ++ lists)) (sym c.in_ok-insert.ensures.items)
    (few_more view few c.place-at.result c.args.birth lists))

pub returns : goal.returns
returns g c =
    let view = birth_view g.K.Key.number in
    let few = map view c.self.inside.few.items in
    let lists = births_in view c.push_to.new.lists.items in
    subst (λ (old : List KeyedBirth). HasOneMore old (view c.args.birth) (few ++ lists)) c.self.view_is
    (one_later few (births_in view c.self.inside.lists.items) lists (view c.args.birth)
    (subst (λ (old : List KeyedBirth). HasOneMore old (view c.args.birth) lists) c.in_ok-make_lists.ensures.same
    c.in_ok-push_to.ensures))
