-- Nothing is put before the second terms.
use Rattle.std.proofs.Common.{List, ℕ, ◌++◌, ap, ◌∙◌}
use Rattle.wide_terms.specs.Rows.{numbers_view}
use Rattle.wide_terms.proofs.Building.{map_same}
use Rattle.wide_terms.proofs.joins.either.Goals as goal

pub returns : goal.returns
returns c =
    c.in_ok-push_each.ensures
    ∙ ap (λ (terms : List (List ℕ)). numbers_view c.args.first.items ++ terms)
    (map_same (numbers_view c.args.second.now))
