-- A column is joined with one of the same process, or put with the others.
use Rattle.std.proofs.Common.{◌≡◌, ◌∙◌, ℕ, List, [], ◌∷◌, ◌++◌, ◌||◌, ap, sym, get_or, rules}
use Rattle.std.proofs.lemmas.List.{nil_from_length}
use Rattle.walk_tables.specs.Rows.{columns_have, row_has}
use Rattle.walk_tables.specs.declared.clause_column.ClauseColumn.{ClauseColumn}
use Rattle.walk_tables.proofs.Conjunctions.{columns_append, held_more, or_back, placed_more}
use Rattle.walk_tables.proofs.clause_column.placed.Goals as goal

pub loop-other-preserved-then-other-held : goal.loop-other-preserved-then-other-held
loop-other-preserved-then-other-held c counts j =
    let held = c.loop-other.held in
    let other = c.in-Some.other in
    let later = c.pop.new.self.items in
    let items : c.loop-other.rest.items ≡ later ++ other ∷ [] = c.in-Some.ensures.items in
    let rest = ap (λ (cs : List ClauseColumn). columns_have cs counts j) items ∙ columns_append later other counts j in
    let both = c.either.ensures (get_or counts held.process 0) j
    ∙ ap (λ (p : ℕ). row_has held.row (get_or counts held.process 0) j || row_has other.row (get_or counts p 0) j)
    (sym c.if-other-held.true) in
    held_more (columns_have c.loop-other.all.items counts j) (row_has held.row (get_or counts held.process 0) j)
    (row_has other.row (get_or counts other.process 0) j) (columns_have later counts j)
    (columns_have c.loop-other.rest.items counts j) _ _ both rest (c.loop-other.invariant counts j)

pub loop-other-preserved : goal.loop-other-preserved
loop-other-preserved c counts j =
    let held = c.loop-other.held in
    let other = c.in-Some.other in
    let later = c.pop.new.self.items in
    let items : c.loop-other.rest.items ≡ later ++ other ∷ [] = c.in-Some.ensures.items in
    let rest = ap (λ (cs : List ClauseColumn). columns_have cs counts j) items ∙ columns_append later other counts j in
    let pushed : c.push.new.self.items ≡ c.loop-other.all.items ++ other ∷ [] = c.in_ok-push.ensures.items in
    let more = ap (λ (cs : List ClauseColumn). columns_have cs counts j) pushed
    ∙ columns_append c.loop-other.all.items other counts j in
    placed_more (columns_have c.loop-other.all.items counts j) (row_has held.row (get_or counts held.process 0) j)
    (row_has other.row (get_or counts other.process 0) j) (columns_have later counts j)
    (columns_have c.loop-other.rest.items counts j) _ _ more rest (c.loop-other.invariant counts j)

pub returns : goal.returns
returns c counts j =
    let held = c.loop-other.held in
    let row = row_has held.row (get_or counts held.process 0) j in
    let none : c.loop-other.rest.items ≡ [] =
    nil_from_length c.loop-other.rest.items (search rules) in
    let pushed : c.push-2.new.self.items ≡ c.loop-other.all.items ++ held ∷ [] = c.in_ok-push-2.ensures.items in
    ap (λ (cs : List ClauseColumn). columns_have cs counts j) pushed
    ∙ columns_append c.loop-other.all.items held counts j
    ∙ or_back row (columns_have c.loop-other.all.items counts j)
    ∙ ap (λ (cs : List ClauseColumn). columns_have c.loop-other.all.items counts j || (row || columns_have cs counts j))
    (sym none)
    ∙ c.loop-other.invariant counts j
