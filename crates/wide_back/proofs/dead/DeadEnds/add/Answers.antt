-- The set has the counts, and nothing else that is new.
use Rattle.std.proofs.Common.{◌+◌, List, ℕ, length, sym, ap, ◌∙◌, subst, Contains}
use Rattle.std.proofs.lemmas.List.{length-map}
use Rattle.wide_back.specs.Lists.{items_of}
use Rattle.wide_back.specs.Searches.{IsAdded}
use Rattle.wide_back.proofs.SeenSets.{count_more, inserted}
use Rattle.wide_back.proofs.dead.DeadEnds.add.Goals as goal

-- no list of the set is this one
fresh : (c : goal.In_ok-insert) → ¬ Contains (items_of c.self.inside.seen.keys) c.in_ok-from_slice.field-0.items
fresh c there =
    c.requires (subst (λ (x : List ℕ). Contains c.args.self.now x) c.in_ok-from_slice.ensures.items
    (subst (λ (xs : List (List ℕ)). Contains xs c.in_ok-from_slice.field-0.items) c.self.view_is there))

pub returns-clause-added : goal.returns-clause-added
returns-clause-added c =
    subst (λ (xs : List (List ℕ)). IsAdded xs c.args.counts.now (items_of c.insert.new.self.keys)) c.self.view_is
    (subst (λ (x : List ℕ). IsAdded (items_of c.self.inside.seen.keys) x (items_of c.insert.new.self.keys))
    c.in_ok-from_slice.ensures.items
    (rw c.in_ok-insert.ensures.keys
    (inserted c.in_ok-from_slice.field-0 c.self.inside.seen.keys (fresh c))))

pub returns-clause-count : goal.returns-clause-count
returns-clause-count c =
    length-map c.insert.new.self.keys (λ v. v.items)
    ∙ (count_more c.in_ok-from_slice.field-0 c.self.inside.seen.keys (length c.self.inside.seen.keys)
    (length c.insert.new.self.keys) c.in_ok-insert.field-0 (fresh c) c.in_ok-insert.ensures.added
    c.in_ok-insert.ensures.len
    ∙ ap (λ (n : ℕ). n + 1) (sym (length-map c.self.inside.seen.keys (λ v. v.items)) ∙ ap length c.self.view_is))
