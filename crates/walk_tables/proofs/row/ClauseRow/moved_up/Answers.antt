-- The words of a row, moved up.
use Rattle.std.proofs.Common.{◌≡◌, ◌<◌, ℕ, List, length, subst, sym, get_or, rules}
use Rattle.std.proofs.lemmas.List.{with_items_is}
use Rattle.walk_keys.specs.Words.{has_bit}
use Rattle.walk_tables.specs.Rows.{moved}
use Rattle.walk_tables.proofs.Conjunctions.{rows_at}
use Rattle.walk_tables.proofs.row.ClauseRow.moved_up.Goals as goal

pub returns : goal.returns
returns c n j small =
    let by = c.args.by in
    let old = c.args.self.words.items in
    let new = c.move_up.new.words in
    let value : c.deref_mut.result.now ≡ old = c.deref_mut.ensures.value in
    let same : length new ≡ length old = search rules in
    let items = with_items_is c.args.self.words new (search rules) in
    subst (λ (ws : List ℕ). has_bit (get_or ws n c.moved_word-beyond.result) j
    ≡ moved by (has_bit (get_or old n c.args.self.beyond)) j) (sym items)
    (rows_at (λ (k a b : ℕ). has_bit b j ≡ moved by (has_bit a) j) old new c.args.self.beyond
    c.moved_word-beyond.result same (λ k lt.
    subst (λ (ws : List ℕ). has_bit (get_or new k 0) j ≡ moved by (has_bit (get_or ws k 0)) j) value
    (c.move_up.ensures k (subst (λ (ws : List ℕ). k < length ws) (sym value) lt) j small))
    (λ k le. c.moved_word-beyond.ensures j small) n)
