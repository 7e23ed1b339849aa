-- The first comparison that is left is taken in.
use Rattle.std.proofs.Common.{◌≡◌, ◌+◌, ◌*◌, ◌<◌, ◌≤◌, ℕ, List, length, get_or, drop, refl, sym, ap, ◌∙◌, arith}
use Rattle.std.proofs.lemmas.List.{drop_all, drop_more}
use Rattle.std.proofs.lemmas.Option.{slice_get-get_or}
use Rattle.std.specs.Prelude.{Bool, true, false, ◌&&◌, Option, Some, slice_get}
use Rattle.wide_terms.specs.Rows.{row_allows, term_allows}
use Rattle.wide_terms.specs.declared.row.TruthRow.{TruthRow}
use Rattle.wide_terms.proofs.terms.Term.word.Goals as goal

and_assoc : (a b d : Bool) → ((a && b) && d) ≡ (a && (b && d))
and_assoc true b d = refl
and_assoc false b d = refl

and_true : (a : Bool) → (a && true) ≡ a
and_true true = refl
and_true false = refl

-- one comparison more
one_more : (rows : List TruthRow) (numbers : List ℕ) (k : ℕ) (row : TruthRow) (p count : ℕ) (old new more whole : Bool)
    → k < length numbers → slice_get rows (get_or numbers k 0) ≡ Some row → new ≡ (old && more)
    → more ≡ row_allows (Some row) p count → (old && term_allows rows (drop k numbers) p count) ≡ whole
    → (new && term_allows rows (drop (k + 1) numbers) p count) ≡ whole
one_more rows numbers k row p count old new more whole lt at is allowed before =
    let rest : Bool = term_allows rows (drop (k + 1) numbers) p count in
    let left : term_allows rows (drop k numbers) p count ≡ (row_allows (Some row) p count && rest) =
    ap (λ (term : List ℕ). term_allows rows term p count) (drop_more numbers k 0 lt)
    ∙ ap (λ (found : Option TruthRow). row_allows found p count && rest) at in
    ap (λ (b : Bool). b && rest) is
    ∙ (ap (λ (b : Bool). (old && b) && rest) allowed
    ∙ (and_assoc old (row_allows (Some row) p count) rest ∙ (ap (λ (b : Bool). old && b) (sym left) ∙ before)))

-- none is left
no_more : (rows : List TruthRow) (numbers : List ℕ) (k p count : ℕ) (bit whole : Bool) → length numbers ≤ k
    → (bit && term_allows rows (drop k numbers) p count) ≡ whole → bit ≡ whole
no_more rows numbers k p count bit whole le before =
    sym (ap (λ (term : List ℕ). bit && term_allows rows term p count) (drop_all k numbers le) ∙ and_true bit) ∙ before

pub loop-i-preserved : goal.loop-i-preserved
loop-i-preserved c = λ j lt.
    let self = c.args.self.now in
    let index : c.loop-i.i-index < length self.numbers.now = omega arith in
    let there : get_or self.numbers.now c.loop-i.i-index 0 < length self.rows.now =
    self.sound c.loop-i.i-index 0 index in
    one_more self.rows.now self.numbers.now c.loop-i.i-index
    (get_or self.rows.now (get_or self.numbers.now c.loop-i.i-index 0) c.index-self-i.result) c.args.process
    (c.args.number * 64 + j) _ _ _ _ index
    (slice_get-get_or self.rows.now (get_or self.numbers.now c.loop-i.i-index 0) c.index-self-i.result there)
    (c.both-word.ensures j) (c.allowed.ensures j lt) (c.loop-i.invariant j lt)

pub returns : goal.returns
returns c = λ j lt.
    no_more c.args.self.now.rows.now c.args.self.now.numbers.now c.loop-i.i-index c.args.process
    (c.args.number * 64 + j) _ _ (omega arith) (c.loop-i.invariant j lt)
