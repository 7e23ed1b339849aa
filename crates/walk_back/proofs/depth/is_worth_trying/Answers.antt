-- Which processes are worth trying.
use Rattle.std.proofs.Common.{◌≡◌, ℕ, ◌+◌, true, false, List, length, sum, sym, ◌∙◌, ap, subst, Contains, arith}
use Rattle.std.proofs.lemmas.Bool.{false≢true}
use Rattle.walk_keys.specs.Keys.{AreDigits, key_of}
use Rattle.def_model.specs.Cuts.{one_less}
use Rattle.walk_back.specs.Searches.{search_events, search_test}
use Rattle.def_model.proofs.Counts.{length_less, sum_less}
use Rattle.walk_back.specs.Ways.{LeavesConsistent}
use Rattle.walk_back.proofs.Searching.{dead_found, leaves_parts, not_kept, worth_kept}
use Rattle.walk_back.proofs.depth.is_worth_trying.Goals as goal

pub returns-then-not-can_undo-clause-no : goal.returns-then-not-can_undo-clause-no
returns-then-not-can_undo-clause-no c = λ _ avoiding.
    let t : c.can_undo.result ≡ true =
    c.can_undo.ensures.1 (leaves_parts (search_events c.args.search.now) (search_test c.args.search.now)
    c.args.cut.now c.args.p avoiding).0 in
    absurd (false≢true (sym (rw t at c.if-not-can_undo.true)))

pub returns-then-level-number-clause-yes : goal.returns-then-level-number-clause-yes
returns-then-level-number-clause-yes c = λ has.
    let leaves : LeavesConsistent (search_events c.args.search.now) c.args.cut.now c.args.p =
    c.can_undo.ensures.0 c.if-not-can_undo.false in
    let fewer : sum (one_less c.args.cut.now c.args.p) + 1 ≡ sum c.args.cut.now =
    sum_less c.args.cut.now c.args.p leaves.0 in
    worth_kept (search_events c.args.search.now) (search_test c.args.search.now)
    c.args.search.now.kept.now c.args.cut.now c.without_last-low.result c.args.p c.requires.list
    (omega (arith, c.requires.number, c.if-level-number.true, c.number.ensures)) c.without_last-low.ensures leaves
    (c.contains.ensures.0 has)

pub returns-then-level-number-clause-no : goal.returns-then-level-number-clause-no
returns-then-level-number-clause-no c = λ not_there avoiding.
    let fewer : sum (one_less c.args.cut.now c.args.p) + 1 ≡ sum c.args.cut.now =
    sum_less c.args.cut.now c.args.p avoiding.0 in
    let t : c.contains.result ≡ true =
    c.contains.ensures.1 (not_kept (search_events c.args.search.now) (search_test c.args.search.now)
    c.args.search.now.kept.now c.args.cut.now c.without_last-low.result c.args.p c.requires.list
    (omega (arith, c.requires.number, c.if-level-number.true, c.number.ensures)) c.without_last-low.ensures avoiding) in
    absurd (false≢true (sym not_there ∙ t))

pub has-requires : goal.has-requires
has-requires c =
    let many : length (one_less c.args.cut.now c.args.p) ≡ length c.args.cut.now =
    length_less c.args.cut.now c.args.p in
    omega (arith, ap length c.without_last-low.ensures, many, c.requires.few)

pub returns-then-has-clause-no : goal.returns-then-has-clause-no
returns-then-has-clause-no c = λ _ avoiding.
    let less : c.without_last-low.result ≡ one_less c.args.cut.now c.args.p = c.without_last-low.ensures in
    let many : length (one_less c.args.cut.now c.args.p) ≡ length (search_events c.args.search.now) =
    length_less c.args.cut.now c.args.p ∙ c.requires.consistent.fits.one_each in
    let found : AreDigits c.without_last-low.result × Contains c.args.dead.now (key_of c.without_last-low.result) =
    c.has.ensures c.if-has.true in
    dead_found (search_events c.args.search.now) (search_test c.args.search.now)
    c.args.dead.now (one_less c.args.cut.now c.args.p) c.requires.dead (subst AreDigits less found.0) many
    (subst (λ (x : List ℕ). Contains c.args.dead.now (key_of x)) less found.1) avoiding.1

pub returns-clause-no : goal.returns-clause-no
returns-clause-no c = λ holds avoiding.
    let less : c.without_last-low.result ≡ one_less c.args.cut.now c.args.p = c.without_last-low.ensures in
    let fails : search_test c.args.search.now (one_less c.args.cut.now c.args.p) ≡ false =
    (leaves_parts (search_events c.args.search.now) (search_test c.args.search.now)
    c.args.cut.now c.args.p avoiding).1 in
    let same : c.holds.result ≡ search_test c.args.search.now c.without_last-low.result =
    search (c.holds.ensures, c.at.ensures) in
    let none : c.holds.result ≡ false = same ∙ (ap (search_test c.args.search.now)
    less ∙ fails) in
    absurd (false≢true (sym (rw none at holds)))
