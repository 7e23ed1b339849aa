-- One comparison more is put with those of its kind.
use Rattle.std.proofs.Common.{◌≡◌, ◌+◌, ◌∷◌, [], List, ap, drop, get_or, map, sym, subst, arith}
use Rattle.std.proofs.lemmas.List.{drop_all}
use Rattle.def_wide.specs.Terms.{Literal}
use Rattle.wide_sums.specs.Literals.{literal_view, term_at}
use Rattle.wide_sums.specs.Splits.{AreLocals, AreSums}
use Rattle.wide_sums.proofs.Reading.{place_read, term_left}
use Rattle.wide_sums.proofs.Splitting.{locals_end, locals_put, split_by, sums_end, sums_put}
use Rattle.wide_sums.proofs.prepared.Prepared.parts.Goals as goal

pub loop-i-preserved : goal.loop-i-preserved
loop-i-preserved c =
    let r = c.args.computation.now in
    let rows = c.args.self.now.rows.rows.items in
    let literals = c.args.self.now.terms.literals.items in
    let places = c.args.self.now.places.items in
    let term = c.args.term.now in
    let k = c.loop-i.i-index in
    let l = c.index.result.now in
    let place = c.index-in-loop-i.result.now in
    let rest = term_at literals (drop (k + 1) term) in
    let left : term_at literals (drop k term) ≡ literal_view l ∷ rest =
    term_left literals term k l (omega arith) c.requires.there c.index.ensures in
    let of_place =
    place_read r rows literals places (get_or term k 0) l place c.requires.prepared
    (c.requires.there k 0 (omega arith)) c.index.ensures c.index-in-loop-i.ensures in
    record {
      sums = sums_put r rows (literal_view l) place rest (term_at literals term) c.loop-i.numbers.items
          c.put.new.numbers.items (map literal_view c.loop-i.sums.items) (map literal_view c.put.new.sums.items)
          of_place c.in_ok-put.ensures
          (λ more are. c.loop-i.invariant.sums more (subst (λ (t : List Literal). AreSums t more) (sym left) are));
      locals = locals_put r rows (literal_view l) place rest (term_at literals term) c.loop-i.numbers.items
          c.put.new.numbers.items (map literal_view c.loop-i.sums.items) (map literal_view c.put.new.sums.items)
          of_place c.in_ok-put.ensures
          (λ more are. c.loop-i.invariant.locals more
          (subst (λ (t : List Literal). AreLocals r rows t more) (sym left) are));
    }

pub returns : goal.returns
returns c =
    let r = c.args.computation.now in
    let rows = c.args.self.now.rows.rows.items in
    let literals = c.args.self.now.terms.literals.items in
    let term = c.args.term.now in
    let rest = term_at literals (drop c.loop-i.i-index term) in
    let none : rest ≡ [] = ap (term_at literals) (drop_all c.loop-i.i-index term (omega arith)) in
    split_by r rows (term_at literals term) c.loop-i.numbers.items (map literal_view c.loop-i.sums.items)
    c.limits.ensures.some c.requires.prepared.within
    (sums_end rest (term_at literals term) (map literal_view c.loop-i.sums.items) none c.loop-i.invariant.sums)
    (locals_end r rows rest (term_at literals term) c.loop-i.numbers.items none c.loop-i.invariant.locals)
