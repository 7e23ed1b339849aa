-- The row of an equal comparison is the one that is wanted, and so is a new one.
use Rattle.std.proofs.Common.{◌≡◌, ◌-◌, List, ℕ, ◌∷◌, [], ◌++◌, length, length-append, sym, ap, subst, arith}
use Rattle.pd_pred.specs.Trees.{tree_view}
use Rattle.wide_terms.specs.KnownRows.{AreRowsOf, IsNumberOf}
use Rattle.wide_terms.specs.Rows.{MakesTerms}
use Rattle.wide_terms.specs.declared.known.Known.{Known}
use Rattle.wide_terms.specs.declared.row.TruthRow.{TruthRow}
use Rattle.wide_terms.proofs.Building.{made_row}
use Rattle.wide_terms.proofs.Sharing.{rows_more, made_shared}
use Rattle.wide_terms.proofs.known.row_number.Goals as goal

pub returns-in-Some-clause-made : goal.returns-in-Some-clause-made
returns-in-Some-clause-made c =
    made_shared c.args.computation.now c.args.known.now.items c.args.rows.now.items c.args.wanted c.in-Some.number
    c.requires.known
    (subst (λ (known : List Known). IsNumberOf known c.args.wanted c.in-Some.number) c.deref.ensures.value
    c.in-Some.ensures)

pub returns-in_ok-push-in-None-2-clause-made : goal.returns-in_ok-push-in-None-2-clause-made
returns-in_ok-push-in-None-2-clause-made c =
    let last : c.len.result - 1 ≡ length c.args.rows.now.items =
    omega (
      arith,
      c.len.ensures,
      ap (λ (rows : List TruthRow). length rows) c.in_ok-push-in-None.ensures.items,
      length-append c.args.rows.now.items (c.in_ok-row_of-in-None.field-0 ∷ []),
    ) in
    subst (λ (i : ℕ). MakesTerms c.args.computation.now c.args.wanted.negated (tree_view c.args.wanted.tree.now)
    c.args.rows.now.items c.push.new.self.items ((i ∷ []) ∷ [])) (sym {A = ℕ} last)
    (subst (λ (rows : List TruthRow). MakesTerms c.args.computation.now c.args.wanted.negated
    (tree_view c.args.wanted.tree.now) c.args.rows.now.items rows ((length c.args.rows.now.items ∷ []) ∷ []))
    (sym {A = List TruthRow} c.in_ok-push-in-None.ensures.items)
    (made_row c.args.computation.now c.args.wanted.negated (tree_view c.args.wanted.tree.now) c.args.rows.now.items
    c.in_ok-row_of-in-None.field-0 c.in_ok-row_of-in-None.ensures))

pub returns-in_ok-push-in-None-2-clause-known : goal.returns-in_ok-push-in-None-2-clause-known
returns-in_ok-push-in-None-2-clause-known c =
    subst (λ (known : List Known). AreRowsOf c.args.computation.now known c.push.new.self.items)
    (sym c.in_ok-push-in-None-2.ensures.items)
    (subst (λ (rows : List TruthRow). AreRowsOf c.args.computation.now (c.args.known.now.items ++ c.args.wanted ∷ [])
    rows) (sym {A = List TruthRow} c.in_ok-push-in-None.ensures.items)
    (rows_more c.args.computation.now c.args.known.now.items c.args.rows.now.items c.args.wanted
    c.in_ok-row_of-in-None.field-0 c.requires.known c.in_ok-row_of-in-None.ensures))
