-- A history without steps is legal, and its rows are fresh.
use Rattle.std.proofs.Common.{◌≡◌, ◌∙◌, ℕ, List, [], ◌∷◌, ◌++◌, ap, sym, subst, length, arith, refl}
use Rattle.std.proofs.lemmas.List.{map-append}
use Rattle.def_format.specs.Histories.{rows_of}
use Rattle.def_format.specs.HistoryLaws.{PassesAsLegal}
use Rattle.def_format.proofs.HistoryFacts.{rows_more}
use Rattle.pd_register.specs.declared.post.Post.{Post}
use Rattle.pd_register.specs.Views.{history_view, row_view, rows_view}
use Rattle.pd_register.proofs.history.History.new.Goals as goal

pub loop-preserved : goal.loop-preserved
loop-preserved c =
    let old = c.loop.rows.items in (
      omega (arith, c.in_ok-push.ensures.len, c.loop.invariant.0),
      ap rows_view c.in_ok-push.ensures.items ∙ (map-append row_view old (c.fresh.result ∷ [])
          ∙ ((λ i. c.loop.invariant.1 i ++ c.fresh.ensures i ∷ []) ∙ rows_more 0 c.loop.counter)),
    )

pub invariant_of-result : goal.invariant_of-result
invariant_of-result c =
    let e : [] ≡ c.new.result.items = sym c.new.ensures.items in
    let rows = c.loop.rows.items in
    let inv = c.loop.invariant in record {
      shown = subst (λ (h : List Post). rows_view rows ≡ rows_of (length rows) (history_view h)) e
          (inv.1 ∙ ap (λ (k : ℕ). rows_of k []) (sym inv.0));
      legal = subst (λ (h : List Post). PassesAsLegal (length rows) (history_view h)) e
          ((λ k d lt. absurd (omega arith)), λ k. refl);
    }
