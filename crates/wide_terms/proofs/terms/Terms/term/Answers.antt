-- A term is of rows that are there.
use Rattle.std.proofs.Common.{◌≡◌, ◌<◌, ℕ, List, [], length, get_or, refl, sym, ap, ◌∙◌, subst, arith}
use Rattle.std.proofs.lemmas.List.{length-map}
use Rattle.std.proofs.lemmas.Option.{slice_get-map, slice_get_read, get_or_from_slice_get}
use Rattle.std.specs.Global.{Global}
use Rattle.std.specs.Prelude.{Option, Some, Vec, option_map, slice_get}
use Rattle.wide_terms.specs.Rows.{numbers_view}
use Rattle.wide_terms.proofs.terms.Terms.term.Goals as goal

-- the numbers of the term with this number
numbers_at : (terms : List (Vec ℕ Global)) (i : ℕ) (term : Vec ℕ Global) → i < length terms
    → term ≡ get_or terms i term → slice_get (numbers_view terms) i ≡ Some term.items
numbers_at terms i term lt at =
    slice_get-map (λ (t : Vec ℕ Global). t.items) terms i
    ∙ ap (λ (found : Option (Vec ℕ Global)). option_map (λ (t : Vec ℕ Global). t.items) found)
    (slice_get_read terms (length terms) i term refl lt at)

pub returns-clause-numbers : goal.returns-clause-numbers
returns-clause-numbers c =
    numbers_at c.args.self.now.terms.items c.args.i c.index.result.now c.requires c.index.ensures
    ∙ ap Some (sym c.deref-2.ensures.value)

pub invariant_of-result : goal.invariant_of-result
invariant_of-result c = record {
  sound = λ k d lt.
      let at : get_or (numbers_view c.args.self.now.terms.items) c.args.i [] ≡ c.deref-2.result.now =
      get_or_from_slice_get (numbers_view c.args.self.now.terms.items) c.args.i c.deref-2.result.now []
      (numbers_at c.args.self.now.terms.items c.args.i c.index.result.now c.requires c.index.ensures
      ∙ ap Some (sym c.deref-2.ensures.value)) in
      let inside : get_or (get_or (numbers_view c.args.self.now.terms.items) c.args.i []) k d
      < length c.args.self.now.rows.items =
      c.args.self.now.sound c.args.i [] (rw (length-map) (omega (arith, c.requires))) k d (rw at lt) in
      rw c.deref.ensures.value (subst (λ (xs : List ℕ). get_or xs k d < length c.args.self.now.rows.items) at inside);
}
