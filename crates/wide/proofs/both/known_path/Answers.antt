-- A copy of the path is that path.
use Rattle.std.proofs.Common.{◌∙◌, subst, sym, ℕ, List}
use Rattle.std.specs.Global.{Global}
use Rattle.std.specs.Prelude.{Option, Vec}
use Rattle.wide.specs.Found.{IsPathIfKnown}
use Rattle.wide_terms.specs.Passages.{IsPathOfAll}
use Rattle.wide.proofs.both.known_path.Goals as goal

pub returns-in-Some-clause-copied : goal.returns-in-Some-clause-copied
returns-in-Some-clause-copied c =
    subst (λ (items : List ℕ). IsPathOfAll c.args.computation.now.events items)
    (sym (c.in_ok-copy-in-Some.ensures.items_if_clones_equal (λ x y same. same) ∙ c.as_slice.ensures.value))
    (subst (λ (path : Option (Vec ℕ Global)). IsPathIfKnown c.args.computation.now.events path) c.in-Some.is c.requires)

pub returns-clause-copied : goal.returns-clause-copied
returns-clause-copied c =
    subst (λ (items : List ℕ). IsPathOfAll c.args.computation.now.events items)
    (sym (c.in_ok-copy.ensures.items_if_clones_equal (λ x y same. same) ∙ c.as_slice-2.ensures.value))
    c.in_ok-found.ensures
