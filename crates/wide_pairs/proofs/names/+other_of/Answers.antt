-- What is found of a part is found of the whole.
use Rattle.std.proofs.Common.{◌≡◌, ℕ, refl, subst}
use Rattle.std.specs.Prelude.{Option, Some}
use Rattle.def_model.specs.Predicates as model
use Rattle.def_model.specs.Predicates.{Predicate}
use Rattle.pd_pred.specs.Trees.{sum_view, tree_view}
use Rattle.def_model.specs.Decided.{NamePair, NamesOnly}
use Rattle.wide_pairs.specs.Twos.{IsOther}
use Rattle.wide_pairs.proofs.Naming.{other_in, other_last}
use Rattle.wide_pairs.proofs.names.+other_of.Goals as goal

pub returns-in-Some : goal.returns-in-Some
returns-in-Some t c =
    let left = sum_view c.in-Compare.left in
    let whole : Predicate = tree_view c.args.tree.now in
    other_in (λ x y. NamePair x y left) (λ x y. NamesOnly x y whole) c.args.p c.args.q c.in-Some.process
    (λ x y only. (rw c.in-Compare.is at only).0) c.in-Some.ensures

pub returns-in-None : goal.returns-in-None
returns-in-None t c =
    let right = sum_view c.in-Compare.right in
    let whole : Predicate = tree_view c.args.tree.now in
    other_last (λ x y. NamePair x y right) (λ x y. NamesOnly x y whole) c.args.p c.args.q
    c.other_of_sum-in-None.result (λ x y only. (rw c.in-Compare.is at only).1)
    (λ last. rw c.in-Compare.is (c.in-None.ensures, last)) c.other_of_sum-in-None.ensures

pub returns-in-Not : goal.returns-in-Not
returns-in-Not t c =
    let inner : Predicate = tree_view c.deref.result.now in
    let same : model.Not inner ≡ tree_view c.args.tree.now = rw (c.deref.ensures, c.in-Not.is) refl in
    subst (λ (p : Predicate). IsOther (λ x y. NamesOnly x y p) c.args.p c.args.q c.other_of.result) same
    c.other_of.ensures

pub returns-in-Some-other_of : goal.returns-in-Some-other_of
returns-in-Some-other_of t c =
    let left : Predicate = tree_view c.deref-in-And.result.now in
    let right : Predicate = tree_view c.in-And.right.value in
    let same : model.And left right ≡ tree_view c.args.tree.now = rw (c.deref-in-And.ensures, c.in-And.is) refl in
    let found : Option ℕ = Some c.in-Some-other_of.process in
    subst (λ (p : Predicate). IsOther (λ x y. NamesOnly x y p) c.args.p c.args.q found) same
    (other_in (λ x y. NamesOnly x y left) (λ x y. NamesOnly x y left × NamesOnly x y right) c.args.p c.args.q
    c.in-Some-other_of.process (λ x y only. only.0) c.in-Some-other_of.ensures)

pub returns-in-None-other_of : goal.returns-in-None-other_of
returns-in-None-other_of t c =
    let left : Predicate = tree_view c.deref-in-And.result.now in
    let right : Predicate = tree_view c.deref-in-None-other_of.result.now in
    let found = c.other_of-in-None-other_of.result in
    let same : model.And left right ≡ tree_view c.args.tree.now =
    rw (c.deref-in-And.ensures, c.deref-in-None-other_of.ensures, c.in-And.is) refl in
    subst (λ (p : Predicate). IsOther (λ x y. NamesOnly x y p) c.args.p c.args.q found) same
    (other_last (λ x y. NamesOnly x y right) (λ x y. NamesOnly x y left × NamesOnly x y right) c.args.p c.args.q found
    (λ x y only. only.1) (λ last. (c.in-None-other_of.ensures, last)) c.other_of-in-None-other_of.ensures)

pub returns-in-Some-other_of-2 : goal.returns-in-Some-other_of-2
returns-in-Some-other_of-2 t c =
    let left : Predicate = tree_view c.deref-in-Or.result.now in
    let right : Predicate = tree_view c.in-Or.right.value in
    let same : model.Or left right ≡ tree_view c.args.tree.now = rw (c.deref-in-Or.ensures, c.in-Or.is) refl in
    let found : Option ℕ = Some c.in-Some-other_of-2.process in
    subst (λ (p : Predicate). IsOther (λ x y. NamesOnly x y p) c.args.p c.args.q found) same
    (other_in (λ x y. NamesOnly x y left) (λ x y. NamesOnly x y left × NamesOnly x y right) c.args.p c.args.q
    c.in-Some-other_of-2.process (λ x y only. only.0) c.in-Some-other_of-2.ensures)

pub returns-in-None-other_of-2 : goal.returns-in-None-other_of-2
returns-in-None-other_of-2 t c =
    let left : Predicate = tree_view c.deref-in-Or.result.now in
    let right : Predicate = tree_view c.deref-in-None-other_of-2.result.now in
    let found = c.other_of-in-None-other_of-2.result in
    let same : model.Or left right ≡ tree_view c.args.tree.now =
    rw (c.deref-in-Or.ensures, c.deref-in-None-other_of-2.ensures, c.in-Or.is) refl in
    subst (λ (p : Predicate). IsOther (λ x y. NamesOnly x y p) c.args.p c.args.q found) same
    (other_last (λ x y. NamesOnly x y right) (λ x y. NamesOnly x y left × NamesOnly x y right) c.args.p c.args.q found
    (λ x y only. only.1) (λ last. (c.in-None-other_of-2.ensures, last)) c.other_of-in-None-other_of-2.ensures)
