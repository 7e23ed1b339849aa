-- The key of the empty cut is 0.
use Rattle.std.proofs.Common.{◌≡◌, ℕ, List, [], ◌∷◌, ◌++◌, ap, sym, ◌∙◌, subst, arith}
use Rattle.def_model.specs.Cuts.{empty_cut}
use Rattle.walk_keys.specs.Keys.{digits}
use Rattle.walk_keys.proofs.Keys.{digits-empty}
use Rattle.pd_level.specs.Levels.{IsKept, cuts_of, numbers}
use Rattle.pd_level.proofs.Levels.{first_kept}
use Rattle.pd_level.proofs.level.Level.first.Goals as goal

pub invariant_of-result : goal.invariant_of-result
invariant_of-result c =
    let n = c.processes-processes.result in
    let keys : numbers c.push_none.new.self ≡ 0 ∷ [] =
    c.in_ok-push_none.ensures.numbers ∙ ap (λ (xs : List ℕ). xs ++ 0 ∷ []) c.in_ok-keys.ensures.none in (
      subst (IsKept n) (sym keys) (first_kept n (omega (arith, c.limits.ensures.few, c.processes-processes.ensures))),
      λ some. rw c.push_none.ensures.kind c.in_ok-keys.ensures.kind,
    )

pub returns : goal.returns
returns c =
    let n = c.processes-processes.result in
    let keys : numbers c.push_none.new.self ≡ 0 ∷ [] =
    c.in_ok-push_none.ensures.numbers ∙ ap (λ (xs : List ℕ). xs ++ 0 ∷ []) c.in_ok-keys.ensures.none in
    let cut : digits n 0 ≡ empty_cut c.args.computation.now.events =
    ap (λ (m : ℕ). digits m 0) c.processes-processes.ensures ∙ digits-empty c.args.computation.now.events in
    ap (λ (cuts : List (List ℕ)). record { number = 0; cuts = cuts })
    (ap (cuts_of n) keys ∙ ap (λ (x : List ℕ). x ∷ []) cut)
