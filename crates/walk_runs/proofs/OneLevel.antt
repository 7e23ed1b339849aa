-- A level has one list of runs.
use Rattle.std.proofs.Common.{◌≡◌, ℕ, ◌-◌, List, [], ◌∷◌, sum, Contains, refl, sym, ap, ◌∙◌, subst, inl, inr, ◌⊎◌, ◌↔◌}
use Rattle.def_model.specs.Events.{Computation, Linked}
use Rattle.def_model.proofs.OneAnswer.{lex_irreflexive, lex_asymmetric}
use Rattle.walk_runs.specs.Runs.{IsInterval}
use Rattle.walk_runs.proofs.RunIntervals.{one_interval}
use Rattle.walk_runs.specs.WholeLevels.{Run, IsRunOf, IsBelowRun, HasRun, IsWhole}
use Rattle.walk_runs.proofs.Ascending.{nothing_in_empty, in_cons, in_rest, in_head, linked_rest, below_later}
use Rattle.walk_runs.proofs.RunFlags.{Ends, ends_of_run}

same_run : (run other : Run) → run.prefix ≡ other.prefix → run.lo ≡ other.lo → run.hi ≡ other.hi → run ≡ other
same_run run other p l h =
    ap (λ (q : List ℕ). record { prefix = q; lo = run.lo; hi = run.hi }) p
    ∙ (ap (λ (n : ℕ). record { prefix = other.prefix; lo = n; hi = run.hi }) l
    ∙ ap (λ (n : ℕ). record { prefix = other.prefix; lo = other.lo; hi = n }) h)

-- a run of one list is in the other
also_in : (c : Computation) (k : ℕ) (runs others : List Run) → IsWhole c k runs → IsWhole c k others → (run : Run)
    → Contains runs run → Contains others run
also_in c k runs others whole whole' run has =
    let r : IsRunOf c k run = whole.each run has in
    let ends : Ends c k run = ends_of_run c k run r in
    go r (whole'.alive run.prefix run.lo ((k - sum run.prefix) - run.lo) ends.1)
  where
    go : IsRunOf c k run → HasRun others run.prefix → Contains others run
    go r (other, there, e) =
        let q : IsRunOf c k other = whole'.each other there in
        let i : IsInterval c run.prefix (k - sum run.prefix) other.lo other.hi =
        subst (λ (p : List ℕ). IsInterval c p (k - sum p) other.lo other.hi) e q.interval in
        let w : (run.lo ≡ other.lo) × (run.hi ≡ other.hi) =
        one_interval c run.prefix (k - sum run.prefix) run.lo run.hi other.lo other.hi r.interval i r.some in
        subst (λ (z : Run). Contains others z) (sym (same_run run other (sym e) w.0 w.1)) there

-- ascending lists of the same runs are equal
one_ascending : (xs ys : List Run) → Linked IsBelowRun xs → Linked IsBelowRun ys
    → ((run : Run) → Contains xs run ↔ Contains ys run) → xs ≡ ys
one_ascending [] [] a b same = refl
one_ascending [] (y ∷ ys) a b same = absurd (nothing_in_empty y ((same y).1 (in_head y ys)))
one_ascending (x ∷ xs) [] a b same = absurd (nothing_in_empty x ((same x).0 (in_head x xs)))
one_ascending (x ∷ xs) (y ∷ ys) a b same =
    let e : x ≡ y = first (in_cons y x ys ((same x).0 (in_head x xs))) (in_cons x y xs ((same y).1 (in_head y ys))) in
    let rest : xs ≡ ys = one_ascending xs ys (linked_rest IsBelowRun x xs a) (linked_rest IsBelowRun y ys b) (λ run.
    (to e run, from e run)) in
    cc
  where
    first : (y ≡ x) ⊎ Contains ys x → (x ≡ y) ⊎ Contains xs y → x ≡ y
    first (inl e) r = sym e
    first (inr l) (inl e) = e
    first (inr l) (inr r) = absurd (lex_asymmetric x.prefix y.prefix (below_later x y xs a r) (below_later y x ys b l))

    to : x ≡ y → (run : Run) → Contains xs run → Contains ys run
    to e run has = go (in_cons y run ys ((same run).0 (in_rest x run xs has)))
      where
        go : (y ≡ run) ⊎ Contains ys run → Contains ys run
        go (inl f) = absurd (lex_irreflexive run.prefix
            (subst (λ (z : Run). IsBelowRun z run) (e ∙ f) (below_later x run xs a has)))
        go (inr later) = later

    from : x ≡ y → (run : Run) → Contains ys run → Contains xs run
    from e run has = go (in_cons x run xs ((same run).1 (in_rest y run ys has)))
      where
        go : (x ≡ run) ⊎ Contains xs run → Contains xs run
        go (inl f) = absurd (lex_irreflexive run.prefix
            (subst (λ (z : Run). IsBelowRun z run) (sym e ∙ f) (below_later y run ys b has)))
        go (inr later) = later

pub one_whole : (c : Computation) (k : ℕ) (runs others : List Run) → IsWhole c k runs → IsWhole c k others
    → runs ≡ others
one_whole c k runs others whole whole' =
    one_ascending runs others whole.ascending whole'.ascending (λ run.
    (also_in c k runs others whole whole' run, also_in c k others runs whole' whole run))
