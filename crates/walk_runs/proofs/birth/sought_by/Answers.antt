-- Who receives what the last event of the process sends has a bit in the word of that event.
use Rattle.std.proofs.Common.{◌≡◌, ◌∙◌, ◌+◌, ◌-◌, ◌<◌, ◌≤◌, ◌⊎◌, inl, inr, ℕ, Option, get_or, length, ap, sym, subst, arith}
use Rattle.std.proofs.lemmas.Bool.{cases_lt, false≢true}
use Rattle.def_model.specs.Events.{place}
use Rattle.def_model.specs.Messages.{IsMessage}
use Rattle.walk_runs.specs.Births.{next_of}
use Rattle.walk_runs.specs.Points.{IsWanted, point_cut}
use Rattle.walk_runs.proofs.birth.sought_by.Goals as goal

pub returns-in-Some-clause-all : goal.returns-in-Some-clause-all
returns-in-Some-clause-all g c p lt wanted =
    let cut = point_cut (length c.args.steps.now - 2) c.args.point.now in
    let number : c.count.result ≡ get_or cut c.in-Some.q 0 =
    c.count.ensures ∙ ap (λ (n : ℕ). get_or (point_cut n c.args.point.now) c.in-Some.q 0) c.prefix.ensures in
    let message : IsMessage c.args.steps.now (place c.in-Some.q (get_or cut c.in-Some.q 0)) (next_of cut p) =
    subst (λ (by : Option ℕ). IsWanted c.args.steps.now cut by p) c.in-Some.is wanted in
    (c.receivers.ensures p).1 (
      lt,
      (
        get_or cut p 0 + 1,
        subst (λ (n : ℕ). IsMessage c.args.steps.now (place c.in-Some.q n) (next_of cut p)) (sym number) message,
      ),
    )

pub returns-in-Some-clause-within : goal.returns-in-Some-clause-within
returns-in-Some-clause-within g c p set = ((c.receivers.ensures p).0 set).0

pub returns-in-None-clause-all : goal.returns-in-None-clause-all
returns-in-None-clause-all g c p lt wanted = c.lowest.ensures.within p (omega (arith, c.prefix-in-None.ensures))

pub returns-in-None-clause-within : goal.returns-in-None-clause-within
returns-in-None-clause-within g c p set = at (cases_lt p c.prefix-in-None.result)
  where
    at : (p < c.prefix-in-None.result) ⊎ (c.prefix-in-None.result ≤ p) → p < length c.args.steps.now - 2
    at (inl lt) = omega (arith, c.prefix-in-None.ensures)
    at (inr ge) = absurd (false≢true (sym (c.lowest.ensures.beyond p ge) ∙ set))
