-- The need of a receipt is its send.
use Rattle.std.proofs.Common.{◌≡◌, ℕ, ◌+◌, ◌-◌, List, length, get_or, sym, ap, ◌∙◌, subst}
use Rattle.std.proofs.lemmas.Bool.{eq-eqb}
use Rattle.def_model.specs.Events.{Computation, Place, place}
use Rattle.def_model.specs.Messages.{IsMessage}
use Rattle.walk_runs.specs.Births.{next_of}
use Rattle.walk_runs.specs.Needs.{IsNeed}
use Rattle.walk_runs.specs.Points.{point_cut}
use Rattle.walk_runs.proofs.point.follows.Goals as goal

sent_by : (c : Computation) (cut : List ℕ) (p n q m r v : ℕ) → IsNeed c p n q m → n ≡ get_or cut p 0
    → IsMessage c (place r v) (next_of cut p) → (r ≡ q) × (v ≡ m)
sent_by c cut p n q m r v need at message =
    let same : place r v ≡ place q m =
    need.sends (place r v) (subst (λ (k : ℕ). IsMessage c (place r v) (place p (k + 1))) (sym at) message) in
    (ap (λ (e : Place). e.process) same, ap (λ (e : Place). e.number) same)

pub returns-then-need-q-clause-all : goal.returns-then-need-q-clause-all
returns-then-need-q-clause-all g c = λ message.
    let at : c.count.result ≡ get_or (point_cut (length c.args.steps.now - 2) c.args.point.now) c.args.p 0 =
    c.count.ensures ∙ ap (λ (n : ℕ). get_or (point_cut n c.args.point.now) c.args.p 0) c.prefix-prefix.ensures in
    let read : c.count-then-need-q.result
    ≡ get_or (point_cut (length c.args.steps.now - 2) c.args.point.now) c.args.q 0 =
    c.count-then-need-q.ensures ∙ ap (λ (n : ℕ). get_or (point_cut n c.args.point.now) c.args.q 0)
    c.prefix-prefix.ensures in
    let w = sent_by c.args.steps.now (point_cut (length c.args.steps.now - 2) c.args.point.now) c.args.p c.count.result
    c.need-need.result.process c.need-need.result.number c.args.q
    (get_or (point_cut (length c.args.steps.now - 2) c.args.point.now) c.args.q 0) c.need-need.ensures at message in
    eq-eqb c.from.result c.count-then-need-q.result (c.from.ensures ∙ (sym w.1 ∙ sym read))

pub returns-else-need-q-clause-all : goal.returns-else-need-q-clause-all
returns-else-need-q-clause-all g c = λ message.
    let at : c.count.result ≡ get_or (point_cut (length c.args.steps.now - 2) c.args.point.now) c.args.p 0 =
    c.count.ensures ∙ ap (λ (n : ℕ). get_or (point_cut n c.args.point.now) c.args.p 0) c.prefix-prefix.ensures in
    let w = sent_by c.args.steps.now (point_cut (length c.args.steps.now - 2) c.args.point.now) c.args.p c.count.result
    c.need-need.result.process c.need-need.result.number c.args.q
    (get_or (point_cut (length c.args.steps.now - 2) c.args.point.now) c.args.q 0) c.need-need.ensures at message in
    absurd (c.if-need-q.false (sym w.0))
