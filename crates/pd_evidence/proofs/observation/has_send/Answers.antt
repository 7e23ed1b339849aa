-- The send that was found decides.
use Rattle.std.proofs.Common.{◌≡◌, ◌<◌, ◌↔◌, List, ℕ, length, get_or, refl, sym, subst, arith}
use Rattle.std.specs.Prelude.{Some, None, IsTrue, nat_le}
use Rattle.def_model.specs.Cuts.{IsConsistent, one_more}
use Rattle.def_model.proofs.AddedEvents.{added}
use Rattle.pd_clock.specs.Senders.{IsSender}
use Rattle.pd_evidence.proofs.NextSends.{send_within, some_decides, none_decides}
use Rattle.pd_evidence.proofs.observation.has_send.Goals as goal

pub offset_bounds-counts-send : goal.offset_bounds-counts-send
offset_bounds-counts-send c =
    let there : c.in-Some.send.process < length c.args.computation.now.events =
    send_within c.args.computation.now.events (added c.counts-counts.result.now c.args.p) c.in-Some.send
    c.in-Some.ensures in
    omega (arith, c.limits.ensures.few)

pub bounds-counts-send : goal.bounds-counts-send
bounds-counts-send c =
    let there : c.in-Some.send.process < length c.args.computation.now.events =
    send_within c.args.computation.now.events (added c.counts-counts.result.now c.args.p) c.in-Some.send
    c.in-Some.ensures in
    let within : c.in-Some.send.process < length c.counts-counts.result.now =
    rw c.counts-counts.ensures (omega (arith, c.requires.consistent.fits.one_each)) in
    within

pub returns-in-Some : goal.returns-in-Some
returns-in-Some c =
    let read : c.counts-counts.result.now ≡ c.args.here.now = c.counts-counts.ensures in
    subst (λ (x : List ℕ). IsTrue (nat_le c.in-Some.send.number (get_or x c.in-Some.send.process 0))
    ↔ IsConsistent c.args.computation.now.events (one_more c.args.here.now c.args.p)) (sym read)
    (some_decides c.args.computation.now.events c.args.here.now c.args.p c.requires.consistent c.requires.process
    c.requires.room c.in-Some.send
    (subst (λ (x : List ℕ). IsSender c.args.computation.now.events (added x c.args.p) (Some c.in-Some.send)) read
    c.in-Some.ensures))

pub returns-in-None : goal.returns-in-None
returns-in-None c =
    let more : IsConsistent c.args.computation.now.events (one_more c.args.here.now c.args.p) =
    none_decides c.args.computation.now.events c.args.here.now c.args.p c.requires.consistent c.requires.process
    c.requires.room (subst (λ (x : List ℕ). IsSender c.args.computation.now.events (added x c.args.p) None)
    c.counts-counts.ensures c.in-None.ensures) in
    (λ _. more, λ _. refl)
