-- Each cut that has one more event of the process gives the next key.
use Rattle.std.proofs.Common.{◌≡◌, ℕ, ◌+◌, ◌-◌, ◌<◌, List, length, get_or, take, Contains, sym, ◌∙◌, subst, ◌↔◌, arith}
use Rattle.std.proofs.lemmas.Bool.{false≢true}
use Rattle.std.proofs.lemmas.List.{take_all}
use Rattle.def_model.specs.Cuts.{IsConsistent, one_more}
use Rattle.walk_keys.specs.Keys.{digits}
use Rattle.pd_level.specs.MoreCuts.{IsMoreBy, piece}
use Rattle.pd_level.proofs.Ranges.{length-piece, piece_at, piece_cuts}
use Rattle.pd_level.proofs.Steps.{MakesCut, step_no, step_yes}
use Rattle.pd_level.proofs.step.more_by.Goals as goal
use Rattle.pd_level.proofs.step.more_by.Goals.{then-can_add+in_ok-push, else-can_add}

pub loop-i-preserved : goal.loop-i-preserved
loop-i-preserved g c =
    let events = c.args.computation.now.events in
    let keys = c.args.keys.now in
    let part = piece keys c.args.start c.args.end in
    let i = c.loop-i.i in
    let lt : i < c.args.end - c.args.start = omega arith in
    let cuts = piece_cuts events keys c.args.start c.args.end c.requires.piece.0 c.requires.piece.1 c.requires.cuts in
    let long : length part ≡ c.args.end - c.args.start =
    length-piece keys c.args.start c.args.end c.requires.piece.0 c.requires.piece.1 in
    let within : i < length part = omega arith in
    let key : g.K.Key.number c.get-key.result ≡ get_or part i 0 =
    c.get-key.ensures ∙ sym (piece_at keys c.args.start c.args.end i lt) in
    let made : (k : ℕ) → k ≡ get_or part i 0 → IsConsistent events (one_more (digits (length events) k) c.args.p)
    → MakesCut events part c.args.p i =
    λ k same ok. subst (λ (x : ℕ). IsConsistent events (one_more (digits (length events) x) c.args.p)) same ok in
    elim c.if-can_add.branch [
      | then-can_add+in_ok-push w ↦
          rw (
            w.more-is,
            w.in_ok-push.ensures,
            w.one_more.ensures,
            key,
            c.processes-processes.ensures,
          ) (step_yes events part c.args.p i c.loop-i.more cuts c.requires.within within
          (made (g.K.Key.number c.get-key.result) key (c.can_add.ensures.0 w.if-can_add.true)) c.loop-i.invariant)
      | else-can_add w ↦
          rw (w.more-is) (step_no events part c.args.p i c.loop-i.more cuts within
          (λ makes. false≢true (sym w.if-can_add.false ∙ c.can_add.ensures.1
          (subst (λ (x : ℕ). IsConsistent events (one_more (digits (length events) x) c.args.p)) (sym key) makes)))
          c.loop-i.invariant)
    ]

pub returns-clause-just : goal.returns-clause-just
returns-clause-just g c =
    let part = piece c.args.keys.now c.args.start c.args.end in
    let long : length part ≡ c.args.end - c.args.start =
    length-piece c.args.keys.now c.args.start c.args.end c.requires.piece.0 c.requires.piece.1 in
    let all : take c.loop-i.i part ≡ part = take_all c.loop-i.i part (omega arith) in
    λ x. subst (λ (keys : List ℕ). Contains c.loop-i.more x ↔ IsMoreBy c.args.computation.now.events keys c.args.p x)
    all (c.loop-i.invariant.just x)
