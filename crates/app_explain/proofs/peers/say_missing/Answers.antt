-- A missing name is said, and each other one isn't.
use Rattle.std.proofs.Common.{◌≡◌, ◌<◌, length, arith, sym, refl, ◌∙◌}
use Rattle.std.proofs.lemmas.List.{length-map}
use Rattle.app_explain.specs.Peers.{process_names}
use Rattle.app_explain.proofs.Missing.{name_left, name_said}
use Rattle.def_format.specs.Names.{ProcessNames}
use Rattle.app_explain.proofs.peers.say_missing.Goals as goal
use Rattle.app_explain.proofs.peers.say_missing.Goals.{then-not-is_sent, else-not-is_sent}

pub loop-process-preserved : goal.loop-process-preserved
loop-process-preserved c =
    let names = process_names c.args.names.now in
    let many : length names ≡ length c.args.names.now =
    length-map c.args.names.now (λ (process : ProcessNames). process.name) in
    let below : c.loop-process.process < length names =
    omega (arith, many, c.processes-process-end.ensures, c.loop-process-test.true) in
    elim c.if-not-is_sent.branch [
      | then-not-is_sent w ↦
          let put = name_said c.args.senders.now names c.loop-process.process c.name_at-name.result.now below
          c.name_at-name.ensures (sym c.is_sent.ensures ∙ w.if-not-is_sent.true) c.args.out.now
          c.loop-process.out w.say.new.self w.say_name.new.self c.loop-process.said.now
          c.if-not-is_sent.said.now c.loop-process.invariant.said c.loop-process.invariant.text w.say.ensures
          w.say_name.ensures (rw w.said-is refl) in record { said = put.0; text = rw w.out-is put.1 }
      | else-not-is_sent w ↦
          let left = name_left c.args.senders.now names c.loop-process.process c.name_at-name.result.now below
          c.name_at-name.ensures (sym c.is_sent.ensures ∙ w.if-not-is_sent.false) in record {
            said = rw (w.said-is, left) c.loop-process.invariant.said;
            text = rw (w.out-is, left) c.loop-process.invariant.text;
          }
    ]
