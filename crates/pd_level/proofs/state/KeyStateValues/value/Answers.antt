-- The value by the count of its process is that at the cut.
use Rattle.std.proofs.Common.{◌≡◌, sym, ◌∙◌, arith, w64}
use Rattle.std.specs.Prelude.{slice_index}
use Rattle.std.proofs.lemmas.Int.{to_z-of_z}
use Rattle.std.proofs.lemmas.List.{get_or_past}
use Rattle.walk_keys.specs.Keys.{digits}
use Rattle.walk_keys.proofs.Keys.{length-digits}
use Rattle.pd_level.proofs.state.KeyStateValues.value.Goals.{then-process-self, else-process-self}
use Rattle.pd_level.proofs.state.KeyStateValues.value.Goals as goal

pub returns : goal.returns
returns g c =
    let count : slice_index (digits c.args.self.now.processes (g.K.Key.number c.args.self.now.key)) c.args.process
    ≡ c.if-process-self.count =
    elim c.if-process-self.branch [
      | then-process-self w ↦ sym (w.count-is ∙ w.digit-count.ensures)
      | else-process-self w ↦ get_or_past (digits c.args.self.now.processes
          (g.K.Key.number c.args.self.now.key)) c.args.process 0
          (omega (
            arith,
            w.if-process-self.false,
            length-digits c.args.self.now.processes
                (g.K.Key.number c.args.self.now.key),
          ))
          ∙ sym w.count-is
    ] in
    to_z-of_z w64 c.value.result (record { sfits = c.value.type_inv })
    ∙ c.value.ensures (digits c.args.self.now.processes (g.K.Key.number c.args.self.now.key)) count
