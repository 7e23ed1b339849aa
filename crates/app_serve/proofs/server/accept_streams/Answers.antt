-- The stream that was accepted is one more.
use Rattle.std.proofs.Common.{◌≡◌, ◌∙◌, ◌+◌, ◌++◌, ◌∷◌, [], ℕ, ap, false, length, subst, sym}
use Rattle.std.proofs.lemmas.List.{length_push}
use Rattle.std.proofs.lemmas.List.Elements.{All-push}
use Rattle.std.specs.Prelude.{All}
use Rattle.app_serve.specs.declared.recording_source.RecordingSource.{RecordingSource}
use Rattle.app_serve.proofs.server.accept_streams.Goals as goal

pub loop-place-preserved : goal.loop-place-preserved
loop-place-preserved g c =
    let held = c.loop-place.streams.items in
    let stream = c.in-Ok.stream in
    let pushed : c.push.new.self.items ≡ held ++ stream ∷ [] = c.in_ok-push-in-Ok.ensures.items in
    let Open : RecordingSource g.row.N-Connection.Denot g.row.W.Denot g.row.T.Denot → Type 0 =
    λ found. g.N.Connection.ByteSource.has_ended found.source.source ≡ false in
    record {
      count = ap length pushed ∙ (length_push held stream ∙ ap (λ (n : ℕ). n + 1) c.loop-place.invariant.count);
      given = λ at on.
          subst (All (λ found. g.N.Network.may_give c.args.host.now.network.now at
          (g.N.Connection.ByteSource.left found.source.source))) (sym pushed)
          (All-push (λ found. g.N.Network.may_give c.args.host.now.network.now at
          (g.N.Connection.ByteSource.left found.source.source)) held stream (c.loop-place.invariant.given at on)
          (c.in-Ok.ensures.given at on));
      unended = subst (All Open) (sym pushed)
          (All-push Open held stream c.loop-place.invariant.unended c.in-Ok.ensures.open);
    }
