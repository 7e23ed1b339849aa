-- One more stream after each turn, up to one that is refused.
use Rattle.std.proofs.Common.{Bor, List, ℕ, map, subst}
use Rattle.std.proofs.lemmas.List.{take_all}
use Rattle.std.specs.List.{AllZip}
use Rattle.app_infer.specs.Outcomes.{IsSaidIn}
use Rattle.judge_infer.specs.Inferred.{fault_words}
use Rattle.judge_infer.specs.Views.{stream_fault_view}
use Rattle.app_infer.proofs.StreamsRead.{refused_at, said_on}
use Rattle.app_infer.proofs.stream_files.add_streams.Goals as goal

pub returns-clause-added : goal.returns-clause-added
returns-clause-added g c =
    let all = take_all c.loop-place.place c.args.names.now c.loop-place-test.false in
    subst (λ (names : List (Bor (List ℕ))). AllZip (IsSaidIn (g.Y.Files.FileSource.file_of c.args.world.now.files.now))
    (map (λ (name : Bor (List ℕ)). name.now) names) c.loop-place.session) all c.loop-place.invariant

pub returns-in-Ok-Some-clause-refused : goal.returns-in-Ok-Some-clause-refused
returns-in-Ok-Some-clause-refused g c =
    refused_at (g.Y.Files.FileSource.file_of c.args.world.now.files.now) (λ (name : Bor (List ℕ)). name.now)
    c.args.names.now c.loop-place.session c.loop-place.place _
    (fault_words (stream_fault_view c.in-Ok-Some.fault))
    c.loop-place-test.true c.loop-place.invariant
    (rw c.in-Ok-Some.field-0-is at c.in-Ok-Some.ensures.refused)

pub loop-place-preserved : goal.loop-place-preserved
loop-place-preserved g c =
    said_on (g.Y.Files.FileSource.file_of c.args.world.now.files.now) (λ (name : Bor (List ℕ)). name.now)
    c.args.names.now c.loop-place.session c.add_stream.new.session c.loop-place.place _ c.loop-place-test.true
    c.loop-place.invariant (rw c.in-Ok-None.field-0-is at c.in-Ok-None.ensures.added)
