-- The cuts that are kept are those of the keys that are kept.
use Rattle.std.proofs.Common.{◌≡◌, ap, ◌∙◌}
use Rattle.walk_keys.specs.Keys.{digits}
use Rattle.pd_level.specs.Levels.{Levelled, cuts_of, kept_by, numbers}
use Rattle.pd_level.proofs.Kept.{kept-map, kept_keys, kept_some}
use Rattle.pd_level.proofs.level.Level.keep.Goals as goal

pub invariant_of-self : goal.invariant_of-self
invariant_of-self c =
    let keys = numbers c.self.inside.keys in
    let kept = c.keep.ensures.numbers in (
      record {
        few = c.self.invariant.0.few;
        are_keys =
            rw kept (kept_keys c.self.inside.processes c.args.wanted c.args.marks.now keys
            c.self.invariant.0.are_keys);
      },
      λ some. rw c.keep.ensures.kind (c.self.invariant.1 (kept_some c.args.wanted c.args.marks.now keys
          (rw kept at some))),
    )

pub returns-clause-cuts : goal.returns-clause-cuts
returns-clause-cuts c =
    let keys = numbers c.self.inside.keys in
    let same : cuts_of c.self.inside.processes keys ≡ c.args.self.now.cuts =
    ap (λ (l : Levelled). l.cuts) c.self.view_is in
    ap (cuts_of c.self.inside.processes) c.keep.ensures.numbers
    ∙ (kept-map (digits c.self.inside.processes) c.args.wanted c.args.marks.now keys
    ∙ ap (kept_by c.args.wanted c.args.marks.now) same)
