-- The marks of the same prefix, and where these aren't all, those of the prefixes with one event less.
use Rattle.std.proofs.Common.{◌≡◌, ℕ, ◌+◌, ◌↔◌, IsTrue, inl, true, length, ap, ◌∙◌, subst, arith}
use Rattle.walk_keys.specs.Words.{has_bit}
use Rattle.walk_marks.specs.RunPlaces.{key_of_run, run_at}
use Rattle.walk_marks.specs.Marks.{HasOwnMark, HasOtherMark}
use Rattle.walk_marks.proofs.ParentBits.{own_wanted, with_own}
use Rattle.walk_marks.proofs.parents.parents.Goals as goal

pub returns-then-own-wanted-clause-bits : goal.returns-then-own-wanted-clause-bits
returns-then-own-wanted-clause-bits g c j lt =
    let all : has_bit c.lowest-wanted.result j ≡ true = c.lowest-wanted.ensures.within j lt in
    let own : IsTrue (has_bit c.both-own.result j)
    ↔ HasOwnMark c.args.before.now.runs c.args.marks.now (g.K.Key.number c.key-key.result) (c.args.x + j) =
    own_wanted (has_bit c.own_window.result j) (has_bit c.lowest-wanted.result j) (has_bit c.both-own.result j)
    (HasOwnMark c.args.before.now.runs c.args.marks.now (g.K.Key.number c.key-key.result) (c.args.x + j))
    (c.both-own.ensures j) all (c.own_window.ensures j (omega (arith, c.requires.few))) in (
      λ t. inl (subst (λ (k : ℕ). HasOwnMark c.args.before.now.runs c.args.marks.now k (c.args.x + j)) c.key-key.ensures
          (own.0 t)),
      λ w. ap (λ (v : ℕ). has_bit v j) c.if-own-wanted.true ∙ all,
    )

pub returns-clause-bits : goal.returns-clause-bits
returns-clause-bits g c j lt =
    let run = run_at c.args.level.now.runs c.args.i in
    let own : IsTrue (has_bit c.both-own.result j)
    ↔ HasOwnMark c.args.before.now.runs c.args.marks.now (g.K.Key.number c.key-key.result) (c.args.x + j) =
    own_wanted (has_bit c.own_window.result j) (has_bit c.lowest-wanted.result j) (has_bit c.both-own.result j)
    (HasOwnMark c.args.before.now.runs c.args.marks.now (g.K.Key.number c.key-key.result) (c.args.x + j))
    (c.both-own.ensures j) (c.lowest-wanted.ensures.within j lt)
    (c.own_window.ensures j (omega (arith, c.requires.few))) in
    let keyed : IsTrue (has_bit c.both-own.result j)
    ↔ HasOwnMark c.args.before.now.runs c.args.marks.now (key_of_run run) (c.args.x + j) =
    subst (λ (k : ℕ). IsTrue (has_bit c.both-own.result j)
    ↔ HasOwnMark c.args.before.now.runs c.args.marks.now k (c.args.x + j)) c.key-key.ensures own in
    with_own (has_bit c.with_others.result j) (has_bit c.both-own.result j)
    (HasOwnMark c.args.before.now.runs c.args.marks.now (key_of_run run) (c.args.x + j))
    (HasOtherMark c.args.before.now.runs c.args.marks.now (key_of_run run) run.prefix (length run.prefix)
    (c.args.x + j))
    keyed (c.with_others.ensures.bits j lt)
