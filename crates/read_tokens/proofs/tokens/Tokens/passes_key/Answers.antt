-- The key that is looked for comes next.
use Rattle.std.proofs.Common.{refl, sym, ◌∙◌, ◌∷◌}
use Rattle.read_tokens.proofs.Steps.{keyed}
use Rattle.read_tokens.proofs.tokens.Tokens.passes_key.Goals as goal

pub returns : goal.returns
returns c = record {
  yes = λ _.
      sym c.self.view_is
      ∙ keyed c.self.inside.place c.self.inside.rest.now c.after_spaces.result.now c.args.wanted.now
      (58 ∷ c.in-Some.rest.now) c.in-Some.rest.now c.in_default.not-Value c.after_spaces.ensures
      (rw (c.name.ensures.value) at c.in-Some.ensures) refl;
  no = tt;
}
