-- A key comes next.
use Rattle.std.proofs.Common.{sym, ◌∙◌}
use Rattle.read_tokens.proofs.Steps.{keyed}
use Rattle.read_tokens.proofs.tokens.Tokens.key.Goals as goal

pub returns : goal.returns
returns c = (
  sym c.self.view_is
      ∙ keyed c.self.inside.place c.self.inside.rest.now c.after_spaces.result.now c.in_ok-name.name.now
      c.in_ok-name.after.now c.in_ok-rest.rest.now c.in_default.not-Value c.after_spaces.ensures c.in_ok-name.ensures
      c.in_ok-rest.ensures,
  c.in_ok-name.ensures.plain,
)
