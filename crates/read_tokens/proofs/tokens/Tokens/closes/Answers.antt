-- A closing brace comes next.
use Rattle.std.proofs.Common.{sym, ◌∙◌}
use Rattle.read_tokens.proofs.Steps.{closed}
use Rattle.read_tokens.proofs.tokens.Tokens.closes.Goals as goal

pub returns : goal.returns
returns c = record {
  yes = λ _.
      sym c.self.view_is
      ∙ closed c.self.inside.place c.self.inside.rest.now c.after_spaces.result.now c.in-Some.rest.now _
      c.in_default.not-Comma c.after_spaces.ensures c.in-Some.ensures (c.self-2.view_is ∙ c.after_value.ensures);
  no = tt;
}
