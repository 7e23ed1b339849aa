-- An opening brace comes next.
use Rattle.std.proofs.Common.{sym, ◌∙◌}
use Rattle.read_tokens.proofs.Steps.{opened}
use Rattle.read_tokens.proofs.tokens.Tokens.opens.Goals as goal

pub returns : goal.returns
returns c = λ _.
    sym c.self.view_is
    ∙ opened c.self.inside.place c.self.inside.rest.now c.after_spaces.result.now c.in-Some.rest.now
    c.in_default.not-Value c.after_spaces.ensures c.in-Some.ensures
