-- A text comes next.
use Rattle.std.proofs.Common.{sym, ◌∙◌}
use Rattle.read_tokens.proofs.Steps.{texted}
use Rattle.read_tokens.proofs.tokens.Tokens.text.Goals as goal

pub returns : goal.returns
returns c =
    sym c.self.view_is
    ∙ texted c.self.inside.place c.self.inside.rest.now c.after_spaces.result.now c.in_ok-text.text.now
    c.in_ok-text.rest.now _ c.in_default.not-Value c.after_spaces.ensures c.in_ok-text.ensures
    (c.ends_value.ensures c.if-not-ends_value.false) (c.self-2.view_is ∙ c.after_value.ensures)
