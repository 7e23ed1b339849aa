-- No token is left.
use Rattle.std.proofs.Common.{sym, ◌∙◌}
use Rattle.read_tokens.proofs.Steps.{nothing_left}
use Rattle.read_tokens.proofs.tokens.Tokens.is_over.Goals as goal

pub returns : goal.returns
returns c = λ yes.
    sym c.self.view_is
    ∙ nothing_left c.self.inside.place c.self.inside.rest.now c.after_spaces.result.now
    c.in-Value.is c.after_spaces.ensures (sym c.is_empty.ensures ∙ yes)
