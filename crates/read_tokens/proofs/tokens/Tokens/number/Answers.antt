-- A whole number comes next.
use Rattle.std.proofs.Common.{rules, sym, ◌∙◌}
use Rattle.read_tokens.proofs.Steps.{numbered}
use Rattle.read_tokens.proofs.tokens.Tokens.number.Goals as goal

pub returns : goal.returns
returns c =
    let is = c.in_ok-value.ensures in (
      is.text,
      sym c.self.view_is
          ∙ numbered c.self.inside.place c.self.inside.rest.now c.after_spaces.result.now is.text
          c.in_ok-value.rest.now _ c.in_default.not-Value c.after_spaces.ensures
          (is.lexed (c.ends_value.ensures c.if-not-ends_value.false)) (c.self-2.view_is ∙ c.after_value.ensures),
      search rules,
    )
