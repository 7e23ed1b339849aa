-- What follows the spaces and tabs that the text begins with.
use Rattle.std.proofs.Common.{◌∙◌, ap, drop}
use Rattle.def_format.specs.Tokens.{is_space}
use Rattle.pd_pred.proofs.Runs.{run_boundary, space_ascii, skips_spaces}
use Rattle.pd_pred.proofs.lexer.skip_spaces.Goals as goal

pub range_from-requires : goal.range_from-requires
range_from-requires c = λ above. rw c.spaces_len.ensures (run_boundary is_space space_ascii c.args.text.now c.utf8.text)

pub returns : goal.returns
returns c =
    skips_spaces c.args.text.now c.range_from.result.now (c.range_from.ensures.value
    ∙ ap (λ n. drop n c.args.text.now) c.spaces_len.ensures)
