-- The digits that the text begins with, and what follows them.
use Rattle.std.proofs.Common.{◌∙◌, ap, take, drop}
use Rattle.def_format.specs.Names.{is_digit}
use Rattle.pd_pred.proofs.Runs.{run_boundary, digit_ascii, digits_are_first}
use Rattle.pd_pred.proofs.lexer.first_digits.Goals as goal

pub split_at-requires : goal.split_at-requires
split_at-requires c = rw c.digits_len.ensures (run_boundary is_digit digit_ascii c.args.text.now c.utf8.text)

pub returns : goal.returns
returns c =
    digits_are_first c.args.text.now c.split_at.result.0.now c.split_at.result.1.now c.requires
    (c.split_at.ensures.front ∙ ap (λ n. take n c.args.text.now) c.digits_len.ensures) (c.split_at.ensures.back
    ∙ ap (λ n. drop n c.args.text.now) c.digits_len.ensures)
