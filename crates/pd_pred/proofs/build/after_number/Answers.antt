-- The number and what follows it, if the tokens begin with one.
use Rattle.std.proofs.Common.{ap, arith}
use Rattle.def_format.specs.Tokens.{number_from}
use Rattle.pd_pred.specs.Tokens.{token_view}
use Rattle.pd_pred.proofs.TermsRead.{number_fits}
use Rattle.pd_pred.proofs.build.after_number.Goals as goal

pub number_of-requires : goal.number_of-requires
number_of-requires c =
    let bound =
    number_fits (number_from 0 c.in-Digits.digits.now) c.args.tokens.now c.in_ok-first.rest.now
    (record {
      first = c.in_ok-first.first.now;
      parts = c.in_ok-first.ensures.cases.0;
      is =
          ap token_view c.in-Digits.is;
    }) c.requires in
    omega arith
