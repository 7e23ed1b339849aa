-- A text is tokens in one way.
use Rattle.def_format.proofs.OneLexing.{one_token_list}
use Rattle.def_format.proofs.one_token_list.Goals as goal

pub returns : goal.returns
returns c = one_token_list
