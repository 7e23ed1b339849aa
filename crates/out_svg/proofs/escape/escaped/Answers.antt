-- Each text is escaped.
use Rattle.out_svg.proofs.Escaping.{is_escaped}
use Rattle.out_svg.proofs.escape.escaped.Goals as goal

pub returns : goal.returns
returns c = is_escaped
