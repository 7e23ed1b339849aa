-- No byte of a refusal's data is `<`.
use Rattle.out_page.proofs.Lacking.{refusal_lacks}
use Rattle.out_page.proofs.refusal.refusal_lacks_less.Goals as goal

pub returns : goal.returns
returns c = refusal_lacks
