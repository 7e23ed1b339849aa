-- The text after the data is that of the scripts.
use Rattle.std.proofs.Common.{◌∙◌, ◌++◌, List, ℕ, ap, sym}
use Rattle.out_page.proofs.WrittenData.{after_is}
use Rattle.out_page.proofs.page.push_after.Goals as goal

pub returns : goal.returns
returns c = c.in_ok-push_scripts.ensures ∙ ap (λ (text : List ℕ). c.args.out.now.items ++ text) (sym after_is)
