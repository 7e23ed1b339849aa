-- No byte of the data is `<`.
use Rattle.out_page.proofs.Lacking.{data_lacks}
use Rattle.out_page.proofs.page_data.data_lacks_less.Goals as goal

pub returns : goal.returns
returns c = data_lacks
