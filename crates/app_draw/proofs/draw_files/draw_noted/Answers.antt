-- Without memory for notes nothing is written.
use Rattle.app_host.proofs.UnreadFiles.{keeps_same}
use Rattle.app_draw.proofs.draw_files.draw_noted.Goals as goal

pub returns-in-Err : goal.returns-in-Err
returns-in-Err g c = keeps_same (g.O.Write.contents c.args.output.now)
