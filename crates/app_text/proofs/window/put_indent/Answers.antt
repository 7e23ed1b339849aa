-- Spaces are put for one byte more.
use Rattle.app_text.proofs.Columns.{spaces_go_on}
use Rattle.app_text.proofs.window.put_indent.Goals as goal

pub loop-byte-preserved : goal.loop-byte-preserved
loop-byte-preserved c =
    spaces_go_on c.args.out.now.items c.loop-byte.out.items c.put_width.new.out.items c.args.bytes.now
    c.loop-byte.byte-index c.loop-byte-test.true c.loop-byte.invariant c.in_ok-put_width.ensures
