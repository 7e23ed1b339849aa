-- One process more.
use Rattle.std.proofs.Common.{string_bytes}
use Rattle.out_picture.specs.Pictures.{crossing_words, texts_view}
use Rattle.out_picture.proofs.Listed.{push_more}
use Rattle.out_picture.proofs.headings.push_crossings_words.Goals as goal

pub loop-p-preserved : goal.loop-p-preserved
loop-p-preserved c =
    push_more (crossing_words c.args.counts.now (texts_view c.args.names.now) (texts_view c.args.values.now))
    (string_bytes c.args.text.now) (string_bytes c.loop-p.text) (string_bytes c.push_crossing_words.new.text) c.loop-p.p
    c.loop-p.invariant c.in_ok-push_crossing_words.ensures
