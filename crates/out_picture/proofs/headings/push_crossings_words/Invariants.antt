-- What the loop of `push_crossings_words` keeps.
use Rattle.std.proofs.Common.{◌≡◌, ◌++◌}
use Rattle.std.specs.String.{string_bytes}
use Rattle.out_picture.specs.Layout.{upto}
use Rattle.out_picture.specs.Pictures.{crossing_words, texts_view}
use Rattle.out_picture.proofs.headings.push_crossings_words.Given as goal

abbrev pub invariant-loop-p : goal.invariant-loop-p
invariant-loop-p l = string_bytes l.text ≡ string_bytes l.initial.text
    ++ upto (crossing_words l.counts (texts_view l.names) (texts_view l.values)) l.p
