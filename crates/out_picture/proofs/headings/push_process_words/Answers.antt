-- The three parts, one after another.
use Rattle.std.proofs.Common.{string_bytes}
use Rattle.out_picture.specs.Pictures.{process_words}
use Rattle.out_picture.proofs.Listed.{three_more}
use Rattle.out_picture.proofs.headings.push_process_words.Goals as goal

pub returns : goal.returns
unfolding process_words
returns c =
    three_more (string_bytes c.args.text.now) _ _ _ (string_bytes c.push_count_words.new.text)
    (string_bytes c.push_worth.new.text) (string_bytes c.push_words.new.text) c.in_ok-push_count_words.ensures
    c.in_ok-push_worth.ensures c.in_ok-push_words.ensures
