-- Reads an answer, of its first line and the bytes after that.
use Rattle.std.proofs.Common.{◌∙◌, sym, ap}
use Rattle.std.specs.Prelude.{string_bytes}
use Rattle.pd_report.specs.Reading.{second_text}
use Rattle.pd_report.specs.Views.{possibly_view}
use Rattle.pd_report.proofs.Pieces.{head_is}
use Rattle.pd_report.proofs.Whole.{first_ended, no_ended}
use Rattle.pd_report.proofs.reader.read_pair.Goals as goal

pub returns-in_default-cut_at : goal.returns-in_default-cut_at
returns-in_default-cut_at c =
    let line = rw c.in-Some.is at c.in_ok-name.ensures in record {
      reported = (string_bytes c.in-Some.name, possibly_view c.in-Some.possibly);
      lawful = line.0;
      same = line.1;
      none = λ second more e. absurd (cc (no_ended c.args.others.now c.in_default-cut_at.ensures, e));
    }

pub returns-in_default-2 : goal.returns-in_default-2
returns-in_default-2 c =
    let line = rw c.in-Some.is at c.in_ok-name.ensures in
    let none = rw c.in_default-2.is at c.in_ok-definitely.ensures in
    let cut = c.in-Some-cut_at.ensures in record {
      reported = (string_bytes c.in-Some.name, possibly_view c.in-Some.possibly);
      lawful = line.0;
      same = line.1;
      none = λ second more e d k q.
          none d k (head_is _ _ _ _ (sym (first_ended c.args.others.now c.in-Some-cut_at.second.now
          c.in-Some-cut_at.rest.now cut.0 cut.1) ∙ e) ∙ q ∙ ap (λ n. second_text n d) (sym c.deref.ensures));
    }
