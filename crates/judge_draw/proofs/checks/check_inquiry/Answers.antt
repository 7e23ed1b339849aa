-- What is written is what is found, and whether it is clean is reported.
use Rattle.std.proofs.Common.{◌↔◌, ◌∙◌, Bool, IsTrue, sym, subst, refl}
use Rattle.std.specs.Io.KnownBytes.{Appends}
use Rattle.def_format.specs.OtherTexts.{check_text}
use Rattle.def_judgement.specs.Findings.{IsClean}
use Rattle.judge_check.specs.Views.{finding_view}
use Rattle.judge_draw.proofs.checks.check_inquiry.Goals as goal

pub returns-clause-written : goal.returns-clause-written
returns-clause-written g c =
    let finding = finding_view c.in_ok-finding.finding in
    let found = c.in_ok-finding.ensures.found in (
      check_text finding,
      record {
        streams = found.streams;
        are_given = found.are_given;
        finding = finding;
        right = found.right;
        clean = subst (λ (good : Bool). IsTrue good ↔ IsClean finding) (sym c.is_clean.ensures)
            (c.clean_is_clean.ensures finding);
        is_text = refl;
      },
      subst (Appends (g.W.Write.contents c.args.writer.now) (g.W.Write.contents c.write_all.new.writer))
          (c.deref.ensures.value ∙ c.in_ok-text.ensures) c.in_ok-write_all.ensures.written,
    )
