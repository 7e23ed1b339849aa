-- Whether a verdict is bad.
use Rattle.std.proofs.Common.{rules, tests, ◌≡◌, ◌∙◌, refl, sym, Bool, true, List, map, Option, Some}
use Rattle.std.specs.Prelude.{not, Vec}
use Rattle.std.specs.Global.{Global}
use Rattle.std.specs.List.{list_any}
use Rattle.std.proofs.lemmas.Iterator.{YieldsList-from_slice}
use Rattle.std.proofs.lemmas.Iterator.Search.{any_from_yields_List}
use Rattle.def_judgement.specs.Findings.{has_bad, is_clean}
use Rattle.def_format.proofs.ListTests.{list_any-map}
use Rattle.judge_check.specs.Views.{checked_view, finding_view}
use Rattle.judge_check.specs.declared.checked.Checked.{Checked}
use Rattle.judge_check.specs.declared.finding.Finding.{Finding}
use Rattle.judge_check.specs.declared.finding.Finding.TheVariants.{OfSession}
use Rattle.judge_check.proofs.finding.Finding.is_clean.Goals as goal

-- a session whose counts are good
by_verdicts : (finding : Finding) (good : Bool) (verdicts : Option (Vec Checked Global)) (answers : Vec Checked Global)
    → finding ≡ OfSession good verdicts → verdicts ≡ Some answers → good ≡ true → (items : List Checked)
    → items ≡ answers.items → (bad : Bool) → bad ≡ list_any has_bad (map checked_view items)
    → not bad ≡ is_clean (finding_view finding)
by_verdicts finding good verdicts answers is reported right items same bad found =
    rw (is, reported, right, ← same, found) refl

pub returns-then-good : goal.returns-then-good
returns-then-good c =
    let found =
    any_from_yields_List (λ checked. has_bad (checked_view checked)) _ _ _ c.any.ensures.ran
    (YieldsList-from_slice c.deref.result.now c.iter.ensures.rest) (λ x b q k. search (rules, tests))
    ∙ sym (list_any-map has_bad checked_view c.deref.result.now) in
    by_verdicts c.args.self.now c.in-OfSession.good c.in-OfSession.answers c.in-Some.answers c.in-OfSession.is
    c.in-Some.is c.if-good.true c.deref.result.now c.deref.ensures.value c.any.result found
