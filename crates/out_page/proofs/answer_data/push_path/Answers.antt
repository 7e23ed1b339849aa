-- The steps of the path.
use Rattle.std.proofs.Common.{◌∙◌, ◌++◌, ℕ, List, ap, sym}
use Rattle.out_page.specs.AnswerData.{process_number}
use Rattle.out_page.specs.JsonTexts.{listed}
use Rattle.out_page.proofs.answer_data.push_path.Goals as goal

pub returns : goal.returns
returns c =
    c.in_ok-push_steps.ensures
    ∙ ap (λ (path : List (List ℕ)). c.args.out.now.items ++ listed (process_number c.args.names.now) path)
    (sym c.parts.ensures.names)
