-- The number of the process of the name at a place.
use Rattle.std.proofs.Common.{◌∙◌, ◌++◌, List, ℕ, ap}
use Rattle.std.specs.Prelude.{decimal, string_bytes, unwrap_or}
use Rattle.def_format.specs.Names.{process_named}
use Rattle.pd_report.proofs.Places.{named}
use Rattle.out_page.proofs.answer_data.push_step.Goals as goal

pub returns : goal.returns
returns c =
    c.in_ok-push_index.ensures
    ∙ ap (λ number. c.args.out.now.items ++ decimal number)
    (c.process_number.ensures
    ∙ ap (λ (name : List ℕ). unwrap_or (process_named c.args.names.now name) 0)
    (c.as_str.ensures.value ∙ ap string_bytes c.index-texts-step.is ∙ named c.args.texts.now c.args.step _ c.requires))
