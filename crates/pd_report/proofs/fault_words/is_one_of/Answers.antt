-- A text is found among others if it is one of them.
use Rattle.std.proofs.Common.{rules, tests, sym, ◌∙◌}
use Rattle.std.proofs.lemmas.Iterator.{YieldsList-from_slice}
use Rattle.std.proofs.lemmas.Iterator.Search.{any_from_yields_List}
use Rattle.std.specs.Str.{bytes_eq}
use Rattle.def_format.proofs.ListTests.{list_any-map}
use Rattle.pd_report.proofs.fault_words.is_one_of.Goals as goal

pub returns : goal.returns
returns c =
    any_from_yields_List (λ text. bytes_eq c.args.word.now text.now) _ _ _ c.any.ensures.ran
    (YieldsList-from_slice c.args.texts.now c.iter.ensures.rest) (λ x b q k. search (rules, tests))
    ∙ sym (list_any-map (λ text. bytes_eq c.args.word.now text) (λ text. text.now) c.args.texts.now)
