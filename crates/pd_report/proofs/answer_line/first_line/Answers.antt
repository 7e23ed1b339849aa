-- An answer's first line.
use Rattle.std.proofs.Common.{◌≡◌, ◌∙◌, ◌∷◌, sym, ap}
use Rattle.std.specs.Prelude.{codes, string_bytes}
use Rattle.def_format.specs.Reports.{possibly_words}
use Rattle.pd_report.specs.Reading.{pieces}
use Rattle.pd_report.specs.Remaining.{words_left}
use Rattle.pd_report.specs.Views.{possibly_view}
use Rattle.pd_report.proofs.LineWords.{first_words}
use Rattle.pd_report.proofs.Pieces.{head_is, joined_of_pieces, tail_is}
use Rattle.pd_report.proofs.answer_line.first_line.Goals as goal

pub returns-in_default-after : goal.returns-in_default-after
returns-in_default-after c = λ v h e.
    let cut = sym c.in-Some.ensures ∙ c.new-words.ensures ∙ first_words c.args.line.now v h e in
    c.in_default-after.ensures (possibly_words v.1) (tail_is _ _ _ _ cut)

pub returns-in_default-2 : goal.returns-in_default-2
returns-in_default-2 c = λ v h e.
    let cut = sym c.in-Some.ensures ∙ c.new-words.ensures ∙ first_words c.args.line.now v h e in
    let none = rw c.in_default-2.is at c.in_ok-possibly.ensures in
    none v.1 h.1 (tail_is _ _ _ _ (sym c.in-Some-after.ensures ∙ tail_is _ _ _ _ cut))

pub returns-in_default-3 : goal.returns-in_default-3
returns-in_default-3 c = λ v h e.
    let cut = sym c.in-Some.ensures ∙ c.new-words.ensures ∙ first_words c.args.line.now v h e in
    let none = rw c.in_default-3.is at c.in_ok-name.ensures in
    none v.0 h.0 (head_is _ _ _ _ cut)

pub returns : goal.returns
returns c =
    let cut = sym c.in-Some.ensures ∙ c.new-words.ensures in
    let name = rw c.in-Some-3.is at c.in_ok-name.ensures in
    let possibly = rw c.in-Some-2.is at c.in_ok-possibly.ensures in
    let all : pieces 32 c.args.line.now ≡ string_bytes c.in-Some-3.name ∷ codes "possibly"
    ∷ possibly_words (possibly_view c.in-Some-2.possibly) =
    sym cut ∙ ap (λ first. first ∷ words_left c.in-Some.rest) name.1
    ∙ ap (λ rest. string_bytes c.in-Some-3.name ∷ rest) (c.in-Some-after.ensures
    ∙ ap (λ rest. codes "possibly" ∷ rest) possibly.1) in
    ((name.0, possibly.0), joined_of_pieces 32 c.args.line.now _ all)
