-- An event is two words with a `#` between them.
use Rattle.std.proofs.Common.{◌≡◌, ◌∙◌, ◌∷◌, [], sym, ap, subst}
use Rattle.std.specs.Prelude.{decimal}
use Rattle.def_format.specs.Reports.{IsName}
use Rattle.pd_report.specs.Reading.{pieces}
use Rattle.pd_report.proofs.Pieces.{head_is, joined_of_pieces, place_pieces, tail_is}
use Rattle.pd_report.proofs.listed.place_words.Goals as goal

pub returns-in_default-single : goal.returns-in_default-single
returns-in_default-single c = λ place h e.
    let cut = sym c.in-Some.ensures ∙ c.new.ensures ∙ place_pieces c.args.word.now place h e in
    c.in_default-single.ensures (decimal place.number) (tail_is _ _ _ _ cut)

pub returns-in_default-number : goal.returns-in_default-number
returns-in_default-number c = λ place h e.
    let cut = sym c.in-Some.ensures ∙ c.new.ensures ∙ place_pieces c.args.word.now place h e in
    c.in_default-number.ensures place.number h.1 (head_is _ _ _ _ (sym c.in-Some-single.ensures ∙ tail_is _ _ _ _ cut))

pub returns-then-is_name : goal.returns-then-is_name
returns-then-is_name c =
    let number = c.in-Some-number.ensures in
    let all : pieces 35 c.args.word.now ≡ c.in-Some.name.now ∷ decimal c.in-Some-number.number ∷ [] =
    sym c.new.ensures ∙ c.in-Some.ensures
    ∙ ap (λ rest. c.in-Some.name.now ∷ rest) (c.in-Some-single.ensures ∙ ap (λ last. last ∷ []) number.1) in
    ((sym c.is_name.ensures ∙ c.if-is_name.true, number.0), joined_of_pieces 35 c.args.word.now _ all)

pub returns-else-is_name : goal.returns-else-is_name
returns-else-is_name c = λ place h e.
    let cut = sym c.in-Some.ensures ∙ c.new.ensures ∙ place_pieces c.args.word.now place h e in
    let name : IsName c.in-Some.name.now = subst IsName (sym (head_is _ _ _ _ cut)) h.0 in
    let no = sym c.is_name.ensures ∙ c.if-is_name.false in
    absurd (cc (name, no))
