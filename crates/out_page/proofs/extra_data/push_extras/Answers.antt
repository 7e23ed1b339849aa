-- The wishes, the notes and the pattern, part by part.
use Rattle.std.proofs.Common.{◌∙◌, ◌++◌, List, ap, map}
use Rattle.std.specs.Global.{Global}
use Rattle.std.specs.Prelude.{codes, string_bytes}
use Rattle.std.specs.declared.string.String.{String}
use Rattle.def_format.specs.Documents.{NamedPredicate}
use Rattle.out_page.specs.ExtraData.{link_text, wish_text}
use Rattle.out_page.specs.Written.{extras_text}
use Rattle.out_page.specs.JsonTexts.{listed, quoted}
use Rattle.out_page.specs.Views.{extras_view, wish_view}
use Rattle.out_page.specs.declared.extras.Wish.{Wish}
use Rattle.out_page.proofs.Parts.{six_parts}
use Rattle.pd_spec.specs.Views.{document_view}
use Rattle.out_page.proofs.extra_data.push_extras.Goals as goal

pub returns : goal.returns
unfolding extras_text
returns c =
    let document = document_view c.args.spec.now in
    let extras = extras_view c.args.extras.now in
    six_parts c.args.out.now.items c.push_bytes.new.out.items c.push_wishes.new.out.items
    c.push_bytes-2.new.out.items c.push_names.new.out.items c.push_bytes-3.new.out.items c.push_link.new.out.items
    (codes ",\n\"wishes\":[") (listed (wish_text document.predicates) extras.wishes) (codes "],\n\"notes\":[")
    (listed quoted extras.notes) (codes "],\n\"link\":") (link_text extras.link) c.in_ok-push_bytes.ensures.ok
    (c.in_ok-push_wishes.ensures
    ∙ ap (λ (predicates : List NamedPredicate). c.push_bytes.new.out.items
    ++ listed (wish_text predicates) (map wish_view c.deref.result.now)) c.predicates.ensures
    ∙ ap (λ (wishes : List Wish). c.push_bytes.new.out.items
    ++ listed (wish_text document.predicates) (map wish_view wishes)) c.deref.ensures.value)
    c.in_ok-push_bytes-2.ensures.ok
    (c.in_ok-push_names.ensures
    ∙ ap (λ (notes : List (String Global)). c.push_bytes-2.new.out.items ++ listed quoted (map string_bytes notes))
    c.deref-2.ensures.value)
    c.in_ok-push_bytes-3.ensures.ok c.in_ok-push_link.ensures
