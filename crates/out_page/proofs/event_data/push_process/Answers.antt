-- The process's name and those of its variables, part by part.
use Rattle.std.proofs.Common.{◌≡◌, ◌∙◌, ◌++◌, ℕ, List, ap, map}
use Rattle.std.specs.Prelude.{codes, slice_get, string_bytes}
use Rattle.def_format.specs.Names.{ProcessNames, vars_or_none}
use Rattle.out_page.specs.JsonTexts.{listed, quoted}
use Rattle.out_page.proofs.Parts.{five_parts, of_some}
use Rattle.out_page.proofs.event_data.push_process.Goals as goal

pub returns : goal.returns
returns c = λ process is.
    let name : c.name.result.now ≡ process.name =
    of_some (λ (entry : ProcessNames). c.name.result.now ≡ entry.name) (slice_get c.args.names.now c.args.p) process is
    c.name.ensures in
    let vars : map string_bytes c.vars.result.now ≡ process.vars = c.vars.ensures ∙ ap vars_or_none is in
    five_parts c.args.out.now.items c.push_bytes.new.out.items c.push_quoted.new.out.items
    c.push_bytes-2.new.out.items c.push_names.new.out.items c.push_bytes-3.new.out.items (codes "{\"name\":")
    (quoted process.name) (codes ",\"vars\":[") (listed quoted process.vars) (codes "]}")
    c.in_ok-push_bytes.ensures.ok
    (c.in_ok-push_quoted.ensures
    ∙ ap (λ (text : List ℕ). c.push_bytes.new.out.items ++ quoted text) (c.as_bytes.ensures.value ∙ name))
    c.in_ok-push_bytes-2.ensures.ok
    (c.in_ok-push_names.ensures
    ∙ ap (λ (texts : List (List ℕ)). c.push_bytes-2.new.out.items ++ listed quoted texts) vars)
    c.in_ok-push_bytes-3.ensures.ok
