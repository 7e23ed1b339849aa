-- The names are those of strings.
use Rattle.std.proofs.Common.{List, sym, subst}
use Rattle.std.specs.Prelude.{ℕ}
use Rattle.std.specs.List.{AllByRecursion}
use Rattle.std.specs.Str.{IsUtf8}
use Rattle.out_json.proofs.Utf8Reports.{names_are_utf8}
use Rattle.out_json.proofs.texts.path_is_utf8.Goals as goal

pub returns : goal.returns
returns c =
    subst (λ (names : List (List ℕ)). AllByRecursion IsUtf8 names) (sym c.parts-parts.ensures.names)
    (names_are_utf8 c.parts-parts.result.0.now c.parts-parts.result.1.now)
