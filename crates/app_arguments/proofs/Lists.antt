-- The texts of conditions have no comma.
use Rattle.std.proofs.Common.{ℕ, List, [], ◌∷◌, None, Some, Option, map, refl}
use Rattle.std.specs.Prelude.{not, ◌==◌, IfSome}
use Rattle.std.specs.List.{AllByRecursion}
use Rattle.def_format.specs.Reports.{IsName}
use Rattle.def_format.proofs.OneReport.{Lacks, all-append}
use Rattle.app_arguments.specs.Conditions.{IsLawful, colon, condition_text, kind_text, text_for}
use Rattle.judge_runs.specs.Wishes.{Condition, Kind}
use Rattle.app_arguments.proofs.Parts.{kind_lacks_comma, name_lacks_comma}

text_lacks : (name : Option (List ℕ)) (kind : Kind) → IfSome name IsName → Lacks 44 (text_for name kind)
text_lacks None kind lawful = kind_lacks_comma kind
text_lacks (Some name) kind lawful =
    all-append (λ b. not (b == 44)) name (colon ∷ kind_text kind) (name_lacks_comma name lawful)
    (rw (kind_lacks_comma kind) refl)

pub texts_lack : (conditions : List Condition) → AllByRecursion IsLawful conditions
    → AllByRecursion (Lacks 44) (map condition_text conditions)
texts_lack [] h = tt
texts_lack (condition ∷ rest) h = (text_lacks condition.name condition.kind h.0, texts_lack rest h.1)
