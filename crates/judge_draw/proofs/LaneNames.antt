-- The names of processes, one after another.
use Rattle.std.proofs.Common.{◌≡◌, ℕ, suc, ◌+◌, ◌<◌, List, [], ◌∷◌, ◌++◌, length, get_or, map, take, sym, ap, ◌∙◌, subst, Option, arith}
use Rattle.std.specs.Prelude.{IfSome, slice_get}
use Rattle.std.proofs.Math.Seq.{take-suc}
use Rattle.std.proofs.lemmas.List.{map-append}
use Rattle.std.proofs.lemmas.Option.{slice_get-get_or}
use Rattle.def_format.specs.Names.{ProcessNames}

abbrev name_of : ProcessNames → List ℕ
name_of process = process.name

nobody : ProcessNames
nobody = record { name = []; vars = [] }

pub one_more_name : (names : List ProcessNames) (p : ℕ) (texts : List (List ℕ)) (text : List ℕ) → p < length names
    → IfSome (slice_get names p) (λ entry. text ≡ entry.name) → texts ≡ map name_of (take p names)
    → texts ++ text ∷ [] ≡ map name_of (take (p + 1) names)
one_more_name names p texts text lt is so_far =
    let here : text ≡ (get_or names p nobody).name =
    subst (λ (entry : Option ProcessNames). IfSome entry (λ (e : ProcessNames). text ≡ e.name))
    (slice_get-get_or names p nobody lt) is in
    let next : p + 1 ≡ suc p = omega arith in
    subst (λ (n : ℕ). texts ++ text ∷ [] ≡ map name_of (take n names)) (sym next)
    (ap (λ (before : List (List ℕ)). before ++ text ∷ []) so_far
    ∙ (ap (λ (t : List ℕ). map name_of (take p names) ++ t ∷ []) here
    ∙ (sym (map-append name_of (take p names) (get_or names p nobody ∷ []))
    ∙ ap (map name_of) (sym (take-suc names p nobody lt)))))
