-- What is asked of a picture by the parser's rows.
use Rattle.std.proofs.Common.{◌≡◌, ℕ, Bool, true, false, List, Option, None, Some, codes, refl}
use Rattle.clap.specs.Walk.{Row}
use Rattle.out_picture.specs.declared.extent.Extent.{Extent}
use Rattle.out_picture.specs.declared.extent.Extent.TheVariants.{Around, From, All}
use Rattle.app_arguments.specs.Arguments.{MayNameNumber, NamesExtent, SaysFlag}
use Rattle.app_arguments.specs.Views.{Finds, extent_by}

not_both : (rows : List Row) (column : ℕ) → MayNameNumber rows (codes "COLUMN") (Some column)
    → SaysFlag rows (codes "ALL") true → (extent : Extent) → ¬ NamesExtent rows extent
not_both rows column named all Around names = names.0 column named
not_both rows column named all (From other) names = let bad : false ≡ true = names.1.1 (all.0 refl) in cc
not_both rows column named all All names = names.0 column named

-- a number and a flag ask for this
pub extent_found : (rows : List Row) (column : Option ℕ) (all : Bool)
    → MayNameNumber rows (codes "COLUMN") column → SaysFlag rows (codes "ALL") all
    → Finds (NamesExtent rows) (λ (extent : Extent). extent) (extent_by column all)
extent_found rows None false named flag = (named, flag)
extent_found rows None true named flag = (named, flag)
extent_found rows (Some column) false named flag = (named, flag)
extent_found rows (Some column) true named flag = not_both rows column named flag
