-- A name that ends as that of a bundle.
use Rattle.std.proofs.Common.{ℕ, Bool, true, false, List, length, None, codes, take, ◌-◌}
use Rattle.std.specs.Bool.{MatchBool, OnFalse, OnTrue}
use Rattle.std.specs.Str.Pattern.{FindsTextSuffix, HasSuffixMatch}
use Rattle.judge_bundles.specs.BundleRuns.{IsBundleName}

-- what `ends_with` says of the ending of a bundle's name
abbrev pub EndsAsBundle : Bool → List ℕ → Type 0
EndsAsBundle found name =
    MatchBool found (HasSuffixMatch (FindsTextSuffix (codes ".bundle")) name)
    (FindsTextSuffix (codes ".bundle") name None)

pub named_as_bundle : (found : Bool) (name : List ℕ) → EndsAsBundle found name → OnTrue found (IsBundleName name)
named_as_bundle true name match = (take (length name - match.0) name, match.1.1)
named_as_bundle false name none = tt

pub not_named_as_bundle : (found : Bool) (name : List ℕ) → EndsAsBundle found name
    → OnFalse found (¬ IsBundleName name)
not_named_as_bundle true name match = tt
not_named_as_bundle false name none = λ is. none is.0 is.1
