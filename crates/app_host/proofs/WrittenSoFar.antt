-- A text that is written up to some place is written whole, or a prefix of it is.
use Rattle.std.proofs.Common.{◌≡◌, ℕ, ◌<◌, ◌≤◌, List, ◌++◌, length, take, Some, None, Option, ap, ◌∙◌, subst, refl, append_assoc, inl, inr, ◌⊎◌}
use Rattle.std.specs.Io.KnownBytes.{Appends, Keeps}
use Rattle.std.proofs.lemmas.List.{take_all}
use Rattle.std.proofs.lemmas.Bool.{cases_lt}
use Rattle.app_arguments.specs.Statuses.{WritesUpTo}

-- bytes after bytes
pub appends_on : (a b c : Option (List ℕ)) (xs ys : List ℕ) → Appends a b xs → Appends b c ys → Appends a c (xs ++ ys)
appends_on None b c xs ys first then = tt
appends_on (Some old) None c xs ys first then = absurd first
appends_on (Some old) (Some mid) None xs ys first then = absurd then
appends_on (Some old) (Some mid) (Some new) xs ys first then =
    then ∙ (ap (λ (zs : List ℕ). zs ++ ys) first ∙ append_assoc old xs ys)

-- nothing after bytes
pub appends_kept : (a b c : Option (List ℕ)) (xs : List ℕ) → Appends a b xs → Keeps b c → Appends a c xs
appends_kept None b c xs first then = tt
appends_kept (Some old) None c xs first then = absurd first
appends_kept (Some old) (Some mid) None xs first then = absurd then
appends_kept (Some old) (Some mid) (Some new) xs first then = then ∙ first

pub up_to : (text : List ℕ) (old new : Option (List ℕ)) (taken : ℕ) → Appends old new (take taken text)
    → WritesUpTo (λ written. written ≡ text) old new
up_to text old new taken written = go (cases_lt taken (length text))
  where
    go : (taken < length text) ⊎ (length text ≤ taken) → WritesUpTo (λ written. written ≡ text) old new
    go (inl lt) = inr (text, refl, taken, lt, written)
    go (inr le) =
        inl (text, refl, subst (λ (bytes : List ℕ). Appends old new bytes) (take_all taken text le) written)
