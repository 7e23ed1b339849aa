-- Where what is asked is cut into a name and a text.
use Rattle.std.proofs.Common.{◌≡◌, ℕ, suc, ◌+◌, ◌<◌, Bool, true, false, List, [], ◌∷◌, length, refl, sym, ◌∙◌, arith}
use Rattle.std.specs.Prelude.{◌&&◌, not}
use Rattle.std.specs.List.{after_first, before_first, list_any, position_or_len}
use Rattle.def_format.specs.Documents.{asked_name, asked_text, begins_with_equals_sign, has_own_name, is_equals_sign}
use Rattle.def_format.specs.Names.{is_name}

-- no byte is the sign
has_none : (bytes : List ℕ) → position_or_len is_equals_sign bytes ≡ length bytes
    → list_any is_equals_sign bytes ≡ false
has_none [] none = refl
has_none (byte ∷ rest) none = go (is_equals_sign byte) refl (λ more. has_none rest more) none
  where
    go : (b : Bool) → is_equals_sign byte ≡ b
        → (position_or_len is_equals_sign rest ≡ length rest → list_any is_equals_sign rest ≡ false)
        → position_or_len is_equals_sign (byte ∷ rest) ≡ suc (length rest)
        → list_any is_equals_sign (byte ∷ rest) ≡ false
    go true e ih h = let no : 0 ≡ suc (length rest) = rw e at h in absurd (omega (arith, no))
    go false e ih h =
        let more : 1 + position_or_len is_equals_sign rest ≡ suc (length rest) = rw e at h in
        rw e (ih (omega (arith, more)))

-- some byte is the sign
has_one : (bytes : List ℕ) → position_or_len is_equals_sign bytes < length bytes
    → list_any is_equals_sign bytes ≡ true
has_one [] some = absurd (omega (arith, some))
has_one (byte ∷ rest) some = go (is_equals_sign byte) refl (λ more. has_one rest more) some
  where
    go : (b : Bool) → is_equals_sign byte ≡ b
        → (position_or_len is_equals_sign rest < length rest → list_any is_equals_sign rest ≡ true)
        → position_or_len is_equals_sign (byte ∷ rest) < suc (length rest)
        → list_any is_equals_sign (byte ∷ rest) ≡ true
    go true e ih h = rw e refl
    go false e ih h =
        let more : 1 + position_or_len is_equals_sign rest < suc (length rest) = rw e at h in
        rw e (ih (omega (arith, more)))

-- without the sign there is no name
pub has_no_name : (asked : List ℕ) → position_or_len is_equals_sign asked ≡ length asked → has_own_name asked ≡ false
has_no_name asked none = rw (has_none asked none) refl

-- with it, what stands before and after it decides
pub decided_by_parts : (asked name text : List ℕ) → (position_or_len is_equals_sign asked < length asked)
    × (name ≡ before_first is_equals_sign asked) × (text ≡ after_first is_equals_sign asked)
    → has_own_name asked ≡ is_name name && not (begins_with_equals_sign text)
decided_by_parts asked name text (some, before, after) = rw (has_one asked some, before, after) refl

-- the name and the text are those before and after it
pub own_parts : (asked name text : List ℕ) → (position_or_len is_equals_sign asked < length asked)
    × (name ≡ before_first is_equals_sign asked) × (text ≡ after_first is_equals_sign asked)
    → is_name name && not (begins_with_equals_sign text) ≡ true
    → (has_own_name asked ≡ true) × ((number : ℕ) → asked_name number asked ≡ name) × (asked_text asked ≡ text)
own_parts asked name text cut are =
    let own : has_own_name asked ≡ true = decided_by_parts asked name text cut ∙ are in
    (own, (λ number. rw own (sym cut.1)), rw own (sym cut.2))
