-- The texts of parts, one after another.
use Rattle.std.proofs.Common.{◌≡◌, ℕ, Bool, true, false, List, [], ◌∷◌, ◌++◌, Some, None, refl, sym, ap, ◌∙◌, append_assoc}
use Rattle.std.specs.Prelude.{if◌then◌else◌}
use Rattle.std.specs.List.{list_all}
use Rattle.std.specs.Str.{is_utf8}
use Rattle.std.proofs.lemmas.List.Folds.{list_all-append}
use Rattle.def_format.specs.Bundles.{parts_of}
use Rattle.read_parts.specs.Texts.{texts_of_parts}

-- these texts are the parts so far, and those are the others
pub record HasTexts (bytes rest : List ℕ) (texts : List (List ℕ)) : Type 0 where
  pub parts : parts_of bytes ≡ texts ++ parts_of rest
  pub are_texts : list_all is_utf8 texts ≡ true

-- bytes are a text
pub is_text : (made text bytes : List ℕ) → made ≡ text → text ≡ bytes → is_utf8 bytes ≡ true
    → Some made ≡ (if is_utf8 bytes then Some bytes else None)
is_text made text bytes same of is = rw is (ap (λ (t : List ℕ). Some t) (same ∙ of))

none_if : (b : Bool) (bytes : List ℕ) → (b ≡ true → ⊥) → None ≡ (if b then Some bytes else None)
none_if true bytes other = absurd (other refl)
none_if false bytes other = refl

pub is_no_text : (bytes : List ℕ) → (is_utf8 bytes ≡ true → ⊥) → None ≡ (if is_utf8 bytes then Some bytes else None)
is_no_text bytes other = none_if (is_utf8 bytes) bytes other

-- what a part is, by what was found of it
text_by : (b : Bool) (bytes text : List ℕ) → (Some text) ≡ (if b then Some bytes else None)
    → (b ≡ true) × (text ≡ bytes)
text_by true bytes text is = (refl, cc)
text_by false bytes text is = absurd (cc)

none_by : (b : Bool) (bytes : List ℕ) → None ≡ (if b then Some bytes else None) → b ≡ false
none_by true bytes is = absurd (cc)
none_by false bytes is = refl

all_on : (texts : List (List ℕ)) (part : List ℕ) → list_all is_utf8 texts ≡ true → is_utf8 part ≡ true
    → list_all is_utf8 (texts ++ part ∷ []) ≡ true
all_on texts part are is = list_all-append is_utf8 texts (part ∷ []) ∙ rw (are, is) refl

-- a text more
pub more_texts : (bytes rest later part text : List ℕ) (texts : List (List ℕ)) → HasTexts bytes rest texts
    → parts_of rest ≡ part ∷ parts_of later → Some text ≡ (if is_utf8 part then Some part else None)
    → HasTexts bytes later (texts ++ text ∷ [])
more_texts bytes rest later part text texts has first is =
    let found = text_by (is_utf8 part) part text is in
    record {
      parts = rw found.1 (has.parts ∙ ap (λ parts. texts ++ parts) first
          ∙ sym (append_assoc texts (part ∷ []) (parts_of later)));
      are_texts = rw found.1 (all_on texts part has.are_texts found.0);
    }

-- the last text
pub all_texts : (bytes rest text : List ℕ) (texts : List (List ℕ)) → HasTexts bytes rest texts
    → parts_of rest ≡ rest ∷ [] → Some text ≡ (if is_utf8 rest then Some rest else None)
    → Some (texts ++ text ∷ []) ≡ texts_of_parts (parts_of bytes)
all_texts bytes rest text texts has last is =
    let found = text_by (is_utf8 rest) rest text is in
    rw (has.parts, last, found.1, all_on texts rest has.are_texts found.0) refl

none_of : (texts others : List (List ℕ)) (part : List ℕ) → list_all is_utf8 texts ≡ true → is_utf8 part ≡ false
    → texts_of_parts (texts ++ part ∷ others) ≡ None
none_of texts others part are other = rw (list_all-append is_utf8 texts (part ∷ others), are, other) refl

-- a part that is no text
pub no_text : (bytes rest part : List ℕ) (texts others : List (List ℕ)) → HasTexts bytes rest texts
    → parts_of rest ≡ part ∷ others → None ≡ (if is_utf8 part then Some part else None)
    → None ≡ texts_of_parts (parts_of bytes)
no_text bytes rest part texts others has first is =
    sym (ap texts_of_parts (has.parts ∙ ap (λ parts. texts ++ parts) first)
    ∙ none_of texts others part has.are_texts (none_by (is_utf8 part) part is))
