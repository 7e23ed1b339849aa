-- Sums of terms, one term after another.
use Rattle.std.specs.Prelude.{Option, Some, None, MatchOption}
use Rattle.std.specs.Option.{is_some}
use Rattle.std.proofs.Common.{false, ◌≡◌, ℕ, ◌+◌, ◌<◌, List, length, get_or, drop, ap, ◌∙◌, ℤ, ◌+ℤ◌, arith}
use Rattle.std.proofs.lemmas.Int.{ints}
use Rattle.std.proofs.lemmas.List.{at_drop_more}
use Rattle.def_model.specs.Predicates.{Sign, Plus, Minus, signed}
use Rattle.pd_pred.specs.Trees.{sign_view, term_view, terms_view}
use Rattle.pd_pred.specs.declared.tree.SignedTerm.{SignedTerm}
use Rattle.walk_tables.specs.Parts.{part_value, parts_value}

pub signed-add : (side : Sign) (a b : ℤ) → signed side (a +ℤ b) ≡ signed side a +ℤ signed side b
signed-add Plus a b = λ i. a +ℤ b
signed-add Minus a b = omega (arith, ints)

pub parts_step : (state : ℕ → ℕ → ℤ) (process : ℕ) (terms : List SignedTerm) (i : ℕ) (d : SignedTerm)
    → i < length terms → parts_value state process (terms_view (drop i terms))
    ≡ signed (sign_view (get_or terms i d).sign) (part_value state process (term_view (get_or terms i d).term))
    +ℤ parts_value state process (terms_view (drop (i + 1) terms))
parts_step state process terms i d lt =
    at_drop_more (λ (ts : List SignedTerm). parts_value state process (terms_view ts)) terms i d lt

pub signed_step : (side : Sign) (state : ℕ → ℕ → ℤ) (process : ℕ) (terms : List SignedTerm) (i : ℕ) (d : SignedTerm)
    → i < length terms → signed side (parts_value state process (terms_view (drop i terms)))
    ≡ signed side
    (signed (sign_view (get_or terms i d).sign) (part_value state process (term_view (get_or terms i d).term)))
    +ℤ signed side (parts_value state process (terms_view (drop (i + 1) terms)))
signed_step side state process terms i d lt =
    ap (signed side) (parts_step state process terms i d lt)
    ∙ signed-add side
    (signed (sign_view (get_or terms i d).sign) (part_value state process (term_view (get_or terms i d).term)))
    (parts_value state process (terms_view (drop (i + 1) terms)))

pub none_then : {A : Type 0} {P : Type 0} (Q : A → Type 0) (o : Option A) → is_some o ≡ false → MatchOption o P Q → P
none_then Q None is_none p = p
none_then Q (Some x) is_none q = cc
