-- The first number that is too large, found from the prefix.
use Rattle.std.proofs.Common.{◌≡◌, ℕ, ◌+◌, ◌<◌, ◌≤◌, Bool, true, false, List, [], ◌∷◌, ◌++◌, length, drop, get_or, refl, sym, ◌∙◌, ap, subst}
use Rattle.std.proofs.lemmas.List.{at_drop_more, at_drop_all}
use Rattle.std.specs.Prelude.{Option, Some, None, MatchOption, if◌then◌else◌}
use Rattle.def_format.specs.Tokens.{Placed}
use Rattle.def_format.specs.PredicateTexts.{is_too_large, IsTooLarge, NumbersFit}
use Rattle.pd_pred.specs.Numbers.{IsFirstTooLarge}
use Rattle.pd_pred.specs.Tokens.{token_view, lexed_view}
use Rattle.pd_pred.specs.declared.token.Placed.{Placed as Code}

-- where the first number that is too large begins
abbrev pub too_large_at : List Placed → Option ℕ
too_large_at [] = None
too_large_at (t ∷ rest) = if is_too_large t.token rest then Some t.at else too_large_at rest

no_number : NumbersFit []
no_number [] t after e h = cc
no_number (x ∷ before) t after e h = cc

fits_more : (t : Placed) (rest : List Placed) → is_too_large t.token rest ≡ false → NumbersFit rest
    → NumbersFit (t ∷ rest)
fits_more t rest fits others [] u after e h =
    let same : t ≡ u = cc in
    let following : rest ≡ after = cc in
    let good : is_too_large u.token after ≡ false = rw (← same, ← following) fits in cc
fits_more t rest fits others (x ∷ before) u after e h = others before u after (cc) h

first_here : (t : Placed) (rest : List Placed) → is_too_large t.token rest ≡ true → IsFirstTooLarge (t ∷ rest) t.at
first_here t rest large =
    record {
      before = [];
      token = t.token;
      after = rest;
      first =
          record { parts = refl; here = large; none_before = λ prefix y back e. absurd (none prefix y back e) };
    }
  where
    none : (prefix : List Placed) (y : Placed) (back : List Placed) → [] ≡ prefix ++ y ∷ back → ⊥
    none [] y back e = cc
    none (x ∷ prefix) y back e = cc

first_later : (t : Placed) (rest : List Placed) (at : ℕ) → is_too_large t.token rest ≡ false → IsFirstTooLarge rest at
    → IsFirstTooLarge (t ∷ rest) at
first_later t rest at fits f = record {
  before = t ∷ f.before;
  token = f.token;
  after = f.after;
  first =
      record { parts = ap (λ z. t ∷ z) f.first.parts; here = f.first.here; none_before = none };
}
  where
    none : (prefix : List Placed) (y : Placed) (back : List Placed) → t ∷ f.before ≡ prefix ++ y ∷ back
        → IsTooLarge prefix y (back ++ (record { at = at; token = f.token }) ∷ f.after) → ⊥
    none [] y back e h =
        let same : t ≡ y = cc in
        let following : f.before ≡ back = cc in
        let good : is_too_large t.token (f.before ++ (record { at = at; token = f.token }) ∷ f.after) ≡ false =
        rw (← f.first.parts) fits in
        let bad : is_too_large y.token (f.before ++ (record { at = at; token = f.token }) ∷ f.after) ≡ true =
        rw following h in
        let worse : is_too_large t.token (f.before ++ (record { at = at; token = f.token }) ∷ f.after) ≡ true =
        rw same bad in
        cc
    none (x ∷ prefix) y back e h = f.first.none_before prefix y back (cc) h

pub too_large_at_is : (tokens : List Placed)
    → MatchOption (too_large_at tokens) (NumbersFit tokens) (IsFirstTooLarge tokens)
too_large_at_is [] = no_number
too_large_at_is (t ∷ rest) = go (is_too_large t.token rest) refl (too_large_at rest) (too_large_at_is rest)
  where
    go : (b : Bool) → is_too_large t.token rest ≡ b → (r : Option ℕ)
        → MatchOption r (NumbersFit rest) (IsFirstTooLarge rest)
        → MatchOption (if b then Some t.at else r) (NumbersFit (t ∷ rest)) (IsFirstTooLarge (t ∷ rest))
    go true e r ih = first_here t rest e
    go false e None ih = fits_more t rest e ih
    go false e (Some at) ih = first_later t rest at e ih

pub fit_where_none : (tokens : List Placed) → too_large_at tokens ≡ None → NumbersFit tokens
fit_where_none tokens e =
    let P : Option ℕ → Type 0 = λ r. MatchOption r (NumbersFit tokens) (IsFirstTooLarge tokens) in
    subst P e (too_large_at_is tokens)

pub first_where_some : (tokens : List Placed) (at : ℕ) → too_large_at tokens ≡ Some at → IsFirstTooLarge tokens at
first_where_some tokens at e =
    let P : Option ℕ → Type 0 = λ r. MatchOption r (NumbersFit tokens) (IsFirstTooLarge tokens) in
    subst P e (too_large_at_is tokens)

-- the program's tokens, from the prefix up to the first too large
pub found_at : (tokens : List Code) (i : ℕ) (d : Code) → i < length tokens → too_large_at (lexed_view (drop i tokens))
    ≡ too_large_at (lexed_view tokens) → true
    ≡ is_too_large (token_view (get_or tokens i d).token) (lexed_view (drop (i + 1) tokens))
    → too_large_at (lexed_view tokens) ≡ Some (get_or tokens i d).at
found_at tokens i d h so_far large =
    let step = at_drop_more (λ (rest : List Code). too_large_at (lexed_view rest)) tokens i d h in
    let here : too_large_at (lexed_view (get_or tokens i d ∷ drop (i + 1) tokens)) ≡ Some (get_or tokens i d).at =
    rw (← large) refl in
    sym so_far ∙ step ∙ here

pub none_found : (tokens : List Code) (i : ℕ) → length tokens ≤ i → too_large_at (lexed_view (drop i tokens))
    ≡ too_large_at (lexed_view tokens) → too_large_at (lexed_view tokens) ≡ None
none_found tokens i h so_far =
    sym so_far ∙ at_drop_all (λ (rest : List Code). too_large_at (lexed_view rest)) tokens i h
