-- How a reader goes over all tokens.
use Rattle.std.proofs.Common.{◌≡◌, ℕ, suc, ◌+◌, ◌<◌, List, [], ◌∷◌, ◌++◌, length, take, drop, get_or, refl, sym, ◌∙◌, ap, drop-cons}
use Rattle.std.proofs.lemmas.List.{map-append, take_more, take-append-drop}
use Rattle.def_format.specs.Laws.{PrefixesAreWalked, WalksGoOn, DepthsAreHeights, StacksGoOn}
use Rattle.def_format.specs.Names.{ProcessNames}
use Rattle.def_format.specs.Tokens as format
use Rattle.def_format.specs.PredicateTexts.{tokens_of}
use Rattle.pd_pred.specs.Placement.{Position, first_position, Steps, IsFaultAt, IsFirstMisplaced, IsSoundPlace}
use Rattle.pd_pred.specs.Tokens.{token_view, placed_view, lexed_view}
use Rattle.pd_pred.specs.declared.error.PredErrorKind.{PredErrorKind}
use Rattle.pd_pred.specs.declared.token.Placed.{Placed}
use Rattle.pd_pred.proofs.PlacementFacts.{stands_after, fault_at, no_fault, well_placed_more, well_placed_nothing}

-- the tokens round the one at an index
parts_at : (tokens : List Placed) (i : ℕ) (d : Placed) → i < length tokens
    → tokens ≡ take i tokens ++ get_or tokens i d ∷ drop (suc i) tokens
parts_at tokens i d h = sym (take-append-drop i tokens) ∙ ap (λ rest. take i tokens ++ rest) (drop-cons tokens i d h)

pub sound_start : (names : List ProcessNames) (place : Position) → place ≡ first_position → IsSoundPlace names place []
sound_start names place e =
    rw e (record {
      stands = record { is_walked = refl; is_open = refl; is_named = tt };
      well_placed =
          well_placed_nothing names;
    })

module _ (exact : PrefixesAreWalked) (go_on : WalksGoOn) (height : DepthsAreHeights) (stack_on : StacksGoOn) where
  sound_more : (names : List ProcessNames) (old new : Position) (tokens : List format.Placed) (t : format.Placed)
      → IsSoundPlace names old tokens → Steps names old t.token new → IsSoundPlace names new (tokens ++ t ∷ [])
  sound_more names old new tokens t sound steps = record {
    stands = let s =
        stands_after exact go_on height stack_on names old new (tokens_of tokens) t.token sound.stands steps in
        rw (map-append (λ (u : format.Placed). u.token) tokens (t ∷ [])) s;
    well_placed =
        well_placed_more names tokens t sound.well_placed (λ fault.
        no_fault exact go_on height stack_on names old new (tokens_of tokens) t.token fault sound.stands steps);
  }

  -- the place after one token more
  pub sound_next : (names : List ProcessNames) (old new : Position) (tokens : List Placed) (i : ℕ) (d : Placed)
      → i < length tokens → IsSoundPlace names old (lexed_view (take i tokens))
      → Steps names old (token_view (get_or tokens i d).token) new
      → IsSoundPlace names new (lexed_view (take (i + 1) tokens))
  sound_next names old new tokens i d h sound steps =
      rw (take_more tokens i d h, map-append placed_view (take i tokens) (get_or tokens i d ∷ []))
      (sound_more names old new (lexed_view (take i tokens)) (placed_view (get_or tokens i d)) sound steps)

  -- the first misplaced token
  pub first_fault : (names : List ProcessNames) (place : Position) (tokens : List Placed) (i : ℕ) (d : Placed)
      (kind : PredErrorKind) → i < length tokens → IsSoundPlace names place (lexed_view (take i tokens))
      → IsFaultAt names place (token_view (get_or tokens i d).token) kind
      → IsFirstMisplaced names (lexed_view tokens) (record { kind = kind; at = (get_or tokens i d).at })
  first_fault names place tokens i d kind h sound fault =
      let f = fault_at exact go_on height stack_on names place (tokens_of (lexed_view (take i tokens)))
      (token_view (get_or tokens i d).token) kind sound.stands fault in
      record {
        fault = f.0;
        is_fault = f.1;
        before = lexed_view (take i tokens);
        token = token_view (get_or tokens i d).token;
        after = lexed_view (drop (suc i) tokens);
        first = record {
          parts = ap lexed_view (parts_at tokens i d h)
              ∙ map-append placed_view (take i tokens) (get_or tokens i d ∷ drop (suc i) tokens);
          here = (f.0, f.2);
          none_before = λ prefix y back e. sound.well_placed prefix y back e;
        };
        stands = f.2;
      }
