-- A connection that is the stream of a process is let in if the process had none.
use Rattle.std.proofs.Common.{◌≡◌, ◌∙◌, ◌++◌, ◌∷◌, ℕ, List, [], Option, Contains, ap, subst, sym}
use Rattle.def_format.specs.Names.{ProcessNames}
use Rattle.app_door.specs.Doors.{IsLetIn, IsStreamOf}
use Rattle.app_door.specs.declared.place_connection.PlaceConnection.{PlaceConnection}

pub let_in : {S : Type 0} (names same_names : List ProcessNames) (token same_token : Option (List ℕ))
    (before same_before after : List ℕ) (process : ℕ) (connection : PlaceConnection S)
    → names ≡ same_names → token ≡ same_token → before ≡ same_before
    → IsStreamOf names token process connection
    → ((Contains before process → ⊥) × (after ≡ before ++ process ∷ []))
    → IsLetIn same_names same_token same_before after connection
let_in names same_names token same_token before same_before after process connection hn ht hb stream (first, more) =
    record {
      process = process;
      is_stream = subst (λ (n : List ProcessNames). IsStreamOf n same_token process connection) hn
          (subst (λ (t : Option (List ℕ)). IsStreamOf names t process connection) ht stream);
      is_first = λ found. first (subst (λ (l : List ℕ). Contains l process) (sym hb) found);
      has_stream = more ∙ ap (λ (l : List ℕ). l ++ process ∷ []) hb;
    }
