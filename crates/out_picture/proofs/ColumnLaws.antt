-- What stands next to the event before it or to its send, and right of both, has the column of its longest chain.
use Rattle.std.proofs.Common.{◌≡◌, ℕ, zero, suc, ◌+◌, ◌-◌, ◌<◌, ◌≤◌, List, [], ◌∷◌, ◌++◌, length, refl, sym, subst, inl, inr, ◌⊎◌, arith, length-append}
use Rattle.std.proofs.lemmas.Bool.{cases_lt}
use Rattle.def_model.specs.Events.{Computation, Place, place, IsEvent, Linked}
use Rattle.def_model.specs.Messages.{IsMessage}
use Rattle.def_model.specs.Order.{LeadsTo}
use Rattle.def_model.proofs.Chains.{same_place, events_of_step, happens_elim}
use Rattle.out_picture.specs.Columns.{IsChainTo, IsColumn, AreColumns, ColumnsStandRight}
use Rattle.out_picture.specs.Tables.{IsNextTo, place_before}

-- a chain goes on by a step
chain_more : (c : Computation) (d e : Place) (before : List Place) → IsChainTo c d before → LeadsTo c d e
    → Linked (LeadsTo c) ((before ++ d ∷ []) ++ e ∷ [])
chain_more c d e [] links step = (step, tt)
chain_more c d e (x ∷ []) links step = (links.0, (step, tt))
chain_more c d e (x ∷ y ∷ rest) links step = (links.0, chain_more c d e (y ∷ rest) links.1 step)

module _ (c : Computation) (columns : Place → ℕ) (zeros : (p : ℕ) → columns (place p 0) ≡ 0)
    (steps : (e : Place) → IsEvent c e → IsNextTo c columns e) where
  -- earlier events of a process stand left of later ones
  earlier_left : (p m k : ℕ) → 1 ≤ m → IsEvent c (place p (m + suc k)) → columns (place p m)
      < columns (place p (m + suc k))
  earlier_left p m zero some is =
      let own : columns (place_before (place p (m + 1))) < columns (place p (m + 1)) =
      (steps (place p (m + 1)) is).own in
      let same : m + 1 - 1 ≡ m = omega arith in
      subst (λ (n : ℕ). columns (place p n) < columns (place p (m + 1))) same own
  earlier_left p m (suc k) some is =
      let own : columns (place_before (place p (m + suc (suc k)))) < columns (place p (m + suc (suc k))) =
      (steps (place p (m + suc (suc k))) is).own in
      let same : m + suc (suc k) - 1 ≡ m + suc k = omega arith in
      let last : columns (place p (m + suc k)) < columns (place p (m + suc (suc k))) =
      subst (λ (n : ℕ). columns (place p n) < columns (place p (m + suc (suc k)))) same own in
      let first : columns (place p m) < columns (place p (m + suc k)) =
      earlier_left p m k some (let some_there : 1 ≤ m + suc (suc k) = is.0 in (omega arith, omega (arith, is.1))) in
      omega arith

  pub step_right : (d e : Place) → LeadsTo c d e → columns d < columns e
  step_right d e (inr message) = (steps e (events_of_step c d e (inr message)).1).sent d message
  step_right d e (inl (is, at, same, less)) =
      let gap : d.number + suc (e.number - d.number - 1) ≡ e.number = omega arith in
      let here : place d.process (d.number + suc (e.number - d.number - 1)) ≡ e =
      same_place (place d.process (d.number + suc (e.number - d.number - 1))) e same gap in
      subst (λ (f : Place). columns d < columns f) here
      (earlier_left d.process d.number (e.number - d.number - 1) is.0
      (subst (λ (f : Place). IsEvent c f) (sym here) at))

  some_column : (e : Place) → IsEvent c e → 1 ≤ columns e
  some_column e is = let own : columns (place_before e) < columns e = (steps e is).own in omega arith

  -- no chain is longer than the column
  chain_short : (e : Place) → IsEvent c e → (before : List Place) → IsChainTo c e before → length before + 1 ≤ columns e
  chain_short e is before links = go before links
    where
      rest : (x : Place) (before : List Place) → Linked (LeadsTo c) (x ∷ before ++ e ∷ [])
          → columns x + length before + 1 ≤ columns e
      rest x [] links = let r : columns x < columns e = step_right x e links.0 in omega arith
      rest x (y ∷ more) links =
          let r : columns x < columns y = step_right x y links.0 in
          let s : columns y + length more + 1 ≤ columns e = rest y more links.1 in
          omega arith

      first_event : (x : Place) (before : List Place) → Linked (LeadsTo c) (x ∷ before ++ e ∷ []) → IsEvent c x
      first_event x [] links = (events_of_step c x e links.0).0
      first_event x (y ∷ more) links = (events_of_step c x y links.0).0

      go : (before : List Place) → IsChainTo c e before → length before + 1 ≤ columns e
      go [] links = some_column e is
      go (x ∷ more) links =
          let s : 1 ≤ columns x = some_column x (first_event x more links) in
          let r : columns x + length more + 1 ≤ columns e = rest x more links in
          omega arith

  -- some chain is as long
  chain_long : (n : ℕ) (e : Place) → IsEvent c e → columns e ≡ n → (before : List Place) × IsChainTo c e before
      × (length before + 1 ≡ n)
  chain_long zero e is same = let some : 1 ≤ columns e = some_column e is in absurd (omega arith)
  chain_long (suc n) e is same = go (chain_long n) (steps e is).next (cases_lt 1 e.number)
    where
      more : ((d : Place) → IsEvent c d → columns d ≡ n → (before : List Place) × IsChainTo c d before
          × (length before + 1 ≡ n)) → (d : Place) → IsEvent c d → LeadsTo c d e → columns e ≡ columns d + 1
          → (before : List Place) × IsChainTo c e before × (length before + 1 ≡ suc n)
      more shorter d there step next =
          let w : (before : List Place) × IsChainTo c d before × (length before + 1 ≡ n) =
          shorter d there (omega arith) in
          let count : length (w.0 ++ d ∷ []) ≡ length w.0 + 1 = length-append w.0 (d ∷ []) in
          let total : length w.0 + 1 ≡ n = w.2 in
          (w.0 ++ d ∷ [], chain_more c d e w.0 w.1 step, omega arith)

      go : ((d : Place) → IsEvent c d → columns d ≡ n → (before : List Place) × IsChainTo c d before
          × (length before + 1 ≡ n)) → (columns e ≡ columns (place_before e) + 1)
          ⊎ ((send : Place) × IsMessage c send e × (columns e ≡ columns send + 1)) → (1 < e.number) ⊎ (e.number ≤ 1)
          → (before : List Place) × IsChainTo c e before × (length before + 1 ≡ suc n)
      go shorter (inr (send, message, next)) number =
          more shorter send (events_of_step c send e (inr message)).0 (inr message) next
      go shorter (inl next) (inl many) =
          let first : 1 ≤ e.number = is.0 in
          let there : IsEvent c (place_before e) = (omega arith, omega (arith, is.1)) in
          more shorter (place_before e) there (inl (there, is, refl, omega arith)) next
      go shorter (inl next) (inr one) =
          let first : 1 ≤ e.number = is.0 in
          let none : e.number - 1 ≡ 0 = omega arith in
          let nothing : columns (place_before e) ≡ 0 =
          subst (λ (m : ℕ). columns (place e.process m) ≡ 0) (sym none) (zeros e.process) in
          ([], tt, omega arith)

  pub are_columns : AreColumns c columns
  are_columns e is =
      let w : (before : List Place) × IsChainTo c e before × (length before + 1 ≡ columns e) =
      chain_long (columns e) e is refl in
      record { before = w.0; chain = w.1; length_is = w.2; longest = chain_short e is }

-- A chain that goes on is longer.
pub stand_right : ColumnsStandRight
stand_right c columns are d e happened =
    happens_elim c e (λ f. columns f < columns e) step (λ f g s h later. let one : columns f < columns g =
    step_of f g s in omega arith) d happened
  where
    step_of : (f g : Place) → LeadsTo c f g → columns f < columns g
    step_of f g s =
        let events : IsEvent c f × IsEvent c g = events_of_step c f g s in
        let first : IsColumn c f (columns f) = are f events.0 in
        let long : length (first.before ++ f ∷ []) + 1 ≤ columns g =
        (are g events.1).longest (first.before ++ f ∷ []) (chain_more c f g first.before first.chain s) in
        let count : length (first.before ++ f ∷ []) ≡ length first.before + 1 = length-append first.before (f ∷ []) in
        let same : length first.before + 1 ≡ columns f = first.length_is in
        omega arith

    step : (f : Place) → LeadsTo c f e → columns f < columns e
    step f s = step_of f e s
