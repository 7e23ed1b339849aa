-- What a map of ids holds, step by step.
use Rattle.std.proofs.Common.{◌≡◌, ℕ, suc, List, length, Bool, true, false, cond, Option, Some, None, option_map, refl, sym, ◌∙◌, ap, subst, inl, inr, ◌⊎◌, ◌↔◌, bytes_eq}
use Rattle.std.specs.Borrow.{Bor}
use Rattle.std.specs.Map.{lookup, update}
use Rattle.std.proofs.lemmas.Slice.Eq.{bytes_eq-Decides}
use Rattle.std.proofs.lemmas.Option.{same_Some}
use Rattle.std.proofs.lemmas.Bool.{false≢true}
use Rattle.indexmap.specs.IndexMap.{IndexMap, IsEmpty, Updates, get_by}
use Rattle.def_model.specs.Events.{Kind, Computation, IsBefore, kind_at, event_count}
use Rattle.def_model.specs.Events as events
use Rattle.def_model.proofs.Chains.{event_from_kind}
use Rattle.pd_match.specs.declared.id.Id.{Id}
use Rattle.pd_match.specs.declared.place.Place.{Place}
use Rattle.pd_match.specs.Views.{place_view}
use Rattle.pd_match.specs.Noted.{event_place, place_noted, HasBefore, HasAll}
use Rattle.pd_match.proofs.Places.{before_more, here_before_next, before_next, before_next_process, before_process_end, none_before_first, each_before_end}

map_cond : {A B : Type 0} (f : A → B) (b : Bool) (x y : Option A)
    → option_map f (cond b x y) ≡ cond b (option_map f x) (option_map f y)
map_cond f true x y = refl
map_cond f false x y = refl

-- an update, as the model sees it
pub noted_update : {S : Type 0} (old new : IndexMap Id Place S) (id : Bor (List ℕ)) (other : List ℕ) (here : Place)
    → Updates (λ x y. bytes_eq x.0.now y.0.now) old new (record { 0 = id }) (Some here)
    → place_noted new other ≡ update bytes_eq (place_noted old) id.now (Some (place_view here)) other
noted_update old new id other here h =
    ap (option_map place_view) (h.0 (record { 0 = record { ref_ptr = id.ref_ptr; now = other } }))
    ∙ map_cond place_view (bytes_eq id.now other) (Some here)
    (get_by (λ k. bytes_eq other k.0.now) old)

-- an empty map notes nothing
pub none_noted : {S : Type 0} (places : IndexMap Id Place S) → IsEmpty places → (id : List ℕ)
    → place_noted places id ≡ None
none_noted places empty id =
    ap (λ es. option_map place_view (lookup (λ (k : Id). bytes_eq id k.0.now) es)) empty

module _ (sort : List ℕ → Kind) (c : Computation) where
  pub noted_first : (noted : List ℕ → Option events.Place) → ((id : List ℕ) → noted id ≡ None)
      → HasBefore sort c (event_place 0 0) noted
  noted_first noted none id d = (
    λ e. let no : None ≡ Some d = sym (none id) ∙ e in
        cc,
    λ w. absurd (none_before_first c d (event_from_kind c d (sort id) w.0) w.1),
  )

  pub noted_process : (p : ℕ) (noted : List ℕ → Option events.Place)
      → HasBefore sort c (event_place p (event_count c p)) noted → HasBefore sort c (event_place (suc p) 0) noted
  noted_process p noted has id d = (
    λ e. let w = (has id d).0 e in (w.0, before_next_process c d p w.1),
    λ w. (has id d).1 (w.0, before_process_end c d p (event_from_kind c d (sort id) w.0) w.1),
  )

  pub noted_all : (noted : List ℕ → Option events.Place) → HasBefore sort c (event_place (length c) 0) noted
      → HasAll sort c noted
  noted_all noted has id d =
      (λ e. ((has id d).0 e).0, λ k. (has id d).1 (k, each_before_end c d (event_from_kind c d (sort id) k)))

  -- an event of another sort changes nothing
  pub noted_other : (p n : ℕ) (noted : List ℕ → Option events.Place)
      → ((id : List ℕ) → ¬ (kind_at c (event_place p n) ≡ Some (sort id))) → HasBefore sort c (event_place p n) noted
      → HasBefore sort c (event_place p (suc n)) noted
  noted_other p n noted not has id d = (
    λ e. let w = (has id d).0 e in (w.0, before_more d p n w.1),
    λ w. (has id d).1 (w.0, go w.0 (before_next d p n w.1)),
  )
    where
      go : kind_at c d ≡ Some (sort id) → IsBefore d (event_place p n) ⊎ (d ≡ event_place p n)
          → IsBefore d (event_place p n)
      go k (inl b) = b
      go k (inr e) = absurd (not id (subst (λ f. kind_at c f ≡ Some (sort id)) e k))

  -- an event of this sort is noted
  pub noted_more : (p n : ℕ) (old new : List ℕ → Option events.Place) (id : List ℕ)
      → ((x y : List ℕ) → sort x ≡ sort y → x ≡ y) → kind_at c (event_place p n) ≡ Some (sort id) → old id ≡ None
      → ((other : List ℕ) → new other ≡ update bytes_eq old id (Some (event_place p n)) other)
      → HasBefore sort c (event_place p n) old → HasBefore sort c (event_place p (suc n)) new
  noted_more p n old new id one is fresh step has other d = go (bytes_eq id other) refl
    where
      go : (b : Bool) → bytes_eq id other ≡ b → (new other ≡ Some d)
          ↔ ((kind_at c d ≡ Some (sort other)) × IsBefore d (event_place p (suc n)))
      go true e =
          let same : id ≡ other = (bytes_eq-Decides id other).0 e in
          let now : new other ≡ Some (event_place p n) =
          step other ∙ ap (λ b. cond b (Some (event_place p n)) (old other)) e in (
            λ k.
                let at : event_place p n ≡ d = same_Some _ _ (sym now ∙ k) in (
                  subst (λ f. kind_at c f ≡ Some (sort other)) at (is ∙ ap (λ x. Some (sort x)) same),
                  subst (λ f. IsBefore f (event_place p (suc n))) at (here_before_next p n),
                ),
            λ w. old_or_here same now w.0 (before_next d p n w.1),
          )
        where
          old_or_here : id ≡ other → new other ≡ Some (event_place p n) → kind_at c d ≡ Some (sort other)
              → IsBefore d (event_place p n) ⊎ (d ≡ event_place p n) → new other ≡ Some d
          old_or_here same now k (inl b) =
              let found : old other ≡ Some d = (has other d).1 (k, b) in
              let none : old other ≡ None = ap old (sym same) ∙ fresh in
              cc
          old_or_here same now k (inr at) = now ∙ ap Some (sym at)
      go false e =
          let now : new other ≡ old other = step other ∙ ap (λ b. cond b (Some (event_place p n)) (old other)) e in (
            λ k. let w = (has other d).0 (sym now ∙ k) in (w.0, before_more d p n w.1),
            λ w. now
                ∙ (has other d).1 (w.0, before w.0 (before_next d p n w.1)),
          )
        where
          before : kind_at c d ≡ Some (sort other) → IsBefore d (event_place p n) ⊎ (d ≡ event_place p n)
              → IsBefore d (event_place p n)
          before k (inl b) = b
          before k (inr at) =
              let both : Some (sort id) ≡ Some (sort other) =
              sym is ∙ subst (λ f. kind_at c f ≡ Some (sort other)) at k in
              let same : id ≡ other = one id other (same_Some _ _ both) in
              absurd (false≢true (sym e ∙ (bytes_eq-Decides id other).1 same))
