-- What the marks of received ids say, step by step.
use Rattle.std.proofs.Common.{◌≡◌, ◌≢◌, ℕ, zero, suc, ◌<◌, ◌≤◌, ◌+◌, cond, List, [], ◌∷◌, length, get_or, replicate, set, Bool, true, false, Option, Some, None, refl, sym, ◌∙◌, ap, subst, inl, inr, ◌⊎◌, bytes_eq, arith}
use Rattle.std.specs.Prelude.{nat_eq, not, position}
use Rattle.std.specs.Map.{keys_of}
use Rattle.std.proofs.Math.Dec.{eqb-suc-zero}
use Rattle.std.proofs.lemmas.Bool.{cases_eq, cases_lt, false≢true}
use Rattle.std.proofs.lemmas.Grind.{common_steps}
use Rattle.std.proofs.lemmas.List.{get_or-replicate, get_or-set_other, get_or-set_same, get_or_past, length-replicate}
use Rattle.std.proofs.lemmas.List.Quantifiers.{position-Some}
use Rattle.std.proofs.lemmas.List.Sums.{sum_by-set}
use Rattle.std.proofs.lemmas.Option.{same_Some}
use Rattle.std.proofs.lemmas.Slice.Eq.{bytes_eq-Decides}
use Rattle.indexmap.specs.IndexMap.{IndexMap, index_of_by}
use Rattle.def_model.specs.Events.{Receive, Computation, IsBefore, kind_at, event_count}
use Rattle.def_model.specs.Events as events
use Rattle.def_model.proofs.Chains.{event_from_kind}
use Rattle.pd_match.specs.declared.id.Id.{Id}
use Rattle.pd_match.specs.declared.place.Place.{Place}
use Rattle.pd_match.specs.Noted.{HasReceived, IsReceivedBefore, event_place, last_receiver, mark_at, sends_marked}
use Rattle.pd_match.proofs.Places.{before_more, before_next, before_next_process, before_process_end, here_before_next, none_before_first}

-- two tests that first pass at one index pass for one element
both_pass : {K : Type 0} (p q : K → Bool) (ks : List K) (i : ℕ) → position p ks ≡ Some i → position q ks ≡ Some i
    → (k : K) × (p k ≡ true) × (q k ≡ true)
both_pass p q [] i e f = let no : None ≡ Some i = e in cc
both_pass p q (x ∷ xs) i e f =
    let first = position-Some p (x ∷ xs) i x e in
    let second = position-Some q (x ∷ xs) i x f in
    (get_or (x ∷ xs) i x, first.1, second.1)

none_set : (n : ℕ) (index : Option ℕ) → mark_at (replicate {A = ℕ} n 0) index ≡ 0
none_set n None = refl
none_set n (Some i) = go (cases_lt i n)
  where
    go : (i < n) ⊎ (n ≤ i) → get_or (replicate {A = ℕ} n 0) i 0 ≡ 0
    go (inl lt) = get_or-replicate n i 0 0 lt
    go (inr le) =
        let same : length (replicate {A = ℕ} n 0) ≡ n = length-replicate n 0 in
        get_or_past (replicate {A = ℕ} n 0) i 0 (omega (arith, same))

module _ {S : Type 0} (places : IndexMap Id Place S) where
  abbrev index_of_id : List ℕ → Option ℕ
  index_of_id id = index_of_by (λ k. bytes_eq id k.0.now) places

  -- no id is marked at first
  pub none_marked : (n : ℕ) (id : List ℕ) → last_receiver places (replicate n 0) id ≡ 0
  none_marked n id = none_set n (index_of_id id)

  -- an index is that of one id
  one_id : (id other : List ℕ) (i : ℕ) → index_of_id id ≡ Some i → index_of_id other ≡ Some i → id ≡ other
  one_id id other i e f =
      let both = both_pass (λ (k : Id). bytes_eq id k.0.now) (λ k. bytes_eq other k.0.now)
      (keys_of places.entries) i e f in
      (bytes_eq-Decides id both.0.0.now).0 both.1 ∙ sym ((bytes_eq-Decides other both.0.0.now).0 both.2)

  -- the mark of one id is set
  pub mark_more : (marks : List ℕ) (id other : List ℕ) (i mark : ℕ) → index_of_id id ≡ Some i → i < length marks
      → last_receiver places (set marks i mark) other
      ≡ cond (bytes_eq id other) mark (last_receiver places marks other)
  mark_more marks id other i mark at within = go (bytes_eq id other) refl
    where
      apart : bytes_eq id other ≡ false → (index : Option ℕ) → index_of_id other ≡ index
          → mark_at (set marks i mark) index ≡ mark_at marks index
      apart e None is = refl
      apart e (Some j) is = by (cases_eq j i)
        where
          by : (j ≡ i) ⊎ (j ≢ i) → get_or (set marks i mark) j 0 ≡ get_or marks j 0
          by (inl same) =
              let one : id ≡ other = one_id id other i at (is ∙ ap Some same) in
              absurd (false≢true (sym e ∙ (bytes_eq-Decides id other).1 one))
          by (inr different) = get_or-set_other marks i j mark 0 different

      go : (b : Bool) → bytes_eq id other ≡ b → last_receiver places (set marks i mark) other
          ≡ cond (bytes_eq id other) mark (last_receiver places marks other)
      go true e =
          let one : id ≡ other = (bytes_eq-Decides id other).0 e in
          ap (mark_at (set marks i mark)) (sym (ap index_of_id one) ∙ at) ∙ (get_or-set_same marks i mark 0 within
          ∙ sym (ap (λ b. cond b mark (last_receiver places marks other)) e))
      go false e =
          apart e (index_of_id other) refl ∙ sym (ap (λ b. cond b mark (last_receiver places marks other)) e)

module _ (c : Computation) where
  pub received_first : (last : List ℕ → ℕ) → ((id : List ℕ) → last id ≡ 0) → HasReceived c (event_place 0 0) last
  received_first last none = record {
    found = λ id q e. absurd (let no : 0 ≡ suc q = sym (none id) ∙ e in omega arith);
    latest = λ id d w. absurd (none_before_first c d (event_from_kind c d (Receive id) w.0) w.1);
  }

  pub received_process : (p : ℕ) (last : List ℕ → ℕ) → HasReceived c (event_place p (event_count c p)) last
      → HasReceived c (event_place (suc p) 0) last
  received_process p last has = record {
    found = λ id q e. let w = has.found id q e in (w.0, (w.1.0, before_next_process c w.0 p w.1.1), w.2);
    latest = λ id d w.
        has.latest id d (w.0, before_process_end c d p (event_from_kind c d (Receive id) w.0) w.1);
  }

  -- an event that is no receipt changes nothing
  pub received_other : (p n : ℕ) (last : List ℕ → ℕ)
      → ((id : List ℕ) → ¬ (kind_at c (event_place p n) ≡ Some (Receive id))) → HasReceived c (event_place p n) last
      → HasReceived c (event_place p (suc n)) last
  received_other p n last not has = record {
    found = λ id q e. let w = has.found id q e in (w.0, (w.1.0, before_more w.0 p n w.1.1), w.2);
    latest = λ id d w. has.latest id d (w.0, go id d w.0 (before_next d p n w.1));
  }
    where
      go : (id : List ℕ) (d : events.Place) → kind_at c d ≡ Some (Receive id)
          → IsBefore d (event_place p n) ⊎ (d ≡ event_place p n) → IsBefore d (event_place p n)
      go id d k (inl b) = b
      go id d k (inr e) = absurd (not id (subst (λ f. kind_at c f ≡ Some (Receive id)) e k))

  -- the id of a receipt is marked with its process
  pub received_more : (p n : ℕ) (old new : List ℕ → ℕ) (id : List ℕ)
      → kind_at c (event_place p n) ≡ Some (Receive id)
      → ((other : List ℕ) → new other ≡ cond (bytes_eq id other) (suc p) (old other))
      → HasReceived c (event_place p n) old → HasReceived c (event_place p (suc n)) new
  received_more p n old new id is step has = record {
    found = λ other q e. found (bytes_eq id other) other q refl e;
    latest = λ other d w. latest (bytes_eq id other) other d refl w;
  }
    where
      found : (b : Bool) (other : List ℕ) (q : ℕ) → bytes_eq id other ≡ b → new other ≡ suc q
          → (d : events.Place) × IsReceivedBefore c (event_place p (suc n)) other d × (d.process ≡ q)
      found true other q e at =
          let same : id ≡ other = (bytes_eq-Decides id other).0 e in
          let now : new other ≡ suc p = step other ∙ ap (λ b. cond b (suc p) (old other)) e in
          let process : p ≡ q = let both : suc p ≡ suc q = sym now ∙ at in omega arith in
          (event_place p n, (is ∙ ap (λ x. Some (Receive x)) same, here_before_next p n), process)
      found false other q e at =
          let now : new other ≡ old other = step other ∙ ap (λ b. cond b (suc p) (old other)) e in
          let w = has.found other q (sym now ∙ at) in
          (w.0, (w.1.0, before_more w.0 p n w.1.1), w.2)

      latest : (b : Bool) (other : List ℕ) (d : events.Place) → bytes_eq id other ≡ b
          → IsReceivedBefore c (event_place p (suc n)) other d → (q : ℕ) × (new other ≡ suc q) × (d.process ≤ q)
      latest true other d e w =
          let now : new other ≡ suc p = step other ∙ ap (λ b. cond b (suc p) (old other)) e in
          (p, now, within w.1)
        where
          within : IsBefore d (event_place p (suc n)) → d.process ≤ p
          within (inl lt) = omega arith
          within (inr (same, lt)) = omega arith
      latest false other d e w =
          let now : new other ≡ old other = step other ∙ ap (λ b. cond b (suc p) (old other)) e in
          let m = has.latest other d (w.0, before w.0 (before_next d p n w.1)) in
          (m.0, now ∙ m.1, m.2)
        where
          before : kind_at c d ≡ Some (Receive other) → IsBefore d (event_place p n) ⊎ (d ≡ event_place p n)
              → IsBefore d (event_place p n)
          before k (inl b) = b
          before k (inr at) =
              let both : Some (Receive id) ≡ Some (Receive other) =
              sym is ∙ subst (λ f. kind_at c f ≡ Some (Receive other)) at k in
              let kinds : Receive id ≡ Receive other = same_Some _ _ both in
              let same : id ≡ other = cc in
              absurd (false≢true (sym e ∙ (bytes_eq-Decides id other).1 same))

-- what a mark counts
abbrev counts : ℕ → ℕ
counts last = cond {A = ℕ} (not (nat_eq last 0)) 1 0

-- one send more is marked, if its mark was 0
pub sends_marked_more : (marks : List ℕ) (i last receiver : ℕ) → i < length marks → get_or marks i 0 ≡ last
    → sends_marked (set marks i (suc receiver)) ≡ sends_marked marks + cond (nat_eq last 0) 1 0
sends_marked_more marks i last receiver within is =
    let step : sends_marked (set marks i (suc receiver)) + counts (get_or marks i 0)
    ≡ sends_marked marks + counts (suc receiver) =
    sum_by-set counts marks i (suc receiver) 0 within in
    let new : counts (suc receiver) ≡ 1 = ap (λ b. cond {A = ℕ} (not b) 1 0) (eqb-suc-zero receiver) in
    let old : counts (get_or marks i 0) ≡ counts last = ap counts is in
    let rest : counts last + cond {A = ℕ} (nat_eq last 0) 1 0 ≡ 1 = one last in
    omega (arith, step, new, old, rest)
  where
    one : (n : ℕ) → counts n + cond {A = ℕ} (nat_eq n 0) 1 0 ≡ 1
    one zero = refl
    one (suc n) = ap (λ b. cond {A = ℕ} (not b) 1 0 + cond {A = ℕ} b 1 0) (eqb-suc-zero n)

-- at first none is marked
pub no_sends_marked : (n : ℕ) → sends_marked (replicate n 0) ≡ 0
no_sends_marked n = grind (arith, common_steps)
