-- The search depth first, one step at a time.
use Rattle.std.proofs.Common.{◌≡◌, ℕ, ◌+◌, ◌-◌, ◌<◌, ◌≤◌, Bool, false, List, [], ◌∷◌, ◌++◌, length, get_or, sum, take, refl, sym, ap, ◌∙◌, subst, inl, inr, ◌⊎◌, arith, append_assoc, append-nil, Contains}
use Rattle.std.proofs.lemmas.Bool.{cases_lt}
use Rattle.std.proofs.lemmas.List.{get_or_append_left, get_or-append_right, length_push, take-append-le, take_all}
use Rattle.std.proofs.lemmas.List.Edits.{get_or-insert_above, get_or-insert_at, get_or-insert_below, length-insert}
use Rattle.std.specs.List.{insert}
use Rattle.walk_keys.specs.Keys.{AreDigits, digits, key_of}
use Rattle.walk_keys.proofs.Keys.{digits-key}
use Rattle.def_model.specs.Answers.{LeavesAvoiding}
use Rattle.def_model.specs.Cuts.{one_less, one_more}
use Rattle.def_model.specs.Events.{Computation, event_count}
use Rattle.def_model.specs.Observations.{IsAvoiding}
use Rattle.pd_level.specs.Levels.{Levelled}
use Rattle.def_model.proofs.Counts.{in_range, length_less, less_same, more_less, sum_less}
use Rattle.def_model.proofs.Paths.{avoiding_level}
use Rattle.def_model.proofs.WalkSteps.{some_undone}
use Rattle.walk_back.specs.Searches.{AreDead, IsDead, IsSearched, IsStacked, IsWorthTrying, NoneLeaves, undone}
use Rattle.walk_back.specs.Ways.{IsAvoidingLevel, IsReached, LeavesConsistent, LeavesOneOf}
use Rattle.def_model.proofs.AvoidingCuts.{avoiding_fails, avoiding_more}
use Rattle.walk_back.proofs.Reaching.{level_leaves, reached_less}

-- the element after those of a list
at_push : {A : Type 0} (xs : List A) (x d : A) → get_or (xs ++ x ∷ []) (length xs) d ≡ x
at_push xs x d =
    let none : length xs - length xs ≡ 0 = omega arith in
    get_or-append_right xs (x ∷ []) (length xs) (length xs) d refl (omega arith)
    ∙ ap (λ (n : ℕ). get_or (x ∷ []) n d) none

-- a cut stands for the number of its digits
dead_cut : (c : Computation) (cut : List ℕ) → AreDigits cut → length cut ≡ length c
    → digits (length c) (key_of cut) ≡ cut
dead_cut c cut small many = subst (λ (n : ℕ). digits n (key_of cut) ≡ cut) many (digits-key cut small)

-- one dead end more
dead_insert : (c : Computation) (test : List ℕ → Bool) (numbers : List ℕ) (j : ℕ) (cut : List ℕ)
    → AreDead c test numbers → ¬ IsAvoiding c test (sum cut) cut → AreDigits cut → length cut ≡ length c
    → j ≤ length numbers → AreDead c test (insert numbers j (key_of cut))
dead_insert c test numbers j cut dead none small many within i d lt = go (cases_lt i j)
  where
    here : IsDead c test (key_of cut)
    here = subst (λ (x : List ℕ). ¬ IsAvoiding c test (sum x) x) (sym (dead_cut c cut small many)) none

    count : length (insert numbers j (key_of cut)) ≡ length numbers + 1
    count = length-insert numbers j (key_of cut) within

    past : (j < i) ⊎ (i ≤ j) → j ≤ i → IsDead c test (get_or (insert numbers j (key_of cut)) i d)
    past (inl less) high =
        let up : i - 1 + 1 ≡ i = omega arith in
        subst (λ (n : ℕ). IsDead c test (get_or (insert numbers j (key_of cut)) n d)) up
        (subst (IsDead c test) (sym (get_or-insert_above numbers j (key_of cut) d (i - 1) (omega arith) within))
        (dead (i - 1) d (omega (arith, count))))
    past (inr le) high =
        let same : j ≡ i = omega arith in
        subst (λ (n : ℕ). IsDead c test (get_or (insert numbers j (key_of cut)) n d)) same
        (subst (IsDead c test) (sym (get_or-insert_at numbers j (key_of cut) d within)) here)

    go : (i < j) ⊎ (j ≤ i) → IsDead c test (get_or (insert numbers j (key_of cut)) i d)
    go (inl low) =
        subst (IsDead c test) (sym (get_or-insert_below numbers j (key_of cut) d i low within)) (dead i d (omega arith))
    go (inr high) = past (cases_lt j i) high

-- the same, if the cut was added or left out
pub still_dead : (c : Computation) (test : List ℕ → Bool) (numbers new cut : List ℕ) → AreDead c test numbers
    → ¬ IsAvoiding c test (sum cut) cut → length cut ≡ length c
    → (new ≡ numbers) ⊎ ((i : ℕ) × (i ≤ length numbers) × AreDigits cut × (new ≡ insert numbers i (key_of cut)))
    → AreDead c test new
still_dead c test numbers new cut dead none many (inl same) =
    subst (λ (xs : List ℕ). AreDead c test xs) (sym same) dead
still_dead c test numbers new cut dead none many (inr added) =
    subst (λ (xs : List ℕ). AreDead c test xs) (sym added.3)
    (dead_insert c test numbers added.0 cut dead none added.2 many added.1)

pub dead_found : (c : Computation) (test : List ℕ → Bool) (numbers cut : List ℕ) → AreDead c test numbers
    → AreDigits cut → length cut ≡ length c → Contains numbers (key_of cut) → ¬ IsAvoiding c test (sum cut) cut
dead_found c test numbers cut dead small many (i, lt, at) =
    subst (λ (x : List ℕ). ¬ IsAvoiding c test (sum x) x) (dead_cut c cut small many)
    (subst (IsDead c test) at (dead i (key_of cut) lt))

-- one step more at the end
undone_push : (cut steps : List ℕ) (p : ℕ) → undone cut (steps ++ p ∷ []) ≡ one_less (undone cut steps) p
undone_push cut [] p = refl
undone_push cut (q ∷ steps) p = undone_push (one_less cut q) steps p

take_before : (steps : List ℕ) (p : ℕ) → take (length steps) (steps ++ p ∷ []) ≡ steps
take_before steps p =
    take-append-le (length steps) steps (p ∷ []) (omega arith) ∙ take_all (length steps) steps (omega arith)

-- the search begins
pub searched_first : (c : Computation) (test : List ℕ → Bool) (path : List ℕ) (number k : ℕ) (cut : List ℕ)
    → IsReached c test path cut → sum cut ≡ k → number < k → IsSearched c test path number k cut cut 0 []
searched_first c test path number k cut reached s above =
    record {
      at = refl;
      above = omega arith;
      here = record {
        here = (
          (avoiding_level c test (sum cut) cut reached.avoiding).0,
          avoiding_fails c test (sum cut) cut reached.avoiding,
        );
        level = omega arith;
        within = omega arith;
        tried = λ q lt. absurd (omega arith);
        onward = λ a. subst (λ (ps : List ℕ). IsReached c test ps cut) (sym (append-nil path)) reached;
      };
      each = λ i e lt. absurd (omega arith);
      some = λ i e lt. absurd (omega arith);
    }

-- where the cut below avoids, so does this one, and the way leads to the one below
pub searched_on : (c : Computation) (test : List ℕ → Bool) (path : List ℕ) (number k : ℕ) (top cut : List ℕ) (p : ℕ)
    (steps : List ℕ) (next : ℕ) → IsSearched c test path number k top cut next steps
    → NoneLeaves c test cut p → LeavesAvoiding c test cut p
    → IsReached c test (path ++ (steps ++ p ∷ [])) (one_less cut p)
searched_on c test path number k top cut p steps next searched tried leaves =
    let here : IsStacked c test path steps k (length steps) cut next = searched.here in
    let avoids : IsAvoiding c test (sum cut) cut = avoiding_more c test cut p here.here.0 here.here.1 leaves in
    let whole : take (length steps) steps ≡ steps = take_all (length steps) steps (omega arith) in
    let reached : IsReached c test (path ++ steps) cut =
    subst (λ (ps : List ℕ). IsReached c test (path ++ ps) cut) whole (here.onward avoids) in
    subst (λ (ps : List ℕ). IsReached c test ps (one_less cut p)) (append_assoc path steps (p ∷ []))
    (reached_less c test (path ++ steps) cut p reached leaves tried)

pub searched_found : (c : Computation) (test : List ℕ → Bool) (path : List ℕ) (number k : ℕ) (top cut : List ℕ)
    (p : ℕ) (steps : List ℕ) (next : ℕ) → IsSearched c test path number k top cut next steps
    → NoneLeaves c test cut p → IsWorthTrying c test number cut p → sum cut ≡ number + 1
    → IsReached c test (path ++ (steps ++ p ∷ [])) (one_less cut p)
searched_found c test path number k top cut p steps next searched tried worth s =
    searched_on c test path number k top cut p steps next searched tried (worth.lowest s)

-- one step down
pub searched_push : (c : Computation) (test : List ℕ → Bool) (path : List ℕ) (number k : ℕ) (top cut : List ℕ) (p : ℕ)
    (steps : List ℕ) (next : ℕ) → IsSearched c test path number k top cut next steps
    → p < length cut → NoneLeaves c test cut p → IsWorthTrying c test number cut p → number + (length steps + 1) < k
    → IsSearched c test path number k top (one_less cut p) 0 (steps ++ p ∷ [])
searched_push c test path number k top cut p steps next searched inside tried worth above =
    record {
      at = undone_push top steps p ∙ ap (λ (x : List ℕ). one_less x p) searched.at;
      above = omega (arith, stepped);
      here = record {
        here = (worth.leaves.1, worth.fails);
        level =
            let s : sum (one_less cut p) + 1 ≡ sum cut = sum_less cut p worth.leaves.0 in
            omega (arith, stepped, searched.here.level);
        within = omega arith;
        tried = λ q lt. absurd (omega arith);
        onward = λ a.
            subst (λ (ps : List ℕ). IsReached c test (path ++ ps) (one_less cut p))
            (sym (take_all (length (steps ++ p ∷ [])) (steps ++ p ∷ []) (omega arith)))
            (searched_on c test path number k top cut p steps next searched tried (worth.leaves.0, a));
      };
      each = λ i e lt. go i e lt (cases_lt i (length steps));
      some = λ i e lt. counted i e lt (cases_lt i (length steps));
    }
  where
    stepped : length (steps ++ p ∷ []) ≡ length steps + 1
    stepped = length_push steps p

    -- one step more leaves what is known of the cuts above it
    kept : (i : ℕ) (x : List ℕ) (q : ℕ) → i ≤ length steps → IsStacked c test path steps k i x q
        → IsStacked c test path (steps ++ p ∷ []) k i x q
    kept i x q le old =
        record {
          here = old.here;
          level = old.level;
          within = old.within;
          tried = old.tried;
          onward = λ a.
              subst (λ (ps : List ℕ). IsReached c test (path ++ ps) x)
              (sym (take-append-le i steps (p ∷ []) le)) (old.onward a);
        }

    last : IsStacked c test path steps k (length steps) cut p
    last =
        record {
          here = searched.here.here;
          level = searched.here.level;
          within = omega arith;
          tried = tried;
          onward = searched.here.onward;
        }

    -- the cut at which the last step is tried, and its process
    here_cut : (i : ℕ) → length steps ≡ i → undone top (take i (steps ++ p ∷ [])) ≡ cut
    here_cut i same =
        ap (λ (n : ℕ). undone top (take n (steps ++ p ∷ []))) (sym same)
        ∙ (ap (undone top) (take_before steps p) ∙ searched.at)

    here_step : (i e : ℕ) → length steps ≡ i → get_or (steps ++ p ∷ []) i e ≡ p
    here_step i e same = ap (λ (n : ℕ). get_or (steps ++ p ∷ []) n e) (sym same) ∙ at_push steps p e

    go : (i e : ℕ) → i < length (steps ++ p ∷ []) → (i < length steps) ⊎ (length steps ≤ i)
        → IsStacked c test path (steps ++ p ∷ []) k i (undone top (take i (steps ++ p ∷ [])))
        (get_or (steps ++ p ∷ []) i e)
    go i e lt (inl low) =
        subst (λ (xs : List ℕ). IsStacked c test path (steps ++ p ∷ []) k i (undone top xs)
        (get_or (steps ++ p ∷ []) i e)) (sym (take-append-le i steps (p ∷ []) (omega arith)))
        (subst (λ (q : ℕ). IsStacked c test path (steps ++ p ∷ []) k i (undone top (take i steps)) q)
        (sym (get_or_append_left steps (p ∷ []) e i low))
        (kept i (undone top (take i steps)) (get_or steps i e) (omega arith) (searched.each i e low)))
    go i e lt (inr high) =
        let same : length steps ≡ i = omega (arith, stepped) in
        subst (λ (x : List ℕ). IsStacked c test path (steps ++ p ∷ []) k i x (get_or (steps ++ p ∷ []) i e))
        (sym (here_cut i same))
        (subst (λ (q : ℕ). IsStacked c test path (steps ++ p ∷ []) k i cut q) (sym (here_step i e same))
        (kept i cut p (omega arith)
        (subst (λ (n : ℕ). IsStacked c test path steps k n cut p) same last)))

    counted : (i e : ℕ) → i < length (steps ++ p ∷ []) → (i < length steps) ⊎ (length steps ≤ i)
        → 0 < get_or (undone top (take i (steps ++ p ∷ []))) (get_or (steps ++ p ∷ []) i e) 0
    counted i e lt (inl low) =
        subst (λ (xs : List ℕ). 0 < get_or (undone top xs) (get_or (steps ++ p ∷ []) i e) 0)
        (sym (take-append-le i steps (p ∷ []) (omega arith)))
        (subst (λ (q : ℕ). 0 < get_or (undone top (take i steps)) q 0)
        (sym (get_or_append_left steps (p ∷ []) e i low)) (searched.some i e low))
    counted i e lt (inr high) =
        let same : length steps ≡ i = omega (arith, stepped) in
        subst (λ (x : List ℕ). 0 < get_or x (get_or (steps ++ p ∷ []) i e) 0) (sym (here_cut i same))
        (subst (λ (q : ℕ). 0 < get_or cut q 0) (sym (here_step i e same)) worth.leaves.0)

-- what is known where a step is taken back: the cut above is the one with the event once more
module _ (c : Computation) (test : List ℕ → Bool) (path : List ℕ) (number k : ℕ) (top cut : List ℕ) (next : ℕ)
    (steps : List ℕ) (p : ℕ) (searched : IsSearched c test path number k top cut next (steps ++ p ∷ [])) where
  stepped : length (steps ++ p ∷ []) ≡ length steps + 1
  stepped = length_push steps p

  last_step : get_or (steps ++ p ∷ []) (length steps) p ≡ p
  last_step = at_push steps p p

  has : 0 < get_or (undone top steps) p 0
  has =
      subst (λ (xs : List ℕ). 0 < get_or (undone top xs) p 0) (take_before steps p)
      (subst (λ (q : ℕ). 0 < get_or (undone top (take (length steps) (steps ++ p ∷ []))) q 0) last_step
      (searched.some (length steps) p (omega (arith, stepped))))

  less : cut ≡ one_less (undone top steps) p
  less = sym searched.at ∙ undone_push top steps p

  back : one_more cut p ≡ undone top steps
  back = ap (λ (x : List ℕ). one_more x p) less ∙ more_less (undone top steps) p has

  kept : (i : ℕ) (x : List ℕ) (q : ℕ) → i ≤ length steps → IsStacked c test path (steps ++ p ∷ []) k i x q
      → IsStacked c test path steps k i x q
  kept i x q le old =
      record {
        here = old.here;
        level = old.level;
        within = old.within;
        tried = old.tried;
        onward = λ a.
            subst (λ (ps : List ℕ). IsReached c test (path ++ ps) x)
            (take-append-le i steps (p ∷ []) le) (old.onward a);
      }

  last : IsStacked c test path steps k (length steps) (undone top steps) p
  last =
      kept (length steps) (undone top steps) p (omega arith)
      (subst (λ (xs : List ℕ). IsStacked c test path (steps ++ p ∷ []) k (length steps) (undone top xs) p)
      (take_before steps p)
      (subst (λ (q : ℕ). IsStacked c test path (steps ++ p ∷ []) k (length steps)
      (undone top (take (length steps) (steps ++ p ∷ []))) q) last_step
      (searched.each (length steps) p (omega (arith, stepped)))))

  pub searched_room : (p < length cut) × (get_or cut p 0 < event_count c p)
  searched_room =
      let there : p < length (undone top steps) = in_range (undone top steps) p has in
      let count : length cut ≡ length (undone top steps) =
      ap length less ∙ length_less (undone top steps) p in
      let fewer : get_or cut p 0 + 1 ≡ get_or (undone top steps) p 0 =
      ap (λ (x : List ℕ). get_or x p 0 + 1) less ∙ less_same (undone top steps) p has in
      let within : get_or (undone top steps) p 0 ≤ event_count c p = last.here.0.fits.within p in
      (omega arith, omega arith)

  -- one step back up
  pub searched_pop : IsSearched c test path number k top (one_more cut p) p steps
  searched_pop =
      record {
        at = sym back;
        above = omega (arith, stepped, searched.above);
        here = subst (λ (x : List ℕ). IsStacked c test path steps k (length steps) x p) (sym back) last;
        each = λ i e lt.
            subst (λ (xs : List ℕ). IsStacked c test path steps k i (undone top xs) (get_or steps i e))
            (take-append-le i steps (p ∷ []) (omega arith))
            (subst (λ (q : ℕ). IsStacked c test path steps k i (undone top (take i (steps ++ p ∷ []))) q)
            (get_or_append_left steps (p ∷ []) e i lt)
            (kept i (undone top (take i (steps ++ p ∷ []))) (get_or (steps ++ p ∷ []) i e) (omega arith)
            (searched.each i e (omega (arith, stepped)))));
        some = λ i e lt.
            subst (λ (xs : List ℕ). 0 < get_or (undone top xs) (get_or steps i e) 0)
            (take-append-le i steps (p ∷ []) (omega arith))
            (subst (λ (q : ℕ). 0 < get_or (undone top (take i (steps ++ p ∷ []))) q 0)
            (get_or_append_left steps (p ∷ []) e i lt) (searched.some i e (omega (arith, stepped))));
      }

-- a cut of which each process is tried doesn't avoid
pub searched_dead : (c : Computation) (test : List ℕ → Bool) (path : List ℕ) (number k : ℕ) (top cut : List ℕ)
    (next : ℕ) (steps : List ℕ) → IsSearched c test path number k top cut next steps
    → NoneLeaves c test cut (length cut) → ¬ IsAvoiding c test (sum cut) cut
searched_dead c test path number k top cut next steps searched tried a =
    let up : sum cut ≡ sum cut - 1 + 1 = omega (arith, searched.above, searched.here.level) in
    let some : (p : ℕ) × (p < length cut) × LeavesAvoiding c test cut p =
    some_undone c test (sum cut - 1) cut (subst (λ (n : ℕ). IsAvoiding c test n cut) up a) in
    tried some.0 some.1 some.2

-- an avoiding cut is consistent and doesn't satisfy
pub leaves_parts : (c : Computation) (test : List ℕ → Bool) (cut : List ℕ) (p : ℕ) → LeavesAvoiding c test cut p
    → LeavesConsistent c cut p × (test (one_less cut p) ≡ false)
leaves_parts c test cut p (has, a) = (
  (has, (avoiding_level c test (sum (one_less cut p)) (one_less cut p) a).0),
  avoiding_fails c test (sum (one_less cut p)) (one_less cut p) a,
)

-- the kept level says which of its cuts avoid
pub worth_kept : (c : Computation) (test : List ℕ → Bool) (level : Levelled) (cut low : List ℕ) (p : ℕ)
    → IsAvoidingLevel c test level → sum cut ≡ level.number + 1 → low ≡ one_less cut p → LeavesConsistent c cut p
    → Contains level.cuts low → IsWorthTrying c test level.number cut p
worth_kept c test level cut low p list s less leaves has =
    let one : LeavesOneOf level.cuts cut p =
    (leaves.0, subst (λ (x : List ℕ). Contains level.cuts x) less has) in
    let avoiding : LeavesAvoiding c test cut p = (level_leaves c test level cut list s p).1 one in
    record { leaves = leaves; fails = (leaves_parts c test cut p avoiding).1; lowest = λ same. avoiding }

pub not_kept : (c : Computation) (test : List ℕ → Bool) (level : Levelled) (cut low : List ℕ) (p : ℕ)
    → IsAvoidingLevel c test level → sum cut ≡ level.number + 1 → low ≡ one_less cut p
    → LeavesAvoiding c test cut p → Contains level.cuts low
not_kept c test level cut low p list s less avoiding =
    subst (λ (x : List ℕ). Contains level.cuts x) (sym less) ((level_leaves c test level cut list s p).0 avoiding).1
