-- Possibly's answer is sound, whichever way it was found. It isn't unknown if no level is over the document's width, or
-- if the predicate is answered whatever the width; and its cut is the first that satisfies, by level or by height, or
-- the first tried one. Definitely's answer is sound, too, and isn't unknown if no level is over the width, or if the
-- predicate is answered beyond it. Each is one.
use Rattle.std.proofs.Common.{◌≡◌, ℕ, ◌<◌, ◌≤◌, inl, inr, ◌⊎◌, Bool, true, false, List, refl, sym, ap, subst, sum, ◌∙◌, arith}
use Rattle.std.proofs.lemmas.Bool.{cases_lt, false≢true}
use Rattle.std.proofs.lemmas.List.Elements.{All-contains}
use Rattle.def_model.specs.Answers.{PossiblyAnswer, PossiblyYes, PossiblyNo, PossiblyUnknown, DefinitelyAnswer, DefinitelyYes, DefinitelyNo, DefinitelyUnknown, IsFirstSatisfying, IsLeastFree, LexBelow, IsPossiblyUnknown, IsPossiblyAnswer, IsDefinitelyUnknown, IsDefinitelyAnswer, IsExactPossibly, IsExactDefinitely, IsPrintedPath, IsAvoidingObservation, cuts_along}
use Rattle.def_model.specs.Cuts.{IsConsistent, IsOfLevel, empty_cut, full_cut, total}
use Rattle.def_model.specs.Events.{Computation}
use Rattle.def_model.specs.Observations.{Possibly, Definitely, HasNoAvoiding, HasSatisfying, IsAvoiding}
use Rattle.def_model.specs.Order.{HasNoCycle}
use Rattle.def_model.specs.Predicates.{Predicate, Recorded, test_of}
use Rattle.def_model.proofs.Decisions.{dec_list}
use Rattle.def_model.proofs.Steps.{full_from_sum}
use Rattle.def_model.proofs.OneAnswer.{lex_asymmetric, one_possibly_answer, one_definitely_answer}
use Rattle.def_model.proofs.Paths.{avoiding_level, definite_is_free, free_level_decides, path_avoids, path_is_found}
use Rattle.def_model.proofs.Walks.{dec_avoiding}
use Rattle.def_wide.specs.DeadEnds.{HasFewDeadEnds, IsFoundBack}
use Rattle.def_wide.specs.Gates.{IsLateLevel, of_end, of_gate}
use Rattle.def_wide.proofs.GateLaws.{few_found, late_level_decides, one_late_level}
use Rattle.def_wide.specs.Heights.{IsLowerThan, IsFirstByHeight}
use Rattle.def_wide.specs.Tried.{IsFirstTried}
use Rattle.def_format.specs.Documents.{Document}
use Rattle.def_judgement.specs.Headline.{IsNarrow, each_decided}
use Rattle.def_judgement.specs.Judgements.{AnswersPossibly, possibly_beyond, possibly_by_height, possibly_tried, possibly_within, AnswersDefinitely, NothingBeyond, definitely_back, definitely_beyond, definitely_late, definitely_within}
use Rattle.def_judgement.proofs.Narrow.{avoided_narrowly, level_is_narrow, narrow_width, exact_possibly_at, exact_definitely_at}

-- ---- what an answer says

-- the answer isn't unknown
abbrev pub IsKnown : PossiblyAnswer → Type 0
IsKnown p = (level : ℕ) → ¬ (p ≡ PossiblyUnknown level)

module _ (c : Computation) (test : List ℕ → Bool) where
  -- The cut is consistent and satisfies; no consistent cut satisfies; or the level is the one of an unknown answer.
  abbrev pub IsSoundPossibly : ℕ → PossiblyAnswer → Type 0
  IsSoundPossibly w (PossiblyYes cut) = IsConsistent c cut × (test cut ≡ true)
  IsSoundPossibly w PossiblyNo = ¬ Possibly c test
  IsSoundPossibly w (PossiblyUnknown k) = IsPossiblyUnknown c test w k

  -- the cut is the first that satisfies, by level or by height, or the first tried one
  abbrev pub IsChosen : List ℕ → Type 0
  IsChosen cut = IsFirstSatisfying c test cut ⊎ (IsFirstByHeight c test cut ⊎ IsFirstTried c test cut)

  -- the answer's cut is
  abbrev pub IsFirstOf : PossiblyAnswer → Type 0
  IsFirstOf p = (cut : List ℕ) → p ≡ PossiblyYes cut → IsChosen cut

  exact_is_sound : (w : ℕ) (p : PossiblyAnswer) → IsExactPossibly c test p → IsSoundPossibly w p
  exact_is_sound w (PossiblyYes cut) exact = (exact.consistent, exact.satisfies)
  exact_is_sound w PossiblyNo exact = exact
  exact_is_sound w (PossiblyUnknown k) exact = absurd exact

  answer_is_sound : (w : ℕ) (p : PossiblyAnswer) → IsPossiblyAnswer c test w p → IsSoundPossibly w p
  answer_is_sound w (PossiblyYes cut) right = (right.1.consistent, right.1.satisfies)
  answer_is_sound w PossiblyNo right = right.1
  answer_is_sound w (PossiblyUnknown k) right = right

  exact_is_known : (p : PossiblyAnswer) → IsExactPossibly c test p → IsKnown p
  exact_is_known p exact level e = subst (IsExactPossibly c test) e exact

  exact_is_first : (p : PossiblyAnswer) → IsExactPossibly c test p → IsFirstOf p
  exact_is_first p exact cut e = inl (subst (IsExactPossibly c test) e exact)

  answer_is_first : (w : ℕ) (p : PossiblyAnswer) → IsPossiblyAnswer c test w p → IsFirstOf p
  answer_is_first w p right cut e =
      let yes : IsPossiblyAnswer c test w (PossiblyYes cut) = subst (IsPossiblyAnswer c test w) e right in inl yes.1

  lowest_is_first : (p : PossiblyAnswer) (cut : List ℕ) → p ≡ PossiblyYes cut → IsFirstByHeight c test cut
      → IsFirstOf p
  lowest_is_first p cut is lowest other e =
      let same : cut ≡ other = cc in inr (inl (subst (IsFirstByHeight c test) same lowest))

  tried_is_first : (p : PossiblyAnswer) (cut : List ℕ) → p ≡ PossiblyYes cut → IsFirstTried c test cut → IsFirstOf p
  tried_is_first p cut is tried other e =
      let same : cut ≡ other = cc in inr (inr (subst (IsFirstTried c test) same tried))

  known_if_narrow : (w : ℕ) (p : PossiblyAnswer) → IsNarrow c w → IsPossiblyAnswer c test w p → IsKnown p
  known_if_narrow w p narrow right level e =
      let unknown : IsPossiblyUnknown c test w level = subst (IsPossiblyAnswer c test w) e right in
      level_is_narrow c test w narrow level unknown.wide

  -- the first satisfying cut by height is one
  pub one_first_by_height : (a b : List ℕ) → IsFirstByHeight c test a → IsFirstByHeight c test b → a ≡ b
  one_first_by_height a b fa fb = go (dec_list a b)
    where
      clash : IsLowerThan a b → IsLowerThan b a → ⊥
      clash (inl h) (inl k) = omega arith
      clash (inl h) (inr (e, k)) = omega arith
      clash (inr (e, h)) (inl k) = omega arith
      clash (inr (e, h)) (inr (f, k)) = lex_asymmetric a b h k

      go : Dec (a ≡ b) → a ≡ b
      go (yes e) = e
      go (no n) =
          absurd (clash (fa.first b fb.consistent fb.satisfies (λ e. n (sym e)))
          (fb.first a fa.consistent fa.satisfies n))

  -- so is the first tried one
  pub one_first_tried : (a b : List ℕ) → IsFirstTried c test a → IsFirstTried c test b → a ≡ b
  one_first_tried a b fa fb = go (dec_list a b)
    where
      clash : (sum a < sum b) ⊎ ((sum a ≡ sum b) × LexBelow a b)
          → (sum b < sum a) ⊎ ((sum b ≡ sum a) × LexBelow b a) → ⊥
      clash (inl h) (inl k) = omega arith
      clash (inl h) (inr (e, k)) = omega arith
      clash (inr (e, h)) (inl k) = omega arith
      clash (inr (e, h)) (inr (f, k)) = lex_asymmetric a b h k

      go : Dec (a ≡ b) → a ≡ b
      go (yes e) = e
      go (no n) =
          absurd (clash (fa.first b fb.tried fb.consistent fb.satisfies (λ e. n (sym e)))
          (fb.first a fa.tried fa.consistent fa.satisfies n))

-- the answer isn't unknown
abbrev pub IsFound : DefinitelyAnswer → Type 0
IsFound d = (level : ℕ) → ¬ (d ≡ DefinitelyUnknown level)

module _ (c : Computation) (test : List ℕ → Bool) where
  -- Every observation passes through a satisfying cut, and no cut of the level, which is one of the levels, avoids; an
  -- observation avoids, and the path is the one that is printed; or the level is the one of an unknown answer.
  abbrev pub IsSoundDefinitely : ℕ → DefinitelyAnswer → Type 0
  IsSoundDefinitely w (DefinitelyYes level) = Definitely c test × HasNoAvoiding c test level × (level ≤ total c)
  IsSoundDefinitely w (DefinitelyNo path) = (¬ Definitely c test) × IsPrintedPath c test path
  IsSoundDefinitely w (DefinitelyUnknown k) = IsDefinitelyUnknown c test w k

  -- where every observation passes, the least level with no avoiding cut is one of the levels
  free_is_level : (level : ℕ) → Definitely c test → IsLeastFree c test level → level ≤ total c
  free_is_level level every free = go (cases_lt (total c) level)
    where
      go : (total c < level) ⊎ (level ≤ total c) → level ≤ total c
      go (inr le) = le
      go (inl lt) =
          let avoids : (cut : List ℕ) × IsAvoiding c test (total c) cut = free.below (total c) lt in
          absurd (definite_is_free c test every avoids.0 avoids.1)

  exact_holds : (w : ℕ) (d : DefinitelyAnswer) → IsExactDefinitely c test d → IsSoundDefinitely w d
  exact_holds w (DefinitelyYes level) exact =
      (exact.0, exact.1.none, free_is_level level exact.0 exact.1)
  exact_holds w (DefinitelyNo path) exact = exact
  exact_holds w (DefinitelyUnknown k) exact = absurd exact

  answer_holds : (w : ℕ) (d : DefinitelyAnswer) → IsDefinitelyAnswer c test w d → IsSoundDefinitely w d
  answer_holds w (DefinitelyYes level) right =
      (right.1, right.2.none, free_is_level level right.1 right.2)
  answer_holds w (DefinitelyNo path) right = (right.1, right.2)
  answer_holds w (DefinitelyUnknown k) right = right

  exact_is_found : (d : DefinitelyAnswer) → IsExactDefinitely c test d → IsFound d
  exact_is_found d exact level e = subst (IsExactDefinitely c test) e exact

  found_if_narrow : (w : ℕ) (d : DefinitelyAnswer) → IsNarrow c w → IsDefinitelyAnswer c test w d → IsFound d
  found_if_narrow w d narrow right level e =
      let unknown : IsDefinitelyUnknown c test w level = subst (IsDefinitelyAnswer c test w) e right in
      avoided_narrowly c test w narrow level unknown.wide

  -- a path that is printed is that of an observation that avoids
  pub printed_avoids : (path : List ℕ) → IsPrintedPath c test path → ¬ Definitely c test
  printed_avoids path printed every =
      let avoids : IsAvoidingObservation c test path = path_avoids c test path printed in
      let some : HasSatisfying test (cuts_along (empty_cut c) path) =
      every (cuts_along (empty_cut c) path) avoids.0 in
      let fails : test some.0 ≡ false =
      All-contains (λ cut. test cut ≡ false) (cuts_along (empty_cut c) path) some.0 avoids.1 some.1 in
      false≢true (sym fails ∙ some.2)

module _ (document : Document) (r : Recorded) (predicate : Predicate) where
  -- Possibly's answer
  pub record PossiblyAt (p : PossiblyAnswer) : Type 0 where
    pub sound : IsSoundPossibly r.events (test_of r predicate) document.width p
    -- it isn't unknown if no level is over the document's width, or if the predicate is answered whatever the width
    pub known : IsNarrow r.events document.width → IsKnown p
    pub known_if_decided : document.beyond_width ≡ true → (each_decided document.width).possibly r predicate → IsKnown p
    -- its cut is the first that satisfies, by level or by height
    pub first : IsFirstOf r.events (test_of r predicate) p

  pub possibly_at : (p : PossiblyAnswer) → AnswersPossibly document r predicate p → PossiblyAt p
  possibly_at p (possibly_beyond asked decided exact) = record {
    sound = exact_is_sound r.events (test_of r predicate) document.width p exact;
    known = λ _. exact_is_known r.events (test_of r predicate) p exact;
    known_if_decided = λ _ _. exact_is_known r.events (test_of r predicate) p exact;
    first = exact_is_first r.events (test_of r predicate) p exact;
  }
  possibly_at p (possibly_by_height asked undecided by_sums level unknown cut is lowest) = record {
    sound = subst (IsSoundPossibly r.events (test_of r predicate) document.width) (sym is)
        (lowest.consistent, lowest.satisfies);
    known = λ narrow. absurd (not_narrow narrow);
    known_if_decided = λ _ _ k e. cc;
    first = lowest_is_first r.events (test_of r predicate) p cut is lowest;
  }
    where
      not_narrow : ¬ IsNarrow r.events document.width
      not_narrow narrow =
          level_is_narrow r.events (test_of r predicate) document.width narrow level unknown.wide
  possibly_at p (possibly_tried asked undecided not_by_sums level unknown cut is tried) = record {
    sound = subst (IsSoundPossibly r.events (test_of r predicate) document.width) (sym is)
        (tried.consistent, tried.satisfies);
    known = λ narrow. absurd (not_narrow narrow);
    known_if_decided = λ _ _ k e. cc;
    first = tried_is_first r.events (test_of r predicate) p cut is tried;
  }
    where
      not_narrow : ¬ IsNarrow r.events document.width
      not_narrow narrow =
          level_is_narrow r.events (test_of r predicate) document.width narrow level unknown.wide
  possibly_at p (possibly_within undecided nothing right) = record {
    sound = answer_is_sound r.events (test_of r predicate) document.width p right;
    known = λ narrow. known_if_narrow r.events (test_of r predicate) document.width p narrow right;
    known_if_decided = λ asked. go asked;
    first = answer_is_first r.events (test_of r predicate) document.width p right;
  }
    where
      go : document.beyond_width ≡ true → (each_decided document.width).possibly r predicate → IsKnown p
      go asked (inl decided) = absurd (undecided asked decided)
      go asked (inr by_sums) = λ level e. (nothing asked).not_by_sums level e by_sums

  -- Definitely's
  pub record DefinitelyAt (d : DefinitelyAnswer) : Type 0 where
    pub sound : IsSoundDefinitely r.events (test_of r predicate) document.width d
    -- it isn't unknown if no level is over the document's width, or if the predicate is answered beyond it
    pub known : IsNarrow r.events document.width → IsFound d
    pub known_if_decided : document.beyond_width ≡ true → (each_decided document.width).definitely r predicate
        → IsFound d

  -- with few dead ends some answer is found beyond the width
  found_beyond : (d : DefinitelyAnswer) → HasFewDeadEnds r predicate document.width
      → NothingBeyond r predicate document.width d → IsFound d
  found_beyond d few nothing level e =
      go (dec_avoiding r.events (test_of r predicate) (total r.events) (full_cut r.events))
    where
      go : Dec (IsAvoiding r.events (test_of r predicate) (total r.events) (full_cut r.events)) → ⊥
      go (yes avoids) =
          let found = path_is_found r.events (test_of r predicate) (full_cut r.events) avoids in
          nothing.no_path found.0 (few_found r predicate document.width found.0 few found.1)
      go (no free) =
          nothing.no_level level e (total r.events)
          (of_end (λ other gate. nothing.no_level level e other (of_gate gate)) (record { passed = passed; few = few })
          refl)
        where
          none : HasNoAvoiding r.events (test_of r predicate) (total r.events)
          none cut avoids =
              let level : IsOfLevel r.events (total r.events) cut =
              avoiding_level r.events (test_of r predicate) (total r.events) cut avoids in
              free (subst (IsAvoiding r.events (test_of r predicate) (total r.events))
              (full_from_sum r.events cut level.0 level.1) avoids)

          passed : Definitely r.events (test_of r predicate)
          passed = free_level_decides r.events (test_of r predicate) (total r.events) (omega arith) none

  pub definitely_at : (d : DefinitelyAnswer) → HasNoCycle r.events → AnswersDefinitely document r predicate d
      → DefinitelyAt d
  definitely_at d acyclic (definitely_beyond asked decided exact) = record {
    sound = exact_holds r.events (test_of r predicate) document.width d exact;
    known = λ _. exact_is_found r.events (test_of r predicate) d exact;
    known_if_decided = λ _ _. exact_is_found r.events (test_of r predicate) d exact;
  }
  definitely_at d acyclic (definitely_back asked undecided path found is) = record {
    sound = subst (IsSoundDefinitely r.events (test_of r predicate) document.width) (sym is)
        (printed_avoids r.events (test_of r predicate) path found.printed, found.printed);
    known = λ _ k e. cc;
    known_if_decided = λ _ _ k e. cc;
  }
  definitely_at d acyclic (definitely_late asked undecided no_path unknown wide level late is) = record {
    sound = subst (IsSoundDefinitely r.events (test_of r predicate) document.width) (sym is) decides;
    known = λ _ k e. cc;
    known_if_decided = λ _ _ k e. cc;
  }
    where
      decides : IsSoundDefinitely r.events (test_of r predicate) document.width (DefinitelyYes level)
      decides = late_level_decides r predicate document.width level acyclic late
  definitely_at d acyclic (definitely_within undecided nothing right) = record {
    sound = answer_holds r.events (test_of r predicate) document.width d right;
    known = λ narrow. found_if_narrow r.events (test_of r predicate) document.width d narrow right;
    known_if_decided = go;
  }
    where
      go : document.beyond_width ≡ true → (each_decided document.width).definitely r predicate → IsFound d
      go asked (inl decided) = absurd (undecided asked decided)
      go asked (inr few) = found_beyond d few (nothing asked)

  -- ---- one answer

  -- where an answer is printed that is found beyond the width, that under the width doesn't stand
  not_beyond : (b : PossiblyAnswer) (level : ℕ)
      → IsPossiblyUnknown r.events (test_of r predicate) document.width level → ¬ (b ≡ PossiblyUnknown level)
      → ¬ IsPossiblyAnswer r.events (test_of r predicate) document.width b
  not_beyond b level unknown known right =
      known (one_possibly_answer r.events (test_of r predicate) document.width b (PossiblyUnknown level) right unknown)

  pub one_possibly : (a b : PossiblyAnswer) → AnswersPossibly document r predicate a
      → AnswersPossibly document r predicate b → a ≡ b
  one_possibly a b (possibly_beyond asked decided exact) (possibly_beyond asked' decided' exact') =
      let n : (w : ℕ) × IsNarrow r.events w = narrow_width r.events in
      one_possibly_answer r.events (test_of r predicate) n.0 a b
      (exact_possibly_at r.events (test_of r predicate) n.0 a n.1 exact)
      (exact_possibly_at r.events (test_of r predicate) n.0 b n.1 exact')
  one_possibly a b (possibly_beyond asked decided exact)
      (possibly_by_height asked' undecided by_sums level unknown cut is lowest) =
      absurd (undecided decided)
  one_possibly a b (possibly_beyond asked decided exact)
      (possibly_tried asked' undecided not_by_sums level unknown cut is tried) =
      absurd (undecided decided)
  one_possibly a b (possibly_beyond asked decided exact) (possibly_within undecided nothing right) =
      absurd (undecided asked decided)
  one_possibly a b (possibly_by_height asked undecided by_sums level unknown cut is lowest)
      (possibly_beyond asked' decided exact) =
      absurd (undecided decided)
  one_possibly a b (possibly_by_height asked undecided by_sums level unknown cut is lowest)
      (possibly_by_height asked' undecided' by_sums' level' unknown' cut' is' lowest') =
      is ∙ (ap PossiblyYes (one_first_by_height r.events (test_of r predicate) cut cut' lowest lowest') ∙ sym is')
  one_possibly a b (possibly_by_height asked undecided by_sums level unknown cut is lowest)
      (possibly_tried asked' undecided' not_by_sums level' unknown' cut' is' tried) =
      absurd (not_by_sums by_sums)
  one_possibly a b (possibly_by_height asked undecided by_sums level unknown cut is lowest)
      (possibly_within undecided' nothing right) =
      absurd (not_beyond b level unknown (λ e. (nothing asked).not_by_sums level e by_sums) right)
  one_possibly a b (possibly_tried asked undecided not_by_sums level unknown cut is tried)
      (possibly_beyond asked' decided exact) =
      absurd (undecided decided)
  one_possibly a b (possibly_tried asked undecided not_by_sums level unknown cut is tried)
      (possibly_by_height asked' undecided' by_sums level' unknown' cut' is' lowest) =
      absurd (not_by_sums by_sums)
  one_possibly a b (possibly_tried asked undecided not_by_sums level unknown cut is tried)
      (possibly_tried asked' undecided' not_by_sums' level' unknown' cut' is' tried') =
      is ∙ (ap PossiblyYes (one_first_tried r.events (test_of r predicate) cut cut' tried tried') ∙ sym is')
  one_possibly a b (possibly_tried asked undecided not_by_sums level unknown cut is tried)
      (possibly_within undecided' nothing right) =
      absurd (not_beyond b level unknown (λ e. (nothing asked).none level e cut tried) right)
  one_possibly a b (possibly_within undecided nothing right) (possibly_beyond asked decided exact) =
      absurd (undecided asked decided)
  one_possibly a b (possibly_within undecided nothing right)
      (possibly_by_height asked undecided' by_sums level unknown cut is lowest) =
      absurd (not_beyond a level unknown (λ e. (nothing asked).not_by_sums level e by_sums) right)
  one_possibly a b (possibly_within undecided nothing right)
      (possibly_tried asked undecided' not_by_sums level unknown cut is tried) =
      absurd (not_beyond a level unknown (λ e. (nothing asked).none level e cut tried) right)
  one_possibly a b (possibly_within undecided nothing right) (possibly_within undecided' nothing' right') =
      one_possibly_answer r.events (test_of r predicate) document.width a b right right'

  -- a path that is found is an exact answer
  found_is_exact : (path : List ℕ) → IsFoundBack r predicate document.width path
      → IsExactDefinitely r.events (test_of r predicate) (DefinitelyNo path)
  found_is_exact path found = (printed_avoids r.events (test_of r predicate) path found.printed, found.printed)

  one_exact : (a b : DefinitelyAnswer) → IsExactDefinitely r.events (test_of r predicate) a
      → IsExactDefinitely r.events (test_of r predicate) b → a ≡ b
  one_exact a b exact exact' =
      let n : (w : ℕ) × IsNarrow r.events w = narrow_width r.events in
      one_definitely_answer r.events (test_of r predicate) n.0 a b
      (exact_definitely_at r.events (test_of r predicate) n.0 a n.1 exact)
      (exact_definitely_at r.events (test_of r predicate) n.0 b n.1 exact')

  -- where there is a late level, an answer under the width doesn't stand
  not_late : (b : DefinitelyAnswer) (unknown level : ℕ)
      → IsDefinitelyUnknown r.events (test_of r predicate) document.width unknown
      → IsLateLevel r predicate document.width level → NothingBeyond r predicate document.width b
      → ¬ IsDefinitelyAnswer r.events (test_of r predicate) document.width b
  not_late b unknown level wide late nothing right =
      nothing.no_level unknown (one_definitely_answer r.events (test_of r predicate) document.width b
      (DefinitelyUnknown unknown) right wide) level late

  pub one_definitely : (a b : DefinitelyAnswer) → AnswersDefinitely document r predicate a
      → AnswersDefinitely document r predicate b → a ≡ b
  one_definitely a b (definitely_beyond asked decided exact) (definitely_beyond asked' decided' exact') =
      one_exact a b exact exact'
  one_definitely a b (definitely_beyond asked decided exact) (definitely_back asked' undecided path found is) =
      absurd (undecided decided)
  one_definitely a b (definitely_beyond asked decided exact)
      (definitely_late asked' undecided none unknown wide level late is) =
      absurd (undecided decided)
  one_definitely a b (definitely_beyond asked decided exact) (definitely_within undecided nothing right) =
      absurd (undecided asked decided)
  one_definitely a b (definitely_back asked undecided path found is) (definitely_beyond asked' decided exact) =
      absurd (undecided decided)
  one_definitely a b (definitely_back asked undecided path found is)
      (definitely_back asked' undecided' path' found' is') =
      is ∙ (one_exact (DefinitelyNo path) (DefinitelyNo path') (found_is_exact path found)
      (found_is_exact path' found') ∙ sym is')
  one_definitely a b (definitely_back asked undecided path found is)
      (definitely_late asked' undecided' none unknown wide level late is') =
      absurd (none path found)
  one_definitely a b (definitely_back asked undecided path found is) (definitely_within undecided' nothing right) =
      absurd ((nothing asked).no_path path found)
  one_definitely a b (definitely_late asked undecided none unknown wide level late is)
      (definitely_beyond asked' decided exact) =
      absurd (undecided decided)
  one_definitely a b (definitely_late asked undecided none unknown wide level late is)
      (definitely_back asked' undecided' path found is') =
      absurd (none path found)
  one_definitely a b (definitely_late asked undecided none unknown wide level late is)
      (definitely_late asked' undecided' none' unknown' wide' level' late' is') =
      is ∙ (ap DefinitelyYes (one_late_level r predicate document.width level level' late late') ∙ sym is')
  one_definitely a b (definitely_late asked undecided none unknown wide level late is)
      (definitely_within undecided' nothing right) =
      absurd (not_late b unknown level wide late (nothing asked) right)
  one_definitely a b (definitely_within undecided nothing right) (definitely_beyond asked decided exact) =
      absurd (undecided asked decided)
  one_definitely a b (definitely_within undecided nothing right) (definitely_back asked undecided' path found is) =
      absurd ((nothing asked).no_path path found)
  one_definitely a b (definitely_within undecided nothing right)
      (definitely_late asked undecided' none unknown wide level late is) =
      absurd (not_late a unknown level wide late (nothing asked) right)
  one_definitely a b (definitely_within undecided nothing right) (definitely_within undecided' nothing' right') =
      one_definitely_answer r.events (test_of r predicate) document.width a b right right'
