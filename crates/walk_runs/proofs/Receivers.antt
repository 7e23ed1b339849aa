-- The table of who receives each event: the bits that are set in it, one need after another.
use Rattle.std.proofs.Common.{◌≡◌, ◌≢◌, ◌⊎◌, ◌↔◌, inl, inr, true, false, not, nat_eq, ℕ, zero, suc, ◌+◌, ◌-◌, ◌<◌, ◌≤◌, List, [], ◌∷◌, ◌++◌, length, length-append, get_or, slice_set, replicate, refl, sym, ap, ◌∙◌, subst, below_more, arith}
use Rattle.std.specs.Prelude.{Some, slice_get, IsTrue, Vec}
use Rattle.std.specs.Global.{Global}
use Rattle.std.proofs.lemmas.Bool.{cases_Bool, cases_eq, cases_lt, false≢true}
use Rattle.std.proofs.lemmas.Bool.Decides.{eqb_tells}
use Rattle.std.proofs.lemmas.List.{get_or-map, length-map, length-replicate, length-set, map-append, map-set, get_or_append_left, get_or-set_other, get_or-replicate}
use Rattle.std.proofs.lemmas.Grind.{get_or-set_at}
use Rattle.std.proofs.lemmas.Option.{same_Some, slice_get-get_or}
use Rattle.walk_keys.specs.Words.{has_bit}
use Rattle.walk_keys.proofs.Keys.{get_or_same}
use Rattle.walk_keys.proofs.Truths.{zero_has_none}
use Rattle.def_model.specs.Events.{Computation, Place, Send, Receive, place, IsEvent, event_count}
use Rattle.def_model.specs.Messages.{IsMessage}
use Rattle.def_model.proofs.Chains.{event_from_kind}
use Rattle.def_model.proofs.Consistency.{process_in_range}
use Rattle.walk_runs.specs.Births.{IsReceivedBelow}
use Rattle.walk_runs.specs.Needs.{IsNeed, HasNeeds, IsReceiver, AreReceivers, HasReceivers, HaveReceivers, table_view}
use Rattle.walk_runs.specs.Receivers.{HasReceiver, IsSet, HasAdded, IsNeeded, IsBitOf, IsBitOfRow}
use Rattle.walk_runs.specs.declared.need.Need.{Need}
use Rattle.walk_runs.proofs.NeedRows.{at_end, some_of}

below_or_at : (p n : ℕ) → p < n + 1 → (p < n) ⊎ (p ≡ n)
below_or_at p n lt = go (cases_lt p n)
  where
    go : (p < n) ⊎ (n ≤ p) → (p < n) ⊎ (p ≡ n)
    go (inl less) = inl less
    go (inr more) = inr (omega arith)

-- ---- one bit more

-- a word whose bit p is set, and no other changed, in its place
pub set_word : (old : List ℕ) (number p word : ℕ) → number < length old → has_bit word p ≡ true
    → ((j : ℕ) → j ≢ p → has_bit word j ≡ has_bit (get_or old number 0) j)
    → IsSet number p old (slice_set old number word)
set_word old number p word lt set others = record {
  same = length-set old number word;
  exact = λ k j. at k j (cases_eq k number);
}
  where
    here : (j : ℕ) → (j ≡ p) ⊎ (j ≢ p) → (k : ℕ) → k ≡ number
        → IsTrue (has_bit word j) ↔ (IsTrue (has_bit (get_or old k 0) j) ⊎ ((k ≡ number) × (j ≡ p)))
    here j (inl e) k is = (λ has. inr (is, e), λ has. subst (λ (i : ℕ). IsTrue (has_bit word i)) (sym e) set)
    here j (inr ne) k is =
        let same : has_bit word j ≡ has_bit (get_or old k 0) j =
        others j ne ∙ ap (λ (i : ℕ). has_bit (get_or old i 0) j) (sym is) in
        (λ has. inl (sym same ∙ has), λ has. back same has)
      where
        back : has_bit word j ≡ has_bit (get_or old k 0) j
            → IsTrue (has_bit (get_or old k 0) j) ⊎ ((k ≡ number) × (j ≡ p)) → IsTrue (has_bit word j)
        back same (inl was) = same ∙ was
        back same (inr w) = absurd (ne w.1)

    away : (j : ℕ) → (k : ℕ) → k ≢ number → IsTrue (has_bit (get_or old k 0) j) ⊎ ((k ≡ number) × (j ≡ p))
        → IsTrue (has_bit (get_or old k 0) j)
    away j k ne (inl was) = was
    away j k ne (inr w) = absurd (ne w.0)

    at : (k j : ℕ) → (k ≡ number) ⊎ (k ≢ number) → IsTrue (has_bit (get_or (slice_set old number word) k 0) j)
        ↔ (IsTrue (has_bit (get_or old k 0) j) ⊎ ((k ≡ number) × (j ≡ p)))
    at k j (inl e) =
        subst (λ (w : ℕ). IsTrue (has_bit w j) ↔ (IsTrue (has_bit (get_or old k 0) j) ⊎ ((k ≡ number) × (j ≡ p))))
        (sym (get_or-set_at old number k word 0 e lt)) (here j (cases_eq j p) k e)
    at k j (inr ne) =
        subst (λ (w : ℕ). IsTrue (has_bit w j) ↔ (IsTrue (has_bit (get_or old k 0) j) ⊎ ((k ≡ number) × (j ≡ p))))
        (sym (get_or-set_other old number k word 0 ne)) (λ has. inl has, away j k ne)

-- the row of a process with one bit more, in its place
pub set_row : (old : List (List ℕ)) (q number p : ℕ) (row : List ℕ) → q < length old
    → IsSet number p (get_or old q []) row
    → HasAdded (λ r k j. (r ≡ q) × (k ≡ number) × (j ≡ p)) old (slice_set old q row)
set_row old q number p row lt set = record {
  same = length-set old q row;
  sizes = λ r. size r (cases_eq r q);
  exact = λ r k j. at r k j (cases_eq r q);
}
  where
    size : (r : ℕ) → (r ≡ q) ⊎ (r ≢ q) → length (get_or (slice_set old q row) r []) ≡ length (get_or old r [])
    size r (inl e) =
        ap (λ (xs : List ℕ). length xs) (get_or-set_at old q r row [] e lt)
        ∙ (set.same ∙ ap (λ (i : ℕ). length (get_or old i [])) (sym e))
    size r (inr ne) = ap (λ (xs : List ℕ). length xs) (get_or-set_other old q r row [] ne)

    up : (r k j : ℕ) → r ≡ q → HasReceiver old q k j ⊎ ((k ≡ number) × (j ≡ p))
        → HasReceiver old r k j ⊎ ((r ≡ q) × (k ≡ number) × (j ≡ p))
    up r k j e (inl was) = inl (subst (λ (i : ℕ). HasReceiver old i k j) (sym e) was)
    up r k j e (inr w) = inr (e, w.0, w.1)

    down : (r k j : ℕ) → r ≡ q → HasReceiver old r k j ⊎ ((r ≡ q) × (k ≡ number) × (j ≡ p))
        → HasReceiver old q k j ⊎ ((k ≡ number) × (j ≡ p))
    down r k j e (inl was) = inl (subst (λ (i : ℕ). HasReceiver old i k j) e was)
    down r k j e (inr (here, is, at)) = inr (is, at)

    away : (r k j : ℕ) → r ≢ q → HasReceiver old r k j ⊎ ((r ≡ q) × (k ≡ number) × (j ≡ p)) → HasReceiver old r k j
    away r k j ne (inl was) = was
    away r k j ne (inr w) = absurd (ne w.0)

    at : (r k j : ℕ) → (r ≡ q) ⊎ (r ≢ q)
        → HasReceiver (slice_set old q row) r k j ↔ (HasReceiver old r k j ⊎ ((r ≡ q) × (k ≡ number) × (j ≡ p)))
    at r k j (inl e) =
        subst (λ (xs : List ℕ). IsTrue (has_bit (get_or xs k 0) j)
        ↔ (HasReceiver old r k j ⊎ ((r ≡ q) × (k ≡ number) × (j ≡ p))))
        (sym (get_or-set_at old q r row [] e lt))
        (λ has. up r k j e ((set.exact k j).0 has), λ has. (set.exact k j).1 (down r k j e has))
    at r k j (inr ne) =
        subst (λ (xs : List ℕ). IsTrue (has_bit (get_or xs k 0) j)
        ↔ (HasReceiver old r k j ⊎ ((r ≡ q) × (k ≡ number) × (j ≡ p))))
        (sym (get_or-set_other old q r row [] ne)) (λ has. inl has, away r k j ne)

-- nothing is added
pub added_none : (Added : ℕ → ℕ → ℕ → Type 0) (table : List (List ℕ))
    → ((q k j : ℕ) → ¬ Added q k j) → HasAdded Added table table
added_none Added table none = record {
  same = refl;
  sizes = λ q. refl;
  exact = λ q k j. (λ has. inl has, back q k j);
}
  where
    back : (q k j : ℕ) → HasReceiver table q k j ⊎ Added q k j → HasReceiver table q k j
    back q k j (inl was) = was
    back q k j (inr more) = absurd (none q k j more)

-- what is added, said in another way
pub added_as : (A B : ℕ → ℕ → ℕ → Type 0) (old new : List (List ℕ)) → HasAdded A old new
    → ((q k j : ℕ) → A q k j → B q k j) → ((q k j : ℕ) → B q k j → A q k j) → HasAdded B old new
added_as A B old new has there back = record {
  same = has.same;
  sizes = has.sizes;
  exact = λ q k j. (λ is. up q k j ((has.exact q k j).0 is), λ is. (has.exact q k j).1 (down q k j is));
}
  where
    up : (q k j : ℕ) → HasReceiver old q k j ⊎ A q k j → HasReceiver old q k j ⊎ B q k j
    up q k j (inl was) = inl was
    up q k j (inr more) = inr (there q k j more)

    down : (q k j : ℕ) → HasReceiver old q k j ⊎ B q k j → HasReceiver old q k j ⊎ A q k j
    down q k j (inl was) = inl was
    down q k j (inr more) = inr (back q k j more)

-- the bit of a need is set
pub need_set : (old : List (List ℕ)) (need : Need) (p : ℕ) (row : List ℕ) → need.process < length old
    → 0 < need.number → need.number < length (get_or old need.process [])
    → IsSet need.number p (get_or old need.process []) row
    → HasAdded (IsBitOf old need p) old (slice_set old need.process row)
need_set old need p row lt some within set =
    added_as (λ r k j. (r ≡ need.process) × (k ≡ need.number) × (j ≡ p)) (IsBitOf old need p) old
    (slice_set old need.process row) (set_row old need.process need.number p row lt set) there back
  where
    there : (q k j : ℕ) → (q ≡ need.process) × (k ≡ need.number) × (j ≡ p) → IsBitOf old need p q k j
    there q k j (here, is, at) = (
      record {
        process = sym here;
        event = sym is;
        some = subst (λ (n : ℕ). 0 < n) (sym is) some;
        within = subst (λ (n : ℕ). n < length (get_or old q [])) (sym is)
            (subst (λ (r : ℕ). need.number < length (get_or old r [])) (sym here) within);
      },
      at,
    )

    back : (q k j : ℕ) → IsBitOf old need p q k j → (q ≡ need.process) × (k ≡ need.number) × (j ≡ p)
    back q k j w = (sym w.0.process, sym w.0.event, w.1)

-- a need that is no event of the table sets no bit
past_table : (table : List (List ℕ)) (q number : ℕ) → length table ≤ q → ¬ (number < length (get_or table q []))
past_table [] q number le lt = absurd (omega arith)
past_table (row ∷ rows) zero number le lt = absurd (omega arith)
past_table (row ∷ rows) (suc q) number le lt = past_table rows q number (omega arith) lt

pub need_unset : (table : List (List ℕ)) (need : Need) (p : ℕ) → (need.process < length table → 0 < need.number
    → ¬ (need.number < length (get_or table need.process [])))
    → HasAdded (IsBitOf table need p) table table
need_unset table need p none = added_none (IsBitOf table need p) table never
  where
    never : (q k j : ℕ) → ¬ IsBitOf table need p q k j
    never q k j w =
        let some : 0 < need.number = subst (λ (n : ℕ). 0 < n) (sym w.0.event) w.0.some in
        let within : need.number < length (get_or table need.process []) =
        subst (λ (r : ℕ). need.number < length (get_or table r [])) (sym w.0.process)
        (subst (λ (n : ℕ). n < length (get_or table q [])) (sym w.0.event) w.0.within) in
        none (inside (cases_lt need.process (length table)) within) some within
      where
        inside : (need.process < length table) ⊎ (length table ≤ need.process)
            → need.number < length (get_or table need.process []) → need.process < length table
        inside (inl lt) within = lt
        inside (inr le) within = absurd (past_table table need.process need.number le within)

-- ---- the rows of the table

table_row : (rows : List (Vec ℕ Global)) (q : ℕ) (row : Vec ℕ Global) → q < length rows → row ≡ get_or rows q row
    → get_or (table_view rows) q [] ≡ row.items
table_row rows q row lt is =
    get_or-map (λ (r : Vec ℕ Global). r.items) rows q row [] lt ∙ ap (λ (r : Vec ℕ Global). r.items) (sym is)

pub rows_set : (rows : List (Vec ℕ Global)) (need : Need) (p : ℕ) (seen row new : Vec ℕ Global)
    → need.process < length rows → 0 < need.number → need.number < length seen.items
    → seen ≡ get_or rows need.process seen → row ≡ get_or rows need.process row
    → IsSet need.number p row.items new.items
    → HasAdded (IsBitOf (table_view rows) need p) (table_view rows) (table_view (slice_set rows need.process new))
rows_set rows need p seen row new lt some within there is set =
    let many : length (table_view rows) ≡ length rows = length-map rows (λ (r : Vec ℕ Global). r.items) in
    let at : get_or (table_view rows) need.process [] ≡ row.items = table_row rows need.process row lt is in
    subst (HasAdded (IsBitOf (table_view rows) need p) (table_view rows))
    (sym (map-set (λ (r : Vec ℕ Global). r.items) rows need.process new))
    (need_set (table_view rows) need p new.items (omega arith) some
    (subst (λ (xs : List ℕ). need.number < length xs) (sym (table_row rows need.process seen lt there)) within)
    (subst (λ (xs : List ℕ). IsSet need.number p xs new.items) (sym at) set))

pub rows_none : (rows : List (Vec ℕ Global)) (need : Need) (p : ℕ)
    → ¬ (0 < need.number) → HasAdded (IsBitOf (table_view rows) need p) (table_view rows) (table_view rows)
rows_none rows need p none = need_unset (table_view rows) need p (λ lt some within. none some)

pub rows_past : (rows : List (Vec ℕ Global)) (need : Need) (p : ℕ)
    → length rows ≤ need.process → HasAdded (IsBitOf (table_view rows) need p) (table_view rows) (table_view rows)
rows_past rows need p past =
    let many : length (table_view rows) ≡ length rows = length-map rows (λ (r : Vec ℕ Global). r.items) in
    need_unset (table_view rows) need p (λ lt some within. absurd (omega arith))

pub rows_short : (rows : List (Vec ℕ Global)) (need : Need) (p : ℕ) (row : Vec ℕ Global)
    → need.process < length rows → row ≡ get_or rows need.process row → length row.items ≤ need.number
    → HasAdded (IsBitOf (table_view rows) need p) (table_view rows) (table_view rows)
rows_short rows need p row lt is short =
    let at : get_or (table_view rows) need.process [] ≡ row.items = table_row rows need.process row lt is in
    need_unset (table_view rows) need p (λ less some within.
    absurd (omega (arith, subst (λ (xs : List ℕ). need.number < length xs) at within)))

-- ---- the needs of a row

pub row_none : (table : List (List ℕ)) (row : List Need) (p : ℕ) → HasAdded (IsBitOfRow table row 0 p) table table
row_none table row p = added_none (IsBitOfRow table row 0 p) table none
  where
    none : (q k j : ℕ) → ¬ IsBitOfRow table row 0 p q k j
    none q k j (i, need, lt, is, bit) = absurd (omega arith)

-- one need more
pub row_more : (old mid new : List (List ℕ)) (row : List Need) (n p : ℕ) (none need : Need) → n < length row
    → need ≡ get_or row n none → HasAdded (IsBitOfRow old row n p) old mid → HasAdded (IsBitOf mid need p) mid new
    → HasAdded (IsBitOfRow old row (n + 1) p) old new
row_more old mid new row n p none need lt at before now = record {
  same = now.same ∙ before.same;
  sizes = λ q. now.sizes q ∙ before.sizes q;
  exact = λ q k j. (λ has. up q k j ((now.exact q k j).0 has), down q k j);
}
  where
    is : slice_get row n ≡ Some need
    is = slice_get-get_or row n none lt ∙ ap Some (sym at)

    resize : (from to : List (List ℕ)) (d : Need) (q k : ℕ)
        → length (get_or to q []) ≡ length (get_or from q []) → IsNeeded from d q k → IsNeeded to d q k
    resize from to d q k same has = record {
      process = has.process;
      event = has.event;
      some = has.some;
      within = subst (λ (m : ℕ). k < m) (sym same) has.within;
    }

    earlier : (q k j : ℕ) → HasReceiver old q k j ⊎ IsBitOfRow old row n p q k j
        → HasReceiver old q k j ⊎ IsBitOfRow old row (n + 1) p q k j
    earlier q k j (inl was) = inl was
    earlier q k j (inr (i, d, less, there, bit)) = inr (i, d, omega arith, there, bit)

    up : (q k j : ℕ) → HasReceiver mid q k j ⊎ IsBitOf mid need p q k j
        → HasReceiver old q k j ⊎ IsBitOfRow old row (n + 1) p q k j
    up q k j (inl was) = earlier q k j ((before.exact q k j).0 was)
    up q k j (inr bit) =
        inr (n, need, omega arith, is, (resize mid old need q k (sym (before.sizes q)) bit.0, bit.1))

    later : (q k j i : ℕ) (d : Need) → (i < n) ⊎ (i ≡ n) → slice_get row i ≡ Some d → IsBitOf old d p q k j
        → HasReceiver new q k j
    later q k j i d (inl less) there bit =
        (now.exact q k j).1 (inl ((before.exact q k j).1 (inr (i, d, less, there, bit))))
    later q k j i d (inr e) there bit =
        let same : need ≡ d =
        same_Some need d (sym is ∙ (ap (λ (m : ℕ). slice_get row m) (sym e) ∙ there)) in
        (now.exact q k j).1 (inr (subst (λ (x : Need). IsBitOf mid x p q k j) (sym same)
        (resize old mid d q k (before.sizes q) bit.0, bit.1)))

    down : (q k j : ℕ) → HasReceiver old q k j ⊎ IsBitOfRow old row (n + 1) p q k j → HasReceiver new q k j
    down q k j (inl was) = (now.exact q k j).1 (inl ((before.exact q k j).1 (inl was)))
    down q k j (inr (i, d, less, there, bit)) = later q k j i d (below_or_at i n less) there bit

-- ---- the table

-- no bit is set
pub no_words : (c : Computation) (q : ℕ) (words : List ℕ) → words ≡ replicate (event_count c q + 1) 0
    → HasReceivers c 0 q words
no_words c q words is = record {
  same = ap length is ∙ length-replicate (event_count c q + 1) 0;
  exact = λ number le p. (
    λ has. absurd (false≢true (sym (none number p le) ∙ has)),
    λ w. absurd (omega (arith, w.0)),
  );
}
  where
    none : (number p : ℕ) → number ≤ event_count c q → has_bit (get_or words number 0) p ≡ false
    none number p le =
        ap (λ (xs : List ℕ). has_bit (get_or xs number 0) p) is
        ∙ (ap (λ (w : ℕ). has_bit w p) (get_or-replicate (event_count c q + 1) number 0 0 (omega arith))
        ∙ zero_has_none p)

-- the words of one process more
pub table_push : (c : Computation) (n k : ℕ) (table : List (List ℕ)) (row : List ℕ) → HaveReceivers c n k table
    → HasReceivers c n k row → HaveReceivers c n (k + 1) (table ++ row ∷ [])
table_push c n k table row have has = record {
  same = length-append table (row ∷ []) ∙ omega (arith, have.same);
  each = λ q lt. below_more (λ (i : ℕ). HasReceivers c n i (get_or (table ++ row ∷ []) i [])) k
      (λ i less. rw (get_or_append_left table (row ∷ []) [] i (omega (arith, have.same))) (have.each i less))
      (rw (at_end table row [] k have.same) has)
      q lt;
}

pub rows_push : (c : Computation) (k : ℕ) (rows : List (Vec ℕ Global)) (row : Vec ℕ Global)
    → HaveReceivers c 0 k (table_view rows) → row.items ≡ replicate (event_count c k + 1) 0
    → HaveReceivers c 0 (k + 1) (table_view (rows ++ row ∷ []))
rows_push c k rows row have is =
    subst (HaveReceivers c 0 (k + 1)) (sym (map-append (λ (r : Vec ℕ Global). r.items) rows (row ∷ [])))
    (table_push c 0 k (table_view rows) row.items have (no_words c k row.items is))

-- the needs of one process more are read
pub receivers_more : (c : Computation) (n : ℕ) (row : List Need) (old new : List (List ℕ)) → n < length c
    → HasNeeds c n (event_count c n + 1) row → HaveReceivers c n (length c) old
    → HasAdded (IsBitOfRow old row (length row) n) old new → HaveReceivers c (n + 1) (length c) new
receivers_more c n row old new within has have added = record {
  same = added.same ∙ have.same;
  each = λ q lt. record {
    same = added.sizes q ∙ (have.each q lt).same;
    exact = λ number le p. (
      λ set. up q lt number le p ((added.exact q number p).0 set),
      λ w. (added.exact q number p).1 (down q lt number le p w.0 w.1.0 w.1.1 (below_or_at p n w.0)),
    );
  };
}
  where
    -- a bit that is set is that of a receiver
    up : (q : ℕ) → q < length c → (number : ℕ) → number ≤ event_count c q → (p : ℕ)
        → HasReceiver old q number p ⊎ IsBitOfRow old row (length row) n q number p
        → IsReceiver c (n + 1) (place q number) p
    up q lt number le p (inl was) =
        let w : IsReceiver c n (place q number) p = ((have.each q lt).exact number le p).0 was in
        (omega (arith, w.0), w.1)
    up q lt number le p (inr (i, need, less, there, bit)) =
        let needed = bit.0 in
        let at = bit.1 in
        let same : get_or row i need ≡ need =
        same_Some (get_or row i need) need (sym (slice_get-get_or row i need less) ∙ there) in
        let size : length row ≡ event_count c n + 1 = has.same in
        let is : IsNeed c n i need.process need.number =
        subst (λ (d : Need). IsNeed c n i d.process d.number) same (has.right i need (omega arith)) in
        let moved : IsNeed c n i q number =
        subst (λ (r : ℕ). IsNeed c n i r number) needed.process
        (subst (λ (m : ℕ). IsNeed c n i need.process m) needed.event is) in
        let message : IsMessage c (place q number) (place n (i + 1)) = moved.sent needed.some le in
        (omega (arith, at), (i + 1, subst (λ (r : ℕ). IsMessage c (place q number) (place r (i + 1))) (sym at) message))

    -- the need of a receipt is in the row
    here : (q : ℕ) → q < length c → (number : ℕ) → number ≤ event_count c q → (m : ℕ)
        → IsMessage c (place q number) (place n m) → IsBitOfRow old row (length row) n q number n
    here q lt number le m message =
        let e : IsEvent c (place n m) = event_from_kind c (place n m) (Receive message.0) message.2 in
        let s : IsEvent c (place q number) = event_from_kind c (place q number) (Send message.0) message.1 in
        let low : 1 ≤ m = e.0 in
        let high : m ≤ event_count c n = e.1 in
        let some : 1 ≤ number = s.0 in
        let size : length row ≡ event_count c n + 1 = has.same in
        let first : Need = some_of row (omega arith) in
        let need : Need = get_or row (m - 1) first in
        let is : IsNeed c n (m - 1) need.process need.number = has.right (m - 1) first (omega arith) in
        let at : m ≡ m - 1 + 1 = omega arith in
        let same : place q number ≡ place need.process need.number =
        is.sends (place q number) (subst (λ (k : ℕ). IsMessage c (place q number) (place n k)) at message) in
        let many : length (get_or old q []) ≡ event_count c q + 1 = (have.each q lt).same in (
          m - 1,
          need,
          omega arith,
          slice_get-get_or row (m - 1) first (omega arith),
          (
            record {
              process = sym (ap (λ (r : Place). r.process) same);
              event = sym (ap (λ (r : Place). r.number) same);
              some = omega arith;
              within = omega arith;
            },
            refl,
          ),
        )

    down : (q : ℕ) → q < length c → (number : ℕ) → number ≤ event_count c q → (p : ℕ) → p < n + 1 → (m : ℕ)
        → IsMessage c (place q number) (place p m) → (p < n) ⊎ (p ≡ n)
        → HasReceiver old q number p ⊎ IsBitOfRow old row (length row) n q number p
    down q lt number le p less m message (inl before) =
        inl (((have.each q lt).exact number le p).1 (before, (m, message)))
    down q lt number le p less m message (inr e) =
        inr (subst (λ (r : ℕ). IsBitOfRow old row (length row) n q number r) (sym e)
        (here q lt number le m (subst (λ (r : ℕ). IsMessage c (place q number) (place r m)) e message)))

-- ---- a word

-- what is read in the words of a process
pub read_receivers : (c : Computation) (n q number word : ℕ) (rows : List (Vec ℕ Global)) (row : Vec ℕ Global)
    → HaveReceivers c n (length c) (table_view rows) → q < length c → number ≤ event_count c q
    → row ≡ get_or rows q row → word ≡ get_or row.items number word → AreReceivers c n (place q number) word
read_receivers c n q number word rows row have lt le read at =
    let many : length (table_view rows) ≡ length c = have.same in
    let same : length (table_view rows) ≡ length rows = length-map rows (λ (r : Vec ℕ Global). r.items) in
    let there : get_or (table_view rows) q [] ≡ row.items = table_row rows q row (omega arith) read in
    let size : length row.items ≡ event_count c q + 1 = ap length (sym there) ∙ (have.each q lt).same in
    let is : get_or (get_or (table_view rows) q []) number 0 ≡ word =
    ap (λ (xs : List ℕ). get_or xs number 0) there ∙ sym (at ∙ get_or_same row.items number word 0 (omega arith)) in
    subst (AreReceivers c n (place q number)) is ((have.each q lt).exact number le)

-- a word has a bit among the lowest k, or none of them
some_bit : (word k : ℕ) → ((j : ℕ) × IsTrue (has_bit word j)) ⊎ ((j : ℕ) → j < k → has_bit word j ≡ false)
some_bit word zero = inr (λ j lt. absurd (omega arith))
some_bit word (suc k) = go (some_bit word k) (cases_Bool (has_bit word k))
  where
    go : ((j : ℕ) × IsTrue (has_bit word j)) ⊎ ((j : ℕ) → j < k → has_bit word j ≡ false)
        → (has_bit word k ≡ true) ⊎ (has_bit word k ≡ false)
        → ((j : ℕ) × IsTrue (has_bit word j)) ⊎ ((j : ℕ) → j < suc k → has_bit word j ≡ false)
    go (inl found) here = inl found
    go (inr none) (inl set) = inl (k, set)
    go (inr none) (inr unset) = inr (λ j lt. at j (below_or_at j k (omega arith)))
      where
        at : (j : ℕ) → (j < k) ⊎ (j ≡ k) → has_bit word j ≡ false
        at j (inl less) = none j less
        at j (inr e) = subst (λ (i : ℕ). has_bit word i ≡ false) (sym e) unset

-- a word of receivers isn't 0 exactly if there is one
pub some_receiver : (c : Computation) (n : ℕ) (send : Place) (word : ℕ) → AreReceivers c n send word
    → ((j : ℕ) → 64 ≤ j → has_bit word j ≡ false) → (word ≡ 0 ↔ ((j : ℕ) → has_bit word j ≡ false))
    → IsTrue (not (nat_eq word 0)) ↔ IsReceivedBelow c n send
some_receiver c n send word are beyond none = (
  λ is. found (some_bit word 64) is (eqb_tells word 0),
  λ w. not_zero w (eqb_tells word 0),
)
  where
    found : ((j : ℕ) × IsTrue (has_bit word j)) ⊎ ((j : ℕ) → j < 64 → has_bit word j ≡ false)
        → IsTrue (not (nat_eq word 0))
        → ((nat_eq word 0 ≡ true) × (word ≡ 0)) ⊎ ((nat_eq word 0 ≡ false) × (word ≢ 0)) → IsReceivedBelow c n send
    found (inl (j, set)) is test =
        let w : IsReceiver c n send j = (are j).0 set in
        (j, w.1.0, w.0, w.1.1)
    found (inr unset) is (inl (same, e)) = absurd (false≢true (sym (ap not same) ∙ is))
    found (inr unset) is (inr (other, ne)) = absurd (ne (none.1 (λ j. at j (cases_lt j 64))))
      where
        at : (j : ℕ) → (j < 64) ⊎ (64 ≤ j) → has_bit word j ≡ false
        at j (inl less) = unset j less
        at j (inr more) = beyond j more

    not_zero : IsReceivedBelow c n send
        → ((nat_eq word 0 ≡ true) × (word ≡ 0)) ⊎ ((nat_eq word 0 ≡ false) × (word ≢ 0))
        → IsTrue (not (nat_eq word 0))
    not_zero (p, m, lt, message) (inl (is, e)) =
        absurd (false≢true (sym (none.0 e p) ∙ (are p).1 (lt, (m, message))))
    not_zero w (inr (other, ne)) = ap not other

-- no process is past the last
pub no_receiver : (c : Computation) (n q number : ℕ) → length c ≤ q → AreReceivers c n (place q number) 0
no_receiver c n q number past p = (
  λ has. absurd (false≢true (sym (zero_has_none p) ∙ has)),
  λ w. absurd (none w.1.0 w.1.1),
)
  where
    none : (m : ℕ) → ¬ IsMessage c (place q number) (place p m)
    none m message =
        let e : IsEvent c (place q number) = event_from_kind c (place q number) (Send message.0) message.1 in
        let lt : q < length c = process_in_range c (place q number) e in
        omega arith
