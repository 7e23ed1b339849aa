-- Each step of the lock keeps its rule: a take, a giving back, a split, a join; and what who has all numbers knows.
use Rattle.std.proofs.Common.{◌≡◌, ◌≢◌, ℕ, zero, suc, ◌+◌, ◌<◌, ◌≤◌, inl, inr, Bool, true, false, ◌&&◌, eqb, ltb, leb, cond, List, [], ◌∷◌, ◌++◌, length, set, slice_index, All, count_by, sym, refl, ap, ◌∙◌, subst, ⊎_elim, arith, length-set, get_or-set_same, eq-eqb, ne_eqb, take, drop}
use mathlib.Core.Logic.{dite}
use mathlib.Core.List.{IsPrefix}
use mathlib.Core.Option.{none, some, some-injective, some-ne-none}
use native.Mathlib.Decide.{ℕ_discrete}
use lib.ListN.{get_elem?}
use lib.Seq.{set-get_or}
use prog.Atomic.{either}
use Rattle.std.proofs.lemmas.Bool.Decides.{nat_tests}
use Rattle.std.proofs.lemmas.List.Sums.{sum_by-cons, sum_by-append, sum_by_push}
use Rattle.std.proofs.lemmas.List.Elements.{All-nil, All-cons, All-tail, All-append}
use Rattle.atomic_table.specs.Table.{State, Me, step, keeps, takes, gives, stepped, opening, Allows, Splits, Joins, Seen}
use Rattle.atomic_table.proofs.Lists.{at_set, at_snoc, set_here, set_else, set_again, at_longer}
use Rattle.def_format.specs.Histories.{fresh_row}
use Rattle.pd_register.specs.declared.row.Row.{Row}
use Rattle.pd_register.specs.declared.post.Post.{Post}
use Rattle.pd_register.specs.declared.history.History.{History}
use Rattle.pd_register.specs.declared.view.View.{View}
use Rattle.pd_register.specs.Views.{row_value, row_in}
use Rattle.pd_register.specs.LockRule.{view, spent_view, stands, once_below, FitsView, IsRight, IsOut, Kept, fresh_from, Tries, rows_in, Gives, Follows, MayGive}
use Rattle.pd_register.proofs.ListFacts.{sum_set, sum_at, sum_two, each_set, each_snoc, prefix_longer, prefix_whole, at_bound}
use Rattle.pd_register.proofs.ViewFacts.{row_in_else}

is_false : (b : Bool) → (b ≡ true → ⊥) → b ≡ false
is_false true never = absurd (never refl)
is_false false never = refl

true_false : (b : Bool) → b ≡ true → b ≡ false → ⊥
true_false b p q = cc

-- ---- rows

abbrev stands_for : ℕ → ℕ × Row → ℕ
stands_for x p = cond (eqb p.0 x) 1 0

stands_here : (x y : ℕ) → x ≡ y → cond {A = ℕ} (eqb x y) 1 0 ≡ 1
stands_here x y e = ap (λ b. cond {A = ℕ} b 1 0) (eq-eqb x y e)

abbrev RowIn : List Post → ℕ × Row → Type 0
RowIn h p = row_in p.0 h ≡ p.1

-- rows that do not stand for the post's stream stay
rows_stay : (h : List Post) (e : Post) (rows : List (ℕ × Row)) → count_by (λ p. eqb p.0 e.stream) rows ≡ 0
    → All (RowIn h) rows → All (RowIn (h ++ e ∷ [])) rows
rows_stay h e [] absent all = All-nil (RowIn (h ++ e ∷ []))
rows_stay h e (p ∷ ps) absent all =
    let c = sum_by-cons (stands_for e.stream) p ps in
    let apart : e.stream ≢ p.0 =
    λ same. absurd (let one = stands_here p.0 e.stream (sym same) in omega (arith, c, one)) in
    All-cons (RowIn (h ++ e ∷ [])) p ps (row_in_else p.0 h e apart ∙ all 0 p (omega arith))
    (rows_stay h e ps (omega arith) (All-tail (RowIn h) p ps all))

-- the rows of a history fit it
rows_fit : (h : List Post) (rows : List (ℕ × Row)) → All (RowIn h) (rows_in h rows)
rows_fit h [] = All-nil (RowIn h)
rows_fit h (p ∷ ps) = All-cons (RowIn h) (p.0, row_in p.0 h) (rows_in h ps) refl (rows_fit h ps)

same_numbers : (h : List Post) (x : ℕ) (rows : List (ℕ × Row))
    → count_by (λ p. eqb p.0 x) (rows_in h rows) ≡ count_by (λ p. eqb p.0 x) rows
same_numbers h x [] = refl
same_numbers h x (p ∷ ps) =
    omega (
      arith,
      sum_by-cons (stands_for x) (p.0, row_in p.0 h) (rows_in h ps),
      sum_by-cons (stands_for x) p ps,
      same_numbers h x ps,
    )

length_rows_in : (h : List Post) (rows : List (ℕ × Row)) → length (rows_in h rows) ≡ length rows
length_rows_in h [] = refl
length_rows_in h (p ∷ ps) = ap suc (length_rows_in h ps)

-- ---- the view that holds the slot

holds_as : (v w : View) → v ≡ w → v.holds ≡ w.holds
holds_as v w e = ap (λ (u : View). u.holds) e

-- a seat without the slot changes its view, and holds no slot afterwards
out_set : (views : List View) (id : ℕ) (v w : View) (h : List Post) → get_elem? views id ≡ some v
    → v.holds ≡ false → w.holds ≡ false → IsOut views h → IsOut (set views id w) h
out_set views id v w h at idle still_idle out =
    let holder : ℕ = out.0 in
    let u : View = out.1 in
    let apart : holder ≢ id = λ same. true_false u.holds out.3 (ap (λ (x : View). x.holds)
    (some-injective u v (sym out.2 ∙ ap (get_elem? views) same ∙ at)) ∙ idle) in (
      holder,
      u,
      set_else views id holder w apart ∙ out.2,
      out.3,
      out.4,
      λ j x g t. ⊎_elim
          (λ (q : (j ≡ id) × (w ≡ x)). absurd (true_false x.holds t (holds_as x w (sym q.1) ∙ still_idle)))
          (λ (q : (j ≢ id) × (get_elem? views j ≡ some x)). out.5 j x q.1 t) (at_set views id j w x g),
    )

out_snoc : (views : List View) (w : View) (h : List Post) → w.holds ≡ false → IsOut views h
    → IsOut (views ++ w ∷ []) h
out_snoc views w h idle out = (
  out.0,
  out.1,
  at_longer views (w ∷ []) out.0 out.1 out.2,
  out.3,
  out.4,
  λ j x g t. ⊎_elim (λ (q : get_elem? views j ≡ some x). out.5 j x q t)
      (λ (q : w ≡ x). absurd (true_false x.holds t (holds_as x w (sym q) ∙ idle)))
      (at_snoc views w x j g),
)

once_at_most : (x n : ℕ) → once_below x n ≤ 1
once_at_most x n = grind (arith, nat_tests)

must_be_below : (x n : ℕ) → 0 < once_below x n → x < n
must_be_below x n h = grind (arith, nat_tests)

first_number : (rows : List (ℕ × Row)) → 0 < length rows → (x : ℕ) × (0 < count_by (λ p. eqb p.0 x) rows)
first_number [] h = absurd (omega arith)
first_number (p ∷ ps) h = (
  p.0,
  (let one = stands_here p.0 p.0 refl in omega (arith, sum_by-cons (stands_for p.0) p ps, one)),
)

-- ---- the steps

module _ (n : ℕ) where
  abbrev Rule : State History View → Type 0
  Rule = Kept n

  abbrev Idle : View → Type 0
  Idle v = v.holds ≡ false

  abbrev with_slot : Me History View → History → View
  with_slot me stored = view me.0.streams me.0.rows stored.posts.items true

  after_take : (id : ℕ) (me : Me History View) (s : State History View) (r : Rule s) → 0 < length me.0.rows
      → get_elem? s.views id ≡ some me.0 → (e : slice_index s.words 0 ≡ 0) → (stored : History)
      → stored.posts.items ≡ r.history → Rule record {
        words = set s.words 0 1;
        homes = set s.homes 0 none;
        views = set s.views id (with_slot me stored);
      }
  after_take id me s r some_rows at e stored same =
      let f = r.free e in
      let long = r.wide in
      let mine = r.each id me.0 at in
      let h : List Post = r.history in
      let w : View = with_slot me stored in
      let now : slice_index (set s.words 0 1) 0 ≡ 1 = get_or-set_same s.words 0 1 0 (omega arith) in
      let seen_all : IsPrefix stored.posts.items h = subst (λ l. IsPrefix l h) (sym same) (prefix_whole h) in record {
        history = h;
        wide = length-set s.words 0 1 ∙ r.wide;
        once = λ x. omega (arith, r.once x, sum_set (stands x) s.views id me.0 w at);
        each = each_set (IsRight n h) s.views id w ((mine.0.0, seen_all), (λ _. some_rows), mine.2)
            (λ j a _ g. r.each j a g);
        free = λ z. absurd (omega arith);
        taken = λ _. (
          id,
          w,
          set_here s.views id w (at_bound s.views id me.0 at),
          refl,
          same,
          λ j u g t. ⊎_elim (λ (q : (j ≡ id) × (w ≡ u)). q.0)
              (λ (q : (j ≢ id) × (get_elem? s.views j ≡ some u)). absurd (true_false u.holds t (f.1 j u q.1)))
              (at_set s.views id j w u g),
        );
      }

  pub tries : (slots id : ℕ) (me : Me History View) → 0 < length me.0.rows
      → Allows Rule slots id me 0 (λ x. either (eqb x 0) 1 x) (Tries (step slots 0 0 1 none) me)
  tries slots id me some_rows s r wide at small =
      let word : ℕ = slice_index s.words 0 in dite (ℕ_discrete word 0)
      (λ e.
      let f = r.free e in
      let stored : History = f.0.0 in
      let w : View = with_slot me stored in
      let mine = r.each id me.0 at in (
        w,
        takes 0 stored,
        f.0.1,
        subst (λ b. Rule (stepped s 0 (either b 1 word) id me.1 w (takes 0 stored))) (sym (eq-eqb word 0 e))
            (after_take id me s r some_rows at e stored f.0.2),
        (
          λ _. (stored, refl, f.0.3 ∙ sym (mine.2 some_rows), subst (λ l. FitsView l me.0) (sym f.0.2) mine.0),
          λ ne. absurd (ne e),
        ),
      ))
      (λ ne. (
        me.0,
        keeps,
        tt,
        subst (λ b. Rule (stepped s 0 (either b 1 word) id me.1 me.0 keeps)) (sym (ne_eqb word 0 ne))
            (subst (λ (x : List ℕ × List View). Rule record { words = x.0; homes = s.homes; views = x.1 })
            (λ i. (sym (set-get_or s.words 0 0) i, sym (set_again s.views id me.0 at) i)) r),
        (λ e. absurd (ne e), λ _. refl),
      ))

  -- what the other views know stays right
  others_right : (s : State History View) (r : Rule s) (id : ℕ) (v : View) (h : List Post)
      → get_elem? s.views id ≡ some v → v.seen ≡ r.history → Follows v h
      → (j : ℕ) (u : View) → j ≢ id → get_elem? s.views j ≡ some u → IsRight n h u
  others_right s r id v h at seen_is (inl same) j u ne g =
      subst (λ l. IsRight n l u) (sym (same ∙ seen_is)) (r.each j u g)
  others_right s r id v h at seen_is (inr more) j u ne g =
      let e : Post = more.0 in
      let old = r.each j u g in
      let apart = sum_two (stands e.stream) s.views id j v u (λ q. ne (sym q)) at g in
      let most = once_at_most e.stream (n + 1) in
      let absent : stands e.stream u ≡ 0 = omega (arith, more.1, r.once e.stream, most, apart) in
      subst (λ l. IsRight n l u) (sym (more.2 ∙ ap (λ l. l ++ e ∷ []) seen_is))
      ((rows_stay r.history e u.rows absent old.0.0, prefix_longer u.seen r.history e old.0.1), old.1, old.2)

  gives_at : (slots id : ℕ) (v : View) (stored : History) → 0 < slots → v.holds ≡ true
      → length stored.rows.items ≡ v.streams → Follows v stored.posts.items
      → Allows Rule slots id (v, (0, stored) ∷ []) 0 (λ _. 0)
      (λ _. Gives (step slots 0 0 0 none) (v, (0, stored) ∷ []) 0)
  gives_at slots id v stored some_slot holding len follows s r wide at small =
      let h : List Post = stored.posts.items in
      let w : View = view v.streams (rows_in h v.rows) h false in
      let out = r.taken (λ z. true_false v.holds holding ((r.free z).1 id v at)) in
      let here : id ≡ out.0 = out.5 id v at holding in
      let same : v ≡ out.1 = some-injective v out.1 (sym at ∙ ap (get_elem? s.views) here ∙ out.2) in
      let seen_is : v.seen ≡ r.history = ap (λ (u : View). u.seen) same ∙ out.4 in
      let mine = r.each id v at in
      let long = r.wide in
      let right : IsRight n h w = (
        (rows_fit h v.rows, prefix_whole h),
        (λ t. absurd (true_false false t refl)),
        λ lt. mine.2 (omega (arith, length_rows_in h v.rows)),
      ) in (
        w,
        gives,
        tt,
        record {
          history = h;
          wide = length-set s.words 0 0 ∙ r.wide;
          once = λ x. omega (arith, r.once x, sum_set (stands x) s.views id v w at, same_numbers h x v.rows);
          each = each_set (IsRight n h) s.views id w right (others_right s r id v h at seen_is follows);
          free = λ _. (
            (stored, set_here s.homes 0 (some stored) (omega arith), refl, len ∙ mine.2 (mine.1 holding)),
            each_set Idle s.views id w refl (λ j u ne g. is_false u.holds (λ t. ne (out.5 j u g t ∙ sym here))),
          );
          taken = λ ne. absurd (ne (get_or-set_same s.words 0 0 0 (omega arith)));
        },
        refl,
      )

  pub gives_back : (slots id : ℕ) (me : Me History View) → 0 < slots → MayGive me
      → Allows Rule slots id me 0 (λ _. 0) (λ _. Gives (step slots 0 0 0 none) me 0)
  gives_back slots id me some_slot may =
      let t = may.1 in
      let v : View = me.0 in
      subst (λ (c : List (ℕ × History)). Allows Rule slots id (v, c) 0 (λ _. 0)
      (λ _. Gives (step slots 0 0 0 none) (v, c) 0)) (sym t.1) (gives_at slots id v t.0 some_slot may.0 t.2 t.3)

  pub deals : (id k : ℕ) (p : ℕ × Row) (ps : List (ℕ × Row)) → 0 < length ps
      → Splits Rule id (view k (p ∷ ps) [] false) (view k ps [] false) (view k (p ∷ []) [] false)
  deals id k p ps more s r at =
      let v : View = view k (p ∷ ps) [] false in
      let left : View = view k ps [] false in
      let right : View = view k (p ∷ []) [] false in
      let views : List View = set s.views id left in
      let h : List Post = r.history in
      let mine = r.each id v at in
      let right_is : IsRight n h right = (
        (All-cons (RowIn h) p [] (mine.0.0 0 p (omega arith)) (All-nil (RowIn h)), (h, refl)),
        (λ t. absurd (true_false false t refl)),
        λ _. mine.2 (omega arith),
      ) in
      let left_is : IsRight n h left = (
        (All-tail (RowIn h) p ps mine.0.0, (h, refl)),
        (λ t. absurd (true_false false t refl)),
        λ _. mine.2 (omega arith),
      ) in record {
        history = h;
        wide = r.wide;
        once = λ x. omega (
          arith,
          r.once x,
          sum_by_push (stands x) views right,
          sum_set (stands x) s.views id v left at,
          sum_by-cons (stands_for x) p ps,
          sum_by-cons (stands_for x) p [],
        );
        each = each_snoc (IsRight n h) views right right_is
            (each_set (IsRight n h) s.views id left left_is (λ j a _ g. r.each j a g));
        free = λ z.
            let f = r.free z in
            (f.0, each_snoc Idle views right refl (each_set Idle s.views id left refl (λ j a _ g. f.1 j a g)));
        taken = λ ne. out_snoc views right h refl (out_set s.views id v left h at refl refl (r.taken ne));
      }

  pub joins : (id : ℕ) (v : View) (other : ℕ) (w : View) → v.holds ≡ false → w.holds ≡ false → 0 < length v.rows
      → Joins Rule id v other w (view v.streams (v.rows ++ w.rows) v.seen false) spent_view
  joins id v other w idle other_idle some_rows s r at apart at_other =
      let both : View = view v.streams (v.rows ++ w.rows) v.seen false in
      let views : List View = set s.views id both in
      let h : List Post = r.history in
      let was : get_elem? s.views other ≡ some w = sym (set_else s.views id other both apart) ∙ at_other in
      let mine = r.each id v at in
      let theirs = r.each other w was in
      let both_are : IsRight n h both = (
        (All-append (RowIn h) v.rows w.rows mine.0.0 theirs.0.0, mine.0.1),
        (λ t. absurd (true_false false t refl)),
        λ _. mine.2 some_rows,
      ) in
      let spent_is : IsRight n h spent_view = (
        (All-nil (RowIn h), (h, refl)),
        (λ t. absurd (true_false false t refl)),
        λ lt. absurd (omega arith),
      ) in record {
        history = h;
        wide = r.wide;
        once = λ x. omega (
          arith,
          r.once x,
          sum_set (stands x) s.views id v both at,
          sum_set (stands x) views other w spent_view at_other,
          sum_by-append (stands_for x) v.rows w.rows,
        );
        each = each_set (IsRight n h) views other spent_view spent_is
            (λ i a _ g. each_set (IsRight n h) s.views id both both_are (λ j b _ q. r.each j b q) i a g);
        free = λ z.
            let f = r.free z in
            let none_before = each_set Idle s.views id both refl (λ j b _ q. f.1 j b q) in
            (f.0, each_set Idle views other spent_view refl (λ i a _ g. none_before i a g));
        taken = λ ne. out_set views other w spent_view h at_other other_idle refl
            (out_set s.views id v both h at idle refl (r.taken ne));
      }

  -- the seat that stands for all numbers, with no slot in hand: the lock is free
  pub settles : (id : ℕ) (v : View) (s : State History View) → Seen Rule id v s → v.holds ≡ false
      → ((x : ℕ) → x < n + 1 → 0 < stands x v)
      → (stored : History) × (get_elem? s.homes 0 ≡ some (some stored)) × (length stored.rows.items ≡ n)
      × FitsView stored.posts.items v
  settles id v s known idle all =
      let r = known.0 in
      let at = known.1 in dite (ℕ_discrete (slice_index s.words 0) 0)
      (λ e.
      let f = r.free e in
      (f.0.0, f.0.1, f.0.3, subst (λ l. FitsView l v) (sym f.0.2) (r.each id v at).0))
      (λ ne.
      let out = r.taken ne in
      let t = first_number out.1.rows ((r.each out.0 out.1 out.2).1 out.3) in
      let x : ℕ = t.0 in
      let apart : id ≢ out.0 = λ q. true_false v.holds (ap (λ (u : View). u.holds)
      (some-injective v out.1 (sym at ∙ ap (get_elem? s.views) q ∙ out.2)) ∙ out.3) idle in
      let near : x < n + 1 =
      must_be_below x (n + 1) (omega (arith, t.1, r.once x, sum_at (stands x) s.views out.0 out.1 out.2)) in
      let two = sum_two (stands x) s.views id out.0 v out.1 apart at out.2 in
      absurd (omega (arith, t.1, all x near, r.once x, once_at_most x (n + 1), two)))

-- ---- the table as it is made

abbrev between : ℕ → ℕ → ℕ → ℕ
between a c x = cond (leb a x && ltb x (a + c)) 1 0

between_none : (a x : ℕ) → 0 ≡ between a 0 x
between_none a x = grind (arith, nat_tests)

between_more : (a c x : ℕ) → cond (eqb a x) 1 0 + between (a + 1) c x ≡ between a (suc c) x
between_more a c x = grind (arith, nat_tests)

between_all : (n x : ℕ) → between 0 n x ≡ once_below x n
between_all n x = grind (arith, nat_tests)

fresh_count : (a c x : ℕ) → count_by (λ p. eqb p.0 x) (fresh_from a c) ≡ between a c x
fresh_count a zero x = between_none a x
fresh_count a (suc c) x =
    let first = sum_by-cons (stands_for x) (a, row_value fresh_row) (fresh_from (a + 1) c) in
    omega (arith, first, fresh_count (a + 1) c x, between_more a c x)

fresh_fits : (a c : ℕ) → All (RowIn []) (fresh_from a c)
fresh_fits a zero = All-nil (RowIn [])
fresh_fits a (suc c) =
    All-cons (RowIn []) (a, row_value fresh_row) (fresh_from (a + 1) c) refl (fresh_fits (a + 1) c)

length_fresh : (a c : ℕ) → length (fresh_from a c) ≡ c
length_fresh a zero = refl
length_fresh a (suc c) = ap suc (length_fresh (a + 1) c)

pub opens : (n : ℕ) (stored : History) → stored.posts.items ≡ [] → length stored.rows.items ≡ n
    → Kept n (opening (0 ∷ []) (stored ∷ []) (view n (fresh_from 0 (n + 1)) [] false))
opens n stored none_yet len =
    let first : View = view n (fresh_from 0 (n + 1)) [] false in
    let first_is : IsRight n [] first = (
      (fresh_fits 0 (n + 1), ([], refl)),
      (λ t. absurd (true_false false t refl)),
      λ _. refl,
    ) in record {
      history = [];
      wide = refl;
      once = λ x. omega (arith, sum_by-cons (stands x) first [], fresh_count 0 (n + 1) x, between_all (n + 1) x);
      each = only (IsRight n []) first first_is;
      free = λ _. ((stored, refl, none_yet, len), only (λ (v : View). v.holds ≡ false) first refl);
      taken = λ ne. absurd (ne refl);
    }
  where
    only : (P : View → Type 0) (v : View) → P v → (j : ℕ) (w : View) → get_elem? (v ∷ []) j ≡ some w → P w
    only P v p zero w e = subst P (some-injective v w e) p
    only P v p (suc j) w e = absurd (some-ne-none w (sym e))

-- the first number of a dealer goes to a new seat
pub deals_fresh : (n k id first count : ℕ) → 0 < count
    → Splits (Kept n) id (view k (fresh_from first (count + 1)) [] false)
    (view k (drop 1 (fresh_from first (count + 1))) [] false)
    (view k (take 1 (fresh_from first (count + 1))) [] false)
deals_fresh n k id first count more =
    let e : suc count ≡ count + 1 = omega arith in
    subst (λ (c : ℕ). Splits (Kept n) id (view k (fresh_from first c) [] false)
    (view k (drop 1 (fresh_from first c)) [] false) (view k (take 1 (fresh_from first c)) [] false)) e
    (deals n id k (first, row_value fresh_row) (fresh_from (first + 1) count)
    (omega (arith, length_fresh (first + 1) count)))

pub first_fresh : (first count : ℕ) → take 1 (fresh_from first (count + 1)) ≡ (first, row_value fresh_row) ∷ []
first_fresh first count =
    let e : suc count ≡ count + 1 = omega arith in
    subst (λ (c : ℕ). take 1 (fresh_from first c) ≡ (first, row_value fresh_row) ∷ []) e refl

pub rest_fresh : (first count : ℕ) → drop 1 (fresh_from first (count + 1)) ≡ fresh_from (first + 1) count
rest_fresh first count =
    let e : suc count ≡ count + 1 = omega arith in
    subst (λ (c : ℕ). drop 1 (fresh_from first c) ≡ fresh_from (first + 1) count) e refl
