-- What a seat knows once it has taken the slot, posted, looked and given the slot back; and what all seats know.
use Rattle.std.proofs.Common.{◌≡◌, ℕ, zero, suc, ◌+◌, ◌<◌, inl, inr, Bool, true, false, eq-eqb, eqb, cond, List, [], ◌∷◌, ◌++◌, length, map, get_or, All, count_by, IfOk, IfErr, sym, refl, ap, ◌∙◌, subst, arith, rules}
use Rattle.std.specs.Prelude.{Result, Ok, Err, is_ok, slice_get, Some}
use Rattle.std.proofs.lemmas.List.Sums.{sum_by-cons}
use Rattle.std.specs.declared.alloc.AllocError.{AllocError}
use mathlib.Core.Logic.{dite}
use mathlib.Core.Option.{some, some-injective, some-ne-none}
use lib.ListN.{get_elem?}
use native.Mathlib.Decide.{ℕ_discrete}
use Rattle.atomic_table.specs.Table.{Me, rest}
use Rattle.atomic_table.proofs.Lists.{at_longer, at_last}
use Rattle.def_format.specs.Histories as histories
use Rattle.def_format.specs.Histories.{fresh_row, row_of, rows_from, rows_of, IsLegal}
use Rattle.def_format.proofs.HistoryFacts.{row_at, row_found, legal_found}
use Rattle.pd_register.specs.declared.row.Row.{Row}
use Rattle.pd_register.specs.declared.step.Step.{Step}
use Rattle.pd_register.specs.declared.post.Post.{Post}
use Rattle.pd_register.specs.declared.history.History.{History}
use Rattle.pd_register.specs.declared.snapshot.Snapshot.{Snapshot}
use Rattle.pd_register.specs.declared.view.View.{View}
use Rattle.pd_register.specs.declared.seat.Seat.{Seat}
use Rattle.pd_register.specs.Views.{history_view, row_view, rows_view, AreRowsOf, HasRow, post_value, row_in}
use Rattle.pd_register.specs.LockRule.{view, stands, rows_in, Takes, Follows, FitsView, Looks, ShowsRows, after_giving}
use Rattle.pd_register.proofs.ViewFacts.{view_of_row}

abbrev Mine : Type 0
Mine = Me History View

abbrev RowIn : List Post → ℕ × Row → Type 0
RowIn h p = row_in p.0 h ≡ p.1

-- ---- one row

pub own_row : (rows : List (ℕ × Row)) (k : ℕ) (row : Row) (h : List Post) → rows ≡ (k, row) ∷ []
    → All (RowIn h) rows → row_in k h ≡ row
own_row rows k row h e all = subst (All (RowIn h)) e all 0 (k, row) (omega arith)

pub stored_row : (stored : History) (k : ℕ) (row : Row) → k < length stored.rows.items
    → row_in k stored.posts.items ≡ row → get_or (rows_view stored.rows.items) k fresh_row ≡ row_view row
stored_row stored k row near e =
    let h = history_view stored.posts.items in
    let n : ℕ = length stored.rows.items in
    ap (λ (l : List histories.Row). get_or l k fresh_row) stored.shown ∙ (row_at 0 n h k fresh_row near
    ∙ (ap (λ (j : ℕ). row_of j h) (omega arith) ∙ sym (view_of_row row (row_of k h) e)))

pub stands_own : (v : View) (k : ℕ) (row : Row) → v.rows ≡ (k, row) ∷ [] → 0 < stands k v
stands_own v k row e =
    let one : cond {A = ℕ} (eqb k k) 1 0 ≡ 1 = ap (λ b. cond {A = ℕ} b 1 0) (eq-eqb k k refl) in
    let same = ap (λ (l : List (ℕ × Row)). stands k (view 0 l [] false)) e in
    omega (arith, one, same, sum_by-cons (λ (q : ℕ × Row). cond (eqb q.0 k) 1 0) (k, row) [])

-- ---- a post

-- what the slot holds after a post
abbrev pub Adds : Result ℕ AllocError → List Post → List Post → ℕ → Step → Type 0
Adds answer old new k step = IfOk answer (λ n. (n ≡ length new) × (new ≡ old ++ post_value k step ∷ []))

pub follows : (answer : Result ℕ AllocError) (v : View) (old new : List Post) (k : ℕ) (step : Step) → v.seen ≡ old
    → 0 < stands k v → Adds answer old new k step → IfErr answer (λ _. new ≡ old) → Follows v new
follows (Ok n) v old new k step seen own adds kept =
    inr (post_value k step, own, adds.1 ∙ ap (λ l. l ++ post_value k step ∷ []) (sym seen))
follows (Err e) v old new k step seen own adds kept = inl (kept ∙ sym seen)

pub posts_when_added : (answer : Result ℕ AllocError) (b : Bool) (old new : List Post) (k : ℕ) (step : Step)
    → b ≡ is_ok answer → b ≡ true → Adds answer old new k step → new ≡ old ++ post_value k step ∷ []
posts_when_added (Ok n) b old new k step e is adds = adds.1
posts_when_added (Err x) b old new k step e is adds = absurd (search (rules, sym is ∙ e))

pub posts_when_refused : (answer : Result ℕ AllocError) (b : Bool) (old new : List Post) → b ≡ is_ok answer
    → b ≡ false → IfErr answer (λ _. new ≡ old) → new ≡ old
posts_when_refused (Ok n) b old new e is kept = absurd (search rules)
posts_when_refused (Err x) b old new e is kept = kept

pub posts_kept : (answer : Result ℕ AllocError) (old new : List Post) (rows rows_after : List Row)
    → IfErr answer (λ _. (new ≡ old) × (rows_after ≡ rows)) → IfErr answer (λ _. new ≡ old)
posts_kept (Ok n) old new rows rows_after k = k
posts_kept (Err e) old new rows rows_after k = k.0

-- ---- the slot in hand

-- the seat after the slot went back
pub own_after : (new m : Mine) (k : ℕ) (row row_now : Row) (h : List Post) → new ≡ after_giving m h
    → m.0.rows ≡ (k, row) ∷ [] → rest m.1 ≡ [] → row_in k h ≡ row_now → k < m.0.streams
    → ((new.0.rows ≡ (k, row_now) ∷ []) × (new.0.holds ≡ false) × (new.1 ≡ []) × (k < new.0.streams))
    × (row_in k new.0.seen ≡ row_now)
own_after new m k row row_now h is own empty now near = (
  (
    ap (λ (x : Mine). x.0.rows) is ∙ (ap (rows_in h) own ∙ ap (λ (r : Row). (k, r) ∷ []) now),
    ap (λ (x : Mine). x.0.holds) is,
    ap (λ (x : Mine). x.1) is ∙ empty,
    subst (λ (j : ℕ). k < j) (sym (ap (λ (x : Mine). x.0.streams) is)) near,
  ),
  ap (λ (x : Mine). row_in k x.0.seen) is ∙ now,
)

-- what a taken slot shows: it is the one that is lent
pub record Holds (m new : Mine) (held : History) : Type 0 where
  pub view_is : new.0 ≡ view m.0.streams m.0.rows held.posts.items true
  pub len : length held.rows.items ≡ m.0.streams
  pub empty : rest new.1 ≡ []
  pub fits : FitsView held.posts.items m.0

pub holds_now : (m new : Mine) (held : History) → Takes m new → new.1 ≡ (0, held) ∷ rest new.1 → m.1 ≡ []
    → Holds m new held
holds_now m new held t lent idle =
    let list = sym (ap (λ (x : Mine). x.1) t.1) ∙ lent in
    let same : t.0 ≡ held = ap (λ (l : List (ℕ × History)). (get_or l 0 (0, t.0)).1) list in record {
      view_is = ap (λ (x : Mine). x.0) t.1
          ∙ ap (λ (s : History). view m.0.streams m.0.rows s.posts.items true) same;
      len = ap (λ (s : History). length s.rows.items) (sym same) ∙ t.2;
      empty = ap (λ (x : Mine). rest x.1) t.1 ∙ idle;
      fits = subst (λ (s : History). FitsView s.posts.items m.0) same t.3;
    }

-- a legal history stands in the slot
pub slot_legal : (held : History) (n : ℕ) → length held.rows.items ≡ n → IsLegal n (history_view held.posts.items)
slot_legal held n len =
    let h = history_view held.posts.items in
    subst (λ (k : ℕ). IsLegal k h) len (legal_found (length held.rows.items) h held.legal)

-- a legal history was given back, which the seat has seen
pub given_legal : (new m : Mine) (held : History) (n : ℕ) → new ≡ after_giving m held.posts.items
    → length held.rows.items ≡ n → IsLegal n (history_view new.0.seen)
given_legal new m held n is len =
    let seen = ap (λ (x : Mine). x.0.seen) is in
    subst (λ (l : List Post). IsLegal n (history_view l)) (sym seen) (slot_legal held n len)

-- ---- a look

rows_again : (h : List Post) (rows : List (ℕ × Row)) → All (RowIn h) rows → rows_in h rows ≡ rows
rows_again h [] all = refl
rows_again h (p ∷ ps) all =
    let head = all 0 p (omega arith) in
    let tail = rows_again h ps (λ k d lt. all (suc k) d (omega arith)) in
    λ i. (p.0, head i) ∷ tail i

pub looks : (m taken new : Mine) (held : History) → Holds m taken held → new ≡ after_giving taken held.posts.items
    → Looks m new
looks m taken new held t is =
    let h : List Post = held.posts.items in
    let rows : rows_in h taken.0.rows ≡ m.0.rows =
    ap (λ (v : View). rows_in h v.rows) t.view_is ∙ rows_again h m.0.rows t.fits.0 in
    let same : new ≡ (view m.0.streams m.0.rows h false, []) =
    is ∙ (λ i. (view (t.view_is i).streams (rows i) h false, t.empty i)) in
    let seen : new.0.seen ≡ h = ap (λ (x : Mine). x.0.seen) same in (
      subst (λ (l : List Post). new ≡ (view m.0.streams m.0.rows l false, [])) (sym seen) same,
      subst (λ (l : List Post). FitsView l m.0) (sym seen) t.fits,
      subst (λ (l : List Post). IsLegal m.0.streams (history_view l)) (sym seen) (slot_legal held m.0.streams t.len),
    )

-- the rows of the slot are shown
pub rows_shown : (answer : Result Snapshot AllocError) (m new : Mine) (held : History)
    → length held.rows.items ≡ m.0.streams → new.0.seen ≡ held.posts.items
    → IfOk answer (λ s. s.rows.items ≡ held.rows.items) → IfOk answer (λ s. ShowsRows m new s.rows.items)
rows_shown (Ok s) m new held len seen same = record {
  count = ap length same ∙ len;
  each = ap rows_view same ∙ (held.shown ∙ (λ i. rows_of (len i) (history_view (sym seen i))));
}
rows_shown (Err e) m new held len seen same = same

-- the rows of n streams, where n is known by another name
pub rows_renamed : (answer : Result Snapshot AllocError) (n k : ℕ) (h : List histories.Post) → n ≡ k
    → IfOk answer (λ s. AreRowsOf n h s.rows.items) → IfOk answer (λ s. AreRowsOf k h s.rows.items)
rows_renamed answer n k h e = subst (λ (j : ℕ). IfOk answer (λ s. AreRowsOf j h s.rows.items)) e

-- the row of the seat's own stream is shown
pub own_shown : (answer : Result Snapshot AllocError) (n k : ℕ) (row : Row) (h : List Post) → k < n → row_in k h ≡ row
    → IfOk answer (λ s. AreRowsOf n (history_view h) s.rows.items)
    → IfOk answer (λ s. HasRow s.rows.items k (row_view row))
own_shown (Ok s) n k row h near here shown =
    ap (λ (l : List histories.Row). slice_get l k) shown.each ∙ (row_found 0 n (history_view h) k near
    ∙ (ap (λ (j : ℕ). Some (row_of j (history_view h))) (omega arith)
    ∙ ap Some (sym (view_of_row row (row_of k (history_view h)) here))))
own_shown (Err e) n k row h near here shown = shown

-- ---- all seats

-- the pair stands among the rows
abbrev pub At : List (ℕ × Row) → ℕ × Row → Type 0
At rows p = (place : ℕ) × (get_elem? rows place ≡ some p)

pub at_more : (rows more : List (ℕ × Row)) (p : ℕ × Row) → At rows p → At (rows ++ more) p
at_more rows more p a = (a.0, at_longer rows more a.0 p a.1)

pub at_new : (rows : List (ℕ × Row)) (p : ℕ × Row) → At (rows ++ p ∷ []) p
at_new rows p = (length rows, at_last rows p (length rows) refl)

pub at_stands : (rows : List (ℕ × Row)) (p : ℕ × Row) → At rows p → 0 < count_by (λ q. eqb q.0 p.0) rows
at_stands [] p a = absurd (some-ne-none p (sym a.1))
at_stands (q ∷ qs) p (zero, e) =
    let same : q.0 ≡ p.0 = ap (λ (r : ℕ × Row). r.0) (some-injective q p e) in
    let one : cond {A = ℕ} (eqb q.0 p.0) 1 0 ≡ 1 = ap (λ b. cond {A = ℕ} b 1 0) (eq-eqb q.0 p.0 same) in
    omega (arith, one, sum_by-cons (λ (r : ℕ × Row). cond (eqb r.0 p.0) 1 0) q qs)
at_stands (q ∷ qs) p (suc k, e) =
    omega (arith, at_stands qs p (k, e), sum_by-cons (λ (r : ℕ × Row). cond (eqb r.0 p.0) 1 0) q qs)

pub at_some : (rows : List (ℕ × Row)) (p : ℕ × Row) → At rows p → 0 < length rows
at_some [] p a = absurd (some-ne-none p (sym a.1))
at_some (q ∷ qs) p a = omega arith

pub at_fits : (h : List Post) (rows : List (ℕ × Row)) (p : ℕ × Row) → At rows p → All (RowIn h) rows
    → row_in p.0 h ≡ p.1
at_fits h [] p a all = absurd (some-ne-none p (sym a.1))
at_fits h (q ∷ qs) p (zero, e) all = subst (RowIn h) (some-injective q p e) (all 0 q (omega arith))
at_fits h (q ∷ qs) p (suc k, e) all = at_fits h qs p (k, e) (λ i d lt. all (suc i) d (omega arith))

-- the seats' rows, in their order, are those of the history
pub rows_closed : (a n : ℕ) (h : List Post) (seats : List Seat) → length seats ≡ n
    → ((k : ℕ) (d : Seat) → k < length seats → (get_or seats k d).stream ≡ a + k)
    → All (λ s. row_in s.stream h ≡ s.row) seats
    → rows_from a n (history_view h) ≡ map (λ s. row_view s.row) seats
rows_closed a zero h [] len order fits = refl
rows_closed a (suc n) h [] len order fits = absurd (omega arith)
rows_closed a zero h (s ∷ ss) len order fits = absurd (omega arith)
rows_closed a (suc n) h (s ∷ ss) len order fits =
    let here : s.stream ≡ a = order 0 s (omega arith) ∙ omega arith in
    let shown : row_in a h ≡ s.row = ap (λ (j : ℕ). row_in j h) (sym here) ∙ fits 0 s (omega arith) in
    let head : row_of a (history_view h) ≡ row_view s.row = sym (view_of_row s.row (row_of a (history_view h)) shown) in
    let later : (k : ℕ) (d : Seat) → k < length ss → (get_or ss k d).stream ≡ a + 1 + k =
    λ k d lt. order (suc k) d (omega arith) ∙ omega arith in
    let tail = rows_closed (a + 1) n h ss (omega arith) later (λ k d lt. fits (suc k) d (omega arith)) in
    λ i. head i ∷ tail i

-- the rows show every stream, and the watcher's number
pub stands_each : (n : ℕ) (rows : List (ℕ × Row)) (seats : List Seat) (last : Row) → At rows (n, last)
    → length seats ≡ n → ((k : ℕ) (d : Seat) → k < length seats → (get_or seats k d).stream ≡ k)
    → All (λ (s : Seat). At rows (s.stream, s.row)) seats
    → (x : ℕ) → x < n + 1 → 0 < count_by (λ q. eqb q.0 x) rows
stands_each n rows [] last at len order there x near =
    let same : x ≡ n = omega arith in
    subst (λ (j : ℕ). 0 < count_by (λ q. eqb q.0 j) rows) (sym same) (at_stands rows (n, last) at)
stands_each n rows (s ∷ ss) last at len order there x near =
    dite (ℕ_discrete x n)
    (λ same. subst (λ (j : ℕ). 0 < count_by (λ q. eqb q.0 j) rows) (sym same) (at_stands rows (n, last) at))
    (λ other.
    let here : Seat = get_or (s ∷ ss) x s in
    subst (λ (j : ℕ). 0 < count_by (λ q. eqb q.0 j) rows) (order x s (omega arith))
    (at_stands rows (here.stream, here.row) (there x s (omega arith))))
