-- The rule of the lock. Word 0 is 0 if it is free, and slot 0 holds the history with its rows.
use Rattle.std.specs.Prelude.{◌≡◌, ◌≢◌, ℕ, zero, suc, ◌+◌, ◌<◌, ◌⊎◌, Bool, true, false, eqb, ltb, cond, List, [], ◌∷◌, ◌++◌, length, map, slice_index, All, count_by, sum_by}
use mathlib.Core.Option.{Option, some}
use mathlib.Core.List.{IsPrefix}
use lib.ListN.{get_elem?}
use Rattle.atomic_table.specs.Table.{State, Step, Me, rest}
use Rattle.def_format.specs.Histories.{fresh_row, IsLegal}
use Rattle.pd_register.specs.declared.view.View.{View}
use Rattle.pd_register.specs.declared.row.Row.{Row}
use Rattle.pd_register.specs.declared.post.Post.{Post}
use Rattle.pd_register.specs.declared.history.History.{History}
use Rattle.pd_register.specs.Views.{history_view, AreRowsOf, row_value, row_in}

abbrev pub view : ℕ → List (ℕ × Row) → List Post → Bool → View
view streams rows seen holds = record { streams = streams; rows = rows; seen = seen; holds = holds }

-- the view of a seat that has given all away
abbrev pub spent_view : View
spent_view = view 0 [] [] false

-- how often the view stands for the number
abbrev pub stands : ℕ → View → ℕ
stands number v = count_by (λ p. eqb p.0 number) v.rows

-- 1 if x is below n, and else 0
abbrev pub once_below : ℕ → ℕ → ℕ
once_below x n = cond (ltb x n) 1 0

-- ---- the rule

-- the rows are those of the history, which begins with what was seen
abbrev pub FitsView : List Post → View → Type 0
FitsView history v = All (λ p. row_in p.0 history ≡ p.1) v.rows × IsPrefix v.seen history

-- what a view knows is right, and one that stands for no number holds no slot
abbrev pub IsRight : ℕ → List Post → View → Type 0
IsRight n history v =
    FitsView history v
    × (v.holds ≡ true → 0 < length v.rows)
    × (0 < length v.rows → v.streams ≡ n)

-- the slot is at home with this history
abbrev pub IsHome : ℕ → List (Option History) → List Post → Type 0
IsHome n homes history =
    (stored : History)
    × (get_elem? homes 0 ≡ some (some stored))
    × (stored.posts.items ≡ history)
    × (length stored.rows.items ≡ n)

-- one view alone holds the slot, and has seen the history
abbrev pub IsOut : List View → List Post → Type 0
IsOut views history =
    (holder : ℕ) × (v : View)
    × (get_elem? views holder ≡ some v)
    × (v.holds ≡ true)
    × (v.seen ≡ history)
    × ((seat : ℕ) (u : View) → get_elem? views seat ≡ some u → u.holds ≡ true → seat ≡ holder)

-- no view holds the slot
abbrev pub NoneHolds : List View → Type 0
NoneHolds views = (seat : ℕ) (v : View) → get_elem? views seat ≡ some v → v.holds ≡ false

-- There is one history, that of the slot. Each number from 0 to n is in one view alone: those below n are streams, and
-- n is the watcher's.
pub record Kept (n : ℕ) (s : State History View) : Type 0 where
  pub history : List Post
  pub wide : length s.words ≡ 1
  pub once : (number : ℕ) → sum_by (stands number) s.views ≡ once_below number (n + 1)
  pub each : (seat : ℕ) (v : View) → get_elem? s.views seat ≡ some v → IsRight n history v
  pub free : slice_index s.words 0 ≡ 0 → IsHome n s.homes history × NoneHolds s.views
  pub taken : slice_index s.words 0 ≢ 0 → IsOut s.views history

-- ---- the steps

-- what a seat knows, with the slots that it holds
abbrev pub Mine : Type 0
Mine = Me History View

-- the numbers from `first` on, each with the row of a stream without steps
abbrev pub fresh_from : ℕ → ℕ → List (ℕ × Row)
fresh_from first zero = []
fresh_from first (suc count) = (first, row_value fresh_row) ∷ fresh_from (first + 1) count

-- the lock was free: the seat takes the slot, whose history it has now seen
abbrev pub Takes : Mine → Mine → Type 0
Takes m new =
    (stored : History)
    × (new ≡ (view m.0.streams m.0.rows stored.posts.items true, (0, stored) ∷ m.1))
    × (length stored.rows.items ≡ m.0.streams)
    × FitsView stored.posts.items m.0

-- the seat takes the slot if the word is 0, and else nothing changes
abbrev pub Tries : Step History → Mine → ℕ → Mine → Type 0
Tries step m found new = (found ≡ 0 → Takes m new) × (found ≢ 0 → new ≡ m)

-- the history in the slot that a seat took last
abbrev pub history_in_hand : List (ℕ × History) → List Post
history_in_hand [] = []
history_in_hand (x ∷ xs) = x.1.posts.items

-- the numbers of a view, each with its row in the history
abbrev pub rows_in : List Post → List (ℕ × Row) → List (ℕ × Row)
rows_in history rows = map (λ p. (p.0, row_in p.0 history)) rows

-- what a seat knows once it has given back the slot with this history
abbrev pub after_giving : Mine → List Post → Mine
after_giving m history = (view m.0.streams (rows_in history m.0.rows) history false, rest m.1)

-- the seat gives the slot back, and has seen the history that it gives
abbrev pub Gives : Step History → Mine → ℕ → Mine → Type 0
Gives step m found new = new ≡ after_giving m (history_in_hand m.1)

-- the history is the one that was seen, or has one step more, of a stream that the view stands for
abbrev pub Follows : View → List Post → Type 0
Follows v history = (history ≡ v.seen) ⊎ ((e : Post) × (0 < stands e.stream v) × (history ≡ v.seen ++ e ∷ []))

-- the seat holds the slot, with the history as it was taken, or with one step more of a stream that it stands for
abbrev pub MayGive : Mine → Type 0
MayGive m =
    (m.0.holds ≡ true)
    × ((stored : History)
    × (m.1 ≡ (0, stored) ∷ [])
    × (length stored.rows.items ≡ m.0.streams)
    × Follows m.0 stored.posts.items)

-- the seat has seen a legal history, which begins with all that it had seen, and in which its rows are as they were
abbrev pub Looks : Mine → Mine → Type 0
Looks m new =
    (new ≡ (view m.0.streams m.0.rows new.0.seen false, []))
    × FitsView new.0.seen m.0
    × IsLegal m.0.streams (history_view new.0.seen)

-- the rows are those of the history that was then seen
abbrev pub ShowsRows : Mine → Mine → List Row → Type 0
ShowsRows m new rows = AreRowsOf m.0.streams (history_view new.0.seen) rows
