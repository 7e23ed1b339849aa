-- Where things stand in a picture. Lengths are in the units of the page.
use Rattle.std.specs.Prelude.{ℕ, zero, suc, ◌+◌, ◌-◌, ◌*◌, min, max, Bool, ◌&&◌, nat_le, nat_lt, List, [], ◌++◌}
use Rattle.def_format.specs.Limits.{process_limit}
use Rattle.def_model.specs.Events.{Place, place}
use Rattle.out_svg.specs.declared.point.Point.{Point}
use Rattle.out_picture.specs.declared.extent.Extent.{Extent}
use Rattle.out_picture.specs.declared.extent.Extent.TheVariants.{Around, From, All}
use Rattle.out_picture.specs.declared.window.Window.{Window}

-- what f gives for 0, 1 and so on, below n, one after another
abbrev pub upto : {A : Type 0} → (ℕ → List A) → ℕ → List A
upto f zero = []
upto f (suc n) = upto f n ++ f n

-- the greatest number that f gives below n; 0 if it gives none
abbrev pub max_upto : (ℕ → ℕ) → ℕ → ℕ
max_upto f zero = 0
max_upto f (suc n) = max (max_upto f n) (f n)

-- ---- columns

-- how many columns are shown at most
abbrev pub column_limit : ℕ
column_limit = 24

-- how many columns are shown right of the evidence, if the run has them
abbrev pub columns_after : ℕ
columns_after = 8

-- the last column that is shown, if a run has this many columns and its evidence ends in column `focus`
abbrev pub last_shown : (widest focus : ℕ) → ℕ
last_shown widest focus = min widest (max (focus + columns_after) column_limit)

-- the left end of the lanes: there is room for the names of the processes before it
abbrev pub left_of : (names : ℕ) → ℕ
left_of names = max 182 (min 600 names) + 38

-- the columns that are shown, if the names of the processes are given this room
abbrev pub window_around : (widest focus names : ℕ) → Window
window_around widest focus names = record {
  first = last_shown widest focus - column_limit + 1;
  shown = min (last_shown widest focus) column_limit;
  left = left_of names;
}

-- the first column that is shown, if those from this one on are asked for: the last one at most
abbrev pub first_from : (column widest : ℕ) → ℕ
first_from column widest = max 1 (min column widest)

-- the columns that are shown, if those from this one on are asked for
abbrev pub window_from : (column widest names : ℕ) → Window
window_from column widest names = record {
  first = first_from column widest;
  shown = min (widest - (first_from column widest - 1)) column_limit;
  left = left_of names;
}

-- how many columns are shown at most, if all are asked for
abbrev pub all_limit : ℕ
all_limit = 65535

-- the columns that are shown, if all are asked for
abbrev pub window_of_all : (widest names : ℕ) → Window
window_of_all widest names = record { first = 1; shown = min widest all_limit; left = left_of names }

-- The columns that are shown, if this is asked for.
abbrev pub window_of : Extent → (widest focus names : ℕ) → Window
window_of Around widest focus names = window_around widest focus names
window_of (From column) widest focus names = window_from column widest names
window_of All widest focus names = window_of_all widest names

-- a column is among those that are shown
abbrev pub is_shown : Window → ℕ → Bool
is_shown window column = nat_le window.first column && nat_lt column (window.first + window.shown)

-- the greatest column of the last of these many events of each process
abbrev pub greatest_column : (Place → ℕ) → (ℕ → ℕ) → ℕ → ℕ
greatest_column columns counts processes = max_upto (λ p. columns (place p (counts p))) processes

-- ---- places

-- how far one column is right of the other, and one lane below the other
abbrev pub column_width : ℕ
column_width = 48

abbrev pub lane_height : ℕ
lane_height = 100

-- where a column stands: those before and after what is shown stand at the ends of the lanes
abbrev pub column_x : Window → ℕ → ℕ
column_x window column = window.left + column_width * min (column + 1 - window.first) (window.shown + 1)

-- the right end of the lanes
abbrev pub right : Window → ℕ
right window = window.left + column_width * (window.shown + 1)

-- where the lane of a process stands; there are no more than `process_limit`
abbrev pub lane_y : ℕ → ℕ
lane_y p = 150 + lane_height * min p process_limit

-- where an event stands
abbrev pub event_point : Window → (Place → ℕ) → Place → Point
event_point window columns e = record { x = column_x window (columns e); y = lane_y e.process }
