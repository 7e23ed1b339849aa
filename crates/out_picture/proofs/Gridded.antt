-- Where events stand: right of, below and far enough from each other, and on the page.
use Rattle.std.proofs.Common.{◌≡◌, ℕ, ◌+◌, ◌-◌, ◌<◌, ◌≤◌, Bool, true, false, IsTrue, List, arith}
use Rattle.std.proofs.lemmas.Bool.{leb-true, ltb-true, and_parts}
use Rattle.def_format.specs.Limits.{process_limit}
use Rattle.out_svg.specs.declared.point.Point.{Point}
use Rattle.out_picture.specs.Layout.{column_x, is_shown, lane_y, right}
use Rattle.out_picture.specs.Pictures.{head_point, page_width}
use Rattle.out_picture.specs.Shown.{IsGrid, IsNear}
use Rattle.out_picture.specs.declared.evidence.Evidence.{Evidence}
use Rattle.out_picture.specs.declared.window.Window.{Window}

module _ (window : Window) where
  first_shown : (m : ℕ) → IsTrue (is_shown window m) → (window.first ≤ m) × (m < window.first + window.shown)
  first_shown m is =
      let parts = and_parts _ _ is in
      (leb-true window.first m parts.0, ltb-true m (window.first + window.shown) parts.1)

  pub grid_is : (processes width height : ℕ) → processes ≤ process_limit → right window ≤ width
      → height ≡ lane_y processes - 30
      → IsGrid (is_shown window) processes width height (column_x window) lane_y
  grid_is processes width height few wide high = record {
    rightwards = λ m n first second less.
        let a : (window.first ≤ m) × (m < window.first + window.shown) = first_shown m first in
        let b : (window.first ≤ n) × (n < window.first + window.shown) = first_shown n second in
        omega (arith, a.0, a.1, b.0, b.1);
    downwards = λ p q less within. omega arith;
    wide = λ m is. omega (arith, wide);
    high = λ p within. omega (arith, high);
  }

pub near_head : (from_above from_right : Bool) (at : Point) → 40 ≤ at.y
    → IsNear at (head_point from_above from_right at)
near_head true true at low = (omega arith, omega arith, omega arith, omega arith)
near_head true false at low = (omega arith, omega arith, omega arith, omega arith)
near_head false true at low = (omega arith, omega arith, omega arith, omega arith)
near_head false false at low = (omega arith, omega arith, omega arith, omega arith)

pub low_lane : (p : ℕ) → 40 ≤ lane_y p
low_lane p = omega arith

pub within_page : (window : Window) (title : List ℕ) (evidence : Evidence) (width : ℕ)
    → width ≡ page_width window title evidence → right window ≤ width
within_page window title evidence width is = omega (arith, is)
