-- The last two digits are taken off.
use Rattle.std.proofs.Common.{◌≡◌, ℕ, ◌-◌, ◌/◌, ◌%◌, ◌^◌, ◌<◌, sym, ap, ◌∙◌, subst, arith}
use Rattle.walk_keys.specs.Keys.{count_base, digits}
use Rattle.walk_keys.specs.Neighbors.{cut_at}
use Rattle.walk_runs.proofs.PointFacts.{digit_x, digit_y, last_two}
use Rattle.walk_runs.proofs.point.point_of.Goals as goal

pub overflow_cast-result : goal.overflow_cast-result
overflow_cast-result g c =
    let x : c.digit.result ≡ g.K.Key.number c.args.cut / count_base % count_base =
    c.digit.ensures ∙ digit_x c.args.n (g.K.Key.number c.args.cut) c.requires.two c.requires.below in
    omega arith

pub overflow_cast-result-2 : goal.overflow_cast-result-2
overflow_cast-result-2 g c =
    let y : c.digit-2.result ≡ g.K.Key.number c.args.cut % count_base =
    c.digit-2.ensures ∙ digit_y c.args.n (g.K.Key.number c.args.cut) c.requires.two c.requires.below in
    omega arith

pub returns-clause-below : goal.returns-clause-below
returns-clause-below g c =
    subst (λ (key : ℕ). key < count_base ^ (c.args.n - 2)) (sym c.without_two.ensures)
    (last_two c.args.n (g.K.Key.number c.args.cut) c.requires.two c.requires.below).0

pub returns-clause-cut : goal.returns-clause-cut
returns-clause-cut g c =
    let cut = g.K.Key.number c.args.cut in
    let x : c.digit.result ≡ cut / count_base % count_base =
    c.digit.ensures ∙ digit_x c.args.n cut c.requires.two c.requires.below in
    let y : c.digit-2.result ≡ cut % count_base =
    c.digit-2.ensures ∙ digit_y c.args.n cut c.requires.two c.requires.below in
    ap (λ (key : ℕ). cut_at (digits (c.args.n - 2) key) c.digit.result c.digit-2.result) c.without_two.ensures
    ∙ ap (λ (u : ℕ). cut_at (digits (c.args.n - 2) (cut / count_base / count_base)) u c.digit-2.result) x
    ∙ ap (λ (v : ℕ). cut_at (digits (c.args.n - 2) (cut / count_base / count_base)) (cut / count_base % count_base) v) y
    ∙ (last_two c.args.n cut c.requires.two c.requires.below).1
