-- A marked cut's number is added, and another one's isn't.
use Rattle.std.proofs.Common.{◌≡◌, ◌-◌, ◌++◌, ℕ, suc, Vec, Global, map, sym, ap, ◌∙◌, arith}
use Rattle.walk_runs.specs.WholeLevels.{rest_at}
use Rattle.walk_marks.specs.Marks.{bits_list, marked_keys}
use Rattle.walk_marks.specs.RunPlaces.{run_at}
use Rattle.walk_runs.proofs.KeyLists.{map_push}
use Rattle.walk_marks.proofs.MarkedKeys.{key_pushed, key_not_pushed}
use Rattle.walk_marks.proofs.list.push_marked.Goals as goal
use Rattle.walk_marks.proofs.list.push_marked.Goals.{then-has+in_ok-push, else-has}

pub loop-d-preserved : goal.loop-d-preserved
loop-d-preserved g c =
    let f = g.K.Key.number in
    elim c.if-has.branch [
      | then-has+in_ok-push w ↦
          key_pushed (run_at c.args.level.now.runs c.args.i).prefix
          (rest_at c.args.level.now.number (run_at c.args.level.now.runs c.args.i))
          (run_at c.args.level.now.runs c.args.i).lo c.args.all.now c.args.start c.loop-d.d (f w.cut_key.result)
          (map f c.args.keys.now.items) (map f c.loop-d.keys.items) (map f c.if-has.keys.items) c.loop-d.invariant
          (sym c.has.ensures ∙ w.if-has.true)
          (rw (← c.lo-lo.ensures) w.cut_key.ensures)
          (ap (λ (v : Vec g.row.K.Denot Global). map f v.items) w.keys-is
          ∙ (ap (map f) w.in_ok-push.ensures.items ∙ map_push f c.loop-d.keys.items w.cut_key.result))
      | else-has w ↦
          ap (λ (v : Vec g.row.K.Denot Global). map f v.items) w.keys-is
          ∙ key_not_pushed (run_at c.args.level.now.runs c.args.i).prefix
          (rest_at c.args.level.now.number (run_at c.args.level.now.runs c.args.i))
          (run_at c.args.level.now.runs c.args.i).lo c.args.all.now c.args.start c.loop-d.d
          (map f c.args.keys.now.items) (map f c.loop-d.keys.items) c.loop-d.invariant
          (sym c.has.ensures ∙ w.if-has.false)
    ]

pub returns : goal.returns
returns g c =
    let e : c.loop-d.d ≡ suc ((run_at c.args.level.now.runs c.args.i).hi - (run_at c.args.level.now.runs c.args.i).lo) =
    omega (arith, c.loop-d-test.false, c.loop-d.auto.d-end, c.lo-lo.ensures, c.hi-hi.ensures) in
    c.loop-d.invariant
    ∙ ap (λ (n : ℕ). map g.K.Key.number c.args.keys.now.items
    ++ marked_keys c.args.level.now.number (run_at c.args.level.now.runs c.args.i)
    (bits_list c.args.all.now c.args.start 0 n)) e
