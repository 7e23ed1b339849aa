-- Run by run the numbers of the marked cuts are added, and all of them are the list of the avoiding cuts.
use Rattle.std.proofs.Common.{◌≡◌, ◌+◌, ◌-◌, ◌<◌, ◌++◌, ℕ, suc, List, length, map, sym, ap, ◌∙◌, arith}
use Rattle.walk_keys.specs.Keys.{key_of}
use Rattle.walk_runs.specs.WholeLevels.{Run, marked_of_runs}
use Rattle.walk_marks.specs.Marks.{Marking, bits_list, lists_of, marked_keys, start_of}
use Rattle.walk_marks.specs.RunPlaces.{run_at}
use Rattle.walk_marks.proofs.Windows.{first_at, first_within}
use Rattle.walk_marks.proofs.RunKeys.{prefix_length}
use Rattle.walk_marks.proofs.MarkedKeys.{runs_more}
use Rattle.walk_marks.proofs.ListedCuts.{run_digits, run_small, all_taken, marked_kept, marked_listed}
use Rattle.walk_marks.proofs.marks.Marks.keys.Goals as goal

pub push_marked-requires-clause-small : goal.push_marked-requires-clause-small
push_marked-requires-clause-small g c =
    run_small c.args.level.now c.args.self.now c.requires c.loop-i.i
    (omega (arith, c.loop-i-test.true, c.len-i-end.ensures))

pub push_marked-requires-clause-room : goal.push_marked-requires-clause-room
push_marked-requires-clause-room g c =
    first_within c.args.level.now.runs c.args.self.now c.self.inside.first.items c.deref.result.now c.loop-i.i
    c.index.result.now c.requires.marking.shape (ap (λ (m : Marking). m.first) c.self.view_is)
    (c.deref.ensures.value ∙ ap (λ (m : Marking). m.words) c.self.view_is)
    (omega (arith, c.loop-i-test.true, c.len-i-end.ensures)) c.index.ensures

pub push_marked-requires-clause-few : goal.push_marked-requires-clause-few
push_marked-requires-clause-few g c =
    let many : length (run_at c.args.level.now.runs c.loop-i.i).prefix + 2 ≡ length c.requires.c =
    prefix_length c.requires.c c.args.level.now c.requires.whole c.loop-i.i
    (omega (arith, c.loop-i-test.true, c.len-i-end.ensures)) in
    omega (arith, c.requires.whole.processes, c.limits.ensures.few)

pub push_marked-requires-clause-digits : goal.push_marked-requires-clause-digits
push_marked-requires-clause-digits g c x =
    run_digits c.args.level.now c.args.self.now c.requires c.loop-i.i x
    (omega (arith, c.loop-i-test.true, c.len-i-end.ensures))

pub loop-i-preserved : goal.loop-i-preserved
loop-i-preserved g c =
    let lt : c.loop-i.i < length c.args.level.now.runs = omega (arith, c.loop-i-test.true, c.len-i-end.ensures) in
    let start : c.index.result.now ≡ start_of c.args.level.now.runs c.loop-i.i =
    first_at c.args.level.now.runs c.args.self.now c.self.inside.first.items c.loop-i.i c.index.result.now
    c.requires.marking.shape (ap (λ (m : Marking). m.first) c.self.view_is) lt c.index.ensures in
    let zero_start : c.index.result.now ≡ 0 + start_of c.args.level.now.runs c.loop-i.i = omega (arith, start) in
    let words : c.deref.result.now ≡ c.args.self.now.words =
    c.deref.ensures.value ∙ ap (λ (m : Marking). m.words) c.self.view_is in
    c.in_ok-push_marked.ensures
    ∙ (ap (λ (ws : List ℕ). map g.K.Key.number c.loop-i.keys.items ++ marked_keys c.args.level.now.number
    (run_at c.args.level.now.runs c.loop-i.i) (bits_list ws c.index.result.now 0
    (suc ((run_at c.args.level.now.runs c.loop-i.i).hi - (run_at c.args.level.now.runs c.loop-i.i).lo)))) words
    ∙ (ap (λ (n : ℕ). map g.K.Key.number c.loop-i.keys.items ++ marked_keys c.args.level.now.number
    (run_at c.args.level.now.runs c.loop-i.i) (bits_list c.args.self.now.words n 0
    (suc ((run_at c.args.level.now.runs c.loop-i.i).hi - (run_at c.args.level.now.runs c.loop-i.i).lo)))) zero_start
    ∙ (ap (λ (ks : List ℕ). ks ++ marked_keys c.args.level.now.number
    (run_at c.args.level.now.runs c.loop-i.i) (bits_list c.args.self.now.words
    (0 + start_of c.args.level.now.runs c.loop-i.i) 0
    (suc ((run_at c.args.level.now.runs c.loop-i.i).hi - (run_at c.args.level.now.runs c.loop-i.i).lo))))
    c.loop-i.invariant
    ∙ sym (runs_more c.args.level.now.number c.args.level.now.runs c.args.self.now.words 0 c.loop-i.i lt))))

pub returns-clause-kept : goal.returns-clause-kept
returns-clause-kept g c =
    let end : c.loop-i.i ≡ length c.args.level.now.runs =
    omega (arith, c.loop-i-test.false, c.loop-i.auto.i-end, c.len-i-end.ensures) in
    let keys : map g.K.Key.number c.loop-i.keys.items
    ≡ map key_of (marked_of_runs c.args.level.now.number c.args.level.now.runs
    (lists_of c.args.level.now.runs c.args.self.now.words 0)) =
    c.loop-i.invariant
    ∙ ap (λ (rs : List Run). map key_of (marked_of_runs c.args.level.now.number rs
    (lists_of rs c.args.self.now.words 0))) (all_taken c.args.level.now.runs c.loop-i.i end) in
    marked_kept c.args.level.now c.args.self.now (map g.K.Key.number c.loop-i.keys.items) c.requires
    c.limits.ensures.rows keys

pub returns-clause-list : goal.returns-clause-list
returns-clause-list g c events test whole marking =
    let end : c.loop-i.i ≡ length c.args.level.now.runs =
    omega (arith, c.loop-i-test.false, c.loop-i.auto.i-end, c.len-i-end.ensures) in
    let keys : map g.K.Key.number c.loop-i.keys.items
    ≡ map key_of (marked_of_runs c.args.level.now.number c.args.level.now.runs
    (lists_of c.args.level.now.runs c.args.self.now.words 0)) =
    c.loop-i.invariant
    ∙ ap (λ (rs : List Run). map key_of (marked_of_runs c.args.level.now.number rs
    (lists_of rs c.args.self.now.words 0))) (all_taken c.args.level.now.runs c.loop-i.i end) in
    marked_listed c.args.level.now c.args.self.now (map g.K.Key.number c.loop-i.keys.items) c.requires keys events test
    whole marking
