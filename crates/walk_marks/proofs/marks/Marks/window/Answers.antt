-- The window is on the words of the run, and behind its last cut no bit is set.
use Rattle.std.proofs.Common.{◌≡◌, ℕ, ◌+◌, ◌-◌, ◌<◌, length, get_or, refl, ap, ◌∙◌, arith}
use Rattle.walk_keys.specs.Words.{has_bit}
use Rattle.walk_keys.proofs.Keys.{get_or_same}
use Rattle.walk_marks.specs.Marks.{last_word, Marking, start_of}
use Rattle.walk_marks.specs.RunPlaces.{run_at}
use Rattle.walk_marks.proofs.Windows.{first_at, first_within, window_bits, window_before}
use Rattle.walk_marks.proofs.marks.Marks.window.Goals as goal

pub overflow_add-last : goal.overflow_add-last
overflow_add-last g c =
    let w : c.index-start.result.now + last_word (run_at c.args.level.now.runs c.args.i)
    < length c.self.inside.words.items =
    first_within c.args.level.now.runs c.args.self.now c.self.inside.first.items c.self.inside.words.items c.args.i
    c.index-start.result.now c.requires.shape (ap (λ (m : Marking). m.first) c.self.view_is)
    (ap (λ (m : Marking). m.words) c.self.view_is) c.requires.within c.index-start.ensures in
    omega (arith, c.lo-lo.ensures, c.hi-hi.ensures)

pub bits_at-requires-clause-within : goal.bits_at-requires-clause-within
bits_at-requires-clause-within g c =
    let w : c.index-start.result.now + last_word (run_at c.args.level.now.runs c.args.i)
    < length c.deref.result.now =
    first_within c.args.level.now.runs c.args.self.now c.self.inside.first.items c.deref.result.now c.args.i
    c.index-start.result.now c.requires.shape (ap (λ (m : Marking). m.first) c.self.view_is)
    (c.deref.ensures.value ∙ ap (λ (m : Marking). m.words) c.self.view_is) c.requires.within c.index-start.ensures in
    omega (arith, c.lo-lo.ensures, c.hi-hi.ensures)

pub returns-then-x-lo : goal.returns-then-x-lo
returns-then-x-lo g c =
    let s : c.index-start.result.now ≡ start_of c.args.level.now.runs c.args.i =
    first_at c.args.level.now.runs c.args.self.now c.self.inside.first.items c.args.i
    c.index-start.result.now c.requires.shape (ap (λ (m : Marking). m.first) c.self.view_is) c.requires.within
    c.index-start.ensures in
    let ws : c.deref.result.now ≡ c.args.self.now.words =
    c.deref.ensures.value ∙ ap (λ (m : Marking). m.words) c.self.view_is in
    window_bits c.args.level.now.runs c.args.self.now c.args.i c.args.x c.bits_at.result c.requires.shape
    c.requires.within (omega (arith, c.lo-lo.ensures))
    (λ j lt le. rw (← c.lo-lo.ensures, ← ws, ← s)
    (c.bits_at.ensures.bits j lt (omega (arith, c.lo-lo.ensures, c.hi-hi.ensures))))
    (λ j lt le. c.bits_at.ensures.beyond j lt (omega (arith, c.lo-lo.ensures, c.hi-hi.ensures)))

pub index-requires : goal.index-requires
index-requires g c =
    let w : c.index-start.result.now + last_word (run_at c.args.level.now.runs c.args.i)
    < length c.self.inside.words.items =
    first_within c.args.level.now.runs c.args.self.now c.self.inside.first.items c.self.inside.words.items c.args.i
    c.index-start.result.now c.requires.shape (ap (λ (m : Marking). m.first) c.self.view_is)
    (ap (λ (m : Marking). m.words) c.self.view_is) c.requires.within c.index-start.ensures in
    omega arith

pub returns : goal.returns
returns g c =
    let s : c.index-start.result.now ≡ start_of c.args.level.now.runs c.args.i =
    first_at c.args.level.now.runs c.args.self.now c.self.inside.first.items c.args.i
    c.index-start.result.now c.requires.shape (ap (λ (m : Marking). m.first) c.self.view_is) c.requires.within
    c.index-start.ensures in
    let ws : c.self.inside.words.items ≡ c.args.self.now.words = ap (λ (m : Marking). m.words) c.self.view_is in
    let w : c.index-start.result.now + last_word (run_at c.args.level.now.runs c.args.i)
    < length c.self.inside.words.items =
    first_within c.args.level.now.runs c.args.self.now c.self.inside.first.items c.self.inside.words.items c.args.i
    c.index-start.result.now c.requires.shape (ap (λ (m : Marking). m.first) c.self.view_is)
    (ap (λ (m : Marking). m.words) c.self.view_is) c.requires.within c.index-start.ensures in
    let word : c.index.result.now ≡ get_or c.args.self.now.words (start_of c.args.level.now.runs c.args.i) 0 =
    c.index.ensures ∙ (get_or_same c.self.inside.words.items c.index-start.result.now c.index.result.now 0
    (omega arith) ∙ rw (ws, s) refl) in
    window_before c.args.level.now.runs c.args.self.now c.args.i c.args.x (c.lo-lo.result - c.args.x) c.up.result
    c.requires.shape c.requires.within (omega (arith, c.lo-lo.ensures)) c.up.ensures.below
    (λ j lt. c.up.ensures.moved j lt ∙ ap (λ (v : ℕ). has_bit v j) word)
