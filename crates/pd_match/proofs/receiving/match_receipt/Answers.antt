-- The send of the receipt of this id, which stands here.
use Rattle.std.proofs.Common.{◌≡◌, ◌∙◌, ◌<◌, List, ℕ, Option, Some, ap, arith, get_or, length, option_map, refl, set, subst, suc, sym, add-one, cond, bytes_eq, ◌+◌}
use Rattle.std.specs.Prelude.{nat_eq}
use Rattle.std.proofs.lemmas.List.{get_or_read}
use Rattle.def_format.specs.Versions.{version_view}
use Rattle.pd_match.specs.Noted.{again, last_receiver, mark_at, place_noted, sends_marked}
use Rattle.pd_match.specs.Views.{place_view}
use Rattle.pd_match.proofs.Marks.{mark_more, sends_marked_more}
use Rattle.pd_match.proofs.receiving.match_receipt.Goals as goal

-- what is read of the marks is the mark of the id
mark_read : (marks : List ℕ) (index : Option ℕ) (i : ℕ) (mark : ℕ) → Some i ≡ index → i < length marks
    → mark ≡ get_or marks i mark → mark_at marks index ≡ mark
mark_read marks index i mark at within is = ap (mark_at marks) (sym at) ∙ sym (get_or_read marks i mark within is 0)

pub returns-then-send-here-clause-fault : goal.returns-then-send-here-clause-fault
returns-then-send-here-clause-fault g c =
    let found : place_noted c.args.sends.now c.args.id.now ≡ Some (place_view c.index-send.result.now) =
    ap (option_map place_view) (sym c.in-Some.ensures.value ∙ c.index-send.ensures) in
    (refl, (place_view c.index-send.result.now, found, c.if-send-here.true))

pub returns-then-is_again-clause-fault : goal.returns-then-is_again-clause-fault
returns-then-is_again-clause-fault g c =
    let found : place_noted c.args.sends.now c.args.id.now ≡ Some (place_view c.index-send.result.now) =
    ap (option_map place_view) (sym c.in-Some.ensures.value ∙ c.index-send.ensures) in
    let within : c.in-Some.index < length c.args.received.now.items =
    omega (arith, c.requires, c.in-Some.ensures.within) in (
      refl,
      (place_view c.index-send.result.now, found, c.if-send-here.false),
      ap (λ last. again (version_view c.args.version) last c.args.here.process)
          (mark_read c.args.received.now.items _ c.in-Some.index c.index.result.now c.in-Some.ensures.index within
          c.index.ensures)
          ∙ (sym c.is_again.ensures ∙ c.if-is_again.true),
    )

pub returns-else-is_again-clause-marked : goal.returns-else-is_again-clause-marked
returns-else-is_again-clause-marked g c = λ other.
    let within : c.in-Some.index < length c.args.received.now.items =
    omega (arith, c.requires, c.in-Some.ensures.within) in
    subst (λ mark. last_receiver c.args.sends.now (set c.args.received.now.items c.in-Some.index mark) other
    ≡ cond (bytes_eq c.args.id.now other) (suc c.args.here.process)
    (last_receiver c.args.sends.now c.args.received.now.items other)) (sym (add-one c.args.here.process))
    (mark_more c.args.sends.now c.args.received.now.items c.args.id.now other c.in-Some.index
    (suc c.args.here.process) (sym c.in-Some.ensures.index) within)

pub returns-else-is_again-clause-fresh : goal.returns-else-is_again-clause-fresh
returns-else-is_again-clause-fresh g c =
    let within : c.in-Some.index < length c.args.received.now.items =
    omega (arith, c.requires, c.in-Some.ensures.within) in
    ap (λ last. again (version_view c.args.version) last c.args.here.process)
    (mark_read c.args.received.now.items _ c.in-Some.index c.index.result.now c.in-Some.ensures.index within
    c.index.ensures) ∙ (sym c.is_again.ensures ∙ c.if-is_again.false)

pub returns-else-is_again-clause-count : goal.returns-else-is_again-clause-count
returns-else-is_again-clause-count g c =
    let within : c.in-Some.index < length c.args.received.now.items =
    omega (arith, c.requires, c.in-Some.ensures.within) in
    let last : mark_at c.args.received.now.items _ ≡ c.index.result.now =
    mark_read c.args.received.now.items _ c.in-Some.index c.index.result.now c.in-Some.ensures.index within
    c.index.ensures in
    let before = last_receiver c.args.sends.now c.args.received.now.items c.args.id.now in
    subst (λ mark. sends_marked (set c.args.received.now.items c.in-Some.index mark)
    ≡ sends_marked c.args.received.now.items + cond (nat_eq before 0) 1 0) (sym (add-one c.args.here.process))
    (sends_marked_more c.args.received.now.items c.in-Some.index before c.args.here.process within
    (sym (get_or_read c.args.received.now.items c.in-Some.index c.index.result.now within c.index.ensures 0)
    ∙ sym last))
