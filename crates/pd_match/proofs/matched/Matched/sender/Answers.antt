-- The send of this receipt, if the place is that of a receipt.
use Rattle.std.proofs.Common.{◌≡◌, ◌∙◌, ◌<◌, ◌≤◌, ap, get_or, length, option_map, refl, subst, sym}
use Rattle.std.proofs.lemmas.Option.{slice_get_past, slice_get_read}
use Rattle.pd_match.specs.Noted.{pairs_in, sender_view}
use Rattle.pd_match.specs.Views.{place_view}
use Rattle.pd_match.proofs.Senders.{sender_agrees, sender_in_row, sender_of_none, sender_past}
use Rattle.pd_match.proofs.matched.Matched.sender.Goals as goal

pub returns-in_err-row : goal.returns-in_err-row
returns-in_err-row c =
    let rows = c.self.inside.senders.items in
    let e = place_view c.args.receipt in
    let past : length rows ≤ c.args.receipt.process =
    subst (λ xs. length xs ≤ c.args.receipt.process) c.deref.ensures.value c.in_err-row.ensures.lookup.3 in
    sender_agrees (pairs_in 0 rows) c.args.self.now rows e
    (option_map place_view c.from_residual.result) c.self.view_is c.self.invariant.1
    (sender_past rows e past ∙ sym (ap (option_map place_view) c.from_residual.ensures))

pub returns-in_err-index : goal.returns-in_err-index
returns-in_err-index c =
    let rows = c.self.inside.senders.items in
    let e = place_view c.args.receipt in
    sender_agrees (pairs_in 0 rows) c.args.self.now rows e
    (option_map place_view c.from_residual-in_err-index.result) c.self.view_is c.self.invariant.1
    (sender_of_none rows e c.in_err-index.ensures
    ∙ sym (ap (option_map place_view) c.from_residual-in_err-index.ensures))

pub returns-in_err-get : goal.returns-in_err-get
returns-in_err-get c =
    let rows = c.self.inside.senders.items in
    let e = place_view c.args.receipt in
    let there : c.args.receipt.process < length rows =
    subst (λ xs. c.args.receipt.process < length xs) c.deref.ensures.value c.in_ok-row.ensures.lookup.3.0 in
    let is : c.in_ok-row.row.now ≡ get_or rows c.args.receipt.process c.in_ok-row.row.now =
    subst (λ xs. c.in_ok-row.row.now ≡ get_or xs c.args.receipt.process c.in_ok-row.row.now) c.deref.ensures.value
    c.in_ok-row.ensures.lookup.1 in
    let past : length c.in_ok-row.row.now.items ≤ c.in_ok-index.index =
    subst (λ xs. length xs ≤ c.in_ok-index.index) c.deref-2.ensures.value c.in_err-get.ensures.lookup.3 in
    sender_agrees (pairs_in 0 rows) c.args.self.now rows e
    (option_map place_view c.from_residual-in_err-get.result) c.self.view_is c.self.invariant.1
    (sender_in_row rows c.in_ok-row.row.now e c.in_ok-index.index there is c.in_ok-index.ensures.0
    c.in_ok-index.ensures.1 ∙ (ap sender_view (slice_get_past c.in_ok-row.row.now.items c.in_ok-index.index past)
    ∙ sym (ap (option_map place_view) c.from_residual-in_err-get.ensures)))

pub returns : goal.returns
returns c =
    let rows = c.self.inside.senders.items in
    let e = place_view c.args.receipt in
    let row = c.in_ok-row.row.now in
    let there : c.args.receipt.process < length rows =
    subst (λ xs. c.args.receipt.process < length xs) c.deref.ensures.value c.in_ok-row.ensures.lookup.3.0 in
    let is : row ≡ get_or rows c.args.receipt.process row =
    subst (λ xs. row ≡ get_or xs c.args.receipt.process row) c.deref.ensures.value c.in_ok-row.ensures.lookup.1 in
    let within : c.in_ok-index.index < length row.items =
    subst (λ xs. c.in_ok-index.index < length xs) c.deref-2.ensures.value c.in_ok-get.ensures.lookup.3.0 in
    let at : c.in_ok-get.field-0.now ≡ get_or row.items c.in_ok-index.index c.in_ok-get.field-0.now =
    subst (λ xs. c.in_ok-get.field-0.now ≡ get_or xs c.in_ok-index.index c.in_ok-get.field-0.now)
    c.deref-2.ensures.value c.in_ok-get.ensures.lookup.1 in
    sender_agrees (pairs_in 0 rows) c.args.self.now rows e (option_map place_view c.send.result) c.self.view_is
    c.self.invariant.1
    (sender_in_row rows row e c.in_ok-index.index there is c.in_ok-index.ensures.0 c.in_ok-index.ensures.1
    ∙ (ap sender_view (slice_get_read row.items (length row.items) c.in_ok-index.index c.in_ok-get.field-0.now refl
    within at) ∙ sym c.send.ensures))
