-- Rows and histories by their views: a row is given by its view, and a post more is one more in the history.
use Rattle.std.proofs.Common.{◌≡◌, ◌≢◌, ◌<◌, ℕ, true, List, [], ◌∷◌, ◌++◌, length, get_or, set, sym, refl, ap, ◌∙◌, subst, arith, length-set}
use Rattle.std.proofs.lemmas.List.{map-append, map-set}
use Rattle.def_format.specs.Readings as readings
use Rattle.def_format.specs.Histories as histories
use Rattle.def_format.specs.Histories.{post_of, fresh_row, allows, row_after, row_of, rows_from, rows_of}
use Rattle.def_format.specs.HistoryLaws.{PassesAsLegal}
use Rattle.def_format.proofs.HistoryFacts.{row_here, row_else, row_at, rows_set, legal_push}
use Rattle.pd_register.specs.declared.step.Step.{Step}
use Rattle.pd_register.specs.declared.post.Post.{Post}
use Rattle.pd_register.specs.declared.row.Row.{Row}
use Rattle.pd_register.specs.declared.row.RowState.{RowState}
use Rattle.pd_register.specs.declared.row.RowState.TheVariants as states
use Rattle.pd_register.specs.Views.{step_view, post_view, history_view, row_state_view, row_view, rows_view, row_state_value, row_value, post_value, row_in}

state_again : (s : RowState) → row_state_value (row_state_view s) ≡ s
state_again states.Fresh = refl
state_again states.Joined = refl
state_again states.Ended = refl
state_again states.Faulted = refl

state_same : (s : readings.StreamState) → row_state_view (row_state_value s) ≡ s
state_same readings.Fresh = refl
state_same readings.Joined = refl
state_same readings.HasEnded = refl
state_same readings.Faulted = refl

pub row_again : (row : Row) → row_value (row_view row) ≡ row
row_again row =
    let with_state : RowState → Row = λ s. record { process = row.process; events = row.events; state = s } in
    ap with_state (state_again row.state)

pub row_same : (row : histories.Row) → row_view (row_value row) ≡ row
row_same row =
    let with_state : readings.StreamState → histories.Row =
    λ s. record { process = row.process; events = row.events; state = s } in
    ap with_state (state_same row.state)

-- the row with this view
pub row_with_view : (row : Row) (r : histories.Row) → row_view row ≡ r → row_value r ≡ row
row_with_view row r e = ap row_value (sym e) ∙ row_again row

pub view_of_row : (row : Row) (r : histories.Row) → row_value r ≡ row → row_view row ≡ r
view_of_row row r e = ap row_view (sym e) ∙ row_same r

pub view_push : (h : List Post) (e : Post) → history_view (h ++ e ∷ []) ≡ history_view h ++ post_view e ∷ []
view_push h e = map-append post_view h (e ∷ [])

-- the row of the step's stream
pub row_in_here : (stream : ℕ) (h : List Post) (step : Step) (row new : Row) → row_in stream h ≡ row
    → row_view new ≡ row_after (row_view row) (step_view step) → row_in stream (h ++ post_value stream step ∷ []) ≡ new
row_in_here stream h step row new here made =
    let old = history_view h in
    let is : row_of stream old ≡ row_view row = sym (view_of_row row (row_of stream old) here) in
    let more : row_of stream (history_view (h ++ post_value stream step ∷ []))
    ≡ row_after (row_of stream old) (step_view step) =
    ap (row_of stream) (view_push h (post_value stream step))
    ∙ row_here stream old (post_of stream (step_view step)) refl in
    ap row_value (more ∙ ap (λ (r : histories.Row). row_after r (step_view step)) is)
    ∙ row_with_view new (row_after (row_view row) (step_view step)) made

-- the row of another stream
pub row_in_else : (stream : ℕ) (h : List Post) (e : Post) → e.stream ≢ stream
    → row_in stream (h ++ e ∷ []) ≡ row_in stream h
row_in_else stream h e other =
    ap (λ (l : List histories.Post). row_value (row_of stream l)) (view_push h e)
    ∙ ap row_value (row_else stream (history_view h) (post_view e) other)

-- the rows of the history after one step more, and that it is legal
pub history_push : (rows : List Row) (h new : List Post) (stream : ℕ) (step : Step) (row : Row)
    → rows_view rows ≡ rows_of (length rows) (history_view h) → PassesAsLegal (length rows) (history_view h)
    → stream < length rows → allows (get_or (rows_view rows) stream fresh_row) (step_view step) ≡ true
    → new ≡ h ++ post_value stream step ∷ []
    → row_view row ≡ row_after (get_or (rows_view rows) stream fresh_row) (step_view step)
    → (rows_view (set rows stream row) ≡ rows_of (length (set rows stream row)) (history_view new))
    × PassesAsLegal (length (set rows stream row)) (history_view new)
history_push rows h new stream step row shown legal near may more made =
    let n : ℕ = length rows in
    let old = history_view h in
    let e : histories.Post = post_of stream (step_view step) in
    let here : get_or (rows_view rows) stream fresh_row ≡ row_of stream old =
    ap (λ (l : List histories.Row). get_or l stream fresh_row) shown ∙ row_at 0 n old stream fresh_row near
    ∙ ap (λ (j : ℕ). row_of j old) (omega arith) in
    let long : length (set rows stream row) ≡ n = length-set rows stream row in
    let after : history_view new ≡ old ++ e ∷ [] =
    ap history_view more ∙ view_push h (post_value stream step) in
    let may_here : allows (row_of stream old) (step_view step) ≡ true =
    subst (λ (r : histories.Row). allows r (step_view step) ≡ true) here may in
    let row_is : row_view row ≡ row_after (row_of stream old) (step_view step) =
    made ∙ ap (λ (r : histories.Row). row_after r (step_view step)) here in
    let rows_are : rows_view (set rows stream row) ≡ rows_from 0 n (old ++ e ∷ []) =
    map-set row_view rows stream row ∙ ap (λ (l : List histories.Row). set l stream (row_view row)) shown
    ∙ ap (λ (r : histories.Row). set (rows_from 0 n old) stream r) row_is
    ∙ sym (rows_set 0 n old e stream (omega arith) near) in (
      subst (λ (x : ℕ × List histories.Post). rows_view (set rows stream row) ≡ rows_from 0 x.0 x.1)
          (λ i. (sym long i, sym after i)) rows_are,
      subst (λ (x : ℕ × List histories.Post). PassesAsLegal x.0 x.1) (λ i. (sym long i, sym after i))
          (legal_push n old e legal near may_here),
    )
