-- A session of what an order says of the seen processes has the answers of each run of that order.
use Rattle.std.proofs.Common.{◌≡◌, ◌∙◌, ◌<◌, ℕ, ℤ, List, [], All, ap, length, refl, slice_index_or, sym, subst}
use Rattle.std.specs.List.{AllZip}
use Rattle.std.proofs.lemmas.List.{length-map}
use Rattle.def_model.specs.Order.{HasNoCycle}
use Rattle.def_model.specs.Predicates.{Recorded}
use Rattle.def_format.specs.Documents.{Document}
use Rattle.def_judgement.specs.Judgements.{recorded_of}
use Rattle.def_orders.specs.Laws.{DefinitelyOfPart, PossiblyOfPart}
use Rattle.def_orders.specs.Orders.{IsOrderOf}
use Rattle.def_orders.specs.Selections.{HaveOnePart, at_places, numbers_in}
use Rattle.def_recordings.specs.Reductions.{IsSamePredicate}
use Rattle.judge_orders.specs.OrderViews.{named_view, processes_view}
use Rattle.judge_orders.specs.declared.order.Order.{Order}
use Rattle.judge_reduction.specs.ReadSessions.{IsMade, IsSeenPart}
use Rattle.judge_reduction.specs.ReducedSessions.{ReducesRuns}
use Rattle.judge_reduction.specs.declared.reduced.ReducedSession.{ReducedSession}
use Rattle.judge_reduction.proofs.SameAnswers.{same_answers}

-- a run of this order, and a run of the part that begins with the values of its processes
have_one_part : (r r' : Recorded) (order : Order) (places : List ℕ) (part : Order) → IsSeenPart order places part
    → length r.initial ≡ length r.events → r'.initial ≡ at_places places r.initial [] → HasNoCycle r.events
    → HasNoCycle r'.events → IsOrderOf r (named_view order) (processes_view order)
    → IsOrderOf r' (named_view part) (processes_view part)
    → HaveOnePart r r' places (named_view order) (processes_view order) (processes_view part)
have_one_part r r' order places part is values initial acyclic acyclic' first second =
    let many : length (named_view order) ≡ length r.events = first.all_named in
    let as_many : length (named_view part) ≡ length places =
    ap length is.same_named ∙ length-map places (λ (p : ℕ). slice_index_or (named_view order) p []) in
    record {
      some = is.some;
      ascend = is.ascend;
      there = subst (λ (n : ℕ). All (λ (p : ℕ). p < n) places) many is.there;
      unseen = λ p within none. is.unseen p (subst (λ (n : ℕ). p < n) (sym many) within) none;
      as_many = sym second.all_named ∙ as_many;
      values_each = values;
      same_initial = initial;
      no_cycle = acyclic;
      no_cycle' = acyclic';
      first = first;
      second = subst (λ (named : List (List ℕ)). IsOrderOf r' named (processes_view part)) is.same_named second;
      are_parts = is.are_parts r first;
    }

-- the session of the part has the answers of the runs of the order
pub reduces : PossiblyOfPart → DefinitelyOfPart → (document : Document) (order : Order) (places : List ℕ)
    (part : Order) (session : ReducedSession) → IsSeenPart order places part → IsMade document places part session
    → ReducesRuns document order session
reduces possibly definitely document order places part session is made = λ r some names values initial acyclic has.
    let image : Recorded = recorded_of made.made made.are_made.traces in
    let alike = made.is_made.alike in
    let formed = made.are_made.have_order in
    let one : HaveOnePart r image places (named_view order) (processes_view order) (processes_view part) =
    have_one_part r image order places part is (ap length initial ∙ values)
    (alike.same_initial ∙ ap (λ (rows : List (List ℤ)). at_places places rows []) (sym initial)) acyclic
    formed.formed.no_cycle has.is_order formed.is_order in
    record {
      reduced = record {
        made = made.made;
        image = image;
        is_session = record {
          is_document = made.is_made.is_document;
          results = made.are_made.are_traces.results;
          are_results = made.are_made.are_traces.are_results;
          traces = made.are_made.traces;
          joined = made.are_made.are_traces.joined;
          formed = formed.formed;
          is_recorded = refl;
        };
        places = places;
        ascend = is.ascend;
        there = subst (λ (n : ℕ). All (λ (p : ℕ). p < n) places) (sym names) one.there;
        same_names = alike.same_names;
        same_predicates = alike.same_predicates;
        same_answers = same_answers possibly definitely r image places (named_view order) (processes_view order)
            (processes_view part) one document.predicates made.made.predicates has.over
            (subst (λ (n : ℕ). AllZip (IsSamePredicate (numbers_in places n)) document.predicates
            made.made.predicates) names alike.same_predicates);
      };
      same_places = made.same_places;
      all_events = formed.all_events;
      all_messages = formed.all_messages;
    }
