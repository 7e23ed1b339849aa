-- What the streams gave.
use Rattle.std.proofs.Common.{◌≡◌, ◌+◌, ◌++◌, ◌∷◌, [], List, map, refl, sym, ◌∙◌, ap, subst, arith}
use Rattle.std.specs.List.{AllZip}
use Rattle.std.specs.Vec.{vec_len}
use Rattle.std.proofs.lemmas.Iterator.Consumers.{YieldsList-end}
use Rattle.std.proofs.lemmas.Iterator.Adapters.{YieldsList-from_vec}
use Rattle.std.proofs.lemmas.Grind.{common_steps}
use Rattle.pd_events.specs.Reads.{ReaderState}
use Rattle.read_traces.specs.declared.event.Trace.{Trace}
use Rattle.pd_events.specs.declared.fault.StreamFault.{StreamFault}
use Rattle.std.specs.Prelude.{Result}
use Rattle.pd_gather.proofs.Outcomes.{Gives, gives_push, outcomes_are_results, outcomes_fit}
use Rattle.pd_gather.proofs.streams.Core.outcome.Goals as goal

pub loop-reader-preserved : goal.loop-reader-preserved
loop-reader-preserved c =
    let pushed : c.push.new.self.items ≡ c.loop-reader.room.items ++ c.outcome.result ∷ [] =
    rw c.unwrap.ensures at c.push.ensures.items in
    let more : vec_len c.push.new.self ≡ vec_len c.loop-reader.room + 1 = rw c.unwrap.ensures at c.push.ensures.len in
    record {
      can_go = tt;
      ends = tt;
      count = grind (arith, common_steps, c.loop-reader.invariant.count);
      spare = omega (arith, c.loop-reader.invariant.spare, c.push.ensures.capacity);
      gives = rw pushed (gives_push c.loop-reader.yielded c.loop-reader.room.items c.in-Some.reader c.outcome.result
          c.loop-reader.invariant.gives (record { value = c.outcome.ensures.value; fits = c.outcome.ensures.fits }));
    }

map_same : {A : Type 0} (xs : List A) → map (λ x. x) xs ≡ xs
map_same [] = refl
map_same (x ∷ xs) = ap (λ rest. x ∷ rest) (map_same xs)

-- every reader has given its outcome
all_given : (readers : List ReaderState) (core : List ReaderState) (yielded : List ReaderState)
    (room : List (Result Trace StreamFault)) → readers ≡ core → map (λ x. x) yielded ≡ readers
    → AllZip Gives yielded room → AllZip Gives core room
all_given readers core yielded room e f =
    subst (λ (xs : List ReaderState). AllZip Gives xs room) (sym (map_same yielded) ∙ (f ∙ e))

pub returns-clause-results : goal.returns-clause-results
returns-clause-results c =
    let end =
    YieldsList-end (YieldsList-from_vec {s = c.into_iter-reader-iterator.result} c.self.inside.readers.items (cc)
    (cc)) c.loop-reader.yielded c.loop-reader.reader-iterator c.loop-reader.yielded_by c.next.result c.next.new.self
    c.in-None.is c.next.ensures.steps in
    outcomes_are_results c.args.self c.loop-reader.room.items
    (all_given c.self.inside.readers.items c.args.self c.loop-reader.yielded c.loop-reader.room.items c.self.view_is
    end.0 c.loop-reader.invariant.gives)

pub returns-clause-fit : goal.returns-clause-fit
returns-clause-fit c =
    let end =
    YieldsList-end (YieldsList-from_vec {s = c.into_iter-reader-iterator.result} c.self.inside.readers.items (cc)
    (cc)) c.loop-reader.yielded c.loop-reader.reader-iterator c.loop-reader.yielded_by c.next.result c.next.new.self
    c.in-None.is c.next.ensures.steps in
    outcomes_fit c.args.self c.loop-reader.room.items
    (all_given c.self.inside.readers.items c.args.self c.loop-reader.yielded c.loop-reader.room.items c.self.view_is
    end.0 c.loop-reader.invariant.gives)
