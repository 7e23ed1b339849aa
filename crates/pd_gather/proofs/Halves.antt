-- What two halves of streams leave and give, put together.
use mathlib.Core.List.{IsPrefix}
use Rattle.std.proofs.Common.{◌≡◌, List, [], ◌∷◌, ◌++◌, length, map, IfOk, refl, sym, ◌∙◌, ap, subst, length-append, arith}
use Rattle.std.specs.Prelude.{IsOk, Result, Ok, Err, Vec}
use Rattle.std.specs.Global.{Global}
use Rattle.std.specs.List.{AllZip}
use Rattle.std.specs.declared.alloc.AllocError.{AllocError}
use Rattle.std.proofs.lemmas.List.{map-append}
use Rattle.std.proofs.lemmas.List.Elements.{All-nil, All-append}
use Rattle.read_traces.specs.declared.event.Trace.{Trace}
use Rattle.pd_events.specs.declared.fault.StreamFault.{StreamFault}
use Rattle.def_format.specs.Names.{ProcessNames}
use Rattle.pd_register.specs.Seats.{IsSeatOf, posted_row, seen_history, stream_of}
use Rattle.pd_register.specs.declared.register.Register.{Register}
use Rattle.pd_register.specs.declared.seat.Seat.{Seat}
use Rattle.def_judgement.specs.Writes.{Source}
use Rattle.pd_gather.specs.Gathering.{AreSameSeats, HasGathered, KeepsSeen, LeavesSeats}
use Rattle.pd_gather.specs.ReadStreams.{LeavesRow}
use Rattle.pd_gather.specs.Views.{ReadingFits, results_view}
use Rattle.pd_gather.proofs.SeatLists.{seen_still}
use Rattle.pd_gather.proofs.Turns.{both_read, none_read, zipped_both}

abbrev Readings : Type 0
Readings = Result (Vec (Result Trace StreamFault) Global) AllocError

pub same_halves : (register : Register) (first last new others : List Seat) → AreSameSeats register first new
    → AreSameSeats register last others → AreSameSeats register (first ++ last) (new ++ others)
same_halves register first last new others p q = record {
  len = length-append new others ∙ (omega (arith, p.len, q.len, length-append first last));
  same = rw (map-append stream_of new others, map-append stream_of first last, p.same, q.same) refl;
  own = All-append (λ s. IsSeatOf register s) new others p.own q.own;
}

gathered_halves : (names : List ProcessNames) (inputs more : List Source)
    (readings others all : List (Result Trace StreamFault)) (seats further : List Seat)
    → HasGathered names inputs readings seats → HasGathered names more others further → all ≡ readings ++ others
    → HasGathered names (inputs ++ more) all (seats ++ further)
gathered_halves names inputs more readings others all seats further p q e =
    subst (λ (given : List (Result Trace StreamFault)). HasGathered names (inputs ++ more) given
    (seats ++ further)) (sym e)
    (record {
      read = rw (map-append posted_row seats further, map-append _ readings others)
          (both_read names inputs more (results_view readings) (results_view others)
          (map posted_row seats) (map posted_row further) p.read q.read);
      fit = All-append (ReadingFits names) readings others p.fit q.fit;
    })

abbrev pub Gathers : List ProcessNames → List Source → Readings → List Seat → Type 0
Gathers names inputs given seats =
    IfOk given (λ readings. HasGathered names inputs readings.items seats)

pub both_gathered : (names : List ProcessNames) (inputs more : List Source) (first last all : Readings)
    (seats further : List Seat) → Gathers names inputs first seats → Gathers names more last further
    → IfOk all (λ readings. IfOk first (λ f. IfOk last (λ l. readings.items ≡ f.items ++ l.items)))
    → (IsOk all → IsOk first × IsOk last) → Gathers names (inputs ++ more) all (seats ++ further)
both_gathered names inputs more first last (Err error) seats further p q joined both = tt
both_gathered names inputs more (Err error) last (Ok all) seats further p q joined both =
    let no = (both refl).0 in cc
both_gathered names inputs more (Ok f) (Err error) (Ok all) seats further p q joined both =
    let no = (both refl).1 in cc
both_gathered names inputs more (Ok f) (Ok l) (Ok all) seats further p q joined both =
    gathered_halves names inputs more f.items l.items all.items seats further p q joined

-- no stream
pub none_gathered : {R : Type 0} (names : List ProcessNames) (left : R → Source) (readers : List R)
    (readings : List (Result Trace StreamFault)) (seats : List Seat) → length readers ≡ 0 → length seats ≡ 0
    → readings ≡ [] → HasGathered names (map left readers) readings seats
none_gathered names left [] readings [] p q e =
    subst (λ (given : List (Result Trace StreamFault)). HasGathered names [] given []) (sym e)
    (record { read = none_read names; fit = All-nil (ReadingFits names) })
none_gathered names left [] readings (y ∷ ys) p q e = absurd (omega (arith, q))
none_gathered names left (x ∷ xs) readings seats p q e = absurd (omega (arith, p))

-- the halves are those of all readers
pub of_all_readers : {R : Type 0} (names : List ProcessNames) (left : R → Source) (first last readers : List R)
    (given : Readings) (seats : List Seat) → first ++ last ≡ readers
    → Gathers names (map left first ++ map left last) given seats → Gathers names (map left readers) given seats
of_all_readers names left first last readers given seats e p =
    subst (λ (inputs : List Source). Gathers names inputs given seats)
    (sym (map-append left first last) ∙ ap (map left) e) p

-- ---- what is left, in every case

pub seen_halves : (first last new others : List Seat) → KeepsSeen first new → KeepsSeen last others
    → KeepsSeen (first ++ last) (new ++ others)
seen_halves first last new others p q = record {
  grows = zipped_both (λ (o n : Seat). IsPrefix (seen_history o) (seen_history n)) first last new others p.grows
      q.grows;
}

-- seats that were not used
pub none_seen : (seats : List Seat) → KeepsSeen seats seats
none_seen [] = record { grows = tt }
none_seen (seat ∷ seats) = record { grows = (seen_still (seen_history seat), (none_seen seats).grows) }

left_halves : (names : List ProcessNames) (inputs more : List Source) (seats further : List Seat)
    → LeavesSeats names inputs seats → LeavesSeats names more further
    → LeavesSeats names (inputs ++ more) (seats ++ further)
left_halves names inputs more seats further p q = record {
  rows = subst (AllZip (LeavesRow names) (inputs ++ more)) (sym (map-append posted_row seats further))
      (zipped_both (LeavesRow names) inputs more (map posted_row seats) (map posted_row further) p.rows
      q.rows);
}

-- the halves are those of all readers
pub left_of_all : {R : Type 0} (names : List ProcessNames) (left : R → Source) (first last readers : List R)
    (seats further : List Seat) → first ++ last ≡ readers → LeavesSeats names (map left first) seats
    → LeavesSeats names (map left last) further → LeavesSeats names (map left readers) (seats ++ further)
left_of_all names left first last readers seats further e p q =
    subst (λ (inputs : List Source). LeavesSeats names inputs (seats ++ further))
    (sym (map-append left first last) ∙ ap (map left) e)
    (left_halves names (map left first) (map left last) seats further p q)

-- no stream
pub none_left : {R : Type 0} (names : List ProcessNames) (left : R → Source) (readers : List R) (seats : List Seat)
    → length readers ≡ 0 → length seats ≡ 0 → LeavesSeats names (map left readers) seats
none_left names left [] [] p q = record { rows = tt }
none_left names left [] (y ∷ ys) p q = absurd (omega (arith, q))
none_left names left (x ∷ xs) seats p q = absurd (omega (arith, p))
