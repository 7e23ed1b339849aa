-- What is printed of a computation that isn't large is lawful: its numbers fit, and its names are names.
use Rattle.std.proofs.Common.{◌≡◌, ℕ, suc, ◌+◌, ◌*◌, ◌<◌, ◌≤◌, ◌⊎◌, inl, inr, Bool, List, [], ◌∷◌, length, map, get_or, Contains, refl, sym, ap, subst, arith}
use Rattle.std.specs.List.{AllByRecursion, AllZip}
use Rattle.def_model.specs.Events.{Computation, Place, IsBefore, IsEvent, Linked, event_count}
use Rattle.def_model.specs.Messages.{Version, Fault, SendTwice, Orphan, SelfMessage, ReceivedTwice, IsReported, AreReceived, HasMessages}
use Rattle.def_model.specs.Cuts.{IsConsistent, full_cut, total}
use Rattle.def_model.specs.Answers.{PossiblyAnswer, PossiblyYes, PossiblyNo, PossiblyUnknown, DefinitelyAnswer, DefinitelyYes, DefinitelyNo, DefinitelyUnknown}
use Rattle.def_model.specs.Order.{HasNoCycle}
use Rattle.def_model.specs.Predicates.{Recorded, test_of}
use Rattle.def_model.proofs.Chains.{event_from_kind}
use Rattle.def_model.proofs.Consistency.{process_in_range}
use Rattle.def_model.proofs.Counts.{sum_cons}
use Rattle.def_model.proofs.PrintedPlaces.{AreShort, count_is_short, path_processes, place_of_fault, fault_is_event, unknown_level, unknown_avoiding_level}
use Rattle.def_format.specs.Documents.{Document, NamedPredicate}
use Rattle.def_format.specs.Limits.{process_limit, event_limit}
use Rattle.def_format.specs.Names.{ProcessNames, name_of_process}
use Rattle.def_format.specs.RefusalWords.{named_place, match_refusal}
use Rattle.def_format.specs.Reports.{Answer, Fits, IsName, PossiblyIsLawful, DefinitelyIsLawful, AnswerIsLawful, PlaceIsLawful, RefusalIsLawful}
use Rattle.def_format.proofs.DocumentParts.{HasName, AsksByName, process_is_named}
use Rattle.def_judgement.specs.Judgements.{IsAnswered, printed_possibly, printed_definitely}
use Rattle.def_judgement.proofs.Answered.{IsSoundDefinitely, IsSoundPossibly, possibly_at, definitely_at}

-- as many processes as names, few of them, each with few events
pub record IsSmall (names : List ProcessNames) (c : Computation) : Type 0 where
  pub named : AllByRecursion HasName names
  pub one_each : length c ≡ length names
  pub some_process : 1 ≤ length names
  pub few_processes : length names ≤ process_limit
  pub short : AreShort event_limit c

-- ---- numbers

pub total_within : (c : Computation) → AreShort event_limit c → total c ≤ length c * event_limit
total_within [] short = omega arith
total_within (events ∷ c) short =
    let rest : total c ≤ length c * event_limit = total_within c short.1 in
    let s : total (events ∷ c) ≡ length events + total c = sum_cons (length events) (full_cut c) in
    let le : length events ≤ event_limit = short.0 in
    omega arith

pub small_total : (names : List ProcessNames) (c : Computation) → IsSmall names c
    → total c ≤ process_limit * event_limit
small_total names c small =
    let t : total c ≤ length c * event_limit = total_within c small.short in
    let e : length c ≡ length names = small.one_each in
    let few : length names ≤ process_limit = small.few_processes in
    omega arith

counts_fit : (counts : List ℕ) → ((p : ℕ) → get_or counts p 0 ≤ event_limit) → AllByRecursion Fits counts
counts_fit [] each = tt
counts_fit (n ∷ counts) each =
    let le : n ≤ event_limit = each 0 in (omega arith, counts_fit counts (λ p. each (suc p)))

-- the places of an ascending list of sends are apart, so the list is no longer than their numbers allow
rank : Place → ℕ
rank e = e.process * (event_limit + 1) + e.number

IsRanked : Place → Type 0
IsRanked e = (e.number ≤ event_limit) × (e.process < process_limit)

sends_from : (sends : List Place) → Linked IsBefore sends → ((e : Place) → Contains sends e → IsRanked e)
    → (first : Place) (rest : List Place) → sends ≡ first ∷ rest
    → rank first + length rest < process_limit * (event_limit + 1)
unfolding rank IsRanked
sends_from [] links each first rest e = cc
sends_from (m ∷ []) links each first rest e =
    let f : m ≡ first = cc in
    let r : [] ≡ rest = cc in
    let is = each m (0, omega arith, refl) in
    let a : m.number ≤ event_limit = is.0 in
    let b : m.process < process_limit = is.1 in
    let n : length rest ≡ 0 = ap length (sym r) in
    let p : m.process ≡ first.process = ap (λ (x : Place). x.process) f in
    let q : m.number ≡ first.number = ap (λ (x : Place). x.number) f in
    omega arith
sends_from (m ∷ next ∷ more) links each first rest e =
    let f : m ≡ first = cc in
    let r : next ∷ more ≡ rest = cc in
    let is = each m (0, omega arith, refl) in
    let a : m.number ≤ event_limit = is.0 in
    let n : length rest ≡ suc (length more) = ap length (sym r) in
    let p : m.process ≡ first.process = ap (λ (x : Place). x.process) f in
    let q : m.number ≡ first.number = ap (λ (x : Place). x.number) f in
    let later : next.process * (event_limit + 1) + next.number + length more < process_limit * (event_limit + 1) =
    sends_from (next ∷ more) links.1 (λ x has. each x (suc has.0, omega (arith, has.1), has.2)) next more refl in
    go a p q n later links.0
  where
    go : m.number ≤ event_limit → m.process ≡ first.process → m.number ≡ first.number
        → length rest ≡ suc (length more)
        → next.process * (event_limit + 1) + next.number + length more < process_limit * (event_limit + 1)
        → (m.process < next.process) ⊎ ((m.process ≡ next.process) × (m.number < next.number))
        → first.process * (event_limit + 1) + first.number + length rest < process_limit * (event_limit + 1)
    go a p q n later (inl lt) = omega arith
    go a p q n later (inr (same, lt)) = omega arith

few_received : (names : List ProcessNames) (c : Computation) (sends : List Place) → IsSmall names c
    → AreReceived c sends → length sends ≤ process_limit * (event_limit + 1)
unfolding rank IsRanked
few_received names c sends small are = go sends refl
  where
    each : (e : Place) → Contains sends e → (e.number ≤ event_limit) × (e.process < process_limit)
    each e has =
        let message = (are.just e).0 has in
        let event : IsEvent c e = event_from_kind c e _ message.1.1 in
        let n : e.number ≤ event_count c e.process = event.1 in
        let s : event_count c e.process ≤ event_limit = count_is_short event_limit c small.short e.process in
        let p : e.process < length c = process_in_range c e event in
        let l : length c ≡ length names = small.one_each in
        let few : length names ≤ process_limit = small.few_processes in
        (omega arith, omega arith)

    go : (xs : List Place) → sends ≡ xs → length sends ≤ process_limit * (event_limit + 1)
    go [] e = let n : length sends ≡ 0 = ap length e in omega arith
    go (first ∷ rest) e =
        let n : length sends ≡ suc (length rest) = ap length e in
        let lt : first.process * (event_limit + 1) + first.number + length rest < process_limit * (event_limit + 1) =
        sends_from sends are.ascending each first rest e in
        omega arith

pub few_messages : (names : List ProcessNames) (c : Computation) (n : ℕ) → IsSmall names c → HasMessages c n
    → n ≤ process_limit * (event_limit + 1)
few_messages names c n small (sends, are, counted) =
    let few : length sends ≤ process_limit * (event_limit + 1) = few_received names c sends small are in
    omega (arith, counted)

-- ---- places

place_is_lawful : (names : List ProcessNames) (c : Computation) (e : Place) → IsSmall names c → IsEvent c e
    → PlaceIsLawful (named_place names e)
place_is_lawful names c e small event =
    let n : e.number ≤ event_count c e.process = event.1 in
    let s : event_count c e.process ≤ event_limit = count_is_short event_limit c small.short e.process in
    let p : e.process < length c = process_in_range c e event in
    let same : length c ≡ length names = small.one_each in
    (process_is_named names e.process small.named (omega arith), omega arith)

pub fault_is_lawful : (names : List ProcessNames) (version : Version) (c : Computation) (fault : Fault)
    → IsSmall names c → IsReported version c fault → RefusalIsLawful (match_refusal names fault)
fault_is_lawful names version c fault small r =
    go fault (place_is_lawful names c (place_of_fault fault) small (fault_is_event version c fault r))
  where
    go : (f : Fault) → PlaceIsLawful (named_place names (place_of_fault f)) → RefusalIsLawful (match_refusal names f)
    go (SendTwice e) lawful = (refl, lawful)
    go (Orphan e) lawful = (refl, lawful)
    go (SelfMessage e) lawful = (refl, lawful)
    go (ReceivedTwice e) lawful = (refl, lawful)

pub places_are_lawful : (names : List ProcessNames) (c : Computation) (places : List Place) → IsSmall names c
    → AllByRecursion (IsEvent c) places → AllByRecursion PlaceIsLawful (map (named_place names) places)
places_are_lawful names c [] small events = tt
places_are_lawful names c (e ∷ places) small events =
    (place_is_lawful names c e small events.0, places_are_lawful names c places small events.1)

-- ---- answers

path_is_lawful : (names : List ProcessNames) (path : List ℕ) → AllByRecursion HasName names
    → AllByRecursion (λ p. p < length names) path → AllByRecursion IsName (map (name_of_process names) path)
path_is_lawful names [] named below = tt
path_is_lawful names (p ∷ path) named below =
    (process_is_named names p named below.0, path_is_lawful names path named below.1)

pub possibly_is_lawful : (names : List ProcessNames) (c : Computation) (test : List ℕ → Bool) (w : ℕ)
    (p : PossiblyAnswer) → IsSmall names c → IsSoundPossibly c test w p → PossiblyIsLawful (printed_possibly p)
possibly_is_lawful names c test w (PossiblyYes cut) small sound =
    let ok : IsConsistent c cut = sound.0 in
    let l : length cut ≡ length c = ok.fits.one_each in
    let e : length c ≡ length names = small.one_each in
    let some : 1 ≤ length names = small.some_process in (
      omega arith,
      counts_fit cut (λ p.
          let n : get_or cut p 0 ≤ event_count c p = ok.fits.within p in
          let s : event_count c p ≤ event_limit = count_is_short event_limit c small.short p in
          omega arith),
    )
possibly_is_lawful names c test w PossiblyNo small sound = tt
possibly_is_lawful names c test w (PossiblyUnknown k) small sound =
    let t : total c ≤ process_limit * event_limit = small_total names c small in
    let le : k ≤ total c = unknown_level c test w k sound in
    omega arith

pub definitely_is_lawful : (names : List ProcessNames) (c : Computation) (test : List ℕ → Bool) (w : ℕ)
    (d : DefinitelyAnswer) → IsSmall names c → IsSoundDefinitely c test w d
    → DefinitelyIsLawful (printed_definitely names d)
definitely_is_lawful names c test w (DefinitelyYes k) small right =
    let t : total c ≤ process_limit * event_limit = small_total names c small in
    let le : k ≤ total c = right.2 in
    omega arith
definitely_is_lawful names c test w (DefinitelyNo path) small right =
    path_is_lawful names path small.named
    (subst (λ (n : ℕ). AllByRecursion (λ p. p < n) path) small.one_each (path_processes c test path right.1))
definitely_is_lawful names c test w (DefinitelyUnknown k) small right =
    let t : total c ≤ process_limit * event_limit = small_total names c small in
    let le : k ≤ total c = unknown_avoiding_level c test w k right in
    omega arith

pub answers_are_lawful : (document : Document) (recorded : Recorded) (asked : List NamedPredicate)
    (answers : List Answer) → HasNoCycle recorded.events → IsSmall document.names recorded.events
    → AllByRecursion AsksByName asked
    → AllZip (IsAnswered document recorded) asked answers
    → (length answers ≡ length asked) × AllByRecursion AnswerIsLawful answers
answers_are_lawful document recorded [] [] acyclic small named zipped = (refl, tt)
answers_are_lawful document recorded [] (answer ∷ answers) acyclic small named zipped = absurd zipped
answers_are_lawful document recorded (one ∷ asked) [] acyclic small named zipped = absurd zipped
answers_are_lawful document recorded (one ∷ asked) (answer ∷ answers) acyclic small named zipped =
    let a = zipped.0 in
    let p = possibly_at document recorded one.predicate a.possibly a.possibly_right in
    let d = definitely_at document recorded one.predicate a.definitely acyclic a.definitely_right in
    let rest = answers_are_lawful document recorded asked answers acyclic small named.1 zipped.1 in
    let name : IsName answer.name = subst IsName (sym a.name) named.0 in
    let possibly : PossiblyIsLawful answer.possibly =
    subst PossiblyIsLawful (sym a.possibly_reported)
    (possibly_is_lawful document.names recorded.events (test_of recorded one.predicate) document.width a.possibly small
    p.sound) in
    let definitely : DefinitelyIsLawful answer.definitely =
    subst DefinitelyIsLawful (sym a.definitely_reported)
    (definitely_is_lawful document.names recorded.events (test_of recorded one.predicate) document.width
    a.definitely small d.sound) in
    (ap suc rest.0, ((name, possibly, definitely), rest.1))
