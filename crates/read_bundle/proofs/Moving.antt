-- What reads and cuts do to what was cut of a bundle.
use Rattle.std.proofs.Common.{◌≡◌, ℕ, zero, suc, ◌+◌, ◌-◌, ◌<◌, ◌≤◌, true, false, List, [], ◌∷◌, ◌++◌, length, length-drop, length-append, take, drop, refl, sym, ap, ◌∙◌, append-nil, append_assoc, subst, arith, Option, Some, None}
use Rattle.std.specs.Prelude.{IfSome}
use Rattle.std.specs.Io.KnownBytes.{Consumes, IsAtEnd}
use Rattle.std.proofs.Common.{length-take}
use Rattle.std.proofs.lemmas.List.{drop-drop, drop-take, take-take, take_all}
use Rattle.std.proofs.KnownBytes.{Consumes-nil, Consumes-trans}
use Rattle.def_format.specs.Bundles.{onto_part, parts_of, whole_lines}
use Rattle.def_format.specs.Limits.{bundle_byte_limit}
use Rattle.def_judgement.specs.Writes.{IsTooLong, Source}
use Rattle.read_bundle.specs.Cutting.{IsCut, line_marks, parts_from}
use Rattle.read_bundle.specs.Moves.{Fills, Moves}
use Rattle.read_bundle.specs.Steps.{Goes, HasCut, State, holds, steps_left}
use Rattle.read_bundle.specs.declared.cutter.Cutting.TheVariants.{Hold, Part, Separator}
use Rattle.read_bundle.specs.declared.cutter.Cutter.{Cutter}
use Rattle.read_bundle.specs.declared.cutter.Cutter.TheVariants.{Held, Inside}
use Rattle.read_bundle.specs.declared.next.Next.{Next}
use Rattle.read_bundle.specs.declared.next.Next.TheVariants.{Bytes, End, PartEnd}
use Rattle.def_format.proofs.BundleParts.{onto_none, onto_twice}
use Rattle.read_bundle.proofs.Cuts.{onto_none_from}

-- ---- reads

pub fresh : (input : Source) (state : State) → state.cutter ≡ Held 0 → state.buffer ≡ [] → state.count ≡ 0
    → state.ended ≡ false → HasCut input input [] [] state
fresh input state cutter buffer count open' = record {
  seen = [];
  consumed = Consumes-nil input.bytes;
  counted = sym count;
  at_end = λ ended. let no = sym open' ∙ ended in absurd (cc);
  same_fate = λ more. refl;
  no_failure = λ ended. let no = sym open' ∙ ended in absurd (cc);
  parts = λ rest over. rw (cutter, buffer) (sym (onto_none (whole_lines rest)));
}

pub fills_step : (input before after : Source) (closed : List (List ℕ)) (part : List ℕ) (old new : State)
    → HasCut input before closed part old → old.buffer ≡ [] → old.ended ≡ false → Fills before after old new
    → HasCut input after closed part new
fills_step input before after closed part old new cut empty open' fills = record {
  seen = cut.seen ++ new.buffer;
  consumed = Consumes-trans input.bytes before.bytes after.bytes cut.seen new.buffer cut.consumed fills.consumed;
  counted = length-append cut.seen new.buffer ∙ ap (λ n. n + length new.buffer) cut.counted ∙ sym fills.counted;
  at_end = λ ended. (fills.at_end ended).0;
  same_fate = λ more. fills.same_fate more ∙ cut.same_fate open';
  no_failure = λ ended failing. fills.no_failure ended (cut.same_fate open' ∙ failing);
  parts = λ rest over.
      ap parts_of (append_assoc cut.seen new.buffer rest)
      ∙ cut.parts (new.buffer ++ rest) (λ ended. let no = sym open' ∙ ended in absurd (cc))
      ∙ rw (empty, fills.same_cutter) refl;
}

too_long : (input before : Option (List ℕ)) (seen : List ℕ) (n count : ℕ) → Consumes input before seen
    → length seen ≡ count → IfSome before (λ rest. n < count + length rest) → IfSome input (λ all. n < length all)
too_long None before seen n count consumed counted long = tt
too_long (Some all) None seen n count consumed counted long = absurd consumed
too_long (Some all) (Some rest) seen n count consumed counted long =
    let sum : length all ≡ length seen + length rest = ap length consumed ∙ length-append seen rest in
    omega (arith, sum, counted, long)

pub long_input : (input before : Source) (closed : List (List ℕ)) (part : List ℕ) (old : State)
    → HasCut input before closed part old → IfSome before.bytes (λ rest. bundle_byte_limit < old.count + length rest)
    → IsTooLong input
long_input input before closed part old cut long =
    too_long input.bytes before.bytes cut.seen bundle_byte_limit old.count cut.consumed cut.counted long

whole_input : (input left : Option (List ℕ)) (seen : List ℕ) → Consumes input left seen → IsAtEnd left
    → IfSome input (λ all. seen ≡ all)
whole_input None left seen consumed ends = tt
whole_input (Some all) None seen consumed ends = absurd consumed
whole_input (Some all) (Some rest) seen consumed ends =
    sym (consumed ∙ ap (λ l. seen ++ l) ends ∙ append-nil seen)

-- ---- steps

pub moves_step : (next : Next) (input left : Source) (closed : List (List ℕ)) (part : List ℕ) (old new : State)
    → HasCut input left closed part old → Moves old new next → Goes next input left closed part new
moves_step Bytes input left closed part old new cut moves = record {
  seen = cut.seen;
  consumed = cut.consumed;
  counted = cut.counted ∙ sym moves.same_count;
  at_end = λ ended. cut.at_end (sym moves.same_ended ∙ ended);
  same_fate = λ more. cut.same_fate (sym moves.same_ended ∙ more);
  no_failure = λ ended. cut.no_failure (sym moves.same_ended ∙ ended);
  parts = λ rest over.
      let over' = λ (ended : old.ended ≡ true). over (moves.same_ended ∙ ended) in
      cut.parts rest over' ∙ ap (λ parts. closed ++ onto_part part parts) (moves.parts rest over')
      ∙ ap (λ parts. closed ++ parts) (sym (onto_twice part new.given (parts_from new.cutter (new.buffer ++ rest))));
}
moves_step PartEnd input left closed part old new cut moves = record {
  seen = cut.seen;
  consumed = cut.consumed;
  counted = cut.counted ∙ sym moves.same_count;
  at_end = λ ended. cut.at_end (sym moves.same_ended ∙ ended);
  same_fate = λ more. cut.same_fate (sym moves.same_ended ∙ more);
  no_failure = λ ended. cut.no_failure (sym moves.same_ended ∙ ended);
  parts = λ rest over.
      let over' = λ (ended : old.ended ≡ true). over (moves.same_ended ∙ ended) in
      let later = parts_from new.cutter (new.buffer ++ rest) in
      cut.parts rest over' ∙ ap (λ parts. closed ++ onto_part part parts) (moves.parts rest over')
      ∙ ap (λ first. closed ++ first ∷ later) (append-nil part)
      ∙ sym (append_assoc closed (part ∷ []) later)
      ∙ ap (λ parts. (closed ++ part ∷ []) ++ parts) (sym (onto_none_from new.cutter (new.buffer ++ rest)));
}
moves_step End input left closed part old new cut moves =
    let ended = moves.at_end refl in
    record {
      bundle = cut.seen;
      is_given = record {
        all = whole_input input.bytes left.bytes cut.seen cut.consumed (cut.at_end ended.0);
        ends = cut.no_failure ended.0;
      };
      fits = subst (λ n. n ≤ bundle_byte_limit) (moves.same_count ∙ sym cut.counted) moves.fits;
      are_parts =
          ap parts_of (sym (append-nil cut.seen)) ∙ cut.parts [] (λ _. refl)
          ∙ ap (λ bytes. closed ++ onto_part part (parts_from old.cutter bytes)) (append-nil old.buffer)
          ∙ ap (λ parts. closed ++ onto_part part parts) ended.1
          ∙ ap (λ first. closed ++ first ∷ []) (append-nil part);
    }

-- ---- cuts

holds_few : (cutter : Cutter) → holds cutter ≤ 1
holds_few (Held zero) = omega arith
holds_few (Held (suc count)) = omega arith
holds_few Inside = omega arith

fewer : (old new : State) (n : ℕ) → 0 < n → n ≤ length old.buffer → new.buffer ≡ drop n old.buffer
    → new.count ≡ old.count → steps_left new < steps_left old
fewer old new n some within rest count =
    let long : length new.buffer ≡ length old.buffer - n = ap length rest ∙ length-drop n old.buffer in
    let few = holds_few new.cutter in
    omega (arith, long, few, some, within, count)

pub cut_hold : (old new : State) → IsCut old.cutter new.cutter old.buffer Hold → new.buffer ≡ drop 1 old.buffer
    → new.given ≡ [] → new.count ≡ old.count → new.ended ≡ old.ended → new.count ≤ bundle_byte_limit
    → Moves old new Bytes
cut_hold old new cut rest given count ended fits = record {
  parts = λ more over. cut.parts more ∙ rw (given, rest) (sym (onto_none_from new.cutter (drop 1 old.buffer ++ more)));
  at_end = λ e. absurd (cc);
  same_count = count;
  same_ended = ended;
  fits = fits;
  less = λ _. fewer old new 1 (omega arith) cut.within rest count;
}

pub cut_separator : (old new : State) → IsCut old.cutter new.cutter old.buffer Separator
    → new.buffer ≡ drop 1 old.buffer → new.count ≡ old.count → new.ended ≡ old.ended
    → new.count ≤ bundle_byte_limit → Moves old new PartEnd
cut_separator old new cut rest count ended fits = record {
  parts = λ more over. rw rest (cut.parts more);
  at_end = λ e. absurd (cc);
  same_count = count;
  same_ended = ended;
  fits = fits;
  less = λ _. fewer old new 1 (omega arith) cut.within rest count;
}

pub cut_part : (old new : State) (held n : ℕ) → IsCut old.cutter new.cutter old.buffer (Part held n)
    → new.buffer ≡ drop n old.buffer → new.given ≡ take held line_marks ++ take n old.buffer
    → new.count ≡ old.count → new.ended ≡ old.ended → new.count ≤ bundle_byte_limit → Moves old new Bytes
cut_part old new held n cut rest given count ended fits = record {
  parts = λ more over. rw (given, rest) (cut.parts more);
  at_end = λ e. absurd (cc);
  same_count = count;
  same_ended = ended;
  fits = fits;
  less = λ _. fewer old new n cut.some cut.within rest count;
}

-- ---- the end of the input

held_end : (held : ℕ) → (held ≡ 0 → ⊥) → held < 3
    → parts_of (take held line_marks ++ []) ≡ onto_part (take held line_marks) (parts_of [])
held_end zero some few = absurd (some refl)
held_end (suc zero) some few = refl
held_end (suc (suc zero)) some few = refl
held_end (suc (suc (suc k))) some few = absurd (omega arith)

separator_end : (held : ℕ) → 3 ≤ held → parts_of (take held line_marks ++ []) ≡ [] ∷ parts_of []
separator_end zero many = absurd (omega arith)
separator_end (suc zero) many = absurd (omega arith)
separator_end (suc (suc zero)) many = absurd (omega arith)
separator_end (suc (suc (suc zero))) many = refl
separator_end (suc (suc (suc (suc k)))) many =
    ap (λ marks. parts_of (marks ++ [])) (take_all (suc (suc (suc (suc k)))) line_marks (omega arith))

none_left : (old new : State) (held : ℕ) → old.cutter ≡ Held held → (held ≡ 0 → ⊥) → new.cutter ≡ Held 0
    → new.buffer ≡ old.buffer → new.count ≡ old.count → steps_left new < steps_left old
none_left old new zero is some fresh rest count = absurd (some refl)
none_left old new (suc held) is some fresh rest count =
    let before : holds old.cutter ≡ 1 = ap holds is in
    let after : holds new.cutter ≡ 0 = ap holds fresh in
    let same : length new.buffer ≡ length old.buffer = ap length rest in
    omega (arith, before, after, same, count)

pub last_bytes : (old new : State) (held : ℕ) → old.cutter ≡ Held held → (held ≡ 0 → ⊥) → held < 3
    → old.buffer ≡ [] → old.ended ≡ true → new.cutter ≡ Held 0 → new.buffer ≡ old.buffer
    → new.given ≡ take held line_marks → new.count ≡ old.count → new.ended ≡ old.ended
    → new.count ≤ bundle_byte_limit → Moves old new Bytes
last_bytes old new held is some few empty over fresh rest given count ended fits = record {
  parts = λ more nothing. rw (nothing over, is, fresh, rest, empty, given) (held_end held some few);
  at_end = λ e. absurd (cc);
  same_count = count;
  same_ended = ended;
  fits = fits;
  less = λ _. none_left old new held is some fresh rest count;
}

pub last_separator : (old new : State) (held : ℕ) → old.cutter ≡ Held held → 3 ≤ held
    → old.buffer ≡ [] → old.ended ≡ true → new.cutter ≡ Held 0 → new.buffer ≡ old.buffer
    → new.count ≡ old.count → new.ended ≡ old.ended → new.count ≤ bundle_byte_limit → Moves old new PartEnd
last_separator old new held is many empty over fresh rest count ended fits = record {
  parts = λ more nothing. rw (nothing over, is, fresh, rest, empty) (separator_end held many);
  at_end = λ e. absurd (cc);
  same_count = count;
  same_ended = ended;
  fits = fits;
  less = λ _. none_left old new held is (λ e. omega (arith, e, many)) fresh rest count;
}

-- ---- the bytes between two places

pub slice_room : (piece : List ℕ) (start end n : ℕ) → start ≤ end → n ≤ length (take (end - start) (drop start piece))
    → start + n ≤ end
slice_room piece start end n order within = omega (arith, order, within, length-take (end - start) (drop start piece))

pub slice_rest : (piece : List ℕ) (start end n : ℕ) → start + n ≤ end
    → take (end - (start + n)) (drop (start + n) piece) ≡ drop n (take (end - start) (drop start piece))
slice_rest piece start end n room =
    let sum : n + (end - (start + n)) ≡ end - start = omega (arith, room) in
    sym (ap (λ k. drop n (take k (drop start piece))) (sym sum)
    ∙ drop-take n (end - (start + n)) (drop start piece)
    ∙ ap (take (end - (start + n))) (drop-drop n start piece))

pub slice_run : (piece : List ℕ) (start end n : ℕ) → start + n ≤ end
    → take (start + n - start) (drop start piece) ≡ take n (take (end - start) (drop start piece))
slice_run piece start end n room =
    let size : start + n - start ≡ n = omega arith in
    ap (λ k. take k (drop start piece)) size ∙ sym (take-take n (end - start) (drop start piece) (omega (arith, room)))

pub slice_none : (marks piece : List ℕ) (start : ℕ) → marks ++ take (start - start) (drop start piece) ≡ marks
slice_none marks piece start =
    let none : start - start ≡ 0 = omega arith in
    ap (λ k. marks ++ take k (drop start piece)) none ∙ append-nil marks

pub slice_over : (piece : List ℕ) (start end : ℕ) → end ≤ start → take (end - start) (drop start piece) ≡ []
slice_over piece start end over =
    let none : end - start ≡ 0 = omega (arith, over) in ap (λ k. take k (drop start piece)) none
