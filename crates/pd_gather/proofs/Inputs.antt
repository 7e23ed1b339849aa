-- What one input more does to a stream.
use Rattle.std.proofs.Common.{◌≡◌, ℕ, zero, suc, Bool, true, false, eqb, List, [], ◌∷◌, ◌++◌, refl, sym, ◌∙◌, ap, subst, append_assoc, arith}
use Rattle.std.specs.Prelude.{Some, slice_get, slice_set}
use Rattle.def_format.specs.Names.{ProcessNames}
use Rattle.def_format.specs.Readings.{Ending, Open, Ended, Failed, IsClosed, Reading}
use Rattle.def_format.specs.Sessions.{Input, Piece, AtEnd, Broken, Interleaving, inputs_of, joined_pieces, ending_of_inputs, bytes_of, ending_of}
use Rattle.pd_events.specs.Reads.{ReaderState, Reads}
use Rattle.pd_gather.specs.Taken.{HasTaken, Takes}
use Rattle.def_judgement.proofs.StreamResults.{ended_closed}

-- ---- inputs after others

open_ending : (inputs more : List Input) → ending_of_inputs inputs ≡ Open → ending_of_inputs (inputs ++ more)
    ≡ ending_of_inputs more
open_ending [] more e = refl
open_ending (Piece bytes ∷ later) more e = open_ending later more e
open_ending (AtEnd ∷ later) more e = cc
open_ending (Broken ∷ later) more e = cc

open_pieces : (inputs more : List Input) → ending_of_inputs inputs ≡ Open
    → joined_pieces (inputs ++ more) ≡ joined_pieces inputs ++ joined_pieces more
open_pieces [] more e = refl
open_pieces (Piece bytes ∷ later) more e =
    ap (λ rest. bytes ++ rest) (open_pieces later more e)
    ∙ sym (append_assoc bytes (joined_pieces later) (joined_pieces more))
open_pieces (AtEnd ∷ later) more e = cc
open_pieces (Broken ∷ later) more e = cc

ended_ending : (inputs more : List Input) → (ending_of_inputs inputs ≡ Open → ⊥) → ending_of_inputs (inputs ++ more)
    ≡ ending_of_inputs inputs
ended_ending [] more differ = absurd (differ refl)
ended_ending (Piece bytes ∷ later) more differ = ended_ending later more differ
ended_ending (AtEnd ∷ later) more differ = refl
ended_ending (Broken ∷ later) more differ = refl

ended_pieces : (inputs more : List Input) → (ending_of_inputs inputs ≡ Open → ⊥)
    → joined_pieces (inputs ++ more) ≡ joined_pieces inputs
ended_pieces [] more differ = absurd (differ refl)
ended_pieces (Piece bytes ∷ later) more differ = ap (λ rest. bytes ++ rest) (ended_pieces later more differ)
ended_pieces (AtEnd ∷ later) more differ = refl
ended_pieces (Broken ∷ later) more differ = refl

-- ---- one input more

moved : (r : ReaderState) (names : List ProcessNames) (e f : Ending) (b d : List ℕ) → e ≡ f → b ≡ d → Reads r names e b
    → Reads r names f d
moved r names e f b d p q h =
    subst (λ (x : List ℕ). Reads r names f x) q (subst (λ (x : Ending). Reads r names x b) p h)

ended_takes : (old new : ReaderState) (input : Input) (names : List ProcessNames) (inputs : List Input)
    → Takes old new input → (ending_of_inputs inputs ≡ Open → ⊥)
    → Reads old names (ending_of_inputs inputs) (joined_pieces inputs)
    → Reads new names (ending_of_inputs (inputs ++ input ∷ [])) (joined_pieces (inputs ++ input ∷ []))
ended_takes old new input names inputs takes differ r =
    let closed : IsClosed old.reading.stop =
    subst (λ (x : Reading). IsClosed x.stop) (sym r.same_reading)
    (ended_closed names (ending_of_inputs inputs) (joined_pieces inputs) differ) in
    subst (λ (x : ReaderState). Reads x names (ending_of_inputs (inputs ++ input ∷ []))
    (joined_pieces (inputs ++ input ∷ []))) (sym (takes.stays closed))
    (moved old names (ending_of_inputs inputs) (ending_of_inputs (inputs ++ input ∷ [])) (joined_pieces inputs)
    (joined_pieces (inputs ++ input ∷ [])) (sym (ended_ending inputs (input ∷ []) differ))
    (sym (ended_pieces inputs (input ∷ []) differ)) r)

pub takes_one : (old new : ReaderState) (input : Input) (names : List ProcessNames) (inputs : List Input)
    → Takes old new input → Reads old names (ending_of_inputs inputs) (joined_pieces inputs)
    → Reads new names (ending_of_inputs (inputs ++ input ∷ [])) (joined_pieces (inputs ++ input ∷ []))
takes_one old new input names inputs takes r = go (ending_of_inputs inputs) refl
  where
    go : (e : Ending) → ending_of_inputs inputs ≡ e
        → Reads new names (ending_of_inputs (inputs ++ input ∷ [])) (joined_pieces (inputs ++ input ∷ []))
    go Open e =
        moved new names (ending_of_inputs (input ∷ [])) (ending_of_inputs (inputs ++ input ∷ [])) (joined_pieces inputs
        ++ joined_pieces (input ∷ [])) (joined_pieces (inputs ++ input ∷ []))
        (sym (open_ending inputs (input ∷ []) e)) (sym (open_pieces inputs (input ∷ []) e))
        (takes.next names (joined_pieces inputs) (subst (λ (x : Ending). Reads old names x (joined_pieces inputs)) e r))
    go Ended e = ended_takes old new input names inputs takes (λ (o : ending_of_inputs inputs ≡ Open). cc) r
    go Failed e = ended_takes old new input names inputs takes (λ (o : ending_of_inputs inputs ≡ Open). cc) r

-- ---- the streams of a core

-- the inputs of a stream after one step more
own_inputs : (stream : ℕ) (input : Input) (steps : Interleaving) → inputs_of stream (steps ++ (stream, input) ∷ [])
    ≡ inputs_of stream steps ++ input ∷ []
own_inputs stream input [] = go (eqb stream stream) refl
  where
    go : (b : Bool) → eqb stream stream ≡ b → inputs_of stream ((stream, input) ∷ []) ≡ input ∷ []
    go true e = rw e refl
    go false e = absurd (grind arith)
own_inputs stream input ((other, before) ∷ later) = go (own_inputs stream input later) (eqb other stream) refl
  where
    go : inputs_of stream (later ++ (stream, input) ∷ []) ≡ inputs_of stream later ++ input ∷ [] → (b : Bool)
        → eqb other stream ≡ b → inputs_of stream (((other, before) ∷ later) ++ (stream, input) ∷ [])
        ≡ inputs_of stream ((other, before) ∷ later) ++ input ∷ []
    go ih true e = rw e (ap (λ rest. before ∷ rest) ih)
    go ih false e = rw e ih

other_inputs : (i stream : ℕ) (input : Input) (steps : Interleaving) → (stream ≡ i → ⊥)
    → inputs_of i (steps ++ (stream, input) ∷ []) ≡ inputs_of i steps
other_inputs i stream input [] differ = go (eqb stream i) refl
  where
    go : (b : Bool) → eqb stream i ≡ b → inputs_of i ((stream, input) ∷ []) ≡ []
    go true e = absurd (differ (grind arith))
    go false e = rw e refl
other_inputs i stream input ((other, before) ∷ later) differ =
    go (other_inputs i stream input later differ) (eqb other i) refl
  where
    go : inputs_of i (later ++ (stream, input) ∷ []) ≡ inputs_of i later → (b : Bool) → eqb other i ≡ b
        → inputs_of i (((other, before) ∷ later) ++ (stream, input) ∷ []) ≡ inputs_of i ((other, before) ∷ later)
    go ih true e = rw e (ap (λ rest. before ∷ rest) ih)
    go ih false e = rw e ih

set_own : {A : Type 0} (xs : List A) (stream : ℕ) (new x : A) → slice_get (slice_set xs stream new) stream ≡ Some x
    → x ≡ new
set_own [] stream new x e = cc
set_own (y ∷ ys) zero new x e = cc
set_own (y ∷ ys) (suc stream) new x e = set_own ys stream new x e

set_other : {A : Type 0} (xs : List A) (i stream : ℕ) (new : A) → (stream ≡ i → ⊥)
    → slice_get (slice_set xs stream new) i ≡ slice_get xs i
set_other [] i stream new differ = refl
set_other (y ∷ ys) zero zero new differ = absurd (differ refl)
set_other (y ∷ ys) (suc i) zero new differ = refl
set_other (y ∷ ys) zero (suc stream) new differ = refl
set_other (y ∷ ys) (suc i) (suc stream) new differ = set_other ys i stream new (λ (e : stream ≡ i). differ (ap suc e))

pub set_same : {A : Type 0} (xs : List A) (i : ℕ) (x : A) → slice_get xs i ≡ Some x → slice_set xs i x ≡ xs
set_same [] i x e = refl
set_same (y ∷ ys) zero x e = let same : y ≡ x = cc in ap (λ (z : _). z ∷ ys) (sym same)
set_same (y ∷ ys) (suc i) x e = ap (λ (zs : List _). y ∷ zs) (set_same ys i x e)

pub takes_step : (core : List ReaderState) (stream : ℕ) (old new : ReaderState) (input : Input)
    → slice_get core stream ≡ Some old → Takes old new input → (names : List ProcessNames) (steps : Interleaving)
    → HasTaken core names steps → HasTaken (slice_set core stream new) names (steps ++ (stream, input) ∷ [])
takes_step core stream old new input there takes names steps taken =
    record { each = λ i reader e. go i reader e (eqb stream i) refl }
  where
    own : (i : ℕ) (reader : ReaderState) → slice_get (slice_set core stream new) i ≡ Some reader → stream ≡ i
        → Reads reader names (ending_of i (steps ++ (stream, input) ∷ [])) (bytes_of i (steps ++ (stream, input) ∷ []))
    own i reader e same =
        subst (λ (k : ℕ). Reads reader names (ending_of k (steps ++ (stream, input) ∷ []))
        (bytes_of k (steps ++ (stream, input) ∷ []))) same
        (rw (own_inputs stream input steps, set_own core stream new reader (rw (← same) at e))
        (takes_one old new input names (inputs_of stream steps) takes (taken.each stream old there)))

    go : (i : ℕ) (reader : ReaderState) → slice_get (slice_set core stream new) i ≡ Some reader → (b : Bool)
        → eqb stream i ≡ b → Reads reader names (ending_of i (steps ++ (stream, input) ∷ []))
        (bytes_of i (steps ++ (stream, input) ∷ []))
    go i reader e true t = own i reader e (grind arith)
    go i reader e false t =
        let differ : (stream ≡ i → ⊥) = λ (s : stream ≡ i). (grind arith) in
        rw (other_inputs i stream input steps differ) (taken.each i reader (sym (set_other core i stream new differ)
        ∙ e))
