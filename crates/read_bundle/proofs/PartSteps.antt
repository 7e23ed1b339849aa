-- Parts that are read step by step.
use Rattle.std.proofs.Common.{◌≡◌, ℕ, ◌<◌, List, [], ◌∷◌, ◌++◌, length, length-append, refl, sym, subst, append-nil, append_assoc, arith}
use Rattle.std.proofs.Common.{inl, inr, Ok, Err}
use Rattle.std.specs.Prelude.{◌⊎◌, IsErrAnd, Result}
use Rattle.read_bundle.specs.declared.fault.BundleFault.{BundleFault}
use Rattle.def_judgement.specs.Writes.{Source}
use Rattle.read_bundle.specs.PartsRead.{AtStep, HasReadPart}
use Rattle.read_bundle.specs.Steps.{AreParts, Goes, HasCut, State, Steps, begins_part, steps_left, turns_left}
use Rattle.read_bundle.specs.declared.next.Next.{Next}
use Rattle.read_bundle.specs.declared.next.Next.TheVariants.{Bytes, End, PartEnd}

pub turns_fall : (next later : Next) (old new : State) → (next ≡ End → ⊥)
    → ((later ≡ End → ⊥) → steps_left new < steps_left old) → turns_left later new < turns_left next old
turns_fall End later old new more less = absurd (more refl)
turns_fall Bytes End old new more less = omega arith
turns_fall PartEnd End old new more less = omega arith
turns_fall Bytes Bytes old new more less = omega (arith, less (λ e. absurd (cc)))
turns_fall Bytes PartEnd old new more less = omega (arith, less (λ e. absurd (cc)))
turns_fall PartEnd Bytes old new more less = omega (arith, less (λ e. absurd (cc)))
turns_fall PartEnd PartEnd old new more less = omega (arith, less (λ e. absurd (cc)))

-- a fault that is handed on
pub same_fault : {A B : Type 0} (result : Result A BundleFault) (fault reported : BundleFault)
    → IsErrAnd result (λ e. e ≡ fault) → result ≡ Err reported
    → ◌≡◌ {A = Result B BundleFault} (Err fault) (Err reported)
same_fault (Ok x) fault reported is e = absurd is
same_fault (Err f) fault reported is e = cc

-- ---- one part

pub part_begins : (P : List ℕ → Type 0) (begin left : Source) (first state : State) (next : Next) → P []
    → Steps begin left first state next → AtStep P begin left first state next
part_begins P begin left first state next none steps = record {
  part = [];
  holds_so_far = none;
  goes = λ input closed cut. steps input closed [] cut;
}

pub part_grows : (P Q : List ℕ → Type 0) (begin before after : Source) (first old new : State) (next later : Next)
    → next ≡ Bytes → AtStep P begin before first old next → ((part : List ℕ) → P part → Q (part ++ old.given))
    → Steps before after old new later → AtStep Q begin after first new later
part_grows P Q begin before after first old new next later is at grows steps =
    let here : AtStep P begin before first old Bytes = rw is at at in
    record {
      part = here.part ++ old.given;
      holds_so_far = grows here.part here.holds_so_far;
      goes = λ input closed cut. steps input closed (here.part ++ old.given) (here.goes input closed cut);
    }

-- what a step's fault says of each source that came to the step
pub part_fault : (Says : Source → Type 0) (P : List ℕ → Type 0) (begin left : Source) (first state : State)
    (next : Next) → next ≡ Bytes → AtStep P begin left first state next
    → ((input : Source) (closed : List (List ℕ)) (part : List ℕ) → HasCut input left closed part state → Says input)
    → (input : Source) (closed : List (List ℕ)) → HasCut input begin closed [] first → Says input
part_fault Says P begin left first state next is at fault input closed cut =
    let here : AtStep P begin left first state Bytes = rw is at at in
    fault input closed (here.part ++ state.given) (here.goes input closed cut)

no_end : (Bytes ≡ PartEnd) ⊎ (Bytes ≡ End) → ⊥
no_end (inl e) = cc
no_end (inr e) = cc

pub part_read : (P Q : List ℕ → Type 0) (begin left : Source) (first state : State) (next : Next)
    → (next ≡ PartEnd) ⊎ (next ≡ End) → AtStep P begin left first state next → ((part : List ℕ) → P part → Q part)
    → HasReadPart Q begin left first state (begins_part next)
part_read P Q begin left first state PartEnd ends at f =
    record { part = at.part; right = f at.part at.holds_so_far; goes = at.goes }
part_read P Q begin left first state End ends at f =
    record { part = at.part; right = f at.part at.holds_so_far; goes = at.goes }
part_read P Q begin left first state Bytes ends at f = absurd (no_end ends)

-- ---- parts that are skipped

-- how it goes on after some parts more
pub record Skips (begin left : Source) (first state : State) (next : Next) (input : Source)
    (closed : List (List ℕ)) : Type 0 where
  pub parts : List (List ℕ)
  pub part : List ℕ
  pub goes : Goes next input left (closed ++ parts) part state

-- the same of all that came before
abbrev pub HasSkipped : (begin left : Source) → (first state : State) → Next → Type 0
HasSkipped begin left first state next =
    (input : Source) (closed : List (List ℕ)) → HasCut input begin closed [] first
    → Skips begin left first state next input closed

pub skip_begins : (begin left : Source) (first state : State) (next : Next) → Steps begin left first state next
    → HasSkipped begin left first state next
skip_begins begin left first state next steps = λ input closed cut. record {
  parts = [];
  part = [];
  goes = subst (λ all. Goes next input left all [] state) (sym (append-nil closed)) (steps input closed [] cut);
}

pub skip_goes : (begin before after : Source) (first old new : State) (next later : Next) → (next ≡ End → ⊥)
    → HasSkipped begin before first old next → Steps before after old new later → HasSkipped begin after first new later
skip_goes begin before after first old new End later more has steps = absurd (more refl)
skip_goes begin before after first old new Bytes later more has steps = λ input closed cut.
    let here = has input closed cut in
    record {
      parts = here.parts;
      part = here.part ++ old.given;
      goes = steps input (closed ++ here.parts) (here.part ++ old.given) here.goes;
    }
skip_goes begin before after first old new PartEnd later more has steps = λ input closed cut.
    let here = has input closed cut in
    let all : HasCut input before (closed ++ (here.parts ++ here.part ∷ [])) [] old =
    subst (λ parts. HasCut input before parts [] old) (append_assoc closed here.parts (here.part ∷ [])) here.goes in
    record {
      parts = here.parts ++ here.part ∷ [];
      part = [];
      goes = steps input (closed ++ (here.parts ++ here.part ∷ [])) [] all;
    }

-- the parts that were skipped, of which there is one
abbrev pub HasRest : Source → List (List ℕ) → Type 0
HasRest input closed = (parts : List (List ℕ)) × (0 < length parts) × AreParts input (closed ++ parts)

pub skip_ends : (begin left : Source) (first state : State) (next : Next) → next ≡ End
    → HasSkipped begin left first state next → (input : Source) (closed : List (List ℕ))
    → HasCut input begin closed [] first → HasRest input closed
skip_ends begin left first state next is has input closed cut =
    let here = has input closed cut in
    let all : AreParts input ((closed ++ here.parts) ++ here.part ∷ []) =
    subst (λ (n : Next). Goes n input left (closed ++ here.parts) here.part state) is here.goes in
    let long = length-append here.parts (here.part ∷ []) in (
      here.parts ++ here.part ∷ [],
      omega (arith, long),
      subst (AreParts input) (append_assoc closed here.parts (here.part ∷ [])) all,
    )

pub skip_fault : (Says : Source → Type 0) (begin left : Source) (first state : State) (next : Next) → (next ≡ End → ⊥)
    → HasSkipped begin left first state next
    → ((input : Source) (closed : List (List ℕ)) (part : List ℕ) → HasCut input left closed part state → Says input)
    → (input : Source) (closed : List (List ℕ)) → HasCut input begin closed [] first → Says input
skip_fault Says begin left first state End more has fault input closed cut = absurd (more refl)
skip_fault Says begin left first state Bytes more has fault input closed cut =
    let here = has input closed cut in fault input (closed ++ here.parts) (here.part ++ state.given) here.goes
skip_fault Says begin left first state PartEnd more has fault input closed cut =
    let here = has input closed cut in fault input ((closed ++ here.parts) ++ here.part ∷ []) [] here.goes
