-- What came of the trials before, and what is left of them.
use Rattle.std.proofs.Common.{◌≡◌, ◌<◌, ◌≤◌, List, arith, length, [], ◌∷◌, ◌++◌, append_assoc, append-nil, refl, sym, subst}
use Rattle.std.proofs.lemmas.List.Elements.{All-head, All-tail}
use Rattle.std.specs.List.{AllZip}
use Rattle.std.specs.Prelude.{All, Result, remove, slice_index_or}
use Rattle.def_format.specs.Documents.{Options}
use Rattle.judge_runs.specs.declared.outcome.Outcome.{Outcome}
use Rattle.judge_session.specs.declared.fault.EngineFault.{EngineFault}
use Rattle.judge_shared.specs.Sharing.{AreSound}
use Rattle.judge_shared.specs.Trials.{IsFinalResult, IsTrialResult}
use Rattle.judge_shared.specs.declared.orders.Orders.{Orders}
use Rattle.judge_shared.specs.declared.trial.Trial.{Trial}

-- With what comes of those that are left, what came of those before is what comes of all.
pub record AreFinal (options : Options) (all rest : List (Result Trial EngineFault))
    (outcomes : List (Result Outcome EngineFault)) (orders : Orders) : Type 0 where
  pub sound : AreSound options orders
  pub trials : All (IsTrialResult options) rest
  pub with_others : (more : List (Result Outcome EngineFault)) → AllZip (IsFinalResult options) rest more
      → AllZip (IsFinalResult options) all (outcomes ++ more)

pub one_more : (options : Options) (all rest left : List (Result Trial EngineFault)) (trial : Result Trial EngineFault)
    (outcomes new : List (Result Outcome EngineFault)) (outcome : Result Outcome EngineFault) (before after : Orders)
    → rest ≡ trial ∷ left → new ≡ outcomes ++ outcome ∷ [] → AreFinal options all rest outcomes before
    → (AreSound options before → IsTrialResult options trial
    → IsFinalResult options trial outcome × AreSound options after)
    → AreFinal options all left new after
one_more options all rest left trial outcomes new outcome before after is pushed are gives = record {
  sound = given.1;
  trials = All-tail (IsTrialResult options) trial left trials;
  with_others = λ more others.
      rw pushed (subst (AllZip (IsFinalResult options) all) (sym (append_assoc outcomes (outcome ∷ []) more))
      (are.with_others (outcome ∷ more) (rw is (given.0, others))));
}
  where
    trials : All (IsTrialResult options) (trial ∷ left)
    trials = rw is at are.trials

    given : IsFinalResult options trial outcome × AreSound options after
    given = gives are.sound (All-head (IsTrialResult options) trial left trials)

pub none_left : (options : Options) (all rest : List (Result Trial EngineFault))
    (outcomes : List (Result Outcome EngineFault)) (orders : Orders) → rest ≡ []
    → AreFinal options all rest outcomes orders
    → AllZip (IsFinalResult options) all outcomes × AreSound options orders
none_left options all rest outcomes orders none are =
    (subst (AllZip (IsFinalResult options) all) (append-nil outcomes) (are.with_others [] (rw none tt)), are.sound)

-- ---- the list of those that are left

pub first_taken : {A : Type 0} (rest left : List A) (x : A) → 0 < length rest → x ≡ slice_index_or rest 0 x
    → left ≡ remove rest 0 → rest ≡ x ∷ left
first_taken [] left x some first others = absurd (omega (arith, some))
first_taken (y ∷ ys) left x some first others = λ i. sym first i ∷ sym others i

pub no_length : {A : Type 0} (rest : List A) → length rest ≤ 0 → rest ≡ []
no_length [] none = refl
no_length (x ∷ rest) none = absurd (omega (arith, none))
