-- A run with no further argument judges the bundle on the input, and its status 0 or 1 says that the truth is written.
use Rattle.std.proofs.Common.{◌≡◌, ◌≤◌, ℕ, List, [], ◌∷◌, drop, map, length, refl, sym, subst, arith, Option, inr}
use Rattle.std.specs.Prelude.{Bool}
use Rattle.clap.specs.Walk.{Text}
use Rattle.app_arguments.specs.Statuses.{Ending, Success, Negative, Alarm, NoPredicate, Misuse, Failed, MemoryFailure, ReadFailure, WriteFailure, BundleFailure, NetworkFailure, Ends, JudgeInput, JudgementLeaves, File, status_of}
use Rattle.app_arguments.specs.Places.{Place}
use Rattle.def_judgement.specs.Writes.{IsJudged, IsRefused, Source, WritesTruthOfBundle}
use Rattle.def_judgement.proofs.TextsOwed.{truth_of_bundle_text}
use Rattle.app_arguments.specs.Arguments.{AsksFor, of_input}
use Rattle.pd_cli.specs.Runs.{RunsAs}
use Rattle.pd_cli.proofs.OneRule.{as_one_rule}
use Rattle.app_arguments.proofs.Parsed.{nothing_is_no_command, nothing_is_taken}

none_asks : AsksFor [] JudgeInput
none_asks = of_input nothing_is_taken nothing_is_no_command

pub none_left : {A B : Type 0} (f : A → B) (xs : List A) → length xs ≤ 1 → drop 1 (map f xs) ≡ []
none_left f [] le = refl
none_left f (x ∷ []) le = refl
none_left f (x ∷ y ∷ xs) le = absurd (omega arith)

pub as_asked_by_none : (arguments : List Text) (input : Source) (files : List ℕ → File)
    (connections : Place → Source → Type 0) (network_serves : Bool) (status : ℕ)
    (old new errors_old errors_new : Option (List ℕ)) → arguments ≡ []
    → Ends (λ ending. JudgementLeaves input ending old new) status errors_old errors_new
    → RunsAs (AsksFor arguments) input files connections network_serves status old new errors_old errors_new
as_asked_by_none arguments input files connections network_serves status old new errors_old errors_new none h =
    as_one_rule input files connections network_serves status old new errors_old errors_new arguments
    (inr (JudgeInput, subst (λ (l : List Text). AsksFor l JudgeInput) (sym none) none_asks, h))

truth_of_end : (input : Source) (ending : Ending) (old new : Option (List ℕ))
    → status_of ending ≤ 1 → JudgementLeaves input ending old new → WritesTruthOfBundle input
    (status_of ending ≡ 0) old new
truth_of_end input Success old new le left =
    truth_of_bundle_text input IsJudged (status_of Success ≡ 0) old new (λ _ _ _. refl) left
truth_of_end input Negative old new le left =
    truth_of_bundle_text input IsRefused (status_of Negative ≡ 0) old new (λ _ refused judged. cc) left
truth_of_end input Alarm old new le left = absurd left
truth_of_end input NoPredicate old new le left = absurd left
truth_of_end input Misuse old new le left = absurd left
truth_of_end input (Failed MemoryFailure) old new le left = absurd (omega (arith, le))
truth_of_end input (Failed ReadFailure) old new le left = absurd (omega (arith, le))
truth_of_end input (Failed WriteFailure) old new le left = absurd (omega (arith, le))
truth_of_end input (Failed BundleFailure) old new le left = absurd (omega (arith, le))
truth_of_end input (Failed NetworkFailure) old new le left = absurd left

pub truth_of_status : (input : Source) (status : ℕ)
    (old new errors_old errors_new : Option (List ℕ))
    → Ends (λ ending. JudgementLeaves input ending old new) status errors_old errors_new → status ≤ 1
    → WritesTruthOfBundle input (status ≡ 0) old new
truth_of_status input status old new errors_old errors_new h le =
    subst (λ (n : ℕ). WritesTruthOfBundle input (n ≡ 0) old new) (sym h.is_status)
    (truth_of_end input h.ending old new (subst (λ (n : ℕ). n ≤ 1) h.is_status le) h.output)
