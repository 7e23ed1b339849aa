-- What is left if a server's document can't be opened or read, or memory runs out before: nothing.
use Rattle.std.proofs.Common.{◌≡◌, ℕ, List, Option, Err, refl, inl, inr}
use Rattle.judge_runs.specs.Wishes.{Condition}
use Rattle.def_format.specs.Documents.{Inquiry, Options}
use Rattle.app_arguments.specs.Statuses.{Ending, File, LeavesOf}
use Rattle.judge_session.specs.declared.fault.EngineFault.{EngineFault}
use Rattle.judge_session.specs.declared.fault.EngineFault.TheVariants.{BundleLong, Memory, Read, Write}
use Rattle.app_serve.specs.declared.service_fault.ServiceFault.TheVariants.{Engine}
use Rattle.app_serve.specs.ServiceFaults.{service_ending}
use Rattle.app_host.proofs.UnreadFiles.{IsReadFault, keeps_same}

module _ (options : Options) (document : File) (IsUnread : Type 0)
    (P : Inquiry → Ending → (old new : Option (List ℕ)) → Type 0) (old : Option (List ℕ)) where
  pub unread_service : (fail_on : List Condition) (fault : EngineFault) → IsReadFault fault
      → (fault ≡ Read → IsUnread)
      → LeavesOf options document IsUnread P (service_ending fail_on (Err (Engine fault))) old old
  unread_service fail_on Memory is unread = keeps_same old
  unread_service fail_on Read is unread = (unread refl, keeps_same old)
  unread_service fail_on Write (inl is) unread = absurd (cc)
  unread_service fail_on Write (inr is) unread = absurd (cc)
  unread_service fail_on BundleLong (inl is) unread = absurd (cc)
  unread_service fail_on BundleLong (inr is) unread = absurd (cc)
