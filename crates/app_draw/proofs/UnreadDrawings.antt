-- What is left if a file of a drawing can't be opened or read, or memory runs out before: nothing.
use Rattle.std.proofs.Common.{◌≡◌, ℕ, List, Option, Err, refl, inl, inr}
use Rattle.std.specs.Prelude.{Result}
use Rattle.def_format.specs.Documents.{Inquiry, Options}
use Rattle.app_arguments.specs.Statuses.{File}
use Rattle.judge_session.specs.declared.fault.EngineFault.{EngineFault}
use Rattle.judge_session.specs.declared.fault.EngineFault.TheVariants.{BundleLong, Memory, Read, Write}
use Rattle.judge_draw.specs.declared.drawings.DrawOutcome.{DrawOutcome}
use Rattle.app_draw.specs.Drawings.{DrawLeaves}
use Rattle.app_host.proofs.UnreadFiles.{IsReadFault, keeps_same}

pub unread_drawing : (options : Options) (document : File) (IsUnread : Type 0)
    (P : Inquiry → Result DrawOutcome EngineFault → (old new : Option (List ℕ)) → Type 0) (old : Option (List ℕ))
    (fault : EngineFault) → IsReadFault fault → (fault ≡ Read → IsUnread)
    → DrawLeaves options document IsUnread P (Err fault) old old
unread_drawing options document IsUnread P old Memory is unread = keeps_same old
unread_drawing options document IsUnread P old Read is unread = inl (unread refl, keeps_same old)
unread_drawing options document IsUnread P old Write (inl is) unread = absurd (cc)
unread_drawing options document IsUnread P old Write (inr is) unread = absurd (cc)
unread_drawing options document IsUnread P old BundleLong (inl is) unread = absurd (cc)
unread_drawing options document IsUnread P old BundleLong (inr is) unread = absurd (cc)
