-- Bytes that are no more than one line may have hold no fault.
use Rattle.def_format.proofs.LineFacts.{short_is_sound_lem}
use Rattle.def_format.proofs.short_is_sound.Goals as goal

pub returns : goal.returns
returns c = short_is_sound_lem
