-- An open reading has no fault, and goes on line by line.
use Rattle.def_format.proofs.ReadingSteps.{open_is_sound, reading_goes_on, reading_ends, reading_fails}
use Rattle.def_format.proofs.readings_go_on.Goals as goal

pub returns : goal.returns
returns c = record { sound = open_is_sound; batch = reading_goes_on; end = reading_ends; failure = reading_fails }
