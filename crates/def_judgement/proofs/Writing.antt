-- What is written of a text that is owed is written of one that is owed under weaker words.
use Rattle.std.specs.Prelude.{ℕ, List, Option}
use Rattle.def_judgement.specs.Writes.{CallEnd, Whole, Partial, Silent, Writes}

pub writes_weaker : (P Q : List ℕ → Type 0) (end : CallEnd) (old new : Option (List ℕ))
    → ((text : List ℕ) → P text → Q text) → Writes P end old new → Writes Q end old new
writes_weaker P Q Whole old new weaker written = (written.0, weaker written.0 written.1, written.2)
writes_weaker P Q Partial old new weaker written =
    (written.0, weaker written.0 written.1, written.2, written.3, written.4)
writes_weaker P Q Silent old new weaker written = written
