-- A word that is none of the kinds' is no kind's.
use Rattle.std.proofs.Common.{◌≡◌, ℕ, List, codes}
use Rattle.app_arguments.specs.Conditions.{kind_text}
use Rattle.judge_runs.specs.Wishes.{Kind, PossiblyYes, PossiblyNo, DefinitelyYes, DefinitelyNo, SomeUnknown}
use Rattle.app_arguments.proofs.kind.kind_of.Goals as goal

none_of : (word : List ℕ) → ¬ (word ≡ codes "possibly") → ¬ (word ≡ codes "possibly-no")
    → ¬ (word ≡ codes "definitely") → ¬ (word ≡ codes "definitely-no") → ¬ (word ≡ codes "unknown")
    → (kind : Kind) → ¬ (word ≡ kind_text kind)
none_of word a b c d e PossiblyYes is = a is
none_of word a b c d e PossiblyNo is = b is
none_of word a b c d e DefinitelyYes is = c is
none_of word a b c d e DefinitelyNo is = d is
none_of word a b c d e SomeUnknown is = e is

pub returns : goal.returns
returns c =
    none_of c.args.word.now (c.is.ensures.no c.if-is.false) (c.is-2.ensures.no c.if-is-2.false)
    (c.is-3.ensures.no c.if-is-3.false) (c.is-4.ensures.no c.if-is-4.false) (c.is-5.ensures.no c.if-is-5.false)
