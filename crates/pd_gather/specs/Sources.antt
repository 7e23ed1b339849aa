-- What a read of a source does to what is known of it.
use Rattle.std.specs.Prelude.{◌≡◌, ◌≢◌, ◌<◌, ℕ, true, List, [], length, Some, Result, Ok, Err}
use Rattle.def_judgement.specs.Writes.{FailsAfter, Source}

-- What is known of whether a read fails stays as it was while bytes come. The end comes only if no read is known to
-- fail, and a read fails only as is known: no byte is left then.
abbrev pub KeepsFate : {E : Type 0} → (old new : Source) → Result ℕ E → (piece : List ℕ) → Type 0
KeepsFate old new (Ok count) piece =
    (count ≢ 0 → new.fails ≡ old.fails) × (count ≡ 0 → 0 < length piece → old.fails ≢ Some true)
KeepsFate old new (Err error) piece = FailsAfter old (λ bytes. bytes ≡ [])
