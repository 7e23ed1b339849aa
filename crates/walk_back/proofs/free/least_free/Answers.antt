-- The least process that is free.
use Rattle.std.proofs.Common.{◌≡◌, ◌<◌, ◌↔◌, ◌⊎◌, ℕ, List, inl, inr, false, sym, ◌∙◌, arith}
use Rattle.std.proofs.lemmas.Bool.{cases_eq, true≢false}
use Rattle.def_model.specs.Events.{Computation}
use Rattle.walk_keys.specs.Words.{has_bit}
use Rattle.walk_back.specs.Ways.{AreFree, LeavesConsistent}
use Rattle.walk_back.proofs.free.least_free.Goals as goal

some_bit : (c : Computation) (cut : List ℕ) (free : ℕ) → AreFree c cut free → (p : ℕ) × LeavesConsistent c cut p
    → free ≡ 0 ↔ ((j : ℕ) → has_bit free j ≡ false) → 0 < free
some_bit c cut free are (p, leaves) none = go (cases_eq free 0)
  where
    go : (free ≡ 0) ⊎ (free ≡ 0 → ⊥) → 0 < free
    go (inl zero) = absurd (true≢false (sym ((are p).1 leaves) ∙ none.0 zero p))
    go (inr some) = omega arith

pub least-requires : goal.least-requires
least-requires c =
    some_bit c.args.computation.now.events c.args.cut.now c.args.free c.requires.free c.requires.some
    c.words.ensures.none

pub returns-clause-leaves : goal.returns-clause-leaves
returns-clause-leaves c = (c.requires.free c.least.result).0 c.least.ensures.set

pub returns-clause-least : goal.returns-clause-least
returns-clause-least c q lt leaves =
    absurd (true≢false (sym ((c.requires.free q).1 leaves) ∙ c.least.ensures.least q lt))
