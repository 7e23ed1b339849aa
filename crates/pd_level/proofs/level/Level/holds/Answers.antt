-- The state of the key is that of the cut.
use Rattle.std.proofs.Common.{◌≡◌, ◌<◌, ℕ, List, All, length, sym, ap, ◌∙◌, subst, arith}
use Rattle.std.specs.Prelude.{IfSome, Bool, slice_get, slice_index}
use Rattle.def_model.specs.Cuts.{FitsProcesses, IsConsistent}
use Rattle.def_model.specs.Events.{Computation}
use Rattle.def_model.specs.Predicates.{test_of}
use Rattle.pd_pred.specs.Views.{predicate_view}
use Rattle.walk_keys.specs.Keys.{digits}
use Rattle.walk_keys.specs.Pairs.{pair_number}
use Rattle.pd_level.specs.Levels.{Levelled, cuts_of, numbers}
use Rattle.pd_level.specs.declared.keys.Keys.{Keys}
use Rattle.pd_level.specs.declared.keys.Keys.TheVariants as kind
use Rattle.pd_level.proofs.Levels.{consistent_at, cut_there, length-cuts}
use Rattle.pd_level.proofs.level.Level.holds.Goals as goal

-- the cuts of the level, by its keys
cuts_are : (n k : ℕ) (inside kind : Keys) (level : Levelled) → record { number = k; cuts = cuts_of n (numbers inside) }
    ≡ level → inside ≡ kind → cuts_of n (numbers kind) ≡ level.cuts
cuts_are n k inside kind level view is =
    ap (λ (keys : Keys). cuts_of n (numbers keys)) (sym is) ∙ ap (λ (l : Levelled). l.cuts) view

-- the cut of a key of the level
fits : (c : Computation) (n i key : ℕ) (keys : List ℕ) (level : Levelled) → cuts_of n keys ≡ level.cuts
    → All (IsConsistent c) level.cuts → i < length level.cuts → key ≡ slice_index keys i
    → FitsProcesses c (digits n key)
fits c n i key keys level same all lt is =
    let within : i < length keys = omega (arith, ap length same, length-cuts n keys) in
    let ok : IsConsistent c (digits n (slice_index keys i)) =
    consistent_at c n keys i (subst (λ (cuts : List (List ℕ)). All (IsConsistent c) cuts) (sym same) all) within in
    subst (λ (k : ℕ). FitsProcesses c (digits n k)) (sym is) ok.fits

read : (n i key : ℕ) (keys : List ℕ) (level : Levelled) (test : List ℕ → Bool) (truth : Bool)
    → cuts_of n keys ≡ level.cuts → i < length level.cuts → key ≡ slice_index keys i → truth ≡ test (digits n key)
    → IfSome (slice_get level.cuts i) (λ cut. truth ≡ test cut)
read n i key keys level test truth same lt is holds =
    let within : i < length keys = omega (arith, ap length same, length-cuts n keys) in
    subst (λ (cuts : List (List ℕ)). IfSome (slice_get cuts i) (λ cut. truth ≡ test cut)) same
    (rw (cut_there n keys i within) (holds ∙ ap (λ (k : ℕ). test (digits n k)) is))

pub holds_at-requires-clause-fits : goal.holds_at-requires-clause-fits
holds_at-requires-clause-fits c =
    fits c.args.computation.now.events c.self.inside.processes c.args.i c.get.result c.in-Single.keys c.args.self.now
    (cuts_are c.self.inside.processes c.self.inside.number c.self.inside.keys (kind.Single c.in-Single.keys)
    c.args.self.now c.self.view_is c.in-Single.is) c.requires.cuts c.requires.within c.get.ensures

pub holds_at-requires-in-Pairs-clause-fits : goal.holds_at-requires-in-Pairs-clause-fits
holds_at-requires-in-Pairs-clause-fits c =
    fits c.args.computation.now.events c.self.inside.processes c.args.i
    (pair_number c.get-in-Pairs.result.first c.get-in-Pairs.result.second) c.in-Pairs.keys c.args.self.now
    (cuts_are c.self.inside.processes c.self.inside.number c.self.inside.keys (kind.Pairs c.in-Pairs.keys)
    c.args.self.now c.self.view_is c.in-Pairs.is) c.requires.cuts c.requires.within c.get-in-Pairs.ensures

pub returns-in-Single : goal.returns-in-Single
returns-in-Single c =
    read c.self.inside.processes c.args.i c.get.result c.in-Single.keys c.args.self.now
    (λ cut. test_of c.args.computation.now (predicate_view c.args.pred.now) cut) c.holds_at.result
    (cuts_are c.self.inside.processes c.self.inside.number c.self.inside.keys (kind.Single c.in-Single.keys)
    c.args.self.now c.self.view_is c.in-Single.is) c.requires.within c.get.ensures c.holds_at.ensures

pub returns-in-Pairs : goal.returns-in-Pairs
returns-in-Pairs c =
    read c.self.inside.processes c.args.i (pair_number c.get-in-Pairs.result.first c.get-in-Pairs.result.second)
    c.in-Pairs.keys c.args.self.now
    (λ cut. test_of c.args.computation.now (predicate_view c.args.pred.now) cut) c.holds_at-in-Pairs.result
    (cuts_are c.self.inside.processes c.self.inside.number c.self.inside.keys (kind.Pairs c.in-Pairs.keys)
    c.args.self.now c.self.view_is c.in-Pairs.is) c.requires.within c.get-in-Pairs.ensures
    c.holds_at-in-Pairs.ensures
