-- A cut is there if its counts are the digits of a key.
use Rattle.std.proofs.Common.{◌≡◌, ◌↔◌, ℕ, List, false, length, Contains, sym, ap, ◌∙◌, subst}
use Rattle.std.specs.Prelude.{IsTrue, Bool}
use Rattle.std.proofs.lemmas.Bool.{false≢true}
use Rattle.walk_keys.specs.Keys.{AreDigits, AreKeys, key_of}
use Rattle.pd_level.specs.Levels.{Levelled, cuts_of, numbers}
use Rattle.pd_level.specs.declared.keys.Keys.{Keys}
use Rattle.pd_level.specs.declared.keys.Keys.TheVariants as kind
use Rattle.pd_level.proofs.Levels.{contains_by, contains_long}
use Rattle.pd_level.proofs.level.Level.contains.Goals as goal

-- the cuts of the level, by its keys
cuts_are : (n k : ℕ) (inside kind : Keys) (level : Levelled) → record { number = k; cuts = cuts_of n (numbers inside) }
    ≡ level → inside ≡ kind → cuts_of n (numbers kind) ≡ level.cuts
cuts_are n k inside kind level view is =
    ap (λ (keys : Keys). cuts_of n (numbers keys)) (sym is) ∙ ap (λ (l : Levelled). l.cuts) view

-- what is found among the keys is found among the cuts
there : (n : ℕ) (keys counts cut : List ℕ) (level : Levelled) (found : Bool) → AreKeys n keys
    → cuts_of n keys ≡ level.cuts → counts ≡ cut → length counts ≡ n
    → IsTrue found ↔ (AreDigits counts × Contains keys (key_of counts)) → IsTrue found ↔ Contains level.cuts cut
there n keys counts cut level found are same is many has =
    let by = contains_by n keys counts are many in
    subst (λ (x : List ℕ). IsTrue found ↔ Contains level.cuts x) is
    (subst (λ (cuts : List (List ℕ)). IsTrue found ↔ Contains cuts counts) same
    ((λ t. by.1 (has.0 t)), (λ h. has.1 (by.0 h))))

pub returns-then-counts-self : goal.returns-then-counts-self
returns-then-counts-self c =
    let keys = numbers c.self.inside.keys in
    let inside : IsTrue false ↔ Contains (cuts_of c.self.inside.processes keys) c.args.cut.now = (
      λ t. absurd (false≢true t),
      λ has.
          absurd (c.if-counts-self.true (ap length c.counts-counts.ensures
          ∙ contains_long c.self.inside.processes keys c.args.cut.now has)),
    ) in
    subst (λ (l : Levelled). IsTrue false ↔ Contains l.cuts c.args.cut.now) c.self.view_is inside

pub returns-in-Single : goal.returns-in-Single
returns-in-Single c =
    there c.self.inside.processes c.in-Single.keys c.counts-counts.result.now c.args.cut.now c.args.self.now
    c.has.result
    (subst (λ (k : Keys). AreKeys c.self.inside.processes (numbers k)) c.in-Single.is c.self.invariant.0.are_keys)
    (cuts_are c.self.inside.processes c.self.inside.number c.self.inside.keys (kind.Single c.in-Single.keys)
    c.args.self.now c.self.view_is c.in-Single.is) c.counts-counts.ensures c.if-counts-self.false c.has.ensures

pub returns-in-Pairs : goal.returns-in-Pairs
returns-in-Pairs c =
    there c.self.inside.processes c.in-Pairs.keys c.counts-counts.result.now c.args.cut.now c.args.self.now
    c.has-in-Pairs.result
    (subst (λ (k : Keys). AreKeys c.self.inside.processes (numbers k)) c.in-Pairs.is c.self.invariant.0.are_keys)
    (cuts_are c.self.inside.processes c.self.inside.number c.self.inside.keys (kind.Pairs c.in-Pairs.keys)
    c.args.self.now c.self.view_is c.in-Pairs.is) c.counts-counts.ensures c.if-counts-self.false
    c.has-in-Pairs.ensures
