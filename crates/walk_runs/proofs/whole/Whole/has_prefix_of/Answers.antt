-- Prefixes of as many counts are the same if their keys are.
use Rattle.std.proofs.Common.{◌≡◌, ℕ, ◌-◌, ◌^◌, ◌<◌, ◌↔◌, Bool, IsTrue, List, length, get_or, sym, ap, ◌∙◌, subst, arith}
use Rattle.std.specs.Prelude.{IfSome, Option, Some, slice_get, Contains}
use Rattle.std.proofs.lemmas.List.{length-map}
use Rattle.std.proofs.lemmas.List.Elements.{Contains-get_or}
use Rattle.walk_keys.specs.Keys.{count_base, digits, key_of}
use Rattle.walk_keys.proofs.Keys.{key-digits}
use Rattle.walk_runs.specs.Kept.{KeyedRun}
use Rattle.walk_runs.specs.KeptRuns.{run_view}
use Rattle.walk_runs.specs.Levels.{WholeLevel, runs_view}
use Rattle.walk_runs.specs.WholeLevels.{Run}
use Rattle.walk_runs.proofs.KeyLists.{run_read}
use Rattle.walk_runs.proofs.whole.Whole.has_prefix_of.Goals as goal

-- a run as it is read, and that its key is one of as many digits as there are counts
record IsRead (runs : List Run) (processes i : ℕ) (run : KeyedRun) : Type 0 where
  read : slice_get runs i ≡ Some (run_view (processes - 2) run)
  below : run.key < count_base ^ (processes - 2)

is_read : (processes : ℕ) (kept : List KeyedRun) (runs : List Run) (i : ℕ) (run : KeyedRun)
    → runs_view (processes - 2) kept ≡ runs → i < length runs → run ≡ get_or kept i run
    → ((other : KeyedRun) → Contains kept other → other.key < count_base ^ (processes - 2))
    → IsRead runs processes i run
is_read processes kept runs i run same within is below =
    let size : length (runs_view (processes - 2) kept) ≡ length kept =
    length-map kept (run_view (processes - 2)) in
    let lt : i < length kept = omega (arith, ap length same, within) in
    record {
      read = subst (λ (rs : List Run). slice_get rs i ≡ Some (run_view (processes - 2) run)) same
          (run_read (processes - 2) kept i run lt is);
      below = below run (subst (λ (r : KeyedRun). Contains kept r) (sym is) (Contains-get_or kept i run lt));
    }

-- numbers of as many digits are the same if their digits are
same_digits : (n m a b : ℕ) → a < count_base ^ n → b < count_base ^ m → digits n a ≡ digits m b → a ≡ b
same_digits n m a b few other same = sym (key-digits n a few) ∙ (ap key_of same ∙ key-digits m b other)

compared : (runs others : List Run) (n m i j : ℕ) (run other : KeyedRun) (same : Bool) → IsRead runs n i run
    → IsRead others m j other → (IsTrue same ↔ (run.key ≡ other.key))
    → IfSome (slice_get runs i) (λ (found : Run). IfSome (slice_get others j) (λ (also : Run). n ≡ m
    → IsTrue same ↔ (found.prefix ≡ also.prefix)))
compared runs others n m i j run other same first second keys =
    subst (λ (o : Option Run). IfSome o (λ (found : Run). IfSome (slice_get others j) (λ (also : Run). n ≡ m
    → IsTrue same ↔ (found.prefix ≡ also.prefix)))) (sym first.read)
    (subst (λ (o : Option Run). IfSome o (λ (also : Run). n ≡ m
    → IsTrue same ↔ (digits (n - 2) run.key ≡ also.prefix))) (sym second.read)
    (λ many. (
      λ yes. (λ k. digits (many k - 2) (keys.0 yes k)),
      λ prefixes. keys.1 (same_digits (n - 2) (m - 2) run.key other.key first.below second.below prefixes),
    )))

pub returns : goal.returns
returns g c =
    let key : g.K.Key.number c.run.inside.key ≡ c.index-run.result.now.key =
    ap (λ (r : KeyedRun). r.key) c.run.view_is in
    let other : g.K.Key.number c.same.inside.key ≡ c.index-same.result.now.key =
    ap (λ (r : KeyedRun). r.key) c.same.view_is in
    compared c.args.self.now.runs c.args.other.now.runs c.args.self.now.processes c.args.other.now.processes c.args.i
    c.args.j c.index-run.result.now c.index-same.result.now c.is_same.result
    (subst (λ (l : WholeLevel). IsRead l.runs l.processes c.args.i c.index-run.result.now) c.self.view_is
    (is_read c.self.inside.processes c.self.inside.runs.items (runs_view (c.self.inside.processes - 2)
    c.self.inside.runs.items) c.args.i c.index-run.result.now (λ k. runs_view (c.self.inside.processes - 2)
    c.self.inside.runs.items)
    (subst (λ (rs : List Run). c.args.i < length rs) (sym (ap (λ (l : WholeLevel). l.runs) c.self.view_is))
    c.requires.run)
    c.index-run.ensures (λ r has. (c.self.invariant.0.kept r has).below)))
    (subst (λ (l : WholeLevel). IsRead l.runs l.processes c.args.j c.index-same.result.now) c.other.view_is
    (is_read c.other.inside.processes c.other.inside.runs.items (runs_view (c.other.inside.processes - 2)
    c.other.inside.runs.items) c.args.j c.index-same.result.now (λ k. runs_view (c.other.inside.processes - 2)
    c.other.inside.runs.items)
    (subst (λ (rs : List Run). c.args.j < length rs) (sym (ap (λ (l : WholeLevel). l.runs) c.other.view_is))
    c.requires.other)
    c.index-same.ensures (λ r has. (c.other.invariant.0.kept r has).below)))
    ((λ yes. sym key ∙ (c.is_same.ensures.0 yes ∙ other)), (λ e. c.is_same.ensures.1 (key ∙ (e ∙ sym other))))
