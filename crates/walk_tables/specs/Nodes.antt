-- What a compiled predicate means at a cut.
use Rattle.std.specs.Prelude.{◌≡◌, ℕ, Bool, ◌&&◌, ◌||◌, List}
use Rattle.def_model.specs.Cuts.{FitsProcesses}
use Rattle.def_model.specs.Predicates.{Predicate, Recorded, test_of}
use Rattle.pd_pred.specs.Trees.{tree_view}
use Rattle.walk_keys.specs.Neighbors.{cut_at}
use Rattle.walk_tables.specs.Zero.{joined, turned}
use Rattle.walk_tables.specs.Tables.{linear_holds}
use Rattle.walk_tables.specs.Clauses.{clauses_hold}
use Rattle.walk_tables.specs.Series.{series_holds}
use Rattle.walk_tables.specs.declared.node.Node.{Node, Constant, Compare, Several, Conjunction, Direct, And', Or'}
use Rattle.walk_tables.specs.declared.compile.Rest.{Rest}
use Rattle.walk_tables.specs.declared.join.Head.{Head}
use Rattle.walk_tables.specs.declared.join.Head.TheVariants.{Alone, Chain, Other}

abbrev pub node_holds : Recorded → Node → List ℕ → ℕ → ℕ → Bool
node_holds r (Constant truth) prefix x y = truth
node_holds r (Compare linear) prefix x y = linear_holds linear prefix x y
node_holds r (Several series) prefix x y = series_holds series prefix x y
node_holds r (Conjunction clauses) prefix x y = clauses_hold clauses prefix x y
node_holds r (Direct tree negated) prefix x y = turned negated (test_of r (tree_view tree.now) (cut_at prefix x y))
node_holds r (And' p left q right) prefix x y = node_holds r left prefix x y && node_holds r right prefix x y
node_holds r (Or' p left q right) prefix x y = node_holds r left prefix x y || node_holds r right prefix x y

-- at each cut the compiled predicate holds where the predicate does, or where it doesn't
abbrev pub IsCompiled : Recorded → Bool → Predicate → Node → Type 0
IsCompiled r negated predicate node =
    (prefix : List ℕ) (x y : ℕ) → FitsProcesses r.events (cut_at prefix x y)
    → node_holds r node prefix x y ≡ turned negated (test_of r predicate (cut_at prefix x y))

-- the same of the predicate, or its opposite, joined with the rest
abbrev pub IsJoined : Recorded → Bool → Predicate → Rest → Node → Type 0
IsJoined r negated predicate rest node =
    (prefix : List ℕ) (x y : ℕ) → FitsProcesses r.events (cut_at prefix x y)
    → node_holds r node prefix x y
    ≡ joined rest.is_and (turned negated (test_of r predicate (cut_at prefix x y))) (node_holds r rest.node prefix x y)

-- a chain with this end, joined with the later rest, is the chain joined with the rest
abbrev pub IsSplit : Rest → Bool → Node → Rest → Type 0
IsSplit rest is_and end later =
    (r : Recorded) (prefix : List ℕ) (x y : ℕ) (first second : Bool)
    → joined later.is_and (joined is_and first (joined is_and second (node_holds r end prefix x y)))
    (node_holds r later.node prefix x y)
    ≡ joined rest.is_and (joined is_and first second) (node_holds r rest.node prefix x y)

-- whether a predicate holds that begins with clauses, or another one
abbrev pub head_holds : Recorded → Bool → Head → List ℕ → ℕ → ℕ → Bool
head_holds r is_and (Alone clauses) prefix x y = clauses_hold clauses prefix x y
head_holds r is_and (Chain clauses rest) prefix x y =
    joined is_and (clauses_hold clauses prefix x y) (node_holds r rest prefix x y)
head_holds r is_and (Other node) prefix x y = node_holds r node prefix x y
