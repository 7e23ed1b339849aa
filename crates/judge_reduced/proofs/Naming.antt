-- A predicate of a document names variables of the document's processes.
use Rattle.std.proofs.Common.{◌≡◌, ℕ, zero, suc, ◌<◌, List, [], ◌∷◌, length, get_or, All, Contains, Some, sym, ◌∙◌, subst, arith}
use Rattle.std.specs.Prelude.{slice_get}
use Rattle.std.specs.List.{AllZip, range_with_len}
use Rattle.std.proofs.lemmas.List.{length-map}
use Rattle.std.proofs.lemmas.List.Elements.{Contains-get_or}
use Rattle.std.proofs.lemmas.List.FromFn.{get_or-range_with_len, length-range_with_len}
use Rattle.std.proofs.lemmas.Option.{same_Some, slice_get_within}
use Rattle.def_format.specs.Documents.{NamedPredicate, IsNamedPredicate, names_of_outline}
use Rattle.def_format.specs.Grammar.{NamedBy, Rule, SpellsReference, SpellsSigned, SpellsSum, SpellsTerm, Spells, either, no_or, both, no_and, negated, in_parens, always, never, compare}
use Rattle.def_format.specs.Names.{ProcessNames, vars_of}
use Rattle.def_format.specs.Tokens.{Token, Signs}
use Rattle.def_model.specs.Predicates.{Sign, Plus, Minus, Term, Number, Variable, Times, Predicate}
use Rattle.def_orders.specs.Orders.{IsOver, SumIsOver, TermIsOver}
use Rattle.judge_orders.specs.Growth.{Grows}
use Rattle.judge_reduced.specs.Bounds.{DocumentsNameTheirVars, var_numbers}

-- ---- the numbers of a process's variables

in_range : (n v : ℕ) → v < n → Contains (range_with_len 0 n) v
in_range n v lt =
    (v, omega (arith, length-range_with_len 0 n, lt), get_or-range_with_len 0 n v v lt ∙ omega arith)

range_within : (n v : ℕ) → Contains (range_with_len 0 n) v → v < n
range_within n v (i, within, at) =
    let less : i < n = omega (arith, length-range_with_len 0 n, within) in
    omega (arith, less, at, get_or-range_with_len 0 n i v less)

var_within : (names : List ProcessNames) (p v : ℕ) → Contains (get_or (var_numbers names) p []) v
    → v < length (vars_of names p)
var_within [] zero v (i, within, at) = absurd (omega (arith, within))
var_within [] (suc p) v (i, within, at) = absurd (omega (arith, within))
var_within (process ∷ names) zero v has = range_within (length process.vars) v has
var_within (process ∷ names) (suc p) v has = var_within names p v has

var_there : (names : List ProcessNames) (p v : ℕ) (entry : ProcessNames) → slice_get names p ≡ Some entry
    → v < length entry.vars → Contains (get_or (var_numbers names) p []) v
var_there [] zero v entry at lt = absurd (cc)
var_there [] (suc p) v entry at lt = absurd (cc)
var_there (process ∷ names) zero v entry at lt =
    in_range (length process.vars) v
    (subst (λ (e : ProcessNames). v < length e.vars) (sym (same_Some process entry at)) lt)
var_there (process ∷ names) (suc p) v entry at lt = var_there names p v entry at lt

pub var_lists : (names : List ProcessNames) → length (var_numbers names) ≡ length names
var_lists names = length-map names (λ (process : ProcessNames). range_with_len 0 (length process.vars))

-- what is seen is below the number of the process's variables
pub seen_below : (names : List ProcessNames) (named : List (List ℕ)) → Grows named (var_numbers names) → (p : ℕ)
    → All (λ v. v < length (vars_of names p)) (get_or named p [])
seen_below names named grows p i d lt =
    var_within names p (get_or (get_or named p []) i d)
    (grows.stay p (get_or (get_or named p []) i d) (Contains-get_or (get_or named p []) i d lt))

-- ---- what tokens spell

module _ (names : List ProcessNames) where
  reference_over : (tokens : List Token) (p v : ℕ) → SpellsReference (NamedBy names) tokens p v
      → p < length (var_numbers names) → Contains (get_or (var_numbers names) p []) v
  reference_over tokens p v (process, var, is, no_word, no_word', (entry, at, same, there)) lt =
      var_there names p v entry at (slice_get_within entry.vars v var there)

  term_over : (tokens : List Token) (term : Term) → SpellsTerm (NamedBy names) tokens term
      → TermIsOver (var_numbers names) term
  term_over tokens (Number k) spells = tt
  term_over tokens (Variable p v) spells = reference_over tokens p v spells
  term_over tokens (Times k p v) (factor, is, spells) = reference_over factor p v spells

  signed_over : (tokens : List Token) (terms : List (Sign × Term)) → SpellsSigned (NamedBy names) tokens terms
      → SumIsOver (var_numbers names) terms
  signed_over tokens [] spells = tt
  signed_over tokens ((sign, term) ∷ others) (prefix, back, is, here, later) =
      (term_over prefix term here, signed_over back others later)

  sum_over : (tokens : List Token) (terms : List (Sign × Term)) → SpellsSum (NamedBy names) tokens terms
      → SumIsOver (var_numbers names) terms
  sum_over tokens [] spells = absurd spells
  sum_over tokens ((Plus, term) ∷ others) spells = signed_over (Signs Plus ∷ tokens) ((Plus, term) ∷ others) spells
  sum_over tokens ((Minus, term) ∷ others) spells = signed_over tokens ((Minus, term) ∷ others) spells

  spelled_over : {rule : Rule} {tokens : List Token} {a : Predicate} → Spells (NamedBy names) rule tokens a
      → IsOver (var_numbers names) a
  spelled_over (either left right l r) = (spelled_over l, spelled_over r)
  spelled_over (no_or s) = spelled_over s
  spelled_over (both left right l r) = (spelled_over l, spelled_over r)
  spelled_over (no_and s) = spelled_over s
  spelled_over (negated s) = spelled_over s
  spelled_over (in_parens tokens s) = spelled_over s
  spelled_over always = tt
  spelled_over never = tt
  spelled_over (compare left right {xs = xs} {ys = ys} l r) = (sum_over left xs l, sum_over right ys r)

  all_over : (written : List (List ℕ × List ℕ)) (predicates : List NamedPredicate)
      → AllZip (IsNamedPredicate names) written predicates
      → All (λ (asked : NamedPredicate). IsOver (var_numbers names) asked.predicate) predicates
  all_over [] [] all i d lt = absurd (omega (arith, lt))
  all_over [] (asked ∷ predicates) all i d lt = absurd all
  all_over (text ∷ written) [] all i d lt = absurd (omega (arith, lt))
  all_over (text ∷ written) (asked ∷ predicates) all zero d lt =
      let whole = all.0.1.spells in spelled_over whole.2
  all_over (text ∷ written) (asked ∷ predicates) all (suc i) d lt =
      all_over written predicates all.1 i d (omega (arith, lt))

pub documents_name_their_vars : DocumentsNameTheirVars
documents_name_their_vars inquiry document is =
    subst (λ (names : List ProcessNames).
    All (λ (asked : NamedPredicate). IsOver (var_numbers names) asked.predicate) document.predicates) (sym is.names)
    (all_over (names_of_outline is.outline) is.outline.predicates document.predicates is.predicates)
