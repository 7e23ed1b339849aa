-- The keys of both levels are those of the cuts that stand in one of them.
use Rattle.std.proofs.Common.{◌≡◌, ℕ, ◌<◌, ◌⊎◌, inl, inr, Bool, Contains, List, All, length, get_or, refl, ap, sym, ◌∙◌, subst, arith}
use Rattle.def_model.specs.Answers.{IsListOf}
use Rattle.def_model.specs.Cuts.{IsConsistent}
use Rattle.def_model.specs.Events.{Computation}
use Rattle.walk_keys.specs.Keys.{AreKeys, Ascending}
use Rattle.pd_level.specs.Levels.{FitsKind, HasRoom, IsInEither, IsKept, Levelled, cuts_of, is_single, numbers}
use Rattle.pd_level.proofs.Levels.{are_cuts, process_count, same_kind}
use Rattle.pd_level.specs.declared.keys.Keys.{Keys}
use Rattle.pd_level.proofs.Merges.{contains_get}
use Rattle.pd_level.proofs.Unions.{AreBoth, union_keys, union_list}
use Rattle.pd_level.proofs.level.Level.with_cuts_of.Goals as goal

both_keys : (c : Computation) (n m k : ℕ) (first last both : List ℕ) → IsKept n first → IsKept m last
    → All (IsConsistent c) (cuts_of n first) → All (IsConsistent c) (cuts_of m last) → Ascending both
    → AreBoth first last both → k ≡ length c → AreKeys k both
both_keys c n m k first last both kept kept_last all all_last asc just many =
    subst (λ (l : ℕ). AreKeys l both) (sym many)
    (union_keys (length c) first last both (are_cuts c n first kept.are_keys all).are_keys
    (are_cuts c m last kept_last.are_keys all_last).are_keys asc just)

both_cuts : (c : Computation) (n m k : ℕ) (first last both : List ℕ) (a b : Levelled) → IsKept n first → IsKept m last
    → cuts_of n first ≡ a.cuts → cuts_of m last ≡ b.cuts → All (IsConsistent c) (cuts_of n first)
    → All (IsConsistent c) (cuts_of m last) → Ascending both → AreBoth first last both → k ≡ length c
    → IsListOf (IsInEither a.cuts b.cuts) (cuts_of k both)
both_cuts c n m k first last both a b kept kept_last same same_last all all_last asc just many =
    let keys : AreKeys (length c) both =
    both_keys c n m (length c) first last both kept kept_last all all_last asc just refl in
    subst (λ (l : ℕ). IsListOf (IsInEither a.cuts b.cuts) (cuts_of l both)) (sym many)
    (subst (λ (x : List (List ℕ)). IsListOf (IsInEither x b.cuts) (cuts_of (length c) both)) same
    (subst (λ (x : List (List ℕ)). IsListOf (IsInEither (cuts_of n first) x) (cuts_of (length c) both)) same_last
    (union_list c n m first last both all all_last keys just)))

-- the kind of both is that of the one that has a cut
both_fit : (c : Computation) (n m k : ℕ) (first last both : Keys) → All (IsConsistent c) (cuts_of n (numbers first))
    → All (IsConsistent c) (cuts_of m (numbers last)) → HasRoom n first → HasRoom m last
    → AreBoth (numbers first) (numbers last) (numbers both)
    → (0 < length (numbers first) → is_single both ≡ is_single first)
    → (0 < length (numbers last) → is_single both ≡ is_single last) → k ≡ length c → HasRoom k both
both_fit c n m k first last both all all_last fits fits_last just kind kind_last many some =
    go ((just (get_or (numbers both) 0 0)).0 (contains_get (numbers both) 0 some))
  where
    go : Contains (numbers first) (get_or (numbers both) 0 0) ⊎ Contains (numbers last) (get_or (numbers both) 0 0)
        → FitsKind k (is_single both)
    go (inl has) =
        let there : 0 < length (numbers first) = omega (arith, has.1) in
        subst (λ (b : Bool). FitsKind k b) (sym (kind there))
        (subst (λ (l : ℕ). FitsKind l (is_single first)) (process_count c n (numbers first) 0 all there ∙ sym many)
        (fits there))
    go (inr has) =
        let there : 0 < length (numbers last) = omega (arith, has.1) in
        subst (λ (b : Bool). FitsKind k b) (sym (kind_last there))
        (subst (λ (l : ℕ). FitsKind l (is_single last)) (process_count c m (numbers last) 0 all_last there ∙ sym many)
        (fits_last there))

pub with-requires-clause-kinds : goal.with-requires-clause-kinds
with-requires-clause-kinds c =
    let events = c.args.computation.now.events in
    let first : All (IsConsistent events) (cuts_of c.self.inside.processes (numbers c.self.inside.keys)) =
    subst (λ (l : Levelled). All (IsConsistent events) l.cuts) (sym c.self.view_is) c.requires.first in
    let last : All (IsConsistent events) (cuts_of c.last.inside.processes (numbers c.last.inside.keys)) =
    subst (λ (l : Levelled). All (IsConsistent events) l.cuts) (sym c.last.view_is) c.requires.last in
    same_kind events c.self.inside.processes c.last.inside.processes (numbers c.self.inside.keys)
    (numbers c.last.inside.keys) (is_single c.self.inside.keys) (is_single c.last.inside.keys) first last
    c.self.invariant.1 c.last.invariant.1

pub invariant_of-result : goal.invariant_of-result
invariant_of-result c =
    let events = c.args.computation.now.events in
    let first : All (IsConsistent events) (cuts_of c.self.inside.processes (numbers c.self.inside.keys)) =
    subst (λ (l : Levelled). All (IsConsistent events) l.cuts) (sym c.self.view_is) c.requires.first in
    let last : All (IsConsistent events) (cuts_of c.last.inside.processes (numbers c.last.inside.keys)) =
    subst (λ (l : Levelled). All (IsConsistent events) l.cuts) (sym c.last.view_is) c.requires.last in (
      record {
        few = omega (arith, c.limits.ensures.few, c.processes.ensures);
        are_keys =
            both_keys events c.self.inside.processes c.last.inside.processes c.processes.result
            (numbers c.self.inside.keys) (numbers c.last.inside.keys) (numbers c.in_ok-keys.keys) c.self.invariant.0
            c.last.invariant.0 first last c.in_ok-keys.ensures.ascending c.in_ok-keys.ensures.just
            c.processes.ensures;
      },
      both_fit events c.self.inside.processes c.last.inside.processes c.processes.result c.self.inside.keys
          c.last.inside.keys c.in_ok-keys.keys first last c.self.invariant.1 c.last.invariant.1
          c.in_ok-keys.ensures.just c.in_ok-keys.ensures.first c.in_ok-keys.ensures.last c.processes.ensures,
    )

pub returns-clause-list : goal.returns-clause-list
returns-clause-list c =
    let events = c.args.computation.now.events in
    let first : All (IsConsistent events) (cuts_of c.self.inside.processes (numbers c.self.inside.keys)) =
    subst (λ (l : Levelled). All (IsConsistent events) l.cuts) (sym c.self.view_is) c.requires.first in
    let last : All (IsConsistent events) (cuts_of c.last.inside.processes (numbers c.last.inside.keys)) =
    subst (λ (l : Levelled). All (IsConsistent events) l.cuts) (sym c.last.view_is) c.requires.last in
    both_cuts events c.self.inside.processes c.last.inside.processes c.processes.result (numbers c.self.inside.keys)
    (numbers c.last.inside.keys) (numbers c.in_ok-keys.keys) c.args.self c.args.last.now c.self.invariant.0
    c.last.invariant.0 (ap (λ (l : Levelled). l.cuts) c.self.view_is) (ap (λ (l : Levelled). l.cuts) c.last.view_is)
    first last c.in_ok-keys.ensures.ascending c.in_ok-keys.ensures.just c.processes.ensures
