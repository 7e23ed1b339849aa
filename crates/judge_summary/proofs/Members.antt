-- Counts as the members of a JSON object.
use Rattle.std.proofs.Common.{◌≡◌, ◌<◌, ◌≤◌, ◌+◌, ℕ, Bool, true, false, List, [], ◌∷◌, Ordering, Less, Equal, Greater, nat_cmp, String, Global, string_bytes, refl, sym, ap, ◌∙◌, subst, map}
use Rattle.std.specs.Prelude.{Some, None, option_and_then, unwrap_or, IfOk, MatchResult, OnErr, OnOk, Result, Ok, Err, ◌==◌, if◌then◌else◌}
use Rattle.std.proofs.lemmas.Bool.{eqb-true}
use Rattle.std.specs.BTreeMap.{BTreeMap, IsClone}
use Rattle.std.specs.List.{AllZip}
use Rattle.std.specs.Ordering.{match_ordering}
use Rattle.std.specs.Cmp.Lexicographic.{slice_cmp}
use Rattle.serde_json.specs.Data.{Data, Members, no_members, member, members_depth, put}
use Rattle.serde_json.specs.Find.{get_member}
use Rattle.serde_json.specs.View.{members_view, view}
use Rattle.serde_json.specs.Written.{members_have_float}
use Rattle.serde_json.specs.declared.value.Value.{Value}
use Rattle.judge_summary.specs.Counts.{AreCounts, Counts, add, count_limit, count_of, fits, members_of, number_data, put_count}
use Rattle.judge_summary.specs.Summaries.{numbers_of, whole}
use Rattle.judge_summary.specs.Views.{IsKept, numbers_view}
use Rattle.judge_summary.proofs.CountFacts.{counts_put, fits_put}

-- ---- how often a text is counted

get_number : (text : List ℕ) (members : Members)
    → unwrap_or (option_and_then whole (get_member text members)) 0 ≡ count_of text (numbers_view members)
get_number text no_members = refl
get_number text (member other value others) = go (slice_cmp nat_cmp text other) (get_number text others)
  where
    go : (o : Ordering) → unwrap_or (option_and_then whole (get_member text others)) 0
        ≡ count_of text (numbers_view others)
        → unwrap_or (option_and_then whole (match_ordering o (get_member text others) (Some value)
        (get_member text others))) 0
        ≡ match_ordering o (count_of text (numbers_view others)) (unwrap_or (whole value) 0)
        (count_of text (numbers_view others))
    go Less ih = ih
    go Equal ih = refl
    go Greater ih = ih

pub got : (text : List ℕ) (members : Members) (value : Data) → Some value ≡ get_member text members
    → unwrap_or (whole value) 0 ≡ count_of text (numbers_view members)
got text members value e =
    ap (λ found. unwrap_or (option_and_then whole found) 0) e ∙ get_number text members

pub got_none : (text : List ℕ) (members : Members) → None ≡ get_member text members
    → 0 ≡ count_of text (numbers_view members)
got_none text members e =
    ap (λ found. unwrap_or (option_and_then whole found) 0) e ∙ get_number text members

-- ---- a number that is put

numbers_put : (text : List ℕ) (n : ℕ) (members : Members)
    → numbers_view (put text (number_data n) members) ≡ put_count text n (numbers_view members)
numbers_put text n no_members = refl
numbers_put text n (member other value others) = go (slice_cmp nat_cmp text other) (numbers_put text n others)
  where
    go : (o : Ordering) → numbers_view (put text (number_data n) others) ≡ put_count text n (numbers_view others)
        → numbers_view (match_ordering o (member text (number_data n) (member other value others))
        (member other (number_data n) others) (member other value (put text (number_data n) others)))
        ≡ match_ordering o ((text, n) ∷ numbers_view (member other value others)) ((other, n) ∷ numbers_view others)
        ((other, unwrap_or (whole value) 0) ∷ put_count text n (numbers_view others))
    go Less ih = refl
    go Equal ih = refl
    go Greater ih = ap (λ counts. (other, unwrap_or (whole value) 0) ∷ counts) ih

members_put : (text : List ℕ) (n : ℕ) (counts : Counts)
    → members_of (put_count text n counts) ≡ put text (number_data n) (members_of counts)
members_put text n [] = refl
members_put text n ((other, m) ∷ counts) = go (slice_cmp nat_cmp text other) (members_put text n counts)
  where
    go : (o : Ordering) → members_of (put_count text n counts) ≡ put text (number_data n) (members_of counts)
        → members_of (match_ordering o ((text, n) ∷ (other, m) ∷ counts) ((other, n) ∷ counts)
        ((other, m) ∷ put_count text n counts))
        ≡ match_ordering o (member text (number_data n) (members_of ((other, m) ∷ counts)))
        (member other (number_data n) (members_of counts))
        (member other (number_data m) (put text (number_data n) (members_of counts)))
    go Less ih = refl
    go Equal ih = refl
    go Greater ih = ap (λ members. member other (number_data m) members) ih

pub put_is_kept : (text : List ℕ) (n : ℕ) (old new : Members) → IsKept old → 0 < n → n ≤ count_limit
    → new ≡ put text (number_data n) old → IsKept new
put_is_kept text n old new kept some few e =
    let view : numbers_view new ≡ put_count text n (numbers_view old) = ap numbers_view e ∙ numbers_put text n old in
    record {
      are_numbers = e ∙ ap (λ members. put text (number_data n) members) kept.are_numbers
          ∙ sym (members_put text n (numbers_view old)) ∙ ap members_of (sym view);
      are_counts = subst AreCounts (sym view) (counts_put text n (numbers_view old) some kept.are_counts);
      fit = ap fits view ∙ fits_put text n (numbers_view old) few kept.fit;
    }

-- a number was put, or nothing was for want of memory
pub kept_either : {A E : Type 0} (result : Result A E) (text : List ℕ) (n : ℕ) (value : Data)
    (old new : List (String Global × Value)) → value ≡ number_data n
    → OnOk result (members_view new ≡ put text value (members_view old)) → OnErr result (new ≡ old)
    → IsKept (members_view old) → 0 < n → n ≤ count_limit → IsKept (members_view new)
kept_either (Ok x) text n value old new is ok err kept some few =
    put_is_kept text n (members_view old) (members_view new) kept some few
    (ok ∙ ap (λ v. put text v (members_view old)) is)
kept_either (Err e) text n value old new is ok err kept some few = rw err kept

pub put_adds : (text : List ℕ) (n sum : ℕ) (old new : Members) → (n ≡ 0 → ⊥)
    → sum ≡ count_of text (numbers_view old) + n → new ≡ put text (number_data sum) old
    → numbers_view new ≡ add text n (numbers_view old)
put_adds text n sum old new some is e = go (n == 0) refl
  where
    go : (b : Bool) → (n == 0) ≡ b → numbers_view new
        ≡ (if b then numbers_view old else put_count text (count_of text (numbers_view old) + n) (numbers_view old))
    go true none = absurd (some (eqb-true n 0 none))
    go false more =
        ap numbers_view e ∙ numbers_put text sum old ∙ ap (λ m. put_count text m (numbers_view old)) is

-- ---- a copy

module _ (C : String Global → String Global → Type 0) (D : Value → Value → Type 0)
    (names : (p q : String Global) → C p q → string_bytes q ≡ string_bytes p)
    (values : (p q : Value) → D p q → view q ≡ view p) where
  same_members : (old new : List (String Global × Value))
      → AllZip (λ (p q : String Global × Value). C p.0 q.0 × D p.1 q.1) old new → members_view new ≡ members_view old
  same_members [] [] same = refl
  same_members [] (q ∷ new) same = absurd same
  same_members (p ∷ old) [] same = absurd same
  same_members (p ∷ old) (q ∷ new) same =
      rw (names p.0 q.0 same.0.0, values p.1 q.1 same.0.1, same_members old new same.1) refl

  pub copied : {E : Type 0} (result : Result (BTreeMap (String Global) Value) E) (Q : E → Type 0)
      (map : BTreeMap (String Global) Value) → MatchResult result (λ n. IsClone C D map n) Q
      → IsKept (members_view map.entries)
      → IfOk result (λ members. members_view members.entries ≡ members_of (numbers_view (members_view map.entries)))
  copied (Ok n) Q map clone kept = same_members map.entries n.entries clone ∙ kept.are_numbers
  copied (Err e) Q map clone kept = tt

-- ---- the text

pub no_float : (counts : Counts) → members_have_float (members_of counts) ≡ false
no_float [] = refl
no_float ((text, n) ∷ counts) = no_float counts

pub flat : (counts : Counts) → members_depth (members_of counts) ≡ 0
flat [] = refl
flat ((text, n) ∷ counts) = rw (flat counts) refl

pub numbers_back : (counts : Counts) → numbers_of (members_of counts) ≡ Some counts
numbers_back [] = refl
numbers_back ((text, n) ∷ counts) = rw (numbers_back counts) refl
