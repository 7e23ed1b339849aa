-- The settings of a line of the plain shape, a member at a time.
use Rattle.std.proofs.Common.{◌≡◌, ◌≢◌, ◌⊎◌, inl, inr, ℕ, zero, suc, ◌<◌, ◌≤◌, ℤ, Bool, true, false, nat_lt, List, [], ◌∷◌, ◌++◌, length, get_or, slice_set, Option, Some, None, Ordering, Less, Equal, Greater, nat_cmp, map, String, Global, string_bytes, bytes_eq, refl, sym, ap, ◌∙◌, arith}
use Rattle.std.specs.Prelude.{◌&&◌, ◌||◌, AllPairs, is_some, option_and_then, Ok}
use Rattle.std.specs.List.{list_all}
use Rattle.std.specs.Cmp.Lexicographic.{slice_cmp}
use Rattle.std.specs.Ordering.{match_ordering}
use Rattle.std.proofs.lemmas.Bool.{cases_lt}
use Rattle.std.proofs.lemmas.Bool.Decides.{nat_tests}
use Rattle.std.proofs.lemmas.List.{get_or-set_other, get_or-set_same, length-set}
use Rattle.std.proofs.lemmas.Slice.Eq.{bytes_eq-Decides}
use Rattle.json.specs.Token.{Token}
use Rattle.serde_json.specs.Data.{Data, Num, number, Members, no_members, member, put}
use Rattle.serde_json.specs.Find.{as_i64, get_member}
use Rattle.serde_json.specs.Read.{number_of}
use Rattle.serde_json.proofs.Views.{get_member-put, get_member-put_other}
use Rattle.def_format.specs.Lists.{is_one_of}
use Rattle.def_format.specs.Records.{has_only, keys, values, sets_from, whole_number}
use Rattle.pd_events.specs.Parts.{sets_due}
use Rattle.pd_events.specs.Plain.{GivesFields, GoesOn, row_sets, text_number}
use Rattle.pd_events.proofs.PlainReading.{ends, goes_on_and_on, goes_on_from_here, number_goes_in}

abbrev AreDistinct : List (List ℕ) → Type 0
AreDistinct vars = AllPairs (λ (x y : List ℕ). x ≢ y) vars

-- ---- what a member that goes in leaves

both : (a b : Bool) → a ≡ true → b ≡ true → (a && b) ≡ true
both true b e f = f
both false b e f = absurd (cc)

first_of : (a b : Bool) → (a && b) ≡ true → a ≡ true
first_of true b e = refl
first_of false b e = absurd (cc)

second_of : (a b : Bool) → (a && b) ≡ true → b ≡ true
second_of true b e = e
second_of false b e = absurd (cc)

keys-put_at : (o : Ordering) (P : List ℕ → Bool) (k l : List ℕ) (d e : Data) (ms : Members) → P k ≡ true
    → list_all P (keys (member l e ms)) ≡ true → list_all P (keys (put k d ms)) ≡ true
    → list_all P (keys (match_ordering o (member k d (member l e ms)) (member l d ms) (member l e (put k d ms)))) ≡ true
keys-put_at Less P k l d e ms new old later = both (P k) _ new old
keys-put_at Equal P k l d e ms new old later = old
keys-put_at Greater P k l d e ms new old later = both (P l) _ (first_of (P l) _ old) later

keys-put : (P : List ℕ → Bool) (k : List ℕ) (d : Data) (ms : Members) → P k ≡ true → list_all P (keys ms) ≡ true
    → list_all P (keys (put k d ms)) ≡ true
keys-put P k d no_members new old = both (P k) true new refl
keys-put P k d (member l e ms) new old =
    keys-put_at (slice_cmp nat_cmp k l) P k l d e ms new old (keys-put P k d ms new (second_of (P l) _ old))

values-put_at : (o : Ordering) (P : Data → Bool) (k l : List ℕ) (d e : Data) (ms : Members) → P d ≡ true
    → list_all P (values (member l e ms)) ≡ true → list_all P (values (put k d ms)) ≡ true
    → list_all P (values (match_ordering o (member k d (member l e ms)) (member l d ms) (member l e (put k d ms))))
    ≡ true
values-put_at Less P k l d e ms new old later = both (P d) _ new old
values-put_at Equal P k l d e ms new old later = both (P d) _ new (second_of (P e) _ old)
values-put_at Greater P k l d e ms new old later = both (P e) _ (first_of (P e) _ old) later

values-put : (P : Data → Bool) (k : List ℕ) (d : Data) (ms : Members) → P d ≡ true → list_all P (values ms) ≡ true
    → list_all P (values (put k d ms)) ≡ true
values-put P k d no_members new old = both (P d) true new refl
values-put P k d (member l e ms) new old =
    values-put_at (slice_cmp nat_cmp k l) P k l d e ms new old (values-put P k d ms new (second_of (P e) _ old))

-- ---- one of the variables

or_right : (a b : Bool) → b ≡ true → (a || b) ≡ true
or_right true b e = refl
or_right false b e = e

is_one : (vars : List (List ℕ)) (v : ℕ) (k : List ℕ) → v < length vars → get_or vars v [] ≡ k → is_one_of vars k ≡ true
is_one [] v k h e = absurd (omega arith)
is_one (x ∷ vars) zero k h e = rw ((bytes_eq-Decides k x).1 (sym e)) refl
is_one (x ∷ vars) (suc v) k h e = or_right (bytes_eq k x) _ (is_one vars v k (omega arith) e)

-- ---- the sets

-- the whole number of this variable
abbrev number_in : List ℕ → Members → Option ℤ
number_in var settings = option_and_then whole_number (get_member var settings)

pub row_is : (b : ℕ) (vars : List (List ℕ)) (row : List (Option ℤ)) (ms : Members) → length row ≡ length vars
    → ((w : ℕ) → w < length vars → get_or row w None ≡ number_in (get_or vars w []) ms)
    → sets_from b vars ms ≡ row_sets b row
row_is b [] [] ms same each = refl
row_is b [] (value ∷ row) ms same each = absurd (omega (arith, same))
row_is b (x ∷ vars) [] ms same each = absurd (omega (arith, same))
row_is b (x ∷ vars) (value ∷ row) ms same each =
    let here : value ≡ number_in x ms = each zero (omega arith) in
    let rest : sets_from (suc b) vars ms ≡ row_sets (suc b) row =
    row_is (suc b) vars row ms (omega (arith, same)) (λ w h. each (suc w) (omega arith)) in
    rw (here, rest) refl

-- ---- what has been read of an object of settings

-- the members so far: the row has the number of each variable
pub record HaveRead (vars : List (List ℕ)) (row : List (Option ℤ)) (start now : List Token) : Type 0 where
  pub settings : Members
  pub known : has_only vars settings ≡ true
  pub whole : list_all (λ value. is_some (whole_number value)) (values settings) ≡ true
  pub same : length row ≡ length vars
  pub each : (w : ℕ) → w < length vars → get_or row w None ≡ number_in (get_or vars w []) settings
  pub goes_on : GoesOn 125 no_members start settings now

pub nothing_read : (vars : List (List ℕ)) (row : List (Option ℤ)) (start : List Token) → length row ≡ length vars
    → ((w : ℕ) → w < length row → get_or row w None ≡ None) → HaveRead vars row start start
nothing_read vars row start same none = record {
  settings = no_members;
  known = refl;
  whole = refl;
  same = same;
  each = λ w h. none w (omega (arith, same));
  goes_on = goes_on_from_here 125 no_members start;
}

-- the number that a text is, as a value
number_is : (n : Option Num) (x : ℤ) → option_and_then as_i64 n ≡ Some x
    → (y : Num) × (n ≡ Some y) × (whole_number (number y) ≡ Some x)
number_is None x e = absurd (cc)
number_is (Some y) x e = (y, refl, e)

pub one_more_read : (vars : List (List ℕ)) (v : ℕ) (row : List (Option ℤ)) (start now : List Token)
    (name text : List ℕ) (x : ℤ) → AreDistinct vars → v < length vars → get_or vars v [] ≡ name
    → text_number text ≡ Some x → HaveRead vars row start (Token.key name ∷ Token.number text ∷ now)
    → HaveRead vars (slice_set row v (Some x)) start now
one_more_read vars v row start now name text x distinct h e is r =
    let y = number_is (number_of text) x is in
    record {
      settings = put name (number y.0) r.settings;
      known = keys-put (is_one_of vars) name (number y.0) r.settings (is_one vars v name h e) r.known;
      whole = values-put (λ value. is_some (whole_number value)) name (number y.0) r.settings (rw y.2 refl) r.whole;
      same = length-set row v (Some x) ∙ r.same;
      each = λ w below. at_place y.0 y.2 w below (cases_lt w v) (cases_lt v w);
      goes_on = goes_on_and_on 125 no_members r.settings (put name (number y.0) r.settings) start _ now r.goes_on
          (number_goes_in 125 r.settings name text y.0 now y.1);
    }
  where
    apart : (w u : ℕ) → w < length vars → u < length vars → w ≢ u → get_or vars u [] ≡ name → get_or vars w [] ≢ name
    apart w u below there differ is same = order (nat_lt w u) (nat_lt u w) refl refl
      where
        order : (a b : Bool) → nat_lt w u ≡ a → nat_lt u w ≡ b → ⊥
        order true b e f = distinct w u [] (grind (arith, nat_tests)) there (same ∙ sym is)
        order false true e f = distinct u w [] (grind (arith, nat_tests)) below (is ∙ sym same)
        order false false e f = differ (grind (arith, nat_tests))

    others : (y : Num) (w : ℕ) → w < length vars → w ≢ v
        → get_or (slice_set row v (Some x)) w None ≡ number_in (get_or vars w []) (put name (number y) r.settings)
    others y w below differ =
        get_or-set_other row v w (Some x) None differ ∙ r.each w below
        ∙ ap (λ found. option_and_then whole_number found)
        (sym (get_member-put_other (get_or vars w []) name (number y) r.settings (apart w v below h differ e)))

    at_place : (y : Num) → whole_number (number y) ≡ Some x → (w : ℕ) → w < length vars → (w < v) ⊎ (v ≤ w)
        → (v < w) ⊎ (w ≤ v)
        → get_or (slice_set row v (Some x)) w None ≡ number_in (get_or vars w []) (put name (number y) r.settings)
    at_place y whole w below (inl lt) other = others y w below (λ same. omega (arith, same, lt))
    at_place y whole w below (inr ge) (inl gt) = others y w below (λ same. omega (arith, same, gt))
    at_place y whole w below (inr ge) (inr le) =
        let here : w ≡ v = omega arith in
        let set_ : get_or (slice_set row v (Some x)) v None ≡ Some x =
        get_or-set_same row v (Some x) None (omega (arith, h, r.same)) in
        let found : get_member name (put name (number y) r.settings) ≡ Some (number y) =
        get_member-put name (number y) r.settings in
        rw (here, set_, e, found, whole) refl

-- the sets that are due, once the brace closes
pub all_read : (vars : List (List ℕ)) (row : List (Option ℤ)) (sets : List (ℕ × ℤ)) (start rest : List Token)
    → sets ≡ row_sets 0 row → HaveRead vars row start (Token.end_object ∷ rest)
    → (settings : Members) × GivesFields 125 no_members start settings rest × (sets_due vars settings ≡ Ok sets)
all_read vars row sets start rest e r = (
  r.settings,
  r.goes_on.gives r.settings rest (ends 125 r.settings rest),
  rw (r.known, r.whole, row_is 0 vars row r.settings r.same r.each, e) refl,
)

-- ---- as the loop has them

-- the name of the variable at this place
pub name_at : (vars : List (String Global)) (v : ℕ) (x : String Global) (name : List ℕ) → x ≡ get_or vars v x
    → v < length vars → string_bytes x ≡ name → get_or (map string_bytes vars) v [] ≡ name
name_at [] v x name is h e = absurd (omega arith)
name_at (y ∷ vars) zero x name is h e = rw is at e
name_at (y ∷ vars) (suc v) x name is h e = name_at vars v x name is (omega arith) e

pub number_read : (vars : List (List ℕ)) (v : ℕ) (row more : List (Option ℤ)) (start before now rest : List Token)
    (name text : List ℕ) (x y : ℤ) → AreDistinct vars → v < length vars → get_or vars v [] ≡ name
    → before ≡ Token.key name ∷ now → now ≡ Token.number text ∷ rest → text_number text ≡ Some x
    → HaveRead vars row start before → more ≡ slice_set row v (Some y) → y ≡ x → HaveRead vars more start rest
number_read vars v row more start before now rest name text x y distinct h e f g is r items same =
    rw (items, same) (one_more_read vars v row start rest name text x distinct h e is (rw (f, g) at r))

-- a row of variables without numbers
pub none_more : (row : List (Option ℤ)) → ((v : ℕ) → get_or row v None ≡ None)
    → (v : ℕ) → get_or (row ++ None ∷ []) v None ≡ None
none_more [] none zero = refl
none_more [] none (suc v) = none v
none_more (x ∷ row) none zero = none zero
none_more (x ∷ row) none (suc v) = none_more row (λ w. none (suc w)) v

pub brace_read : (vars : List (List ℕ)) (row : List (Option ℤ)) (sets : List (ℕ × ℤ)) (start before rest : List Token)
    → before ≡ Token.end_object ∷ rest → sets ≡ row_sets 0 row → HaveRead vars row start before
    → (settings : Members) × GivesFields 125 no_members start settings rest × (sets_due vars settings ≡ Ok sets)
brace_read vars row sets start before rest f e r = all_read vars row sets start rest e (rw f at r)
