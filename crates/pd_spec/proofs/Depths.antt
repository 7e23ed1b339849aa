-- How deep a document's value nests with what is asked: its text can be read back.
use Rattle.std.proofs.Common.{◌≡◌, ℕ, ◌+◌, ◌≤◌, Bool, true, false, List, [], ◌∷◌, Option, Some, None, Ordering, Less, Equal, Greater, arith}
use Rattle.std.specs.Prelude.{if◌then◌else◌}
use Rattle.std.specs.Ordering.{match_ordering}
use Rattle.std.specs.Str.{is_utf8}
use Rattle.serde_json.specs.Data.{Data, null, boolean, number, string, array, object, Members, no_members, member, put, depth, items_depth, members_depth}
use Rattle.serde_json.specs.Read.{max_depth, read}
use Rattle.serde_json.proofs.Nesting.{depth-read}
use Rattle.def_format.specs.Documents.{Options, asked_predicates, fields_with_options, with_options, with_predicates, with_width}
use Rattle.def_format.specs.Records.{json_value}

match_depth : (o : Ordering) (a b c : Members) (n : ℕ) → members_depth a ≤ n → members_depth b ≤ n
    → members_depth c ≤ n → members_depth (match_ordering o a b c) ≤ n
match_depth Less a b c n p q r = p
match_depth Equal a b c n p q r = q
match_depth Greater a b c n p q r = r

put_depth : (key : List ℕ) (value : Data) (fields : Members) (n : ℕ) → depth value ≤ n → members_depth fields ≤ n
    → members_depth (put key value fields) ≤ n
put_depth key value no_members n p q = omega arith
put_depth key value (member other e others) n p q =
    match_depth _ (member key value (member other e others)) (member other value others)
    (member other e (put key value others)) n (omega arith) (omega arith)
    (omega (arith, put_depth key value others n p (omega arith)))

items_are_flat : (n : ℕ) (texts : List (List ℕ)) → items_depth (asked_predicates n texts) ≤ 1
items_are_flat n [] = omega arith
items_are_flat n (text ∷ texts) = omega (arith, items_are_flat (n + 1) texts)

width_depth : (width : Option ℕ) (fields : Members) (n : ℕ) → members_depth fields ≤ n
    → members_depth (with_width width fields) ≤ n
width_depth None fields n le = le
width_depth (Some w) fields n le = put_depth _ _ fields n (omega arith) le

predicates_depth : (texts : List (List ℕ)) (fields : Members) (n : ℕ) → 2 ≤ n → members_depth fields ≤ n
    → members_depth (with_predicates texts fields) ≤ n
predicates_depth [] fields n two le = le
predicates_depth (text ∷ texts) fields n two le =
    put_depth _ _ fields n (omega (arith, two, items_are_flat 1 (text ∷ texts))) le

options_depth : (options : Options) (value : Data) → depth value ≤ max_depth
    → depth (with_options options value) ≤ max_depth
options_depth options null le = le
options_depth options (boolean b) le = le
options_depth options (number n) le = le
options_depth options (string text) le = le
options_depth options (array items) le = le
options_depth options (object fields) le =
    let inside : members_depth (fields_with_options options fields) ≤ 126 =
    predicates_depth options.predicates (with_width options.width fields) 126 (omega arith)
    (width_depth options.width fields 126 (omega (arith, le))) in
    omega (arith, inside)

read_if : (utf8 : Bool) (found : Option Data) (value : Data) → (if utf8 then found else None) ≡ Some value
    → found ≡ Some value
read_if true found value is = is
read_if false found value is = absurd (cc)

-- the value of a text that was read, with what is asked, nests no deeper than what can be read
pub changed_depth : (options : Options) (bytes : List ℕ) (value : Data) → json_value bytes ≡ Some value
    → depth (with_options options value) ≤ max_depth
changed_depth options bytes value is =
    options_depth options value (depth-read bytes value (read_if (is_utf8 bytes) (read bytes) value is))
