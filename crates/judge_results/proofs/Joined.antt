-- The JSON text by its parts.
use Rattle.std.proofs.Common.{◌≡◌, ◌-◌, ℕ, List, [], ◌∷◌, ◌++◌, Bool, false, true, length, take, refl, sym, ap, ◌∙◌, append_assoc, arith}
use Rattle.std.specs.Ffi.{without_last}
use Rattle.std.specs.Prelude.{codes, drop}
use Rattle.std.proofs.lemmas.List.{length-append, take-append-le, take_all}
use Rattle.def_format.specs.Lines.{line_feed}
use Rattle.json.specs.Print.{escape_byte, quoted}
use Rattle.judge_runs.specs.Runs.{Conclusion}
use Rattle.out_json.specs.JsonReports.{field, number_data}
use Rattle.serde_json.specs.Data.{Data, array, object, string, Members, no_members, member}
use Rattle.serde_json.specs.View.{items_of}
use Rattle.serde_json.specs.Written.{comma_if, compact_text, items_text, members_text}
use Rattle.judge_results.specs.Results.{first_fields, object_data, outcome_word, report_data}
use Rattle.judge_results.specs.ResultsSoFar.{joined_text, listed}

-- ---- ends of texts

-- a text without its last byte
pub without_one : (text : List ℕ) (last : ℕ) → without_last (text ++ last ∷ []) ≡ text
without_one text last =
    ap (λ n. take n (text ++ last ∷ []))
    (let long : length (text ++ last ∷ []) - 1 ≡ length text = omega (arith, length-append text (last ∷ [])) in long)
    ∙ (take-append-le (length text) text (last ∷ []) (omega arith) ∙ take_all (length text) text (omega arith))

-- ---- lists of values

listed_later : (datas : List Data) → items_text true (items_of datas) ≡ listed datas ++ 93 ∷ []
listed_later [] = refl
listed_later (first ∷ datas) =
    ap (λ l. 44 ∷ (compact_text first ++ l)) (listed_later datas)
    ∙ sym (ap (λ l. 44 ∷ l) (append_assoc (compact_text first) (listed datas) (93 ∷ [])))

-- what stands in an array, by the values after a comma each
listed_first : (datas : List Data) → items_text false (items_of datas) ≡ drop 1 (listed datas) ++ 93 ∷ []
listed_first [] = refl
listed_first (first ∷ datas) =
    ap (λ l. compact_text first ++ l) (listed_later datas)
    ∙ sym (append_assoc (compact_text first) (listed datas) (93 ∷ []))

-- ---- the first fields of an object

-- some fields, and then others
abbrev members_on : Members → Members → Members
members_on no_members rest = rest
members_on (member k d ms) rest = member k d (members_on ms rest)

-- the text of fields, without the closing bracket
abbrev open_text : Bool → Members → List ℕ
open_text later no_members = []
open_text later (member k d ms) = comma_if later ++ (quoted k ++ 58 ∷ (compact_text d ++ open_text true ms))

one_on : (comma key value all some rest : List ℕ) → all ≡ some ++ rest
    → comma ++ (key ++ 58 ∷ (value ++ all)) ≡ (comma ++ (key ++ 58 ∷ (value ++ some))) ++ rest
one_on comma key value all some rest is =
    ap (λ (l : List ℕ). comma ++ (key ++ 58 ∷ (value ++ l))) is ∙ simp append_assoc

later_on : (ms rest : Members) → members_text true (members_on ms rest) ≡ open_text true ms ++ members_text true rest
later_on no_members rest = refl
later_on (member k d ms) rest =
    one_on (comma_if true) (quoted k) (compact_text d) (members_text true (members_on ms rest)) (open_text true ms)
    (members_text true rest) (later_on ms rest)

-- an object of some fields, and then others
object_on : (k : List ℕ) (d : Data) (ms rest : Members) → compact_text (object (members_on (member k d ms) rest))
    ≡ 123 ∷ open_text false (member k d ms) ++ members_text true rest
object_on k d ms rest =
    ap (λ (l : List ℕ). 123 ∷ l)
    (one_on (comma_if false) (quoted k) (compact_text d) (members_text true (members_on ms rest)) (open_text true ms)
    (members_text true rest) (later_on ms rest))

-- ---- the whole text

reports_key : codes ",\"reports\":[" ≡ 44 ∷ (quoted (codes "reports") ++ 58 ∷ 91 ∷ [])
unfolding escape_byte
reports_key = refl

runs_key : codes "],\"runs\":" ≡ 93 ∷ 44 ∷ (quoted (codes "runs") ++ 58 ∷ [])
unfolding escape_byte
runs_key = refl

-- the parts, in both orders of brackets
parts_joined : (head reports key items word runs a b : List ℕ) → a ≡ 44 ∷ (key ++ 58 ∷ 91 ∷ [])
    → b ≡ 93 ∷ 44 ∷ (word ++ 58 ∷ []) → items ≡ reports ++ 93 ∷ []
    → head ++ a ++ reports ++ b ++ runs ++ (125 ∷ 10 ∷ [])
    ≡ (head ++ 44 ∷ (key ++ 58 ∷ ((91 ∷ items) ++ 44 ∷ (word ++ 58 ∷ (runs ++ 125 ∷ []))))) ++ 10 ∷ []
parts_joined head reports key items word runs a b of_a of_b is =
    ap (λ (l : List ℕ). head ++ l ++ reports ++ b ++ runs ++ (125 ∷ 10 ∷ [])) of_a
    ∙ (ap (λ (l : List ℕ). head ++ (44 ∷ (key ++ 58 ∷ 91 ∷ [])) ++ reports ++ l ++ runs ++ (125 ∷ 10 ∷ [])) of_b
    ∙ sym (ap (λ (l : List ℕ).
    (head ++ 44 ∷ (key ++ 58 ∷ ((91 ∷ l) ++ 44 ∷ (word ++ 58 ∷ (runs ++ 125 ∷ []))))) ++ 10 ∷ []) is
    ∙ simp append_assoc))

module _ (counts orders : Data) (end : Conclusion) (datas values : List Data) where
  -- the fields after the first ones
  abbrev rest_fields : Members
  rest_fields = field "reports" (array (items_of datas)) (field "runs" (array (items_of values)) no_members)

  abbrev head_text : List ℕ
  head_text = 123 ∷ open_text false (first_fields counts orders end no_members)

  pub joined_is : (head reports runs : List ℕ)
      → head ≡ compact_text (object (first_fields counts orders end no_members)) → reports ≡ listed datas
      → runs ≡ compact_text (array (items_of values))
      → joined_text head reports runs ≡ compact_text (object_data counts orders end datas values) ++ line_feed ∷ []
  unfolding joined_text
  joined_is head reports runs of_head of_reports of_runs =
      let more =
      field "format" (number_data 1) (field "orders" orders (field "outcome" (string (outcome_word end)) no_members)) in
      let begun : without_last head ≡ head_text =
      ap without_last (of_head ∙ object_on (codes "counts") counts more no_members) ∙ without_one head_text 125 in
      let array_of_values = compact_text (array (items_of values)) in
      let a = codes ",\"reports\":[" in
      let b = codes "],\"runs\":" in
      let close = codes "}\n" in
      ap (λ (l : List ℕ). l ++ a ++ drop 1 reports ++ b ++ runs ++ close) begun
      ∙ (ap (λ (l : List ℕ). head_text ++ a ++ drop 1 l ++ b ++ runs ++ close) of_reports
      ∙ (ap (λ (l : List ℕ). head_text ++ a ++ drop 1 (listed datas) ++ b ++ l ++ close) of_runs
      ∙ (parts_joined head_text (drop 1 (listed datas)) (quoted (codes "reports")) (items_text false (items_of datas))
      (quoted (codes "runs")) array_of_values a b reports_key runs_key (listed_first datas)
      ∙ ap (λ (l : List ℕ). l ++ line_feed ∷ []) (sym (object_on (codes "counts") counts more rest_fields)))))

-- ---- the report of a run

name_key : codes ",{\"name\":" ≡ 44 ∷ 123 ∷ (quoted (codes "name") ++ 58 ∷ [])
unfolding escape_byte
name_key = refl

report_key : codes ",\"report\":" ≡ 44 ∷ (quoted (codes "report") ++ 58 ∷ [])
unfolding escape_byte
report_key = refl

entry_joined : (key name word text a b : List ℕ) → a ≡ 44 ∷ 123 ∷ (key ++ 58 ∷ []) → b ≡ 44 ∷ (word ++ 58 ∷ [])
    → a ++ name ++ b ++ text ++ (125 ∷ [])
    ≡ 44 ∷ 123 ∷ (key ++ 58 ∷ (name ++ 44 ∷ (word ++ 58 ∷ (text ++ 125 ∷ []))))
entry_joined key name word text a b of_a of_b =
    ap (λ (l : List ℕ). l ++ name ++ b ++ text ++ (125 ∷ [])) of_a
    ∙ (ap (λ (l : List ℕ). (44 ∷ 123 ∷ (key ++ 58 ∷ [])) ++ name ++ l ++ text ++ (125 ∷ [])) of_b
    ∙ simp append_assoc)

-- the parts of the report of a run of this name
pub report_parts : (name : List ℕ) (report : Data)
    → codes ",{\"name\":" ++ quoted name ++ codes ",\"report\":" ++ compact_text report ++ codes "}"
    ≡ 44 ∷ compact_text (report_data name report)
report_parts name report =
    entry_joined (quoted (codes "name")) (quoted name) (quoted (codes "report")) (compact_text report)
    (codes ",{\"name\":") (codes ",\"report\":") name_key report_key
