-- The field `report` is the last one of a report's object, and determines the report.
use Rattle.std.proofs.Common.{◌≡◌, ℕ, List, [], ◌∷◌, ◌++◌, Bool, true, false, refl, sym, ap, ◌∙◌, subst, append_assoc}
use Rattle.std.specs.Prelude.{◌==◌, not, codes, flat_map}
use Rattle.std.specs.List.{AllByRecursion}
use Rattle.json.specs.Print.{escape, quoted}
use Rattle.serde_json.specs.Data.{Data, string, object, Members, no_members, member}
use Rattle.serde_json.specs.Written.{comma_if, compact_text, members_text}
use Rattle.def_format.specs.Names.{ProcessNames}
use Rattle.def_format.specs.Reports.{Answer, Report, Judged, Refused, spaced, refusal_words, answer_lines, report_lines, text_of_lines, report_text, IsLawful, AnswerIsLawful, possibly_words, definitely_words}
use Rattle.def_format.proofs.OneReport.{Lacks, Plain, all-append, all-join, plain_lacks, plain_of_word, name_in_word, possibly_plain, definitely_plain, session_line, session_rest, refused_line, one_report_lem}
use Rattle.out_json.specs.JsonReports.{Places, json_at, json_text_at}
use Rattle.out_json.specs.ReportLaws.{JsonDeterminesText, TextDeterminesJson}
use Rattle.out_json.proofs.Quotes.{EndsWith, one_last_string}

-- ---- the last field

last_field : (later : Bool) (key s : List ℕ) → EndsWith s (members_text later (member key (string s) no_members))
last_field later key s = record {
  before = comma_if later ++ (quoted key ++ 58 ∷ []);
  ends =
      ap (λ end. comma_if later ++ (quoted key ++ 58 ∷ 34 ∷ end)) (append_assoc (escape s) (34 ∷ []) (125 ∷ []))
      ∙ regroup (comma_if later) (quoted key) (34 ∷ (escape s ++ 34 ∷ 125 ∷ []));
}
  where
    regroup : (a b c : List ℕ) → a ++ (b ++ 58 ∷ c) ≡ (a ++ (b ++ 58 ∷ [])) ++ c
    regroup a b c = sym (append_assoc a (b ++ 58 ∷ []) c ∙ ap (λ rest. a ++ rest) (append_assoc b (58 ∷ []) c))

field_before : (later : Bool) (key : List ℕ) (d : Data) (fields : Members) (s : List ℕ)
    → EndsWith s (members_text true fields) → EndsWith s (members_text later (member key d fields))
field_before later key d fields s e = record {
  before = comma_if later ++ (quoted key ++ 58 ∷ (compact_text d ++ e.before));
  ends =
      ap (λ end. comma_if later ++ (quoted key ++ 58 ∷ (compact_text d ++ end))) e.ends
      ∙ regroup (comma_if later) (quoted key) (compact_text d) e.before (34 ∷ (escape s ++ 34 ∷ 125 ∷ []));
}
  where
    regroup : (a b c d e : List ℕ) → a ++ (b ++ 58 ∷ (c ++ (d ++ e))) ≡ (a ++ (b ++ 58 ∷ (c ++ d))) ++ e
    regroup a b c d e = sym (append_assoc a (b ++ 58 ∷ (c ++ d)) e
        ∙ ap (λ rest. a ++ rest) (append_assoc b (58 ∷ (c ++ d)) e
        ∙ ap (λ rest. b ++ 58 ∷ rest) (append_assoc c d e)))

-- the last field has this string
abbrev LastIs : List ℕ → Members → Type 0
LastIs s no_members = ⊥
LastIs s (member key d no_members) = d ≡ string s
LastIs s (member key d (member next e fields)) = LastIs s (member next e fields)

abbrev LastOf : List ℕ → Data → Type 0
LastOf s (object fields) = LastIs s fields
LastOf s _ = ⊥

fields_end : (later : Bool) (fields : Members) (s : List ℕ) → LastIs s fields → EndsWith s (members_text later fields)
fields_end later no_members s last = absurd last
fields_end later (member key d no_members) s last =
    subst (λ (e : Data). EndsWith s (members_text later (member key e no_members))) (sym last) (last_field later key s)
fields_end later (member key d (member next e fields)) s last =
    field_before later key d (member next e fields) s (fields_end true (member next e fields) s last)

object_ends : (fields : Members) (s : List ℕ) → LastIs s fields → EndsWith s (compact_text (object fields))
object_ends fields s last =
    let e = fields_end false fields s last in
    record { before = 123 ∷ e.before; ends = ap (λ end. 123 ∷ end) e.ends }

data_ends : (d : Data) (s : List ℕ) → LastOf s d → EndsWith s (compact_text d)
data_ends (object fields) s last = object_ends fields s last
data_ends _ s last = absurd last

ends_with_report : (names : List ProcessNames) (places : Places) (report : Report)
    → EndsWith (report_text report) (compact_text (json_at names places report))
ends_with_report names places (Judged processes events messages answers) =
    data_ends (json_at names places (Judged processes events messages answers))
    (report_text (Judged processes events messages answers)) refl
ends_with_report names places (Refused refusal) =
    data_ends (json_at names places (Refused refusal)) (report_text (Refused refusal)) refl

-- ---- no quote stands in a lawful report's text

words_lack : (words : List (List ℕ)) → AllByRecursion Plain words → Lacks 34 (spaced words)
words_lack words h = all-join (λ b. not (b == 34)) 32 words refl (each words h)
  where
    each : (words : List (List ℕ)) → AllByRecursion Plain words → AllByRecursion (Lacks 34) words
    each [] h = tt
    each (word ∷ words) h = (plain_lacks 34 refl word h.0, each words h.1)

answers_lack : (answers : List Answer) → AllByRecursion AnswerIsLawful answers
    → AllByRecursion (Lacks 34) (flat_map answer_lines answers)
answers_lack [] h = tt
answers_lack (answer ∷ answers) h =
    let name = plain_of_word answer.name (name_in_word answer.name h.0.0) in (
      words_lack (answer.name ∷ codes "possibly" ∷ possibly_words answer.possibly)
          (name, (refl, possibly_plain answer.possibly h.0.1)),
      (
        words_lack (answer.name ∷ codes "definitely" ∷ definitely_words answer.definitely)
            (name, (refl, definitely_plain answer.definitely h.0.2)),
        answers_lack answers h.1,
      ),
    )

lines_lack_quotes : (report : Report) → IsLawful report → AllByRecursion (Lacks 34) (report_lines report)
lines_lack_quotes (Judged processes events messages answers) h = (
  words_lack (codes "session" ∷ session_rest processes events messages)
      (session_line processes events messages h.0 h.1 h.2),
  answers_lack answers h.5,
)
lines_lack_quotes (Refused refusal) h =
    (words_lack (codes "refused" ∷ refusal_words refusal) (refused_line refusal h), tt)

text_lacks : (lines : List (List ℕ)) → AllByRecursion (Lacks 34) lines → Lacks 34 (text_of_lines lines)
text_lacks [] h = refl
text_lacks (line ∷ lines) h =
    all-append (λ b. not (b == 34)) (line ++ 10 ∷ []) (text_of_lines lines)
    (all-append (λ b. not (b == 34)) line (10 ∷ []) h.0 refl) (text_lacks lines h.1)

report_lacks : (report : Report) → IsLawful report → Lacks 34 (report_text report)
report_lacks report h = text_lacks (report_lines report) (lines_lack_quotes report h)

-- ---- the laws

pub json_determines_text : JsonDeterminesText
json_determines_text names others places elsewhere report other h k same =
    one_last_string (report_text report) (report_text other) (compact_text (json_at names places report))
    (compact_text (json_at others elsewhere other)) (report_lacks report h) (report_lacks other k)
    (ends_with_report names places report) (ends_with_report others elsewhere other) same

pub text_determines_json : TextDeterminesJson
text_determines_json names places report other h k same =
    ap (json_text_at names places) (one_report_lem report other h k same)
