-- What the lines of a stream give by the definition of `Streams` and what they give line by line are the same.
use Rattle.std.proofs.Common.{◌≡◌, ℕ, suc, add-one, Bool, true, false, List, [], ◌∷◌, ◌++◌, length, refl, sym, ap, ◌∙◌}
use Rattle.std.proofs.Math.Dec.{leb-suc-suc}
use Rattle.std.specs.Prelude.{nat_le, nat_lt, codes, Option, Some, None, option_map, option_and_then, unwrap_or, is_some, Result, Ok, Err}
use Rattle.std.specs.List.{list_all}
use Rattle.std.specs.Str.{is_utf8}
use Rattle.json.specs.Json as json
use Rattle.json.specs.Find.{get, as_object}
use Rattle.serde_json.specs.Data.{Data, Members}
use Rattle.def_model.specs.Events.{Kind}
use Rattle.def_format.specs.Lines.{all_lines, is_blank}
use Rattle.def_format.specs.Limits.{event_limit, line_byte_limit, stream_byte_limit, var_limit}
use Rattle.def_format.specs.Lists.{is_one_of}
use Rattle.def_format.specs.Names.{is_name}
use Rattle.def_format.specs.Records.{Statement, SaysEnd, SaysEvent, SaysJoin, id_fits, json_value, statement_of, values, whole_number}
use Rattle.judge_infer.specs.Inferred.{Fault, Stage, Wrong, after_event, after_line, after_lines, after_setting, after_shape, names_or_none, process_of, set_names, stream_process, unless_wrong, with_end, with_vars, worded, wrong_words}
use Rattle.judge_infer.specs.Streams as streams
use Rattle.judge_infer.specs.Streams.{with_event, Found, Process, member_names, process_by, process_of_stream, setting_names, with_names, with_receipt}

-- with the words for what is wrong
abbrev worded_vars : Result (List (List ℕ)) Wrong → Result (List (List ℕ)) (List ℕ)
worded_vars (Ok vars) = Ok vars
worded_vars (Err wrong) = Err (wrong_words wrong)

abbrev found : Result Stage Fault → Found
found due = worded (unless_wrong (λ (s : Stage). process_of s s.process) due)

-- ---- the variables of a line

names_same : (vars names : List (List ℕ)) → with_names vars names ≡ worded_vars (with_vars vars names)
names_same vars [] = refl
names_same vars (name ∷ names) = known (λ more. names_same more names) (is_one_of vars name) refl
  where
    room : ((more : List (List ℕ)) → with_names more names ≡ worded_vars (with_vars more names))
        → (b : Bool) → nat_le var_limit (length vars) ≡ b → is_one_of vars name ≡ false → is_name name ≡ true
        → with_names vars (name ∷ names) ≡ worded_vars (with_vars vars (name ∷ names))
    room later true full new named = rw (new, named, full) refl
    room later false full new named = rw (new, named, full) (later (vars ++ name ∷ []))

    new_name : ((more : List (List ℕ)) → with_names more names ≡ worded_vars (with_vars more names))
        → (b : Bool) → is_name name ≡ b → is_one_of vars name ≡ false
        → with_names vars (name ∷ names) ≡ worded_vars (with_vars vars (name ∷ names))
    new_name later true named new = room later (nat_le var_limit (length vars)) refl new named
    new_name later false named new = rw (new, named) refl

    known : ((more : List (List ℕ)) → with_names more names ≡ worded_vars (with_vars more names))
        → (b : Bool) → is_one_of vars name ≡ b
        → with_names vars (name ∷ names) ≡ worded_vars (with_vars vars (name ∷ names))
    known later true old = rw old (later vars)
    known later false new = new_name later (is_name name) refl new

some_names : (o : Option json.Members) → names_or_none o ≡ unwrap_or (option_map member_names o) []
some_names None = refl
some_names (Some others) = refl

setting_same : (line : List ℕ) (value : Data) → json_value line ≡ Some value → set_names line ≡ setting_names line
setting_same line value is = go (is_utf8 line) refl
  where
    go : (b : Bool) → is_utf8 line ≡ b → set_names line ≡ setting_names line
    go true utf8 = rw utf8 (some_names (option_and_then as_object
        (option_and_then (get (codes "set")) (json.document line))))
    go false utf8 = let none : json_value line ≡ None = rw utf8 refl in absurd (cc)

-- ---- a line after those that gave a process, or none

abbrev name_in : Option Process → Option (List ℕ)
name_in before = option_map (λ (p : Process). p.name) before

abbrev vars_in : Option Process → List (List ℕ)
vars_in None = []
vars_in (Some p) = p.vars

abbrev received_in : Option Process → List (List ℕ)
received_in None = []
received_in (Some p) = p.received

abbrev stage : Option Process → ℕ → Option ℕ → Stage
stage before e cut = record {
  process = name_in before;
  vars = vars_in before;
  received = received_in before;
  events = e;
  cut = cut;
  is_ended = false;
}

ended_stays : (s : Stage) (n : ℕ) (lines : List (List ℕ)) → after_lines (with_end s) n lines ≡ Ok (with_end s)
unfolding after_line
ended_stays s n [] = refl
ended_stays s n (line ∷ others) = ended_stays s (suc n) others

-- how many records precede an event, beside how many events do
over : (e : ℕ) (b : Bool) → nat_le event_limit e ≡ b → nat_lt event_limit (suc e) ≡ b
over e b is = leb-suc-suc event_limit e ∙ is

module _ (n : ℕ) (others : List (List ℕ)) (later : Process → Found) where
  abbrev rest : Result Stage Fault → Found
  rest due = found (unless_wrong (λ s. after_lines s (suc n) others) due)

  module _ (names : List (List ℕ)) (e : ℕ)
      (goes_on : (q : Process) → later q ≡ found (after_lines (stage (Some q) (suc e) None) (suc n) others)) where
    set_same : (p : Process) (kind : Kind) (settings : Members) (due : Result (List (List ℕ)) Wrong)
        → with_event n later p kind (worded_vars due)
        ≡ rest (after_setting (stage (Some p) e None) n kind due)
    set_same p kind settings (Ok vars) = rw (add-one e) (goes_on (record {
      name = p.name;
      vars = vars;
      received = with_receipt kind p.received;
    }))
    set_same p kind settings (Err wrong) = refl

    abbrev EventSame : Process → Kind → Members → Type 0
    EventSame p kind settings =
        streams.after_event n later p (suc e) names kind settings
        ≡ rest (after_event (stage (Some p) e None) n names kind settings)

    event_same : (p : Process) (kind : Kind) (settings : Members) → EventSame p kind settings
    event_same p kind settings = few (nat_le event_limit e) refl
      where
        id : (b : Bool) → id_fits kind ≡ b → nat_le event_limit e ≡ false
            → list_all (λ value. is_some (whole_number value)) (values settings) ≡ true → EventSame p kind settings
        id true fits few whole = rw (over e false few, few, whole, fits, names_same p.vars names)
            (set_same p kind settings (with_vars p.vars names))
        id false fits few whole = rw (over e false few, few, whole, fits) refl

        whole : (b : Bool) → list_all (λ value. is_some (whole_number value)) (values settings) ≡ b
            → nat_le event_limit e ≡ false → EventSame p kind settings
        whole true is few = id (id_fits kind) refl few is
        whole false is few = rw (over e false few, few, is) refl

        few : (b : Bool) → nat_le event_limit e ≡ b → EventSame p kind settings
        few true many = rw (over e true many, many) refl
        few false is = whole (list_all (λ value. is_some (whole_number value)) (values settings)) refl is

    record_same : (p : Process) (says : Option Statement)
        → streams.after_record n later (Some p) (suc e) names says
        ≡ rest (after_shape (stage (Some p) e None) n names says)
    record_same p None = refl
    record_same p (Some (SaysJoin name)) = refl
    record_same p (Some SaysEnd) = sym (ap found (ended_stays (stage (Some p) e None) (suc n) others))
    record_same p (Some (SaysEvent kind settings)) = event_same p kind settings

  first_same : (names : List (List ℕ)) (says : Option Statement)
      → ((q : Process) → later q ≡ found (after_lines (stage (Some q) 0 None) (suc n) others))
      → streams.after_record n later None 0 names says
      ≡ rest (after_shape (stage None 0 None) n names says)
  first_same names None joins = refl
  first_same names (Some SaysEnd) joins = refl
  first_same names (Some (SaysEvent kind settings)) joins = refl
  first_same names (Some (SaysJoin name)) joins = named (is_name name) refl
    where
      named : (b : Bool) → is_name name ≡ b
          → streams.after_record n later None 0 names (Some (SaysJoin name))
          ≡ rest (after_shape (stage None 0 None) n names (Some (SaysJoin name)))
      named true is = rw is (joins (record { name = name; vars = []; received = [] }))
      named false is = rw is refl

-- ---- lines

module _ (before : Option Process) (records e n : ℕ) (line : List ℕ) (others : List (List ℕ)) where
  abbrev SoFar : Option ℕ → Type 0
  SoFar cut = process_by before records cut (suc n) others ≡ found (after_lines (stage before e cut) (suc n) others)

  abbrev Here : Option ℕ → Type 0
  Here cut =
      process_by before records cut n (line ∷ others) ≡ found (after_lines (stage before e cut) n (line ∷ others))

  abbrev RecordsSame : Type 0
  RecordsSame = (names : List (List ℕ)) (says : Option Statement)
      → streams.after_record n (λ q. process_by (Some q) (suc records) None (suc n) others) before records names says
      ≡ rest n others (λ q. process_by (Some q) (suc records) None (suc n) others)
      (after_shape (stage before e None) n names says)

  line_same : (cut : Option ℕ) → SoFar cut → SoFar (Some n) → RecordsSame → Here cut
  unfolding after_line
  line_same cut skipped dropped same = short (nat_lt line_byte_limit (length line)) refl
    where
      value : (due : Option Data) → json_value line ≡ due → nat_lt line_byte_limit (length line) ≡ false
          → is_blank line ≡ false → Here None
      value None is fits some = rw (fits, some, is) dropped
      value (Some v) is fits some =
          rw (fits, some, is, setting_same line v is) (same (setting_names line) (statement_of v))

      cuts : (c : Option ℕ) → cut ≡ c → nat_lt line_byte_limit (length line) ≡ false → is_blank line ≡ false
          → Here c
      cuts None is fits some = value (json_value line) refl fits some
      cuts (Some c) is fits some = rw (fits, some) refl

      blank : (b : Bool) → is_blank line ≡ b → nat_lt line_byte_limit (length line) ≡ false → Here cut
      blank true is fits = rw (fits, is) skipped
      blank false is fits = cuts cut refl fits is

      short : (b : Bool) → nat_lt line_byte_limit (length line) ≡ b → Here cut
      short true is = rw is refl
      short false is = blank (is_blank line) refl is

joined_same : (p : Process) (e : ℕ) (cut : Option ℕ) (n : ℕ) (lines : List (List ℕ))
    → process_by (Some p) (suc e) cut n lines ≡ found (after_lines (stage (Some p) e cut) n lines)
joined_same p e cut n [] = refl
joined_same p e cut n (line ∷ others) =
    line_same (Some p) (suc e) e n line others cut (joined_same p e cut (suc n) others)
    (joined_same p e (Some n) (suc n) others)
    (λ names says. record_same n others _ names e (λ q. joined_same q (suc e) None (suc n) others) p says)

lines_same : (cut : Option ℕ) (n : ℕ) (lines : List (List ℕ))
    → process_by None 0 cut n lines ≡ found (after_lines (stage None 0 cut) n lines)
lines_same cut n [] = refl
lines_same cut n (line ∷ others) =
    line_same None 0 0 n line others cut (lines_same cut (suc n) others) (lines_same (Some n) (suc n) others)
    (λ names says. first_same n others _ names says (λ q. joined_same q 0 None (suc n) others))

pub stream_same : (bytes : List ℕ) → process_of_stream bytes ≡ worded (stream_process bytes)
unfolding process_of_stream stream_process
stream_same bytes = short (nat_lt stream_byte_limit (length bytes)) refl
  where
    short : (b : Bool) → nat_lt stream_byte_limit (length bytes) ≡ b
        → process_of_stream bytes ≡ worded (stream_process bytes)
    short true is = rw is refl
    short false is = rw is (lines_same None 1 (all_lines bytes))
