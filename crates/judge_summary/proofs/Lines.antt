-- What a line of a summary adds, and what comes of a change.
use Rattle.std.proofs.Common.{◌≡◌, ◌≤◌, ℕ, Bool, true, false, List, refl, sym, ap, ◌∙◌, arith}
use Rattle.std.specs.Prelude.{Some, Ok, Err, IsUtf8}
use Rattle.def_format.specs.Lines.{is_blank}
use Rattle.def_format.proofs.JsonFacts.{json_value-some}
use Rattle.serde_json.specs.Data.{Data, depth}
use Rattle.serde_json.specs.Read.{max_depth, read}
use Rattle.serde_json.specs.Written.{compact_text, has_float}
use Rattle.judge_summary.specs.Counts.{add_all, fits}
use Rattle.judge_summary.specs.Summaries.{Change, Summary, after_line, change, line_change, merged, summary_data, summary_line, unless_over, with_change}
use Rattle.judge_summary.specs.declared.fault.LineFault.TheVariants.{Overflow}
use Rattle.judge_summary.proofs.Members.{flat, no_float, numbers_back}

-- ---- a summary's text

pub summary_no_float : (summary : Summary) → has_float (summary_data summary) ≡ false
summary_no_float summary = rw (no_float summary.counts, no_float summary.failing) refl

pub summary_depth : (summary : Summary) → depth (summary_data summary) ≡ 2
summary_depth summary = rw (flat summary.counts, flat summary.failing) refl

summary_line_change : (summary : Summary) (line : List ℕ) → IsUtf8 line → read line ≡ Some (summary_data summary)
    → line_change line ≡ Some (change summary.counts summary.failing)
summary_line_change summary line utf8 e =
    rw (json_value-some line (summary_data summary) utf8 e, numbers_back summary.counts, numbers_back summary.failing)
    refl

-- a summary's line merges it
line_merges : (summary other : Summary) (line : List ℕ) → line ≡ compact_text (summary_data summary)
    → IsUtf8 line → read line ≡ Some (summary_data summary)
    → after_line other line ≡ unless_over (merged other summary)
line_merges summary other line is utf8 e =
    let full : is_blank line ≡ false = ap is_blank is in
    rw (full, summary_line_change summary line utf8 e) refl

module _ (summary : Summary) (value : Data) (line : List ℕ) (same : value ≡ summary_data summary)
    (text : has_float value ≡ false → line ≡ compact_text value) where
  pub is_line : line ≡ summary_line summary
  unfolding summary_line
  is_line = text (ap has_float same ∙ summary_no_float summary) ∙ ap compact_text same

  pub text_merges : IsUtf8 line → (depth value ≤ max_depth → read line ≡ Some value) → (other : Summary)
      → after_line other (summary_line summary) ≡ unless_over (merged other summary)
  unfolding summary_line
  text_merges utf8 back other =
      let is : line ≡ compact_text (summary_data summary) =
      text (ap has_float same ∙ summary_no_float summary) ∙ ap compact_text same in
      let few : depth value ≤ max_depth = rw (ap depth same ∙ summary_depth summary) (omega arith) in
      ap (after_line other) (sym is)
      ∙ line_merges summary other line is utf8 (back few ∙ ap Some same)

-- ---- a change

pub change_done : (summary : Summary) (added : Change) → fits (add_all added.counts summary.counts) ≡ true
    → fits (add_all added.failing summary.failing) ≡ true
    → unless_over (with_change summary added) ≡ Ok (with_change summary added)
change_done summary added first second = rw (first, second) refl

pub first_over : (summary : Summary) (added : Change) → fits (add_all added.counts summary.counts) ≡ false
    → unless_over (with_change summary added) ≡ Err Overflow
first_over summary added over = rw over refl

pub second_over : (summary : Summary) (added : Change) → fits (add_all added.failing summary.failing) ≡ false
    → unless_over (with_change summary added) ≡ Err Overflow
second_over summary added over = go (fits (add_all added.counts summary.counts)) refl
  where
    go : (b : Bool) → fits (add_all added.counts summary.counts) ≡ b
        → unless_over (with_change summary added) ≡ Err Overflow
    go true e = rw (e, over) refl
    go false e = rw e refl
