-- Lines that are summed up in groups.
use Rattle.std.proofs.Common.{◌≡◌, ◌≤◌, ℕ, Bool, true, false, List, [], ◌∷◌, ◌++◌, refl, sym, ap, ◌∙◌, subst, arith}
use Rattle.std.specs.Prelude.{◌&&◌, if◌then◌else◌, Option, Some, None, Result, Ok, Err}
use Rattle.def_format.specs.Lines.{is_blank}
use Rattle.judge_summary.specs.Counts.{AreCounts, Counts, add_all, count_of, fits}
use Rattle.judge_summary.specs.Summaries.{Change, Summary, after_all, after_change, after_line, if_ok, line_change, merged, no_summary, unless_over, with_change}
use Rattle.judge_summary.specs.SummaryLaws.{GroupsMerge, IsSummary, LinesMakeSummaries}
use Rattle.judge_summary.specs.declared.fault.LineFault.{LineFault}
use Rattle.judge_summary.specs.declared.fault.LineFault.TheVariants.{Overflow}
use Rattle.judge_summary.proofs.CountFacts.{over_limit, some_over}
use Rattle.judge_summary.proofs.Sums.{added_to_sums, count_all, count_sum, counts_all}

-- no sum is over the limit
abbrev fits_all : Summary → Bool
fits_all s = fits s.counts && fits s.failing

fitting : (s : Summary) → fits_all s ≡ true → unless_over s ≡ Ok s
fitting s fit = rw fit refl

over : (s : Summary) → fits_all s ≡ false → unless_over s ≡ Err Overflow
over s many = rw many refl

-- ---- one line

-- what a line makes of a summary: it is blank, or adds this
data Takes (t next : Summary) (line : List ℕ) : Type 0 where
  nothing : is_blank line ≡ true → next ≡ t → Takes t next line
  something : (added : Change) → is_blank line ≡ false → line_change line ≡ Some added
      → next ≡ with_change t added → fits_all next ≡ true → Takes t next line

takes : (t next : Summary) (line : List ℕ) → after_line t line ≡ Ok next → Takes t next line
takes t next line e = go (is_blank line) refl
  where
    sure : (b : Bool) (s : Summary) → ◌≡◌ {A = Result Summary LineFault} (if b then Ok s else Err Overflow) (Ok next)
        → (next ≡ s) × (b ≡ true)
    sure true s is = (cc, refl)
    sure false s is = absurd (cc)

    more : (found : Option Change) → is_blank line ≡ false → line_change line ≡ found
        → after_change t found ≡ Ok next → Takes t next line
    more None full is due = absurd (cc)
    more (Some added) full is due =
        let both = sure (fits_all (with_change t added)) (with_change t added) due in
        something added full is both.0 (ap fits_all both.0 ∙ both.1)

    go : (b : Bool) → is_blank line ≡ b → Takes t next line
    go true is = nothing is (let same : ◌≡◌ {A = Result Summary LineFault} (Ok t) (Ok next) = rw is at e in cc)
    go false is = more (line_change line) is refl (rw is at e)

-- each text is counted at least as often
pub record Grows (t next : Summary) : Type 0 where
  pub counts : (q : List ℕ) → count_of q t.counts ≤ count_of q next.counts
  pub failing : (q : List ℕ) → count_of q t.failing ≤ count_of q next.failing

grown : (t next : Summary) (line : List ℕ) → Takes t next line → Grows t next
grown t next line (nothing blank is) = record {
  counts = λ q. rw is (omega arith);
  failing = λ q. rw is (omega arith);
}
grown t next line (something added full change is fit) = record {
  counts = λ q. let more = count_all q added.counts t.counts in rw is (omega (arith, more));
  failing = λ q. let more = count_all q added.failing t.failing in rw is (omega (arith, more));
}

kept : (t next : Summary) (line : List ℕ) → IsSummary t → Takes t next line → IsSummary next
kept t next line are (nothing blank is) = rw is are
kept t next line are (something added full change is fit) = rw is (record {
  counts = counts_all added.counts t.counts are.counts;
  failing = counts_all added.failing t.failing are.failing;
})

-- the line makes the same of merged summaries
merges_on : (s t next : Summary) (line : List ℕ) → IsSummary s → IsSummary t
    → unless_over (merged s t) ≡ Ok (merged s t) → Takes t next line
    → after_line (merged s t) line ≡ unless_over (merged s next)
merges_on s t next line are other fit (nothing blank is) = rw (blank, is) (sym fit)
merges_on s t next line are other fit (something added full change is fits_next) =
    let joined : with_change (merged s t) added ≡ merged s (with_change t added) =
    rw (
      added_to_sums added.counts s.counts t.counts are.counts other.counts,
      added_to_sums added.failing s.failing
          t.failing are.failing other.failing,
    ) refl in
    rw (full, change, is) (ap unless_over joined)

-- ---- lines

all_grow : (t b : Summary) (lines : List (List ℕ)) → after_all t lines ≡ Ok b → Grows t b
all_grow t b [] e = let same : t ≡ b = cc in record {
  counts = λ q. rw same (omega arith);
  failing = λ q. rw same (omega arith);
}
all_grow t b (line ∷ lines) e = go (after_line t line) refl e (λ next. all_grow next b lines)
  where
    go : (found : Result Summary LineFault) → after_line t line ≡ found
        → if_ok (λ next. after_all next lines) found ≡ Ok b
        → ((next : Summary) → after_all next lines ≡ Ok b → Grows next b) → Grows t b
    go (Ok next) is rest ih =
        let first = grown t next line (takes t next line is) in
        let later = ih next rest in
        record {
          counts = λ q. let x = first.counts q in let y = later.counts q in omega (arith, x, y);
          failing = λ q. let x = first.failing q in let y = later.failing q in omega (arith, x, y);
        }
    go (Err fault) is rest ih = absurd (cc)

all_kept : (t b : Summary) (lines : List (List ℕ)) → IsSummary t → after_all t lines ≡ Ok b → IsSummary b
all_kept t b [] are e = let same : t ≡ b = cc in subst IsSummary same are
all_kept t b (line ∷ lines) are e = go (after_line t line) refl e (λ next. all_kept next b lines)
  where
    go : (found : Result Summary LineFault) → after_line t line ≡ found
        → if_ok (λ next. after_all next lines) found ≡ Ok b
        → ((next : Summary) → IsSummary next → after_all next lines ≡ Ok b → IsSummary b) → IsSummary b
    go (Ok next) is rest ih = ih next (kept t next line are (takes t next line is)) rest
    go (Err fault) is rest ih = absurd (cc)

all_fit : (t b : Summary) (lines : List (List ℕ)) → fits_all t ≡ true → after_all t lines ≡ Ok b → fits_all b ≡ true
all_fit t b [] fit e = let same : t ≡ b = cc in ap fits_all (sym same) ∙ fit
all_fit t b (line ∷ lines) fit e = go (after_line t line) refl e (λ next. all_fit next b lines)
  where
    fits_next : (next : Summary) → Takes t next line → fits_all next ≡ true
    fits_next next (nothing blank is) = ap fits_all is ∙ fit
    fits_next next (something added full change is fits_then) = fits_then

    go : (found : Result Summary LineFault) → after_line t line ≡ found
        → if_ok (λ next. after_all next lines) found ≡ Ok b
        → ((next : Summary) → fits_all next ≡ true → after_all next lines ≡ Ok b → fits_all b ≡ true)
        → fits_all b ≡ true
    go (Ok next) is rest ih = ih next (fits_next next (takes t next line is)) rest
    go (Err fault) is rest ih = absurd (cc)

-- ---- sums that are over the limit stay over it

over_stays : (a t b : Counts) → AreCounts a → AreCounts t → AreCounts b
    → ((q : List ℕ) → count_of q t ≤ count_of q b) → fits (add_all t a) ≡ false → fits (add_all b a) ≡ false
over_stays a t b are ts bs grows many =
    let found = some_over (add_all t a) (counts_all t a are) many in
    let one = count_sum found.0 a t ts in
    let two = count_sum found.0 a b bs in
    let less = grows found.0 in
    over_limit found.0 (add_all b a) (omega (arith, found.1, one, two, less))

over_merged : (s t b : Summary) → IsSummary s → IsSummary t → IsSummary b → Grows t b
    → fits_all (merged s t) ≡ false → fits_all (merged s b) ≡ false
over_merged s t b are ts bs grows many = go (fits (add_all t.counts s.counts)) refl many
  where
    second : (x : Bool) → fits (add_all b.failing s.failing) ≡ false
        → (x && fits (add_all b.failing s.failing)) ≡ false
    second true e = e
    second false e = refl

    go : (x : Bool) → fits (add_all t.counts s.counts) ≡ x → (x && fits (add_all t.failing s.failing)) ≡ false
        → fits_all (merged s b) ≡ false
    go false e rest =
        rw (over_stays s.counts t.counts b.counts are.counts ts.counts bs.counts grows.counts e) refl
    go true e rest =
        second (fits (add_all b.counts s.counts))
        (over_stays s.failing t.failing b.failing are.failing ts.failing bs.failing grows.failing rest)

-- ---- groups

-- what lines make of merged summaries
abbrev WalksTo : (s b : Summary) (lines : List (List ℕ)) → Type 0
WalksTo s b lines =
    (t : Summary) → IsSummary t → unless_over (merged s t) ≡ Ok (merged s t) → after_all t lines ≡ Ok b
    → after_all (merged s t) lines ≡ unless_over (merged s b)

decides : (s next b : Summary) (lines : List (List ℕ)) → IsSummary s → IsSummary next → IsSummary b
    → WalksTo s b lines → after_all next lines ≡ Ok b → (x : Bool) → fits_all (merged s next) ≡ x
    → if_ok (λ after. after_all after lines) (unless_over (merged s next)) ≡ unless_over (merged s b)
decides s next b lines are ns bs walks rest true fit =
    let here = fitting (merged s next) fit in
    ap (if_ok (λ after. after_all after lines)) here ∙ walks next ns here rest
decides s next b lines are ns bs walks rest false many =
    ap (if_ok (λ after. after_all after lines)) (over (merged s next) many)
    ∙ sym (over (merged s b) (over_merged s next b are ns bs (all_grow next b lines rest) many))

walk : (s b : Summary) (lines : List (List ℕ)) → IsSummary s → IsSummary b → WalksTo s b lines
walk s b [] are bs t ts fit e = let same : t ≡ b = cc in rw (← same) (sym fit)
walk s b (line ∷ lines) are bs t ts fit e = go (walk s b lines are bs) (after_line t line) refl e
  where
    go : WalksTo s b lines → (found : Result Summary LineFault) → after_line t line ≡ found
        → if_ok (λ next. after_all next lines) found ≡ Ok b
        → if_ok (λ after. after_all after lines) (after_line (merged s t) line) ≡ unless_over (merged s b)
    go walks (Ok next) is rest =
        let took = takes t next line is in
        ap (if_ok (λ after. after_all after lines)) (merges_on s t next line are ts fit took)
        ∙ decides s next b lines are (kept t next line ts took) bs walks rest (fits_all (merged s next)) refl
    go walks (Err fault) is rest = absurd (cc)

one_after_another : (s a : Summary) (lines others : List (List ℕ)) → after_all s lines ≡ Ok a
    → after_all s (lines ++ others) ≡ after_all a others
one_after_another s a [] others e = let same : s ≡ a = cc in rw same refl
one_after_another s a (line ∷ lines) others e =
    go (after_line s line) refl e (λ next. one_after_another next a lines others)
  where
    go : (found : Result Summary LineFault) → after_line s line ≡ found
        → if_ok (λ next. after_all next lines) found ≡ Ok a
        → ((next : Summary) → after_all next lines ≡ Ok a → after_all next (lines ++ others) ≡ after_all a others)
        → if_ok (λ next. after_all next (lines ++ others)) (after_line s line) ≡ after_all a others
    go (Ok next) is rest ih = rw is (ih next rest)
    go (Err fault) is rest ih = absurd (cc)

none : IsSummary no_summary
none = record { counts = tt; failing = tt }

pub lines_make_summaries_lem : LinesMakeSummaries
lines_make_summaries_lem a lines e = all_kept no_summary a lines none e

pub groups_merge_lem : GroupsMerge
groups_merge_lem a b lines others first second =
    let fit : fits_all a ≡ true = all_fit no_summary a lines refl first in
    one_after_another no_summary a lines others first
    ∙ walk a b others (all_kept no_summary a lines none first) (all_kept no_summary b others none second) no_summary
    none (fitting a fit) second
