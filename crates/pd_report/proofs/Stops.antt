-- Where lines stop beginning a report.
use Rattle.std.proofs.Common.{◌≡◌, ℕ, zero, suc, ◌+◌, ◌*◌, ◌<◌, ◌≤◌, List, [], ◌∷◌, ◌++◌, length, take, refl, sym, ap, ◌∙◌, subst, append_assoc, append-nil, length-append, arith}
use Rattle.std.specs.Prelude.{codes, flat_map}
use Rattle.std.specs.List.{AllByRecursion}
use Rattle.def_format.specs.Limits.{predicate_limit}
use Rattle.def_format.specs.Reports as reports
use Rattle.def_format.specs.Reports.{Answer, AnswerIsLawful, Definitely, DefinitelyIsLawful, IsLawful, Possibly, Refusal, RefusalIsLawful, Report, Judged, Refused, answer_lines, report_lines}
use Rattle.pd_report.specs.Reading.{counts_text, first_text, refused_text, second_text, Begins, CountsFit, FirstIsLawful, StopsAfter}
use Rattle.pd_report.proofs.LineWords.{first_words}
use Rattle.pd_report.proofs.Pieces.{head_is, tail_is}
use Rattle.pd_report.proofs.Texts.{refused_words}

abbrev Lines : Type 0
Lines = List (List ℕ)

-- what the lines of answers go on with are lines of answers
record AreAfter (xs ys : List Answer) (tail : Lines) : Type 0 where
  zs : List Answer
  lawful : AllByRecursion AnswerIsLawful zs
  count : length ys ≡ length xs + length zs
  same : flat_map answer_lines zs ≡ tail

following : (xs ys : List Answer) (tail : Lines) → AllByRecursion AnswerIsLawful ys
    → flat_map answer_lines ys ≡ flat_map answer_lines xs ++ tail → AreAfter xs ys tail
following [] ys tail h e = record { zs = ys; lawful = h; count = omega arith; same = e }
following (x ∷ xs) [] tail h e = absurd (cc)
following (x ∷ xs) (y ∷ ys) tail h e =
    let next = following xs ys tail h.1 (tail_is _ _ _ _ (tail_is _ _ _ _ e)) in
    record { zs = next.zs; lawful = next.lawful; count = omega (arith, next.count); same = next.same }

pub two_each : (xs : List Answer) → length (flat_map answer_lines xs) ≡ 2 * length xs
two_each [] = refl
two_each (x ∷ xs) = omega (arith, two_each xs)

take_prefix : (prefix tail : Lines) (n : ℕ) → n ≡ length prefix → take n (prefix ++ tail) ≡ prefix
take_prefix [] tail zero e = refl
take_prefix [] tail (suc n) e = absurd (omega arith)
take_prefix (x ∷ prefix) tail zero e = absurd (omega arith)
take_prefix (x ∷ prefix) tail (suc n) e = ap (λ z. x ∷ z) (take_prefix prefix tail n (omega arith))

-- a session's line is no refusal's
abbrev first_of_line : List ℕ → ℕ
first_of_line [] = 0
first_of_line (x ∷ line) = x

pub no_refusal : (counts : ℕ × ℕ × ℕ) (r : Refusal) → ¬ (counts_text counts ≡ refused_text r)
no_refusal counts r e = let b : ◌≡◌ {A = ℕ} 115 114 = ap first_of_line e ∙ ap first_of_line (refused_words r) in
    omega arith

-- a report that begins with a session's line, the lines of answers, and more
record GoesOn (xs : List Answer) (tail : Lines) : Type 0 where
  zs : List Answer
  lawful : AllByRecursion AnswerIsLawful zs
  some : 1 ≤ length xs + length zs
  few : length xs + length zs ≤ predicate_limit
  same : flat_map answer_lines zs ≡ tail

goes_on : (counts : ℕ × ℕ × ℕ) (xs : List Answer) (tail : Lines) (r : Report) → IsLawful r
    → report_lines r ≡ counts_text counts ∷ (flat_map answer_lines xs ++ tail) → GoesOn xs tail
goes_on counts xs tail (Refused r) l e = absurd (no_refusal counts r (sym (head_is _ _ _ _ e)))
goes_on counts xs tail (Judged p n m ys) l e =
    let next = following xs ys tail l.5 (tail_is _ _ _ _ e) in
    record {
      zs = next.zs;
      lawful = next.lawful;
      some = omega (arith, next.count, l.3);
      few =
          omega (arith, next.count, l.4);
      same = next.same;
    }

-- ---- what begins a report

some_answer : Answer
some_answer = record { name = codes "a"; possibly = Possibly.No; definitely = Definitely.Unknown 0 }

some_lawful : AnswerIsLawful some_answer
unfolding some_answer
some_lawful = (refl, tt, omega arith)

all_on : (xs : List Answer) (x : Answer) → AllByRecursion AnswerIsLawful xs → AnswerIsLawful x
    → AllByRecursion AnswerIsLawful (xs ++ x ∷ [])
all_on [] x h k = (k, tt)
all_on (y ∷ xs) x h k = (h.0, all_on xs x h.1 k)

pub answer_more : (xs : List Answer) (x : Answer) → flat_map answer_lines (xs ++ x ∷ []) ≡ flat_map answer_lines xs
    ++ answer_lines x
answer_more [] x = refl
answer_more (y ∷ xs) x = ap (λ z. answer_lines y ++ z) (answer_more xs x)

-- one answer more
with_one : (counts : ℕ × ℕ × ℕ) → CountsFit counts → (xs : List Answer) (x : Answer) → AllByRecursion AnswerIsLawful xs
    → AnswerIsLawful x → length xs < predicate_limit → (prefix rest : Lines) → answer_lines x ≡ prefix ++ rest
    → Begins (counts_text counts ∷ (flat_map answer_lines xs ++ prefix))
with_one counts fit xs x h k few prefix rest e = record {
  report = Judged counts.0 counts.1 counts.2 (xs ++ x ∷ []);
  lawful = (
    fit.0,
    fit.1,
    fit.2,
    omega (arith, length-append xs (x ∷ [])),
    omega (arith, length-append xs (x ∷ [])),
    all_on xs x h k,
  );
  rest = rest;
  begins = ap (λ z. counts_text counts ∷ z) (answer_more xs x ∙ ap (λ z. flat_map answer_lines xs ++ z) e
      ∙ sym (append_assoc (flat_map answer_lines xs) prefix rest));
}

pub whole_answers : (counts : ℕ × ℕ × ℕ) → CountsFit counts → (xs : List Answer) → AllByRecursion AnswerIsLawful xs
    → length xs ≤ predicate_limit → Begins (counts_text counts ∷ flat_map answer_lines xs)
whole_answers counts fit [] h few =
    with_one counts fit [] some_answer tt some_lawful (omega arith) [] (answer_lines some_answer) refl
whole_answers counts fit (x ∷ xs) h few = record {
  report = Judged counts.0 counts.1 counts.2 (x ∷ xs);
  lawful = (fit.0, fit.1, fit.2, omega arith, omega arith, h);
  rest = [];
  begins = sym (append-nil (counts_text counts ∷ flat_map answer_lines (x ∷ xs)));
}

-- ---- where it stops

stops_in : (prefix : Lines) (line : List ℕ) (more : Lines) (j : ℕ) → j ≡ length prefix → Begins prefix
    → ¬ (Begins (prefix ++ line ∷ [])) → StopsAfter (prefix ++ line ∷ more) j
stops_in prefix line more j e b none = record {
  no_report =
      λ r l q. none (record {
        report = r;
        lawful = l;
        rest = more;
        begins =
            sym q ∙ sym (append_assoc prefix (line ∷ []) more);
      });
  there = omega (arith, length-append prefix (line ∷ more));
  before = subst Begins (sym (take_prefix prefix (line ∷ more) j e)) b;
  here = λ _ next. none (subst Begins (ap (λ ls. take (j + 1) ls) (sym (append_assoc prefix (line ∷ []) more))
      ∙ take_prefix (prefix ++ line ∷ []) more (j + 1) (omega (arith, length-append prefix (line ∷ [])))) next);
}

stops_end : (prefix : Lines) (j : ℕ) → j ≡ length prefix → Begins prefix
    → ((r : Report) → IsLawful r → ¬ (prefix ≡ report_lines r)) → StopsAfter prefix j
stops_end prefix j e b none = record {
  no_report = none;
  there = omega arith;
  before = subst Begins (sym (ap (λ ls. take j ls) (sym (append-nil prefix)) ∙ take_prefix prefix [] j e)) b;
  here = λ below next. omega arith;
}

record FirstLine (xs : List Answer) (line : List ℕ) : Type 0 where
  v : List ℕ × Possibly
  lawful : FirstIsLawful v
  few : length xs < predicate_limit
  same : line ≡ first_text v

next_first : (xs : List Answer) (line : List ℕ) (rest : Lines) → GoesOn xs (line ∷ rest) → FirstLine xs line
next_first xs line rest g = go g.zs g.lawful g.few g.same
  where
    go : (zs : List Answer) → AllByRecursion AnswerIsLawful zs → length xs + length zs ≤ predicate_limit
        → flat_map answer_lines zs ≡ line ∷ rest → FirstLine xs line
    go [] l f e = absurd (cc)
    go (z ∷ zs) l f e = record {
      v = (z.name, z.possibly);
      lawful = (l.0.0, l.0.1);
      few = omega arith;
      same =
          sym (head_is _ _ _ _ e);
    }

-- no answer goes on with this line
pub first_stops : (counts : ℕ × ℕ × ℕ) → CountsFit counts → (xs : List Answer) → AllByRecursion AnswerIsLawful xs
    → length xs ≤ predicate_limit → (line : List ℕ) (more : Lines)
    → (length xs < predicate_limit → (v : List ℕ × Possibly) → FirstIsLawful v → ¬ (line ≡ first_text v))
    → StopsAfter (counts_text counts ∷ (flat_map answer_lines xs ++ line ∷ more)) (2 * length xs + 1)
first_stops counts fit xs h few line more none =
    stops_in (counts_text counts ∷ flat_map answer_lines xs) line more (2 * length xs + 1) (omega (arith, two_each xs))
    (whole_answers counts fit xs h few)
    (λ b.
    let first =
    next_first xs line b.rest (goes_on counts xs (line ∷ b.rest) b.report b.lawful (b.begins
    ∙ ap (λ z. counts_text counts ∷ z) (append_assoc (flat_map answer_lines xs) (line ∷ []) b.rest))) in
    none first.few first.v first.lawful first.same)

one_begun : (counts : ℕ × ℕ × ℕ) → CountsFit counts → (xs : List Answer) → AllByRecursion AnswerIsLawful xs
    → length xs < predicate_limit → (line : List ℕ) (v : List ℕ × Possibly) → FirstIsLawful v → line ≡ first_text v
    → Begins (counts_text counts ∷ (flat_map answer_lines xs ++ line ∷ []))
one_begun counts fit xs h few line v l e =
    with_one counts fit xs (record { name = v.0; possibly = v.1; definitely = Definitely.Unknown 0 }) h (
      l.0,
      l.1,
      omega arith,
    ) few (line ∷ []) (second_text v.0 (Definitely.Unknown 0) ∷ [])
    (ap (λ z. z ∷ second_text v.0 (Definitely.Unknown 0) ∷ []) (sym e))

-- the second line is not there
pub second_lacks : (counts : ℕ × ℕ × ℕ) → CountsFit counts → (xs : List Answer) → AllByRecursion AnswerIsLawful xs
    → length xs < predicate_limit → (line : List ℕ) (v : List ℕ × Possibly) → FirstIsLawful v → line ≡ first_text v
    → StopsAfter (counts_text counts ∷ (flat_map answer_lines xs ++ line ∷ [])) (2 * length xs + 2)
second_lacks counts fit xs h few line v l e =
    stops_end (counts_text counts ∷ (flat_map answer_lines xs ++ line ∷ [])) (2 * length xs + 2)
    (omega (arith, two_each xs, length-append (flat_map answer_lines xs) (line ∷ [])))
    (one_begun counts fit xs h few line v l e)
    (λ r k q. let g = goes_on counts xs (line ∷ []) r k (sym q) in odd g.zs g.same)
  where
    odd : (zs : List Answer) → ¬ (flat_map answer_lines zs ≡ line ∷ [])
    odd [] q = cc
    odd (z ∷ zs) q = let short = tail_is _ _ _ _ q in cc

-- the second line doesn't go with the first
pub second_stops : (counts : ℕ × ℕ × ℕ) → CountsFit counts → (xs : List Answer) → AllByRecursion AnswerIsLawful xs
    → length xs < predicate_limit → (line : List ℕ) (v : List ℕ × Possibly) → FirstIsLawful v → line ≡ first_text v
    → (second : List ℕ) (more : Lines) → ((d : Definitely) → DefinitelyIsLawful d → ¬ (second ≡ second_text v.0 d))
    → StopsAfter (counts_text counts ∷ (flat_map answer_lines xs ++ line ∷ second ∷ more)) (2 * length xs + 2)
second_stops counts fit xs h few line v l e second more none =
    let prefix : Lines = counts_text counts ∷ (flat_map answer_lines xs ++ line ∷ []) in
    subst (λ ls. StopsAfter ls (2 * length xs + 2))
    (ap (λ z. counts_text counts ∷ z) (append_assoc (flat_map answer_lines xs) (line ∷ []) (second ∷ more)))
    (stops_in prefix second more (2 * length xs + 2)
    (omega (arith, two_each xs, length-append (flat_map answer_lines xs) (line ∷ [])))
    (one_begun counts fit xs h few line v l e)
    (λ b.
    let g = goes_on counts xs (line ∷ second ∷ b.rest) b.report b.lawful (b.begins
    ∙ ap (λ z. counts_text counts ∷ z) (append_assoc (flat_map answer_lines xs ++ line ∷ []) (second ∷ []) b.rest
    ∙ append_assoc (flat_map answer_lines xs) (line ∷ []) (second ∷ b.rest))) in
    go b.rest g.zs g.lawful g.same))
  where
    go : (rest : Lines) (zs : List Answer) → AllByRecursion AnswerIsLawful zs
        → ¬ (flat_map answer_lines zs ≡ line ∷ second ∷ rest)
    go rest [] k q = cc
    go rest (z ∷ zs) k q =
        let words = first_words line (z.name, z.possibly) (k.0.0, k.0.1) (sym (head_is _ _ _ _ q)) in
        let name : v.0 ≡ z.name = head_is _ _ _ _ (sym (first_words line v l e) ∙ words) in
        none z.definitely k.0.2 (sym (head_is _ _ _ _ (tail_is _ _ _ _ q))
        ∙ ap (λ n. second_text n z.definitely) (sym name))

-- there is no answer
pub answers_lack : (counts : ℕ × ℕ × ℕ) → CountsFit counts → StopsAfter (counts_text counts ∷ []) 1
answers_lack counts fit =
    stops_end (counts_text counts ∷ []) 1 refl (whole_answers counts fit [] tt (omega arith)) (λ r k q. let g =
    goes_on counts [] [] r k (sym q) in none g.zs g.some g.same)
  where
    none : (zs : List Answer) → 1 ≤ length {A = Answer} [] + length zs → ¬ (flat_map answer_lines zs ≡ [])
    none [] s q = omega arith
    none (z ∷ zs) s q = cc

-- ---- the first line

no_line : Begins []
no_line = record {
  report = Refused reports.Streams;
  lawful = tt;
  rest = report_lines (Refused reports.Streams);
  begins = refl;
}

pub nothing_stops : StopsAfter [] 0
nothing_stops = stops_end [] 0 refl no_line none
  where
    none : (r : Report) → IsLawful r → ¬ ([] ≡ report_lines r)
    none (Judged p e m xs) l q = cc
    none (Refused r) l q = cc

pub line_stops : (line : List ℕ) (more : Lines)
    → ((counts : ℕ × ℕ × ℕ) → CountsFit counts → ¬ (line ≡ counts_text counts))
    → ((r : Refusal) → RefusalIsLawful r → ¬ (line ≡ refused_text r)) → StopsAfter (line ∷ more) 0
line_stops line more counts refused = stops_in [] line more 0 refl no_line (λ b. go b.report b.lawful b.rest b.begins)
  where
    go : (r : Report) → IsLawful r → (rest : Lines) → ¬ (report_lines r ≡ line ∷ rest)
    go (Judged p e m xs) l rest q = counts (p, e, m) (l.0, l.1, l.2) (sym (head_is _ _ _ _ q))
    go (Refused r) l rest q = refused r l (sym (head_is _ _ _ _ q))

pub refused_begins : (r : Refusal) → RefusalIsLawful r → Begins (refused_text r ∷ [])
refused_begins r l = record { report = Refused r; lawful = l; rest = []; begins = refl }

pub refused_stops : (line next : List ℕ) (more : Lines) (r : Refusal) → RefusalIsLawful r → line ≡ refused_text r
    → StopsAfter (line ∷ next ∷ more) 1
refused_stops line next more r l e =
    stops_in (line ∷ []) next more 1 refl (subst (λ z. Begins (z ∷ [])) (sym e) (refused_begins r l))
    (λ b. go b.report b.lawful b.rest b.begins)
  where
    go : (s : Report) → IsLawful s → (rest : Lines) → ¬ (report_lines s ≡ line ∷ next ∷ rest)
    go (Judged p n m xs) k rest q = no_refusal (p, n, m) r (head_is _ _ _ _ q ∙ e)
    go (Refused s) k rest q = let short = tail_is _ _ _ _ q in cc
