-- Sums of counts: how often each text is counted in them, and their laws.
use Rattle.std.proofs.Common.{◌≡◌, ◌<◌, ◌+◌, ℕ, suc, false, List, length, drop, drop-cons, get_or, String, Global, string_bytes, [], ◌∷◌, Ordering, Less, Equal, Greater, nat_cmp, refl, sym, ap, ◌∙◌, arith}
use Rattle.std.specs.Prelude.{IsErrAnd, Result, Ok, Err}
use Rattle.std.specs.Ordering.{match_ordering}
use Rattle.std.specs.Cmp.Lexicographic.{slice_cmp}
use Rattle.judge_summary.specs.Counts.{AreCounts, Counts, add, add_all, count_limit, count_of, fits}
use Rattle.judge_summary.specs.Views.{numbered_view}
use Rattle.judge_summary.specs.declared.fault.LineFault.{LineFault}
use Rattle.judge_summary.proofs.CountFacts.{count_add, counts_add, if_same, over_limit, same_counts, absent, itself, same_text}

-- how often numbers count the text
abbrev pub sum_of : List ℕ → Counts → ℕ
sum_of q [] = 0
sum_of q ((text, n) ∷ more) = if_same q text n 0 + sum_of q more

pub count_all : (q : List ℕ) (more counts : Counts)
    → count_of q (add_all more counts) ≡ count_of q counts + sum_of q more
count_all q [] counts = omega arith
count_all q ((text, n) ∷ more) counts =
    let rest = count_all q more (add text n counts) in
    let one = count_add q text n counts in
    rest ∙ omega (arith, one)

pub counts_all : (more counts : Counts) → AreCounts counts → AreCounts (add_all more counts)
counts_all [] counts are = are
counts_all ((text, n) ∷ more) counts are = counts_all more (add text n counts) (counts_add text n counts are)

pub sum_same : (q : List ℕ) (counts : Counts) → AreCounts counts → sum_of q counts ≡ count_of q counts
sum_same q [] are = refl
sum_same q ((text, n) ∷ counts) are =
    let rest = sum_same q counts are.2 in
    go (slice_cmp nat_cmp q text) refl rest
  where
    go : (o : Ordering) → slice_cmp nat_cmp q text ≡ o → sum_of q counts ≡ count_of q counts
        → match_ordering o 0 n 0 + sum_of q counts ≡ match_ordering o (count_of q counts) n (count_of q counts)
    go Less e rest = omega (arith, rest)
    go Equal e rest =
        let none : count_of q counts ≡ 0 =
        ap (λ t. count_of t counts) (same_text q text e) ∙ absent text counts are.1 in
        omega (arith, rest, none)
    go Greater e rest = omega (arith, rest)

pub count_sum : (q : List ℕ) (a b : Counts) → AreCounts b
    → count_of q (add_all b a) ≡ count_of q a + count_of q b
count_sum q a b are = count_all q b a ∙ ap (λ n. count_of q a + n) (sum_same q b are)

-- ---- laws

pub sums_commute : (a b : Counts) → AreCounts a → AreCounts b → add_all b a ≡ add_all a b
sums_commute a b are other =
    same_counts (add_all b a) (add_all a b) (counts_all b a are) (counts_all a b other) (λ q.
    let one = count_sum q a b other in
    let two = count_sum q b a are in
    omega (arith, one, two))

pub sums_associate : (a b c : Counts) → AreCounts a → AreCounts b → AreCounts c
    → add_all c (add_all b a) ≡ add_all (add_all c b) a
sums_associate a b c are bs cs =
    same_counts (add_all c (add_all b a)) (add_all (add_all c b) a) (counts_all c (add_all b a) (counts_all b a are))
    (counts_all (add_all c b) a are) (λ q.
    let one = count_sum q (add_all b a) c cs in
    let two = count_sum q a b bs in
    let three = count_sum q a (add_all c b) (counts_all c b bs) in
    let four = count_sum q b c cs in
    omega (arith, one, two, three, four))

pub sums_with_none : (a : Counts) → AreCounts a → add_all a [] ≡ a
sums_with_none a are =
    same_counts (add_all a []) a (counts_all a [] tt) are (λ q. count_sum q [] a are ∙ omega arith)

-- numbers that are added to sums
pub added_to_sums : (more a b : Counts) → AreCounts a → AreCounts b
    → add_all more (add_all b a) ≡ add_all (add_all more b) a
added_to_sums more a b are other =
    same_counts (add_all more (add_all b a)) (add_all (add_all more b) a)
    (counts_all more (add_all b a) (counts_all b a are)) (counts_all (add_all more b) a are) (λ q.
    let one = count_all q more (add_all b a) in
    let two = count_sum q a b other in
    let three = count_sum q a (add_all more b) (counts_all more b other) in
    let four = count_all q more b in
    omega (arith, one, two, three, four))

-- ---- the limit

-- one text that is counted too often makes the sums not fit
pub over_at : (text : List ℕ) (n : ℕ) (more counts : Counts) → count_limit < count_of text counts + n
    → fits (add_all ((text, n) ∷ more) counts) ≡ false
over_at text n more counts over =
    let all = count_all text ((text, n) ∷ more) counts in
    over_limit text (add_all ((text, n) ∷ more) counts) (go (slice_cmp nat_cmp text text) (itself text) all)
  where
    go : (o : Ordering) → o ≡ Equal
        → count_of text (add_all ((text, n) ∷ more) counts)
        ≡ count_of text counts + (match_ordering o 0 n 0 + sum_of text more)
        → count_limit < count_of text (add_all ((text, n) ∷ more) counts)
    go Less e all = absurd (cc)
    go Equal e all = omega (arith, all, over)
    go Greater e all = absurd (cc)

-- the same at some place of numbers that are added one after another
pub over_left : (texts : List (String Global × ℕ)) (i : ℕ) (x : String Global × ℕ) (now old : Counts)
    → i < length texts → x ≡ get_or texts i x
    → add_all (numbered_view (drop i texts)) now ≡ add_all (numbered_view texts) old
    → count_limit < count_of (string_bytes x.0) now + x.1
    → fits (add_all (numbered_view texts) old) ≡ false
over_left texts i x now old lt is same over =
    sym (ap fits same)
    ∙ ap (λ left. fits (add_all (numbered_view left) now)) (drop-cons texts i x lt
    ∙ ap (λ y. y ∷ drop (suc i) texts) (sym is))
    ∙ over_at (string_bytes x.0) x.1 (numbered_view (drop (suc i) texts)) now over

-- a fault that is handed on
pub same_fault : {A B : Type 0} (result : Result A LineFault) (fault reported : LineFault)
    → IsErrAnd result (λ e. e ≡ fault) → result ≡ Err reported
    → ◌≡◌ {A = Result B LineFault} (Err fault) (Err reported)
same_fault (Ok x) fault reported is e = absurd is
same_fault (Err f) fault reported is e = cc
