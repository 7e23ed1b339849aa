-- What is counted after more is counted, and that counts are told apart by how often each text is counted.
use Rattle.std.proofs.Common.{◌≡◌, ◌<◌, ◌≤◌, ◌+◌, ℕ, Bool, true, false, List, [], ◌∷◌, Ordering, Less, Equal, Greater, nat_cmp, refl, sym, ap, ◌∙◌, subst, arith}
use Rattle.std.specs.Prelude.{◌==◌, ◌&&◌, nat_le, if◌then◌else◌}
use Rattle.std.specs.Ordering.{match_ordering, ordering_reverse}
use Rattle.std.specs.Cmp.Lexicographic.{slice_cmp}
use Rattle.std.proofs.lemmas.Cmp.{nat_list_cmp_total, tied_itself}
use Rattle.std.proofs.lemmas.Map.Lookups.{exact_bytes}
use Rattle.std.proofs.lemmas.Bool.{eqb-true}
use Rattle.std.proofs.lemmas.Bool.Decides.{nat_tests}
use Rattle.judge_summary.specs.Counts.{AreCounts, Counts, IsBefore, add, count_limit, count_of, fits, put_count}

-- ---- byte order

pub same_text : (a b : List ℕ) → slice_cmp nat_cmp a b ≡ Equal → a ≡ b
same_text a b e = exact_bytes a b e

pub itself : (a : List ℕ) → slice_cmp nat_cmp a a ≡ Equal
itself a = tied_itself nat_list_cmp_total a

turned : (a b : List ℕ) (o : Ordering) → slice_cmp nat_cmp a b ≡ o → slice_cmp nat_cmp b a ≡ ordering_reverse o
turned a b o e = nat_list_cmp_total.antisymm b a ∙ ap ordering_reverse e

before_fewer : (text other : List ℕ) (counts : Counts) → slice_cmp nat_cmp text other ≡ Less → IsBefore other counts
    → IsBefore text counts
before_fewer text other [] less before = tt
before_fewer text other ((third, n) ∷ counts) less before =
    (nat_list_cmp_total.trans text other third less before.0, before_fewer text other counts less before.1)

-- ---- one text more

before_put : (text other : List ℕ) (n : ℕ) (counts : Counts) → slice_cmp nat_cmp text other ≡ Less
    → IsBefore text counts → IsBefore text (put_count other n counts)
before_put text other n [] less before = (less, tt)
before_put text other n ((third, m) ∷ counts) less before =
    go (slice_cmp nat_cmp other third) (before_put text other n counts less before.1)
  where
    go : (o : Ordering) → IsBefore text (put_count other n counts)
        → IsBefore text (match_ordering o ((other, n) ∷ (third, m) ∷ counts) ((third, n) ∷ counts)
        ((third, m) ∷ put_count other n counts))
    go Less rest = (less, before)
    go Equal rest = before
    go Greater rest = (before.0, rest)

pub counts_put : (text : List ℕ) (n : ℕ) (counts : Counts) → 0 < n → AreCounts counts
    → AreCounts (put_count text n counts)
counts_put text n [] some are = (some, tt, tt)
counts_put text n ((other, m) ∷ counts) some are =
    go (slice_cmp nat_cmp text other) refl (counts_put text n counts some are.2)
  where
    go : (o : Ordering) → slice_cmp nat_cmp text other ≡ o → AreCounts (put_count text n counts)
        → AreCounts (match_ordering o ((text, n) ∷ (other, m) ∷ counts) ((other, n) ∷ counts)
        ((other, m) ∷ put_count text n counts))
    go Less e rest = (some, (e, before_fewer text other counts e are.1), are)
    go Equal e rest = (some, are.1, are.2)
    go Greater e rest = (are.0, before_put other text n counts (turned text other Greater e) are.1, rest)

pub counts_add : (text : List ℕ) (n : ℕ) (counts : Counts) → AreCounts counts → AreCounts (add text n counts)
counts_add text n counts are = go (n == 0) refl
  where
    go : (b : Bool) → (n == 0) ≡ b
        → AreCounts (if b then counts else put_count text (count_of text counts + n) counts)
    go true e = are
    go false e = counts_put text (count_of text counts + n) counts (grind (arith, nat_tests)) are

-- how often a text is counted that may be this one
abbrev pub if_same : (q text : List ℕ) → ℕ → ℕ → ℕ
if_same q text n m = match_ordering (slice_cmp nat_cmp q text) m n m

count_put : (q text : List ℕ) (n : ℕ) (counts : Counts)
    → count_of q (put_count text n counts) ≡ if_same q text n (count_of q counts)
count_put q text n [] = refl
count_put q text n ((other, m) ∷ counts) =
    go (slice_cmp nat_cmp text other) refl (count_put q text n counts)
  where
    c : ℕ
    c = count_of q counts

    twice : (o : Ordering) → match_ordering o c n c
        ≡ match_ordering o (match_ordering o c m c) n (match_ordering o c m c)
    twice Less = refl
    twice Equal = refl
    twice Greater = refl

    apart : (o p : Ordering) → slice_cmp nat_cmp q text ≡ o → slice_cmp nat_cmp q other ≡ p
        → slice_cmp nat_cmp text other ≡ Greater
        → match_ordering p (match_ordering o c n c) m (match_ordering o c n c)
        ≡ match_ordering o (match_ordering p c m c) n (match_ordering p c m c)
    apart Equal Equal e f greater =
        absurd (let same : slice_cmp nat_cmp text other ≡ Equal =
        subst (λ (t : List ℕ). slice_cmp nat_cmp t other ≡ Equal) (same_text q text e) f in
        let no = sym same ∙ greater in cc)
    apart Equal Less e f greater = refl
    apart Equal Greater e f greater = refl
    apart Less Equal e f greater = refl
    apart Less Less e f greater = refl
    apart Less Greater e f greater = refl
    apart Greater Equal e f greater = refl
    apart Greater Less e f greater = refl
    apart Greater Greater e f greater = refl

    go : (o : Ordering) → slice_cmp nat_cmp text other ≡ o
        → count_of q (put_count text n counts) ≡ if_same q text n (count_of q counts)
        → count_of q (match_ordering o ((text, n) ∷ (other, m) ∷ counts) ((other, n) ∷ counts)
        ((other, m) ∷ put_count text n counts))
        ≡ if_same q text n (count_of q ((other, m) ∷ counts))
    go Less e ih = refl
    go Equal e ih = rw (same_text text other e) (twice (slice_cmp nat_cmp q other))
    go Greater e ih = rw ih (apart (slice_cmp nat_cmp q text) (slice_cmp nat_cmp q other) refl refl e)

pub count_add : (q text : List ℕ) (n : ℕ) (counts : Counts)
    → count_of q (add text n counts) ≡ count_of q counts + if_same q text n 0
count_add q text n counts = go (n == 0) refl
  where
    none : (o : Ordering) → n ≡ 0 → count_of q counts ≡ count_of q counts + match_ordering o 0 n 0
    none Less e = omega arith
    none Equal e = omega (arith, e)
    none Greater e = omega arith

    more : (o : Ordering) → slice_cmp nat_cmp q text ≡ o
        → match_ordering o (count_of q counts) (count_of text counts + n) (count_of q counts)
        ≡ count_of q counts + match_ordering o 0 n 0
    more Less e = omega arith
    more Equal e = ap (λ t. count_of t counts + n) (sym (same_text q text e))
    more Greater e = omega arith

    go : (b : Bool) → (n == 0) ≡ b
        → count_of q (if b then counts else put_count text (count_of text counts + n) counts)
        ≡ count_of q counts + if_same q text n 0
    go true e = none (slice_cmp nat_cmp q text) (eqb-true n 0 e)
    go false e = count_put q text (count_of text counts + n) counts ∙ more (slice_cmp nat_cmp q text) refl

-- ---- what is not counted

pub absent : (text : List ℕ) (counts : Counts) → IsBefore text counts → count_of text counts ≡ 0
absent text [] before = refl
absent text ((other, n) ∷ counts) before = rw before.0 (absent text counts before.1)

pub at_head : (text : List ℕ) (n : ℕ) (counts : Counts) → count_of text ((text, n) ∷ counts) ≡ n
at_head text n counts = rw (itself text) refl

-- counts are told apart by how often each text is counted
pub same_counts : (a b : Counts) → AreCounts a → AreCounts b → ((q : List ℕ) → count_of q a ≡ count_of q b) → a ≡ b
same_counts [] [] are other same = refl
same_counts [] ((text, n) ∷ b) are other same =
    absurd (let none : 0 ≡ n = same text ∙ at_head text n b in omega (arith, none, other.0))
same_counts ((text, n) ∷ a) [] are other same =
    absurd (let none : n ≡ 0 = sym (at_head text n a) ∙ same text in omega (arith, none, are.0))
same_counts ((text, n) ∷ a) ((key, m) ∷ b) are other same =
    go (slice_cmp nat_cmp text key) refl (same_counts a b are.2 other.2)
  where
    go : (o : Ordering) → slice_cmp nat_cmp text key ≡ o
        → (((q : List ℕ) → count_of q a ≡ count_of q b) → a ≡ b)
        → ◌≡◌ {A = Counts} ((text, n) ∷ a) ((key, m) ∷ b)
    go Less e ih =
        absurd (let none : count_of text ((key, m) ∷ b) ≡ 0 =
        absent text ((key, m) ∷ b) (e, before_fewer text key b e other.1) in
        let no : n ≡ 0 = sym (at_head text n a) ∙ same text ∙ none in omega (arith, no, are.0))
    go Greater e ih =
        absurd (let less : slice_cmp nat_cmp key text ≡ Less = turned text key Greater e in
        let none : count_of key ((text, n) ∷ a) ≡ 0 =
        absent key ((text, n) ∷ a) (less, before_fewer key text a less are.1) in
        let no : m ≡ 0 = sym (at_head key m b) ∙ sym (same key) ∙ none in omega (arith, no, other.0))
    go Equal e ih =
        let is : text ≡ key = same_text text key e in
        let number : n ≡ m =
        sym (at_head text n a) ∙ same text ∙ ap (λ q. count_of q ((key, m) ∷ b)) is ∙ at_head key m b in
        let rest : a ≡ b = ih (λ q. tails q (slice_cmp nat_cmp q text) refl is) in
        cc
      where
        tails : (q : List ℕ) (p : Ordering) → slice_cmp nat_cmp q text ≡ p → text ≡ key
            → count_of q a ≡ count_of q b
        tails q Equal f is =
            let here : q ≡ text = same_text q text f in
            ap (λ t. count_of t a) here ∙ absent text a are.1
            ∙ sym (ap (λ t. count_of t b) (here ∙ is) ∙ absent key b other.1)
        tails q Less f is =
            let g : slice_cmp nat_cmp q key ≡ Less = ap (slice_cmp nat_cmp q) (sym is) ∙ f in
            rw (f, g) at (same q)
        tails q Greater f is =
            let g : slice_cmp nat_cmp q key ≡ Greater = ap (slice_cmp nat_cmp q) (sym is) ∙ f in
            rw (f, g) at (same q)

-- ---- the limit

within : (n : ℕ) → n ≤ count_limit → nat_le n count_limit ≡ true
within n few = grind (arith, nat_tests)

both_true : (a b : Bool) → (a && b) ≡ true → (a ≡ true) × (b ≡ true)
both_true true b e = (refl, e)
both_true false b e = absurd (cc)

pub fits_put : (text : List ℕ) (n : ℕ) (counts : Counts) → n ≤ count_limit → fits counts ≡ true
    → fits (put_count text n counts) ≡ true
fits_put text n [] few fit = rw (within n few) refl
fits_put text n ((other, m) ∷ counts) few fit =
    let both = both_true (nat_le m count_limit) (fits counts) fit in
    go (slice_cmp nat_cmp text other) both (fits_put text n counts few both.1)
  where
    go : (o : Ordering) → (nat_le m count_limit ≡ true) × (fits counts ≡ true)
        → fits (put_count text n counts) ≡ true
        → fits (match_ordering o ((text, n) ∷ (other, m) ∷ counts) ((other, n) ∷ counts)
        ((other, m) ∷ put_count text n counts)) ≡ true
    go Less both ih = rw (within n few, both.0, both.1) refl
    go Equal both ih = rw (within n few, both.1) refl
    go Greater both ih = rw (both.0, ih) refl

few_of : (q : List ℕ) (counts : Counts) → fits counts ≡ true → count_of q counts ≤ count_limit
few_of q [] fit = omega arith
few_of q ((other, m) ∷ counts) fit =
    let both = both_true (nat_le m count_limit) (fits counts) fit in
    go (slice_cmp nat_cmp q other) (few_of q counts both.1) both.0
  where
    go : (o : Ordering) → count_of q counts ≤ count_limit → nat_le m count_limit ≡ true
        → match_ordering o (count_of q counts) m (count_of q counts) ≤ count_limit
    go Less ih e = ih
    go Equal ih e = grind (arith, nat_tests)
    go Greater ih e = ih

pub over_limit : (q : List ℕ) (counts : Counts) → count_limit < count_of q counts → fits counts ≡ false
over_limit q counts over = go (fits counts) refl
  where
    go : (b : Bool) → fits counts ≡ b → b ≡ false
    go true e = absurd (omega (arith, over, few_of q counts e))
    go false e = refl

-- counts that don't fit count some text too often
pub some_over : (counts : Counts) → AreCounts counts → fits counts ≡ false
    → (q : List ℕ) × (count_limit < count_of q counts)
some_over [] are over = absurd (cc)
some_over ((text, n) ∷ counts) are over =
    go (nat_le n count_limit) refl over (some_over counts are.2)
  where
    later : (found : (q : List ℕ) × (count_limit < count_of q counts))
        → (o : Ordering) → slice_cmp nat_cmp found.0 text ≡ o
        → count_limit < match_ordering o (count_of found.0 counts) n (count_of found.0 counts)
    later found Less e = found.1
    later found Greater e = found.1
    later found Equal e =
        absurd (let none : count_of found.0 counts ≡ 0 =
        ap (λ t. count_of t counts) (same_text found.0 text e) ∙ absent text counts are.1 in
        omega (arith, none, found.1))

    go : (b : Bool) → nat_le n count_limit ≡ b → (b && fits counts) ≡ false
        → (fits counts ≡ false → (q : List ℕ) × (count_limit < count_of q counts))
        → (q : List ℕ) × (count_limit < count_of q ((text, n) ∷ counts))
    go true e rest ih =
        let found = ih rest in (found.0, later found (slice_cmp nat_cmp found.0 text) refl)
    go false e rest ih =
        let many : count_limit < n = grind (arith, nat_tests) in
        (text, subst (λ m. count_limit < m) (sym (at_head text n counts)) many)
