-- No two lawful reports share a text.
use Rattle.std.proofs.Common.{◌≡◌, ℕ, ◌+◌, ◌%◌, ◌^◌, ◌<◌, Bool, true, false, cond, List, [], ◌∷◌, ◌++◌, length, map, refl, sym, ◌∙◌, ap, subst, append_assoc, arith}
use Rattle.std.specs.Prelude.{codes, ◌&&◌, ◌||◌, not, ◌==◌, decimal, flat_map, nat_le}
use Rattle.std.specs.List.{list_all, AllByRecursion, join_with_byte}
use Rattle.std.specs.Str.{bytes_eq}
use Rattle.std.specs.Str.Parse.{digits_value}
use Rattle.std.proofs.lemmas.Fmt.{decimal_is_IsNumeral, decimal_by_steps}
use Rattle.std.proofs.lemmas.Slice.Eq.{bytes_eq-Decides}
use Rattle.std.proofs.lemmas.Bool.Decides.{nat_tests}
use Rattle.std.proofs.lemmas.Bool.{and_parts, not-true}
use Rattle.def_format.specs.Limits.{name_byte_limit}
use Rattle.def_format.specs.Lists.{is_one_of}
use Rattle.def_format.specs.Names.{is_letter, is_in_word, is_word, is_keyword}
use Rattle.def_format.specs.Lines.{onto_first, ended_lines}
use Rattle.def_format.specs.RefusalKinds.{RefusalKind, SpecKind, PredicateKind, StreamsKind, StreamKind, AbsentKind, MatchKind, CycleKind, refusal_kind}
use Rattle.def_format.specs.Reports.{Possibly, Definitely, Answer, NamedPlace, Refusal, Spec, Predicate, Streams, Stream, Absent, Match, Cycle, Report, Judged, Refused, spaced, with_commas, possibly_words, path_text, definitely_words, answer_lines, place_text, refusal_words, report_lines, text_of_lines, report_text, spec_words, predicate_words, stream_words, match_words, Fits, IsName, PossiblyIsLawful, DefinitelyIsLawful, AnswerIsLawful, PlaceIsLawful, RefusalIsLawful, IsLawful, IsReport, IsNoReport}

-- ---- bytes that don't stand in a text

abbrev pub Lacks : ℕ → List ℕ → Type 0
Lacks c bytes = list_all (λ b. not (b == c)) bytes ≡ true

pub all_and : (p q : ℕ → Bool) (bytes : List ℕ) → ((b : ℕ) → p b ≡ true → q b ≡ true) → list_all p bytes ≡ true
    → list_all q bytes ≡ true
all_and p q [] imp h = refl
all_and p q (x ∷ bytes) imp h =
    let parts = and_parts (p x) (list_all p bytes) h in
    rw (imp x parts.0, all_and p q bytes imp parts.1) refl

pub all-append : (p : ℕ → Bool) (xs ys : List ℕ) → list_all p xs ≡ true → list_all p ys ≡ true
    → list_all p (xs ++ ys) ≡ true
all-append p [] ys h k = k
all-append p (x ∷ xs) ys h k =
    let parts = and_parts (p x) (list_all p xs) h in
    rw (parts.0, all-append p xs ys parts.1 k) refl

pub all-join : (p : ℕ → Bool) (c : ℕ) (ws : List (List ℕ)) → p c ≡ true → AllByRecursion (λ w. list_all p w ≡ true) ws
    → list_all p (join_with_byte c ws) ≡ true
all-join p c [] h k = refl
all-join p c (w ∷ []) h k = k.0
all-join p c (w ∷ v ∷ ws) h k =
    all-append p w (c ∷ join_with_byte c (v ∷ ws)) k.0 (rw (h, all-join p c (v ∷ ws) h k.1) refl)

pub same_byte : (c : ℕ) → (c == c) ≡ true
same_byte c = grind (arith, nat_tests)

-- ---- taking joined texts apart

pieces : ℕ → List ℕ → List (List ℕ)
pieces c [] = [] ∷ []
pieces c (x ∷ rest) = cond (x == c) ([] ∷ pieces c rest) (onto_first x (pieces c rest))

pieces-word : (c : ℕ) (w rest : List ℕ) → Lacks c w → pieces c (w ++ c ∷ rest) ≡ w ∷ pieces c rest
unfolding pieces
pieces-word c [] rest h = rw (same_byte c) refl
pieces-word c (x ∷ w) rest h =
    let parts = and_parts (not (x == c)) (list_all (λ b. not (b == c)) w) h in
    rw (not-true (x == c) parts.0, pieces-word c w rest parts.1) refl

pieces-last : (c : ℕ) (w : List ℕ) → Lacks c w → pieces c w ≡ w ∷ []
unfolding pieces
pieces-last c [] h = refl
pieces-last c (x ∷ w) h =
    let parts = and_parts (not (x == c)) (list_all (λ b. not (b == c)) w) h in
    rw (not-true (x == c) parts.0, pieces-last c w parts.1) refl

pieces-join : (c : ℕ) (w : List ℕ) (ws : List (List ℕ)) → AllByRecursion (Lacks c) (w ∷ ws)
    → pieces c (join_with_byte c (w ∷ ws)) ≡ w ∷ ws
pieces-join c w [] h = pieces-last c w h.0
pieces-join c w (v ∷ ws) h = pieces-word c w (join_with_byte c (v ∷ ws)) h.0 ∙ ap (λ z. w ∷ z) (pieces-join c v ws h.1)

same_join : (c : ℕ) (w v : List ℕ) (ws vs : List (List ℕ)) → AllByRecursion (Lacks c) (w ∷ ws)
    → AllByRecursion (Lacks c) (v ∷ vs) → join_with_byte c (w ∷ ws) ≡ join_with_byte c (v ∷ vs) → w ∷ ws ≡ v ∷ vs
same_join c w v ws vs h k e = sym (pieces-join c w ws h) ∙ ap (pieces c) e ∙ pieces-join c v vs k

pub ended_line : (w rest : List ℕ) → Lacks 10 w → ended_lines (w ++ 10 ∷ rest) ≡ w ∷ ended_lines rest
ended_line [] rest h = refl
ended_line (x ∷ w) rest h =
    let parts = and_parts (not (x == 10)) (list_all (λ b. not (b == 10)) w) h in
    rw (not-true (x == 10) parts.0, ended_line w rest parts.1) refl

pub lines_of_text : (lines : List (List ℕ)) → AllByRecursion (Lacks 10) lines → ended_lines (text_of_lines lines)
    ≡ lines
lines_of_text [] h = refl
lines_of_text (w ∷ lines) h = ap ended_lines (append_assoc w (10 ∷ []) (text_of_lines lines))
    ∙ ended_line w (text_of_lines lines) h.0 ∙ ap (λ z. w ∷ z) (lines_of_text lines h.1)

-- ---- what the words of a report are made of

-- letters, digits, `_`, `#`, `,` and `-`
abbrev pub is_plain : ℕ → Bool
is_plain b = is_in_word b || (b == 35 || (b == 44 || b == 45))

abbrev pub Plain : List ℕ → Type 0
Plain w = list_all is_plain w ≡ true

abbrev pub InWord : List ℕ → Type 0
InWord w = list_all is_in_word w ≡ true

pub plain_lacks : (c : ℕ) → is_plain c ≡ false → (w : List ℕ) → Plain w → Lacks c w
plain_lacks c none w h = all_and is_plain (λ b. not (b == c)) w (λ b k. go b k (b == c) refl) h
  where
    go : (b : ℕ) → is_plain b ≡ true → (t : Bool) → (b == c) ≡ t → not (b == c) ≡ true
    go b k true e = absurd (let same : b ≡ c = grind (arith, nat_tests) in let bad = rw same at k in cc)
    go b k false e = rw e refl

pub in_word_lacks : (c : ℕ) → is_in_word c ≡ false → (w : List ℕ) → InWord w → Lacks c w
in_word_lacks c none w h = all_and is_in_word (λ b. not (b == c)) w (λ b k. go b k (b == c) refl) h
  where
    go : (b : ℕ) → is_in_word b ≡ true → (t : Bool) → (b == c) ≡ t → not (b == c) ≡ true
    go b k true e = absurd (let same : b ≡ c = grind (arith, nat_tests) in let bad = rw same at k in cc)
    go b k false e = rw e refl

pub plain_of_word : (w : List ℕ) → InWord w → Plain w
plain_of_word w h = all_and is_in_word is_plain w (λ b k. rw k refl) h

-- names, numbers and fixed words
pub name_in_word : (name : List ℕ) → IsName name → InWord name
name_in_word [] h = refl
name_in_word (x ∷ rest) h =
    let word =
    (and_parts (is_word (x ∷ rest)) (nat_le (length (x ∷ rest)) name_byte_limit)
    (and_parts (is_word (x ∷ rest) && nat_le (length (x ∷ rest)) name_byte_limit) (not (is_keyword (x ∷ rest)))
    h).0).0 in
    let parts = and_parts (is_letter x) (list_all is_in_word rest) word in
    rw (parts.0, parts.1) refl

pub digit_in_word : (b : ℕ) → b < 10 → is_in_word (48 + b) ≡ true
digit_in_word b h = grind (arith, nat_tests)

pub decimal_in_word : (n : ℕ) → n < 2 ^ 64 → InWord (decimal n)
decimal_in_word n h =
    decimal_by_steps (λ m ds. list_all is_in_word ds ≡ true) (λ m k. rw (digit_in_word m k) refl)
    (λ m ds k e. all-append is_in_word ds ((48 + m % 10) ∷ []) e (rw (digit_in_word (m % 10) (omega arith)) refl)) n h

pub one_decimal : (n m : ℕ) → n < 2 ^ 64 → m < 2 ^ 64 → decimal n ≡ decimal m → n ≡ m
one_decimal n m h k e = sym (decimal_is_IsNumeral n h).1 ∙ ap (digits_value 10) e ∙ (decimal_is_IsNumeral m k).1

pub one_of : (P : List ℕ → Type 0) (ws : List (List ℕ)) (w : List ℕ) → AllByRecursion P ws → is_one_of ws w ≡ true → P w
one_of P [] w h e = absurd (cc)
one_of P (v ∷ ws) w h e = go (one_of P ws w h.1) (bytes_eq w v) refl
  where
    go : (is_one_of ws w ≡ true → P w) → (b : Bool) → bytes_eq w v ≡ b → P w
    go ih true f = subst P (sym ((bytes_eq-Decides w v).0 f)) h.0
    go ih false f = ih (rw f at e)

word_of_list : (ws : List (List ℕ)) (w : List ℕ) → AllByRecursion InWord ws → is_one_of ws w ≡ true → InWord w
word_of_list ws w h e = one_of InWord ws w h e

pub spec_word : (w : List ℕ) → is_one_of spec_words w ≡ true → InWord w
spec_word w e = word_of_list spec_words w
    (refl, (refl, (refl, (refl, (refl, (refl, (refl, (refl, (refl, (refl, tt)))))))))) e

pub predicate_word : (w : List ℕ) → is_one_of predicate_words w ≡ true → InWord w
predicate_word w e = word_of_list predicate_words w (refl, (refl, (refl, (refl, (refl, (refl, tt)))))) e

pub stream_word : (w : List ℕ) → is_one_of stream_words w ≡ true → InWord w
stream_word w e =
    word_of_list stream_words w (
      refl,
      (
        refl,
        (refl, (refl, (refl, (refl, (refl, (refl, (refl, (refl, (refl, (refl, (refl, tt))))))))))),
      ),
    ) e

pub match_word : (w : List ℕ) → is_one_of match_words w ≡ true → InWord w
match_word w e = word_of_list match_words w (refl, (refl, (refl, (refl, tt)))) e

-- ---- lines of words

pub same_words : (w v : List ℕ) (ws vs : List (List ℕ)) → AllByRecursion Plain (w ∷ ws) → AllByRecursion Plain (v ∷ vs)
    → spaced (w ∷ ws) ≡ spaced (v ∷ vs) → w ∷ ws ≡ v ∷ vs
same_words w v ws vs h k e = same_join 32 w v ws vs (all_lack (w ∷ ws) h) (all_lack (v ∷ vs) k) e
  where
    all_lack : (xs : List (List ℕ)) → AllByRecursion Plain xs → AllByRecursion (Lacks 32) xs
    all_lack [] h = tt
    all_lack (x ∷ xs) h = (plain_lacks 32 refl x h.0, all_lack xs h.1)

pub line_lacks : (ws : List (List ℕ)) → AllByRecursion Plain ws → Lacks 10 (spaced ws)
line_lacks ws h = all-join (λ b. not (b == 10)) 32 ws refl (all_lack ws h)
  where
    all_lack : (xs : List (List ℕ)) → AllByRecursion Plain xs → AllByRecursion (Lacks 10) xs
    all_lack [] h = tt
    all_lack (x ∷ xs) h = (plain_lacks 10 refl x h.0, all_lack xs h.1)

-- ---- lists with commas

pub decimals_lack : (ns : List ℕ) → AllByRecursion Fits ns → AllByRecursion (Lacks 44) (map decimal ns)
decimals_lack [] h = tt
decimals_lack (n ∷ ns) h = (in_word_lacks 44 refl (decimal n) (decimal_in_word n h.0), decimals_lack ns h.1)

pub decimals_plain : (ns : List ℕ) → AllByRecursion Fits ns → AllByRecursion Plain (map decimal ns)
decimals_plain [] h = tt
decimals_plain (n ∷ ns) h = (plain_of_word (decimal n) (decimal_in_word n h.0), decimals_plain ns h.1)

same_decimals : (ns ms : List ℕ) → AllByRecursion Fits ns → AllByRecursion Fits ms → map decimal ns ≡ map decimal ms
    → ns ≡ ms
same_decimals [] [] h k e = refl
same_decimals [] (m ∷ ms) h k e = absurd (cc)
same_decimals (n ∷ ns) [] h k e = absurd (cc)
same_decimals (n ∷ ns) (m ∷ ms) h k e =
    let first : decimal n ≡ decimal m = cc in
    let rest : map decimal ns ≡ map decimal ms = cc in
    rw (one_decimal n m h.0 k.0 first, same_decimals ns ms h.1 k.1 rest) refl

same_counts : (ns ms : List ℕ) → 0 < length ns → 0 < length ms → AllByRecursion Fits ns → AllByRecursion Fits ms
    → with_commas (map decimal ns) ≡ with_commas (map decimal ms) → ns ≡ ms
same_counts [] ms p q h k e = absurd (omega arith)
same_counts (n ∷ ns) [] p q h k e = absurd (omega arith)
same_counts (n ∷ ns) (m ∷ ms) p q h k e =
    same_decimals (n ∷ ns) (m ∷ ms) h k (same_join 44 (decimal n) (decimal m) (map decimal ns) (map decimal ms)
    (decimals_lack (n ∷ ns) h) (decimals_lack (m ∷ ms) k) e)

pub names_lack : (ns : List (List ℕ)) → AllByRecursion IsName ns → AllByRecursion (Lacks 44) ns
names_lack [] h = tt
names_lack (n ∷ ns) h = (in_word_lacks 44 refl n (name_in_word n h.0), names_lack ns h.1)

pub names_plain : (ns : List (List ℕ)) → AllByRecursion IsName ns → AllByRecursion Plain ns
names_plain [] h = tt
names_plain (n ∷ ns) h = (plain_of_word n (name_in_word n h.0), names_plain ns h.1)

-- the path `-` is no list of names
pub no_dash : (ns : List (List ℕ)) (n : List ℕ) → IsName n → 45 ∷ [] ≡ with_commas (n ∷ ns) → ⊥
no_dash ns [] h e = cc
no_dash [] (x ∷ n) h e = let first : x ≡ 45 = cc in let bad = rw first at h in cc
no_dash (m ∷ ns) (x ∷ n) h e = let first : x ≡ 45 = cc in let bad = rw first at h in cc

same_path : (ns ms : List (List ℕ)) → AllByRecursion IsName ns → AllByRecursion IsName ms → path_text ns ≡ path_text ms
    → ns ≡ ms
same_path [] [] h k e = refl
same_path [] (m ∷ ms) h k e = absurd (no_dash ms m k.0 e)
same_path (n ∷ ns) [] h k e = absurd (no_dash ns n h.0 (sym e))
same_path (n ∷ ns) (m ∷ ms) h k e = same_join 44 n m ns ms (names_lack (n ∷ ns) h) (names_lack (m ∷ ms) k) e

pub path_plain : (ns : List (List ℕ)) → AllByRecursion IsName ns → Plain (path_text ns)
path_plain [] h = refl
path_plain (n ∷ ns) h = all-join is_plain 44 (n ∷ ns) refl (names_plain (n ∷ ns) h)

-- ---- places

pub place_plain : (p : NamedPlace) → PlaceIsLawful p → Plain (place_text p)
place_plain p h =
    all-append is_plain p.name (35 ∷ decimal p.number) (plain_of_word p.name (name_in_word p.name h.0))
    (rw (plain_of_word (decimal p.number) (decimal_in_word p.number h.1)) refl)

same_place : (p q : NamedPlace) → PlaceIsLawful p → PlaceIsLawful q → place_text p ≡ place_text q → p ≡ q
same_place p q h k e =
    let name : p.name ≡ q.name = cc parts in
    let number : decimal p.number ≡ decimal q.number = cc parts in
    let same : p.number ≡ q.number = one_decimal p.number q.number h.1 k.1 number in
    λ i. record { name = name i; number = same i }
  where
    apart : (r : NamedPlace) → PlaceIsLawful r → pieces 35 (place_text r) ≡ r.name ∷ decimal r.number ∷ []
    apart r l = pieces-word 35 r.name (decimal r.number) (in_word_lacks 35 refl r.name (name_in_word r.name l.0))
        ∙ ap (λ z. r.name ∷ z) (pieces-last 35 (decimal r.number)
        (in_word_lacks 35 refl (decimal r.number) (decimal_in_word r.number l.1)))

    parts : p.name ∷ decimal p.number ∷ [] ≡ q.name ∷ decimal q.number ∷ []
    parts = sym (apart p h) ∙ ap (pieces 35) e ∙ apart q k

pub places_lack : (ps : List NamedPlace) → AllByRecursion PlaceIsLawful ps
    → AllByRecursion (Lacks 44) (map place_text ps)
places_lack [] h = tt
places_lack (p ∷ ps) h = (
  all-append (λ b. not (b == 44)) p.name (35 ∷ decimal p.number)
      (in_word_lacks 44 refl p.name (name_in_word p.name h.0.0))
      (rw (in_word_lacks 44 refl (decimal p.number) (decimal_in_word p.number h.0.1)) refl),
  places_lack ps h.1,
)

pub places_plain : (ps : List NamedPlace) → AllByRecursion PlaceIsLawful ps → AllByRecursion Plain (map place_text ps)
places_plain [] h = tt
places_plain (p ∷ ps) h = (place_plain p h.0, places_plain ps h.1)

same_place_list : (ps qs : List NamedPlace) → AllByRecursion PlaceIsLawful ps → AllByRecursion PlaceIsLawful qs
    → map place_text ps ≡ map place_text qs → ps ≡ qs
same_place_list [] [] h k e = refl
same_place_list [] (q ∷ qs) h k e = absurd (cc)
same_place_list (p ∷ ps) [] h k e = absurd (cc)
same_place_list (p ∷ ps) (q ∷ qs) h k e =
    let first : place_text p ≡ place_text q = cc in
    let rest : map place_text ps ≡ map place_text qs = cc in
    rw (same_place p q h.0 k.0 first, same_place_list ps qs h.1 k.1 rest) refl

same_cycle : (ps qs : List NamedPlace) → 0 < length ps → 0 < length qs → AllByRecursion PlaceIsLawful ps
    → AllByRecursion PlaceIsLawful qs → with_commas (map place_text ps) ≡ with_commas (map place_text qs) → ps ≡ qs
same_cycle [] qs a b h k e = absurd (omega arith)
same_cycle (p ∷ ps) [] a b h k e = absurd (omega arith)
same_cycle (p ∷ ps) (q ∷ qs) a b h k e =
    same_place_list (p ∷ ps) (q ∷ qs) h k
    (same_join 44 (place_text p) (place_text q) (map place_text ps) (map place_text qs) (places_lack (p ∷ ps) h)
    (places_lack (q ∷ qs) k) e)

-- ---- answers

abbrev pub first_byte : List (List ℕ) → ℕ
first_byte [] = 0
first_byte ([] ∷ ws) = 0
first_byte ((x ∷ w) ∷ ws) = x

pub possibly_plain : (p : Possibly) → PossiblyIsLawful p → AllByRecursion Plain (possibly_words p)
possibly_plain (Possibly.Yes counts) h =
    (refl, (all-join is_plain 44 (map decimal counts) refl (decimals_plain counts h.1), tt))
possibly_plain Possibly.No h = (refl, tt)
possibly_plain (Possibly.Unknown level) h = (refl, (plain_of_word (decimal level) (decimal_in_word level h), tt))

same_possibly : (p q : Possibly) → PossiblyIsLawful p → PossiblyIsLawful q → possibly_words p ≡ possibly_words q → p ≡ q
same_possibly (Possibly.Yes ns) (Possibly.Yes ms) h k e =
    ap (λ z. Possibly.Yes z) (same_counts ns ms h.0 k.0 h.1 k.1 (cc))
same_possibly Possibly.No Possibly.No h k e = refl
same_possibly (Possibly.Unknown n) (Possibly.Unknown m) h k e = ap (λ z. Possibly.Unknown z) (one_decimal n m h k (cc))
same_possibly (Possibly.Yes ns) Possibly.No h k e =
    absurd (let b : ◌≡◌ {A = ℕ} 121 110 = ap first_byte e in omega arith)
same_possibly (Possibly.Yes ns) (Possibly.Unknown m) h k e =
    absurd (let b : ◌≡◌ {A = ℕ} 121 117 = ap first_byte e in omega arith)
same_possibly Possibly.No (Possibly.Yes ms) h k e =
    absurd (let b : ◌≡◌ {A = ℕ} 110 121 = ap first_byte e in omega arith)
same_possibly Possibly.No (Possibly.Unknown m) h k e =
    absurd (let b : ◌≡◌ {A = ℕ} 110 117 = ap first_byte e in omega arith)
same_possibly (Possibly.Unknown n) (Possibly.Yes ms) h k e =
    absurd (let b : ◌≡◌ {A = ℕ} 117 121 = ap first_byte e in omega arith)
same_possibly (Possibly.Unknown n) Possibly.No h k e =
    absurd (let b : ◌≡◌ {A = ℕ} 117 110 = ap first_byte e in omega arith)

pub definitely_plain : (p : Definitely) → DefinitelyIsLawful p → AllByRecursion Plain (definitely_words p)
definitely_plain (Definitely.Yes level) h = (refl, (plain_of_word (decimal level) (decimal_in_word level h), tt))
definitely_plain (Definitely.No path) h = (refl, (path_plain path h, tt))
definitely_plain (Definitely.Unknown level) h = (refl, (plain_of_word (decimal level) (decimal_in_word level h), tt))

same_definitely : (p q : Definitely) → DefinitelyIsLawful p → DefinitelyIsLawful q
    → definitely_words p ≡ definitely_words q → p ≡ q
same_definitely (Definitely.Yes n) (Definitely.Yes m) h k e = ap (λ z. Definitely.Yes z) (one_decimal n m h k (cc))
same_definitely (Definitely.No ns) (Definitely.No ms) h k e = ap (λ z. Definitely.No z) (same_path ns ms h k (cc))
same_definitely (Definitely.Unknown n) (Definitely.Unknown m) h k e =
    ap (λ z. Definitely.Unknown z) (one_decimal n m h k (cc))
same_definitely (Definitely.Yes n) (Definitely.No ms) h k e =
    absurd (let b : ◌≡◌ {A = ℕ} 121 110 = ap first_byte e in omega arith)
same_definitely (Definitely.Yes n) (Definitely.Unknown m) h k e =
    absurd (let b : ◌≡◌ {A = ℕ} 121 117 = ap first_byte e in omega arith)
same_definitely (Definitely.No ns) (Definitely.Yes m) h k e =
    absurd (let b : ◌≡◌ {A = ℕ} 110 121 = ap first_byte e in omega arith)
same_definitely (Definitely.No ns) (Definitely.Unknown m) h k e =
    absurd (let b : ◌≡◌ {A = ℕ} 110 117 = ap first_byte e in omega arith)
same_definitely (Definitely.Unknown n) (Definitely.Yes m) h k e =
    absurd (let b : ◌≡◌ {A = ℕ} 117 121 = ap first_byte e in omega arith)
same_definitely (Definitely.Unknown n) (Definitely.No ms) h k e =
    absurd (let b : ◌≡◌ {A = ℕ} 117 110 = ap first_byte e in omega arith)

pub name_plain : (n : List ℕ) → IsName n → Plain n
name_plain n h = plain_of_word n (name_in_word n h)

pub possibly_line : (a : Answer) → AnswerIsLawful a
    → AllByRecursion Plain (a.name ∷ codes "possibly" ∷ possibly_words a.possibly)
possibly_line a h = (name_plain a.name h.0, (refl, possibly_plain a.possibly h.1))

pub definitely_line : (a : Answer) → AnswerIsLawful a
    → AllByRecursion Plain (a.name ∷ codes "definitely" ∷ definitely_words a.definitely)
definitely_line a h = (name_plain a.name h.0, (refl, definitely_plain a.definitely h.2))

same_answer : (a b : Answer) → AnswerIsLawful a → AnswerIsLawful b → answer_lines a ≡ answer_lines b → a ≡ b
same_answer a b h k e =
    let one : spaced (a.name ∷ codes "possibly" ∷ possibly_words a.possibly)
    ≡ spaced (b.name ∷ codes "possibly" ∷ possibly_words b.possibly) = cc in
    let two : spaced (a.name ∷ codes "definitely" ∷ definitely_words a.definitely)
    ≡ spaced (b.name ∷ codes "definitely" ∷ definitely_words b.definitely) = cc in
    let first =
    same_words a.name b.name (codes "possibly" ∷ possibly_words a.possibly) (codes "possibly"
    ∷ possibly_words b.possibly) (possibly_line a h) (possibly_line b k) one in
    let second =
    same_words a.name b.name (codes "definitely" ∷ definitely_words a.definitely) (codes "definitely"
    ∷ definitely_words b.definitely) (definitely_line a h) (definitely_line b k) two in
    let name : a.name ≡ b.name = cc in
    let ps : possibly_words a.possibly ≡ possibly_words b.possibly = cc in
    let ds : definitely_words a.definitely ≡ definitely_words b.definitely = cc in
    let p = same_possibly a.possibly b.possibly h.1 k.1 ps in
    let d = same_definitely a.definitely b.definitely h.2 k.2 ds in
    λ i. record { name = name i; possibly = p i; definitely = d i }

pub answers_lack : (xs : List Answer) → AllByRecursion AnswerIsLawful xs
    → AllByRecursion (Lacks 10) (flat_map answer_lines xs)
answers_lack [] h = tt
answers_lack (a ∷ xs) h = (
  line_lacks (a.name ∷ codes "possibly" ∷ possibly_words a.possibly) (possibly_line a h.0),
  (
    line_lacks (a.name ∷ codes "definitely" ∷ definitely_words a.definitely) (definitely_line a h.0),
    answers_lack xs h.1,
  ),
)

same_answers : (xs ys : List Answer) → AllByRecursion AnswerIsLawful xs → AllByRecursion AnswerIsLawful ys
    → flat_map answer_lines xs ≡ flat_map answer_lines ys → xs ≡ ys
same_answers [] [] h k e = refl
same_answers [] (y ∷ ys) h k e = absurd (cc)
same_answers (x ∷ xs) [] h k e = absurd (cc)
same_answers (x ∷ xs) (y ∷ ys) h k e =
    let one : spaced (x.name ∷ codes "possibly" ∷ possibly_words x.possibly)
    ≡ spaced (y.name ∷ codes "possibly" ∷ possibly_words y.possibly) = cc in
    let two : spaced (x.name ∷ codes "definitely" ∷ definitely_words x.definitely)
    ≡ spaced (y.name ∷ codes "definitely" ∷ definitely_words y.definitely) = cc in
    let rest : flat_map answer_lines xs ≡ flat_map answer_lines ys = cc in
    rw (same_answer x y h.0 k.0 (rw (one, two) refl), same_answers xs ys h.1 k.1 rest) refl

-- ---- refusals

-- the kind of refusal that begins with this word
abbrev pub kind_of_word : List ℕ → RefusalKind
kind_of_word w =
    cond (bytes_eq w (codes "spec")) SpecKind (cond (bytes_eq w (codes "predicate")) PredicateKind
    (cond (bytes_eq w (codes "streams")) StreamsKind (cond (bytes_eq w (codes "stream")) StreamKind
    (cond (bytes_eq w (codes "absent")) AbsentKind (cond (is_one_of match_words w) MatchKind CycleKind)))))

abbrev pub head_word : List (List ℕ) → List ℕ
head_word [] = []
head_word (w ∷ ws) = w

pub kind_is : (r : Refusal) → RefusalIsLawful r → kind_of_word (head_word (refusal_words r)) ≡ refusal_kind r
kind_is (Spec word) h = refl
kind_is (Predicate number word at) h = refl
kind_is Streams h = refl
kind_is (Stream stream line word) h = refl
kind_is (Absent name) h = refl
kind_is (Match word place) h =
    one_of (λ w. kind_of_word w ≡ MatchKind) match_words word (refl, (refl, (refl, (refl, tt)))) h.0
kind_is (Cycle places) h = refl

pub number_plain : (n : ℕ) → Fits n → Plain (decimal n)
number_plain n h = plain_of_word (decimal n) (decimal_in_word n h)

pub refusal_plain : (r : Refusal) → RefusalIsLawful r → AllByRecursion Plain (refusal_words r)
refusal_plain (Spec word) h = (refl, (plain_of_word word (spec_word word h), tt))
refusal_plain (Predicate number word at) h =
    (refl, (number_plain number h.1, (plain_of_word word (predicate_word word h.2), (refl, (number_plain at h.3, tt)))))
refusal_plain Streams h = (refl, tt)
refusal_plain (Stream stream line word) h =
    (refl, (number_plain stream h.0, (refl, (number_plain line h.1, (plain_of_word word (stream_word word h.2), tt)))))
refusal_plain (Absent name) h = (refl, (name_plain name h, tt))
refusal_plain (Match word place) h = (plain_of_word word (match_word word h.0), (place_plain place h.1, tt))
refusal_plain (Cycle places) h =
    (refl, (all-join is_plain 44 (map place_text places) refl (places_plain places h.1), tt))

same_refusal : (r s : Refusal) → RefusalIsLawful r → RefusalIsLawful s → refusal_kind r ≡ refusal_kind s
    → refusal_words r ≡ refusal_words s → r ≡ s
same_refusal (Spec word) (Spec other) h k n e = ap (λ z. Spec z) (cc)
same_refusal (Predicate number word at) (Predicate number' word' at') h k n e =
    let a : decimal number ≡ decimal number' = cc in
    let b : word ≡ word' = cc in
    let c : decimal at ≡ decimal at' = cc in
    rw (one_decimal number number' h.1 k.1 a, b, one_decimal at at' h.3 k.3 c) refl
same_refusal Streams Streams h k n e = refl
same_refusal (Stream stream line word) (Stream stream' line' word') h k n e =
    let a : decimal stream ≡ decimal stream' = cc in
    let b : decimal line ≡ decimal line' = cc in
    let c : word ≡ word' = cc in
    rw (one_decimal stream stream' h.0 k.0 a, one_decimal line line' h.1 k.1 b, c) refl
same_refusal (Absent name) (Absent other) h k n e = ap (λ z. Absent z) (cc)
same_refusal (Match word place) (Match word' place') h k n e =
    let a : word ≡ word' = cc in
    let b : place_text place ≡ place_text place' = cc in
    rw (a, same_place place place' h.1 k.1 b) refl
same_refusal (Cycle places) (Cycle places') h k n e =
    let a : with_commas (map place_text places) ≡ with_commas (map place_text places') = cc in
    ap (λ z. Cycle z) (same_cycle places places' h.0 k.0 h.1 k.1 a)
same_refusal _ _ h k n e = absurd (cc)

-- ---- reports

abbrev pub session_rest : ℕ → ℕ → ℕ → List (List ℕ)
session_rest p e m = decimal p ∷ codes "processes" ∷ decimal e ∷ codes "events" ∷ decimal m ∷ codes "messages" ∷ []

pub session_line : (p e m : ℕ) → Fits p → Fits e → Fits m → AllByRecursion Plain (codes "session" ∷ session_rest p e m)
session_line p e m h k l =
    (refl, (number_plain p h, (refl, (number_plain e k, (refl, (number_plain m l, (refl, tt)))))))

pub refused_line : (r : Refusal) → RefusalIsLawful r → AllByRecursion Plain (codes "refused" ∷ refusal_words r)
refused_line r h = (refl, refusal_plain r h)

pub lines_lack : (r : Report) → IsLawful r → AllByRecursion (Lacks 10) (report_lines r)
lines_lack (Judged p e m answers) h =
    (line_lacks (codes "session" ∷ session_rest p e m) (session_line p e m h.0 h.1 h.2), answers_lack answers h.5)
lines_lack (Refused r) h = (line_lacks (codes "refused" ∷ refusal_words r) (refused_line r h), tt)

same_lines : (r s : Report) → IsLawful r → IsLawful s → report_lines r ≡ report_lines s → r ≡ s
same_lines (Judged p e m xs) (Judged p' e' m' ys) h k q =
    let line : spaced (codes "session" ∷ session_rest p e m) ≡ spaced (codes "session" ∷ session_rest p' e' m') = cc in
    let rest : flat_map answer_lines xs ≡ flat_map answer_lines ys = cc in
    let words =
    same_words (codes "session") (codes "session") (session_rest p e m) (session_rest p' e' m')
    (session_line p e m h.0 h.1 h.2) (session_line p' e' m' k.0 k.1 k.2) line in
    let a : decimal p ≡ decimal p' = cc in
    let b : decimal e ≡ decimal e' = cc in
    let c : decimal m ≡ decimal m' = cc in
    rw (
      one_decimal p p' h.0 k.0 a,
      one_decimal e e' h.1 k.1 b,
      one_decimal m m' h.2 k.2 c,
      same_answers xs ys h.5 k.5 rest,
    ) refl
same_lines (Refused r) (Refused s) h k q =
    let line : spaced (codes "refused" ∷ refusal_words r) ≡ spaced (codes "refused" ∷ refusal_words s) = cc in
    let words =
    same_words (codes "refused") (codes "refused") (refusal_words r) (refusal_words s) (refused_line r h)
    (refused_line s k) line in
    let rest : refusal_words r ≡ refusal_words s = cc in
    ap (λ z. Refused z) (same_refusal r s h k (sym (kind_is r h) ∙ ap (λ z. kind_of_word (head_word z)) rest
    ∙ kind_is s k) rest)
same_lines (Judged p e m xs) (Refused s) h k q = absurd (differ p e m xs s k h (cc))
  where
    differ : (p e m : ℕ) (xs : List Answer) (s : Refusal) → RefusalIsLawful s → IsLawful (Judged p e m xs)
        → spaced (codes "session" ∷ session_rest p e m) ≡ spaced (codes "refused" ∷ refusal_words s) → ⊥
    differ p e m xs s k h line =
        let words =
        same_words (codes "session") (codes "refused") (session_rest p e m) (refusal_words s)
        (session_line p e m h.0 h.1 h.2) (refused_line s k) line in
        let b : ◌≡◌ {A = ℕ} 115 114 = ap first_byte words in omega arith
same_lines (Refused r) (Judged p e m ys) h k q = absurd (differ p e m ys r h k (cc))
  where
    differ : (p e m : ℕ) (xs : List Answer) (s : Refusal) → RefusalIsLawful s → IsLawful (Judged p e m xs)
        → spaced (codes "refused" ∷ refusal_words s) ≡ spaced (codes "session" ∷ session_rest p e m) → ⊥
    differ p e m xs s k h line =
        let words =
        same_words (codes "refused") (codes "session") (refusal_words s) (session_rest p e m) (refused_line s k)
        (session_line p e m h.0 h.1 h.2) line in
        let b : ◌≡◌ {A = ℕ} 114 115 = ap first_byte words in omega arith

pub one_report_lem : (r s : Report) → IsLawful r → IsLawful s → report_text r ≡ report_text s → r ≡ s
one_report_lem r s h k e =
    same_lines r s h k (sym (lines_of_text (report_lines r) (lines_lack r h)) ∙ ap ended_lines e
    ∙ lines_of_text (report_lines s) (lines_lack s k))

pub one_report_of_bytes : (bytes : List ℕ) (r s : Report) → IsReport bytes r → IsReport bytes s → r ≡ s
one_report_of_bytes bytes r s h k = one_report_lem r s h.0 k.0 (sym h.1 ∙ k.1)

pub stops_at_one_line_lem : (bytes : List ℕ) (line other : ℕ) → IsNoReport bytes line → IsNoReport bytes other
    → line ≡ other
stops_at_one_line_lem bytes line other h k =
    let not_below : ¬ (line < other) = λ below. h.here (k.before line below) in
    let not_above : ¬ (other < line) = λ above. k.here (h.before other above) in
    omega arith
