-- Texts that stand twice in a list, and the set of those seen so far.
use Rattle.std.proofs.Common.{◌≡◌, ℕ, suc, ◌+◌, ◌<◌, List, [], ◌∷◌, ◌++◌, Bool, true, false, Bor, Ordering, Less, Equal, Greater, nat_cmp, is_eq, length, get_or, take, drop, map, refl, sym, ap, ◌∙◌, drop-cons, true≢false}
use Rattle.std.specs.Prelude.{◌||◌, not}
use Rattle.std.specs.Str.{bytes_eq}
use Rattle.std.specs.List.{list_any}
use Rattle.std.specs.Ordering.{match_ordering}
use Rattle.std.specs.Cmp.Lexicographic.{slice_cmp}
use Rattle.std.specs.BTreeSet.{insert_key}
use Rattle.std.proofs.Math.Bool.{or_assoc, or_comm}
use Rattle.std.proofs.lemmas.Bool.{false_from_ne_true}
use Rattle.std.proofs.lemmas.List.{map-append, take-append-drop, take_more}
use Rattle.std.proofs.lemmas.List.Folds.{list_any-append}
use Rattle.std.proofs.lemmas.Map.Text.{is_eq-slice_cmp}
use Rattle.std.proofs.lemmas.Slice.Eq.{bytes_eq-Decides}
use Rattle.def_format.specs.Documents.{has_twice}
use Rattle.def_format.specs.Lists.{is_one_of}

abbrev pub texts_of : List (Bor (List ℕ)) → List (List ℕ)
texts_of texts = map (λ (text : Bor (List ℕ)). text.now) texts

-- the text is among the keys of the set
abbrev pub has_key : List ℕ → List (Bor (List ℕ)) → Bool
has_key text keys = list_any (λ (key : Bor (List ℕ)). is_eq (slice_cmp nat_cmp text key.now)) keys

flip_true : (x y : List ℕ) → bytes_eq x y ≡ true → bytes_eq y x ≡ true
flip_true x y e = (bytes_eq-Decides y x).1 (sym ((bytes_eq-Decides x y).0 e))

flip_false : (x y : List ℕ) → bytes_eq y x ≡ false → bytes_eq x y ≡ false
flip_false x y e = false_from_ne_true (bytes_eq x y) (λ t. true≢false (sym (flip_true x y t) ∙ e))

or_false : (a b : Bool) → (a || b) ≡ false → (a ≡ false) × (b ≡ false)
or_false true b e = absurd (true≢false e)
or_false false b e = (refl, e)

or_last : (a : Bool) → (a || true) ≡ true
or_last true = refl
or_last false = refl

-- one text more, which was not there
pub has_twice-push : (texts : List (List ℕ)) (text : List ℕ) → has_twice texts ≡ false → is_one_of texts text ≡ false
    → has_twice (texts ++ text ∷ []) ≡ false
has_twice-push [] text once new = refl
has_twice-push (first ∷ texts) text once new =
    let parts = or_false (is_one_of texts first) (has_twice texts) once in
    let others = or_false (bytes_eq text first) (is_one_of texts text) new in
    rw (
      list_any-append (λ other. bytes_eq first other) texts (text ∷ []),
      parts.0,
      flip_false first text others.0,
      has_twice-push texts text parts.1 others.1,
    ) refl

is_one_of-there : (texts : List (List ℕ)) (text first : List ℕ) (others : List (List ℕ)) → bytes_eq first text ≡ true
    → is_one_of (texts ++ text ∷ others) first ≡ true
is_one_of-there texts text first others e =
    rw (list_any-append (λ other. bytes_eq first other) texts (text ∷ others), e) (or_last (is_one_of texts first))

-- a text that was there already
pub has_twice-found : (texts : List (List ℕ)) (text : List ℕ) (others : List (List ℕ)) → is_one_of texts text ≡ true
    → has_twice (texts ++ text ∷ others) ≡ true
has_twice-found [] text others found = absurd (true≢false (sym found))
has_twice-found (first ∷ texts) text others found = go (bytes_eq text first) refl (has_twice-found texts text others)
  where
    go : (b : Bool) → bytes_eq text first ≡ b
        → (is_one_of texts text ≡ true → has_twice (texts ++ text ∷ others) ≡ true)
        → has_twice (first ∷ texts ++ text ∷ others) ≡ true
    go true e later = rw (is_one_of-there texts text first others (flip_true text first e)) refl
    go false e later = rw (later (rw e at found)) (or_last (is_one_of (texts ++ text ∷ others) first))

swap : (a b c : Bool) → (a || (b || c)) ≡ ((a || b) || c)
swap a b c = sym (or_assoc a b c)

found_twice : (a b : Bool) → (a || b) ≡ ((a || b) || a)
found_twice true b = refl
found_twice false true = refl
found_twice false false = refl

same_key : (text : List ℕ) (key first : Bor (List ℕ)) → slice_cmp nat_cmp key.now first.now ≡ Equal
    → is_eq (slice_cmp nat_cmp text key.now) ≡ is_eq (slice_cmp nat_cmp text first.now)
same_key text key first e =
    let same : key.now ≡ first.now =
    (bytes_eq-Decides key.now first.now).0 (sym (is_eq-slice_cmp key.now first.now) ∙ ap is_eq e) in
    ap (λ other. is_eq (slice_cmp nat_cmp text other)) same

-- after an insert the set has what it had, and the key
pub has_key-insert : (text : List ℕ) (keys : List (Bor (List ℕ))) (key : Bor (List ℕ))
    → has_key text (insert_key (λ (x y : Bor (List ℕ)). slice_cmp nat_cmp x.now y.now) keys key)
    ≡ (has_key text keys || is_eq (slice_cmp nat_cmp text key.now))
has_key-insert text [] key = or_comm _ false
has_key-insert text (first ∷ keys) key = go (slice_cmp nat_cmp key.now first.now) refl (has_key-insert text keys key)
  where
    go : (o : Ordering) → slice_cmp nat_cmp key.now first.now ≡ o
        → has_key text (insert_key (λ (x y : Bor (List ℕ)). slice_cmp nat_cmp x.now y.now) keys key)
        ≡ (has_key text keys || is_eq (slice_cmp nat_cmp text key.now))
        → has_key text (match_ordering o (key ∷ first ∷ keys) (first ∷ keys)
        (first ∷ insert_key (λ (x y : Bor (List ℕ)). slice_cmp nat_cmp x.now y.now) keys key))
        ≡ (has_key text (first ∷ keys) || is_eq (slice_cmp nat_cmp text key.now))
    go Less e later = or_comm (is_eq (slice_cmp nat_cmp text key.now)) (has_key text (first ∷ keys))
    go Equal e later =
        rw (same_key text key first e) (found_twice (is_eq (slice_cmp nat_cmp text first.now)) (has_key text keys))
    go Greater e later =
        rw later (swap (is_eq (slice_cmp nat_cmp text first.now)) (has_key text keys)
        (is_eq (slice_cmp nat_cmp text key.now)))

split_here : {A : Type 0} (xs : List A) (i : ℕ) (d : A) → i < length xs → take i xs ++ get_or xs i d ∷ drop (suc i) xs
    ≡ xs
split_here xs i d h = ap (λ rest. take i xs ++ rest) (sym (drop-cons xs i d h)) ∙ take-append-drop i xs

texts_more : (texts : List (Bor (List ℕ))) (i : ℕ) (d : Bor (List ℕ)) → i < length texts
    → texts_of (take (i + 1) texts) ≡ texts_of (take i texts) ++ (get_or texts i d).now ∷ []
texts_more texts i d h = ap texts_of (take_more texts i d h)
    ∙ map-append (λ (text : Bor (List ℕ)). text.now) (take i texts) (get_or texts i d ∷ [])

-- one text more in the set
pub same_more : (texts : List (Bor (List ℕ))) (i : ℕ) (d : Bor (List ℕ)) (old new : List (Bor (List ℕ)))
    → i < length texts
    → ((text : List ℕ) → has_key text old ≡ is_one_of (texts_of (take i texts)) text)
    → new ≡ insert_key (λ (x y : Bor (List ℕ)). slice_cmp nat_cmp x.now y.now) old (get_or texts i d)
    → (text : List ℕ) → has_key text new ≡ is_one_of (texts_of (take (i + 1) texts)) text
same_more texts i d old new h same inserted text =
    rw (
      inserted,
      has_key-insert text old (get_or texts i d),
      same text,
      texts_more texts i d h,
      list_any-append (λ other. bytes_eq text other) (texts_of (take i texts)) ((get_or texts i d).now ∷ []),
      is_eq-slice_cmp text (get_or texts i d).now,
    )
    (ap (λ b. is_one_of (texts_of (take i texts)) text || b) (or_comm false (bytes_eq text (get_or texts i d).now)))

not_true : (b : Bool) → true ≡ not b → b ≡ false
not_true true e = absurd (true≢false e)
not_true false e = refl

not_false : (b : Bool) → false ≡ not b → b ≡ true
not_false true e = refl
not_false false e = absurd (true≢false (sym e))

-- no text stands twice among one more, which the set did not have
pub once_more : (texts : List (Bor (List ℕ))) (i : ℕ) (d : Bor (List ℕ)) (old : List (Bor (List ℕ))) → i < length texts
    → ((text : List ℕ) → has_key text old ≡ is_one_of (texts_of (take i texts)) text)
    → has_twice (texts_of (take i texts)) ≡ false → true ≡ not (has_key (get_or texts i d).now old)
    → has_twice (texts_of (take (i + 1) texts)) ≡ false
once_more texts i d old h same once new =
    rw (texts_more texts i d h) (has_twice-push (texts_of (take i texts)) (get_or texts i d).now once
    (sym (same (get_or texts i d).now) ∙ not_true (has_key (get_or texts i d).now old) new))

-- the set had the text
pub twice_here : (texts : List (Bor (List ℕ))) (i : ℕ) (d : Bor (List ℕ)) (old : List (Bor (List ℕ))) → i < length texts
    → ((text : List ℕ) → has_key text old ≡ is_one_of (texts_of (take i texts)) text)
    → false ≡ not (has_key (get_or texts i d).now old) → has_twice (texts_of texts) ≡ true
twice_here texts i d old h same seen =
    let whole : texts_of texts ≡ texts_of (take i texts) ++ (get_or texts i d).now ∷ texts_of (drop (suc i) texts) =
    ap texts_of (sym (split_here texts i d h))
    ∙ map-append (λ (text : Bor (List ℕ)). text.now) (take i texts) (get_or texts i d ∷ drop (suc i) texts) in
    rw whole (has_twice-found (texts_of (take i texts)) (get_or texts i d).now (texts_of (drop (suc i) texts))
    (sym (same (get_or texts i d).now) ∙ not_false (has_key (get_or texts i d).now old) seen))
