-- Counts as the digits of one number.
use Rattle.std.proofs.Common.{◌≡◌, ℕ, zero, suc, ◌+◌, ◌-◌, ◌*◌, ◌/◌, ◌%◌, ◌^◌, ◌<◌, ◌≤◌, List, [], ◌∷◌, ◌++◌, length, length-append, get_or, set, drop, take, refl, sym, ap, ◌∙◌, subst, inl, inr, ◌⊎◌, arith}
use Rattle.std.proofs.Math.Nat.{pow-suc, pow-zero, mul-le-mul_right, pow-le-pow_right}
use Rattle.std.proofs.lemmas.Bool.{cases_lt, cases_order}
use Rattle.std.proofs.lemmas.List.{get_or_append_left, get_or-append_right, length-set, length-take-le, take_more}
use Rattle.std.proofs.lemmas.Nat.{pow-add, shr-shr, div-add-mod', div-mul-add, mod-mul-add, mod_below, div_below}
use Rattle.def_model.specs.Events.{Computation}
use Rattle.def_model.specs.Cuts.{one_more, empty_cut}
use Rattle.def_model.specs.Answers.{LexBelow}
use Rattle.walk_keys.specs.Keys.{count_base, key_of, digits, AreDigits}
use Rattle.walk_keys.specs.Pairs.{single_limit}

pub weight_pos : (n : ℕ) → 0 < count_base ^ n
weight_pos zero = rw (pow-zero) (omega arith)
weight_pos (suc n) = rw (pow-suc) (let h : 0 < count_base ^ n = weight_pos n in omega arith)

pub length-digits : (n key : ℕ) → length (digits n key) ≡ n
length-digits zero key = refl
length-digits (suc n) key = ap suc (length-digits n (key % count_base ^ n))

pub all_rest : (x : ℕ) (xs : List ℕ) → AreDigits (x ∷ xs) → AreDigits xs
all_rest x xs small k d lt = small (suc k) d (omega arith)

pub all_cons : (x : ℕ) (xs : List ℕ) → x < count_base → AreDigits xs → AreDigits (x ∷ xs)
all_cons x xs lt small zero d in_ = lt
all_cons x xs lt small (suc k) d in_ = small k d (omega arith)

pub key_below : (xs : List ℕ) → AreDigits xs → key_of xs < count_base ^ length xs
key_below [] small = rw (pow-zero) (omega arith)
key_below (x ∷ xs) small =
    let rest : key_of xs < count_base ^ length xs = key_below xs (all_rest x xs small) in
    let here : x < count_base = small 0 0 (omega arith) in
    let most : (x + 1) * count_base ^ length xs ≤ count_base * count_base ^ length xs =
    mul-le-mul_right (count_base ^ length xs) (omega arith) in
    rw (pow-suc count_base (length xs)) (omega arith)

pub digits-key : (xs : List ℕ) → AreDigits xs → digits (length xs) (key_of xs) ≡ xs
digits-key [] small = refl
digits-key (x ∷ xs) small =
    let rest : key_of xs < count_base ^ length xs = key_below xs (all_rest x xs small) in
    let high : (x * count_base ^ length xs + key_of xs) / count_base ^ length xs ≡ x =
    div-mul-add x (count_base ^ length xs) (key_of xs) rest in
    let low : (x * count_base ^ length xs + key_of xs) % count_base ^ length xs ≡ key_of xs =
    mod-mul-add x (count_base ^ length xs) (key_of xs) rest in
    rw (high, low) (ap (λ (ys : List ℕ). x ∷ ys) (digits-key xs (all_rest x xs small)))

pub digits_are : (n key : ℕ) → key < count_base ^ n → AreDigits (digits n key)
digits_are zero key lt = λ k d in_. absurd (omega arith)
digits_are (suc n) key lt =
    all_cons (key / count_base ^ n) (digits n (key % count_base ^ n))
    (div_below key (count_base ^ n) count_base (weight_pos n) (let lt' : key < count_base ^ n * count_base =
    rw (pow-suc) at lt in
    omega arith))
    (digits_are n (key % count_base ^ n) (mod_below key (count_base ^ n) (weight_pos n)))

pub key-digits : (n key : ℕ) → key < count_base ^ n → key_of (digits n key) ≡ key
key-digits zero key lt = let lt' : key < 1 = rw (pow-zero) at lt in omega arith
key-digits (suc n) key lt =
    let low : key_of (digits n (key % count_base ^ n)) ≡ key % count_base ^ n =
    key-digits n (key % count_base ^ n) (mod_below key (count_base ^ n) (weight_pos n)) in
    let split : key / count_base ^ n * count_base ^ n + key % count_base ^ n ≡ key =
    div-add-mod' key (count_base ^ n) in
    rw (length-digits n (key % count_base ^ n), low) split

-- the digits of a greater number come later
pub lex-digits : (n j k : ℕ) → k < count_base ^ n → j < k → LexBelow (digits n j) (digits n k)
lex-digits zero j k lt below = let lt' : k < 1 = rw (pow-zero) at lt in absurd (omega arith)
lex-digits (suc n) j k lt below =
    go (lex-digits n (j % count_base ^ n) (k % count_base ^ n) (mod_below k (count_base ^ n) (weight_pos n)))
    (cases_order (j / count_base ^ n) (k / count_base ^ n))
  where
    go : (j % count_base ^ n < k % count_base ^ n
        → LexBelow (digits n (j % count_base ^ n)) (digits n (k % count_base ^ n)))
        → (j / count_base ^ n ≡ k / count_base ^ n)
        ⊎ ((j / count_base ^ n < k / count_base ^ n) ⊎ (k / count_base ^ n < j / count_base ^ n))
        → LexBelow (digits (suc n) j) (digits (suc n) k)
    go later (inl same) =
        let split : j / count_base ^ n * count_base ^ n + j % count_base ^ n ≡ j = div-add-mod' j (count_base ^ n) in
        let other : k / count_base ^ n * count_base ^ n + k % count_base ^ n ≡ k = div-add-mod' k (count_base ^ n) in
        let high : j / count_base ^ n * count_base ^ n ≡ k / count_base ^ n * count_base ^ n =
        ap (λ q. q * count_base ^ n) same in
        inr (same, later (omega arith))
    go later (inr (inl less)) = inl less
    go later (inr (inr more)) =
        let split : j / count_base ^ n * count_base ^ n + j % count_base ^ n ≡ j = div-add-mod' j (count_base ^ n) in
        let other : k / count_base ^ n * count_base ^ n + k % count_base ^ n ≡ k = div-add-mod' k (count_base ^ n) in
        let small : k % count_base ^ n < count_base ^ n = mod_below k (count_base ^ n) (weight_pos n) in
        let high : (k / count_base ^ n + 1) * count_base ^ n ≤ j / count_base ^ n * count_base ^ n =
        mul-le-mul_right (count_base ^ n) (omega arith) in
        absurd (omega arith)

-- one more of one count adds the weight of its digit
pub key_one_more : (xs : List ℕ) (p : ℕ) → p < length xs
    → key_of (one_more xs p) ≡ key_of xs + count_base ^ (length xs - 1 - p)
key_one_more [] p lt = absurd (omega arith)
key_one_more (x ∷ xs) zero lt =
    let at : length (x ∷ xs) - 1 - 0 ≡ length xs = omega arith in
    rw at (omega arith)
key_one_more (x ∷ xs) (suc p) lt =
    let at : length (x ∷ xs) - 1 - suc p ≡ length xs - 1 - p = omega arith in
    let rest : key_of (one_more xs p) ≡ key_of xs + count_base ^ (length xs - 1 - p) =
    key_one_more xs p (omega arith) in
    let same : length (one_more xs p) ≡ length xs = length-set xs p (get_or xs p 0 + 1) in
    rw (at, same, rest) (omega arith)

-- one more digit at the low end
pub key_push : (xs : List ℕ) (x : ℕ) → key_of (xs ++ x ∷ []) ≡ key_of xs * count_base + x
key_push [] x = rw (pow-zero) (omega arith)
key_push (y ∷ xs) x =
    let more : length (xs ++ x ∷ []) ≡ suc (length xs) = length-append xs (x ∷ []) ∙ omega arith in
    let rest : key_of (xs ++ x ∷ []) ≡ key_of xs * count_base + x = key_push xs x in
    rw (more, rest, pow-suc count_base (length xs)) (omega arith)

pub digits_push : (xs : List ℕ) (x : ℕ) → AreDigits xs → x < count_base → AreDigits (xs ++ x ∷ [])
digits_push [] x small lt = all_cons x [] lt (λ k d in_. absurd (omega arith))
digits_push (y ∷ xs) x small lt =
    all_cons y (xs ++ x ∷ []) (small 0 0 (omega arith)) (digits_push xs x (all_rest y xs small) lt)

-- the lowest digit stands at the end
pub low_digit : (n key : ℕ) → key < count_base ^ suc n → digits (suc n) key ≡ digits n (key / count_base)
    ++ (key % count_base) ∷ []
low_digit n key lt =
    let lt' : key < count_base ^ n * count_base = rw (pow-suc) at lt in
    let high : key / count_base < count_base ^ n = div_below key count_base (count_base ^ n) (omega arith) lt' in
    let low : key % count_base < count_base = mod_below key count_base (omega arith) in
    let small : AreDigits (digits n (key / count_base) ++ (key % count_base) ∷ []) =
    digits_push (digits n (key / count_base)) (key % count_base) (digits_are n (key / count_base) high) low in
    let many : length (digits n (key / count_base) ++ (key % count_base) ∷ []) ≡ suc n =
    length-append (digits n (key / count_base)) ((key % count_base) ∷ [])
    ∙ omega (arith, length-digits n (key / count_base)) in
    let whole : key_of (digits n (key / count_base) ++ (key % count_base) ∷ []) ≡ key =
    key_push (digits n (key / count_base)) (key % count_base)
    ∙ (rw (key-digits n (key / count_base) high) (div-add-mod' key count_base)) in
    let back : digits (length (digits n (key / count_base) ++ (key % count_base) ∷ []))
    (key_of (digits n (key / count_base) ++ (key % count_base) ∷ [])) ≡ digits n (key / count_base)
    ++ (key % count_base) ∷ [] =
    digits-key (digits n (key / count_base) ++ (key % count_base) ∷ []) small in
    sym (ap (λ (m : ℕ). digits m key) many)
    ∙ (sym (ap (λ (k : ℕ). digits (length (digits n (key / count_base) ++ (key % count_base) ∷ [])) k) whole) ∙ back)

-- what is after a place that is written
pub drop-take-set : (xs : List ℕ) (p n v : ℕ) → p < n → p < length xs
    → drop p (take n (set xs p v)) ≡ v ∷ drop (suc p) (take n xs)
drop-take-set [] p n v lt in_ = absurd (omega arith)
drop-take-set (x ∷ xs) p zero v lt in_ = absurd (omega arith)
drop-take-set (x ∷ xs) zero (suc n) v lt in_ = refl
drop-take-set (x ∷ xs) (suc p) (suc n) v lt in_ = drop-take-set xs p n v (omega arith) (omega arith)

pub get_or_same : (xs : List ℕ) (k d e : ℕ) → k < length xs → get_or xs k d ≡ get_or xs k e
get_or_same [] k d e lt = absurd (omega arith)
get_or_same (x ∷ xs) zero d e lt = refl
get_or_same (x ∷ xs) (suc k) d e lt = get_or_same xs k d e (omega arith)

-- the digits of 0 are the empty cut
pub digits-empty : (c : Computation) → digits (length c) 0 ≡ empty_cut c
digits-empty [] = refl
digits-empty (events ∷ c) =
    let none : 0 * count_base ^ length c + 0 ≡ 0 = omega arith in
    let high : 0 / count_base ^ length c ≡ 0 =
    rw none at (div-mul-add 0 (count_base ^ length c) 0 (weight_pos (length c))) in
    let low : 0 % count_base ^ length c ≡ 0 =
    rw none at (mod-mul-add 0 (count_base ^ length c) 0 (weight_pos (length c))) in
    rw (high, low) (ap (λ (xs : List ℕ). 0 ∷ xs) (digits-empty c))

pub weight_le : (i j : ℕ) → i ≤ j → count_base ^ i ≤ count_base ^ j
weight_le i j le = let pos : 0 < count_base = omega arith in pow-le-pow_right pos le

-- there is room for one more digit
pub key_room : (counts : List ℕ) (i : ℕ) → i < length counts → length counts ≤ single_limit → AreDigits (take i counts)
    → key_of (take i counts) < count_base ^ (single_limit - 1)
key_room counts i lt few small =
    let many : length (take i counts) ≡ i = length-take-le i counts (omega arith) in
    let below : key_of (take i counts) < count_base ^ length (take i counts) = key_below (take i counts) small in
    let below_i : key_of (take i counts) < count_base ^ i =
    subst (λ (n : ℕ). key_of (take i counts) < count_base ^ n) many below in
    let most : count_base ^ i ≤ count_base ^ (single_limit - 1) = weight_le i (single_limit - 1) (omega arith) in
    omega arith

pub pack_more : (counts : List ℕ) (i : ℕ) → i < length counts → get_or counts i 0 < count_base
    → AreDigits (take i counts)
    → AreDigits (take (i + 1) counts)
pack_more counts i lt digit small =
    rw (take_more counts i 0 lt) (digits_push (take i counts) (get_or counts i 0) small (omega arith))

pub key_more : (counts : List ℕ) (i : ℕ) → i < length counts
    → key_of (take (i + 1) counts) ≡ key_of (take i counts) * count_base + get_or counts i 0
key_more counts i lt = rw (take_more counts i 0 lt) (key_push (take i counts) (get_or counts i 0))

-- one more event of a process adds its weight to the number of a cut
pub more_is : (n key p : ℕ) → p < n → key < count_base ^ n → key_of (one_more (digits n key) p)
    ≡ key + count_base ^ (n - 1 - p)
more_is n key p within below =
    let many : length (digits n key) ≡ n = length-digits n key in
    let step : key_of (one_more (digits n key) p) ≡ key_of (digits n key)
    + count_base ^ (length (digits n key) - 1 - p) =
    key_one_more (digits n key) p (omega arith) in
    step ∙ rw (many, key-digits n key below) refl

-- the base is 2 ^ 16
pub weight_two : (i : ℕ) → count_base ^ i ≡ 2 ^ (16 * i)
weight_two zero = refl
weight_two (suc i) =
    let next : 16 * suc i ≡ 16 * i + 16 = omega arith in
    rw (next, pow-suc count_base i, pow-add 2 (16 * i) 16, weight_two i) (omega arith)

-- a digit is read by a shift
pub digit_at : (n key p : ℕ) → p < n → key < count_base ^ n
    → get_or (digits n key) p 0 ≡ key / 2 ^ (16 * (n - 1 - p)) % count_base
digit_at zero key p within below = absurd (omega arith)
digit_at (suc n) key p within below =
    ap (λ (counts : List ℕ). get_or counts p 0) (low_digit n key below)
    ∙ go (digit_at n (key / count_base) p) (cases_lt p n)
  where
    many : length (digits n (key / count_base)) ≡ n
    many = length-digits n (key / count_base)

    go : (p < n → key / count_base < count_base ^ n → get_or (digits n (key / count_base)) p 0
        ≡ key / count_base / 2 ^ (16 * (n - 1 - p)) % count_base) → (p < n) ⊎ (n ≤ p)
        → get_or (digits n (key / count_base) ++ (key % count_base) ∷ []) p 0
        ≡ key / 2 ^ (16 * (suc n - 1 - p)) % count_base
    go higher (inl lt) =
        let lt' : key < count_base ^ n * count_base = rw (pow-suc) at below in
        let rest : get_or (digits n (key / count_base)) p 0 ≡ key / count_base / 2 ^ (16 * (n - 1 - p)) % count_base =
        higher lt (div_below key count_base (count_base ^ n) (omega arith) lt') in
        let shifts : 16 + 16 * (n - 1 - p) ≡ 16 * (suc n - 1 - p) = omega arith in
        let both : key / count_base / 2 ^ (16 * (n - 1 - p)) ≡ key / 2 ^ (16 + 16 * (n - 1 - p)) =
        shr-shr key 16 (16 * (n - 1 - p)) in
        get_or_append_left (digits n (key / count_base)) ((key % count_base) ∷ []) 0 p (rw many lt)
        ∙ (rest ∙ (ap (λ (m : ℕ). m % count_base) both ∙ ap (λ (k : ℕ). key / 2 ^ k % count_base) shifts))
    go higher (inr le) =
        let none : p - n ≡ 0 = omega arith in
        let shift : 16 * (suc n - 1 - p) ≡ 0 = omega arith in
        let whole : key / 2 ^ 0 ≡ key = omega arith in
        rw shift (get_or-append_right (digits n (key / count_base)) ((key % count_base) ∷ []) n p 0 many le
        ∙ (ap (λ (k : ℕ). get_or ((key % count_base) ∷ []) k 0) none ∙ ap (λ (m : ℕ). m % count_base) (sym whole)))
