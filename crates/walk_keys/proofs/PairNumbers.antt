-- The digits of a number in two halves are those of its halves, and their order is that of the numbers.
use Rattle.std.proofs.Common.{◌≡◌, ◌≢◌, ℕ, zero, suc, ◌+◌, ◌-◌, ◌*◌, ◌/◌, ◌%◌, ◌^◌, ◌<◌, ◌≤◌, List, [], ◌∷◌, ◌++◌, length, length-append, get_or, set, take, drop, sym, ap, ◌∙◌, subst, inl, inr, ◌⊎◌, ◌↔◌, arith}
use Rattle.std.proofs.Math.Nat.{mul-le-mul_right}
use Rattle.std.proofs.lemmas.Bool.{cases_lt, cases_order}
use Rattle.std.proofs.lemmas.List.{length-drop, length-set, take-append-drop}
use Rattle.std.proofs.lemmas.Nat.{div-mul-add, mod_below, div-add-mod', pow-add, shr-shr}
use Rattle.def_model.specs.Cuts.{one_more}
use Rattle.walk_keys.specs.Keys.{count_base, key_of, digits, AreDigits}
use Rattle.walk_keys.specs.Pairs.{pair_number, single_limit}
use Rattle.walk_keys.proofs.Keys.{all_cons, all_rest, digit_at, digits_are, key_below, length-digits, more_is, weight_pos, weight_two}

-- ---- one number

-- the digit with this many others after it
pub place_digit : (n key p : ℕ) → p < n → key < count_base ^ n
    → get_or (digits n key) p 0 ≡ key / count_base ^ (n - 1 - p) % count_base
place_digit n key p within below =
    digit_at n key p within below ∙ ap (λ w. key / w % count_base) (sym (weight_two (n - 1 - p)))

-- the same, by how many are after it
digit_before : (n key k : ℕ) → k < n → key < count_base ^ n
    → get_or (digits n key) (n - 1 - k) 0 ≡ key / count_base ^ k % count_base
digit_before n key k within below =
    let places : n - 1 - (n - 1 - k) ≡ k = omega arith in
    place_digit n key (n - 1 - k) (omega arith) below ∙ ap (λ m. key / count_base ^ m % count_base) places

digits_set : (xs : List ℕ) (p v : ℕ) → AreDigits xs → v < count_base → AreDigits (set xs p v)
digits_set [] p v small lt = small
digits_set (x ∷ xs) zero v small lt = all_cons v xs lt (all_rest x xs small)
digits_set (x ∷ xs) (suc p) v small lt =
    all_cons x (set xs p v) (small 0 0 (omega arith)) (digits_set xs p v (all_rest x xs small) lt)

-- one event more still has n digits
pub more_below : (n key p : ℕ) → p < n → key < count_base ^ n → get_or (digits n key) p 0 + 1 < count_base
    → key + count_base ^ (n - 1 - p) < count_base ^ n
more_below n key p within below room =
    let more = get_or (digits n key) p 0 + 1 in
    let many : length (set (digits n key) p more) ≡ n = length-set (digits n key) p more ∙ length-digits n key in
    let lt : key_of (one_more (digits n key) p) < count_base ^ length (set (digits n key) p more) =
    key_below (one_more (digits n key) p) (digits_set (digits n key) p more (digits_are n key below) room) in
    let lt' : key_of (one_more (digits n key) p) < count_base ^ n =
    subst (λ (m : ℕ). key_of (one_more (digits n key) p) < count_base ^ m) many lt in
    let same : key_of (one_more (digits n key) p) ≡ key + count_base ^ (n - 1 - p) = more_is n key p within below in
    subst (λ (k : ℕ). k < count_base ^ n) same lt'

-- there is room for 1 more in a digit that is not the greatest
pub room_before : (n key k : ℕ) → k < n → key < count_base ^ n → key / count_base ^ k % count_base + 1 < count_base
    → key + count_base ^ k < count_base ^ n
room_before n key k within below room =
    let places : n - 1 - (n - 1 - k) ≡ k = omega arith in
    let digit : get_or (digits n key) (n - 1 - k) 0 ≡ key / count_base ^ k % count_base =
    digit_before n key k within below in
    subst (λ m. key + count_base ^ m < count_base ^ n) places
    (more_below n key (n - 1 - k) (omega arith) below (omega arith))

-- a number with a digit that isn't 0 is no less than 1 in that digit
pub some_before : (key k : ℕ) → 0 < key / count_base ^ k % count_base → count_base ^ k ≤ key
some_before key k some = go (cases_lt key (count_base ^ k))
  where
    go : (key < count_base ^ k) ⊎ (count_base ^ k ≤ key) → count_base ^ k ≤ key
    go (inr le) = le
    go (inl lt) =
        let none : 0 * count_base ^ k + key ≡ key = omega arith in
        let high : key / count_base ^ k ≡ 0 =
        sym (ap (λ m. m / count_base ^ k) none) ∙ div-mul-add 0 (count_base ^ k) key lt in
        let digit : key / count_base ^ k % count_base ≡ 0 = ap (λ m. m % count_base) high in
        absurd (omega arith)

-- ---- two halves

-- a digit of the second half
pub low_digit : (f s k : ℕ) → k < single_limit
    → pair_number f s / count_base ^ k % count_base ≡ s / count_base ^ k % count_base
low_digit f s k within =
    let rest : k + suc (single_limit - 1 - k) ≡ single_limit = omega arith in
    let weights : count_base ^ single_limit ≡ count_base ^ k * (count_base ^ (single_limit - 1 - k) * count_base) =
    sym (ap (λ m. count_base ^ m) rest) ∙ pow-add count_base k (suc (single_limit - 1 - k))
    ∙ ap (λ m. count_base ^ k * m) (pow-last (single_limit - 1 - k)) in
    let q = f * count_base ^ (single_limit - 1 - k) in
    let split : s / count_base ^ k * count_base ^ k + s % count_base ^ k ≡ s = div-add-mod' s (count_base ^ k) in
    let whole : pair_number f s ≡ (q * count_base + s / count_base ^ k) * count_base ^ k + s % count_base ^ k =
    ap (λ w. f * w + s) weights ∙ spread f (count_base ^ k) (count_base ^ (single_limit - 1 - k)) s
    (s / count_base ^ k) (s % count_base ^ k) split in
    let high : pair_number f s / count_base ^ k ≡ q * count_base + s / count_base ^ k =
    ap (λ m. m / count_base ^ k) whole ∙ div-mul-add (q * count_base + s / count_base ^ k) (count_base ^ k)
    (s % count_base ^ k) (mod_below s (count_base ^ k) (weight_pos k)) in
    ap (λ m. m % count_base) high ∙ last_digit q (s / count_base ^ k)
  where
    pow-last : (m : ℕ) → count_base ^ suc m ≡ count_base ^ m * count_base
    pow-last m = pow-add-one m
      where
        pow-add-one : (m : ℕ) → count_base ^ suc m ≡ count_base ^ m * count_base
        pow-add-one m = let one : suc m ≡ m + 1 = omega arith in ap (λ k. count_base ^ k) one ∙ pow-add count_base m 1

    spread : (f w v s a b : ℕ) → a * w + b ≡ s
        → f * (w * (v * count_base)) + s ≡ (f * v * count_base + a) * w + b
    spread f w v s a b split =
        let rows : f * (w * (v * count_base)) ≡ f * v * count_base * w = grind arith in
        let parts : (f * v * count_base + a) * w ≡ f * v * count_base * w + a * w = grind arith in
        omega arith

    last_digit : (q m : ℕ) → (q * count_base + m) % count_base ≡ m % count_base
    last_digit q m = omega arith

-- a digit of the first half
pub high_digit : (f s k : ℕ) → single_limit ≤ k → s < count_base ^ single_limit
    → pair_number f s / count_base ^ k % count_base ≡ f / count_base ^ (k - single_limit) % count_base
high_digit f s k late small =
    let rest : 16 * single_limit + 16 * (k - single_limit) ≡ 16 * k = omega arith in
    let first : pair_number f s / count_base ^ single_limit ≡ f = div-mul-add f (count_base ^ single_limit) s small in
    let shifted : pair_number f s / count_base ^ k ≡ f / count_base ^ (k - single_limit) =
    ap (λ w. pair_number f s / w) (weight_two k ∙ sym (ap (λ m. 2 ^ m) rest))
    ∙ (sym (shr-shr (pair_number f s) (16 * single_limit) (16 * (k - single_limit)))
    ∙ (ap (λ m. m / 2 ^ (16 * (k - single_limit))) first
    ∙ ap (λ w. f / w) (sym (weight_two (k - single_limit))))) in
    ap (λ m. m % count_base) shifted

-- 1 in a digit of the first half
pub high_one : (k : ℕ) → single_limit ≤ k
    → count_base ^ (k - single_limit) * count_base ^ single_limit ≡ count_base ^ k
high_one k late =
    let places : k - single_limit + single_limit ≡ k = omega arith in
    sym (pow-add count_base (k - single_limit) single_limit) ∙ ap (λ m. count_base ^ m) places

-- the first half of a number of n digits has those that the second has no room for
pub first_below : (n f s : ℕ) → single_limit ≤ n → pair_number f s < count_base ^ n → f < count_base ^
    (n - single_limit)
first_below n f s many below = go (cases_lt f (count_base ^ (n - single_limit)))
  where
    go : (f < count_base ^ (n - single_limit)) ⊎ (count_base ^ (n - single_limit) ≤ f)
        → f < count_base ^ (n - single_limit)
    go (inl lt) = lt
    go (inr le) =
        let most : count_base ^ (n - single_limit) * count_base ^ single_limit ≤ f * count_base ^ single_limit =
        mul-le-mul_right (count_base ^ single_limit) le in
        let same : count_base ^ (n - single_limit) * count_base ^ single_limit ≡ count_base ^ n = high_one n many in
        absurd (omega arith)

-- ---- counts in two halves

pub key_append : (xs ys : List ℕ) → key_of (xs ++ ys) ≡ key_of xs * count_base ^ length ys + key_of ys
key_append [] ys = omega arith
key_append (x ∷ xs) ys =
    let l : length (xs ++ ys) ≡ length xs + length ys = length-append xs ys in
    let rest : key_of (xs ++ ys) ≡ key_of xs * count_base ^ length ys + key_of ys = key_append xs ys in
    rw (l, pow-add count_base (length xs) (length ys), rest) (grind arith)

pub digits_append : (xs ys : List ℕ) → AreDigits xs → AreDigits ys → AreDigits (xs ++ ys)
digits_append [] ys small also = also
digits_append (x ∷ xs) ys small also =
    all_cons x (xs ++ ys) (small 0 0 (omega arith)) (digits_append xs ys (all_rest x xs small) also)

-- counts whose halves are packed
pub packed_halves : (counts : List ℕ) (m : ℕ) → m ≡ length counts - single_limit → AreDigits (take m counts)
    → AreDigits (drop m counts) → AreDigits counts × (pair_number (key_of (take m counts)) (key_of (drop m counts))
    ≡ key_of counts)
packed_halves counts m is first second = (
  subst AreDigits (take-append-drop m counts) (digits_append (take m counts) (drop m counts) first second),
  go (cases_lt single_limit (length counts)) ∙ ap key_of (take-append-drop m counts),
)
  where
    long : length (drop m counts) ≡ length counts - m
    long = length-drop m counts

    joined : key_of (take m counts ++ drop m counts)
        ≡ key_of (take m counts) * count_base ^ length (drop m counts) + key_of (drop m counts)
    joined = key_append (take m counts) (drop m counts)

    go : (single_limit < length counts) ⊎ (length counts ≤ single_limit)
        → pair_number (key_of (take m counts)) (key_of (drop m counts)) ≡ key_of (take m counts ++ drop m counts)
    go (inl lt) =
        let many : length (drop m counts) ≡ single_limit = omega (arith, is, long) in
        let weights : count_base ^ length (drop m counts) ≡ count_base ^ single_limit =
        ap (λ n. count_base ^ n) many in
        sym (joined ∙ ap (λ w. key_of (take m counts) * w + key_of (drop m counts)) weights)
    go (inr le) =
        let none : m ≡ 0 = omega (arith, is) in
        let zero_first : key_of (take m counts) ≡ 0 = ap (λ k. key_of (take k counts)) none in
        let whole : key_of (take m counts) * count_base ^ length (drop m counts)
        ≡ 0 * count_base ^ length (drop m counts) =
        ap (λ k. k * count_base ^ length (drop m counts)) zero_first in
        omega (arith, joined, zero_first)

-- ---- order

first_less : (a b c d : ℕ) → b < count_base ^ single_limit → a < c → pair_number a b < pair_number c d
first_less a b c d small less =
    let up : (a + 1) * count_base ^ single_limit ≤ c * count_base ^ single_limit =
    mul-le-mul_right (count_base ^ single_limit) (omega arith) in
    omega arith

-- the order of pairs is the order of their numbers
pub pair_order : (a b c d : ℕ) → b < count_base ^ single_limit → d < count_base ^ single_limit → a ≢ c
    → (a < c) ↔ (pair_number a b < pair_number c d)
pair_order a b c d small other apart = (first_less a b c d small, back (cases_order a c))
  where
    back : (a ≡ c) ⊎ ((a < c) ⊎ (c < a)) → pair_number a b < pair_number c d → a < c
    back (inl e) lt = absurd (apart e)
    back (inr (inl less)) lt = less
    back (inr (inr more)) lt =
        let other_way : pair_number c d < pair_number a b = first_less c d a b other more in absurd (omega arith)
