-- Digits that are written from the last one on, and those of two halves.
use Rattle.std.proofs.Common.{◌≡◌, ℕ, suc, ◌+◌, ◌-◌, ◌*◌, ◌/◌, ◌%◌, ◌^◌, ◌<◌, ◌≤◌, List, [], ◌∷◌, ◌++◌, length, length-append, set, drop, refl, sym, ap, ◌∙◌, subst, inl, inr, ◌⊎◌, arith}
use Rattle.std.proofs.lemmas.Bool.{cases_lt}
use Rattle.std.proofs.lemmas.List.{append_assoc, drop-set}
use Rattle.walk_keys.specs.Keys.{count_base, key_of, digits}
use Rattle.walk_keys.specs.Pairs.{pair_number, single_limit}
use Rattle.walk_keys.proofs.Keys.{digits-key, digits_are, key-digits, length-digits, low_digit, weight_le}
use Rattle.walk_keys.proofs.PairNumbers.{digits_append, first_below, key_append}

-- the lowest digit of what is left is put before those that are written
pub one_written : (m rest : ℕ) (counts : List ℕ) → m < length counts → rest < count_base ^ suc m
    → digits m (rest / count_base) ++ drop m (set counts m (rest % count_base))
    ≡ digits (suc m) rest ++ drop (suc m) counts
one_written m rest counts within below =
    let next : m + 1 ≡ suc m = omega arith in
    ap (λ (ys : List ℕ). digits m (rest / count_base) ++ ys)
    (drop-set counts m (rest % count_base) within ∙ ap (λ k. (rest % count_base) ∷ drop k counts) next)
    ∙ (sym (append_assoc (digits m (rest / count_base)) ((rest % count_base) ∷ []) (drop (suc m) counts))
    ∙ ap (λ (xs : List ℕ). xs ++ drop (suc m) counts) (sym (low_digit m rest below)))

-- the digits of both halves are those of the number
joined_digits : (m k f s : ℕ) → f < count_base ^ m → s < count_base ^ k
    → digits m f ++ digits k s ≡ digits (m + k) (f * count_base ^ k + s)
joined_digits m k f s first second =
    let many : length (digits m f ++ digits k s) ≡ m + k =
    length-append (digits m f) (digits k s) ∙ omega (arith, length-digits m f, length-digits k s) in
    let whole : key_of (digits m f ++ digits k s) ≡ f * count_base ^ k + s =
    key_append (digits m f) (digits k s)
    ∙ rw (length-digits k s, key-digits m f first, key-digits k s second) refl in
    sym (digits-key (digits m f ++ digits k s)
    (digits_append (digits m f) (digits k s) (digits_are m f first) (digits_are k s second)))
    ∙ (λ i. digits (many i) (whole i))

-- halves of a number of n digits, the first m of which are in the first half
pub record AreHalves (n m f s : ℕ) : Type 0 where
  pub first : f < count_base ^ m
  pub second : s < count_base ^ (n - m)
  pub both : digits m f ++ digits (n - m) s ≡ digits n (pair_number f s)

pub halves : (n m f s : ℕ) → m ≡ n - single_limit → s < count_base ^ single_limit → pair_number f s < count_base ^ n
    → AreHalves n m f s
halves n m f s is small below = go (cases_lt single_limit n)
  where
    go : (single_limit < n) ⊎ (n ≤ single_limit) → AreHalves n m f s
    go (inl lt) =
        let many : n - m ≡ single_limit = omega (arith, is) in
        let whole : m + single_limit ≡ n = omega (arith, is) in
        let first : f < count_base ^ m =
        subst (λ k. f < count_base ^ k) (sym is) (first_below n f s (omega arith) below) in
        record {
          first = first;
          second = subst (λ k. s < count_base ^ k) (sym many) small;
          both = ap (λ k. digits m f ++ digits k s) many
              ∙ (joined_digits m single_limit f s first small ∙ ap (λ k. digits k (pair_number f s)) whole);
        }
    go (inr le) =
        let none : m ≡ 0 = omega (arith, is) in
        let many : n - m ≡ n = omega (arith, none) in
        let most : count_base ^ n ≤ count_base ^ single_limit = weight_le n single_limit le in
        let zero_first : f ≡ 0 = omega (arith, below, most) in
        let same : s ≡ pair_number f s = omega (arith, zero_first) in
        let second : s < count_base ^ n = omega (arith, below, same) in
        record {
          first = rw (none, zero_first) (omega arith);
          second = subst (λ k. s < count_base ^ k) (sym many) second;
          both = (λ i. digits (none i) f ++ digits (many i) s) ∙ ap (digits n) same;
        }
