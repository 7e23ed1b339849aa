-- Digits, as the lexer sees them.
use Rattle.std.proofs.Common.{◌≡◌, ◌⊎◌, inl, inr, ℕ, zero, suc, ◌-◌, ◌<◌, Bool, true, false, not, ◌&&◌, ◌||◌, ◌==◌, nat_lt, List, [], ◌∷◌, refl, arith}
use Rattle.std.proofs.lemmas.Bool.{and_parts, cases_order, eqb-true, leb-true, ltb-true}
use Rattle.std.specs.Char.{digit_value, is_ascii_digit}
use Rattle.std.specs.List.{list_all}
use Rattle.std.specs.Str.Parse.{AllDigits}
use Rattle.json.specs.Lex.{Class, quote, backslash, operator, space, other, class}

-- a fact of each number below n, by computation
abbrev pub each_below : (ℕ → Bool) → ℕ → Bool
each_below p zero = true
each_below p (suc n) = p n && each_below p n

below_next : (p : ℕ → Bool) (n i : ℕ) → p n ≡ true → (i < n → p i ≡ true) → i < suc n
    → (i ≡ n) ⊎ ((i < n) ⊎ (n < i)) → p i ≡ true
below_next p n i here rest lt (inl e) = rw e here
below_next p n i here rest lt (inr (inl l)) = rest l
below_next p n i here rest lt (inr (inr g)) = absurd (omega arith)

pub below : (p : ℕ → Bool) (n : ℕ) → each_below p n ≡ true → (i : ℕ) → i < n → p i ≡ true
below p zero h i lt = absurd (omega arith)
below p (suc n) h i lt =
    let both = and_parts (p n) (each_below p n) h in
    below_next p n i both.0 (below p n both.1 i) lt (cases_order i n)

implied : (a b : Bool) → (not a || b) ≡ true → a ≡ true → b ≡ true
implied true b h e = h
implied false b h e = absurd (cc)

by_digits : (p : ℕ → Bool) → each_below (λ x. not (is_ascii_digit x) || p x) 58 ≡ true → (x : ℕ)
    → is_ascii_digit x ≡ true → p x ≡ true
by_digits p h x e =
    implied (is_ascii_digit x) (p x)
    (below (λ y. not (is_ascii_digit y) || p y) 58 h x (omega (arith, leb-true x 57 (and_parts _ _ e).1))) e

abbrev is_other : Class → Bool
is_other quote = false
is_other backslash = false
is_other operator = false
is_other space = false
is_other other = true

is_other_is : (c : Class) → is_other c ≡ true → c ≡ other
is_other_is quote e = absurd (cc)
is_other_is backslash e = absurd (cc)
is_other_is operator e = absurd (cc)
is_other_is space e = absurd (cc)
is_other_is other e = cc

pub digit_class : (x : ℕ) → is_ascii_digit x ≡ true → class x ≡ other
digit_class x e = is_other_is (class x) (by_digits (λ y. is_other (class y)) refl x e)

-- a digit is none of the bytes with which other words begin
abbrev is_odd : ℕ → Bool
is_odd x = not (x == 45) && (not (x == 116) && (not (x == 102) && not (x == 110)))

not_true : (b : Bool) → not b ≡ true → b ≡ false
not_true true e = absurd (cc)
not_true false e = cc

pub record NoOtherWord (x : ℕ) : Type 0 where
  pub no_minus : (x == 45) ≡ false
  pub no_true : (x == 116) ≡ false
  pub no_false : (x == 102) ≡ false
  pub no_null : (x == 110) ≡ false

pub no_other_word : (x : ℕ) → is_ascii_digit x ≡ true → NoOtherWord x
no_other_word x e =
    let first = and_parts _ _ (by_digits is_odd refl x e) in
    let second = and_parts _ _ first.1 in
    let third = and_parts _ _ second.1 in record {
      no_minus = not_true _ first.0;
      no_true = not_true _ second.0;
      no_false = not_true _ third.0;
      no_null = not_true _ third.1;
    }

pub digits_are : (digits : List ℕ) → list_all is_ascii_digit digits ≡ true → AllDigits 10 digits
digits_are [] all = tt
digits_are (x ∷ digits) all =
    let both = and_parts _ _ all in
    (ltb-true (digit_value x) 10 (by_digits (λ y. nat_lt (digit_value y) 10) refl x both.0), digits_are digits both.1)

worth_tested : (x : ℕ) → is_ascii_digit x ≡ true → (digit_value x == x - 48) ≡ true
worth_tested x e = by_digits (λ y. digit_value y == y - 48) refl x e

pub digit_worth : (x : ℕ) → is_ascii_digit x ≡ true → digit_value x ≡ x - 48
digit_worth x e = eqb-true _ _ (worth_tested x e)

pub digit_small : (x : ℕ) → is_ascii_digit x ≡ true → x < 58
digit_small x e = omega (arith, leb-true x 57 (and_parts _ _ e).1)
