-- What is added one after another.
use Rattle.std.proofs.Common.{◌≡◌, ℕ, suc, ◌+◌, List, ◌++◌, sym, ap, ◌∙◌, arith}
use Rattle.std.proofs.lemmas.List.{append_assoc}
use Rattle.out_picture.specs.Layout.{upto}

pub upto_more : {A : Type 0} (f : ℕ → List A) (n : ℕ) → upto f (n + 1) ≡ upto f n ++ f n
upto_more f n = let next : n + 1 ≡ suc n = omega arith in ap (upto f) next

pub push_more : {A : Type 0} (f : ℕ → List A) (old now after : List A) (n : ℕ) → now ≡ old ++ upto f n
    → after ≡ now ++ f n → after ≡ old ++ upto f (n + 1)
push_more {A = A} f old now after n is added =
    added ∙ (ap (λ (xs : List A). xs ++ f n) is ∙ (append_assoc old (upto f n) (f n)
    ∙ ap (λ (xs : List A). old ++ xs) (sym (upto_more f n))))

-- three parts, one after another
pub three_more : (old first second third one two three : List ℕ) → one ≡ old ++ first → two ≡ one ++ second
    → three ≡ two ++ third → three ≡ old ++ ((first ++ second) ++ third)
three_more old first second third one two three is next last =
    last ∙ (ap (λ (xs : List ℕ). xs ++ third)
    (next ∙ (ap (λ (xs : List ℕ). xs ++ second) is ∙ append_assoc old first second))
    ∙ append_assoc old (first ++ second) third)
