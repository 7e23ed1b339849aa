-- Parts that are written one after another.
use Rattle.std.proofs.Common.{◌≡◌, ℕ, List, ◌++◌, ap, ◌∙◌, append_assoc}

pub three_parts : (o p q r a b c : List ℕ) → p ≡ o ++ a → q ≡ p ++ b → r ≡ q ++ c → r ≡ o ++ (a ++ b ++ c)
three_parts o p q r a b c first second third =
    third ∙ ap (λ out. out ++ c) (second ∙ ap (λ out. out ++ b) first) ∙ simp append_assoc

pub five_parts : (o p q r s t a b c d e : List ℕ) → p ≡ o ++ a → q ≡ p ++ b → r ≡ q ++ c → s ≡ r ++ d → t ≡ s ++ e
    → t ≡ o ++ (a ++ b ++ c ++ d ++ e)
five_parts o p q r s t a b c d e first second third fourth fifth =
    fifth
    ∙ ap (λ out. out ++ e) (fourth ∙ ap (λ out. out ++ d) (three_parts o p q r a b c first second third))
    ∙ simp append_assoc

pub six_parts : (o p q r s t u a b c d e f : List ℕ) → p ≡ o ++ a → q ≡ p ++ b → r ≡ q ++ c → s ≡ r ++ d → t ≡ s ++ e
    → u ≡ t ++ f → u ≡ o ++ (a ++ b ++ c ++ d ++ e ++ f)
six_parts o p q r s t u a b c d e f first second third fourth fifth sixth =
    sixth
    ∙ ap (λ out. out ++ f) (five_parts o p q r s t a b c d e first second third fourth fifth)
    ∙ simp append_assoc

pub seven_parts : (o p q r s t u v a b c d e f g : List ℕ) → p ≡ o ++ a → q ≡ p ++ b → r ≡ q ++ c → s ≡ r ++ d
    → t ≡ s ++ e → u ≡ t ++ f → v ≡ u ++ g → v ≡ o ++ (a ++ b ++ c ++ d ++ e ++ f ++ g)
seven_parts o p q r s t u v a b c d e f g first second third fourth fifth sixth seventh =
    seventh
    ∙ ap (λ out. out ++ g) (sixth
    ∙ ap (λ out. out ++ f) (five_parts o p q r s t a b c d e first second third fourth fifth))
    ∙ simp append_assoc
