-- Parts that are written one after another.
use Rattle.std.proofs.Common.{◌≡◌, ℕ, List, ◌++◌, sym, ap, ◌∙◌, subst, append_assoc}
use Rattle.std.specs.Prelude.{Option, Some, None, IfSome, option_map}

pub three_parts : (o p q r a b c : List ℕ) → p ≡ o ++ a → q ≡ p ++ b → r ≡ q ++ c → r ≡ o ++ (a ++ b ++ c)
three_parts o p q r a b c first second third =
    third
    ∙ ap (λ out. out ++ c) (second ∙ ap (λ out. out ++ b) first ∙ append_assoc o a b)
    ∙ append_assoc o (a ++ b) c

pub four_parts : (o p q r s a b c d : List ℕ) → p ≡ o ++ a → q ≡ p ++ b → r ≡ q ++ c → s ≡ r ++ d
    → s ≡ o ++ (a ++ b ++ c ++ d)
four_parts o p q r s a b c d first second third fourth =
    fourth ∙ ap (λ out. out ++ d) (three_parts o p q r a b c first second third) ∙ append_assoc o (a ++ b ++ c) d

pub five_parts : (o p q r s t a b c d e : List ℕ) → p ≡ o ++ a → q ≡ p ++ b → r ≡ q ++ c → s ≡ r ++ d → t ≡ s ++ e
    → t ≡ o ++ (a ++ b ++ c ++ d ++ e)
five_parts o p q r s t a b c d e first second third fourth fifth =
    fifth
    ∙ ap (λ out. out ++ e) (four_parts o p q r s a b c d first second third fourth)
    ∙ append_assoc o (a ++ b ++ c ++ d) e

pub six_parts : (o p q r s t u a b c d e f : List ℕ) → p ≡ o ++ a → q ≡ p ++ b → r ≡ q ++ c → s ≡ r ++ d → t ≡ s ++ e
    → u ≡ t ++ f → u ≡ o ++ (a ++ b ++ c ++ d ++ e ++ f)
six_parts o p q r s t u a b c d e f first second third fourth fifth sixth =
    sixth
    ∙ ap (λ out. out ++ f) (five_parts o p q r s t a b c d e first second third fourth fifth)
    ∙ append_assoc o (a ++ b ++ c ++ d ++ e) f

pub seven_parts : (o p q r s t u v a b c d e f g : List ℕ) → p ≡ o ++ a → q ≡ p ++ b → r ≡ q ++ c → s ≡ r ++ d
    → t ≡ s ++ e → u ≡ t ++ f → v ≡ u ++ g → v ≡ o ++ (a ++ b ++ c ++ d ++ e ++ f ++ g)
seven_parts o p q r s t u v a b c d e f g first second third fourth fifth sixth seventh =
    seventh
    ∙ ap (λ out. out ++ g) (sixth
    ∙ ap (λ out. out ++ f) (five_parts o p q r s t a b c d e first second third fourth fifth)
    ∙ append_assoc o (a ++ b ++ c ++ d ++ e) f)
    ∙ append_assoc o (a ++ b ++ c ++ d ++ e ++ f) g

-- what holds of what is there
pub of_some : {A : Type 0} (P : A → Type 0) (given : Option A) (x : A) → given ≡ Some x → IfSome given P → P x
of_some P None x same holds = absurd (cc)
of_some P (Some y) x same holds = let is : y ≡ x = cc in subst P is holds

-- a part of what is there
pub part_is : {A B : Type 0} (f : A → B) (given : Option A) (x : A) (y : B) → option_map f given ≡ Some y
    → given ≡ Some x → y ≡ f x
part_is f None x y part whole = absurd (cc)
part_is f (Some z) x y part whole =
    let here : f z ≡ y = cc in
    let is : z ≡ x = cc in
    sym here ∙ ap f is
