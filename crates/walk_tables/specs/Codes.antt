-- A predicate as a list of symbols that gives it back, by which a proof tells predicates apart.
use Rattle.std.specs.Prelude.{◌≡◌, ℕ, zero, suc, List, [], ◌∷◌, refl}
use Rattle.std.proofs.Common.{◌∙◌, ap}
use Rattle.std.specs.Coded.{Coded, code_by, coded×, coded_list, coded_ℕ}
use Rattle.def_model.specs.Predicates.{Sign, Plus, Minus, Term, Number, Variable, Times, Comparison, Equals, Differs, IsLess, IsAtMost, IsGreater, IsAtLeast, Predicate, Always, Never, Compare, Not, And, Or}

-- a sign, a kind of term and its numbers
abbrev pub Letter : Type 0
Letter = ℕ × (ℕ × (ℕ × (ℕ × ℕ)))

-- what stands at a node, and the terms of its two sums
abbrev pub Symbol : Type 0
Symbol = ℕ × (List Letter × List Letter)

abbrev pub sign_number : Sign → ℕ
sign_number Plus = 0
sign_number Minus = 1

abbrev pub sign_numbered : ℕ → Sign
sign_numbered zero = Plus
sign_numbered (suc n) = Minus

abbrev pub letter : ℕ → Term → Letter
letter sign (Number n) = (sign, (0, (n, (0, 0))))
letter sign (Variable p v) = (sign, (1, (p, (v, 0))))
letter sign (Times n p v) = (sign, (2, (n, (p, v))))

abbrev pub term_lettered : ℕ → ℕ → ℕ → ℕ → Term
term_lettered zero a b c = Number a
term_lettered (suc zero) a b c = Variable a b
term_lettered (suc (suc kind)) a b c = Times a b c

abbrev pub letters : List (Sign × Term) → List Letter
letters [] = []
letters ((sign, term) ∷ rest) = letter (sign_number sign) term ∷ letters rest

abbrev pub terms_lettered : List Letter → List (Sign × Term)
terms_lettered [] = []
terms_lettered ((sign, (kind, (a, (b, c)))) ∷ rest) =
    (sign_numbered sign, term_lettered kind a b c) ∷ terms_lettered rest

abbrev pub comparison_number : Comparison → ℕ
comparison_number Equals = 0
comparison_number Differs = 1
comparison_number IsLess = 2
comparison_number IsAtMost = 3
comparison_number IsGreater = 4
comparison_number IsAtLeast = 5

abbrev pub comparison_numbered : ℕ → Comparison
comparison_numbered zero = Equals
comparison_numbered (suc zero) = Differs
comparison_numbered (suc (suc zero)) = IsLess
comparison_numbered (suc (suc (suc zero))) = IsAtMost
comparison_numbered (suc (suc (suc (suc zero)))) = IsGreater
comparison_numbered (suc (suc (suc (suc (suc n))))) = IsAtLeast

-- the symbols of a predicate, each after those of its parts
abbrev pub symbols_onto : Predicate → List Symbol → List Symbol
symbols_onto Always rest = (0, ([], [])) ∷ rest
symbols_onto Never rest = (1, ([], [])) ∷ rest
symbols_onto (Not inner) rest = symbols_onto inner ((2, ([], [])) ∷ rest)
symbols_onto (And left right) rest = symbols_onto left (symbols_onto right ((3, ([], [])) ∷ rest))
symbols_onto (Or left right) rest = symbols_onto left (symbols_onto right ((4, ([], [])) ∷ rest))
symbols_onto (Compare left comparison right) rest =
    (suc (suc (suc (suc (suc (comparison_number comparison))))), (letters left, letters right)) ∷ rest

abbrev pub built_not : List Predicate → List Predicate
built_not [] = []
built_not (inner ∷ stack) = Not inner ∷ stack

abbrev pub built_and : List Predicate → List Predicate
built_and [] = []
built_and (right ∷ []) = []
built_and (right ∷ left ∷ stack) = And left right ∷ stack

abbrev pub built_or : List Predicate → List Predicate
built_or [] = []
built_or (right ∷ []) = []
built_or (right ∷ left ∷ stack) = Or left right ∷ stack

-- the stack of predicates after one symbol more
abbrev pub built_one : ℕ → List Letter → List Letter → List Predicate → List Predicate
built_one zero left right stack = Always ∷ stack
built_one (suc zero) left right stack = Never ∷ stack
built_one (suc (suc zero)) left right stack = built_not stack
built_one (suc (suc (suc zero))) left right stack = built_and stack
built_one (suc (suc (suc (suc zero)))) left right stack = built_or stack
built_one (suc (suc (suc (suc (suc n))))) left right stack =
    Compare (terms_lettered left) (comparison_numbered n) (terms_lettered right) ∷ stack

abbrev pub built : List Symbol → List Predicate → List Predicate
built [] stack = stack
built ((kind, (left, right)) ∷ rest) stack = built rest (built_one kind left right stack)

abbrev pub top_of : List Predicate → Predicate
top_of [] = Always
top_of (predicate ∷ stack) = predicate

abbrev pub sign_back : (sign : Sign) → sign_numbered (sign_number sign) ≡ sign
sign_back Plus = refl
sign_back Minus = refl

abbrev pub comparison_back : (c : Comparison) → comparison_numbered (comparison_number c) ≡ c
comparison_back Equals = refl
comparison_back Differs = refl
comparison_back IsLess = refl
comparison_back IsAtMost = refl
comparison_back IsGreater = refl
comparison_back IsAtLeast = refl

abbrev pub term_back : (sign : Sign) (term : Term) (rest : List Letter)
    → terms_lettered (letter (sign_number sign) term ∷ rest) ≡ (sign, term) ∷ terms_lettered rest
term_back sign (Number n) rest = ap (λ (s : Sign). (s, Number n) ∷ terms_lettered rest) (sign_back sign)
term_back sign (Variable p v) rest = ap (λ (s : Sign). (s, Variable p v) ∷ terms_lettered rest) (sign_back sign)
term_back sign (Times n p v) rest = ap (λ (s : Sign). (s, Times n p v) ∷ terms_lettered rest) (sign_back sign)

abbrev pub terms_back : (terms : List (Sign × Term)) → terms_lettered (letters terms) ≡ terms
terms_back [] = refl
terms_back ((sign, term) ∷ rest) =
    term_back sign term (letters rest) ∙ ap (λ (more : List (Sign × Term)). (sign, term) ∷ more) (terms_back rest)

abbrev pub built_back : (predicate : Predicate) (rest : List Symbol) (stack : List Predicate)
    → built (symbols_onto predicate rest) stack ≡ built rest (predicate ∷ stack)
built_back Always rest stack = refl
built_back Never rest stack = refl
built_back (Not inner) rest stack = built_back inner ((2, ([], [])) ∷ rest) stack
built_back (And left right) rest stack =
    built_back left (symbols_onto right ((3, ([], [])) ∷ rest)) stack
    ∙ built_back right ((3, ([], [])) ∷ rest) (left ∷ stack)
built_back (Or left right) rest stack =
    built_back left (symbols_onto right ((4, ([], [])) ∷ rest)) stack
    ∙ built_back right ((4, ([], [])) ∷ rest) (left ∷ stack)
built_back (Compare left comparison right) rest stack =
    ap (λ (l : List (Sign × Term)). built rest (Compare l (comparison_numbered (comparison_number comparison))
    (terms_lettered (letters right)) ∷ stack)) (terms_back left)
    ∙ ap (λ (r : List (Sign × Term)). built rest (Compare left (comparison_numbered (comparison_number comparison)) r
    ∷ stack)) (terms_back right)
    ∙ ap (λ (c : Comparison). built rest (Compare left c right ∷ stack)) (comparison_back comparison)

abbrev pub coded_letter : Coded Letter
coded_letter = coded× coded_ℕ (coded× coded_ℕ (coded× coded_ℕ (coded× coded_ℕ coded_ℕ)))

abbrev pub coded_predicate : Coded Predicate
coded_predicate =
    code_by (List Symbol) (coded_list (coded× coded_ℕ (coded× (coded_list coded_letter) (coded_list coded_letter))))
    (λ predicate. symbols_onto predicate []) (λ symbols. top_of (built symbols []))
    (λ predicate. ap top_of (built_back predicate [] []))
