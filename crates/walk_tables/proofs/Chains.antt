-- A chain of parts that are joined in one way, one after another.
use Rattle.std.proofs.Common.{◌≡◌, ◌∙◌, ℕ, zero, suc, ◌+◌, ◌-◌, ◌<◌, List, [], ◌∷◌, ◌++◌, length, get_or, drop, refl, ap, sym, subst, arith, Bool, true, false, not}
use Rattle.std.specs.Bool.{beq}
use Rattle.std.specs.List.{remove}
use Rattle.std.proofs.lemmas.List.{at_drop_more}
use Rattle.walk_tables.specs.Zero.{all_joined, joined}

pub all_step : {T : Type 0} (is_and : Bool) (holds : T → Bool) (parts : List T) (m : ℕ) (d : T) → m < length parts
    → all_joined is_and holds (drop m parts)
    ≡ joined is_and (holds (get_or parts m d)) (all_joined is_and holds (drop (m + 1) parts))
all_step {T} is_and holds parts m d lt =
    at_drop_more (λ (ps : List T). all_joined is_and holds ps) parts m d lt

pub joined_swap : (is_and a b c : Bool) → joined is_and a (joined is_and b c) ≡ joined is_and b (joined is_and a c)
joined_swap true true true c = refl
joined_swap true true false c = refl
joined_swap true false true c = refl
joined_swap true false false c = refl
joined_swap false true true c = refl
joined_swap false true false c = refl
joined_swap false false true c = refl
joined_swap false false false c = refl

pub joined_assoc : (is_and a b c : Bool)
    → joined is_and (joined is_and a b) c ≡ joined is_and a (joined is_and b c)
joined_assoc true true b c = refl
joined_assoc true false b c = refl
joined_assoc false true b c = refl
joined_assoc false false b c = refl

-- a part more at the end
pub all_push : {T : Type 0} (is_and : Bool) (holds : T → Bool) (parts : List T) (part : T)
    → all_joined is_and holds (parts ++ part ∷ []) ≡ joined is_and (holds part) (all_joined is_and holds parts)
all_push is_and holds [] part = refl
all_push is_and holds (first ∷ rest) part =
    ap (joined is_and (holds first)) (all_push is_and holds rest part)
    ∙ joined_swap is_and (holds first) (holds part) (all_joined is_and holds rest)

-- a part that is taken out
pub all_remove : {T : Type 0} (is_and : Bool) (holds : T → Bool) (parts : List T) (i : ℕ) (d : T) → i < length parts
    → all_joined is_and holds parts
    ≡ joined is_and (holds (get_or parts i d)) (all_joined is_and holds (remove parts i))
all_remove is_and holds [] i d lt = absurd (omega (arith, lt))
all_remove is_and holds (first ∷ rest) zero d lt = refl
all_remove is_and holds (first ∷ rest) (suc i) d lt =
    ap (joined is_and (holds first)) (all_remove is_and holds rest i d (omega (arith, lt)))
    ∙ joined_swap is_and (holds first) (holds (get_or rest i d)) (all_joined is_and holds (remove rest i))

pub joined_decided : (is_and a : Bool) → joined is_and a (not is_and) ≡ not is_and
joined_decided true true = refl
joined_decided true false = refl
joined_decided false true = refl
joined_decided false false = refl

pub decided_first : (is_and b : Bool) → joined is_and (not is_and) b ≡ not is_and
decided_first true b = refl
decided_first false b = refl

-- what decides the last ones decides all
pub all_decided : {T : Type 0} (is_and : Bool) (holds : T → Bool) (parts : List T) (m : ℕ)
    → all_joined is_and holds (drop m parts) ≡ not is_and → all_joined is_and holds parts ≡ not is_and
all_decided is_and holds parts zero is = is
all_decided is_and holds [] (suc m) is = is
all_decided is_and holds (part ∷ rest) (suc m) is =
    ap (joined is_and (holds part)) (all_decided is_and holds rest m is) ∙ joined_decided is_and (holds part)

pub joined_same : (is_and a : Bool) → joined is_and a a ≡ a
joined_same true true = refl
joined_same true false = refl
joined_same false true = refl
joined_same false false = refl

-- a part that decides the chain
pub part_decides : {T : Type 0} (is_and : Bool) (holds : T → Bool) (parts : List T) (m : ℕ) (d : T)
    → m < length parts → holds (get_or parts m d) ≡ not is_and → all_joined is_and holds parts ≡ not is_and
part_decides is_and holds parts m d lt is =
    let rest = all_joined is_and holds (drop (m + 1) parts) in
    all_decided is_and holds parts m
    (all_step is_and holds parts m d lt ∙ ap (λ (t : Bool). joined is_and t rest) is ∙ decided_first is_and rest)

-- one part more was asked
pub asked_next : {T : Type 0} (is_and : Bool) (holds : T → Bool) (parts : List T) (i count : ℕ) (part : T)
    (asked found next : Bool) → count ≡ length parts → i < count → part ≡ get_or parts (count - 1 - i) part
    → asked ≡ holds part → found ≡ all_joined is_and holds (drop (length parts - i) parts)
    → next ≡ joined is_and asked found → next ≡ all_joined is_and holds (drop (length parts - (i + 1)) parts)
asked_next {T} is_and holds parts i count part asked found next count_is lt part_is asked_is found_is next_is =
    let m = length parts - (i + 1) in
    let here : count - 1 - i ≡ m = omega (arith, count_is) in
    let later : length parts - i ≡ m + 1 = omega (arith, count_is, lt) in
    let part_there : part ≡ get_or parts m part = subst (λ (n : ℕ). part ≡ get_or parts n part) here part_is in
    let rest = all_joined is_and holds (drop (length parts - i) parts) in
    next_is ∙ (λ k. joined is_and (asked_is k) (found_is k))
    ∙ ap (λ (l : T). joined is_and (holds l) rest) part_there
    ∙ ap (λ (n : ℕ). joined is_and (holds (get_or parts m part)) (all_joined is_and holds (drop n parts))) later
    ∙ sym (all_step is_and holds parts m part (omega (arith, count_is, lt)))

pub differs : (a b : Bool) → not (beq a b) ≡ true → a ≡ not b
differs true true unlike = sym unlike
differs true false unlike = refl
differs false true unlike = refl
differs false false unlike = unlike

pub agrees : (a b : Bool) → not (beq a b) ≡ false → a ≡ b
agrees true true like = refl
agrees true false like = like
agrees false true like = sym like
agrees false false like = refl
