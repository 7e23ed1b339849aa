-- The numbers of a whole level's runs: they ascend, and each is that of one prefix.
use Rattle.std.proofs.Common.{◌≡◌, ℕ, zero, suc, ◌+◌, ◌-◌, ◌*◌, ◌^◌, ◌<◌, ◌≤◌, inl, inr, List, [], ◌∷◌, length, Contains, arith, refl, sym, subst, ap, ◌∙◌, get_or}
use Rattle.std.proofs.Math.Nat.{mul-le-mul_right}
use Rattle.walk_keys.specs.Keys.{count_base, key_of, digits, AreDigits}
use Rattle.walk_keys.proofs.Keys.{key_below, digits-key}
use Rattle.def_model.specs.Events.{Computation, Linked}
use Rattle.def_model.specs.Answers.{LexBelow}
use Rattle.def_model.specs.Cuts.{IsConsistent, one_less}
use Rattle.def_model.proofs.Counts.{length_less}
use Rattle.walk_keys.specs.Neighbors.{cut_at}
use Rattle.walk_runs.specs.WholeLevels.{Run, IsBelowRun, IsRunOf, rest_at}
use Rattle.walk_runs.specs.Levels.{WholeLevel, IsWholeLevel}
use Rattle.walk_marks.specs.RunPlaces.{run_at}
use Rattle.walk_runs.proofs.Ascending.{below_later, lex_prefixes}
use Rattle.walk_runs.proofs.RunCuts.{length_cut, same_parts, prefix_at, less_prefix}
use Rattle.walk_marks.specs.Marks.{KeysAscend}

pub in_runs_at : (runs : List Run) (i : ℕ) → i < length runs → Contains runs (run_at runs i)
in_runs_at [] i lt = absurd (omega arith)
in_runs_at (run ∷ runs) zero lt = (0, omega arith, refl)
in_runs_at (run ∷ runs) (suc i) lt =
    let w : Contains runs (run_at runs i) = in_runs_at runs i (omega arith) in
    (suc w.0, omega (arith, w.1), w.2)

pub place_of_run : (runs : List Run) (run : Run) → Contains runs run → (i : ℕ) × (i < length runs)
    × (run_at runs i ≡ run)
place_of_run [] run (n, lt, at) = absurd (omega arith)
place_of_run (first ∷ runs) run (zero, lt, at) = (0, omega arith, at)
place_of_run (first ∷ runs) run (suc n, lt, at) =
    let w : (i : ℕ) × (i < length runs) × (run_at runs i ≡ run) = place_of_run runs run (n, omega arith, at) in
    (suc w.0, omega (arith, w.1), w.2)

pub below_at : (runs : List Run) → Linked IsBelowRun runs → (i j : ℕ) → i < j → j < length runs
    → LexBelow (run_at runs i).prefix (run_at runs j).prefix
below_at [] links i j less lt = absurd (omega arith)
below_at (run ∷ runs) links i zero less lt = absurd (omega arith)
below_at (run ∷ runs) links zero (suc j) less lt =
    below_later run (run_at runs j) runs links (in_runs_at runs j (omega arith))
below_at (run ∷ []) links (suc i) (suc j) less lt = absurd (omega arith)
below_at (run ∷ next ∷ runs) links (suc i) (suc j) less lt =
    below_at (next ∷ runs) links.1 i j (omega arith) (omega arith)

digits_rest : (x : ℕ) (xs : List ℕ) → AreDigits (x ∷ xs) → AreDigits xs
digits_rest x xs small k d lt = small (suc k) d (omega arith)

digits_cons : (x : ℕ) (xs : List ℕ) → x < count_base → AreDigits xs → AreDigits (x ∷ xs)
digits_cons x xs lt small zero d in_ = lt
digits_cons x xs lt small (suc k) d in_ = small k d (omega arith)

-- the number of what comes first is less
pub lex_key : (xs ys : List ℕ) → LexBelow xs ys → length xs ≡ length ys → AreDigits xs → AreDigits ys
    → key_of xs < key_of ys
lex_key [] ys h many small others = absurd h
lex_key (x ∷ xs) [] h many small others = absurd h
lex_key (x ∷ xs) (y ∷ ys) (inl lt) many small others =
    let same : length xs ≡ length ys = omega arith in
    let rest : key_of xs < count_base ^ length xs = key_below xs (digits_rest x xs small) in
    let high : (x + 1) * count_base ^ length xs ≤ y * count_base ^ length xs =
    mul-le-mul_right (count_base ^ length xs) (omega arith) in
    let w : x * count_base ^ length xs + key_of xs < y * count_base ^ length xs + key_of ys = omega arith in
    subst (λ (n : ℕ). x * count_base ^ length xs + key_of xs < y * count_base ^ n + key_of ys) same w
lex_key (x ∷ xs) (y ∷ ys) (inr (e, h)) many small others =
    let same : length xs ≡ length ys = omega arith in
    let rest : key_of xs < key_of ys =
    lex_key xs ys h same (digits_rest x xs small) (digits_rest y ys others) in
    let heads : x * count_base ^ length xs ≡ y * count_base ^ length ys =
    ap (λ (n : ℕ). n * count_base ^ length xs) e ∙ ap (λ (n : ℕ). y * count_base ^ n) same in
    omega arith

pub digits_cut : (prefix : List ℕ) → AreDigits prefix → AreDigits (cut_at prefix 0 0)
digits_cut [] small =
    digits_cons 0 (0 ∷ []) (omega arith) (digits_cons 0 [] (omega arith) (λ k d lt. absurd (omega arith)))
digits_cut (x ∷ prefix) small =
    digits_cons x (cut_at prefix 0 0) (small 0 0 (omega arith)) (digits_cut prefix (digits_rest x prefix small))

-- a number is that of one prefix
pub same_prefix : (prefix other : List ℕ) → length prefix ≡ length other → AreDigits prefix → AreDigits other
    → key_of (cut_at prefix 0 0) ≡ key_of (cut_at other 0 0) → prefix ≡ other
same_prefix prefix other many small others same =
    let l : length (cut_at prefix 0 0) ≡ length prefix + 2 = length_cut prefix 0 0 in
    let m : length (cut_at other 0 0) ≡ length other + 2 = length_cut other 0 0 in
    let n : length (cut_at prefix 0 0) ≡ length (cut_at other 0 0) = omega arith in
    let a : digits (length (cut_at prefix 0 0)) (key_of (cut_at prefix 0 0)) ≡ cut_at prefix 0 0 =
    digits-key (cut_at prefix 0 0) (digits_cut prefix small) in
    let b : digits (length (cut_at other 0 0)) (key_of (cut_at other 0 0)) ≡ cut_at other 0 0 =
    digits-key (cut_at other 0 0) (digits_cut other others) in
    let e : cut_at prefix 0 0 ≡ cut_at other 0 0 =
    sym a ∙ (ap (λ (k : ℕ). digits k (key_of (cut_at prefix 0 0))) n
    ∙ (ap (digits (length (cut_at other 0 0))) same ∙ b)) in
    (same_parts prefix other 0 0 0 0 e).0

-- one event less
less_and_weight : (xs : List ℕ) (p : ℕ) → p < length xs → 0 < get_or xs p 0
    → key_of (one_less xs p) + count_base ^ (length xs - 1 - p) ≡ key_of xs
less_and_weight [] p lt some = absurd (omega arith)
less_and_weight (zero ∷ xs) zero lt some = absurd (omega arith)
less_and_weight (suc x ∷ xs) zero lt some =
    let at : length (suc x ∷ xs) - 1 - 0 ≡ length xs = omega arith in
    let up : suc x * count_base ^ length xs ≡ (x + 1) * count_base ^ length xs =
    ap (λ (n : ℕ). n * count_base ^ length xs) (let e : suc x ≡ x + 1 = omega arith in e) in
    let v : x * count_base ^ length xs + key_of xs + count_base ^ length xs
    ≡ suc x * count_base ^ length xs + key_of xs = omega arith in
    let down : suc x - 1 ≡ x = omega arith in
    let w : (suc x - 1) * count_base ^ length xs + key_of xs + count_base ^ length xs
    ≡ suc x * count_base ^ length xs + key_of xs = rw down v in
    subst (λ (n : ℕ). key_of (one_less (suc x ∷ xs) 0) + count_base ^ n ≡ key_of (suc x ∷ xs)) (sym at) w
less_and_weight (x ∷ xs) (suc p) lt some =
    let at : length (x ∷ xs) - 1 - suc p ≡ length xs - 1 - p = omega arith in
    let rest : key_of (one_less xs p) + count_base ^ (length xs - 1 - p) ≡ key_of xs =
    less_and_weight xs p (omega arith) some in
    let same : length (one_less xs p) ≡ length xs = length_less xs p in
    rw (at, same) (omega arith)

pub key_less : (prefix : List ℕ) (p : ℕ) → p < length prefix → 0 < get_or prefix p 0
    → key_of (cut_at (one_less prefix p) 0 0) ≡ key_of (cut_at prefix 0 0) - count_base ^ (length prefix + 1 - p)
key_less prefix p lt some =
    let many : length (cut_at prefix 0 0) ≡ length prefix + 2 = length_cut prefix 0 0 in
    let at : length (cut_at prefix 0 0) - 1 - p ≡ length prefix + 1 - p = omega arith in
    let there : 0 < get_or (cut_at prefix 0 0) p 0 = rw (prefix_at prefix 0 0 p lt) some in
    let w : key_of (one_less (cut_at prefix 0 0) p) + count_base ^ (length (cut_at prefix 0 0) - 1 - p)
    ≡ key_of (cut_at prefix 0 0) =
    less_and_weight (cut_at prefix 0 0) p (omega arith) there in
    let v : key_of (cut_at (one_less prefix p) 0 0) + count_base ^ (length prefix + 1 - p)
    ≡ key_of (cut_at prefix 0 0) =
    subst (λ (xs : List ℕ). key_of xs + count_base ^ (length prefix + 1 - p) ≡ key_of (cut_at prefix 0 0))
    (less_prefix prefix 0 0 p lt)
    (subst (λ (n : ℕ). key_of (one_less (cut_at prefix 0 0) p) + count_base ^ n ≡ key_of (cut_at prefix 0 0)) at w) in
    omega arith

-- less of one count leaves digits
pub digits_less : (xs : List ℕ) (p : ℕ) → AreDigits xs → AreDigits (one_less xs p)
digits_less [] p small = small
digits_less (x ∷ xs) zero small =
    let h : x < count_base = small 0 0 (omega arith) in
    digits_cons (x - 1) xs (omega arith) (digits_rest x xs small)
digits_less (x ∷ xs) (suc p) small =
    digits_cons x (one_less xs p) (small 0 0 (omega arith)) (digits_less xs p (digits_rest x xs small))

-- each prefix of a whole level has all counts but the last two
pub prefix_length : (c : Computation) (level : WholeLevel) → IsWholeLevel c level → (i : ℕ) → i < length level.runs
    → length (run_at level.runs i).prefix + 2 ≡ length c
prefix_length c level is i lt =
    let run : IsRunOf c level.number (run_at level.runs i) =
    is.whole.each (run_at level.runs i) (in_runs_at level.runs i lt) in
    let within : (run_at level.runs i).hi ≤ rest_at level.number (run_at level.runs i) = run.interval.within in
    let some : (run_at level.runs i).lo ≤ (run_at level.runs i).hi = run.some in
    let ok : IsConsistent c (cut_at (run_at level.runs i).prefix (run_at level.runs i).lo
    (rest_at level.number (run_at level.runs i) - (run_at level.runs i).lo)) =
    (run.interval.just (run_at level.runs i).lo
    (rest_at level.number (run_at level.runs i) - (run_at level.runs i).lo) (omega arith)).1 (omega arith, some) in
    let many : length (cut_at (run_at level.runs i).prefix (run_at level.runs i).lo
    (rest_at level.number (run_at level.runs i) - (run_at level.runs i).lo))
    ≡ length (run_at level.runs i).prefix + 2 =
    length_cut (run_at level.runs i).prefix (run_at level.runs i).lo
    (rest_at level.number (run_at level.runs i) - (run_at level.runs i).lo) in
    sym many ∙ ok.fits.one_each

pub keys_ascend : (c : Computation) (level : WholeLevel) → IsWholeLevel c level
    → ((i : ℕ) → i < length level.runs → AreDigits (run_at level.runs i).prefix) → KeysAscend level.runs
keys_ascend c level is small i j less lt =
    let lt' : i < length level.runs = omega arith in
    let a : length (run_at level.runs i).prefix + 2 ≡ length c = prefix_length c level is i lt' in
    let b : length (run_at level.runs j).prefix + 2 ≡ length c = prefix_length c level is j lt in
    let l : length (cut_at (run_at level.runs i).prefix 0 0) ≡ length (run_at level.runs i).prefix + 2 =
    length_cut (run_at level.runs i).prefix 0 0 in
    let m : length (cut_at (run_at level.runs j).prefix 0 0) ≡ length (run_at level.runs j).prefix + 2 =
    length_cut (run_at level.runs j).prefix 0 0 in
    lex_key (cut_at (run_at level.runs i).prefix 0 0) (cut_at (run_at level.runs j).prefix 0 0)
    (lex_prefixes (run_at level.runs i).prefix (run_at level.runs j).prefix 0 0 0 0
    (below_at level.runs is.whole.ascending i j less lt)) (omega arith)
    (digits_cut (run_at level.runs i).prefix (small i lt'))
    (digits_cut (run_at level.runs j).prefix (small j lt))

-- the digits of a prefix's number
pub prefix_below : (prefix : List ℕ) (n : ℕ) → length prefix + 2 ≡ n → AreDigits prefix
    → key_of (cut_at prefix 0 0) < count_base ^ n
prefix_below prefix n many small =
    let l : length (cut_at prefix 0 0) ≡ n = length_cut prefix 0 0 ∙ many in
    subst (λ (m : ℕ). key_of (cut_at prefix 0 0) < count_base ^ m) l
    (key_below (cut_at prefix 0 0) (digits_cut prefix small))

-- a digit of the number is a count of the prefix
pub prefix_digit : (prefix : List ℕ) (n p : ℕ) → length prefix + 2 ≡ n → AreDigits prefix → p < length prefix
    → get_or (digits n (key_of (cut_at prefix 0 0))) p 0 ≡ get_or prefix p 0
prefix_digit prefix n p many small lt =
    let l : length (cut_at prefix 0 0) ≡ n = length_cut prefix 0 0 ∙ many in
    let whole : digits n (key_of (cut_at prefix 0 0)) ≡ cut_at prefix 0 0 =
    subst (λ (m : ℕ). digits m (key_of (cut_at prefix 0 0)) ≡ cut_at prefix 0 0) l
    (digits-key (cut_at prefix 0 0) (digits_cut prefix small)) in
    ap (λ (xs : List ℕ). get_or xs p 0) whole ∙ prefix_at prefix 0 0 p lt
