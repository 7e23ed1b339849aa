-- Cuts by the key of their prefix: their counts and their keys.
use Rattle.std.proofs.Common.{◌≡◌, ℕ, suc, ◌+◌, ◌-◌, ◌*◌, ◌/◌, ◌%◌, ◌^◌, ◌<◌, ◌≤◌, List, [], ◌∷◌, ◌++◌, length, get_or, append_assoc, refl, sym, ap, ◌∙◌, subst, arith}
use Rattle.std.proofs.Math.Nat.{pow-suc}
use Rattle.std.proofs.lemmas.Nat.{div_below}
use Rattle.walk_keys.specs.Keys.{count_base, key_of, digits}
use Rattle.walk_keys.proofs.Keys.{length-digits, key-digits, key_push, low_digit}
use Rattle.walk_keys.specs.Neighbors.{cut_at}
use Rattle.walk_runs.specs.Points.{point_cut}
use Rattle.walk_runs.specs.Kept.{KeyedCut}
use Rattle.walk_runs.proofs.RunCuts.{x_at, y_at}

pub count_x : (n : ℕ) (point : KeyedCut) (q : ℕ) → q ≡ n → get_or (point_cut n point) q 0 ≡ point.x
count_x n point q e =
    let at : q ≡ length (digits n point.key) = e ∙ sym (length-digits n point.key) in
    ap (λ (p : ℕ). get_or (point_cut n point) p 0) at ∙ x_at (digits n point.key) point.x point.y

pub count_y : (n : ℕ) (point : KeyedCut) (q : ℕ) → q ≡ suc n → get_or (point_cut n point) q 0 ≡ point.y
count_y n point q e =
    let at : q ≡ suc (length (digits n point.key)) = e ∙ ap suc (sym (length-digits n point.key)) in
    ap (λ (p : ℕ). get_or (point_cut n point) p 0) at ∙ y_at (digits n point.key) point.x point.y

-- two more digits at the low end
pub key_of_two : (prefix : List ℕ) (x y : ℕ)
    → key_of (cut_at prefix x y) ≡ (key_of prefix * count_base + x) * count_base + y
key_of_two prefix x y =
    let split : cut_at prefix x y ≡ (prefix ++ x ∷ []) ++ y ∷ [] = sym (append_assoc prefix (x ∷ []) (y ∷ [])) in
    let one : key_of (prefix ++ x ∷ []) ≡ key_of prefix * count_base + x = key_push prefix x in
    let two : key_of ((prefix ++ x ∷ []) ++ y ∷ []) ≡ key_of (prefix ++ x ∷ []) * count_base + y =
    key_push (prefix ++ x ∷ []) y in
    ap key_of split ∙ (two ∙ ap (λ (k : ℕ). k * count_base + y) one)

pub key_of_point : (n : ℕ) (point : KeyedCut) → point.key < count_base ^ n
    → key_of (point_cut n point) ≡ (point.key * count_base + point.x) * count_base + point.y
key_of_point n point below =
    key_of_two (digits n point.key) point.x point.y
    ∙ ap (λ (k : ℕ). (k * count_base + point.x) * count_base + point.y) (key-digits n point.key below)

-- the digits of a number are those of its high part and its last two
pub split_digits : (n cut : ℕ) → cut < count_base ^ (n + 2)
    → (cut / count_base / count_base < count_base ^ n)
    × (cut_at (digits n (cut / count_base / count_base)) (cut / count_base % count_base) (cut % count_base)
    ≡ digits (n + 2) cut)
split_digits n cut lt =
    let e : n + 2 ≡ suc (suc n) = omega arith in
    let lt2 : cut < count_base ^ suc (suc n) = subst (λ (m : ℕ). cut < count_base ^ m) e lt in
    let lt2' : cut < count_base ^ suc n * count_base = rw (pow-suc) at lt2 in
    let lt1 : cut / count_base < count_base ^ suc n =
    div_below cut count_base (count_base ^ suc n) (omega arith) lt2' in
    let lt1' : cut / count_base < count_base ^ n * count_base = rw (pow-suc) at lt1 in
    let lt0 : cut / count_base / count_base < count_base ^ n =
    div_below (cut / count_base) count_base (count_base ^ n) (omega arith) lt1' in
    let high : digits (suc (suc n)) cut ≡ digits (suc n) (cut / count_base) ++ (cut % count_base) ∷ [] =
    low_digit (suc n) cut lt2 in
    let low : digits (suc n) (cut / count_base) ≡ digits n (cut / count_base / count_base)
    ++ (cut / count_base % count_base) ∷ [] = low_digit n (cut / count_base) lt1 in
    let both : digits (suc (suc n)) cut ≡ (digits n (cut / count_base / count_base)
    ++ (cut / count_base % count_base) ∷ []) ++ (cut % count_base) ∷ [] =
    high ∙ ap (λ (xs : List ℕ). xs ++ (cut % count_base) ∷ []) low in
    let joined : (digits n (cut / count_base / count_base) ++ (cut / count_base % count_base) ∷ [])
    ++ (cut % count_base) ∷ []
    ≡ cut_at (digits n (cut / count_base / count_base)) (cut / count_base % count_base) (cut % count_base) =
    append_assoc (digits n (cut / count_base / count_base)) ((cut / count_base % count_base) ∷ [])
    ((cut % count_base) ∷ []) in
    (lt0, sym (ap (λ (m : ℕ). digits m cut) e ∙ (both ∙ joined)))

-- the same for all digits, and each of the last two
pub last_two : (n cut : ℕ) → 2 ≤ n → cut < count_base ^ n
    → (cut / count_base / count_base < count_base ^ (n - 2))
    × (cut_at (digits (n - 2) (cut / count_base / count_base)) (cut / count_base % count_base) (cut % count_base)
    ≡ digits n cut)
last_two n cut two lt =
    let e : n - 2 + 2 ≡ n = omega arith in
    let w = split_digits (n - 2) cut (subst (λ (m : ℕ). cut < count_base ^ m) (sym e) lt) in
    (w.0, w.1 ∙ ap (λ (m : ℕ). digits m cut) e)

pub digit_x : (n cut : ℕ) → 2 ≤ n → cut < count_base ^ n → get_or (digits n cut) (n - 2) 0 ≡ cut / count_base %
    count_base
digit_x n cut two lt =
    ap (λ (xs : List ℕ). get_or xs (n - 2) 0) (sym (last_two n cut two lt).1)
    ∙ count_x (n - 2) (record {
      key = cut / count_base / count_base;
      x = cut / count_base % count_base;
      y = cut % count_base;
    }) (n - 2) refl

pub digit_y : (n cut : ℕ) → 2 ≤ n → cut < count_base ^ n → get_or (digits n cut) (n - 1) 0 ≡ cut % count_base
digit_y n cut two lt =
    ap (λ (xs : List ℕ). get_or xs (n - 1) 0) (sym (last_two n cut two lt).1)
    ∙ count_y (n - 2) (record {
      key = cut / count_base / count_base;
      x = cut / count_base % count_base;
      y = cut % count_base;
    }) (n - 1) (omega arith)
