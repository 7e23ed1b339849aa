-- What is kept of a list by its marks.
use Rattle.std.proofs.Common.{◌≡◌, ℕ, zero, suc, ◌+◌, ◌^◌, ◌<◌, ◌≤◌, Bool, true, false, List, [], ◌∷◌, ◌++◌, length, get_or, map, take, drop, cond, Contains, refl, sym, ap, ◌∙◌, subst, arith, append_assoc, append-nil}
use Rattle.std.specs.Prelude.{slice_set}
use Rattle.std.specs.Bool.{beq}
use Rattle.std.proofs.lemmas.List.{drop_more, take_more_set, drop-set-lt, drop-drop, drop_all, get_or-drop, length-set}
use Rattle.walk_keys.specs.Keys.{count_base, Ascending, AreKeys}
use Rattle.pd_level.specs.Levels.{kept_by}
use Rattle.pd_level.proofs.Merges.{contains_at, contains_get}

-- So far: the first i marks are read, and `kept` of the keys kept. The keys from i on are as they were, and what is
-- kept of them comes after what is kept already.
pub record IsKeptSo (wanted : Bool) (marks : List Bool) (old keys : List ℕ) (i kept : ℕ) : Type 0 where
  pub same : length keys ≡ length old
  pub within : kept ≤ i
  pub rest : drop i keys ≡ drop i old
  pub all : take kept keys ++ kept_by wanted (drop i marks) (drop i old) ≡ kept_by wanted marks old

pub none_read : (wanted : Bool) (marks : List Bool) (old : List ℕ) → IsKeptSo wanted marks old old 0 0
none_read wanted marks old = record {
  same = refl;
  within = omega arith;
  rest = refl;
  all = refl;
}

drop_next : (xs ys : List ℕ) (i : ℕ) → drop i xs ≡ drop i ys → drop (i + 1) xs ≡ drop (i + 1) ys
drop_next xs ys i e = sym (drop-drop 1 i xs) ∙ (ap (drop 1) e ∙ drop-drop 1 i ys)

-- what is kept from i on, by the mark at i
next_kept : (wanted : Bool) (marks : List Bool) (old : List ℕ) (i : ℕ) → i < length marks → i < length old
    → kept_by wanted (drop i marks) (drop i old)
    ≡ cond (beq (get_or marks i false) wanted) (get_or old i 0 ∷ kept_by wanted (drop (i + 1) marks) (drop (i + 1) old))
    (kept_by wanted (drop (i + 1) marks) (drop (i + 1) old))
next_kept wanted marks old i in_marks in_old =
    rw (drop_more marks i false in_marks, drop_more old i 0 in_old) refl

pub keep_one : (wanted : Bool) (marks : List Bool) (old keys : List ℕ) (i kept : ℕ) → length marks ≡ length old
    → i < length marks → beq (get_or marks i false) wanted ≡ true → IsKeptSo wanted marks old keys i kept
    → IsKeptSo wanted marks old (slice_set keys kept (get_or keys i 0)) (i + 1) (kept + 1)
keep_one wanted marks old keys i kept one_each lt marked so = record {
  same = length-set keys kept (get_or keys i 0) ∙ so.same;
  within = let le : kept ≤ i = so.within in omega arith;
  rest = drop-set-lt (i + 1) keys kept (get_or keys i 0) (let le : kept ≤ i = so.within in omega arith)
      ∙ drop_next keys old i so.rest;
  all = rw (taken, read) (append_assoc (take kept keys) (get_or old i 0 ∷ [])
      (kept_by wanted (drop (i + 1) marks) (drop (i + 1) old))
      ∙ (ap (λ (ys : List ℕ). take kept keys ++ ys) (sym next) ∙ so.all));
}
  where
    taken : take (kept + 1) (slice_set keys kept (get_or keys i 0)) ≡ take kept keys ++ get_or keys i 0 ∷ []
    taken =
        take_more_set keys kept (get_or keys i 0) (let le : kept ≤ i = so.within in omega (arith, so.same))

    here : i + 0 ≡ i
    here = omega arith

    read : get_or keys i 0 ≡ get_or old i 0
    read =
        ap (λ (k : ℕ). get_or keys k 0) (sym here)
        ∙ (sym (get_or-drop i keys 0 0) ∙ (ap (λ (ys : List ℕ). get_or ys 0 0) so.rest
        ∙ (get_or-drop i old 0 0 ∙ ap (λ (k : ℕ). get_or old k 0) here)))

    next : kept_by wanted (drop i marks) (drop i old) ≡ get_or old i 0
        ∷ kept_by wanted (drop (i + 1) marks) (drop (i + 1) old)
    next =
        next_kept wanted marks old i lt (omega arith)
        ∙ ap (λ (b : Bool). cond b (get_or old i 0 ∷ kept_by wanted (drop (i + 1) marks) (drop (i + 1) old))
        (kept_by wanted (drop (i + 1) marks) (drop (i + 1) old))) marked

pub pass_one : (wanted : Bool) (marks : List Bool) (old keys : List ℕ) (i kept : ℕ) → length marks ≡ length old
    → i < length marks → beq (get_or marks i false) wanted ≡ false → IsKeptSo wanted marks old keys i kept
    → IsKeptSo wanted marks old keys (i + 1) kept
pass_one wanted marks old keys i kept one_each lt unmarked so = record {
  same = so.same;
  within = let le : kept ≤ i = so.within in omega arith;
  rest = drop_next keys old i so.rest;
  all = ap (λ (ys : List ℕ). take kept keys ++ ys) (sym next) ∙ so.all;
}
  where
    next : kept_by wanted (drop i marks) (drop i old) ≡ kept_by wanted (drop (i + 1) marks) (drop (i + 1) old)
    next =
        next_kept wanted marks old i lt (omega arith)
        ∙ ap (λ (b : Bool). cond b (get_or old i 0 ∷ kept_by wanted (drop (i + 1) marks) (drop (i + 1) old))
        (kept_by wanted (drop (i + 1) marks) (drop (i + 1) old))) unmarked

-- once all marks are read, what is kept stands first
pub all_read : (wanted : Bool) (marks : List Bool) (old keys : List ℕ) (i kept : ℕ) → length marks ≤ i
    → IsKeptSo wanted marks old keys i kept → take kept keys ≡ kept_by wanted marks old
all_read wanted marks old keys i kept le so =
    let none : drop i marks ≡ [] = drop_all i marks le in
    let nothing : kept_by wanted (drop i marks) (drop i old) ≡ [] =
    ap (λ (ms : List Bool). kept_by wanted ms (drop i old)) none in
    sym (append-nil (take kept keys)) ∙ (ap (λ (ys : List ℕ). take kept keys ++ ys) (sym nothing) ∙ so.all)

pub kept-map : {A B : Type 0} (f : A → B) (wanted : Bool) (marks : List Bool) (xs : List A)
    → map f (kept_by wanted marks xs) ≡ kept_by wanted marks (map f xs)
kept-map f wanted [] xs = refl
kept-map f wanted (mark ∷ marks) [] = refl
kept-map {A} {B} f wanted (mark ∷ marks) (x ∷ xs) = go (kept-map f wanted marks xs) (beq mark wanted)
  where
    go : map f (kept_by wanted marks xs) ≡ kept_by wanted marks (map f xs) → (b : Bool)
        → map f (cond b (x ∷ kept_by wanted marks xs) (kept_by wanted marks xs))
        ≡ cond b (f x ∷ kept_by wanted marks (map f xs)) (kept_by wanted marks (map f xs))
    go rest true = ap (λ (ys : List B). f x ∷ ys) rest
    go rest false = rest

-- what is kept was there
pub kept_there : (wanted : Bool) (marks : List Bool) (xs : List ℕ) (y : ℕ) → Contains (kept_by wanted marks xs) y
    → Contains xs y
kept_there wanted [] xs y (k, lt, at) = absurd (omega arith)
kept_there wanted (mark ∷ marks) [] y (k, lt, at) = absurd (omega arith)
kept_there wanted (mark ∷ marks) (x ∷ xs) y has = go (λ there. kept_there wanted marks xs y there) (beq mark wanted) has
  where
    later : Contains xs y → Contains (x ∷ xs) y
    later (k, lt, at) = (suc k, omega arith, at)

    go : (Contains (kept_by wanted marks xs) y → Contains xs y) → (b : Bool)
        → Contains (cond b (x ∷ kept_by wanted marks xs) (kept_by wanted marks xs)) y → Contains (x ∷ xs) y
    go back true (zero, lt, at) = (0, omega arith, at)
    go back true (suc k, lt, at) = later (back (k, omega arith, at))
    go back false there = later (back there)

pub kept_some : (wanted : Bool) (marks : List Bool) (xs : List ℕ) → 0 < length (kept_by wanted marks xs)
    → 0 < length xs
kept_some wanted marks xs some =
    let there : Contains xs (get_or (kept_by wanted marks xs) 0 0) =
    kept_there wanted marks xs (get_or (kept_by wanted marks xs) 0 0) (contains_get (kept_by wanted marks xs) 0 some) in
    omega (arith, there.1)

ascending_rest : (x : ℕ) (xs : List ℕ) → Ascending (x ∷ xs) → Ascending xs
ascending_rest x xs asc i j lt in_ = asc (suc i) (suc j) (omega arith) (omega arith)

ascending_cons : (x : ℕ) (xs : List ℕ) → ((y : ℕ) → Contains xs y → x < y) → Ascending xs → Ascending (x ∷ xs)
ascending_cons x xs below asc i zero lt in_ = absurd (omega arith)
ascending_cons x xs below asc zero (suc j) lt in_ = below (get_or xs j 0) (contains_get xs j (omega arith))
ascending_cons x xs below asc (suc i) (suc j) lt in_ = asc i j (omega arith) (omega arith)

first_below : (x : ℕ) (xs : List ℕ) → Ascending (x ∷ xs) → (y : ℕ) → Contains xs y → x < y
first_below x xs asc y has =
    let w : (k : ℕ) × (k < length xs) × (get_or xs k 0 ≡ y) = contains_at xs y has in
    subst (λ (z : ℕ). x < z) w.2 (asc 0 (suc w.0) (omega arith) (let lt : w.0 < length xs = w.1 in omega arith))

pub kept_ascend : (wanted : Bool) (marks : List Bool) (xs : List ℕ) → Ascending xs → Ascending (kept_by wanted marks xs)
kept_ascend wanted [] xs asc = λ i j lt in_. absurd (omega arith)
kept_ascend wanted (mark ∷ marks) [] asc = λ i j lt in_. absurd (omega arith)
kept_ascend wanted (mark ∷ marks) (x ∷ xs) asc =
    go (kept_ascend wanted marks xs (ascending_rest x xs asc)) (beq mark wanted)
  where
    go : Ascending (kept_by wanted marks xs) → (b : Bool)
        → Ascending (cond b (x ∷ kept_by wanted marks xs) (kept_by wanted marks xs))
    go rest true =
        ascending_cons x (kept_by wanted marks xs) (λ y has. first_below x xs asc y (kept_there wanted marks xs y has))
        rest
    go rest false = rest

pub kept_keys : (n : ℕ) (wanted : Bool) (marks : List Bool) (keys : List ℕ) → AreKeys n keys
    → AreKeys n (kept_by wanted marks keys)
kept_keys n wanted marks keys are = record {
  below = λ i lt.
      let w : (k : ℕ) × (k < length keys) × (get_or keys k 0 ≡ get_or (kept_by wanted marks keys) i 0) =
      contains_at keys (get_or (kept_by wanted marks keys) i 0)
      (kept_there wanted marks keys (get_or (kept_by wanted marks keys) i 0)
      (contains_get (kept_by wanted marks keys) i lt)) in
      subst (λ (x : ℕ). x < count_base ^ n) w.2 (are.below w.0 w.1);
  ascending = kept_ascend wanted marks keys are.ascending;
}
