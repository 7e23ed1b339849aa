-- Lists of counts in an ordered set.
use Rattle.std.proofs.Common.{◌≡◌, ◌+◌, ◌<◌, ◌⊎◌, inl, inr, ℕ, Bool, true, false, ◌||◌, List, Vec, Ordering, [], ◌∷◌, length, get_or, refl, sym, ap, ◌∙◌, subst, Contains, arith}
use Rattle.std.proofs.lemmas.Bool.{false≢true}
use Rattle.std.proofs.lemmas.Cmp.{nat_list_cmp_total}
use Rattle.std.proofs.lemmas.List.{get_or-map, length-map}
use Rattle.std.proofs.lemmas.List.Elements.{All-from_recursion}
use Rattle.std.proofs.lemmas.Map.Keys.{sorted_head, sorted_tail}
use Rattle.std.proofs.lemmas.Map.Lookups.{exact_bytes}
use Rattle.std.specs.Bool.{if◌then◌else◌}
use Rattle.std.specs.BTreeMap.{is_at}
use Rattle.std.specs.BTreeSet.{insert_key}
use Rattle.std.specs.Cmp.Lexicographic.{slice_cmp}
use Rattle.std.specs.Global.{Global}
use Rattle.std.specs.List.{list_any}
use Rattle.std.specs.Prelude.{not}
use Rattle.std.specs.List.Sorted.{IsStrictlySortedBy}
use Rattle.std.specs.declared.cmp.Ordering.TheVariants.{Less, Equal, Greater}
use Rattle.std.specs.Ordering.{is_eq, match_ordering, nat_cmp, ordering_reverse}
use Rattle.def_wide.specs.DeadEnds.{AreApart}
use Rattle.wide_back.specs.Lists.{items_of}
use Rattle.wide_back.specs.Searches.{IsAdded}
use Rattle.wide_back.proofs.Counting.{added_first}

-- how the set orders its lists
abbrev pub by_items : Vec ℕ Global → Vec ℕ Global → Ordering
by_items one two = slice_cmp nat_cmp one.items two.items

equal_self : (xs : List ℕ) → slice_cmp nat_cmp xs xs ≡ Equal
equal_self xs = by (slice_cmp nat_cmp xs xs) (nat_list_cmp_total.antisymm xs xs)
  where
    by : (o : Ordering) → o ≡ ordering_reverse o → o ≡ Equal
    by Less e = cc
    by Equal e = refl
    by Greater e = cc

is_equal : (o : Ordering) → is_eq o ≡ true → o ≡ Equal
is_equal Less e = cc
is_equal Equal e = refl
is_equal Greater e = cc

or_true : (b : Bool) → (b || true) ≡ true
or_true true = refl
or_true false = refl

-- ---- what is found

pub is_found : (xs : List ℕ) (keys : List (Vec ℕ Global))
    → list_any (is_at (λ (k : Vec ℕ Global). slice_cmp nat_cmp xs k.items)) keys ≡ true → Contains (items_of keys) xs
is_found xs [] found = absurd (false≢true found)
is_found xs (k ∷ keys) found =
    (added_first (items_of keys) k.items xs).1 (go (is_eq (slice_cmp nat_cmp xs k.items)) refl (is_found xs keys))
  where
    go : (b : Bool) → is_eq (slice_cmp nat_cmp xs k.items) ≡ b
        → (list_any (is_at (λ (k : Vec ℕ Global). slice_cmp nat_cmp xs k.items)) keys ≡ true
        → Contains (items_of keys) xs) → (xs ≡ k.items) ⊎ Contains (items_of keys) xs
    go true here rest = inl (exact_bytes xs k.items (is_equal (slice_cmp nat_cmp xs k.items) here))
    go false other rest =
        inr (rest (sym (ap (λ (b : Bool).
        b || list_any (is_at (λ (k : Vec ℕ Global). slice_cmp nat_cmp xs k.items)) keys) other) ∙ found))

pub finds : (xs : List ℕ) (keys : List (Vec ℕ Global)) → Contains (items_of keys) xs
    → list_any (is_at (λ (k : Vec ℕ Global). slice_cmp nat_cmp xs k.items)) keys ≡ true
finds xs [] (i, lt, same) = absurd (omega arith)
finds xs (k ∷ keys) there = go ((added_first (items_of keys) k.items xs).0 there) (finds xs keys)
  where
    go : (xs ≡ k.items) ⊎ Contains (items_of keys) xs → (Contains (items_of keys) xs
        → list_any (is_at (λ (k : Vec ℕ Global). slice_cmp nat_cmp xs k.items)) keys ≡ true)
        → list_any (is_at (λ (k : Vec ℕ Global). slice_cmp nat_cmp xs k.items)) (k ∷ keys) ≡ true
    go (inl same) rest =
        ap (λ (o : Ordering). is_eq o || list_any (is_at (λ (k : Vec ℕ Global). slice_cmp nat_cmp xs k.items)) keys)
        (subst (λ (ys : List ℕ). slice_cmp nat_cmp xs ys ≡ Equal) same (equal_self xs))
    go (inr more) rest =
        ap (λ (b : Bool). is_eq (slice_cmp nat_cmp xs k.items) || b) (rest more)
        ∙ or_true (is_eq (slice_cmp nat_cmp xs k.items))

-- ---- what is added

added_after : (xs new : List (List ℕ)) (x y : List ℕ) → IsAdded xs y new → IsAdded (x ∷ xs) y (x ∷ new)
added_after xs new x y added other = (
  λ there. to ((added_first new x other).0 there),
  λ there. (added_first new x other).1 (from there),
)
  where
    to : (other ≡ x) ⊎ Contains new other → (other ≡ y) ⊎ Contains (x ∷ xs) other
    to (inl same) = inr ((added_first xs x other).1 (inl same))
    to (inr more) = deeper ((added other).0 more)
      where
        deeper : (other ≡ y) ⊎ Contains xs other → (other ≡ y) ⊎ Contains (x ∷ xs) other
        deeper (inl same) = inl same
        deeper (inr old) = inr ((added_first xs x other).1 (inr old))

    from : (other ≡ y) ⊎ Contains (x ∷ xs) other → (other ≡ x) ⊎ Contains new other
    from (inl same) = inr ((added other).1 (inl same))
    from (inr old) = deeper ((added_first xs x other).0 old)
      where
        deeper : (other ≡ x) ⊎ Contains xs other → (other ≡ x) ⊎ Contains new other
        deeper (inl same) = inl same
        deeper (inr more) = inr ((added other).1 (inr more))

pub inserted : (key : Vec ℕ Global) (keys : List (Vec ℕ Global)) → ¬ Contains (items_of keys) key.items
    → IsAdded (items_of keys) key.items (items_of (insert_key by_items keys key))
inserted key [] fresh = added_first [] key.items
inserted key (k ∷ keys) fresh =
    go (by_items key k) refl
    (inserted key keys (λ there. fresh ((added_first (items_of keys) k.items key.items).1 (inr there))))
  where
    go : (o : Ordering) → by_items key k ≡ o
        → IsAdded (items_of keys) key.items (items_of (insert_key by_items keys key))
        → IsAdded (items_of (k ∷ keys)) key.items
        (items_of (match_ordering o (key ∷ k ∷ keys) (k ∷ keys) (k ∷ insert_key by_items keys key)))
    go Less is rest = added_first (items_of (k ∷ keys)) key.items
    go Equal is rest =
        absurd (fresh ((added_first (items_of keys) k.items key.items).1 (inl (exact_bytes key.items k.items is))))
    go Greater is rest =
        added_after (items_of keys) (items_of (insert_key by_items keys key)) k.items key.items rest

-- the set has one more
pub count_more : (key : Vec ℕ Global) (keys : List (Vec ℕ Global)) (old new : ℕ) (added : Bool)
    → ¬ Contains (items_of keys) key.items → added ≡ not (list_any (is_at (by_items key)) keys)
    → new ≡ old + (if added then 1 else 0) → new ≡ old + 1
count_more key keys old new added fresh is count = go (list_any (is_at (by_items key)) keys) refl
  where
    go : (b : Bool) → list_any (is_at (by_items key)) keys ≡ b → new ≡ old + 1
    go true found = absurd (fresh (is_found key.items keys found))
    go false none =
        count ∙ ap (λ (b : Bool). old + (if b then 1 else 0)) (is ∙ ap not none)

-- ---- no two are the same

pub sorted_apart : (keys : List (Vec ℕ Global)) → IsStrictlySortedBy by_items keys → AreApart (items_of keys)
sorted_apart [] sorted = tt
sorted_apart (k ∷ keys) sorted = (first, sorted_apart keys (sorted_tail by_items k keys sorted))
  where
    first : ¬ Contains (items_of keys) k.items
    first (i, lt, same) =
        let inside : i < length keys = omega (arith, length-map keys (λ (v : Vec ℕ Global). v.items)) in
        let less : by_items k (get_or keys i k) ≡ Less =
        All-from_recursion (λ (y : Vec ℕ Global). by_items k y ≡ Less) keys (sorted_head by_items k keys sorted) i k
        inside in
        let here : (get_or keys i k).items ≡ k.items =
        sym (get_or-map (λ (v : Vec ℕ Global). v.items) keys i k k.items inside) ∙ same in
        let equal : slice_cmp nat_cmp k.items k.items ≡ Less =
        subst (λ (ys : List ℕ). slice_cmp nat_cmp k.items ys ≡ Less) here less in
        let clash : Less ≡ Equal = sym equal ∙ equal_self k.items in
        cc
