-- The numbers of the marked cuts, cut by cut and run by run.
use Rattle.std.proofs.Common.{◌≡◌, ℕ, zero, suc, ◌+◌, ◌-◌, ◌*◌, ◌/◌, ◌^◌, ◌<◌, ◌≤◌, ◌⊎◌, inl, inr, Bool, true, false, cond, List, [], ◌∷◌, ◌++◌, length, map, take, Contains, append_assoc, arith, refl, sym, subst, ap, ap₂, ◌∙◌, get_or}
use Rattle.walk_keys.specs.Keys.{count_base, key_of, digits, AreDigits, AreKeys}
use Rattle.walk_keys.proofs.Keys.{all_cons, all_rest, key_below, digits-key, weight_le}
use Rattle.walk_keys.specs.Neighbors.{cut_at}
use Rattle.walk_runs.proofs.PointFacts.{key_of_two}
use Rattle.def_model.specs.Events.{Linked}
use Rattle.def_model.specs.Answers.{LexBelow}
use Rattle.def_model.proofs.OneAnswer.{lex_transitive}
use Rattle.walk_runs.specs.WholeLevels.{Run, marked_from, marked_of_runs, rest_at}
use Rattle.walk_runs.proofs.Ascending.{in_head, in_rest, in_cons}
use Rattle.walk_marks.specs.RunPlaces.{run_at}
use Rattle.walk_marks.specs.Marks.{bit_from, bits_list, lists_of, last_word, start_of}
use Rattle.walk_marks.proofs.RunKeys.{lex_key}

-- one cut more of a run
pub marked_more : (prefix : List ℕ) (s x : ℕ) (words : List ℕ) (start d n : ℕ)
    → marked_from prefix s x (bits_list words start d (suc n)) ≡ marked_from prefix s x (bits_list words start d n)
    ++ cond {A = List (List ℕ)} (bit_from words start (d + n)) (cut_at prefix (x + n) (s - (x + n)) ∷ []) []
marked_more prefix s x words start d zero =
    let e : d + 0 ≡ d = omega arith in
    let f : x + 0 ≡ x = omega arith in
    rw (e, f) refl
marked_more prefix s x words start d (suc n) =
    let e : suc d + n ≡ d + suc n = omega arith in
    let f : suc x + n ≡ x + suc n = omega arith in
    let h : marked_from prefix s (suc x) (bits_list words start (suc d) (suc n))
    ≡ marked_from prefix s (suc x) (bits_list words start (suc d) n)
    ++ cond {A = List (List ℕ)} (bit_from words start (suc d + n))
    (cut_at prefix (suc x + n) (s - (suc x + n)) ∷ []) [] =
    marked_more prefix s (suc x) words start (suc d) n in
    let h' : marked_from prefix s (suc x) (bits_list words start (suc d) (suc n))
    ≡ marked_from prefix s (suc x) (bits_list words start (suc d) n)
    ++ cond {A = List (List ℕ)} (bit_from words start (d + suc n))
    (cut_at prefix (x + suc n) (s - (x + suc n)) ∷ []) [] =
    subst (λ (m : ℕ). marked_from prefix s (suc x) (bits_list words start (suc d) (suc n))
    ≡ marked_from prefix s (suc x) (bits_list words start (suc d) n)
    ++ cond {A = List (List ℕ)} (bit_from words start (d + suc n)) (cut_at prefix m (s - m) ∷ []) []) f
    (subst (λ (m : ℕ). marked_from prefix s (suc x) (bits_list words start (suc d) (suc n))
    ≡ marked_from prefix s (suc x) (bits_list words start (suc d) n)
    ++ cond {A = List (List ℕ)} (bit_from words start m) (cut_at prefix (suc x + n) (s - (suc x + n)) ∷ []) []) e
    h) in
    go (bit_from words start d) h'
  where
    go : (b : Bool) → marked_from prefix s (suc x) (bits_list words start (suc d) (suc n))
        ≡ marked_from prefix s (suc x) (bits_list words start (suc d) n)
        ++ cond {A = List (List ℕ)} (bit_from words start (d + suc n))
        (cut_at prefix (x + suc n) (s - (x + suc n)) ∷ []) []
        → cond {A = List (List ℕ)} b (cut_at prefix x (s - x)
        ∷ marked_from prefix s (suc x) (bits_list words start (suc d) (suc n)))
        (marked_from prefix s (suc x) (bits_list words start (suc d) (suc n)))
        ≡ cond {A = List (List ℕ)} b (cut_at prefix x (s - x)
        ∷ marked_from prefix s (suc x) (bits_list words start (suc d) n))
        (marked_from prefix s (suc x) (bits_list words start (suc d) n))
        ++ cond {A = List (List ℕ)} (bit_from words start (d + suc n))
        (cut_at prefix (x + suc n) (s - (x + suc n)) ∷ []) []
    go true t = ap (λ (cuts : List (List ℕ)). cut_at prefix x (s - x) ∷ cuts) t
    go false t = t

keys_append : (xs ys : List (List ℕ)) → map key_of (xs ++ ys) ≡ map key_of xs ++ map key_of ys
keys_append [] ys = refl
keys_append (x ∷ xs) ys = ap (λ (keys : List ℕ). key_of x ∷ keys) (keys_append xs ys)

append_none : (xs : List (List ℕ)) → xs ++ [] ≡ xs
append_none [] = refl
append_none (x ∷ xs) = ap (λ (ys : List (List ℕ)). x ∷ ys) (append_none xs)

pub key_pushed : (prefix : List ℕ) (s x : ℕ) (words : List ℕ) (start n key : ℕ) (old keys new : List ℕ)
    → keys ≡ old ++ map key_of (marked_from prefix s x (bits_list words start 0 n))
    → bit_from words start n ≡ true → key ≡ key_of (cut_at prefix (x + n) (s - (x + n))) → new ≡ keys ++ key ∷ []
    → new ≡ old ++ map key_of (marked_from prefix s x (bits_list words start 0 (n + 1)))
key_pushed prefix s x words start n key old keys new before set is pushed =
    let e : n + 1 ≡ suc n = omega arith in
    let z : 0 + n ≡ n = omega arith in
    let set' : bit_from words start (0 + n) ≡ true = ap (bit_from words start) z ∙ set in
    let m : marked_from prefix s x (bits_list words start 0 (suc n))
    ≡ marked_from prefix s x (bits_list words start 0 n) ++ cut_at prefix (x + n) (s - (x + n)) ∷ [] =
    marked_more prefix s x words start 0 n
    ∙ ap (λ (b : Bool). marked_from prefix s x (bits_list words start 0 n)
    ++ cond {A = List (List ℕ)} b (cut_at prefix (x + n) (s - (x + n)) ∷ []) []) set' in
    let w : map key_of (marked_from prefix s x (bits_list words start 0 (suc n)))
    ≡ map key_of (marked_from prefix s x (bits_list words start 0 n))
    ++ key_of (cut_at prefix (x + n) (s - (x + n))) ∷ [] =
    ap (map key_of) m ∙ keys_append (marked_from prefix s x (bits_list words start 0 n))
    (cut_at prefix (x + n) (s - (x + n)) ∷ []) in
    pushed ∙ (ap (λ (ks : List ℕ). ks ++ key ∷ []) before
    ∙ (append_assoc old (map key_of (marked_from prefix s x (bits_list words start 0 n))) (key ∷ [])
    ∙ ap (λ (ks : List ℕ). old ++ ks)
    (ap (λ (k : ℕ). map key_of (marked_from prefix s x (bits_list words start 0 n)) ++ k ∷ []) is
    ∙ (sym w ∙ ap (λ (k : ℕ). map key_of (marked_from prefix s x (bits_list words start 0 k))) (sym e)))))

pub key_not_pushed : (prefix : List ℕ) (s x : ℕ) (words : List ℕ) (start n : ℕ) (old keys : List ℕ)
    → keys ≡ old ++ map key_of (marked_from prefix s x (bits_list words start 0 n))
    → bit_from words start n ≡ false
    → keys ≡ old ++ map key_of (marked_from prefix s x (bits_list words start 0 (n + 1)))
key_not_pushed prefix s x words start n old keys before none =
    let e : n + 1 ≡ suc n = omega arith in
    let z : 0 + n ≡ n = omega arith in
    let none' : bit_from words start (0 + n) ≡ false = ap (bit_from words start) z ∙ none in
    let m : marked_from prefix s x (bits_list words start 0 (suc n))
    ≡ marked_from prefix s x (bits_list words start 0 n) =
    marked_more prefix s x words start 0 n
    ∙ (ap (λ (b : Bool). marked_from prefix s x (bits_list words start 0 n)
    ++ cond {A = List (List ℕ)} b (cut_at prefix (x + n) (s - (x + n)) ∷ []) []) none'
    ∙ append_none (marked_from prefix s x (bits_list words start 0 n))) in
    before ∙ ap (λ (cuts : List (List ℕ)). old ++ map key_of cuts)
    (sym m ∙ ap (λ (k : ℕ). marked_from prefix s x (bits_list words start 0 k)) (sym e))

-- the number of a prefix is that of its run but for the last two digits
pub prefix_key : (prefix : List ℕ) → key_of (cut_at prefix 0 0) / count_base / count_base ≡ key_of prefix
prefix_key prefix =
    let a : key_of (cut_at prefix 0 0) ≡ (key_of prefix * count_base + 0) * count_base + 0 = key_of_two prefix 0 0 in
    omega arith

-- the counts of a cut are digits, so those of its prefix are, and the last two
pub digits_apart : (prefix : List ℕ) (x y : ℕ) → AreDigits (cut_at prefix x y)
    → AreDigits prefix × (x < count_base) × (y < count_base)
digits_apart [] x y small = (λ k d lt. absurd (omega arith), small 0 0 (omega arith), small 1 0 (omega arith))
digits_apart (p ∷ prefix) x y small =
    let w : AreDigits prefix × (x < count_base) × (y < count_base) =
    digits_apart prefix x y (all_rest p (cut_at prefix x y) small) in
    (all_cons p prefix (small 0 0 (omega arith)) w.0, w.1, w.2)

-- the number of the prefix leaves room for two digits more
pub prefix_fits : (prefix : List ℕ) (room : ℕ) → length prefix + 2 ≤ room → AreDigits prefix
    → key_of prefix < count_base ^ (room - 2)
prefix_fits prefix room few small =
    let below : key_of prefix < count_base ^ length prefix = key_below prefix small in
    let most : count_base ^ length prefix ≤ count_base ^ (room - 2) =
    weight_le (length prefix) (room - 2) (omega arith) in
    omega arith

-- one run more
pub runs_more : (k : ℕ) (runs : List Run) (words : List ℕ) (start i : ℕ) → i < length runs
    → map key_of (marked_of_runs k (take (i + 1) runs) (lists_of (take (i + 1) runs) words start))
    ≡ map key_of (marked_of_runs k (take i runs) (lists_of (take i runs) words start))
    ++ map key_of (marked_from (run_at runs i).prefix (rest_at k (run_at runs i)) (run_at runs i).lo
    (bits_list words (start + start_of runs i) 0 (suc ((run_at runs i).hi - (run_at runs i).lo))))
runs_more k [] words start i lt = absurd (omega arith)
runs_more k (run ∷ runs) words start zero lt =
    let e : start + 0 ≡ start = omega arith in
    ap (map key_of) (append_none (marked_from run.prefix (rest_at k run) run.lo
    (bits_list words start 0 (suc (run.hi - run.lo)))))
    ∙ ap (λ (n : ℕ). map key_of (marked_from run.prefix (rest_at k run) run.lo
    (bits_list words n 0 (suc (run.hi - run.lo))))) (sym e)
runs_more k (run ∷ runs) words start (suc i) lt =
    let up : suc i + 1 ≡ suc (i + 1) = omega arith in
    let e : start + suc (last_word run) + start_of runs i ≡ start + (suc (last_word run) + start_of runs i) =
    omega arith in
    let h : map key_of (marked_of_runs k (take (i + 1) runs) (lists_of (take (i + 1) runs) words
    (start + suc (last_word run))))
    ≡ map key_of (marked_of_runs k (take i runs) (lists_of (take i runs) words (start + suc (last_word run))))
    ++ map key_of (marked_from (run_at runs i).prefix (rest_at k (run_at runs i)) (run_at runs i).lo
    (bits_list words (start + (suc (last_word run) + start_of runs i)) 0
    (suc ((run_at runs i).hi - (run_at runs i).lo)))) =
    runs_more k runs words (start + suc (last_word run)) i (omega arith)
    ∙ ap (λ (n : ℕ). map key_of (marked_of_runs k (take i runs)
    (lists_of (take i runs) words (start + suc (last_word run))))
    ++ map key_of (marked_from (run_at runs i).prefix (rest_at k (run_at runs i)) (run_at runs i).lo
    (bits_list words n 0 (suc ((run_at runs i).hi - (run_at runs i).lo))))) e in
    ap (λ (n : ℕ). map key_of (marked_of_runs k (take n (run ∷ runs)) (lists_of (take n (run ∷ runs)) words start))) up
    ∙ (keys_append (marked_from run.prefix (rest_at k run) run.lo (bits_list words start 0 (suc (run.hi - run.lo))))
    (marked_of_runs k (take (i + 1) runs) (lists_of (take (i + 1) runs) words (start + suc (last_word run))))
    ∙ (ap (λ (ks : List ℕ). map key_of (marked_from run.prefix (rest_at k run) run.lo
    (bits_list words start 0 (suc (run.hi - run.lo)))) ++ ks) h
    ∙ (sym (append_assoc (map key_of (marked_from run.prefix (rest_at k run) run.lo
    (bits_list words start 0 (suc (run.hi - run.lo)))))
    (map key_of (marked_of_runs k (take i runs) (lists_of (take i runs) words (start + suc (last_word run)))))
    (map key_of (marked_from (run_at runs i).prefix (rest_at k (run_at runs i)) (run_at runs i).lo
    (bits_list words (start + (suc (last_word run) + start_of runs i)) 0
    (suc ((run_at runs i).hi - (run_at runs i).lo))))))
    ∙ ap (λ (ks : List ℕ). ks ++ map key_of (marked_from (run_at runs i).prefix (rest_at k (run_at runs i))
    (run_at runs i).lo (bits_list words (start + (suc (last_word run) + start_of runs i)) 0
    (suc ((run_at runs i).hi - (run_at runs i).lo)))))
    (sym (keys_append (marked_from run.prefix (rest_at k run) run.lo
    (bits_list words start 0 (suc (run.hi - run.lo))))
    (marked_of_runs k (take i runs) (lists_of (take i runs) words (start + suc (last_word run)))))))))

-- ascending cuts of n counts that are digits have ascending numbers of n digits
lex_later : (x z : List ℕ) (xs : List (List ℕ)) → Linked LexBelow (x ∷ xs) → Contains xs z → LexBelow x z
lex_later x z [] links (k, lt, at) = absurd (omega arith)
lex_later x z (y ∷ xs) links has = go (in_cons y z xs has) (lex_later y z xs links.1)
  where
    go : (y ≡ z) ⊎ Contains xs z → (Contains xs z → LexBelow y z) → LexBelow x z
    go (inl e) rest = subst (λ (w : List ℕ). LexBelow x w) e links.0
    go (inr later) rest = lex_transitive x y z links.0 (rest later)

key_at : (cuts : List (List ℕ)) (i : ℕ) → i < length cuts
    → (cut : List ℕ) × Contains cuts cut × (get_or (map key_of cuts) i 0 ≡ key_of cut)
key_at [] i lt = absurd (omega arith)
key_at (cut ∷ cuts) zero lt = (cut, in_head cut cuts, refl)
key_at (cut ∷ cuts) (suc i) lt =
    let w : (other : List ℕ) × Contains cuts other × (get_or (map key_of cuts) i 0 ≡ key_of other) =
    key_at cuts i (omega arith) in
    (w.0, in_rest cut w.0 cuts w.1, w.2)

length_keys : (cuts : List (List ℕ)) → length (map key_of cuts) ≡ length cuts
length_keys [] = refl
length_keys (cut ∷ cuts) = ap suc (length_keys cuts)

linked_tail : (x : List ℕ) (xs : List (List ℕ)) → Linked LexBelow (x ∷ xs) → Linked LexBelow xs
linked_tail x [] links = tt
linked_tail x (y ∷ xs) links = links.1

keys_ascending : (n : ℕ) (cuts : List (List ℕ)) → Linked LexBelow cuts
    → ((cut : List ℕ) → Contains cuts cut → (length cut ≡ n) × AreDigits cut) → (i j : ℕ) → i < j → j < length cuts
    → get_or (map key_of cuts) i 0 < get_or (map key_of cuts) j 0
keys_ascending n [] links each i j less lt = absurd (omega arith)
keys_ascending n (cut ∷ cuts) links each i zero less lt = absurd (omega arith)
keys_ascending n (cut ∷ cuts) links each zero (suc j) less lt =
    let w : (other : List ℕ) × Contains cuts other × (get_or (map key_of cuts) j 0 ≡ key_of other) =
    key_at cuts j (omega arith) in
    let a : (length cut ≡ n) × AreDigits cut = each cut (in_head cut cuts) in
    let b : (length w.0 ≡ n) × AreDigits w.0 = each w.0 (in_rest cut w.0 cuts w.1) in
    let lt' : key_of cut < key_of w.0 =
    lex_key cut w.0 (lex_later cut w.0 cuts links w.1) (a.0 ∙ sym b.0) a.1 b.1 in
    rw w.2 lt'
keys_ascending n (cut ∷ cuts) links each (suc i) (suc j) less lt =
    keys_ascending n cuts (linked_tail cut cuts links) (λ other has. each other (in_rest cut other cuts has)) i j
    (omega arith) (omega arith)

pub are_keys : (n : ℕ) (cuts : List (List ℕ)) → Linked LexBelow cuts
    → ((cut : List ℕ) → Contains cuts cut → (length cut ≡ n) × AreDigits cut) → AreKeys n (map key_of cuts)
are_keys n cuts links each = record {
  below = λ i lt.
      let w : (cut : List ℕ) × Contains cuts cut × (get_or (map key_of cuts) i 0 ≡ key_of cut) =
      key_at cuts i (omega (arith, length_keys cuts)) in
      let a : (length w.0 ≡ n) × AreDigits w.0 = each w.0 w.1 in
      rw w.2 (subst (λ (m : ℕ). key_of w.0 < count_base ^ m) a.0 (key_below w.0 a.1));
  ascending = λ i j less lt. keys_ascending n cuts links each i j less (omega (arith, length_keys cuts));
}

pub cuts_again : (n : ℕ) (cuts : List (List ℕ))
    → ((cut : List ℕ) → Contains cuts cut → (length cut ≡ n) × AreDigits cut)
    → map (λ key. digits n key) (map key_of cuts) ≡ cuts
cuts_again n [] each = refl
cuts_again n (cut ∷ cuts) each =
    let a : (length cut ≡ n) × AreDigits cut = each cut (in_head cut cuts) in
    let here : digits n (key_of cut) ≡ cut =
    subst (λ (m : ℕ). digits m (key_of cut) ≡ cut) a.0 (digits-key cut a.1) in
    ap₂ ◌∷◌ here (cuts_again n cuts (λ other has. each other (in_rest cut other cuts has)))
