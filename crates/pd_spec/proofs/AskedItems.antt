-- Predicates that are asked, one more at the end.
use Rattle.std.proofs.Common.{◌≡◌, ℕ, ◌+◌, ◌<◌, List, [], ◌∷◌, ◌++◌, Bor, codes, get_or, length, map, take, refl, sym, ap, ap₂, ◌∙◌, arith}
use Rattle.std.proofs.lemmas.List.{length-map, length-take, map-append, take_more}
use Rattle.serde_json.specs.Data.{Data, Items, Members, array, no_items, item, put}
use Rattle.serde_json.specs.View.{items_of, items_view, view}
use Rattle.serde_json.specs.declared.value.Value.{Value}
use Rattle.def_format.specs.Documents.{asked_predicate, asked_predicates, with_predicates}

-- the items, and one more
abbrev pub with_last : Items → Data → Items
with_last no_items last = item last no_items
with_last (item first others) last = item first (with_last others last)

pub items_with_last : (values : List Data) (last : Data)
    → items_of (values ++ last ∷ []) ≡ with_last (items_of values) last
items_with_last [] last = refl
items_with_last (first ∷ others) last = ap (item first) (items_with_last others last)

pub asked_with_last : (n : ℕ) (texts : List (List ℕ)) (last : List ℕ)
    → asked_predicates n (texts ++ last ∷ [])
    ≡ with_last (asked_predicates n texts) (asked_predicate (n + length texts) last)
asked_with_last n [] last = ap (λ k. item (asked_predicate k last) no_items) (omega arith)
asked_with_last n (text ∷ texts) last =
    ap (item (asked_predicate n text)) (asked_with_last (n + 1) texts last
    ∙ ap (λ k. with_last (asked_predicates (n + 1) texts) (asked_predicate k last)) (omega arith))

-- the values of one text more
pub one_more : (texts : List (Bor (List ℕ))) (i : ℕ) (d : Bor (List ℕ)) (values : List Value) (value : Value)
    (number : ℕ) → i < length texts → number ≡ i + 1
    → items_view values ≡ asked_predicates 1 (map (λ text. text.now) (take i texts))
    → view value ≡ asked_predicate number (get_or texts i d).now
    → items_view (values ++ value ∷ []) ≡ asked_predicates 1 (map (λ text. text.now) (take (i + 1) texts))
one_more texts i d values value number lt count asked is =
    let said : Bor (List ℕ) → List ℕ = λ text. text.now in
    let seen : items_view (values ++ value ∷ [])
    ≡ with_last (asked_predicates 1 (map said (take i texts))) (asked_predicate (i + 1) (get_or texts i d).now) =
    ap items_of (map-append view values (value ∷ [])) ∙ items_with_last (map view values) (view value)
    ∙ ap₂ with_last asked (is ∙ ap (λ n. asked_predicate n (get_or texts i d).now) count) in
    let many : length (map said (take i texts)) ≡ i =
    length-map (take i texts) said ∙ omega (arith, length-take i texts, lt) in
    seen ∙ ap (λ n. with_last (asked_predicates 1 (map said (take i texts)))
    (asked_predicate n (get_or texts i d).now)) (omega (arith, many))
    ∙ sym (ap (λ taken. asked_predicates 1 (map said taken)) (take_more texts i d lt)
    ∙ ap (asked_predicates 1) (map-append said (take i texts) (get_or texts i d ∷ []))
    ∙ asked_with_last 1 (map said (take i texts)) (get_or texts i d).now)

-- predicates are asked for
pub some_asked : (texts : List (List ℕ)) (fields : Members) → 0 < length texts
    → put (codes "predicates") (array (asked_predicates 1 texts)) fields ≡ with_predicates texts fields
some_asked [] fields some = absurd (omega (arith, some))
some_asked (text ∷ texts) fields some = refl
