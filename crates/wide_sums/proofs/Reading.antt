-- What is read of lists that are seen by views.
use Rattle.std.proofs.Common.{◌≡◌, ◌+◌, ◌<◌, ℕ, zero, suc, List, [], ◌∷◌, ◌++◌, All, drop, get_or, length, map, take, sym, ap, ◌∙◌, subst, arith}
use Rattle.std.specs.Global.{Global}
use Rattle.std.specs.Prelude.{Contains, Option, None, Vec}
use Rattle.std.proofs.lemmas.List.{drop_more, get_or_read, length-map, map-append, take_more}
use Rattle.std.proofs.lemmas.List.Elements.{All-get_or}
use Rattle.def_model.specs.Predicates.{Recorded}
use Rattle.def_wide.specs.Terms as model
use Rattle.wide_sums.specs.Literals.{AreOf, literal_at, literal_view, no_literal, term_at, terms_at}
use Rattle.wide_sums.specs.Places.{IsPlaceOf, IsPrepared}
use Rattle.wide_sums.specs.declared.literal.Literal.{Literal}
use Rattle.wide_terms.specs.Rows.{numbers_view}
use Rattle.wide_terms.specs.declared.row.TruthRow.{TruthRow}

map_read : {X Y : Type 0} (f : X → Y) (xs : List X) (i : ℕ) (x : X) (d : Y) → i < length xs → x ≡ get_or xs i x
    → get_or (map f xs) i d ≡ f x
map_read f [] i x d lt at = absurd (omega arith)
map_read f (y ∷ xs) zero x d lt at = ap f (sym at)
map_read f (y ∷ xs) (suc i) x d lt at = map_read f xs i x d (omega arith) at

-- one comparison more
pub views_more : (literals : List Literal) (i : ℕ) (l : Literal) → i < length literals → l ≡ get_or literals i l
    → map literal_view (take (i + 1) literals) ≡ map literal_view (take i literals) ++ literal_view l ∷ []
views_more literals i l lt at =
    ap (map literal_view) (take_more literals i l lt)
    ∙ (map-append literal_view (take i literals) (get_or literals i l ∷ [])
    ∙ ap (λ (x : Literal). map literal_view (take i literals) ++ literal_view x ∷ []) (sym at))

-- the first comparison that is left of a term
pub term_left : (literals : List Literal) (term : List ℕ) (k : ℕ) (l : Literal) → k < length term
    → All (λ i. i < length literals) term → l ≡ get_or literals (get_or term k 0) l
    → term_at literals (drop k term) ≡ literal_view l ∷ term_at literals (drop (k + 1) term)
term_left literals term k l lt all at =
    ap (term_at literals) (drop_more term k 0 lt)
    ∙ ap (λ (x : model.Literal). x ∷ term_at literals (drop (k + 1) term))
    (map_read literal_view literals (get_or term k 0) l no_literal
    (All-get_or (λ i. i < length literals) term k 0 lt all) at)

-- its place
pub place_read : (r : Recorded) (rows : List TruthRow) (literals : List Literal) (places : List (Option ℕ)) (i : ℕ)
    (l : Literal) (place : Option ℕ) → IsPrepared r rows (map literal_view literals) places → i < length literals
    → l ≡ get_or literals i l → place ≡ get_or places i place → IsPlaceOf r rows (literal_view l) place
place_read r rows literals places i l place are lt at at' =
    let many = length-map literals literal_view in
    let first : literal_at literals i ≡ literal_view l = map_read literal_view literals i l no_literal lt at in
    let second : get_or places i None ≡ place =
    sym (get_or_read places i place (omega (arith, many, are.one_each, lt)) at' None) in
    subst (λ (p : Option ℕ). IsPlaceOf r rows (literal_view l) p) second
    (subst (λ (x : model.Literal). IsPlaceOf r rows x (get_or places i None)) first
    (are.each i (omega (arith, many, lt))))

-- the term with a number
pub term_read : (literals : List Literal) (terms : List (Vec ℕ Global)) (i : ℕ) (term : Vec ℕ Global)
    (numbers : List ℕ) → i < length terms → term ≡ get_or terms i term → numbers ≡ term.items
    → get_or (terms_at literals (numbers_view terms)) i [] ≡ term_at literals numbers
term_read literals terms i term numbers lt at is =
    map_read (term_at literals) (numbers_view terms) i numbers []
    (omega (arith, length-map terms (λ (t : Vec ℕ Global). t.items), lt))
    (is ∙ sym (map_read (λ (t : Vec ℕ Global). t.items) terms i term numbers lt at))

-- it is of comparisons that are there
pub term_within : (literals : List Literal) (terms : List (Vec ℕ Global)) (i : ℕ) (term : Vec ℕ Global)
    (numbers : List ℕ) → i < length terms → term ≡ get_or terms i term → numbers ≡ term.items
    → AreOf literals (numbers_view terms) → All (λ k. k < length literals) numbers
term_within literals terms i term numbers lt at is all =
    subst (All (λ k. k < length literals))
    (map_read (λ (t : Vec ℕ Global). t.items) terms i term [] lt at ∙ sym is)
    (All-get_or (All (λ k. k < length literals)) (numbers_view terms) i []
    (omega (arith, length-map terms (λ (t : Vec ℕ Global). t.items), lt)) all)

-- there are as many terms as were wanted
pub many_terms : (literals : List Literal) (terms : List (Vec ℕ Global)) (wanted : List (List model.Literal))
    → terms_at literals (numbers_view terms) ≡ wanted → length terms ≡ length wanted
many_terms literals terms wanted is =
    sym (length-map terms (λ (t : Vec ℕ Global). t.items))
    ∙ (sym (length-map (numbers_view terms) (term_at literals)) ∙ ap length is)

-- a comparison of a list is in the list's view
pub view_in : (literals : List Literal) (i : ℕ) (l : Literal) → i < length literals → l ≡ get_or literals i l
    → Contains (map literal_view literals) (literal_view l)
view_in literals i l lt at = (
  i,
  omega (arith, length-map literals literal_view, lt),
  map_read literal_view literals i l (literal_view l) lt at,
)
