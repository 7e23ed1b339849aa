-- What is seen stays seen.
use Rattle.std.proofs.Common.{◌≡◌, ◌+◌, ◌<◌, ◌⊎◌, inl, inr, ℕ, zero, suc, List, [], ◌∷◌, ◌++◌, All, get_or, length, length-append, map, set, take, refl, sym, ap, ◌∙◌, subst, arith}
use Rattle.std.specs.Prelude.{⊤, Contains, Vec, slice_index_or}
use Rattle.std.specs.Global.{Global}
use Rattle.std.proofs.lemmas.Bool.{cases_eq}
use Rattle.std.proofs.lemmas.Grind.{get_or-set_at}
use Rattle.std.proofs.lemmas.List.{get_or-set_other, get_or_append_left, get_or_push, length-set, map-set}
use Rattle.def_model.specs.Predicates.{Sign, Term, Number, Variable, Times, Predicate, Always, Never, Compare, Not, And, Or}
use Rattle.def_orders.specs.Orders.{IsOver, SumIsOver, TermIsOver}
use Rattle.judge_orders.specs.Growth.{AddsNoOther, Grows}
use Rattle.judge_orders.specs.Lists.{lists_view}
use Rattle.std.proofs.lemmas.List.Elements.{All-push}
use Rattle.def_format.specs.Documents.{NamedPredicate}
use Rattle.pd_pred.specs.Views.{predicate_view}
use Rattle.pd_spec.specs.Named.{named_view}
use Rattle.pd_spec.specs.declared.named.NamedPred.{NamedPred}
use Rattle.pd_pred.specs.Trees.{sign_view, signed_term_view, term_view, terms_view}
use Rattle.pd_pred.specs.declared.tree.SignedTerm.{SignedTerm}
use Rattle.judge_orders.proofs.Places.{list_at, lists_length, map_more}

pub grows_none : (named : List (List ℕ)) → Grows named named
grows_none named = record { same = refl; stay = λ p v is. is }

pub grows_on : (first second third : List (List ℕ)) → Grows first second → Grows second third → Grows first third
grows_on first second third one two = record {
  same = two.same ∙ one.same;
  stay = λ p v is. two.stay p v (one.stay p v is);
}

pub term_stays : (old new : List (List ℕ)) (term : Term) → Grows old new → TermIsOver old term → TermIsOver new term
term_stays old new (Number k) grows over = tt
term_stays old new (Variable p v) grows over = λ lt. grows.stay p v (over (omega (arith, grows.same)))
term_stays old new (Times k p v) grows over = λ lt. grows.stay p v (over (omega (arith, grows.same)))

pub sum_stays : (old new : List (List ℕ)) (terms : List (Sign × Term)) → Grows old new → SumIsOver old terms
    → SumIsOver new terms
sum_stays old new [] grows over = tt
sum_stays old new ((sign, term) ∷ rest) grows over =
    (term_stays old new term grows over.0, sum_stays old new rest grows over.1)

pub over_stays : (old new : List (List ℕ)) (predicate : Predicate) → Grows old new → IsOver old predicate
    → IsOver new predicate
over_stays old new Always grows over = tt
over_stays old new Never grows over = tt
over_stays old new (Compare left comparison right) grows over =
    (sum_stays old new left grows over.0, sum_stays old new right grows over.1)
over_stays old new (Not inner) grows over = over_stays old new inner grows over
over_stays old new (And left right) grows over =
    (over_stays old new left grows over.0, over_stays old new right grows over.1)
over_stays old new (Or left right) grows over =
    (over_stays old new left grows over.0, over_stays old new right grows over.1)

sum_push : (named : List (List ℕ)) (terms : List (Sign × Term)) (sign : Sign) (term : Term) → SumIsOver named terms
    → TermIsOver named term → SumIsOver named (terms ++ (sign, term) ∷ [])
sum_push named [] sign term over here = (here, tt)
sum_push named ((other, before) ∷ terms) sign term over here = (over.0, sum_push named terms sign term over.1 here)

-- one more term
pub sum_more : (named : List (List ℕ)) (terms : List SignedTerm) (i : ℕ) (d : SignedTerm) → i < length terms
    → SumIsOver named (terms_view (take i terms)) → TermIsOver named (term_view (get_or terms i d).term)
    → SumIsOver named (terms_view (take (i + 1) terms))
sum_more named terms i d lt over here =
    subst (SumIsOver named) (sym (map_more signed_term_view terms i d lt))
    (sum_push named (terms_view (take i terms)) (sign_view (get_or terms i d).sign) (term_view (get_or terms i d).term)
    over here)

-- the terms were seen, and one more
pub sum_on : (old new : List (List ℕ)) (view terms : List SignedTerm) (i : ℕ) (d : SignedTerm) → view ≡ terms
    → i < length view → Grows old new → SumIsOver old (terms_view (take i terms))
    → TermIsOver new (term_view (get_or view i d).term) → SumIsOver new (terms_view (take (i + 1) terms))
sum_on old new view terms i d same lt grows over here =
    subst (λ (xs : List SignedTerm). SumIsOver new (terms_view (take (i + 1) xs))) same
    (sum_more new view i d lt
    (subst (λ (xs : List SignedTerm). SumIsOver new (terms_view (take i xs))) (sym same)
    (sum_stays old new (terms_view (take i terms)) grows over)) here)

-- a list of variables that has grown in its place
pub grows_at : (lists : List (Vec ℕ Global)) (p : ℕ) (old new d : Vec ℕ Global) → p < length lists
    → old ≡ get_or lists p d → ((v : ℕ) → Contains old.items v → Contains new.items v)
    → Grows (lists_view lists) (lists_view (set lists p new))
grows_at lists p old new d lt is stay =
    subst (Grows (lists_view lists)) (sym (map-set (λ (list : Vec ℕ Global). list.items) lists p new)) (record {
      same = length-set (lists_view lists) p new.items;
      stay = λ q v there. go q v there (cases_eq q p);
    })
  where
    within : p < length (lists_view lists)
    within = omega (arith, lt, lists_length lists)

    go : (q v : ℕ) → Contains (slice_index_or (lists_view lists) q []) v → (q ≡ p) ⊎ (q ≡ p → ⊥)
        → Contains (slice_index_or (set (lists_view lists) p new.items) q []) v
    go q v there (inl same) =
        subst (λ (xs : List ℕ). Contains xs v) (sym (get_or-set_at (lists_view lists) p q new.items [] same within))
        (stay v (subst (λ (xs : List ℕ). Contains xs v)
        (ap (λ (k : ℕ). get_or (lists_view lists) k []) same
        ∙ (list_at lists p d lt ∙ ap (λ (list : Vec ℕ Global). list.items) (sym is))) there))
    go q v there (inr other) =
        subst (λ (xs : List ℕ). Contains xs v) (sym (get_or-set_other (lists_view lists) p q new.items [] other)) there

-- and what is there then
pub there_at : (lists : List (Vec ℕ Global)) (p : ℕ) (new : Vec ℕ Global) (v : ℕ) → p < length lists
    → Contains new.items v → Contains (slice_index_or (lists_view (set lists p new)) p []) v
there_at lists p new v lt there =
    subst (λ (all : List (List ℕ)). Contains (slice_index_or all p []) v)
    (sym (map-set (λ (list : Vec ℕ Global). list.items) lists p new))
    (subst (λ (xs : List ℕ). Contains xs v)
    (sym (get_or-set_at (lists_view lists) p p new.items [] refl (omega (arith, lt, lists_length lists)))) there)

-- no other variable has come
pub added_at : (lists : List (Vec ℕ Global)) (p var : ℕ) (old new d : Vec ℕ Global) → p < length lists
    → old ≡ get_or lists p d → ((v : ℕ) → Contains new.items v → Contains old.items v ⊎ (var ≡ v))
    → AddsNoOther (lists_view lists) (lists_view (set lists p new))
    (λ (enough : List (List ℕ)). p < length enough → Contains (slice_index_or enough p []) var)
added_at lists p var old new d lt is just enough grows here =
    subst (λ (seen : List (List ℕ)). Grows seen enough)
    (sym (map-set (λ (list : Vec ℕ Global). list.items) lists p new)) (record {
      same = grows.same ∙ sym (length-set (lists_view lists) p new.items);
      stay = λ q v there. go q v there (cases_eq q p);
    })
  where
    within : p < length (lists_view lists)
    within = omega (arith, lt, lists_length lists)

    was : old.items ≡ slice_index_or (lists_view lists) p []
    was = ap (λ (list : Vec ℕ Global). list.items) is ∙ sym (list_at lists p d lt)

    either : (v : ℕ) → Contains old.items v ⊎ (var ≡ v) → Contains (slice_index_or enough p []) v
    either v (inl before) = grows.stay p v (subst (λ (xs : List ℕ). Contains xs v) was before)
    either v (inr same) =
        subst (Contains (slice_index_or enough p [])) same (here (omega (arith, grows.same, within)))

    go : (q v : ℕ) → Contains (slice_index_or (set (lists_view lists) p new.items) q []) v → (q ≡ p) ⊎ (q ≡ p → ⊥)
        → Contains (slice_index_or enough q []) v
    go q v there (inl same) =
        subst (λ (k : ℕ). Contains (slice_index_or enough k []) v) (sym same)
        (either v (just v (subst (λ (xs : List ℕ). Contains xs v)
        (get_or-set_at (lists_view lists) p q new.items [] same within) there)))
    go q v there (inr other) =
        grows.stay q v (subst (λ (xs : List ℕ). Contains xs v)
        (get_or-set_other (lists_view lists) p q new.items [] other) there)

-- ---- the terms of a sum, and the last of them

sum_split : (named : List (List ℕ)) (terms : List (Sign × Term)) (sign : Sign) (term : Term)
    → SumIsOver named (terms ++ (sign, term) ∷ []) → SumIsOver named terms × TermIsOver named term
sum_split named [] sign term over = (tt, over.0)
sum_split named ((other, before) ∷ terms) sign term over =
    let parts = sum_split named terms sign term over.1 in ((over.0, parts.0), parts.1)

pub sum_parts : (lists : List (List ℕ)) (view terms : List SignedTerm) (i : ℕ) (d : SignedTerm) → view ≡ terms
    → i < length view → SumIsOver lists (terms_view (take (i + 1) terms))
    → SumIsOver lists (terms_view (take i terms)) × TermIsOver lists (term_view (get_or view i d).term)
sum_parts lists view terms i d same lt over =
    let all : SumIsOver lists (terms_view (take (i + 1) view)) =
    subst (λ (xs : List SignedTerm). SumIsOver lists (terms_view (take (i + 1) xs))) (sym same) over in
    let parts =
    sum_split lists (terms_view (take i view)) (sign_view (get_or view i d).sign) (term_view (get_or view i d).term)
    (subst (SumIsOver lists) (map_more signed_term_view view i d lt) all) in
    (subst (λ (xs : List SignedTerm). SumIsOver lists (terms_view (take i xs))) same parts.0, parts.1)

-- ---- lists of no variable

abbrev pub AreEmpty : List (Vec ℕ Global) → Type 0
AreEmpty [] = ⊤
AreEmpty (list ∷ rest) = (list.items ≡ []) × AreEmpty rest

pub empty_more : (lists : List (Vec ℕ Global)) (list : Vec ℕ Global) → AreEmpty lists → list.items ≡ []
    → AreEmpty (lists ++ list ∷ [])
empty_more [] list empty is = (is, tt)
empty_more (first ∷ lists) list empty is = (empty.0, empty_more lists list empty.1 is)

none_in : (lists : List (Vec ℕ Global)) → AreEmpty lists → (p v : ℕ)
    → Contains (slice_index_or (lists_view lists) p []) v → ⊥
none_in [] empty zero v (i, within, at) = omega (arith, within)
none_in [] empty (suc p) v (i, within, at) = omega (arith, within)
none_in (list ∷ lists) empty zero v (i, within, at) =
    let none : length list.items ≡ 0 = ap (λ (xs : List ℕ). length xs) empty.0 in omega (arith, none, within)
none_in (list ∷ lists) empty (suc p) v has = none_in lists empty.1 p v has

pub empty_grows : (lists : List (Vec ℕ Global)) (n : ℕ) → AreEmpty lists → length lists ≡ n → (others : List (List ℕ))
    → length others ≡ n → Grows (lists_view lists) others
empty_grows lists n empty many others as_many = record {
  same = as_many ∙ (sym many ∙ sym (lists_length lists));
  stay = λ p v has. absurd (none_in lists empty p v has);
}

-- ---- the variables of predicates

all_split : {A : Type 0} (P : A → Type 0) (xs : List A) (x : A) → All P (xs ++ x ∷ []) → All P xs × P x
all_split P xs x all = (
  λ i d lt. subst P (get_or_append_left xs (x ∷ []) d i lt) (all i d (omega (arith, long, lt))),
  subst P (get_or_push xs x x (length xs) refl) (all (length xs) x (omega (arith, long))),
)
  where
    long : length (xs ++ x ∷ []) ≡ length xs + 1
    long = length-append xs (x ∷ [])

-- the predicates, and the last of them
pub over_parts : (lists : List (List ℕ)) (predicates : List NamedPred) (i : ℕ) (d : NamedPred) (tree : Predicate)
    → i < length predicates → tree ≡ predicate_view (get_or predicates i d).pred
    → All (λ (asked : NamedPredicate). IsOver lists asked.predicate) (map named_view (take (i + 1) predicates))
    → All (λ (asked : NamedPredicate). IsOver lists asked.predicate) (map named_view (take i predicates))
    × IsOver lists tree
over_parts lists predicates i d tree lt same over =
    let parts =
    all_split (λ (asked : NamedPredicate). IsOver lists asked.predicate) (map named_view (take i predicates))
    (named_view (get_or predicates i d))
    (subst (All (λ (asked : NamedPredicate). IsOver lists asked.predicate)) (map_more named_view predicates i d lt)
    over) in (parts.0, subst (IsOver lists) (sym same) parts.1)

-- one more predicate
pub all_over : (old new : List (List ℕ)) (predicates : List NamedPred) (i : ℕ) (d : NamedPred) (tree : Predicate)
    → i < length predicates → Grows old new
    → All (λ (asked : NamedPredicate). IsOver old asked.predicate) (map named_view (take i predicates))
    → tree ≡ predicate_view (get_or predicates i d).pred → IsOver new tree
    → All (λ (asked : NamedPredicate). IsOver new asked.predicate) (map named_view (take (i + 1) predicates))
all_over old new predicates i d tree lt grows over same here =
    subst (All (λ (asked : NamedPredicate). IsOver new asked.predicate)) (sym (map_more named_view predicates i d lt))
    (All-push (λ (asked : NamedPredicate). IsOver new asked.predicate) (map named_view (take i predicates))
    (named_view (get_or predicates i d))
    (λ k e less. over_stays old new (get_or (map named_view (take i predicates)) k e).predicate grows (over k e less))
    (subst (IsOver new) same here))
