-- Values under names, as they are put one after another.
use Rattle.std.proofs.Common.{◌≡◌, ℕ, ◌+◌, ◌<◌, ◌≤◌, List, length, map, drop, get_or, sym, ap, ◌∙◌}
use Rattle.std.proofs.lemmas.List.{at_drop_all, at_drop_more}
use Rattle.serde_json.specs.Data.{Data, Members, put}
use Rattle.out_json.specs.JsonReports.{put_all}

-- one more
pub one_more_put : {A B : Type 0} (f : B → List ℕ × Data) (g : A → B) (xs : List A) (i : ℕ) (d : A)
    (fields more whole : Members) → i < length xs
    → more ≡ put (f (g (get_or xs i d))).0 (f (g (get_or xs i d))).1 fields
    → put_all (map f (map g (drop i xs))) fields ≡ whole → put_all (map f (map g (drop (i + 1) xs))) more ≡ whole
one_more_put f g xs i d fields more whole within put_in before =
    ap (put_all (map f (map g (drop (i + 1) xs)))) put_in
    ∙ sym (at_drop_more (λ rest. put_all (map f (map g rest)) fields) xs i d within)
    ∙ before

-- all are put
pub no_more_put : {A B : Type 0} (f : B → List ℕ × Data) (g : A → B) (xs : List A) (i : ℕ) (fields whole : Members)
    → length xs ≤ i → put_all (map f (map g (drop i xs))) fields ≡ whole → fields ≡ whole
no_more_put f g xs i fields whole all before =
    sym (at_drop_all (λ rest. put_all (map f (map g rest)) fields) xs i all) ∙ before
