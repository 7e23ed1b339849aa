-- The number that an option names is the one that its text is.
use Rattle.std.proofs.Common.{◌≡◌, ◌∙◌, ℕ, List, Option, None, Some, ap, codes, refl, subst, sym}
use Rattle.std.specs.Prelude.{IfSome}
use Rattle.std.specs.Str.Parse.{digits_value, without_leading_plus}
use Rattle.clap.specs.Walk.{Row, Text, first_of}
use Rattle.app_arguments.specs.Arguments.{HasThreads, IsNumberText, IsPlace, IsWorkers, MayNameNumber, NamesNumber, NamesThreads}
use Rattle.app_arguments.specs.Places.{Place, OnPort, OnSocket}
use Rattle.app_arguments.specs.Views.{Finds}
use Rattle.app_arguments.specs.declared.workers.Workers.{Workers}

pub some_same : {A : Type 0} (a b : A) → Some a ≡ Some b → a ≡ b
some_same a b e = cc

pub none_some : {A : Type 0} (found : Option A) (a : A) → found ≡ None → ¬ (found ≡ Some a)
none_some found a none some = cc

value_of_text : (text : Text) (n : ℕ) → IsNumberText text n → n ≡ digits_value 10 (without_leading_plus text)
value_of_text text n (digits, is) = is

-- an option has one number
pub one_number : (rows : List Row) (id : Text) (m n : ℕ) → NamesNumber rows id m → NamesNumber rows id n → m ≡ n
one_number rows id m n (text, found, is) (other, other_found, other_is) =
    value_of_text text m is ∙ (ap (λ (t : Text). digits_value 10 (without_leading_plus t))
    (some_same text other (sym found ∙ other_found)) ∙ sym (value_of_text other n other_is))

-- without a text there is no number
pub without_text : (rows : List Row) (id : Text) → first_of id rows ≡ None → (n : ℕ) → ¬ NamesNumber rows id n
without_text rows id none n (text, found, is) = none_some (first_of id rows) text none found

-- the number of a text, or none if the text is no number
pub number_found : (rows : List Row) (id text : Text) → first_of id rows ≡ Some text → (r : Option ℕ)
    → IfSome r (IsNumberText text) → (r ≡ None → (n : ℕ) → ¬ IsNumberText text n) → MayNameNumber rows id r
number_found rows id text is None some none = λ n names. none refl n
    (subst (λ (t : Text). IsNumberText t n) (some_same names.0 text (sym names.1 ∙ is)) names.2)
number_found rows id text is (Some n) some none = (text, is, some)

-- an option that has no number
pub no_number : (rows : List Row) (id : Text) (r : Option ℕ) → MayNameNumber rows id r → r ≡ None → (n : ℕ)
    → ¬ NamesNumber rows id n
no_number rows id None names is = names
no_number rows id (Some m) names is = cc

-- an option that has one
pub some_number : (rows : List Row) (id : Text) (r : Option ℕ) (n : ℕ) → MayNameNumber rows id r → r ≡ Some n
    → NamesNumber rows id n
some_number rows id r n names is = subst (MayNameNumber rows id) is names

-- threads that were made of the option's number, or none if there can't be so many
pub threads_found : (rows : List Row) (id : Text) (n : ℕ) → NamesNumber rows id n → (r : Option Workers)
    → IfSome r (λ workers. workers.number ≡ n) → IfSome r (λ workers. IsWorkers workers.number)
    → (r ≡ None → ¬ IsWorkers n) → Finds (NamesThreads rows id) (λ (workers : Workers). workers.number) r
threads_found rows id n named None same in_range none = λ m names.
    none refl (subst IsWorkers (one_number rows id m n names.0 named) names.1)
threads_found rows id n named (Some workers) same in_range none =
    (subst (λ (m : ℕ). NamesNumber rows id m) (sym same) named, in_range)

-- what isn't found is nowhere
pub finds_none : {A B : Type 0} (P : B → Type 0) (view : A → B) (found : Option A) → Finds P view found → found ≡ None
    → (value : B) → ¬ P value
finds_none P view None none is = none
finds_none P view (Some a) some is = cc

-- there is no number of threads
pub no_threads : (rows : List Row) (id : Text) (r : Option Workers)
    → Finds (NamesThreads rows id) (λ (workers : Workers). workers.number) r → r ≡ None → ¬ HasThreads rows id
no_threads rows id r found is names =
    finds_none (NamesThreads rows id) (λ (workers : Workers). workers.number) r found is names.0
    (names.1, (names.2, names.3))

-- the number of an option that has none
pub no_place : (rows : List Row) (address path file : Option Text) (number : Option ℕ)
    → MayNameNumber rows (codes "PORT") number → number ≡ None → path ≡ None → (place : Place)
    → ¬ IsPlace rows address path file place
no_place rows address path file number named none no_path (OnPort of port) is =
    no_number rows (codes "PORT") number named none port is.0
no_place rows address path file number named none no_path (OnSocket of) is = none_some path of no_path is.0
