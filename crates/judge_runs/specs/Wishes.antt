-- What is wished of predicates, and which answers are not as wished.
use Rattle.std.specs.Prelude.{ℕ, ◌&&◌, not, Bool, true, false, if◌then◌else◌, List, [], ◌∷◌, codes, filter, flat_map, map, take, Option, Some, None}
use Rattle.std.specs.Str.{bytes_eq}
use Rattle.def_format.specs.Documents.{NamedPredicate}
use Rattle.def_format.specs.Lists.{is_one_of}
use Rattle.def_format.specs.Reports.{Answer, Possibly, Definitely, definitely_words, possibly_words, spaced}

-- which answers
pub data Kind : Type 0 where
  -- some consistent cut satisfies the predicate
  PossiblyYes : Kind
  -- none does
  PossiblyNo : Kind
  -- every observation passes through a cut that satisfies it
  DefinitelyYes : Kind
  -- some observation passes through none
  DefinitelyNo : Kind
  -- one of the two questions has no answer within the width
  SomeUnknown : Kind

-- The answers of this kind, of the predicate of this name, or of any if there is no name. A wish is a condition too:
-- the answers of its predicate are to be of its kind.
pub record Condition : Type 0 where
  pub name : Option (List ℕ)
  pub kind : Kind

-- ---- whether an answer is as wished

-- the answers to both questions are of this kind
abbrev pub is_of_kind : Kind → Possibly → Definitely → Bool
is_of_kind PossiblyYes (Possibly.Yes counts) _ = true
is_of_kind PossiblyNo Possibly.No _ = true
is_of_kind DefinitelyYes _ (Definitely.Yes level) = true
is_of_kind DefinitelyNo _ (Definitely.No path) = true
is_of_kind SomeUnknown (Possibly.Unknown level) _ = true
is_of_kind SomeUnknown _ (Definitely.Unknown level) = true
is_of_kind _ _ _ = false

-- a condition is on the predicate of an answer
abbrev pub is_for : Option (List ℕ) → Answer → Bool
is_for None answer = true
is_for (Some name) answer = bytes_eq answer.name name

-- a wish is for the predicate of an answer, which isn't as wished
abbrev pub is_broken : Condition → Answer → Bool
is_broken wish answer = is_for wish.name answer && not (is_of_kind wish.kind answer.possibly answer.definitely)

-- ---- what is said of that

-- the question that decides about a wish, and the answer's first word in a report
abbrev pub answer_words : Kind → Answer → List (List ℕ)
answer_words DefinitelyYes answer = codes "definitely" ∷ take 1 (definitely_words answer.definitely)
answer_words _ answer = codes "possibly" ∷ take 1 (possibly_words answer.possibly)

-- an answer that isn't as wished: its predicate, the question and the answer
abbrev pub broken_text : Kind → Answer → List ℕ
broken_text kind answer = spaced (answer.name ∷ answer_words kind answer)

-- the answers that aren't as wished by this wish
abbrev pub broken_by : List Answer → Condition → List (List ℕ)
broken_by answers wish = map (broken_text wish.kind) (filter (is_broken wish) answers)

-- the same of all wishes, in their order
abbrev pub broken : List Condition → List Answer → List (List ℕ)
broken wishes answers = flat_map (broken_by answers) wishes

-- ---- the names of wishes

-- the names of predicates
abbrev pub names_of : List NamedPredicate → List (List ℕ)
names_of predicates = map (λ (predicate : NamedPredicate). predicate.name) predicates

-- none of these is this name; of each predicate there is no name to look up
abbrev pub lacks_name : (names : List (List ℕ)) → Option (List ℕ) → Bool
lacks_name names None = false
lacks_name names (Some name) = not (is_one_of names name)

-- the first name of a wish that isn't among these, if there is one
abbrev pub first_unnamed : (names : List (List ℕ)) → List Condition → Option (List ℕ)
first_unnamed names [] = None
first_unnamed names (wish ∷ wishes) =
    if lacks_name names wish.name then wish.name else first_unnamed names wishes
