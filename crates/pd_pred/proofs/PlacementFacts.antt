-- What a reader of tokens knows of the token at its place.
use Rattle.std.proofs.Common.{◌≡◌, ℕ, true, List, [], ◌∷◌, ◌++◌, length, reverse, refl, sym, ◌∙◌, ap, append_assoc, inl, inr, arith}
use Rattle.std.specs.Prelude.{Option, Some, None, is_some, option_and_then}
use Rattle.std.specs.Option.{option_map}
use Rattle.std.proofs.lemmas.List.{reverse-append}
use Rattle.std.proofs.lemmas.List.Quantifiers.{position-Some}
use Rattle.def_format.specs.Laws.{PrefixesAreWalked, WalksGoOn, DepthsAreHeights, StacksGoOn}
use Rattle.def_format.specs.Names.{ProcessNames, process_named, var_named}
use Rattle.def_format.specs.Tokens.{Token, Word, Dot, Placed}
use Rattle.def_format.specs.Grammar.{CanGoOn}
use Rattle.def_format.specs.PrefixWalk.{AfterName, AfterDot, State, Inside, AtEnd, step, walk, start}
use Rattle.def_format.specs.OpenerStack.{opened}
use Rattle.def_format.specs.PredicateTexts.{PredicateFault, Expected, UnknownName, Depth, IsFaulty, IsUnknownName, IsUnknownProcess, IsUnknownVar, tokens_of}
use Rattle.pd_pred.specs.Placement.{Position, process_of_word, process_of_any_word, process_after, IsInNames, Steps, IsFaultAt, IsWellPlaced, IsLastName, StandsAfter}
use Rattle.pd_pred.specs.Views.{predicate_fault_view}
use Rattle.pd_pred.specs.declared.error.PredErrorKind.{PredErrorKind}
use Rattle.pd_pred.specs.declared.error.PredErrorKind.TheVariants as kinds
use Rattle.pd_pred.proofs.WalkFacts.{IsAfterName, IsAfterDot, IsAfterNoDot, into, from_dot}

-- ---- names

some_of : (o : Option State) → is_some o ≡ true → (s : State) × (o ≡ Some s)
some_of (Some s) h = (s, refl)
some_of None h = absurd (cc)

-- a word after no dot
any_word : (names : List ProcessNames) (s : State) (p : ℕ) (later : State) (w : List ℕ) → IsAfterNoDot s
    → process_of_any_word names s p later w ≡ process_of_word names p later w
any_word names (Inside (AfterDot side) d) p later w h = absurd h
any_word names (Inside _ d) p later w h = refl
any_word names AtEnd p later w h = refl

same_name : (xs ys : List Token) (a b : List ℕ) → xs ++ Word a ∷ Dot ∷ [] ≡ ys ++ Word b ∷ Dot ∷ [] → a ≡ b
same_name xs ys a b e =
    let turned : Dot ∷ Word a ∷ reverse xs ≡ Dot ∷ Word b ∷ reverse ys = sym (reverse-append xs (Word a ∷ Dot ∷ []))
    ∙ ap reverse e ∙ reverse-append ys (Word b ∷ Dot ∷ []) in
    cc

named_after_dot : (names : List ProcessNames) (before : List Token) (s : State) (p q : ℕ) → IsLastName names before s p
    → IsAfterName s → p ≡ q → (prefix : List Token) × (name : List ℕ)
    × (before ++ Dot ∷ [] ≡ prefix ++ Word name ∷ Dot ∷ []) × (process_named names name ≡ Some q)
named_after_dot names before (Inside (AfterName side) d) p q last h e =
    (last.0, last.1, rw (last.2, append_assoc last.0 (Word last.1 ∷ []) (Dot ∷ [])) refl, last.3 ∙ ap Some e)
named_after_dot names before (Inside _ d) p q last h e = absurd h
named_after_dot names before AtEnd p q last h e = absurd h

-- the last name after one token more
last_name : (names : List ProcessNames) (before : List Token) (s : State) (p : ℕ) (t : Token) (later : State) (q : ℕ)
    → IsLastName names before s p → step s t ≡ Some later → process_after names s p later t ≡ Some q
    → IsLastName names (before ++ t ∷ []) later q
last_name names before s p t (Inside (AfterName side) d) q last h k =
    let i = into s t (Inside (AfterName side) d) h in
    let known : process_after names s p (Inside (AfterName side) d) (Word i.0) ≡ Some q = rw i.1 at k in (
      before,
      i.0,
      ap (λ (token : Token). before ++ token ∷ []) i.1,
      sym (any_word names s p (Inside (AfterName side) d) i.0 i.2) ∙ known,
    )
last_name names before s p t (Inside (AfterDot side) d) q last h k =
    let i = into s t (Inside (AfterDot side) d) h in
    let known : Some p ≡ Some q = rw i.0 at k in
    let named = named_after_dot names before s p q last i.1 (cc) in
    (named.0, named.1, ap (λ (token : Token). before ++ token ∷ []) i.0 ∙ named.2, named.3)
last_name names before s p t (Inside _ d) q last h k = tt
last_name names before s p t AtEnd q last h k = tt

-- a last name is one of the names
pub in_names : (names : List ProcessNames) (before : List Token) (s : State) (p : ℕ) → IsLastName names before s p
    → IsInNames names s p
in_names names before (Inside (AfterName side) d) p last =
    (position-Some _ names p (record { name = []; vars = [] }) last.3).0
in_names names before (Inside (AfterDot side) d) p last =
    (position-Some _ names p (record { name = []; vars = [] }) last.3).0
in_names names before (Inside _ d) p last = tt
in_names names before AtEnd p last = tt

none_mapped : (p : ℕ) (o : Option ℕ) → option_map (λ var. p) o ≡ None → o ≡ None
none_mapped p None h = refl
none_mapped p (Some v) h = absurd (cc)

-- ---- the token at a place

module _ (exact : PrefixesAreWalked) (go_on : WalksGoOn) (height : DepthsAreHeights) (stack_on : StacksGoOn) where
  walk_more : (before more : List Token) (s : State) → walk start before ≡ Some s
      → walk start (before ++ more) ≡ walk s more
  walk_more before more s h = go_on start before more ∙ ap (λ o. option_and_then (λ to. walk to more) o) h

  walk_one : (before : List Token) (s : State) (t : Token) → walk start before ≡ Some s
      → walk start (before ++ t ∷ []) ≡ step s t
  walk_one before s t h = walk_more before (t ∷ []) s h ∙ go (step s t)
    where
      go : (o : Option State) → option_and_then (λ later. walk later []) o ≡ o
      go None = refl
      go (Some later) = refl

  can_of_walk : (tokens : List Token) (s : State) → walk start tokens ≡ Some s → CanGoOn tokens
  can_of_walk tokens s h = (exact tokens).0 (rw h refl)

  walk_of_can : (tokens : List Token) → CanGoOn tokens → (s : State) × (walk start tokens ≡ Some s)
  walk_of_can tokens can = some_of (walk start tokens) ((exact tokens).1 can)

  pub stands_after : (names : List ProcessNames) (old new : Position) (before : List Token) (t : Token)
      → StandsAfter names old before → Steps names old t new → StandsAfter names new (before ++ t ∷ [])
  stands_after names old new before t stands steps = record {
    is_walked = walk_one before old.state t stands.is_walked ∙ steps.goes_on;
    is_open = steps.opens_more ∙ ap (λ stack. opened stack t) stands.is_open ∙ sym (stack_on [] before (t ∷ []));
    is_named =
        last_name names before old.state old.process t new.state new.process stands.is_named steps.goes_on
        steps.is_known;
  }

  -- ---- a fault

  unknown_process : (names : List ProcessNames) (before : List Token) (s : State) (p : ℕ) (w : List ℕ) (later : State)
      → walk start before ≡ Some s → step s (Word w) ≡ Some later → process_of_word names p later w ≡ None
      → IsUnknownProcess names before w
  unknown_process names before s p w (Inside (AfterName side) d) walked h k = (
    can_of_walk (before ++ Word w ∷ Dot ∷ []) (Inside (AfterDot side) d)
        (walk_more before (Word w ∷ Dot ∷ []) s walked
        ∙ ap (λ o. option_and_then (λ later. walk later (Dot ∷ [])) o) h),
    k,
  )
  unknown_process names before s p w (Inside _ d) walked h k = absurd (cc)
  unknown_process names before s p w AtEnd walked h k = absurd (cc)

  unknown_name : (names : List ProcessNames) (before : List Token) (s : State) (p : ℕ) (w : List ℕ) (later : State)
      → walk start before ≡ Some s → IsLastName names before s p → step s (Word w) ≡ Some later
      → process_of_any_word names s p later w ≡ None → IsUnknownName names before (Word w)
  unknown_name names before (Inside (AfterDot side) d) p w later walked last h k = inr (record {
    prefix = last.0;
    name = last.1;
    process = p;
    after_dot = last.2;
    fits = can_of_walk (before ++ Word w ∷ []) later (walk_one before (Inside (AfterDot side) d) (Word w) walked ∙ h);
    is_process = last.3;
    is_no_var = none_mapped p (var_named names p w) k;
  })
  unknown_name names before (Inside mode d) p w later walked last h k =
      inl (unknown_process names before (Inside mode d) p w later walked h k)
  unknown_name names before AtEnd p w later walked last h k =
      inl (unknown_process names before AtEnd p w later walked h k)

  unknown_at : (names : List ProcessNames) (place : Position) (before : List Token) (t : Token) (later : State)
      → StandsAfter names place before → step place.state t ≡ Some later
      → process_after names place.state place.process later t ≡ None → IsUnknownName names before t
  unknown_at names place before (Word w) later stands h k =
      unknown_name names before place.state place.process w later stands.is_walked stands.is_named h k
  unknown_at names place before _ later stands h k = absurd (cc)

  pub fault_at : (names : List ProcessNames) (place : Position) (before : List Token) (t : Token) (kind : PredErrorKind)
      → StandsAfter names place before → IsFaultAt names place t kind → (fault : PredicateFault)
      × (predicate_fault_view kind ≡ Some fault) × IsFaulty names fault before t
  fault_at names place before t kinds.Expected stands h = (
    Expected,
    refl,
    λ can. let w = walk_of_can (before ++ t ∷ []) can in let e =
        walk_one before place.state t stands.is_walked in absurd (cc),
  )
  fault_at names place before t kinds.UnknownName stands h =
      (UnknownName, refl, unknown_at names place before t h.0 stands h.1 h.2)
  fault_at names place before t kinds.Depth stands h = (
    Depth,
    refl,
    (
      can_of_walk (before ++ t ∷ []) h.0 (walk_one before place.state t stands.is_walked ∙ h.1),
      h.2,
      let e = height before in let f = ap length stands.is_open in let room = h.3 in omega arith,
    ),
  )
  fault_at names place before t _ stands h = absurd h

  -- ---- no fault

  known_process : (names : List ProcessNames) (s : State) (p : ℕ) (later : State) (w : List ℕ) (q : ℕ)
      → IsAfterName later → step s (Word w) ≡ Some later → process_of_any_word names s p later w ≡ Some q
      → process_named names w ≡ None → ⊥
  known_process names s p (Inside (AfterName side) d) w q following h k none =
      let i = into s (Word w) (Inside (AfterName side) d) h in
      let e = any_word names s p (Inside (AfterName side) d) w i.2 in cc
  known_process names s p (Inside _ d) w q following h k none = absurd following
  known_process names s p AtEnd w q following h k none = absurd following

  known_var : (names : List ProcessNames) (before : List Token) (s : State) (p : ℕ) (later : State) (w : List ℕ) (q : ℕ)
      → IsAfterDot s → IsLastName names before s p → process_of_any_word names s p later w ≡ Some q
      → IsUnknownVar names before w → ⊥
  known_var names before (Inside (AfterDot side) d) p later w q following last k u =
      let same : last.1 ≡ u.name = same_name last.0 u.prefix last.1 u.name (sym last.2 ∙ u.after_dot) in
      let process : Some p ≡ Some u.process = sym last.3 ∙ ap (process_named names) same ∙ u.is_process in
      let number : p ≡ u.process = cc in
      let none : var_named names p w ≡ None = rw number u.is_no_var in
      let bad : None ≡ Some q = sym (ap (option_map (λ var. p)) none) ∙ k in cc
  known_var names before (Inside _ d) p later w q following last k u = absurd following
  known_var names before AtEnd p later w q following last k u = absurd following

  -- after a dot that was read
  after_dot : (prefix : List Token) (s : State) → walk start (prefix ++ Dot ∷ []) ≡ Some s → IsAfterDot s
  after_dot prefix s h = go (walk start prefix) refl
    where
      go : (o : Option State) → walk start prefix ≡ o → IsAfterDot s
      go None e =
          absurd (let f = go_on start prefix (Dot ∷ []) ∙ ap (λ o. option_and_then (λ to. walk to (Dot ∷ [])) o) e in
          cc)
      go (Some from) e = (from_dot from s (sym (walk_one prefix from Dot e) ∙ h)).1

  no_unknown : (names : List ProcessNames) (old new : Position) (before : List Token) (t : Token)
      → StandsAfter names old before → Steps names old t new → IsUnknownName names before t → ⊥
  no_unknown names old new before (Word w) stands steps (inl u) =
      let further = walk_of_can (before ++ Word w ∷ Dot ∷ []) u.0 in
      let following = stands_after names old new before (Word w) stands steps in
      let dot : step new.state Dot ≡ Some further.0 =
      sym (walk_one (before ++ Word w ∷ []) new.state Dot following.is_walked)
      ∙ ap (walk start) (append_assoc before (Word w ∷ []) (Dot ∷ [])) ∙ further.1 in
      known_process names old.state old.process new.state w new.process (from_dot new.state further.0 dot).0
      steps.goes_on steps.is_known u.1
  no_unknown names old new before (Word w) stands steps (inr u) =
      let walked : walk start ((u.prefix ++ Word u.name ∷ []) ++ Dot ∷ []) ≡ Some old.state =
      ap (walk start) (append_assoc u.prefix (Word u.name ∷ []) (Dot ∷ []) ∙ sym u.after_dot) ∙ stands.is_walked in
      known_var names before old.state old.process new.state w new.process
      (after_dot (u.prefix ++ Word u.name ∷ []) old.state walked) stands.is_named steps.is_known u
  no_unknown names old new before _ stands steps u = absurd u

  pub no_fault : (names : List ProcessNames) (old new : Position) (before : List Token) (t : Token)
      (fault : PredicateFault) → StandsAfter names old before → Steps names old t new → IsFaulty names fault before t
      → ⊥
  no_fault names old new before t Expected stands steps faulty =
      faulty (can_of_walk (before ++ t ∷ []) new.state (walk_one before old.state t stands.is_walked ∙ steps.goes_on))
  no_fault names old new before t UnknownName stands steps faulty =
      no_unknown names old new before t stands steps faulty
  no_fault names old new before t Depth stands steps faulty =
      let e = height before in let f = ap length stands.is_open in let room = steps.has_room faulty.1 in let deep =
      faulty.2 in omega arith
  no_fault names old new before t _ stands steps faulty = absurd faulty

-- ---- all tokens

nothing_inside : {A : Type 0} (prefix : List A) (x : A) (back : List A) → [] ≡ prefix ++ x ∷ back → ⊥
nothing_inside [] x back e = cc
nothing_inside (y ∷ prefix) x back e = cc

-- an element of a list with one more at its end is in the list, or is that one
pub data Within {A : Type 0} (xs : List A) (x : A) (prefix : List A) (y : A) : Type 0 where
  earlier : (back : List A) → xs ≡ prefix ++ y ∷ back → Within xs x prefix y
  last : prefix ≡ xs → y ≡ x → Within xs x prefix y

pub within : {A : Type 0} (xs : List A) (x : A) (prefix : List A) (y : A) (back : List A)
    → xs ++ x ∷ [] ≡ prefix ++ y ∷ back → Within xs x prefix y
within [] x [] y back e = last refl (cc)
within [] x (z ∷ prefix) y back e = absurd (nothing_inside prefix y back (cc))
within (z ∷ xs) x [] y back e = earlier xs (cc)
within (z ∷ xs) x (w ∷ prefix) y back e = go (within xs x prefix y back (cc))
  where
    go : Within xs x prefix y → Within (z ∷ xs) x (w ∷ prefix) y
    go (earlier back h) = earlier back (cc)
    go (last h k) = last (cc) k

pub well_placed_nothing : (names : List ProcessNames) → IsWellPlaced names []
well_placed_nothing names before t after e m = nothing_inside before t after e

pub well_placed_more : (names : List ProcessNames) (tokens : List Placed) (t : Placed) → IsWellPlaced names tokens
    → ((fault : PredicateFault) → IsFaulty names fault (tokens_of tokens) t.token → ⊥)
    → IsWellPlaced names (tokens ++ t ∷ [])
well_placed_more names tokens t sound here before y after e m = go (within tokens t before y after e)
  where
    go : Within tokens t before y → ⊥
    go (earlier back h) = sound before y back h m
    go (last h k) = here m.0 (let f : IsFaulty names m.0 (tokens_of tokens) t.token = rw (sym h, sym k) m.1 in f)
