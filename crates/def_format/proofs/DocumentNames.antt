-- The names of a sound document are clear: no two processes have one name, and no two variables of a process.
use Rattle.std.proofs.Common.{◌≡◌, ◌≢◌, ℕ, List, [], ◌∷◌, Bool, true, false, Option, Some, None, Ordering, Less, Equal, Greater, nat_cmp, All, map, refl, ◌∙◌, ap, subst}
use Rattle.std.specs.Prelude.{⊤, AllPairs, Result, Ok, Err, codes, if◌then◌else◌}
use Rattle.std.specs.List.{AllByRecursion}
use Rattle.std.specs.Ordering.{match_ordering}
use Rattle.std.specs.Cmp.Lexicographic.{slice_cmp}
use Rattle.std.proofs.lemmas.List.Elements.{All-cons, All-nil}
use Rattle.serde_json.specs.Data.{Data, null, boolean, number, string, array, object, Items, no_items, item, Members, no_members, member}
use Rattle.serde_json.specs.Find.{get_member, as_str, as_object, as_array}
use Rattle.def_format.specs.Documents.{Outline, DocumentFault, Long, pair_of, each, field, named_object, objects, outline_of_fields, outline_of, outline_fault, checked_outline, outline_of_json, Inquiry, outline_within, inquiry_json, names_of_outline, has_twice}
use Rattle.def_format.specs.Laws.{AreClear}
use Rattle.def_format.specs.Lists.{unless}
use Rattle.def_format.specs.Names.{ProcessNames}
use Rattle.def_format.specs.Records.{keys, has_only}
use Rattle.def_format.proofs.DistinctNames.{clear_names, names_differ, processes_once}
use Rattle.def_format.proofs.OrderedKeys.{Holds, holds_map, holds_then, holds_if, IsOrdered, AreOrdered, HasOrderedKeys, ordered_inquiry, keys_differ}

-- ---- the parts of a value whose keys ascend

holds_choice : (o : Ordering) (a b c : Option Data) → Holds IsOrdered a → Holds IsOrdered b → Holds IsOrdered c
    → Holds IsOrdered (match_ordering o a b c)
holds_choice Less a b c p q r = p
holds_choice Equal a b c p q r = q
holds_choice Greater a b c p q r = r

ordered_member : (key : List ℕ) (members : Members) → HasOrderedKeys members → Holds IsOrdered (get_member key members)
ordered_member key no_members h = tt
ordered_member key (member other value others) h =
    let rest : Holds IsOrdered (get_member key others) = ordered_member key others h.2 in
    holds_choice (slice_cmp nat_cmp key other) (get_member key others) (Some value) (get_member key others) rest h.0
    rest

ordered_object : (value : Data) → IsOrdered value → Holds HasOrderedKeys (as_object value)
ordered_object null h = tt
ordered_object (boolean b) h = tt
ordered_object (number n) h = tt
ordered_object (string s) h = tt
ordered_object (array items) h = tt
ordered_object (object fields) h = h

ordered_array : (value : Data) → IsOrdered value → Holds AreOrdered (as_array value)
ordered_array null h = tt
ordered_array (boolean b) h = tt
ordered_array (number n) h = tt
ordered_array (string s) h = tt
ordered_array (array items) h = h
ordered_array (object fields) h = tt

ordered_each : {A : Type 0} (P : A → Type 0) (f : Data → Option A)
    → ((value : Data) → IsOrdered value → Holds P (f value)) → (items : Items) → AreOrdered items
    → Holds (AllByRecursion P) (each f items)
ordered_each P f seen no_items h = tt
ordered_each P f seen (item value others) h =
    holds_then P (AllByRecursion P) _ (λ x p. holds_map (AllByRecursion P) (AllByRecursion P) (λ rest. x ∷ rest)
    (λ rest k. (p, k)) (each f others) (ordered_each P f seen others h.1)) (f value) (seen value h.0)

ordered_field : {A : Type 0} (P : A → Type 0) (name : List ℕ) (f : Data → Option A)
    → ((value : Data) → IsOrdered value → Holds P (f value)) → (fields : Members) → HasOrderedKeys fields
    → Holds P (field name f fields)
ordered_field P name f seen fields h =
    holds_then IsOrdered P f seen (get_member name fields) (ordered_member name fields h)

holds_second : {A B : Type 0} (P : B → Type 0) (first : Option A) (second : Option B) → Holds P second
    → Holds (λ (both : A × B). P both.1) (pair_of first second)
holds_second P None second h = tt
holds_second {B = B} P (Some x) second h = holds_map P _ (λ (y : B). (x, y)) (λ y p. p) second h

holds_first : {A B : Type 0} (P : A → Type 0) (first : Option A) (second : Option B) → Holds P first
    → Holds (λ (both : A × B). P both.0) (pair_of first second)
holds_first P None second h = tt
holds_first P (Some x) None h = tt
holds_first P (Some x) (Some y) h = h

-- a process of an outline, with variables whose names ascend
abbrev HasOrderedVars : List ℕ × Members → Type 0
HasOrderedVars process = HasOrderedKeys process.1

abbrev AllHaveOrderedVars : Outline → Type 0
AllHaveOrderedVars outline = AllByRecursion HasOrderedVars outline.processes

ordered_process : (value : Data) → IsOrdered value → Holds HasOrderedVars (named_object (codes "vars") as_object value)
ordered_process value h =
    holds_then HasOrderedKeys HasOrderedVars _
    (λ fields k.
    holds_if HasOrderedVars (has_only (codes "name" ∷ codes "vars" ∷ []) fields) _
    (holds_second HasOrderedKeys (field (codes "name") as_str fields) (field (codes "vars") as_object fields)
    (ordered_field HasOrderedKeys (codes "vars") as_object ordered_object fields k)))
    (as_object value) (ordered_object value h)

ordered_processes : (value : Data) → IsOrdered value
    → Holds (AllByRecursion HasOrderedVars) (objects (named_object (codes "vars") as_object) value)
ordered_processes value h =
    holds_then AreOrdered (AllByRecursion HasOrderedVars) (each (named_object (codes "vars") as_object))
    (λ items k. ordered_each HasOrderedVars (named_object (codes "vars") as_object) ordered_process items k)
    (as_array value) (ordered_array value h)

ordered_fields : (fields : Members) → HasOrderedKeys fields → Holds AllHaveOrderedVars (outline_of_fields fields)
ordered_fields fields h =
    holds_if AllHaveOrderedVars
    (has_only (codes "processes" ∷ codes "predicates" ∷ codes "width" ∷ codes "version" ∷ []) fields) _
    (holds_map (λ (both : List (List ℕ × Members) × List (List ℕ × List ℕ)). AllByRecursion HasOrderedVars both.0)
    AllHaveOrderedVars _ (λ both k. k) _
    (holds_first (AllByRecursion HasOrderedVars)
    (field (codes "processes") (objects (named_object (codes "vars") as_object)) fields)
    (field (codes "predicates") (objects (named_object (codes "text") as_str)) fields)
    (ordered_field (AllByRecursion HasOrderedVars) (codes "processes") (objects (named_object (codes "vars") as_object))
    ordered_processes fields h)))

ordered_outline : (value : Data) → IsOrdered value → Holds AllHaveOrderedVars (outline_of value)
ordered_outline value h =
    holds_then HasOrderedKeys AllHaveOrderedVars outline_of_fields ordered_fields (as_object value)
    (ordered_object value h)

-- ---- the outline of a document's bytes

-- an outline with no fault, with variables whose names ascend
record IsClearOutline (limit : ℕ) (outline : Outline) : Type 0 where
  ordered : AllHaveOrderedVars outline
  faultless : outline_fault limit outline ≡ None

abbrev HoldsOk : ℕ → Result Outline DocumentFault → Type 0
HoldsOk limit (Ok outline) = IsClearOutline limit outline
HoldsOk limit (Err fault) = ⊤

clear_checked : (limit : ℕ) (o : Option Outline) → Holds AllHaveOrderedVars o → HoldsOk limit (checked_outline limit o)
clear_checked limit None h = tt
clear_checked limit (Some outline) h = go (outline_fault limit outline) refl
  where
    go : (fault : Option DocumentFault) → outline_fault limit outline ≡ fault → HoldsOk limit (unless fault outline)
    go None e = record { ordered = h; faultless = e }
    go (Some fault) e = tt

clear_json : (limit : ℕ) (o : Option Data) → Holds IsOrdered o → HoldsOk limit (outline_of_json limit o)
clear_json limit None h = tt
clear_json limit (Some value) h = clear_checked limit (outline_of value) (ordered_outline value h)

clear_if : (limit : ℕ) (b : Bool) (fault : DocumentFault) (r : Result Outline DocumentFault) → HoldsOk limit r
    → HoldsOk limit (if b then Err fault else r)
clear_if limit true fault r h = tt
clear_if limit false fault r h = h

clear_inquiry : (limit : ℕ) (inquiry : Inquiry) → HoldsOk limit (outline_within limit inquiry)
unfolding outline_within
clear_inquiry limit inquiry =
    clear_if limit _ Long (outline_of_json limit (inquiry_json inquiry))
    (clear_json limit (inquiry_json inquiry) (ordered_inquiry inquiry))

-- an outline that is read has no fault
pub sound_is_faultless : (limit : ℕ) (inquiry : Inquiry) (outline : Outline)
    → outline_within limit inquiry ≡ Ok outline → outline_fault limit outline ≡ None
sound_is_faultless limit inquiry outline e = (subst (HoldsOk limit) e (clear_inquiry limit inquiry)).faultless

-- ---- its names

written_names : (processes : List (List ℕ × Members))
    → map (λ (process : ProcessNames). process.name)
    (map (λ (process : List ℕ × Members). record { name = process.0; vars = keys process.1 }) processes)
    ≡ map (λ (process : List ℕ × Members). process.0) processes
written_names [] = refl
written_names (process ∷ processes) = ap (λ others. process.0 ∷ others) (written_names processes)

abbrev HasDifferentVars : ProcessNames → Type 0
HasDifferentVars process = AllPairs (λ (x y : List ℕ). x ≢ y) process.vars

vars_differ : (processes : List (List ℕ × Members)) → AllByRecursion HasOrderedVars processes
    → All HasDifferentVars (map (λ (process : List ℕ × Members). record { name = process.0; vars = keys process.1 })
    processes)
vars_differ [] h = All-nil HasDifferentVars
vars_differ (process ∷ processes) h =
    All-cons HasDifferentVars (record { name = process.0; vars = keys process.1 }) _ (keys_differ process.1 h.0)
    (vars_differ processes h.1)

pub clear_document : (limit : ℕ) (inquiry : Inquiry) (outline : Outline) → outline_within limit inquiry ≡ Ok outline
    → AreClear (names_of_outline outline)
clear_document limit inquiry outline e =
    let clear : IsClearOutline limit outline = subst (HoldsOk limit) e (clear_inquiry limit inquiry) in
    clear_names (names_of_outline outline) (record {
      processes =
          names_differ (names_of_outline outline) (ap has_twice (written_names outline.processes)
          ∙ processes_once limit outline clear.faultless);
      variables = vars_differ outline.processes clear.ordered;
    })
