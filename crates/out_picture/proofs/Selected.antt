-- What is selected of the shapes of a picture, part by part.
use Rattle.std.proofs.Common.{◌≡◌, ℕ, zero, suc, ◌+◌, Bool, true, false, List, [], ◌∷◌, ◌++◌, cond, length, map, filter, flat_map, slice_index, refl, ap, ◌∙◌}
use Rattle.std.specs.List.{AllZip}
use Rattle.std.proofs.lemmas.List.Concat.{flat_map-append}
use Rattle.def_model.specs.Cuts.{one_more}
use Rattle.def_model.specs.Events.{Place, place}
use Rattle.out_svg.specs.declared.anchor.Anchor.{Anchor}
use Rattle.out_svg.specs.declared.class.Class.TheVariants as class
use Rattle.out_svg.specs.declared.point.Point.{Point}
use Rattle.out_picture.specs.Layout.{is_shown, upto}
use Rattle.out_picture.specs.Pictures.{cut_shapes, end_shapes, ends_shapes, event_shapes, flight_shapes, is_past, lane_shapes, lanes_shapes, message_shapes, messages_shapes, step_shapes, steps_shapes, value_shapes}
use Rattle.out_picture.specs.Shapes.{Seen, SeenArrow, SeenCircle, SeenLine, SeenPolyline, SeenText}
use Rattle.out_picture.specs.declared.evidence.Evidence.{Evidence}
use Rattle.out_picture.specs.declared.window.Window.{Window}

-- ---- lists

pub join : {A : Type 0} {a b c d : List A} → a ≡ b → c ≡ d → a ++ c ≡ b ++ d
join first second = λ i. first i ++ second i

one : {A B : Type 0} (s : A → List B) {x : A} → s x ≡ [] → flat_map s (x ∷ []) ≡ []
one s first = join first refl

two : {A B : Type 0} (s : A → List B) {x y : A} → s x ≡ [] → s y ≡ [] → flat_map s (x ∷ y ∷ []) ≡ []
two s first second = join first (join second refl)

pub flat_upto : {A B : Type 0} (s : A → List B) (f : ℕ → List A) (n : ℕ)
    → flat_map s (upto f n) ≡ upto (λ i. flat_map s (f i)) n
flat_upto s f zero = refl
flat_upto s f (suc n) =
    flat_map-append s (upto f n) (f n) ∙ ap (λ xs. xs ++ flat_map s (f n)) (flat_upto s f n)

pub none_upto : {A B : Type 0} (s : A → List B) (f : ℕ → List A) → ((i : ℕ) → flat_map s (f i) ≡ []) → (n : ℕ)
    → flat_map s (upto f n) ≡ []
none_upto s f none zero = refl
none_upto s f none (suc n) =
    flat_map-append s (upto f n) (f n) ∙ join (none_upto s f none n) (none n)

pub none_flat : {X A B : Type 0} (s : A → List B) (f : X → List A) → ((x : X) → flat_map s (f x) ≡ []) → (xs : List X)
    → flat_map s (flat_map f xs) ≡ []
none_flat s f none [] = refl
none_flat s f none (x ∷ xs) =
    flat_map-append s (f x) (flat_map f xs) ∙ join (none x) (none_flat s f none xs)

pub either_part : {A B : Type 0} (s : A → List B) (b : Bool) (xs ys : List A) (zs : List B) → flat_map s xs ≡ zs
    → flat_map s ys ≡ zs → flat_map s (cond b xs ys) ≡ zs
either_part s true xs ys zs first second = first
either_part s false xs ys zs first second = second

-- one of each thing
pub one_each : {X A B : Type 0} (s : A → List B) (f : X → List A) (g : X → B) → ((x : X) → flat_map s (f x) ≡ g x ∷ [])
    → (xs : List X) → flat_map s (flat_map f xs) ≡ map g xs
one_each s f g each [] = refl
one_each s f g each (x ∷ xs) =
    flat_map-append s (f x) (flat_map f xs) ∙ join (each x) (one_each s f g each xs)

some_part : {A B : Type 0} (s : A → List B) (b : Bool) (xs ys : List A) (z : B) (rest more : List B)
    → flat_map s xs ≡ z ∷ [] → flat_map s ys ≡ [] → rest ≡ more
    → flat_map s (cond b xs ys) ++ rest ≡ cond b (z ∷ more) more
some_part s true xs ys z rest more first second is = join first is
some_part s false xs ys z rest more first second is = join second is

-- one of each thing that passes the test
pub one_if : {X A B : Type 0} (s : A → List B) (test : X → Bool) (f h : X → List A) (g : X → B)
    → ((x : X) → flat_map s (f x) ≡ g x ∷ []) → ((x : X) → flat_map s (h x) ≡ [])
    → (xs : List X) → flat_map s (flat_map (λ x. cond (test x) (f x) (h x)) xs) ≡ map g (filter test xs)
one_if s test f h g each none [] = refl
one_if s test f h g each none (x ∷ xs) =
    flat_map-append s (cond (test x) (f x) (h x)) (flat_map (λ x. cond (test x) (f x) (h x)) xs)
    ∙ (some_part s (test x) (f x) (h x) (g x) _ (map g (filter test xs)) (each x) (none x)
    (one_if s test f h g each none xs) ∙ outside (test x))
  where
    outside : (b : Bool) → cond b (g x ∷ map g (filter test xs)) (map g (filter test xs))
        ≡ map g (cond b (x ∷ filter test xs) (filter test xs))
    outside true = refl
    outside false = refl

pub zip_map : {X B : Type 0} (R : X → B → Type 0) (g : X → B) → ((x : X) → R x (g x)) → (xs : List X)
    → AllZip R xs (map g xs)
zip_map R g each [] = tt
zip_map R g each (x ∷ xs) = (each x, zip_map R g each xs)

-- ---- parts of which nothing is selected

module _ {A : Type 0} (s : Seen → List A) (window : Window) (columns : Place → ℕ) where
  pub no_lanes : (names : List (List ℕ)) → ((from to : Point) → s (SeenLine class.Process from to) ≡ [])
      → ((at : Point) (a : Anchor) (n : ℕ) (t : List ℕ) → s (SeenText class.Name at a n t) ≡ [])
      → flat_map s (lanes_shapes window names) ≡ []
  no_lanes names line text = none_upto s (lane_shapes window names) (λ p. two s (line _ _) (text _ _ _ _))
      (length names)

  pub no_messages : (messages : List (Place × Place)) → ((from to : Point) → s (SeenArrow class.Message from to) ≡ [])
      → ((from to : Point) → s (SeenLine class.Message from to) ≡ [])
      → flat_map s (messages_shapes window columns messages) ≡ []
  no_messages messages arrow line = none_flat s (message_shapes window columns) (λ (send, receipt).
      either_part s (is_shown window (columns receipt)) _ _ [] (one s (arrow _ _))
      (either_part s (is_shown window (columns send)) _ _ [] (one s (line _ _)) refl)) messages

  pub no_ends : (messages : List (Place × Place)) → ((points : List Point) → s (SeenPolyline class.Beyond points) ≡ [])
      → flat_map s (ends_shapes window columns messages) ≡ []
  no_ends messages mark = none_flat s (end_shapes window columns) (λ (send, receipt).
      either_part s (is_shown window (columns receipt)) _ _ []
      (either_part s (is_shown window (columns send)) _ _ [] refl (one s (mark _)))
      (either_part s (is_shown window (columns send)) _ _ [] (one s (mark _)) refl)) messages

  pub no_flights : (flights : Place → Bool) (events : List Place)
      → ((from to : Point) → s (SeenArrow class.Flight from to) ≡ [])
      → flat_map s (flat_map (flight_shapes window columns flights) events) ≡ []
  no_flights flights events arrow = none_flat s (flight_shapes window columns flights) (λ e.
      either_part s (flights e) _ _ [] (one s (arrow _ _)) refl) events

  pub no_events : (evidence : Evidence) (events : List Place)
      → ((b : Bool) (at : Point) (r : ℕ) → s (SeenCircle (cond b class.Past class.Next) at r) ≡ [])
      → ((at : Point) (a : Anchor) (n : ℕ) (t : List ℕ) → s (SeenText class.Number at a n t) ≡ [])
      → flat_map s (flat_map (event_shapes window columns evidence) events) ≡ []
  no_events evidence events circle text = none_flat s (event_shapes window columns evidence) (λ e.
      two s (circle (is_past evidence e) _ _) (text _ _ _ _)) events

  pub no_steps : ((at : Point) (a : Anchor) (n : ℕ) (t : List ℕ) → s (SeenText class.Step at a n t) ≡ [])
      → (path cut : List ℕ) (n : ℕ) → flat_map s (steps_shapes window columns cut n path) ≡ []
  no_steps text [] cut n = refl
  no_steps text (p ∷ path) cut n =
      flat_map-append s (step_shapes window columns n (place p (slice_index cut p + 1)))
      (steps_shapes window columns (one_more cut p) (n + 1) path)
      ∙ join (either_part s (is_shown window (columns (place p (slice_index cut p + 1)))) _ _ []
      (one s (text _ _ _ _)) refl)
      (no_steps text path (one_more cut p) (n + 1))

  pub no_cut : ((points : List Point) → s (SeenPolyline class.Cut points) ≡ [])
      → ((at : Point) (a : Anchor) (n : ℕ) (t : List ℕ) → s (SeenText class.Value at a n t) ≡ [])
      → (lanes : ℕ) (counts : List ℕ) (values : List (List ℕ))
      → flat_map s (cut_shapes window columns lanes counts values) ≡ []
  no_cut line text lanes counts values =
      join (line _) (join (text _ _ _ _) (none_upto s (value_shapes window values) (λ p. one s (text _ _ _ _)) lanes))
