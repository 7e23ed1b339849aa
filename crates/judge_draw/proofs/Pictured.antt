-- A picture of what is recorded is one of the session.
use Rattle.std.proofs.Common.{◌≡◌, ℕ, ◌<◌, List, length, get_or, map, Some, refl, sym, ap, ◌∙◌, subst}
use Rattle.std.specs.Prelude.{Result, IfOk, option_map, slice_get}
use Rattle.std.specs.declared.alloc.AllocError.{AllocError}
use Rattle.std.proofs.lemmas.List.{length-map}
use Rattle.std.proofs.lemmas.Option.{slice_get-map, slice_get_read}
use Rattle.std.proofs.lemmas.Result.{IfOk-weaker}
use Rattle.def_model.specs.Events.{Place}
use Rattle.def_model.specs.Predicates.{Recorded}
use Rattle.def_format.specs.Documents.{Document}
use Rattle.def_format.specs.Readings.{Trace}
use Rattle.def_judgement.specs.Judgements.{recorded_of}
use Rattle.out_picture.specs.Pictures.{IsPicture}
use Rattle.out_picture.specs.declared.evidence.Evidence.{Evidence}
use Rattle.out_picture.specs.declared.extent.Extent.{Extent}
use Rattle.out_picture.specs.declared.label.NotedPicture.{NotedPicture}
use Rattle.judge_draw.specs.Drawn.{IsPictureOf, process_names}

-- what stands at a place of a list that is seen through a function
pub seen_at : {A B : Type 0} (view : A → B) (xs : List A) (ys : List B) (i : ℕ) (x : A) → map view xs ≡ ys
    → i < length ys → x ≡ get_or xs i x → slice_get ys i ≡ Some (view x)
seen_at view xs ys i x same lt is =
    let there : i < length xs = subst (λ (n : ℕ). i < n) (sym (ap length same) ∙ length-map xs view) lt in
    ap (λ (list : List _). slice_get list i) (sym same)
    ∙ (slice_get-map view xs i ∙ ap (option_map view) (slice_get_read xs (length xs) i x refl there is))

pub pictured : (document : Document) (traces : List Trace) (pairs : List (Place × Place)) (recorded : Recorded)
    (ShowsIt : Evidence → List ℕ → Type 0) (result : Result NotedPicture AllocError) (evidence : Evidence)
    (title : List ℕ) (extent : Extent) → recorded ≡ recorded_of document traces → ShowsIt evidence title
    → IfOk result (λ picture. IsPicture recorded.events pairs (process_names document) title evidence extent
    picture.drawing) → IfOk result (λ picture. IsPictureOf document traces pairs ShowsIt extent picture.drawing)
pictured document traces pairs recorded ShowsIt result evidence title extent same shows is =
    IfOk-weaker result (λ given. IsPicture recorded.events pairs (process_names document) title evidence extent
    given.drawing)
    (λ given. IsPictureOf document traces pairs ShowsIt extent given.drawing)
    (λ given picture. record {
      evidence = evidence;
      title = title;
      shows = shows;
      is_picture =
          subst (λ (r : Recorded). IsPicture r.events pairs (process_names document) title evidence extent
          given.drawing) same picture;
    }) is
