-- What is left written of a picture by the outcome of the call.
use Rattle.std.proofs.Common.{◌≡◌, ℕ, List, Ok, Err, inl, inr, sym, subst}
use Rattle.std.specs.Prelude.{Bool, IfOk, Option, Result, false}
use Rattle.def_format.specs.Documents.{Inquiry}
use Rattle.def_judgement.proofs.Writing.{writes_weaker}
use Rattle.def_judgement.specs.Writes.{Writes, Source}
use Rattle.judge_session.specs.Ends.{call_end, fault_end}
use Rattle.judge_session.specs.declared.fault.EngineFault.{EngineFault}
use Rattle.out_svg.specs.declared.drawing.Drawing.{Drawing}
use Rattle.out_picture.specs.Scopes.{Scope}
use Rattle.judge_draw.specs.Drawings.{IsAnyTextOf, IsCycleTextOf, IsDrawingTextOf, IsPictureOf, IsPictureOfCycle, IsTextWithNotes, WritesPicture}
use Rattle.judge_draw.specs.declared.drawings.DrawOutcome.{DrawOutcome}
use Rattle.judge_draw.specs.declared.drawings.DrawOutcome.TheVariants.{Written, CycleWritten}

-- a text with notes, if there may be some, is one of a picture that may have some
text_weaker : (may is_noted : Bool) (picture : Drawing) (text : List ℕ) → (may ≡ false → is_noted ≡ false)
    → IsTextWithNotes is_noted picture text → IsTextWithNotes may picture text
text_weaker may is_noted picture text less is = record {
  drawing = is.drawing;
  adds = record {
    width = is.adds.width;
    height = is.adds.height;
    title = is.adds.title;
    description = is.adds.description;
    labels = is.adds.labels;
    shapes = is.adds.shapes;
    unnoted = λ none. is.adds.unnoted (less none);
  };
  is_text = is.is_text;
}

module _ (inquiry : Inquiry) (report : List ℕ) (inputs : List Source) (scope : Scope) (may is_noted : Bool)
    (less : may ≡ false → is_noted ≡ false) (picture : Drawing) (old new : Option (List ℕ)) where
  drawing_text_is : IsPictureOf inquiry report inputs scope picture → (text : List ℕ)
      → IsTextWithNotes is_noted picture text → IsDrawingTextOf inquiry report inputs scope may text
  drawing_text_is is text owed =
      record { picture = picture; is_picture = is; has_text = text_weaker may is_noted picture text less owed }

  cycle_text_is : IsPictureOfCycle inquiry report inputs scope.extent picture → (text : List ℕ)
      → IsTextWithNotes is_noted picture text → IsCycleTextOf inquiry report inputs scope.extent may text
  cycle_text_is is text owed =
      record { picture = picture; is_picture = is; has_text = text_weaker may is_noted picture text less owed }

  pub picture_written : (result : Result DrawOutcome EngineFault)
      → IsPictureOf inquiry report inputs scope picture → IfOk result (λ drawing. drawing ≡ Written)
      → Writes (IsTextWithNotes is_noted picture) (call_end result) old new
      → WritesPicture inquiry report inputs scope may result old new
  picture_written (Ok drawing) is whole written =
      subst (λ (d : DrawOutcome). WritesPicture inquiry report inputs scope may (Ok d) old new) (sym whole)
      (written.0, drawing_text_is is written.0 written.1, written.2)
  picture_written (Err fault) is whole written =
      writes_weaker (IsTextWithNotes is_noted picture) (IsAnyTextOf inquiry report inputs scope may)
      (fault_end fault) old new (λ text owed. inl (drawing_text_is is text owed)) written

  pub cycle_written : (result : Result DrawOutcome EngineFault)
      → IsPictureOfCycle inquiry report inputs scope.extent picture
      → IfOk result (λ drawing. drawing ≡ CycleWritten)
      → Writes (IsTextWithNotes is_noted picture) (call_end result) old new
      → WritesPicture inquiry report inputs scope may result old new
  cycle_written (Ok drawing) is whole written =
      subst (λ (d : DrawOutcome). WritesPicture inquiry report inputs scope may (Ok d) old new) (sym whole)
      (written.0, cycle_text_is is written.0 written.1, written.2)
  cycle_written (Err fault) is whole written =
      writes_weaker (IsTextWithNotes is_noted picture) (IsAnyTextOf inquiry report inputs scope may)
      (fault_end fault) old new (λ text owed. inr (cycle_text_is is text owed)) written
