-- What is asked of a picture.
use Rattle.std.specs.Prelude.{ℕ, List, Option, Some, None}
use Rattle.std.specs.Borrow.{Bor}
use Rattle.out_picture.specs.declared.extent.Extent.{Extent}
use Rattle.out_picture.specs.declared.kind.Kind.{Kind}
use Rattle.out_picture.specs.declared.draw_options.DrawOptions.{DrawOptions}

-- The name of the predicate whose evidence is shown, if one is asked for; which evidence, if that is asked for; and how
-- much of the run.
pub record Scope : Type 0 where
  pub name : Option (List ℕ)
  pub kind : Option Kind
  pub extent : Extent

-- the name that is asked for, if there is one
abbrev pub name_view : Option (Bor (List ℕ)) → Option (List ℕ)
name_view None = None
name_view (Some name) = Some name.now

abbrev pub scope_view : DrawOptions → Scope
scope_view scope = record { name = name_view scope.predicate; kind = scope.kind; extent = scope.extent }
