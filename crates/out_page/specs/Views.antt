-- What a page's parts stand for.
use Rattle.std.specs.Prelude.{ℕ, List, codes, map, option_map, string_bytes, Option}
use Rattle.std.specs.Borrow.{Bor}
use Rattle.out_page.specs.AnswerData as shown
use Rattle.out_page.specs.ExtraData as extra
use Rattle.out_page.specs.SourceData as recorded
use Rattle.out_page.specs.declared.content.Outcome.{Outcome}
use Rattle.out_page.specs.declared.content.Outcome.TheVariants.{Answers, Cycle}
use Rattle.out_page.specs.declared.extras.Extras.{Extras}
use Rattle.out_page.specs.declared.extras.Wish.{Wish}
use Rattle.out_page.specs.declared.extras.WishKind.{WishKind}
use Rattle.out_page.specs.declared.extras.WishKind.TheVariants.{Never, Always, Sometimes}
use Rattle.out_page.specs.declared.source.Source.{Source}
use Rattle.pd_report.specs.Views.{answer_view, named_places_view}

abbrev pub outcome_view : Outcome → shown.Outcome
outcome_view (Answers answers) = shown.Answered (map answer_view answers.now)
outcome_view (Cycle places) = shown.Cyclic (named_places_view places.now)

abbrev pub source_view : Source → recorded.Source
source_view source = record { name = source.name.now; lines = source.lines.items }

abbrev pub sources_view : List Source → List recorded.Source
sources_view sources = map source_view sources

abbrev pub kind_word : WishKind → List ℕ
kind_word Never = codes "never"
kind_word Always = codes "always"
kind_word Sometimes = codes "sometimes"

abbrev pub wish_view : Wish → List ℕ × List ℕ
wish_view wish = (kind_word wish.kind, wish.name.now)

abbrev pub link_view : Option (Bor (List ℕ)) → Option (List ℕ)
link_view link = option_map (λ (pattern : Bor (List ℕ)). pattern.now) link

abbrev pub extras_view : Extras → extra.Extras
extras_view extras = record {
  wishes = map wish_view extras.wishes.items;
  notes = map string_bytes extras.notes.items;
  link = link_view extras.link;
}
