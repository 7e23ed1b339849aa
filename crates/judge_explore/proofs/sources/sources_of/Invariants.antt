-- Where the events of the processes so far were recorded, and then those of the others.
use Rattle.std.proofs.Common.{◌≡◌, ◌++◌, drop}
use Rattle.out_page.specs.Views.{sources_view}
use Rattle.pd_spec.specs.Views.{document_view}
use Rattle.read_traces.specs.Views.{computation_view}
use Rattle.judge_explore.specs.FileViews.{files_view}
use Rattle.judge_explore.specs.Sources.{sources_of}
use Rattle.judge_explore.proofs.sources.sources_of.Given as goal

abbrev pub invariant-loop-process : goal.invariant-loop-process
invariant-loop-process l =
    sources_view l.sources.items
    ++ sources_of (document_view l.spec).names (files_view l.files) l.process
    (computation_view (drop l.process l.traces))
    ≡ sources_of (document_view l.spec).names (files_view l.files) 0 (computation_view l.traces)
