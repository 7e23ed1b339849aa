-- All predicates that are named are there where a session is explored.
use Rattle.std.proofs.Common.{List, ℕ, Err, Ok, Bor, map, subst, sym}
use Rattle.app_arguments.specs.ConditionViews.{fail_on_view}
use Rattle.app_arguments.specs.Statuses.{HasNamed, LacksNamed}
use Rattle.app_arguments.specs.Views.{session_view}
use Rattle.judge_explore.specs.FileViews.{files_view}
use Rattle.judge_explore.specs.Forms.{form_view}
use Rattle.judge_explore.specs.Sources.{AreFilesOf}
use Rattle.judge_explore.specs.declared.stream_file.StreamFile.{StreamFile as Used}
use Rattle.judge_runs.specs.Wishes.{Condition}
use Rattle.judge_session.specs.Inquiries.{inquiry_view}
use Rattle.app_host.specs.Faults.{judgement_ending}
use Rattle.app_host.specs.FileSources.{bytes_in}
use Rattle.app_host.proofs.NamedPredicates.{with_named}
use Rattle.app_host.proofs.UnreadFiles.{keeps_same}
use Rattle.app_explore.specs.Explorations.{OfForm, all_named, wishes_of}
use Rattle.app_explore.proofs.ExplorationEnds.{left_with_files}
use Rattle.app_explore.proofs.exploration.explore_named.Goals as goal

pub returns-in-Ok : goal.returns-in-Ok
returns-in-Ok g c = λ asked is_form wishes_are.
    let fail_on = fail_on_view c.args.judgement.now.fail_on in
    let inquiry = inquiry_view c.args.inquiry in
    let inputs = map g.R.ByteSource.left c.args.streams.items in
    let old = g.O.Write.contents c.args.output.now in
    let new = g.O.Write.contents c.explore_read.new.output in
    let bytes_of = bytes_in (g.Y.Files.FileSource.file_of c.args.world.now.files.now) in
    let names = (session_view c.args.judgement.now.names).1 in
    let AreFiles = AreFilesOf bytes_of names in
    let found : AreFiles (files_view c.deref-2.result.now) =
    subst (λ (all : List Used). AreFiles (files_view all)) (sym c.deref-2.ensures.value)
    (subst (λ (all : List (Bor (List ℕ))). AreFilesOf bytes_of (map (λ (name : Bor (List ℕ)). name.now) all)
    (files_view c.in_ok-sources.sources.items)) c.deref.ensures.value c.in_ok-sources.ensures) in
    let has : HasNamed (all_named fail_on (wishes_of asked)) inquiry =
    subst (λ (wishes : List Condition). HasNamed (all_named fail_on wishes) inquiry) (sym wishes_are)
    (c.in_ok-has_all_named.ensures.yes c.if-not-branch.false) in
    with_named (all_named fail_on (wishes_of asked)) (OfForm bytes_of asked names inputs fail_on) inquiry old new
    has (λ never. never)
    (judgement_ending fail_on (Ok c.in-Ok.report))
    (left_with_files bytes_of asked names inquiry (form_view c.args.form) (files_view c.deref-2.result.now) inputs
    is_form found fail_on old new (judgement_ending fail_on (Ok c.in-Ok.report)) (c.in-Ok.ensures.written fail_on))

pub returns : goal.returns
returns g c = λ asked is_form wishes_are.
    let fail_on = fail_on_view c.args.judgement.now.fail_on in
    let inquiry = inquiry_view c.args.inquiry in
    let inputs = map g.R.ByteSource.left c.args.streams.items in
    let old = g.O.Write.contents c.args.output.now in
    let new = g.O.Write.contents c.explore_read.new.output in
    let bytes_of = bytes_in (g.Y.Files.FileSource.file_of c.args.world.now.files.now) in
    let names = (session_view c.args.judgement.now.names).1 in
    let AreFiles = AreFilesOf bytes_of names in
    let found : AreFiles (files_view c.deref-2.result.now) =
    subst (λ (all : List Used). AreFiles (files_view all)) (sym c.deref-2.ensures.value)
    (subst (λ (all : List (Bor (List ℕ))). AreFilesOf bytes_of (map (λ (name : Bor (List ℕ)). name.now) all)
    (files_view c.in_ok-sources.sources.items)) c.deref.ensures.value c.in_ok-sources.ensures) in
    let has : HasNamed (all_named fail_on (wishes_of asked)) inquiry =
    subst (λ (wishes : List Condition). HasNamed (all_named fail_on wishes) inquiry) (sym wishes_are)
    (c.in_ok-has_all_named.ensures.yes c.if-not-branch.false) in
    with_named (all_named fail_on (wishes_of asked)) (OfForm bytes_of asked names inputs fail_on) inquiry old new
    has (λ never. never)
    (judgement_ending fail_on (Err c.in-Err.fault))
    (left_with_files bytes_of asked names inquiry (form_view c.args.form) (files_view c.deref-2.result.now) inputs
    is_form found fail_on old new (judgement_ending fail_on (Err c.in-Err.fault)) (c.in-Err.ensures.written fail_on))

pub returns-then-not-branch : goal.returns-then-not-branch
returns-then-not-branch g c = λ asked is_form wishes_are.
    let fail_on = fail_on_view c.args.judgement.now.fail_on in
    let inquiry = inquiry_view c.args.inquiry in (
      subst (λ (wishes : List Condition). LacksNamed (all_named fail_on wishes) inquiry) (sym wishes_are)
          (c.in_ok-has_all_named.ensures.no c.if-not-branch.true),
      keeps_same (g.O.Write.contents c.args.output.now),
    )
