-- The variables so far, and then those that are left.
use Rattle.std.proofs.Common.{◌≡◌, map, drop, string_bytes}
use Rattle.json.specs.Value.{members_view}
use Rattle.judge_infer.specs.Inferred.{with_vars}
use Rattle.judge_infer.specs.Streams.{member_names}
use Rattle.judge_infer.proofs.names.add_members.Given as goal

abbrev pub invariant-loop-member : goal.invariant-loop-member
invariant-loop-member l =
    with_vars (map string_bytes l.initial.vars.items) (member_names (members_view l.members))
    ≡ with_vars (map string_bytes l.vars.items) (member_names (members_view (drop l.member-index l.members)))
