-- A session has no number.
use Rattle.std.proofs.Common.{ap, ◌∙◌, map, string_bytes}
use Rattle.serde_json.specs.Written.{has_float}
use Rattle.out_lines.proofs.Whole.{session_whole}
use Rattle.out_lines.proofs.sessions.session_line.Goals as goal

pub line_of-requires : goal.line_of-requires
line_of-requires c =
    ap has_float c.in_ok-value.ensures
    ∙ session_whole c.args.id.now c.args.document.now (map string_bytes c.args.streams.now)
