-- Whether a line is too long is decided by its length.
use Rattle.std.proofs.Common.{◌≡◌, ◌<◌, ◌≤◌, ℕ, Bool, true, false, List, length, ap, subst, arith}
use Rattle.std.specs.Prelude.{nat_lt, if◌then◌else◌}
use Rattle.std.proofs.lemmas.Bool.Decides.{nat_tests}
use Rattle.def_format.specs.Records.{json_value}
use Rattle.read_lines.specs.GivenLines.{IsLine}
use Rattle.read_lines.specs.declared.line.Line as lines
use Rattle.read_lines.specs.declared.line.Line.TheVariants.{Long}
use Rattle.read_sessions.specs.SessionLines.{Line, TooLong, line_of_json, session_line, session_line_limit}

over : (limit n : ℕ) → limit < n → nat_lt limit n ≡ true
over limit n lt = grind (arith, nat_tests)

within : (limit n : ℕ) → n ≤ limit → nat_lt limit n ≡ false
within limit n le = grind (arith, nat_tests)

chosen : (b due : Bool) (a z : Line) → b ≡ due → (if b then a else z) ≡ (if due then a else z)
chosen b due a z same = ap (λ (c : Bool). if c then a else z) same

pub too_long : (bytes : List ℕ) (line : lines.Line) → line ≡ Long → IsLine line bytes → session_line bytes ≡ TooLong
too_long bytes line is long =
    chosen (nat_lt session_line_limit (length bytes)) true TooLong (line_of_json (json_value bytes))
    (over session_line_limit (length bytes) (subst (λ (l : lines.Line). IsLine l bytes) is long))

pub not_long : (bytes : List ℕ) → length bytes ≤ session_line_limit
    → session_line bytes ≡ line_of_json (json_value bytes)
not_long bytes le =
    chosen (nat_lt session_line_limit (length bytes)) false TooLong (line_of_json (json_value bytes))
    (within session_line_limit (length bytes) le)
