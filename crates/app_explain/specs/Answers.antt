-- What is known of the cuts of a level, and which answers are unknown.
use Rattle.std.specs.Prelude.{ℕ, ◌-◌, ◌^◌, Bool, true, false, ◌&&◌, ◌||◌, ◌==◌, nat_lt, if◌then◌else◌, Option, Some, None}
use Rattle.std.specs.Option.{unwrap_or}
use Rattle.def_format.specs.Limits.{width_limit}
use Rattle.pd_report.specs.declared.answer.Answer.{Answer}
use Rattle.pd_report.specs.declared.possibly.Possibly.{Possibly}
use Rattle.pd_report.specs.declared.possibly.Possibly.TheVariants as possibly
use Rattle.pd_report.specs.declared.definitely.Definitely.{Definitely}
use Rattle.pd_report.specs.declared.definitely.Definitely.TheVariants as definitely
use Rattle.app_explain.specs.declared.answers.Judged.{Judged}

-- How many cuts this level has, if it is the widest one, and they are more than the width. The greatest number of 64
-- bits stands for more than that.
abbrev pub known_cuts : Judged → ℕ → Option ℕ
known_cuts judged level =
    let cuts = judged.widest.cuts in
    if judged.widest.number == level && (nat_lt (unwrap_or judged.width 0) cuts && nat_lt cuts (2 ^ 64 - 1))
    then Some cuts else None

-- no width is great enough for a level with this many cuts
abbrev pub is_too_wide : ℕ → Bool
is_too_wide cuts = nat_lt width_limit cuts

abbrev pub is_possibly_unknown : Possibly → Bool
is_possibly_unknown (possibly.Yes counts) = false
is_possibly_unknown possibly.No = false
is_possibly_unknown (possibly.Unknown level) = true

abbrev pub is_definitely_unknown : Definitely → Bool
is_definitely_unknown (definitely.Yes level) = false
is_definitely_unknown (definitely.No path) = false
is_definitely_unknown (definitely.Unknown level) = true

-- something of the answer is unknown
abbrev pub is_unknown : Answer → Bool
is_unknown answer = is_possibly_unknown answer.possibly || is_definitely_unknown answer.definitely
