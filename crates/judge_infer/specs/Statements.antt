-- What a line's statement stands for.
use Rattle.std.specs.Prelude.{Option, Some, None, String}
use Rattle.std.specs.Borrow.{Bor}
use Rattle.std.specs.declared.alloc.Global.{Global}
use Rattle.std.specs.BTreeMap.{BTreeMap}
use Rattle.serde_json.specs.declared.value.Value.{Value}
use Rattle.serde_json.specs.Data.{Members, no_members}
use Rattle.serde_json.specs.View.{members_view}
use Rattle.def_model.specs.Events as events
use Rattle.def_format.specs.Records as records
use Rattle.judge_infer.specs.declared.statement.Said.{Said}
use Rattle.judge_infer.specs.declared.statement.Said.TheVariants.{Local, Send, Recv}
use Rattle.judge_infer.specs.declared.statement.Statement.{Statement}
use Rattle.judge_infer.specs.declared.statement.Statement.TheVariants.{Join, Finish, Event}

-- the variables that are set, with their values
abbrev pub settings_view : Option (Bor (BTreeMap (String Global) Value)) → Members
settings_view None = no_members
settings_view (Some settings) = members_view settings.now.entries

-- the kind of event that is said
abbrev pub kind_said : Said → events.Kind
kind_said Local = events.Local
kind_said (Send id) = events.Send id.now
kind_said (Recv id) = events.Receive id.now

abbrev pub statement_view : Statement → records.Statement
statement_view (Join name) = records.SaysJoin name.now
statement_view Finish = records.SaysEnd
statement_view (Event kind settings) = records.SaysEvent (kind_said kind) (settings_view settings)
