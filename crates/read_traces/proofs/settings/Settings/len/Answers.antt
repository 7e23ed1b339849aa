-- How many variables are set.
use Rattle.std.proofs.Common.{length, ap, sym, ◌∙◌}
use Rattle.read_traces.proofs.SettingFacts.{settings_length}
use Rattle.read_traces.proofs.settings.Settings.len.Goals as goal

pub returns : goal.returns
returns c =
    sym (settings_length c.self.inside.places.now c.self.inside.values.now c.self.inside.start c.self.invariant)
    ∙ ap length c.self.view_is
