-- The setting at an index.
use Rattle.std.proofs.Common.{length, ap, arith}
use Rattle.read_traces.proofs.SettingFacts.{settings_length}
use Rattle.read_traces.proofs.settings.Settings.get.Goals as goal

pub setting_at-requires-clause-place : goal.setting_at-requires-clause-place
setting_at-requires-clause-place c =
    omega (
      arith,
      c.requires,
      ap length c.self.view_is,
      settings_length c.self.inside.places.now c.self.inside.values.now c.self.inside.start c.self.invariant,
    )
