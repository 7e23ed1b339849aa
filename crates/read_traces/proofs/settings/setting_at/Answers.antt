-- The setting at an index.
use Rattle.std.proofs.Common.{◌≡◌, ◌∙◌, Some, get_or, of_z, sym, to_z, w64}
use Rattle.std.proofs.lemmas.Int.{to_z-of_z}
use Rattle.read_traces.proofs.SettingFacts.{setting_in}
use Rattle.read_traces.proofs.settings.setting_at.Goals as goal

pub returns : goal.returns
returns c =
    let place = get_or c.args.places.now c.args.i 0 in
    let value : to_z w64 (of_z w64 c.get.result) ≡ c.get.result =
    to_z-of_z w64 c.get.result (record { sfits = c.get.type_inv }) in
    setting_in c.args.places.now c.args.values.now c.args.start c.requires.values c.args.i c.requires.place
    ∙ (λ i. Some (place, sym (value ∙ c.get.ensures) i))
