-- One setting more.
use Rattle.out_page.specs.EventData.{setting_text}
use Rattle.out_page.proofs.Listed.{one_more}
use Rattle.out_page.proofs.event_data.push_settings.Goals as goal

pub loop-i-preserved : goal.loop-i-preserved
loop-i-preserved c =
    one_more setting_text c.args.out.now.items c.loop-i.out.items c.push_setting.new.out.items c.args.settings.now
    c.loop-i.i c.get.result c.get.ensures c.loop-i.invariant c.in_ok-push_setting.ensures
