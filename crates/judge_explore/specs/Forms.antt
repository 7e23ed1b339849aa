-- What is made of a session, as it stands in the program.
use Rattle.out_page.specs.Views.{extras_view}
use Rattle.judge_explore.specs.Explored as explored
use Rattle.judge_explore.specs.declared.form.Form.{Form}
use Rattle.judge_explore.specs.declared.form.Form.TheVariants.{Page, Object}

abbrev pub form_view : Form → explored.Form
form_view (Page extras) = explored.Page (extras_view extras.now)
form_view Object = explored.Object
