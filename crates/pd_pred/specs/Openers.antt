-- The stack of openers that the program's stack stands for.
use Rattle.std.specs.Prelude.{List, map, reverse}
use Rattle.def_format.specs.OpenerStack as openers
use Rattle.pd_pred.specs.declared.openers.Opener.{Opener}
use Rattle.pd_pred.specs.declared.openers.Opener.TheVariants.{Paren, Negation}
use Rattle.pd_pred.specs.declared.openers.Openers.{Openers}

abbrev pub opener_view : Opener → openers.Opener
opener_view Paren = openers.Paren
opener_view Negation = openers.Negation

-- the innermost first
abbrev pub openers_view : Openers → List openers.Opener
openers_view o = reverse (map opener_view o.stack.items)
