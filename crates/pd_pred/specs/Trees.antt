-- The predicate that a syntax tree stands for.
use Rattle.std.specs.Prelude.{List, map}
use Rattle.def_model.specs.Predicates as model
use Rattle.pd_pred.specs.declared.tree.Sign.{Sign}
use Rattle.pd_pred.specs.declared.tree.Sign.TheVariants.{Plus, Minus}
use Rattle.pd_pred.specs.declared.tree.Term.{Term}
use Rattle.pd_pred.specs.declared.tree.Term.TheVariants.{Number, Variable, Times}
use Rattle.pd_pred.specs.declared.tree.SignedTerm.{SignedTerm}
use Rattle.pd_pred.specs.declared.tree.Sum.{Sum}
use Rattle.pd_pred.specs.declared.tree.Comparison.{Comparison}
use Rattle.pd_pred.specs.declared.tree.Comparison.TheVariants.{Equals, Differs, IsLess, IsAtMost, IsGreater, IsAtLeast}
use Rattle.pd_pred.specs.declared.tree.Tree.{Tree, Always, Never, Compare, Not', And', Or'}

abbrev pub sign_view : Sign → model.Sign
sign_view Plus = model.Plus
sign_view Minus = model.Minus

abbrev pub term_view : Term → model.Term
term_view (Number n) = model.Number n
term_view (Variable process var) = model.Variable process var
term_view (Times factor process var) = model.Times factor process var

abbrev pub signed_term_view : SignedTerm → model.Sign × model.Term
signed_term_view t = (sign_view t.sign, term_view t.term)

abbrev pub terms_view : List SignedTerm → List (model.Sign × model.Term)
terms_view terms = map signed_term_view terms

abbrev pub sum_view : Sum → List (model.Sign × model.Term)
sum_view sum = terms_view sum.terms.items

abbrev pub comparison_view : Comparison → model.Comparison
comparison_view Equals = model.Equals
comparison_view Differs = model.Differs
comparison_view IsLess = model.IsLess
comparison_view IsAtMost = model.IsAtMost
comparison_view IsGreater = model.IsGreater
comparison_view IsAtLeast = model.IsAtLeast

abbrev pub tree_view : Tree → model.Predicate
tree_view Always = model.Always
tree_view Never = model.Never
tree_view (Compare left comparison right) = model.Compare (sum_view left) (comparison_view comparison) (sum_view right)
tree_view (Not' p inner) = model.Not (tree_view inner)
tree_view (And' p left q right) = model.And (tree_view left) (tree_view right)
tree_view (Or' p left q right) = model.Or (tree_view left) (tree_view right)
