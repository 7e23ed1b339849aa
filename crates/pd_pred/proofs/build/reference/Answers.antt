-- The numbers of the process and the variable that the tokens name.
use Rattle.std.proofs.Common.{◌≡◌, ◌∙◌, sym, Some}
use Rattle.def_format.specs.Names.{process_named}
use Rattle.pd_pred.proofs.TermsRead.{reference_is_known, reference_is_read}
use Rattle.pd_pred.proofs.build.reference.Goals as goal

pub unreachable-requires : goal.unreachable-requires
unreachable-requires c =
    let known =
    reference_is_known c.args.names.now c.args.tokens.now c.after_name.result.1.now c.after_first.result.now
    c.after_name-2.result.1.now c.after_name.result.0.now c.after_name-2.result.0.now c.after_first.ensures.0
    c.requires.readable c.requires.leads c.after_name.ensures c.after_first.ensures.1 c.after_name-2.ensures in
    c.in_default.not-Some known.0 (c.find.ensures ∙ known.2)

pub unreachable-requires-in_default-find_var : goal.unreachable-requires-in_default-find_var
unreachable-requires-in_default-find_var c =
    let known =
    reference_is_known c.args.names.now c.args.tokens.now c.after_name.result.1.now c.after_first.result.now
    c.after_name-2.result.1.now c.after_name.result.0.now c.after_name-2.result.0.now c.after_first.ensures.0
    c.requires.readable c.requires.leads c.after_name.ensures c.after_first.ensures.1 c.after_name-2.ensures in
    let found : process_named c.args.names.now c.after_name.result.0.now ≡ Some c.in-Some.process =
    sym c.find.ensures ∙ c.in-Some.is in
    let named : process_named c.args.names.now c.after_name.result.0.now ≡ Some known.0 = known.2 in
    let same : known.0 ≡ c.in-Some.process = cc in
    c.in_default-find_var.not-Some known.1 (c.find_var.ensures ∙ (rw same at known.3))

pub returns : goal.returns
returns c =
    reference_is_read c.args.names.now c.args.tokens.now c.after_name.result.1.now c.after_first.result.now
    c.after_name-2.result.1.now c.after_name.result.0.now c.after_name-2.result.0.now c.after_first.ensures.0
    c.in-Some.process c.in-Some-find_var.var c.requires.leads c.after_name.ensures c.after_first.ensures.1
    c.after_name-2.ensures (sym c.find.ensures ∙ c.in-Some.is) (sym c.find_var.ensures ∙ c.in-Some-find_var.is)
