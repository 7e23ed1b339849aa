-- The examples.
use Rattle.def_model.proofs.Tried.{both_at_once, no_receipt_alone, avoided_up_to_two, cycle_of_receipts}
use Rattle.def_model.proofs.examples.Goals as goal

pub returns-clause-both_at_once : goal.returns-clause-both_at_once
returns-clause-both_at_once c = both_at_once

pub returns-clause-no_receipt_alone : goal.returns-clause-no_receipt_alone
returns-clause-no_receipt_alone c = no_receipt_alone

pub returns-clause-avoided_up_to_two : goal.returns-clause-avoided_up_to_two
returns-clause-avoided_up_to_two c = avoided_up_to_two

pub returns-clause-cycle_of_receipts : goal.returns-clause-cycle_of_receipts
returns-clause-cycle_of_receipts c = cycle_of_receipts
