-- Small sessions on which the definitions are tried: one message, and whether both variables can be 1; and three
-- processes with no message, whether their variables can add up to 3.
use Rattle.std.specs.Prelude.{List, [], ◌∷◌, codes, true, false, pos}
use Rattle.def_model.specs.Answers.{PossiblyYes, IsFirstSatisfying}
use Rattle.def_model.specs.Events.{Local, Send, Receive, Computation}
use Rattle.def_model.specs.Messages.{One}
use Rattle.def_model.specs.Examples.{event, zeros, one_message, both}
use Rattle.def_model.specs.Predicates.{Recorded, test_of}
use Rattle.def_wide.specs.Examples.{reach}
use Rattle.def_format.specs.Readings.{Trace}
use Rattle.def_format.specs.Documents.{Document}
use Rattle.def_format.specs.Reports.{Possibly, Definitely, Report, Judged}
use Rattle.def_judgement.specs.Judgements.{IsTracesReport, AnswersPossibly}
use Rattle.def_judgement.specs.Headline.{IsNarrow, TellsTruth, each_predicate}

-- Each level of the computation with one message has one cut.
abbrev pub OneCutALevel : Type 0
OneCutALevel = IsNarrow one_message 1

-- two processes with one variable each, one predicate, and room for one cut
abbrev pub asks_both : Document
asks_both = record {
  names = record { name = codes "p"; vars = codes "x" ∷ [] } ∷ record { name = codes "q"; vars = codes "x" ∷ [] } ∷ [];
  initial = zeros;
  predicates = record { name = codes "both"; predicate = both } ∷ [];
  width = 1;
  version = One;
  beyond_width = false;
}

-- the traces of the computation with one message
abbrev pub message_traces : List Trace
message_traces =
    record { process = 0; join_line = 1; events = event (Send (109 ∷ [])) ((0, pos 1) ∷ []) ∷ [] }
    ∷ record { process = 1; join_line = 1; events = event (Receive (109 ∷ [])) ((0, pos 1) ∷ []) ∷ [] } ∷ []

abbrev pub both_report : Report
both_report =
    Judged 2 2 1 (record { name = codes "both"; possibly = Possibly.Yes (1 ∷ 1 ∷ []); definitely = Definitely.Yes 2 }
    ∷ [])

-- Both are 1 after the receipt, and every observation comes there: the report says so, and it is true.
abbrev pub OneTrueReport : Type 0
OneTrueReport =
    IsTracesReport asks_both message_traces both_report
    × TellsTruth each_predicate asks_both message_traces both_report

-- Three processes send no message. The first sets its variable to 1 and then to 3, and each of the others sets its own
-- to 1.
abbrev pub three_apart : Computation
three_apart =
    (event Local ((0, pos 1) ∷ []) ∷ event Local ((0, pos 3) ∷ []) ∷ [])
    ∷ (event Local ((0, pos 1) ∷ []) ∷ []) ∷ (event Local ((0, pos 1) ∷ []) ∷ []) ∷ []

-- three processes with one variable each, one predicate, room for one cut, and answers beyond this width
abbrev pub asks_sum : Document
asks_sum = record {
  names = record { name = codes "p"; vars = codes "x" ∷ [] } ∷ record { name = codes "q"; vars = codes "x" ∷ [] }
      ∷ record { name = codes "r"; vars = codes "x" ∷ [] } ∷ [];
  initial = (pos 0 ∷ []) ∷ (pos 0 ∷ []) ∷ (pos 0 ∷ []) ∷ [];
  predicates = record { name = codes "three"; predicate = reach 3 } ∷ [];
  width = 1;
  version = One;
  beyond_width = true;
}

abbrev pub three_recorded : Recorded
three_recorded = record { initial = asks_sum.initial; events = three_apart }

-- Level 1 has three cuts, so the answer for the sum is by height. Its cut has one event of each process, though the cut
-- with two events of the first process alone satisfies, too, and is of a lower level.
abbrev pub OneAnswerByHeight : Type 0
OneAnswerByHeight =
    AnswersPossibly asks_sum three_recorded (reach 3) (PossiblyYes (1 ∷ 1 ∷ 1 ∷ []))
    × (¬ IsFirstSatisfying three_apart (test_of three_recorded (reach 3)) (1 ∷ 1 ∷ 1 ∷ []))
