-- Which words a refusal has.
use Rattle.def_format.specs.Reports.{Refusal, Spec, Predicate, Streams, Stream, Absent, Match, Cycle}

pub data RefusalKind : Type 0 where
  SpecKind : RefusalKind
  PredicateKind : RefusalKind
  StreamsKind : RefusalKind
  StreamKind : RefusalKind
  AbsentKind : RefusalKind
  MatchKind : RefusalKind
  CycleKind : RefusalKind

abbrev pub refusal_kind : Refusal → RefusalKind
refusal_kind (Spec word) = SpecKind
refusal_kind (Predicate number word at) = PredicateKind
refusal_kind Streams = StreamsKind
refusal_kind (Stream stream line word) = StreamKind
refusal_kind (Absent name) = AbsentKind
refusal_kind (Match word place) = MatchKind
refusal_kind (Cycle places) = CycleKind
