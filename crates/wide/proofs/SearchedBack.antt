-- What is final of Definitely once gates were looked for and the search back is done, and the level of a yes where the
-- levels leave it unknown.
use Rattle.std.proofs.Common.{◌≡◌, ℕ, inl, inr, List, refl}
use Rattle.std.specs.Global.{Global}
use Rattle.std.specs.Prelude.{Some, None, Vec}
use Rattle.def_model.specs.Cuts.{total}
use Rattle.def_model.specs.Order.{HasNoCycle}
use Rattle.def_model.specs.Predicates.{Predicate, Recorded, test_of}
use Rattle.def_wide.specs.DeadEnds.{EndsBack, IsFoundBack}
use Rattle.def_wide.specs.Decided.{IsDefinitelyDecided}
use Rattle.def_wide.specs.Gates.{IsLateLevel, IsLeastGate, of_end, of_gate}
use Rattle.def_wide.proofs.GateLaws.{found_not_late, no_printed_path}
use Rattle.walk_back.specs.declared.definitely_answer.DefinitelyAnswer.{DefinitelyAnswer}
use Rattle.walk_back.specs.declared.definitely_answer.DefinitelyAnswer.TheVariants.{No}
use Rattle.wide.specs.Found.{FindsDefinitely, IsDefinite}

module _ (r : Recorded) (predicate : Predicate) (w : ℕ) where
  -- an answer that is decided is final
  pub decided_is_final : (answer : DefinitelyAnswer) → FindsDefinitely r predicate (Some answer)
      → IsDefinite r predicate w (record { answer = Some answer; late = None })
  decided_is_final answer finds = record {
    finds = inl finds;
    late = λ none. absurd (none.0 finds.0);
  }

  -- so is a path that the search finds
  pub path_is_final : (path : Vec ℕ Global) → (¬ IsDefinitelyDecided r predicate)
      → IsFoundBack r predicate w path.items
      → IsDefinite r predicate w (record { answer = Some (No path); late = None })
  path_is_final path undecided found = record {
    finds = inr (undecided, (path.items, found, refl));
    late = λ none. absurd (none.1 path.items found);
  }

  -- with a gate there is no path
  pub gate_is_late : (level : ℕ) → HasNoCycle r.events → (¬ IsDefinitelyDecided r predicate)
      → IsLeastGate r predicate level
      → IsDefinite r predicate w (record { answer = None; late = Some level })
  gate_is_late level acyclic undecided gate = record {
    finds = (undecided, λ path found. found_not_late r predicate w path level acyclic found (of_gate gate));
    late = λ none. of_gate gate;
  }

  -- nor is there one if the search ends without
  pub end_is_late : (¬ IsDefinitelyDecided r predicate) → ((level : ℕ) → ¬ IsLeastGate r predicate level)
      → EndsBack r predicate w → (level : ℕ) → level ≡ total r.events
      → IsDefinite r predicate w (record { answer = None; late = Some level })
  end_is_late undecided no_gate ends level is = record {
    finds = (undecided, λ path found. no_printed_path r.events (test_of r predicate) path ends.passed found.printed);
    late = λ none. of_end no_gate ends is;
  }

  -- with neither nothing is found
  pub none_is_found : (¬ IsDefinitelyDecided r predicate) → ((level : ℕ) → ¬ IsLeastGate r predicate level)
      → ((path : List ℕ) → ¬ IsFoundBack r predicate w path) → (¬ EndsBack r predicate w)
      → IsDefinite r predicate w (record { answer = None; late = None })
  none_is_found undecided no_gate no_path no_end = record {
    finds = (undecided, no_path);
    late = λ none. no_level;
  }
    where
      no_level : (level : ℕ) → ¬ IsLateLevel r predicate w level
      no_level level (of_gate gate) = no_gate level gate
      no_level level (of_end none ends is) = no_end ends
