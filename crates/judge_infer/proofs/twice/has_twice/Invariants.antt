-- What the loops of `has_twice` keep.
use Rattle.std.proofs.Common.{◌≡◌, ℕ, List, Bor, false, map, take, nat_cmp, is_eq}
use Rattle.std.specs.Cmp.Lexicographic.{slice_cmp}
use Rattle.std.specs.List.{list_any}
use Rattle.def_format.specs.Documents.{has_twice}
use Rattle.def_format.specs.Lists.{is_one_of}
use Rattle.judge_infer.proofs.twice.has_twice.Given as goal

abbrev pub invariant-loop-text : goal.invariant-loop-text
invariant-loop-text l =
    record {
      same : (q : List ℕ) → list_any (λ (key : Bor (List ℕ)). is_eq (slice_cmp nat_cmp q key.now)) l.seen.keys
          ≡ is_one_of (map (λ (text : Bor (List ℕ)). text.now) (take l.text-index l.texts)) q;
      once : has_twice (map (λ (text : Bor (List ℕ)). text.now) (take l.text-index l.texts)) ≡ false;
    }
