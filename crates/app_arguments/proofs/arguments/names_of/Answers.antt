-- The texts are those of the parser's rows.
use Rattle.std.proofs.Common.{◌∙◌, Bor, List, Option, Some, ap, map, option_map, sym, ℕ}
use Rattle.clap.proofs.WalkLemmas.{raw_values-rows}
use Rattle.clap.specs.Matches.{found_of}
use Rattle.app_arguments.proofs.arguments.names_of.Goals as goal

pub returns-in_default : goal.returns-in_default
returns-in_default c =
    sym (ap (λ (texts : Option (Bor (List (Bor (List ℕ))))). option_map (λ (all : Bor (List (Bor (List ℕ)))).
    map (λ (text : Bor (List ℕ)). text.now) all.now) texts) c.in_default.is) ∙ c.get_strs.ensures
    ∙ raw_values-rows (found_of c.args.matches.now) c.args.id.now

pub returns : goal.returns
returns c =
    ap (λ (items : List (Bor (List ℕ))). Some (map (λ (text : Bor (List ℕ)). text.now) items))
    (c.in_ok-to_vec.ensures.items_if_clones_equal (λ x y same. same)) ∙ c.in-Some.ensures
    ∙ raw_values-rows (found_of c.args.matches.now) c.args.id.now
