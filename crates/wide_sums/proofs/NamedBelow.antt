-- The processes that comparisons name.
use Rattle.std.proofs.Common.{◌≡◌, ℕ, zero, suc, ◌<◌, List, [], ◌∷◌, length, map, get_or, sym, subst, arith}
use Rattle.def_wide.specs.Sums.{NameBelow}
use Rattle.wide_sums.specs.Literals.{literal_view}
use Rattle.wide_sums.specs.TermVerdicts.{AreNamedBelow}
use Rattle.wide_sums.specs.declared.literal.Literal.{Literal}

-- of each comparison what holds of all
pub named_below : (n : ℕ) (sums : List Literal) (i : ℕ) (l : Literal) → i < length sums
    → AreNamedBelow n (map literal_view sums) → l ≡ get_or sums i l
    → NameBelow n (literal_view l).left × NameBelow n (literal_view l).right
named_below n [] i l lt named is = absurd (omega arith)
named_below n (first ∷ sums) zero l lt named is =
    subst (λ (m : Literal). NameBelow n (literal_view m).left × NameBelow n (literal_view m).right) (sym is)
    (named.0, named.1)
named_below n (first ∷ sums) (suc i) l lt named is = named_below n sums i l (omega arith) named.2 is
