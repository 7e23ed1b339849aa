-- A term is as long as the list of its numbers.
use Rattle.std.proofs.Common.{◌≡◌, ℕ, length, ap, sym, ◌∙◌, ◌↔◌, eq-eqb}
use Rattle.std.proofs.lemmas.Bool.{eqb-true}
use Rattle.std.proofs.lemmas.List.{length-map}
use Rattle.std.specs.Prelude.{IsTrue, nat_eq}
use Rattle.wide_sums.specs.Literals.{literal_at}
use Rattle.wide_sums.proofs.Reading.{term_read}
use Rattle.wide_sums.proofs.prepared.Prepared.is_single.Goals as goal

-- whether a number is 1
one_tells : (n m : ℕ) → m ≡ n → IsTrue (nat_eq n 1) ↔ (m ≡ 1)
one_tells n m same = (λ is. same ∙ eqb-true n 1 is, λ is. eq-eqb n 1 (sym same ∙ is))

pub returns : goal.returns
returns c =
    let literals = c.args.self.now.terms.literals.items in
    let term = c.index.result.now in
    one_tells (length c.as_slice-numbers.result.now) _
    (ap length (term_read literals c.args.self.now.terms.terms.items c.args.i term c.as_slice-numbers.result.now
    c.requires c.index.ensures c.as_slice-numbers.ensures.value)
    ∙ length-map c.as_slice-numbers.result.now (literal_at literals))
