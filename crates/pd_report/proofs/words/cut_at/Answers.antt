-- The bytes are cut at the first byte that is sought.
use Rattle.std.proofs.Common.{◌≡◌, ◌∙◌, ◌++◌, ◌∷◌, [], ◌+◌, ℕ, List, true, take, drop, get_or, refl, sym, ap, subst, suc, arith}
use Rattle.std.specs.Prelude.{not, ◌==◌}
use Rattle.std.proofs.Math.Seq.{drop-cons}
use Rattle.std.proofs.lemmas.Bool.Decides.{nat_tests}
use Rattle.std.proofs.lemmas.List.{take-append-drop, take_all, take_more, take_rest}
use Rattle.def_format.proofs.OneReport.{all-append}
use Rattle.pd_report.specs.Cuts.{Lacks}
use Rattle.pd_report.proofs.words.cut_at.Goals as goal

-- one byte more that is another
lacks_more : (at byte : ℕ) (bytes : List ℕ) → Lacks at bytes → ¬ (byte ≡ at) → Lacks at (bytes ++ byte ∷ [])
lacks_more at byte bytes before other =
    let differs : not (byte == at) ≡ true = grind (arith, nat_tests) in
    all-append (λ b. not (b == at)) bytes (byte ∷ []) before (rw differs refl)

pub loop-end-preserved : goal.loop-end-preserved
loop-end-preserved c =
    let bytes = c.args.bytes.now in
    let end = c.loop-end.end in
    subst (Lacks c.args.at) (sym (take_more bytes end 0 c.loop-end-test.true))
    (lacks_more c.args.at (get_or bytes end 0) (take end bytes) c.loop-end.invariant c.if-byte-at.false)

pub returns-then-byte-at : goal.returns-then-byte-at
returns-then-byte-at c =
    let bytes = c.args.bytes.now in
    let end = c.loop-end.end in
    let next : suc end ≡ end + 1 = omega arith in (
      c.loop-end.invariant,
      sym (take-append-drop end bytes)
          ∙ ap (λ rest. take end bytes ++ rest) (drop-cons bytes end 0 c.loop-end-test.true
          ∙ ap (λ byte. byte ∷ drop (suc end) bytes) c.if-byte-at.true
          ∙ ap (λ n. c.args.at ∷ drop n bytes) next
          ∙ ap (λ rest. c.args.at ∷ rest) (sym (take_rest bytes (end + 1)))),
    )

pub returns : goal.returns
returns c =
    subst (Lacks c.args.at) (take_all c.loop-end.end c.args.bytes.now c.loop-end-test.false) c.loop-end.invariant
