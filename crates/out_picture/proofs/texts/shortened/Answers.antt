-- The characters that fit, and three dots.
use Rattle.std.proofs.Common.{◌≡◌, ◌++◌, ◌-◌, ◌∙◌, sym, ap, codes, take, List, ℕ, arith}
use Rattle.std.specs.String.{string_bytes}
use Rattle.out_picture.proofs.Cuts.{cut_fits, cut_cuts, dots_three}
use Rattle.out_picture.proofs.texts.shortened.Goals as goal

pub returns-then-text-limit : goal.returns-then-text-limit
returns-then-text-limit c = rw (cut_fits c.args.limit c.args.text.now c.if-text-limit.true) c.from_str.ensures.ok

pub returns : goal.returns
returns c =
    let kept = c.floor_char_boundary-kept in
    let front : c.range.result.now ≡ take kept.result c.args.text.now = c.range.ensures.value
    ∙ (let all : kept.result - 0 ≡ kept.result = omega arith in ap (λ (n : ℕ). take n c.args.text.now) all) in
    let cut =
    cut_cuts c.args.limit c.args.text.now kept.result c.if-text-limit.false (
      kept.ensures.bound,
      kept.ensures.boundary,
      kept.ensures.nearest,
    ) in
    let bytes : string_bytes c.push_str.new.self ≡ string_bytes c.in_ok-short.short ++ codes "..." =
    c.in_ok-push_str.ensures.bytes in
    bytes ∙ (ap (λ (xs : List ℕ). xs ++ codes "...") (c.in_ok-short.ensures.ok ∙ front)
    ∙ (ap (λ (xs : List ℕ). take kept.result c.args.text.now ++ xs) (sym (dots_three c.args.limit c.requires))
    ∙ sym cut))
