-- What follows a space, a tab or a CR.
use Rattle.read_tokens.proofs.Lexing.{blank_first, tab_first, return_first, passes}
use Rattle.read_tokens.proofs.bytes.after_space.Goals as goal

pub returns-in-Some : goal.returns-in-Some
returns-in-Some c = passes 32 c.args.bytes.now c.in-Some.after.now c.in-Some.ensures (blank_first c.in-Some.after.now)

pub returns-in-Some-after_byte : goal.returns-in-Some-after_byte
returns-in-Some-after_byte c =
    let after = c.in-Some-after_byte.after.now in
    passes 9 c.args.bytes.now after c.in-Some-after_byte.ensures (tab_first after)

pub returns : goal.returns
returns c =
    let after = c.in_ok-after.after.now in passes 13 c.args.bytes.now after c.in_ok-after.ensures (return_first after)
