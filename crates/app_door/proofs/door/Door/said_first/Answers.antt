-- The first line is the token, or nothing begins after it.
use Rattle.std.proofs.Common.{ap}
use Rattle.app_door.specs.Doors.{token_view}
use Rattle.app_door.proofs.TokenLines.{no_start_of, start_of}
use Rattle.app_door.proofs.door.Door.said_first.Goals as goal

pub returns-then-says_token-clause-start : goal.returns-then-says_token-clause-start
returns-then-says_token-clause-start c = λ count is.
    start_of (token_view c.args.self.now.token) c.in-Some.token.items c.deref.result.now c.first_line-line.result.now
    c.args.bytes.now count (ap token_view c.in-Some.is) c.deref.ensures.value c.first_line-line.ensures
    (c.says_token.ensures.0 c.if-says_token.true) (cc)

pub returns-else-says_token-clause-other : goal.returns-else-says_token-clause-other
returns-else-says_token-clause-other c = λ is start begun.
    no_start_of (token_view c.args.self.now.token) c.in-Some.token.items c.deref.result.now
    c.first_line-line.result.now c.args.bytes.now start (ap token_view c.in-Some.is) c.deref.ensures.value
    c.first_line-line.ensures
    (λ said. let yes = c.says_token.ensures.1 said in let no = c.if-says_token.false in absurd (cc)) begun
