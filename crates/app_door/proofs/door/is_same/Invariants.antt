-- What the loop of `is_same` keeps: whether the bytes differ that were looked at.
use Rattle.std.proofs.Common.{◌≡◌, true, false, take}
use Rattle.app_door.proofs.door.is_same.Given as goal

abbrev pub invariant-loop-i : goal.invariant-loop-i
invariant-loop-i l = record {
  same : l.differs ≡ false → take l.i l.line ≡ take l.i l.token;
  other : l.differs ≡ true → ¬ (l.line ≡ l.token);
}
