-- What the loop of `whole` keeps.
use Rattle.std.proofs.Common.{◌≡◌, ◌≤◌, ◌<◌, ◌-◌, ◌^◌, true, length, take}
use Rattle.std.specs.Char.{is_ascii_digit}
use Rattle.std.specs.List.{list_all}
use Rattle.std.specs.Str.Parse.{digits_value}
use Rattle.read_tokens.proofs.bytes.whole.Given as goal

abbrev pub invariant-digits : goal.invariant-digits
invariant-digits l = record {
  within : l.count ≤ length l.bytes;
  are : list_all is_ascii_digit (take l.count l.bytes) ≡ true;
  value_is : l.value ≡ digits_value 10 (take l.count l.bytes);
  fits : l.value < 10 ^ 18;
}

abbrev pub decreases-digits : goal.decreases-digits
decreases-digits l = length l.bytes - l.count
