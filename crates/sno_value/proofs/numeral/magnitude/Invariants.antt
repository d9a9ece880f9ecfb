-- What has been read, and what is left of the digits, give the value of all of them; so far it is not above the limit.
use Rattle.std.proofs.Common.{◌≡◌, ◌≤◌, ◌^◌, drop}
use Rattle.mon_text.{specs.Counts.{value_of}, proofs.Digits.{read_on}}
use Rattle.sno_value.proofs.numeral.magnitude.Given as goal

abbrev pub invariant-loop-digit : goal.invariant-loop-digit
invariant-loop-digit l = record {
  value : read_on l.value (drop l.digit-index l.digits) ≡ value_of l.digits;
  small : l.value ≤ 2 ^ 63;
}
