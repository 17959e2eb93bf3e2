use Rattle.std.proofs.Common.{◌≡◌, ◌^◌, ◌<◌, drop, take, true}
use Rattle.std.specs.Char.{is_ascii_digit}
use Rattle.std.specs.List.{list_all}
use Rattle.std.specs.Str.Parse.{digits_value, digits_value_after}
use Rattle.http_request.proofs.fields.number_of.Given as goal

abbrev pub invariant-loop-b : goal.invariant-loop-b
invariant-loop-b l = record {
  small : l.number < 10 ^ l.b-index;
  passed : list_all is_ascii_digit (take l.b-index l.digits) ≡ true;
  rest : digits_value_after 10 l.number (drop l.b-index l.digits) ≡ digits_value 10 l.digits;
}
