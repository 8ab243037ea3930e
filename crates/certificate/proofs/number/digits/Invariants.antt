use Rattle.std.proofs.Common.{◌≡◌, true, take}
use Rattle.std.specs.Str.{all_ascii_digits}
use Rattle.certificate.specs.Reading.{read_on}
use Rattle.certificate.proofs.number.digits.Given as goal

abbrev pub invariant-loop-byte : goal.invariant-loop-byte
invariant-loop-byte g l = record {
  read : l.len ≡ l.byte-index;
  all : all_ascii_digits (take l.len l.text) ≡ true;
  value : g.N.Digits.value l.value ≡ read_on 0 (take l.len l.text);
}
