use Rattle.std.proofs.Common.{◌≡◌, drop}
use Rattle.case_text.specs.Number.{digits_from}
use Rattle.case_text.proofs.numbers.digits.Given as goal

abbrev pub invariant-loop-byte : goal.invariant-loop-byte
invariant-loop-byte l = digits_from l.base l.value (drop l.byte-index l.word) ≡ digits_from l.base 0 l.word
