use Rattle.std.proofs.Common.{◌≡◌, ◌<◌, ◌^◌, drop}
use Rattle.text_digits.specs.Numerals.{value_behind}
use Rattle.journal_text.proofs.fields.long_value.Given as goal

abbrev pub invariant-loop-x : goal.invariant-loop-x
invariant-loop-x l = record {
  small : l.so_far < 2 ^ 64;
  rest : value_behind 0 l.text ≡ value_behind l.so_far (drop l.x-index l.text);
}
