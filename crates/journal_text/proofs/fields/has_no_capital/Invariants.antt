use Rattle.std.proofs.Common.{◌≡◌, ◌&&◌, drop}
use Rattle.std.specs.List.{list_all}
use Rattle.text_digits.specs.Pairs.{is_no_capital}
use Rattle.journal_text.proofs.fields.has_no_capital.Given as goal

abbrev pub invariant-loop-x : goal.invariant-loop-x
invariant-loop-x l =
    (l.none && list_all is_no_capital (drop l.x-index l.text)) ≡ list_all is_no_capital l.fn.text
