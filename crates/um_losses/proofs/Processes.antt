-- There are eight HARQ processes.
use Rattle.std.proofs.Common.{◌≡◌, ℕ, ◌≤◌, List, length, slice_set, slice_index_or, Option, None, arith}
use Rattle.std.proofs.lemmas.List.{set_past, get_or_past}
use Rattle.um_losses.specs.declared.sending.InFlight.{InFlight}

pub put_past : (xs : List (Option InFlight)) (process : ℕ) (y : Option InFlight) → length xs ≡ 8 → 8 ≤ process
    → slice_set xs process y ≡ xs
put_past xs process y eight h = set_past xs process y (omega arith)

pub found_past : (xs : List (Option InFlight)) (process : ℕ) → length xs ≡ 8 → 8 ≤ process
    → slice_index_or xs process None ≡ None
found_past xs process eight h = get_or_past xs process None (omega arith)

pub ruleset past = (put_past, found_past)
