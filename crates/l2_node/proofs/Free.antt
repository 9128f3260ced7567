-- Where no process holds a block, no number is held.
use Rattle.std.proofs.Common.{◌≡◌, ◌<◌, ◌+◌, ℕ, Option, Some, None, List, [], ◌∷◌, length, take, slice_index_or}
use Rattle.std.proofs.Common.{refl, ap, ◌∙◌}
use Rattle.std.specs.List.{All}
use Rattle.std.proofs.lemmas.List.Elements.{All-head, All-more, All-tail}
use Rattle.harq.specs.Sending.{Sending, held_of}
use Rattle.l2_node.specs.Finding.{Numbers, lower, number_at, lowest_of, lowest}
use Rattle.l2_node.specs.Holding.{HoldsNone}

lower_none : (found : Option ℕ) → lower found None ≡ found
lower_none None = refl
lower_none (Some x) = refl

abbrev IsFree : Sending → ℕ → Type 0
IsFree sender p = held_of sender p ≡ None

none_of : (sender : Sending) (numbers : Numbers) (lcid : ℕ) (ps : List ℕ) (found : Option ℕ)
    → All (IsFree sender) ps → lowest_of sender numbers lcid ps found ≡ found
none_of sender numbers lcid [] found none = refl
none_of sender numbers lcid (p ∷ ps) found none =
    let free : held_of sender p ≡ None = All-head (IsFree sender) p ps none in
    let here : lower found (number_at sender numbers lcid p) ≡ found = rw free (lower_none found) in
    ap (lowest_of sender numbers lcid ps) here
    ∙ none_of sender numbers lcid ps found (All-tail (IsFree sender) p ps none)

pub none_held : (sender : Sending) (numbers : Numbers) (lcid : ℕ) → HoldsNone sender
    → lowest sender numbers lcid ≡ None
unfolding lowest
none_held sender numbers lcid none =
    none_of sender numbers lcid (0 ∷ 1 ∷ 2 ∷ 3 ∷ 4 ∷ 5 ∷ 6 ∷ 7 ∷ []) None none

-- one process more that holds none
pub frees_more : (sender : Sending) (ps : List ℕ) (i d : ℕ) → i < length ps
    → All (IsFree sender) (take i ps) → held_of sender (slice_index_or ps i d) ≡ None
    → All (IsFree sender) (take (i + 1) ps)
frees_more sender ps i d lt before here = All-more (IsFree sender) ps i d lt before here
