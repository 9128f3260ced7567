-- SDUs that a loop returns (TS 36.509 5.4).
use Rattle.std.specs.Prelude.{ℕ, ◌%◌, ◌==◌, if◌then◌else◌, List, length, slice_index, map}
use Rattle.std.specs.List.{range_with_len}

-- an SDU with its logical channel
pub record Item : Type 0 where
  pub lcid : ℕ
  pub octets : List ℕ

abbrev pub item : ℕ → List ℕ → Item
item lcid octets = record { lcid = lcid; octets = octets }

-- so many octets of an SDU, from its beginning and over and over
unfoldable pub repeated : List ℕ → ℕ → List ℕ
repeated sdu size = map (λ i. slice_index sdu (i % length sdu)) (range_with_len 0 size)

-- an SDU cut or repeated to a size; 0 is its own
abbrev pub cut : List ℕ → ℕ → List ℕ
cut sdu size = if size == 0 then sdu else repeated sdu size
