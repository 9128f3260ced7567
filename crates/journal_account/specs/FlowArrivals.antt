-- The account of what has arrived of an acknowledged flow in a life, as it is kept: nothing of the
-- numbers below VR(R) (docs/laws/ACCOUNT.md; TS 36.322 7.1).
use Rattle.std.specs.Prelude.{ℕ, ◌+◌, ◌-◌, Bool, true, false, if◌then◌else◌, List, []}
use Rattle.std.specs.Prelude.{◌∷◌, ◌++◌, ◌&&◌, length, drop, min, max, is_none, nat_le, nat_lt}
use Rattle.std.specs.Prelude.{slice_set}
use Rattle.std.specs.Prelude.{slice_index_or, Option, Some, None}
use Rattle.rlc_pdu.specs.declared.pdu.Part.{Part}
use Rattle.rlc_pdu.specs.Runs.{Run, added, gap_in}

-- how many octets a number has, and the places of those that have come
pub record FieldArrivals : Type 0 where
  pub size : ℕ
  pub came : List Run

-- front is VR(R), and fields are those of the numbers from there on below VT(S), which begin at the
-- place start of the stream and end at the place written; top, bound and mark are VR(H), VR(MS) and
-- VR(X)
pub record FlowArrivals : Type 0 where
  pub front : ℕ
  pub start : ℕ
  pub written : ℕ
  pub fields : List FieldArrivals
  pub top : ℕ
  pub bound : ℕ
  pub mark : ℕ

abbrev pub nothing_came : ℕ → FieldArrivals
nothing_came size = record { size = size; came = [] }

-- in place of a number that wasn't written: an octet of it is missing
abbrev pub not_written : FieldArrivals
not_written = nothing_came 1

abbrev pub none_written : FlowArrivals
none_written =
    record { front = 0; start = 0; written = 0; fields = []; top = 0; bound = 0; mark = 0 }

-- VT(S)
abbrev pub next_in : FlowArrivals → ℕ
next_in a = a.front + length a.fields

abbrev pub field_at : List FieldArrivals → ℕ → FieldArrivals
field_at fields at = slice_index_or fields at not_written

abbrev pub is_whole : FieldArrivals → Bool
is_whole f = is_none (gap_in f.came 0 f.size)

-- how many fields stand first of which each octet has come
abbrev pub whole_first : List FieldArrivals → ℕ
whole_first [] = 0
whole_first (f ∷ fs) = if is_whole f then whole_first fs + 1 else 0

-- and how many octets these have
abbrev pub octets_first : List FieldArrivals → ℕ
octets_first [] = 0
octets_first (f ∷ fs) = if is_whole f then f.size + octets_first fs else 0

abbrev pub octets_of : List FieldArrivals → ℕ
octets_of [] = 0
octets_of (f ∷ fs) = f.size + octets_of fs

-- how many octets of a field have come before the first that hasn't
abbrev pub up_to_gap : Option Part → ℕ → ℕ
up_to_gap None size = size
up_to_gap (Some p) size = p.start

abbrev pub leading_octets : FieldArrivals → ℕ
leading_octets f = up_to_gap (gap_in f.came 0 f.size) f.size

-- the first place of the stream that hasn't come
abbrev pub stream_gap : FlowArrivals → ℕ
stream_gap a = a.start + leading_octets (field_at a.fields 0)

-- octets at places from one on below another, counted from where fields begin, have all come
abbrev pub places_came : List FieldArrivals → ℕ → ℕ → Bool
places_came [] from to = nat_le to from
places_came (f ∷ fs) from to = is_none (gap_in f.came from (min to f.size))
    && places_came fs (from - f.size) (to - f.size)

-- the first place at or above another whose field isn't whole
abbrev pub first_open : List FieldArrivals → ℕ → ℕ
first_open fields from = from + whole_first (drop from fields)

-- the first number at or above another that isn't complete
abbrev pub open_number : ℕ → List FieldArrivals → ℕ → ℕ
open_number front fields from = front + first_open fields (from - front)

-- ---- events

abbrev pub with_number : ℕ → FlowArrivals → FlowArrivals
with_number size a = record a {
  fields = a.fields ++ nothing_came size ∷ [];
  written = a.written + size;
}

abbrev pub with_octets : ℕ → ℕ → FieldArrivals → FieldArrivals
with_octets from to f = record f { came = added f.came from to }

abbrev pub octets_at : ℕ → ℕ → ℕ → List FieldArrivals → List FieldArrivals
octets_at at from to fields = slice_set fields at (with_octets from to (field_at fields at))

-- VR(R) and VR(MS) move to the first numbers that aren't complete
abbrev pub settled_with : List FieldArrivals → FlowArrivals → FlowArrivals
settled_with fields a = record a {
  front = a.front + whole_first fields;
  start = a.start + octets_first fields;
  fields = drop (whole_first fields) fields;
  bound = open_number a.front fields a.bound;
}

-- below VR(R) nothing is new
abbrev pub landed_in : Bool → ℕ → ℕ → ℕ → FlowArrivals → FlowArrivals
landed_in true n from to a = a
landed_in false n from to a = settled_with (octets_at (n - a.front) from to a.fields) a

abbrev pub with_arrival : ℕ → ℕ → ℕ → FlowArrivals → FlowArrivals
with_arrival n from to a =
    record (landed_in (nat_lt n a.front) n from to a) { top = max a.top (n + 1) }

abbrev pub reorder_started : FlowArrivals → FlowArrivals
reorder_started a = record a { mark = a.top }

abbrev pub reorder_expired : FlowArrivals → FlowArrivals
reorder_expired a = record a { bound = open_number a.front a.fields (max a.bound a.mark) }
