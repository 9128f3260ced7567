-- The account of what PDCP gives RLC of acknowledged data, as it is kept: nothing of COUNTs that
-- are confirmed and aren't to be taken again (docs/laws/ACCOUNT.md; TS 36.323 5.2.1.1).
use Rattle.std.specs.Prelude.{ℕ, ◌+◌, ◌-◌, ◌==◌, Bool, true, false, ◌&&◌, nat_lt, if◌then◌else◌}
use Rattle.std.specs.Prelude.{List, [], ◌∷◌, ◌++◌, length, take, drop, min, max, Option, None}
use Rattle.std.specs.Prelude.{slice_get}
use Rattle.std.specs.BTreeSet.{insert_key}
use Rattle.std.specs.Ordering.{nat_cmp}
use Rattle.l2_num.specs.Least.{past}
use Rattle.journal_takes.specs.declared.take.Take.{Take}
use Rattle.journal_takes.specs.TakeEvents.{TakeEvent, SduSubmitted, SduDiscarded, PduTaken}
use Rattle.journal_takes.specs.TakeEvents.{ReportTaken, PduConfirmed, ReportConfirmed, ReportHeard}
use Rattle.journal_takes.specs.TakeEvents.{LifeEnded, has_count}
use Rattle.journal_takes.specs.Takeable.{half, offer}

pub record FlowTakes : Type 0 where
  -- half of the sequence numbers
  pub width : ℕ
  -- U, and U0
  pub low : ℕ
  pub begun : ℕ
  -- the COUNT that is taken next, if one may be, and the next new one
  pub at : ℕ
  pub next : ℕ
  -- the COUNTs above U that are confirmed, and of the reported ones those that aren't below from
  pub confirmed : List ℕ
  pub reported : List ℕ
  -- the less of U and the COUNT that is taken next; the SDUs of the COUNTs from there on below the
  -- next new one, and those that wait
  pub from : ℕ
  pub sdus : List (List ℕ)
  pub waiting : List (List ℕ)
  -- the report is due, and the report isn't confirmed
  pub due : Bool
  pub reporting : Bool

-- as the first life begins, with so many bits of sequence numbers and the first COUNT
abbrev pub no_takes : ℕ → ℕ → FlowTakes
no_takes first bits = record {
  width = half bits;
  low = first;
  begun = first;
  at = first;
  next = first;
  confirmed = [];
  reported = [];
  from = first;
  sdus = [];
  waiting = [];
  due = false;
  reporting = false;
}

-- ---- what it tells

abbrev pub bound_of : FlowTakes → ℕ
bound_of t = (if t.reporting then t.begun else t.low) + t.width

abbrev pub is_free : FlowTakes → Bool
is_free t = nat_lt t.at (t.next + length t.waiting) && nat_lt t.at (bound_of t)

-- what is to be taken next
abbrev pub next_take : FlowTakes → Option Take
next_take t = offer t.due (is_free t) t.at

-- the octets of a COUNT's SDU
abbrev pub sdu_kept : ℕ → FlowTakes → Option (List ℕ)
sdu_kept count t =
    if nat_lt count t.from then None else slice_get (t.sdus ++ t.waiting) (count - t.from)

-- ---- events

-- of ascending COUNTs, those from one on
abbrev pub counts_from : ℕ → List ℕ → List ℕ
counts_from low [] = []
counts_from low (count ∷ counts) =
    if nat_lt count low then counts_from low counts else count ∷ counts

-- the first COUNT from one on, up to the next new one, that isn't among some
abbrev pub first_open : List ℕ → ℕ → ℕ → ℕ
first_open counts next at = past (has_count counts) (next - at) at

abbrev pub low_moved : FlowTakes → FlowTakes
low_moved t = record t {
  low = first_open t.confirmed t.next t.low;
  confirmed = counts_from (first_open t.confirmed t.next t.low) t.confirmed;
}

abbrev pub at_moved : FlowTakes → FlowTakes
at_moved t = record t { at = first_open t.reported t.next t.at }

abbrev pub trimmed : FlowTakes → FlowTakes
trimmed t = record t {
  reported = counts_from (min t.low t.at) t.reported;
  from = min t.low t.at;
  sdus = drop (min t.low t.at - t.from) t.sdus;
}

abbrev pub settled : FlowTakes → FlowTakes
settled t = trimmed (at_moved (low_moved t))

-- anew or not
abbrev pub taken_as : Bool → ℕ → FlowTakes → FlowTakes
taken_as true count t = record t {
  at = count + 1;
  next = count + 1;
  sdus = t.sdus ++ take 1 t.waiting;
  waiting = drop 1 t.waiting;
}
taken_as false count t = record t { at = count + 1 }

-- COUNTs below one more, in their order
abbrev pub with_marks : ℕ → List ℕ → List ℕ → List ℕ
with_marks next [] counts = counts
with_marks next (mark ∷ marks) counts =
    with_marks next marks (if nat_lt mark next then insert_key nat_cmp counts mark else counts)

abbrev pub reported_by : ℕ → List ℕ → FlowTakes → FlowTakes
reported_by fms marks t = record t {
  low = max t.low (min fms t.next);
  at = max t.at (min fms t.next);
  confirmed = with_marks t.next marks t.confirmed;
  reported = with_marks t.next marks t.reported;
}

abbrev pub takes_with : TakeEvent → FlowTakes → FlowTakes
takes_with (SduSubmitted octets) t = record t { waiting = t.waiting ++ octets ∷ [] }
takes_with SduDiscarded t = record t { waiting = drop 1 t.waiting }
takes_with (PduTaken count) t = settled (taken_as (count == t.next) count t)
takes_with ReportTaken t = record t { due = false }
takes_with (PduConfirmed count) t =
    settled (record t { confirmed = insert_key nat_cmp t.confirmed count })
takes_with ReportConfirmed t = record t { reporting = false }
takes_with (ReportHeard fms marks) t = settled (reported_by fms marks t)
takes_with (LifeEnded report) t =
    settled (record t { begun = t.low; at = t.low; due = report; reporting = report })

-- the account of a history
abbrev pub takes_of : ℕ → ℕ → List TakeEvent → FlowTakes
takes_of first bits [] = no_takes first bits
takes_of first bits (e ∷ es) = takes_with e (takes_of first bits es)
