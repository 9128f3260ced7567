-- The account of what STATUS PDUs and the poll timer say to the sender of an acknowledged flow in a
-- life, as it is kept: nothing of the numbers below VT(A) (docs/laws/ACCOUNT.md; TS 36.322 5.2,
-- 7.1).
use Rattle.std.specs.Prelude.{ℕ, ◌+◌, ◌-◌, ◌==◌, Bool, true, false, not, ◌||◌, ◌&&◌, nat_lt, nat_le}
use Rattle.std.specs.Prelude.{if◌then◌else◌, List, [], ◌∷◌, ◌++◌, length, drop, is_none}
use Rattle.std.specs.Prelude.{slice_set, slice_index_or, Option, Some, None}
use Rattle.std.specs.List.{list_any}
use Rattle.rlc_pdu.specs.declared.constants.TheConstants.{AM_WINDOW_SIZE}
use Rattle.rlc_pdu.specs.Runs.{Run, added, removed, gap_in}
use Rattle.journal_account.specs.declared.entry.StatusEntry.{StatusEntry}
use Rattle.journal_account.specs.Entries.{names_number, start_of, stop_of}

-- how many octets a number has, whether it is acknowledged, the places of the octets that wait to
-- be resent, and how often it was named so that it counts
pub record SentNumber : Type 0 where
  pub size : ℕ
  pub acked : Bool
  pub waiting : List Run
  pub namings : ℕ

-- base is VT(A), and numbers are those from there on below VT(S), which begin at the place start of
-- the stream; most is maxRetxThreshold; limit is the number at which the flow failed
pub record FlowSending : Type 0 where
  pub base : ℕ
  pub start : ℕ
  pub numbers : List SentNumber
  pub most : ℕ
  pub limit : Option ℕ

abbrev pub never_named : ℕ → SentNumber
never_named size = record { size = size; acked = false; waiting = []; namings = 0 }

abbrev pub none_sent : ℕ → FlowSending
none_sent most = record { base = 0; start = 0; numbers = []; most = most; limit = None }

-- VT(S)
abbrev pub sent_in : FlowSending → ℕ
sent_in s = s.base + length s.numbers

abbrev pub number_at : List SentNumber → ℕ → SentNumber
number_at numbers at = slice_index_or numbers at (never_named 0)

abbrev pub with_sent : ℕ → FlowSending → FlowSending
with_sent size s = record s { numbers = s.numbers ++ never_named size ∷ [] }

-- ---- octets are written again, and wait no more

abbrev pub with_rest : ℕ → ℕ → SentNumber → SentNumber
with_rest from to h = record h { waiting = removed h.waiting from to }

abbrev pub rested_in : Bool → ℕ → ℕ → ℕ → FlowSending → FlowSending
rested_in true n from to s = s
rested_in false n from to s = record s {
  numbers =
      slice_set s.numbers (n - s.base) (with_rest from to (number_at s.numbers (n - s.base)));
}

abbrev pub with_resent : ℕ → ℕ → ℕ → FlowSending → FlowSending
with_resent n from to s = rested_in (nat_lt n s.base) n from to s

-- octets at or above a place and below another all wait
abbrev pub octets_wait : ℕ → ℕ → ℕ → FlowSending → Bool
octets_wait n from to s =
    nat_le s.base n && is_none (gap_in (number_at s.numbers (n - s.base)).waiting from to)

abbrev pub namings_of : ℕ → FlowSending → ℕ
namings_of n s = if nat_lt n s.base then 0 else (number_at s.numbers (n - s.base)).namings

-- a number is acknowledged: all below VT(A) are
abbrev pub acked_kept : ℕ → FlowSending → Bool
acked_kept n s = nat_lt n s.base || (number_at s.numbers (n - s.base)).acked

-- ---- a STATUS

-- all octets that an entry names wait already
abbrev pub waits_all : SentNumber → StatusEntry → Bool
waits_all h m = is_none (gap_in h.waiting (start_of m.part) (stop_of m.part h.size))

abbrev pub names_new : List StatusEntry → ℕ → SentNumber → Bool
names_new entries n h =
    list_any (λ (m : StatusEntry). (m.number == n) && not (waits_all h m)) entries

abbrev pub woken_between : ℕ → ℕ → List Run → List Run
woken_between from to waiting = if nat_lt from to then added waiting from to else waiting

abbrev pub woken_by : ℕ → ℕ → List Run → StatusEntry → List Run
woken_by n size waiting m =
    if m.number == n then woken_between (start_of m.part) (stop_of m.part size) waiting else waiting

abbrev pub woken : ℕ → ℕ → List Run → List StatusEntry → List Run
woken n size waiting [] = waiting
woken n size waiting (m ∷ ms) = woken n size (woken_by n size waiting m) ms

-- a naming counts that is the first, or names an octet that doesn't wait
abbrev pub counted : SentNumber → Bool → ℕ
counted h new = if (h.namings == 0) || new then h.namings + 1 else h.namings

abbrev pub named_number : List StatusEntry → ℕ → SentNumber → SentNumber
named_number entries n h = record h {
  waiting = woken n h.size h.waiting entries;
  namings = counted h (names_new entries n h);
}

-- by whether a number is acknowledged, named, and lies below the ACK
abbrev pub heard_as : Bool → Bool → Bool → List StatusEntry → ℕ → SentNumber → SentNumber
heard_as true named below entries n h = h
heard_as false true below entries n h = named_number entries n h
heard_as false false true entries n h = record h { acked = true; waiting = [] }
heard_as false false false entries n h = h

abbrev pub heard_number : ℕ → List StatusEntry → ℕ → SentNumber → SentNumber
heard_number ack entries n h =
    heard_as h.acked (names_number entries n) (nat_lt n ack) entries n h

abbrev pub heard_all : ℕ → List StatusEntry → ℕ → List SentNumber → List SentNumber
heard_all ack entries n [] = []
heard_all ack entries n (h ∷ hs) =
    heard_number ack entries n h ∷ heard_all ack entries (n + 1) hs

abbrev pub acked_first : List SentNumber → ℕ
acked_first [] = 0
acked_first (h ∷ hs) = if h.acked then acked_first hs + 1 else 0

-- and how many octets these have
abbrev pub acked_octets : List SentNumber → ℕ
acked_octets [] = 0
acked_octets (h ∷ hs) = if h.acked then h.size + acked_octets hs else 0

-- ---- the limit

-- the first number that was named too often
abbrev pub first_over : ℕ → ℕ → List SentNumber → Option ℕ
first_over most n [] = None
first_over most n (h ∷ hs) = if nat_lt most h.namings then Some n else first_over most (n + 1) hs

abbrev pub or_over : Option ℕ → ℕ → ℕ → List SentNumber → Option ℕ
or_over (Some n) most base numbers = Some n
or_over None most base numbers = first_over most base numbers

abbrev pub limited : FlowSending → FlowSending
limited s = record s { limit = or_over s.limit s.most s.base s.numbers }

-- VT(A) moves to the first number that isn't acknowledged
abbrev pub advanced_with : List SentNumber → FlowSending → FlowSending
advanced_with numbers s = limited (record s {
  base = s.base + acked_first numbers;
  start = s.start + acked_octets numbers;
  numbers = drop (acked_first numbers) numbers;
})

abbrev pub applied_in : Bool → ℕ → List StatusEntry → FlowSending → FlowSending
applied_in true ack entries s = s
applied_in false ack entries s = advanced_with (heard_all ack entries s.base s.numbers) s

-- it is ignored where its ACK lies below VT(A)
abbrev pub with_status : ℕ → List StatusEntry → FlowSending → FlowSending
with_status ack entries s = applied_in (nat_lt ack s.base) ack entries s

-- ---- the poll timer expires

abbrev pub is_resting : SentNumber → Bool
is_resting h = length h.waiting == 0

abbrev pub some_wait : List SentNumber → Bool
some_wait numbers = list_any (λ (h : SentNumber). not (is_resting h)) numbers

-- nothing waits, and nothing is left to send or take or the window is shut
abbrev pub is_quiet : Bool → FlowSending → Bool
is_quiet left s =
    not (some_wait s.numbers) && (not left || (length s.numbers == AM_WINDOW_SIZE))

-- the place of the greatest number that isn't acknowledged
abbrev pub last_open : ℕ → Option ℕ → List SentNumber → Option ℕ
last_open at found [] = found
last_open at found (h ∷ hs) = last_open (at + 1) (if h.acked then found else Some at) hs

abbrev pub recalled : SentNumber → SentNumber
recalled h = record h { waiting = woken_between 0 h.size h.waiting; namings = h.namings + 1 }

abbrev pub recalled_at : Option ℕ → FlowSending → FlowSending
recalled_at None s = s
recalled_at (Some at) s = limited (record s {
  numbers = slice_set s.numbers at (recalled (number_at s.numbers at));
})

abbrev pub polled_in : Bool → FlowSending → FlowSending
polled_in true s = recalled_at (last_open 0 None s.numbers) s
polled_in false s = s

abbrev pub with_poll_expired : Bool → FlowSending → FlowSending
with_poll_expired left s = polled_in (is_quiet left s) s
