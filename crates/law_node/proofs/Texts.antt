-- No SDU that PDCP keeps is empty, and its receiver's SDUs end with one that is held.
use Rattle.std.proofs.Common.{◌≡◌, ◌<◌, ℕ, zero, suc, ◌-◌, nat_lt, Bool, true, false, if◌then◌else◌, Option, Some, None}
use Rattle.std.proofs.Common.{List, [], ◌∷◌, ◌++◌, map, take, drop, length, set, slice_get, refl}
use Rattle.std.specs.Prelude.{IfSome}
use Rattle.bearer_pdcp.specs.Discarding.{without_late}
use Rattle.eps_sec.specs.declared.Keys.{Keys}
use Rattle.pdcp_tx_store.specs.declared.given.Entry.{Entry}
use Rattle.pdcp_tx_store.specs.declared.given.Entry.TheVariants.{Data, Own, Gone}
use Rattle.pdcp_tx_store.specs.declared.given.Sent.{Sent}
use Rattle.pdcp_tx_store.specs.Given.{Given, is_open, trimmed, with_entry, acked, acked_at, entry_at, tells, heard}
use Rattle.pdcp_tx_store.specs.Given.{untold, from_unacked, data_of}
use Rattle.pdcp_tx_store.specs.Waiting.{Waits}
use Rattle.pdcp_pdu.specs.declared.pdu.PdcpKind.{PdcpKind}
use Rattle.pdcp_pdu.specs.declared.pdu.PdcpKind.TheVariants as pdcp
use Rattle.pdcp_pdu.specs.Kinds.{is_am}
use Rattle.pdcp_tx.specs.State.{State, took_new, took_again, took_owed, took, confirmed, fms_count, reported_from}
use Rattle.pdcp_tx.specs.State.{reported, ticked, is_overdue, after_late, submitted, waiting_on, restarted, start}
use Rattle.pdcp_sec.specs.Protection.{Protection}
use Rattle.promises.specs.Names.{IsPdcp}

-- ---- what waits, what is to be taken again, and what was given

abbrev pub WaitsHave : List Waits → Type 0
WaitsHave [] = Unit {0}
WaitsHave (w ∷ ws) = (0 < length w.sdu) × WaitsHave ws

abbrev pub SentHave : List Sent → Type 0
SentHave [] = Unit {0}
SentHave (s ∷ ss) = (0 < length s.octets) × SentHave ss

abbrev HasText : Entry → Type 0
HasText (Data s) = 0 < length s.octets
HasText Own = Unit {0}
HasText Gone = Unit {0}

abbrev GivenHave : List Entry → Type 0
GivenHave [] = Unit {0}
GivenHave (e ∷ es) = HasText e × GivenHave es

pub take_waits : (n : ℕ) (ws : List Waits) → WaitsHave ws → WaitsHave (take n ws)
take_waits zero ws h = tt
take_waits (suc n) [] h = tt
take_waits (suc n) (w ∷ ws) h = (h.0, take_waits n ws h.1)

first_off : (ws : List Waits) → WaitsHave ws → WaitsHave (drop 1 ws)
first_off [] h = tt
first_off (w ∷ ws) h = h.1

end_waits : (ws : List Waits) (w : Waits) → WaitsHave ws → 0 < length w.sdu → WaitsHave (ws ++ w ∷ [])
end_waits [] w h some = (some, tt)
end_waits (x ∷ xs) w h some = (h.0, end_waits xs w h.1 some)

end_given : (es : List Entry) (e : Entry) → GivenHave es → HasText e → GivenHave (es ++ e ∷ [])
end_given [] e h i = (i, tt)
end_given (x ∷ xs) e h i = (h.0, end_given xs e h.1 i)

trim_given : (es : List Entry) → GivenHave es → GivenHave (trimmed es)
trim_given [] h = tt
trim_given (e ∷ es) h = by (is_open e) (trim_given es h.1)
  where
    by : (t : Bool) → GivenHave (trimmed es) → GivenHave (if t then e ∷ es else trimmed es)
    by true k = h
    by false k = k

ack_entry : (e : Entry) → HasText e → HasText (acked e)
ack_entry (Data s) h = h
ack_entry Own h = tt
ack_entry Gone h = tt

set_given : (es : List Entry) (k : ℕ) (e : Entry) → GivenHave es → HasText e → GivenHave (set es k e)
set_given [] k e h i = tt
set_given (x ∷ xs) zero e h i = (i, h.1)
set_given (x ∷ xs) (suc k) e h i = (h.0, set_given xs k e h.1 i)

at_given : (es : List Entry) (k : ℕ) → GivenHave es → IfSome (slice_get es k) HasText
at_given [] k h = tt
at_given (x ∷ xs) zero h = h.0
at_given (x ∷ xs) (suc k) h = at_given xs k h.1

entry_given : (g : Given) (place : ℕ) → GivenHave g.entries → IfSome (entry_at g place) HasText
entry_given g place h = by (nat_lt place g.gone)
  where
    by : (t : Bool) → IfSome (if t then None else slice_get g.entries (place - g.gone)) HasText
    by true = tt
    by false = at_given g.entries (place - g.gone) h

ack_given : (o : Option Entry) (es : List Entry) (k : ℕ) → IfSome o HasText → GivenHave es → GivenHave (acked_at o es k)
ack_given None es k i h = h
ack_given (Some e) es k i h = set_given es k (acked e) h (ack_entry e i)

hear_entry : (from : ℕ) (bitmap : List ℕ) (e : Entry) → HasText e → HasText (heard from bitmap e)
hear_entry from bitmap (Data s) h = by (tells from bitmap s.count)
  where
    by : (t : Bool) → HasText (if t then Gone else Data s)
    by true = tt
    by false = h
hear_entry from bitmap Own h = tt
hear_entry from bitmap Gone h = tt

hear_given : (from : ℕ) (bitmap : List ℕ) (es : List Entry) → GivenHave es → GivenHave (map (heard from bitmap) es)
hear_given from bitmap [] h = tt
hear_given from bitmap (e ∷ es) h = (hear_entry from bitmap e h.0, hear_given from bitmap es h.1)

untold_sent : (from : ℕ) (bitmap : List ℕ) (ss : List Sent) → SentHave ss → SentHave (untold from bitmap ss)
untold_sent from bitmap [] h = tt
untold_sent from bitmap (s ∷ ss) h = by (tells from bitmap s.count) (untold_sent from bitmap ss h.1)
  where
    by : (t : Bool) → SentHave (untold from bitmap ss)
        → SentHave (if t then untold from bitmap ss else s ∷ untold from bitmap ss)
    by true k = k
    by false k = (h.0, k)

unacked_sent : (ss : List Sent) → SentHave ss → SentHave (from_unacked ss)
unacked_sent [] h = tt
unacked_sent (s ∷ ss) h = by s.acked (unacked_sent ss h.1)
  where
    by : (t : Bool) → SentHave (from_unacked ss) → SentHave (if t then from_unacked ss else s ∷ ss)
    by true k = k
    by false k = h

data_sent : (es : List Entry) (ss : List Sent) → GivenHave es → SentHave ss → SentHave (data_of es ++ ss)
data_sent [] ss h k = k
data_sent (Data s ∷ es) ss h k = (h.0, data_sent es ss h.1 k)
data_sent (Own ∷ es) ss h k = data_sent es ss h.1 k
data_sent (Gone ∷ es) ss h k = data_sent es ss h.1 k

-- ---- a sender of a kind

pub record Sends (kind : PdcpKind) (s : State) : Type 0 where
  pub kind_is : s.kind ≡ kind
  pub owed : IfSome s.owed (IsPdcp kind)
  pub waiting : WaitsHave s.waiting
  pub again : SentHave s.again
  pub given : GivenHave s.given.entries

given_by : (t : Bool) (g : Given) (count : ℕ) (sdu : List ℕ) → GivenHave g.entries → 0 < length sdu
    → GivenHave (if t then with_entry g (Data (record { count = count; octets = sdu; acked = false })) else g).entries
given_by true g count sdu h some = end_given g.entries _ h some
given_by false g count sdu h some = h

new_sends : (kind : PdcpKind) (ws : List Waits) (s : State) → WaitsHave ws → Sends kind s → Sends kind (took_new ws s)
new_sends kind [] s h i = i
new_sends kind (w ∷ ws) s h i = record {
  kind_is = i.kind_is;
  owed = i.owed;
  waiting = first_off s.waiting i.waiting;
  again = i.again;
  given = given_by (is_am s.kind) s.given s.next w.sdu i.given h.0;
}

again_sends : (kind : PdcpKind) (ss : List Sent) (s : State) → SentHave ss → Sends kind s → Sends kind (took_again ss s)
again_sends kind [] s h i =
    new_sends kind (take (s.bound - s.next) s.waiting) s (take_waits (s.bound - s.next) s.waiting i.waiting) i
again_sends kind (x ∷ xs) s h i = record {
  kind_is = i.kind_is;
  owed = i.owed;
  waiting = i.waiting;
  again = h.1;
  given = trim_given (s.given.entries ++ Data x ∷ []) (end_given s.given.entries (Data x) i.given h.0);
}

owed_sends : (kind : PdcpKind) (o : Option (List ℕ)) (s : State) → Sends kind s → Sends kind (took_owed o s)
owed_sends kind None s i = again_sends kind s.again s i.again i
owed_sends kind (Some r) s i =
    record {
      kind_is = i.kind_is;
      owed = tt;
      waiting = i.waiting;
      again = i.again;
      given = end_given s.given.entries Own i.given tt;
    }

pub took_sends : (kind : PdcpKind) (s : State) → Sends kind s → Sends kind (took s)
unfolding took
took_sends kind s i = owed_sends kind s.owed s i

pub confirmed_sends : (kind : PdcpKind) (s : State) (place : ℕ) → Sends kind s → Sends kind (confirmed s place)
unfolding confirmed
confirmed_sends kind s place i = record {
  kind_is = i.kind_is;
  owed = i.owed;
  waiting = i.waiting;
  again = i.again;
  given = trim_given (acked_at (entry_at s.given place) s.given.entries (place - s.given.gone))
      (ack_given (entry_at s.given place) s.given.entries (place - s.given.gone) (entry_given s.given place i.given)
      i.given);
}

from_sends : (kind : PdcpKind) (from : Option ℕ) (s : State) (bitmap : List ℕ) → Sends kind s
    → Sends kind (reported_from from s bitmap)
from_sends kind None s bitmap i = i
from_sends kind (Some from) s bitmap i = record {
  kind_is = i.kind_is;
  owed = i.owed;
  waiting = i.waiting;
  again = untold_sent from bitmap s.again i.again;
  given = trim_given (map (heard from bitmap) s.given.entries) (hear_given from bitmap s.given.entries i.given);
}

pub reported_sends : (kind : PdcpKind) (s : State) (fms : ℕ) (bitmap : List ℕ) → Sends kind s
    → Sends kind (reported s fms bitmap)
unfolding reported
reported_sends kind s fms bitmap i = from_sends kind (fms_count s.kind s.base fms) s bitmap i

late_one : (kind : PdcpKind) (s : State) → Sends kind s → Sends kind (after_late s)
unfolding after_late
late_one kind s i = record {
  kind_is = i.kind_is;
  owed = i.owed;
  waiting = by (is_overdue s);
  again = i.again;
  given = i.given;
}
  where
    by : (t : Bool) → WaitsHave (if t then drop 1 s.waiting else s.waiting)
    by true = first_off s.waiting i.waiting
    by false = i.waiting

late_all : (kind : PdcpKind) (ws : List Waits) (s : State) → Sends kind s → Sends kind (without_late ws s)
late_all kind [] s i = i
late_all kind (w ∷ ws) s i = by (is_overdue s) (late_all kind ws (after_late s) (late_one kind s i))
  where
    by : (t : Bool) → Sends kind (without_late ws (after_late s))
        → Sends kind (if t then without_late ws (after_late s) else s)
    by true k = k
    by false k = i

pub ticked_sends : (kind : PdcpKind) (s : State) → Sends kind s → Sends kind (without_late s.waiting (ticked s))
ticked_sends kind s i =
    late_all kind s.waiting (ticked s)
    (record { kind_is = i.kind_is; owed = i.owed; waiting = i.waiting; again = i.again; given = i.given })

pub submitted_sends : (kind : PdcpKind) (s : State) (sdu : List ℕ) → 0 < length sdu → Sends kind s
    → Sends kind (submitted s sdu)
unfolding submitted
submitted_sends kind s sdu some i =
    record {
      kind_is = i.kind_is;
      owed = i.owed;
      waiting = end_waits s.waiting _ i.waiting some;
      again = i.again;
      given = i.given;
    }

waits_on : (kind : PdcpKind) (ws : List Waits) → WaitsHave ws → WaitsHave (waiting_on kind ws)
waits_on pdcp.Srb ws h = tt
waits_on (pdcp.Um bits) ws h = h
waits_on (pdcp.Am bits) ws h = h

pub restarted_sends : (kind : PdcpKind) (s : State) (keys : Keys) → Sends kind s → Sends kind (restarted s keys)
unfolding restarted
restarted_sends kind s keys i = record {
  kind_is = i.kind_is;
  owed = tt;
  waiting = waits_on s.kind s.waiting i.waiting;
  again = unacked_sent (data_of s.given.entries ++ s.again) (data_sent s.given.entries s.again i.given i.again);
  given = tt;
}

pub start_sends : (kind : PdcpKind) (p : Protection) (first : ℕ) → Sends kind (start kind p first)
unfolding start
start_sends kind p first = record { kind_is = refl; owed = tt; waiting = tt; again = tt; given = tt }
